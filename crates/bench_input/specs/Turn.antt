-- What one read of the input comes to. Assumes nothing.
use Rattle.std.specs.declared.ops.ControlFlow.{ControlFlow}
use Rattle.std.specs.declared.ops.ControlFlow.TheVariants.{Break, Continue}
use Rattle.bench_feed.specs.declared.Fed.{Fed}

-- what has been fed, whether the input goes on or not
abbrev pub fed_by : ControlFlow Fed Fed → Fed
fed_by (Break f) = f
fed_by (Continue f) = f
