-- `print_mesh` meets its contract. Assumes nothing.
use Rattle.std.proofs.Common.{◌∙◌, sym, ap, Err}
use Rattle.refusals.specs.Numbers.{numbered}
use Rattle.bench_assemble.proofs.AssembleLaws.{mesh_said, mesh_said_refused}
use Rattle.bench_assemble.proofs.print_mesh.Goals as goal

pub returns-in-Ok : goal.returns-in-Ok
returns-in-Ok c = mesh_said _ _ _ _ _ _ _ _ _ _ _ _ _ _ _ (ap numbered c.in-Ok.is) c.sizes_of.ensures c.tallies_of.ensures c.write_answer.ensures

pub returns-in-Err : goal.returns-in-Err
returns-in-Err c = mesh_said_refused _ _ _ _ _ _ _ _ _ _ _ _ _ (ap numbered c.in-Err.is ∙ ap Err (sym c.number.ensures)) c.write_refusal.ensures
