-- `stitch_sag::beyond_of` meets its contract. Assumes nothing.
use Rattle.stitch_sag.proofs.SagLaws.{beyond_product, beyond_infinity}
use Rattle.stitch_sag.proofs.beyond_of.Goals as goal

pub returns-then-sqrt_f64-sag : goal.returns-then-sqrt_f64-sag
returns-then-sqrt_f64-sag c = search beyond_product

pub returns : goal.returns
returns c = search beyond_infinity
