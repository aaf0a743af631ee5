-- `join_table::bucket` meets its contract. Assumes nothing.
use Rattle.join_table.proofs.Naming.{share_fits, bucket_is}
use native.Mathlib.Omega.{arith}
use Rattle.join_table.proofs.bucket.Goals as goal

pub overflow_mul-result : goal.overflow_mul-result
overflow_mul-result c = share_fits c.requires (omega arith)

pub returns : goal.returns
returns c = search bucket_is
