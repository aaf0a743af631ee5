-- `first_accepted` meets its contract. The words rise, so the failed rows' stand before the others. Assumes nothing.
use Prim.Native.Nat.{ℕ}
use Rattle.std.proofs.Common.{ltb, rules}
use Rattle.std.proofs.lemmas.List.Sorted.{IsPartitionPoint-from_clause, IsPartitionedBy-ltb, IsNonDecreasingBy-from_default}
use Rattle.mesh_material_order.proofs.OrderLaws.{words_rise, first_is}
use Rattle.mesh_material_order.proofs.order.first_accepted.Goals as goal

pub returns : goal.returns
returns c =
    let parted = IsPartitionedBy-ltb (λ (x : ℕ). x) _ 4096 (IsNonDecreasingBy-from_default (λ (x : ℕ). x) _ 0 (words_rise c.requires)) in
    first_is c.requires c.partition_point.ensures.bound (IsPartitionPoint-from_clause (λ (x : ℕ). ltb x 4096) _ _ c.partition_point.ensures.partitioned parted (λ a r q k. search rules))
