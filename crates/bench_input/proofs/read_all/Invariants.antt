-- `read_all` has fed what it read. Assumes nothing.
use Rattle.std.proofs.Common.{◌≡◌, length}
use Rattle.bench_feed.specs.Feeding.{FedSome}
use Rattle.bench_input.proofs.read_all.Given as goal

abbrev pub invariant-loop-turn : goal.invariant-loop-turn
invariant-loop-turn g l =
    (length l.line ≡ length l.initial.line) × (length l.table ≡ length l.initial.table) × (length l.positions ≡ length l.initial.positions)
    × (length l.normals ≡ length l.initial.normals) × (length l.indices ≡ length l.initial.indices) × (length l.materials ≡ length l.initial.materials)
    × FedSome l.initial.g l.initial.line l.initial.table l.initial.positions l.initial.normals l.initial.indices l.initial.materials l.g l.line l.table l.positions
    l.normals l.indices l.materials
