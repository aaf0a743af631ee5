-- `feed` takes in the stretch byte by byte. Assumes nothing.
use lib.ListN.{length, take}
use Rattle.bench_feed.specs.Feeding.{FedOn}
use mathlib.Core.Path.{◌≡◌}
use Rattle.bench_feed.proofs.feed.Given as goal

abbrev pub invariant-loop-c : goal.invariant-loop-c
invariant-loop-c l = (length l.line ≡ length l.initial.line) × (length l.table ≡ length l.initial.table) × (length l.positions ≡ length l.initial.positions) × (length l.normals ≡ length l.initial.normals) × (length l.indices ≡ length l.initial.indices) × (length l.materials ≡ length l.initial.materials) × FedOn (take l.c-index l.part) l.initial.g l.initial.line l.initial.table l.initial.positions l.initial.normals l.initial.indices l.initial.materials l.g l.line l.table l.positions l.normals l.indices l.materials
