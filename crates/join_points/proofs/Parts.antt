-- Laws of joining in a part of the words. Assumes nothing.
use mathlib.Core.Path.{◌≡◌, sym, ap, ◌∙◌}
use mathlib.Core.List.{List}
use Prim.Native.Nat.{ℕ, ◌+◌, ◌-◌, ◌*◌, ◌≤◌}
use native.Mathlib.Nat.{add-zero}
use native.Mathlib.Omega.{arith}
use lib.ListN.{length, take, drop}
use lib.Seq.{take-take}
use borrow.Rule.Slice.PartMut.{mid_of, put_mid}
use Rattle.lists.specs.Stretches.{part_stretch, part_front, part_rest}
use Rattle.join_definition.specs.Join.{joined, Joined, RoomAt, JoinedAt}

-- a part that was joined came back
pub joined_part : {at n : ℕ} {W ys : List ℕ} → RoomAt at n W → Joined (take n (mid_of at (at + 4 * n - at) W)) n (mid_of at (at + 4 * n - at) W) ys
    → length ys ≡ length (mid_of at (at + 4 * n - at) W) → JoinedAt at n W (put_mid at (at + 4 * n - at) W ys)
joined_part {at} {n} {W} {ys} r j l =
    record {
      names = ap (λ (k : ℕ). take n (drop k (put_mid at (at + 4 * n - at) W ys))) (sym (add-zero at)) ∙ stretch 0 (omega arith) ∙ j.words ∙ mid;
      reps = stretch n (omega arith) ∙ j.reps ∙ ap joined mid;
      front = part_front at (at + 4 * n) W ys (omega arith) r.room l;
      rest = part_rest at (at + 4 * n) W ys (omega arith) r.room l;
    }
  where
    mid : take n (mid_of at (at + 4 * n - at) W) ≡ take n (drop at W)
    mid = take-take n (at + 4 * n - at) (drop at W) (omega arith)

    stretch : (k : ℕ) → k + n ≤ at + 4 * n - at → take n (drop (at + k) (put_mid at (at + 4 * n - at) W ys)) ≡ take n (drop k ys)
    stretch k h = part_stretch at (at + 4 * n) W ys (omega arith) r.room l k n h
