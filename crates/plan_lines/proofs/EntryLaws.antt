-- The laws of a bin's entry in a lent list. Assumes nothing.
use mathlib.Core.List.{List, [], ◌∷◌}
use mathlib.Core.Path.{◌≡◌, refl, ◌∙◌, ap}
use Prim.Native.Nat.{ℕ, ◌+◌, ◌*◌, ◌≤◌, ◌<◌}
use native.Mathlib.Omega.{arith}
use lib.IntN.{ℤ, pos, ◌-ℤ◌}
use lib.ListN.{length, set, length-set}
use lib.Seq.{sets}
use Rattle.lists.specs.Sets.{four_stored}
use Rattle.slice_append.specs.Appended.{appended_sets}
use Rattle.plan_definition.specs.Reading.{list_of}
use Rattle.plan_lines.specs.declared.places.SumWords.{SumWords}
use Rattle.plan_lines.specs.Sums.{EntryPut, NearZero, entry_for, sum_zero}

pub sum_small : (k n : ℕ) → NearZero k n → k ≤ 17 → n ≤ 4611686018427387904
sum_small k n v h = omega (arith, v.high)

pub entry_none : (E : List ℤ) (count n : ℕ) (sum : SumWords) → length E < 4 * count + 4 → EntryPut E count (entry_for n sum) E
entry_none E count n sum h = record { long = refl; put = λ l. absurd (omega arith) }

pub entry_put : (E : List ℤ) (count n : ℕ) (sum : SumWords) (b x y z : ℤ) → 4 * count + 4 ≤ length E → b ≡ pos n -ℤ pos 0 → x ≡ pos sum.x -ℤ pos sum_zero → y ≡ pos sum.y -ℤ pos sum_zero
    → z ≡ pos sum.z -ℤ pos sum_zero → EntryPut E count (entry_for n sum) (set (set (set (set E (4 * count) b) (4 * count + 1) x) (4 * count + 2) y) (4 * count + 3) z)
unfolding list_of
entry_put E count n sum b x y z h eb ex ey ez =
    let run = four_stored E (4 * count) b x y z in
    let nb : pos n -ℤ pos 0 ≡ pos n = ap pos (let e : n + 0 ≡ n = omega arith in e) in
    record {
      long = simp length-set;
      put = λ l. appended_sets l (run ∙ (λ i. sets E (4 * count) ((eb ∙ nb) i ∷ ex i ∷ ey i ∷ ez i ∷ [])));
    }
