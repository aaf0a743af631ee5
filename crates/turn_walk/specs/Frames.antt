-- Frames: what a write to a stretch of a list leaves as it was. Assumes nothing.
use Rattle.std.specs.Prelude.{refl, List, ℕ, ◌+◌, ◌<◌, ◌≤◌, length, set}
use Rattle.std.proofs.Common.{◌∙◌, drop-set-lt}
use Rattle.std.proofs.lemmas.List.Edits.{sets}
use Rattle.std.proofs.lemmas.List.{take-set-le}
use Rattle.lists.specs.Sets.{take_sets, drop_sets}
use Rattle.lists.specs.Stretches.{front_less, rest_less}
use Rattle.turn_walk.specs.Area.{WrittenBetween}

-- nothing was written
pub within_none : (a b : ℕ) (W : List ℕ) → WrittenBetween a b W W
within_none a b W = record { front = refl; rest = refl }

-- one word was written
pub within_set : {a b i : ℕ} (v : ℕ) (W : List ℕ) → a ≤ i → i < b → WrittenBetween a b W (set W i v)
within_set {a} {b} {i} v W l h = record { front = take-set-le a W i v l; rest = drop-set-lt b W i v h }

-- a run of words was written
pub within_sets : {a b at : ℕ} (vs W : List ℕ) → a ≤ at → at + length vs ≤ b → WrittenBetween a b W (sets W at vs)
within_sets {a} {b} {at} vs W l h = record { front = front_less a at W (sets W at vs) (take_sets W at vs) l; rest = drop_sets W at vs b h }

-- one stage after another
pub within_more : {a b : ℕ} {W E F : List ℕ} → WrittenBetween a b W E → WrittenBetween a b E F → WrittenBetween a b W F
within_more p q = record { front = q.front ∙ p.front; rest = q.rest ∙ p.rest }

-- a narrower stretch is within a wider one
pub within_wide : {a b c d : ℕ} {W E : List ℕ} → c ≤ a → b ≤ d → WrittenBetween a b W E → WrittenBetween c d W E
within_wide {a} {b} {c} {d} {W} {E} k l p = record { front = front_less c a W E p.front k; rest = rest_less b d W E p.rest l }
