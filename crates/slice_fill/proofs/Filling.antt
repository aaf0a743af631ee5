-- A stretch that is filled is a run of stores. Assumes nothing.
use Rattle.std.specs.Prelude.{◌≡◌, List, ℕ, zero, suc, ◌-◌, ◌≤◌, ◌<◌, length, replicate, min, refl}
use Rattle.std.proofs.Common.{ap, ◌∙◌, arith}
use Rattle.std.proofs.lemmas.List.{length-replicate}
use Rattle.std.proofs.lemmas.List.Edits.{sets}
use Rattle.lists.specs.Sets.{part_sets}
use borrow.Rule.Slice.PartMut.{put_mid}

module _ {A : Type 0} (W : List A) (x : A) where
  -- a run of no stores is one at any place
  run_at : (from a n : ℕ) → (0 < n → a ≡ from) → sets W a (replicate n x) ≡ sets W from (replicate n x)
  run_at from a zero h = refl
  run_at from a (suc n) h = ap (λ (m : ℕ). sets W m (replicate (suc n) x)) (h (omega arith))

  -- the stretch from `from` up to `to`, or none where `to` lies before
  pub stretch_filled : (ys : List A) (from to a : ℕ) → to ≤ length W → a ≡ min from to → ys ≡ replicate (to - a) x
      → put_mid a (to - a) W ys ≡ sets W from (replicate (to - from) x)
  stretch_filled ys from to a h e f =
      let n : to - a ≡ to - from = omega arith in
      part_sets W a (to - a) ys (ap length f ∙ length-replicate (to - a) x) (omega arith)
      ∙ ap (sets W a) f
      ∙ run_at from a (to - a) (λ p. omega arith)
      ∙ ap (λ (m : ℕ). sets W from (replicate m x)) n
