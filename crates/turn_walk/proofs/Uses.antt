-- The neighbours of a row among the pairs are where its pairs lead. Assumes nothing.
use Rattle.std.specs.Prelude.{◌≡◌, ◌∷◌, Bool, ℕ, zero, suc, ◌+◌}
use Rattle.std.proofs.Math.Path.{refl}
use Rattle.std.proofs.Common.{sym, ◌∙◌}
use Rattle.std.proofs.Math.Option.{none, some}
use Rattle.std.proofs.Math.Bool.{true, false, cond}
use Rattle.std.proofs.Math.Decide.{ℕ_discrete}
use Rattle.turn_walk.specs.Walk.{Pair, neighbours}
use Rattle.turn_walk.specs.Uses.{own, far, records, agrees, pair_at, ahead, pairs_from, touches, across, across_from, neighbours_none, Uses, records_apart, touch_none, touch_own, touch_far, touch_other, across_own, across_far, neighbours_first, neighbours_later, neighbours_other}

-- The neighbours of row x among the pairs are where the row's pairs lead, in the same order.
pub neighbours_across : (u : Uses) (x i d : ℕ) → neighbours x (pairs_from u i d) ≡ across_from u x i d
unfolding pairs_from across_from pair_at across
neighbours_across u x i zero = neighbours_none x
neighbours_across u x i (suc d) = go (records u i) refl (ℕ_discrete (far u i) x) (ℕ_discrete (own u i) x) (neighbours_across u x (i + 1) d)
  where
    here : Pair
    here = record { first = far u i; later = own u i; agreeing = agrees u i }

    go : (b : Bool) → records u i ≡ b → Dec (far u i ≡ x) → Dec (own u i ≡ x) → neighbours x (pairs_from u (i + 1) d) ≡ across_from u x (i + 1) d
        → neighbours x (ahead (cond b (some here) none) (pairs_from u (i + 1) d))
        ≡ cond (touches u x i) (across u x i ∷ across_from u x (i + 1) d) (across_from u x (i + 1) d)
    go false e f o ih = rw (touch_none u i x e) ih
    go true e (yes f) o ih =
        rw (touch_far u i x e f)
        (neighbours_first x here (pairs_from u (i + 1) d) f ∙ (λ k. record { row = sym (across_far u i x (λ z. records_apart u i e (z ∙ sym f))) k; agreeing = agrees u i } ∷ ih k))
    go true e (no f) (yes o) ih =
        rw (touch_own u i x e o)
        (neighbours_later x here (pairs_from u (i + 1) d) f o ∙ (λ k. record { row = sym (across_own u i x o) k; agreeing = agrees u i } ∷ ih k))
    go true e (no f) (no o) ih = rw (touch_other u i x o f) (neighbours_other x here (pairs_from u (i + 1) d) f o ∙ ih)
