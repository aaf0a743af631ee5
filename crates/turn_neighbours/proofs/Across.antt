-- The tests of the code: the colour wanted across a pair, and the row there. Assumes nothing.
use mathlib.Core.Path.{◌≡◌, sym, ap, ◌∙◌}
use mathlib.Core.List.{List}
use mathlib.Core.Bool.{cond}
use Prim.Native.Nat.{ℕ, ◌+◌, ◌*◌, ◌<◌}
use native.Mathlib.Omega.{arith}
use lib.ListN.{length, get_or}
use Rattle.turn_walk.specs.Walk.{opposite}
use Rattle.turn_walk.specs.Uses.{far, agrees, across, agrees_not, agrees_yes, across_own, across_far}
use Rattle.turn_walk.specs.Area.{uses_of}
use Rattle.turn_walk.specs.Chains.{UseAt}
use Rattle.turn_walk.specs.Group.{WantAt}
use Rattle.turn_walk.specs.Links.{first_at, own_at, run_at, first_there}

-- ---- the wanted colour

module _ {n m i c : ℕ} {W : List ℕ} (a : WantAt n m i c W) where
  first_in : get_or W i 0 < n
  first_in = first_there a.use_at.given.sound a.use_at.inside

  -- the word of the first use's run stands in the area
  pub run_index : 2 * n + get_or W i 0 < length W
  run_index = omega (arith, first_in, a.use_at.given.room)

  runs : get_or (uses_of n W).run (get_or (uses_of n W).first i 0) 0 ≡ get_or W (2 * n + get_or W i 0) 0
  runs = ap (λ (k : ℕ). get_or (uses_of n W).run k 0) (first_at n W i a.use_at.inside) ∙ run_at n W (get_or W i 0) first_in

  -- two that run alike want opposite colours
  pub want_not : {r : ℕ} → get_or W (2 * n + get_or W i 0) 0 ≡ get_or W (2 * n + i) 0 → r ≡ opposite c → r ≡ cond (agrees (uses_of n W) i) c (opposite c)
  want_not e o = rw (agrees_not (uses_of n W) i (runs ∙ e ∙ sym (run_at n W i a.use_at.inside))) o

  -- two that run oppositely want the same
  pub want_yes : (get_or W (2 * n + get_or W i 0) 0 ≡ get_or W (2 * n + i) 0 → ⊥) → c ≡ cond (agrees (uses_of n W) i) c (opposite c)
  want_yes e = rw (agrees_yes (uses_of n W) i (λ z. e (sym runs ∙ z ∙ run_at n W i a.use_at.inside)))

-- ---- the other row

module _ {n m i x : ℕ} {W : List ℕ} (a : UseAt n m i W) where
  -- from the use's own row
  pub other_far : {r : ℕ} → get_or W (n + i) 0 ≡ x → r ≡ far (uses_of n W) i → r ≡ (across (uses_of n W) x i).row
  other_far e f = f ∙ sym (across_own (uses_of n W) i x (own_at n W i a.inside ∙ e))

  -- from the first use's row
  pub other_own : (get_or W (n + i) 0 ≡ x → ⊥) → get_or W (n + i) 0 ≡ (across (uses_of n W) x i).row
  other_own e =
      sym (own_at n W i a.inside) ∙ sym (across_far (uses_of n W) i x (λ z. e (sym (own_at n W i a.inside) ∙ z)))
