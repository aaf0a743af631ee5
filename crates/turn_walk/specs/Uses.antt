-- The uses of edges as numbers, the pairs that they record, and where the pairs of a row lead, in recorded order. Assumes nothing.
use Rattle.std.specs.Prelude.{◌≡◌, List, [], ◌∷◌, Bool, not, ℕ, zero, suc, ◌+◌, length, get_or, eqb}
use Rattle.std.proofs.Math.Path.{refl}
use Rattle.std.proofs.Common.{sym, ap, ◌∙◌, arith}
use Rattle.std.proofs.Math.Option.{Option, none, some}
use Rattle.std.proofs.Math.Bool.{true, false, cond}
use Rattle.std.proofs.Math.Decide.{ℕ_discrete}
use borrow.Author.Tests.{eq-eqb, ne_eqb, eqb-true}
use Rattle.lists.specs.Lists.{filter_map, item_at}
use Rattle.turn_walk.specs.Walk.{Pair, Neighbour, neighbours}

-- Use i lies on row[i]; first[i] is the first use of its edge; run[i] is 0 or 1 for its direction, and 2 where its ends are equal.
pub record Uses : Type 0 where
  pub count : ℕ
  pub first : List ℕ
  pub row : List ℕ
  pub run : List ℕ

-- the run of a use whose ends are equal
abbrev pub ends_equal : ℕ
ends_equal = 2

-- the row of use i
abbrev pub own : Uses → ℕ → ℕ
own u i = get_or u.row i 0

-- the row of the first use of its edge
abbrev pub far : Uses → ℕ → ℕ
far u i = get_or u.row (get_or u.first i 0) 0

-- use i records a pair: its ends differ, and its row is another than the first use's
unfoldable pub records : Uses → ℕ → Bool
records u i = cond (eqb (get_or u.run i 0) ends_equal) false (not (eqb (own u i) (far u i)))

-- use i and the first use of its edge run oppositely
unfoldable pub agrees : Uses → ℕ → Bool
agrees u i = not (eqb (get_or u.run (get_or u.first i 0) 0) (get_or u.run i 0))

-- the pair that use i records, if it does
unfoldable pub pair_at : Uses → ℕ → Option Pair
pair_at u i = cond (records u i) (some (record { first = far u i; later = own u i; agreeing = agrees u i })) none

-- a pair, if there is one, ahead of others
abbrev pub ahead : Option Pair → List Pair → List Pair
ahead none ps = ps
ahead (some p) ps = p ∷ ps

-- the pairs of the d uses from i on, in order
unfoldable pub pairs_from : Uses → ℕ → ℕ → List Pair
pairs_from u i zero = []
pairs_from u i (suc d) = ahead (pair_at u i) (pairs_from u (i + 1) d)

-- the pairs of all uses, in recorded order
abbrev pub pairs_by : Uses → List Pair
pairs_by u = pairs_from u 0 u.count

-- the pair of use i touches row x
unfoldable pub touches : Uses → ℕ → ℕ → Bool
touches u x i = cond (records u i) (cond (eqb (own u i) x) true (eqb (far u i) x)) false

-- where the pair of use i leads from row x
unfoldable pub across : Uses → ℕ → ℕ → Neighbour
across u x i = record { row = cond (eqb (own u i) x) (far u i) (own u i); agreeing = agrees u i }

-- where the pairs of row x among the d uses from i on lead, in order
unfoldable pub across_from : Uses → ℕ → ℕ → ℕ → List Neighbour
across_from u x i zero = []
across_from u x i (suc d) = cond (touches u x i) (across u x i ∷ across_from u x (i + 1) d) (across_from u x (i + 1) d)

-- ---- tests of a use

module _ (u : Uses) (i : ℕ) where
  -- equal ends record no pair
  pub records_skip : get_or u.run i 0 ≡ ends_equal → records u i ≡ false
  unfolding records
  records_skip e = rw (eq-eqb (get_or u.run i 0) ends_equal e)

  -- nor does a use on the first use's row
  pub records_same : own u i ≡ far u i → records u i ≡ false
  unfolding records
  records_same e = rw (eq-eqb (own u i) (far u i) e) (go (eqb (get_or u.run i 0) ends_equal))
    where
      go : (b : Bool) → cond b false (not true) ≡ false
      go true = refl
      go false = refl

  -- any other use does
  pub records_yes : (get_or u.run i 0 ≡ ends_equal → ⊥) → (own u i ≡ far u i → ⊥) → records u i ≡ true
  unfolding records
  records_yes e f = rw (ne_eqb (get_or u.run i 0) ends_equal e, ne_eqb (own u i) (far u i) f)

  -- the two rows of a pair differ
  pub records_apart : records u i ≡ true → own u i ≡ far u i → ⊥
  records_apart e q = let z : ◌≡◌ {A = ℕ} 0 1 = ap (λ (b : Bool). cond b 0 1) (sym e ∙ records_same q) in omega arith

  -- what records no pair touches no row
  pub touch_none : (x : ℕ) → records u i ≡ false → touches u x i ≡ false
  unfolding touches
  touch_none x e = rw e

  -- a pair touches the use's own row
  pub touch_own : (x : ℕ) → records u i ≡ true → own u i ≡ x → touches u x i ≡ true
  unfolding touches
  touch_own x e f = rw (e, eq-eqb (own u i) x f)

  -- and the first use's row
  pub touch_far : (x : ℕ) → records u i ≡ true → far u i ≡ x → touches u x i ≡ true
  unfolding touches
  touch_far x e f = rw (e, eq-eqb (far u i) x f) (go (eqb (own u i) x))
    where
      go : (b : Bool) → cond b true true ≡ true
      go true = refl
      go false = refl

  -- and no other
  pub touch_other : (x : ℕ) → (own u i ≡ x → ⊥) → (far u i ≡ x → ⊥) → touches u x i ≡ false
  unfolding touches
  touch_other x e f = rw (ne_eqb (own u i) x e, ne_eqb (far u i) x f) (go (records u i))
    where
      go : (b : Bool) → cond b false false ≡ false
      go true = refl
      go false = refl

  -- a use that touches a row records a pair
  pub touch_records : (x : ℕ) → touches u x i ≡ true → records u i ≡ true
  unfolding touches
  touch_records x = go (records u i) (cond (eqb (own u i) x) true (eqb (far u i) x))
    where
      go : (b c : Bool) → cond b c false ≡ true → b ≡ true
      go true c e = refl
      go false c e = e

  -- a pair that touches a row which is not the use's own touches it as the first use's
  pub touch_not_own : (x : ℕ) → touches u x i ≡ true → (own u i ≡ x → ⊥) → far u i ≡ x
  unfolding touches
  touch_not_own x e h = eqb-true (far u i) x (go (records u i) (eqb (far u i) x) (rw (ne_eqb (own u i) x h) at e))
    where
      go : (b c : Bool) → cond b c false ≡ true → c ≡ true
      go true c e = e
      go false true e = refl
      go false false e = e

  -- from its own row a pair leads to the first use's
  pub across_own : (x : ℕ) → own u i ≡ x → (across u x i).row ≡ far u i
  unfolding across
  across_own x e = rw (eq-eqb (own u i) x e)

  -- and from there to its own
  pub across_far : (x : ℕ) → (own u i ≡ x → ⊥) → (across u x i).row ≡ own u i
  unfolding across
  across_far x e = rw (ne_eqb (own u i) x e)

  -- either way it agrees or not
  pub across_agreeing : (x : ℕ) → (across u x i).agreeing ≡ agrees u i
  unfolding across
  across_agreeing x = refl

  -- two that run alike disagree
  pub agrees_not : get_or u.run (get_or u.first i 0) 0 ≡ get_or u.run i 0 → agrees u i ≡ false
  unfolding agrees
  agrees_not e = rw (eq-eqb (get_or u.run (get_or u.first i 0) 0) (get_or u.run i 0) e)

  -- two that run oppositely agree
  pub agrees_yes : (get_or u.run (get_or u.first i 0) 0 ≡ get_or u.run i 0 → ⊥) → agrees u i ≡ true
  unfolding agrees
  agrees_yes e = rw (ne_eqb (get_or u.run (get_or u.first i 0) 0) (get_or u.run i 0) e)

-- ---- the neighbours of a row

-- no pairs lead nowhere
pub neighbours_none : (x : ℕ) → neighbours x [] ≡ []
unfolding neighbours
neighbours_none x = refl

-- a pair that starts the list, by the tests of the definition
module _ (x : ℕ) (p : Pair) (ps : List Pair) where
  pub neighbours_first : p.first ≡ x → neighbours x (p ∷ ps) ≡ record { row = p.later; agreeing = p.agreeing } ∷ neighbours x ps
  unfolding neighbours
  neighbours_first e = rw (eq-eqb p.first x e)

  pub neighbours_later : (p.first ≡ x → ⊥) → p.later ≡ x → neighbours x (p ∷ ps) ≡ record { row = p.first; agreeing = p.agreeing } ∷ neighbours x ps
  unfolding neighbours
  neighbours_later f e = rw (ne_eqb p.first x f, eq-eqb p.later x e)

  pub neighbours_other : (p.first ≡ x → ⊥) → (p.later ≡ x → ⊥) → neighbours x (p ∷ ps) ≡ neighbours x ps
  unfolding neighbours
  neighbours_other f e = rw (ne_eqb p.first x f, ne_eqb p.later x e)

-- nothing gives nothing
map_none : {A : Type 0} (f : A → Option Pair) → [] ≡ filter_map f []
unfolding filter_map
map_none f = refl

-- what f gives for the first item stands ahead of the rest
map_ahead : {A : Type 0} (f : A → Option Pair) (x : A) (xs : List A) → filter_map f (x ∷ xs) ≡ ahead (f x) (filter_map f xs)
unfolding filter_map
map_ahead f x xs = go (f x) refl
  where
    go : (q : Option Pair) → f x ≡ q → filter_map f (x ∷ xs) ≡ ahead q (filter_map f xs)
    go none e = rw (e, filter_map)
    go (some y) e = rw (e, filter_map)

-- The pairs of uses from i on are those that f gives for a list, if f gives for each item what its use records.
pub pairs_match : {A : Type 0} (u : Uses) (f : A → Option Pair) (xs : List A) (i : ℕ)
    → ((k : ℕ) (x : A) → item_at xs k ≡ some x → pair_at u (i + k) ≡ f x) → pairs_from u i (length xs) ≡ filter_map f xs
unfolding pairs_from item_at
pairs_match u f [] i h = map_none f
pairs_match u f (x ∷ xs) i h =
    ap (λ (o : Option Pair). ahead o (pairs_from u (i + 1) (length xs))) (ap (pair_at u) here ∙ h 0 x refl)
    ∙ ap (ahead (f x)) (pairs_match u f xs (i + 1) (λ k y e. ap (pair_at u) (there k) ∙ h (suc k) y e))
    ∙ sym (map_ahead f x xs)
  where
    here : i ≡ i + 0
    here = omega arith

    there : (k : ℕ) → i + 1 + k ≡ i + suc k
    there k = omega arith
