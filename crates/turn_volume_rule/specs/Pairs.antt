-- Where pairs lead: only to rows with triangles. Assumes nothing.
use mathlib.Core.List.{List, [], ◌∷◌, ◌++◌}
use Rattle.std.proofs.Math.Option.{Option, none, some}
use Rattle.std.specs.Prelude.{ℕ, zero, suc, ◌<◌, ◌||◌, cond, get_or, length, drop}
use Rattle.std.proofs.Common.{not-suc-le-zero, le_of_suc-le-suc, arith}
use Rattle.std.proofs.Math.Bool.{Bool, true, false}
use Rattle.std.proofs.Math.Dec.{eqb}
use Rattle.lists.specs.Lists.{filter_map}
use Rattle.body_rows.specs.Body.{Row, Patch, Triangle, triangles_of}
use Rattle.edge_uses.specs.Edges.{Use, triangle_uses, uses_from, skipped, same_edge, first_user}
use Rattle.turn_definition.specs.Pairs.{pair_of, pairs_of}
use Rattle.turn_walk.specs.Walk.{Pair, Neighbour, neighbours}
use Rattle.turn_volume_rule.specs.Sign as Sign
use Rattle.turn_volume_rule.specs.Sign.{All}

pub all_append : {A : Type 0} {P : A → Type 0} {xs ys : List A} → All P xs → All P ys → All P (xs ++ ys)
all_append Sign.none h = h
all_append (Sign.more p g) h = Sign.more p (all_append g h)

pub all_at : {A : Type 0} {P : A → Type 0} (xs : List A) (d : A) → All P xs → (k : ℕ) → k < length xs → P (get_or xs k d)
all_at [] d g k l = absurd (not-suc-le-zero l)
all_at (x ∷ xs) d (Sign.more p g) zero l = p
all_at (x ∷ xs) d (Sign.more p g) (suc k) l = all_at xs d g k (le_of_suc-le-suc l)

-- and what holds of each item holds of all
pub all_of : {A : Type 0} {P : A → Type 0} (xs : List A) (d : A) → ((k : ℕ) → k < length xs → P (get_or xs k d)) → All P xs
all_of [] d f = Sign.none
all_of (x ∷ xs) d f = Sign.more (f 0 (omega arith)) (all_of xs d (λ k l. f (suc k) (omega arith)))

pub all_map : {A : Type 0} {P Q : A → Type 0} {xs : List A} → ((x : A) → P x → Q x) → All P xs → All Q xs
all_map f Sign.none = Sign.none
all_map f (Sign.more {n = n} p g) = Sign.more (f n p) (all_map f g)

-- the rows from n on, each with an index and so with P
pub data Each (P : ℕ → Type 0) : ℕ → List Patch → Type 0 where
  last : {n : ℕ} → Each P n []
  then : {n : ℕ} {p : Patch} {ps : List Patch} → (0 < length p.indices → P n) → Each P (suc n) ps → Each P n (p ∷ ps)

some_index : (is : List ℕ) → 0 < length (triangles_of is) → 0 < length is
unfolding triangles_of
some_index [] h = h
some_index (a ∷ is) h = omega arith

-- both ends of a pair
pub record Ends (P : ℕ → Type 0) (p : Pair) : Type 0 where
  pub first : P p.first
  pub later : P p.later

abbrev Maybe : (ℕ → Type 0) → Option Pair → Type 0
Maybe P none = Unit {0}
Maybe P (some p) = Ends P p

module _ (P : ℕ → Type 0) where
  triangle_uses_lem : (shell row : ℕ) (names : List ℕ) (ts : List Triangle) → (0 < length ts → P row) → All (λ (u : Use). P u.row) (triangle_uses shell row names ts)
  unfolding triangle_uses
  triangle_uses_lem shell row names [] h = Sign.none
  triangle_uses_lem shell row names (t ∷ ts) h = let p = h (omega arith) in Sign.more p (Sign.more p (Sign.more p (triangle_uses_lem shell row names ts (λ l. p))))

  pub uses_each : (shell : Row → ℕ) (n : ℕ) (names : List ℕ) (ps : List Patch) → Each P n ps → All (λ (u : Use). P u.row) (uses_from shell n names ps)
  unfolding uses_from
  uses_each shell n names [] g = Sign.none
  uses_each shell n names (p ∷ ps) (then h g) =
      all_append (triangle_uses_lem (shell p.row) n names (triangles_of p.indices) (λ l. h (some_index p.indices l))) (uses_each shell (suc n) (drop p.row.vertices names) ps g)

  first_user_lem : (us : List Use) (u : Use) → All (λ (u : Use). P u.row) us → P u.row → P (first_user us u).row
  unfolding first_user
  first_user_lem [] u g h = h
  first_user_lem (v ∷ vs) u (Sign.more p g) h = go (first_user_lem vs u g h) (same_edge v u)
    where
      pick : Bool → Use
      pick b = elim b [ true ↦ v | false ↦ first_user vs u ]

      go : P (first_user vs u).row → (b : Bool) → P (pick b).row
      go r true = p
      go r false = r

  pair_ends : (all : List Use) (u : Use) → All (λ (u : Use). P u.row) all → P u.row → Maybe P (pair_of all u)
  unfolding pair_of
  pair_ends all u g h = go (skipped u || eqb (first_user all u).row u.row)
    where
      go : (b : Bool) → Maybe P (cond b none (some (record { first = (first_user all u).row; later = u.row; agreeing = eqb (first_user all u).start u.end })))
      go true = tt
      go false = record { first = first_user_lem all u g h; later = h }

  pairs_from : (all us : List Use) → All (λ (u : Use). P u.row) all → All (λ (u : Use). P u.row) us → All (Ends P) (filter_map (pair_of all) us)
  unfolding filter_map
  pairs_from all [] g h = Sign.none
  pairs_from all (u ∷ us) g (Sign.more p h) = go (pairs_from all us g h) (pair_of all u) (pair_ends all u g p)
    where
      pick : Option Pair → List Pair
      pick o = elim o [ none ↦ filter_map (pair_of all) us | some y ↦ y ∷ filter_map (pair_of all) us ]

      go : All (Ends P) (filter_map (pair_of all) us) → (o : Option Pair) → Maybe P o → All (Ends P) (pick o)
      go r none e = r
      go r (some y) e = Sign.more e r

  pub pairs_ends : (all : List Use) → All (λ (u : Use). P u.row) all → All (Ends P) (pairs_of all)
  unfolding pairs_of
  pairs_ends all g = pairs_from all all g g

  pub neighbours_rows : (n : ℕ) (pairs : List Pair) → All (Ends P) pairs → All (λ (m : Neighbour). P m.row) (neighbours n pairs)
  unfolding neighbours
  neighbours_rows n [] g = Sign.none
  neighbours_rows n (p ∷ ps) (Sign.more e g) = go (neighbours_rows n ps g) (eqb p.first n) (eqb p.later n)
    where
      go : All (λ (m : Neighbour). P m.row) (neighbours n ps) → (a b : Bool)
          → All (λ (m : Neighbour). P m.row) (cond a (record { row = p.later; agreeing = p.agreeing } ∷ neighbours n ps)
          (cond b (record { row = p.first; agreeing = p.agreeing } ∷ neighbours n ps) (neighbours n ps)))
      go r true b = Sign.more e.later r
      go r false true = Sign.more e.first r
      go r false false = r
