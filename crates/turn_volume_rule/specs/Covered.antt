-- Every row with indices is in some group. Assumes nothing.
use Rattle.std.specs.Prelude.{◌≡◌, ◌⊎◌, ◌||◌, cond, eqb, ltb, get_or, length, replicate}
use Rattle.std.proofs.Math.Path.{refl, subst}
use Rattle.std.proofs.Common.{sym, inl, inr, not-suc-le-zero, le_of_suc-le-suc, arith, get_or-set_other, eqb-true}
use Rattle.std.proofs.Math.Bool.{Bool, true, false, not}
use mathlib.Core.List.{List, [], ◌∷◌, ◌++◌}
use Prim.Native.Nat.{ℕ, zero, suc, ◌+◌, ◌<◌}
use Rattle.std.proofs.Math.ListN.{set}
use Rattle.std.proofs.lemmas.Bool.{eqb-false}
use Rattle.body_rows.specs.Body.{Patch}
use Rattle.patch_geometry.specs.Geometry.{zero64}
use Rattle.turn_definition.specs.Groups.{Walks, Group, add_group, walks_from}
use Rattle.turn_definition.specs.Inversion.{patch_at, volume_from, inverts}
use Rattle.turn_definition.specs.Orient.{walks_of}
use Rattle.turn_walk.specs.Walk.{Pair, Neighbour, Walk, unvisited, plain, opposite, neighbours, meet, visit, walk, inverted}
use Rattle.turn_volume_rule.specs.Sign as Sign
use Rattle.turn_volume_rule.specs.Sign.{All}
use Rattle.turn_volume_rule.specs.Walks.{inverted_other}
use Rattle.turn_volume_rule.specs.VolumeRule as Stated
use Rattle.turn_volume_rule.specs.VolumeRule.{In, InSome, EveryRow}

-- ---- being in a list

in_append : {n : ℕ} {xs : List ℕ} (ys : List ℕ) → In n xs → In n (xs ++ ys)
in_append ys Stated.here = Stated.here
in_append ys (Stated.there h) = Stated.there (in_append ys h)

in_last : (n : ℕ) (xs : List ℕ) → In n (xs ++ n ∷ [])
in_last n [] = Stated.here
in_last n (x ∷ xs) = Stated.there (in_last n xs)

some_append : {n : ℕ} {gs : List Group} (hs : List Group) → InSome n gs → InSome n (gs ++ hs)
some_append hs (Stated.this h) = Stated.this h
some_append hs (Stated.that h) = Stated.that (some_append hs h)

some_last : {n : ℕ} (gs : List Group) (g : Group) → In n g.rows → InSome n (gs ++ g ∷ [])
some_last [] g h = Stated.this h
some_last (x ∷ xs) g h = Stated.that (some_last xs g h)

-- it is, or no item is n
found : (n : ℕ) (xs : List ℕ) → In n xs ⊎ All (λ k. k ≡ n → ⊥) xs
found n [] = inr Sign.none
found n (x ∷ xs) = go (eqb x n) refl (found n xs)
  where
    go : (b : Bool) → eqb x n ≡ b → In n xs ⊎ All (λ k. k ≡ n → ⊥) xs → In n (x ∷ xs) ⊎ All (λ k. k ≡ n → ⊥) (x ∷ xs)
    go true e h = inl (subst (λ (k : ℕ). In n (k ∷ xs)) (sym (eqb-true x n e)) Stated.here)
    go false e (inl h) = inl (Stated.there h)
    go false e (inr h) = inr (Sign.more (eqb-false x n e) h)

-- ---- a walk keeps its root, and gives colours to its rows only

record Grown (before : List ℕ) (root : ℕ) (w : Walk) : Type 0 where
  begins : In root w.rows
  known : (k : ℕ) → 0 < get_or w.colours k unvisited → (0 < get_or before k unvisited) ⊎ In k w.rows

set_known : (colours : List ℕ) (m c k : ℕ) → 0 < get_or (set colours m c) k unvisited → (k ≡ m) ⊎ (0 < get_or colours k unvisited)
set_known colours m c k h = go (eqb k m) refl
  where
    go : (b : Bool) → eqb k m ≡ b → (k ≡ m) ⊎ (0 < get_or colours k unvisited)
    go true e = inl (eqb-true k m e)
    go false e = inr (subst (λ (x : ℕ). 0 < x) (get_or-set_other colours m k c unvisited (eqb-false k m e)) h)

meet_grown : (before : List ℕ) (root m c : ℕ) (w : Walk) → Grown before root w → Grown before root (meet m c w)
unfolding meet
meet_grown before root m c w g = go (eqb (get_or w.colours m unvisited) unvisited) (eqb (get_or w.colours m unvisited) c)
  where
    rows : (k : ℕ) → (k ≡ m) ⊎ (0 < get_or w.colours k unvisited) → (0 < get_or before k unvisited) ⊎ In k (w.rows ++ m ∷ [])
    rows k (inl e) = inr (subst (λ (x : ℕ). In x (w.rows ++ m ∷ [])) (sym e) (in_last m w.rows))
    rows k (inr h) = more (g.known k h)
      where
        more : (0 < get_or before k unvisited) ⊎ In k w.rows → (0 < get_or before k unvisited) ⊎ In k (w.rows ++ m ∷ [])
        more (inl b) = inl b
        more (inr i) = inr (in_append (m ∷ []) i)

    go : (a b : Bool) → Grown before root (cond a (record { rows = w.rows ++ m ∷ []; colours = set w.colours m c; against = w.against })
        (cond b w (record { rows = w.rows; colours = w.colours; against = w.against + 1 })))
    go true b = record { begins = in_append (m ∷ []) g.begins; known = λ k h. rows k (set_known w.colours m c k h) }
    go false true = g
    go false false = record { begins = g.begins; known = g.known }

visit_grown : (before : List ℕ) (root c : ℕ) (ms : List Neighbour) (w : Walk) → Grown before root w → Grown before root (visit c ms w)
unfolding visit
visit_grown before root c [] w g = g
visit_grown before root c (m ∷ ms) w g = visit_grown before root c ms (meet m.row (cond m.agreeing c (opposite c)) w) (meet_grown before root m.row (cond m.agreeing c (opposite c)) w g)

walk_grown : (before : List ℕ) (root : ℕ) (pairs : List Pair) (fuel done : ℕ) (w : Walk) → Grown before root w → Grown before root (walk pairs fuel done w)
unfolding walk
walk_grown before root pairs zero done w g = g
walk_grown before root pairs (suc fuel) done w g =
    go (ltb done (length w.rows))
    (walk_grown before root pairs fuel (done + 1) (visit (get_or w.colours (get_or w.rows done 0) unvisited) (neighbours (get_or w.rows done 0) pairs) w)
    (visit_grown before root (get_or w.colours (get_or w.rows done 0) unvisited) (neighbours (get_or w.rows done 0) pairs) w g))
  where
    more : Walk
    more = let n = get_or w.rows done 0 in walk pairs fuel (done + 1) (visit (get_or w.colours n unvisited) (neighbours n pairs) w)

    pick : Bool → Walk
    pick b = elim b [ true ↦ more | false ↦ w ]

    go : (b : Bool) → Grown before root more → Grown before root (pick b)
    go true h = h
    go false h = g

start_grown : (colours : List ℕ) (n against : ℕ) → Grown colours n (record { rows = n ∷ []; colours = set colours n plain; against = against })
start_grown colours n against = record { begins = Stated.here; known = λ k h. go k (set_known colours n plain k h) }
  where
    go : (k : ℕ) → (k ≡ n) ⊎ (0 < get_or colours k unvisited) → (0 < get_or colours k unvisited) ⊎ In k (n ∷ [])
    go k (inl e) = inr (subst (λ (x : ℕ). In x (n ∷ [])) (sym e) Stated.here)
    go k (inr h) = inl h

-- ---- every row that has a colour is in some group

abbrev Coloured : Walks → Type 0
Coloured s = (k : ℕ) → 0 < get_or s.colours k unvisited → InSome k s.groups

add_coloured : (patches : List Patch) (groups : List Group) (before : List ℕ) (root : ℕ) (w : Walk)
    → ((k : ℕ) → 0 < get_or before k unvisited → InSome k groups) → Grown before root w → Coloured (add_group patches groups w)
unfolding add_group
add_coloured patches groups before root w c g k h = go (inverts patches w.colours w.rows (volume_from patches w.colours zero64 w.rows)) (found k w.rows) h
  where
    new : (0 < get_or before k unvisited) ⊎ In k w.rows → InSome k (add_group patches groups w).groups
    new (inl b) = some_append _ (c k b)
    new (inr i) = some_last groups _ i

    go : (b : Bool) → In k w.rows ⊎ All (λ j. j ≡ k → ⊥) w.rows → 0 < get_or (cond b (inverted w.rows w.colours) w.colours) k unvisited → InSome k (add_group patches groups w).groups
    go b (inl i) h = some_last groups _ i
    go true (inr a) h = new (g.known k (subst (λ (x : ℕ). 0 < x) (inverted_other w.rows w.colours k a) h))
    go false (inr a) h = new (g.known k h)

module _ (patches : List Patch) (pairs : List Pair) where
  -- the walk that row n begins
  begun : ℕ → Walks → Walk
  begun n s = walk pairs (length patches) 0 (record { rows = n ∷ []; colours = set s.colours n plain; against = s.against })

  begun_grown : (n : ℕ) (s : Walks) → Grown s.colours n (begun n s)
  unfolding begun
  begun_grown n s = walk_grown s.colours n pairs (length patches) 0 (record { rows = n ∷ []; colours = set s.colours n plain; against = s.against }) (start_grown s.colours n s.against)

  -- what holds whether or not row n begins a walk holds of the walks from row n on
  either_way : (Q : Walks → Type 0) (n : ℕ) (p : Patch) (rest : List Patch) (s : Walks) → Q (walks_from patches pairs (suc n) rest s)
      → Q (walks_from patches pairs (suc n) rest (add_group patches s.groups (begun n s)))
      → Q (walks_from patches pairs n (p ∷ rest) s)
  unfolding walks_from begun
  either_way Q n p rest s x y = go (eqb (length p.indices) 0 || not (eqb (get_or s.colours n unvisited) unvisited))
    where
      pick : Bool → Walks
      pick b = elim b [ true ↦ walks_from patches pairs (suc n) rest s | false ↦ walks_from patches pairs (suc n) rest (add_group patches s.groups (begun n s)) ]

      go : (b : Bool) → Q (pick b)
      go true = x
      go false = y

  -- groups stay
  groups_stay : (n : ℕ) (rest : List Patch) (s : Walks) (k : ℕ) → InSome k s.groups → InSome k (walks_from patches pairs n rest s).groups
  unfolding walks_from add_group
  groups_stay n [] s k h = h
  groups_stay n (p ∷ rest) s k h = either_way (λ w. InSome k w.groups) n p rest s (groups_stay (suc n) rest s k h)
      (groups_stay (suc n) rest (add_group patches s.groups (begun n s)) k (some_append _ h))

  all_rows : (n : ℕ) (rest : List Patch) (s : Walks) → Coloured s → (j : ℕ) → j < length rest → 0 < length (patch_at rest j).indices → InSome (n + j) (walks_from patches pairs n rest s).groups
  unfolding walks_from begun patch_at add_group
  all_rows n [] s c j l t = absurd (not-suc-le-zero l)
  all_rows n (p ∷ rest) s c zero l t =
      subst (λ (k : ℕ). InSome k (pick (eqb (length p.indices) 0 || not (eqb (get_or s.colours n unvisited) unvisited))).groups) (omega arith)
      (go (eqb (length p.indices) 0) refl (eqb (get_or s.colours n unvisited) unvisited) refl)
    where
      pick : Bool → Walks
      pick b = elim b [ true ↦ walks_from patches pairs (suc n) rest s | false ↦ walks_from patches pairs (suc n) rest (add_group patches s.groups (begun n s)) ]

      some : length p.indices ≡ 0 → ⊥
      some e = omega arith

      positive : (k : ℕ) → (k ≡ 0 → ⊥) → 0 < k
      positive zero h = absurd (h refl)
      positive (suc k) h = omega arith

      go : (a : Bool) → eqb (length p.indices) 0 ≡ a → (b : Bool) → eqb (get_or s.colours n unvisited) unvisited ≡ b → InSome n (pick (a || not b)).groups
      go true e b q = absurd (some (eqb-true (length p.indices) 0 e))
      go false e true q = groups_stay (suc n) rest (add_group patches s.groups (begun n s)) n (added (begun_grown n s).begins)
        where
          added : In n (begun n s).rows → InSome n (add_group patches s.groups (begun n s)).groups
          added i = some_last s.groups _ i
      go false e false q = groups_stay (suc n) rest s n (c n (positive (get_or s.colours n unvisited) (eqb-false (get_or s.colours n unvisited) unvisited q)))
  all_rows n (p ∷ rest) s c (suc j) l t =
      let e : suc n + j ≡ n + suc j = omega arith in
      either_way (λ w. InSome (n + suc j) w.groups) n p rest s
      (subst (λ (k : ℕ). InSome k (walks_from patches pairs (suc n) rest s).groups) e (all_rows (suc n) rest s c j (le_of_suc-le-suc l) t))
      (subst (λ (k : ℕ). InSome k (walks_from patches pairs (suc n) rest (add_group patches s.groups (begun n s))).groups) e
      (all_rows (suc n) rest (add_group patches s.groups (begun n s)) (add_coloured patches s.groups s.colours n (begun n s) c (begun_grown n s)) j (le_of_suc-le-suc l) t))

none_coloured : (m k : ℕ) → 0 < get_or (replicate m unvisited) k unvisited → ⊥
none_coloured zero k h = not-suc-le-zero h
none_coloured (suc m) zero h = not-suc-le-zero h
none_coloured (suc m) (suc k) h = none_coloured m k h

-- Every row with indices is in some group.
pub every_row : EveryRow
unfolding EveryRow walks_of
every_row patches points n l t =
    subst (λ (k : ℕ). InSome k (walks_of patches points).groups) (omega arith) (all_rows patches _ 0 patches _ (λ k h. absurd (none_coloured (length patches) k h)) n l t)
