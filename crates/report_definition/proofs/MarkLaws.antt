-- What the uses of a body mark, use by use, and by the first use of the same name. Assumes nothing.
use Rattle.std.specs.Prelude.{◌≡◌, refl, ◌⊎◌, Bool, not, ◌&&◌, List, [], ◌∷◌, ◌++◌, map, ℕ, zero, suc, ◌+◌, ◌*◌, ◌≤◌, ◌<◌, take, drop, Float}
use Rattle.std.proofs.Math.Path.{sym, ap}
use Rattle.std.proofs.Common.{◌∙◌, subst, inl, inr, append_assoc, append-nil, le_of_suc-le-suc, not-suc-le-zero, add-one, length-append, take-suc, length-take-le}
use Rattle.std.proofs.Math.Bool.{true, false, cond}
use native.Mathlib.Omega.{arith}
use Rattle.std.proofs.Math.ListN.{length, get_or}
use Rattle.std.proofs.Math.Seq.{get_or-take}
use Rattle.std.proofs.Math.Dec.{eqb}
use borrow.Author.Tests.{eq-eqb, ne_eqb}
use Rattle.lists.specs.Lists.{any}
use Rattle.lists.specs.Each.{Each, each_both}
use Rattle.lists.specs.Members.{Has, has_item}
use Rattle.point_rules.specs.Rule.{Rule, names}
use Rattle.join_definition.specs.Join.{joined, first_index}
use Rattle.join_definition.specs.Representatives.{rep_first, rep_name}
use Rattle.body_rows.specs.Body.{Row, Patch, Triangle, triangles_of}
use Rattle.edge_uses.specs.Edges.{Use, triangle_uses, uses_from, skipped, same_edge, first_user}
use Rattle.edge_uses.proofs.UseLaws.{get_d_map, length_named}
use Rattle.edge_uses.specs.UseLaws.{no_use, Tells}
use Rattle.report_definition.specs.Audit.{audit_uses, runs_alike, marked_by, marks_from, faces_in, marks_of}

-- ---- use by use

-- what uses behind uses mark
pub marks_append : (faces : List ℕ) (before xs ys : List Use) → marks_from faces before (xs ++ ys) ≡ marks_from faces before xs ++ marks_from faces (before ++ xs) ys
unfolding marks_from
marks_append faces before [] ys = ap (λ (b : List Use). marks_from faces b ys) (sym (append-nil before))
marks_append faces before (x ∷ xs) ys =
    let m = marked_by faces before x in
    let rest = marks_from faces (before ++ x ∷ []) xs in
    ap (λ (ns : List ℕ). m ++ ns) (marks_append faces (before ++ x ∷ []) xs ys)
    ∙ sym (append_assoc m rest (marks_from faces ((before ++ x ∷ []) ++ xs) ys))
    ∙ ap (λ (b : List Use). (m ++ rest) ++ marks_from faces b ys) (append_assoc before (x ∷ []) xs)

-- what one use more marks
pub marks_more : (faces : List ℕ) (us : List Use) (i : ℕ) → i < length us
    → marks_from faces [] (take (i + 1) us) ≡ marks_from faces [] (take i us) ++ marked_by faces (take i us) (get_or us i no_use)
unfolding marks_from
marks_more faces us i h =
    ap (λ (n : ℕ). marks_from faces [] (take n us)) (add-one i)
    ∙ ap (marks_from faces []) (take-suc us i no_use h)
    ∙ marks_append faces [] (take i us) (get_or us i no_use ∷ [])
    ∙ ap (λ (ns : List ℕ). marks_from faces [] (take i us) ++ ns) (append-nil (marked_by faces (take i us) (get_or us i no_use)))

-- at most two marks a use
pub marks_low : (faces : List ℕ) (before us : List Use) → length (marks_from faces before us) ≤ 2 * length us
unfolding marks_from marked_by
marks_low faces before [] = omega arith
marks_low faces before (u ∷ us) =
    let rest = marks_from faces (before ++ u ∷ []) us in
    omega (arith, length-append (marked_by faces before u) rest, two (runs_alike before u), marks_low faces (before ++ u ∷ []) us)
  where
    two : (b : Bool) → length (cond b (get_or faces u.row 0 ∷ get_or faces (first_user before u).row 0 ∷ []) []) ≤ 2
    two true = omega arith
    two false = omega arith

-- ---- the rows of the uses

-- the first use of an edge is one of the uses before, or the use itself
first_each : (Q : Use → Type 0) (xs : List Use) (u : Use) → Each Q xs → Q u → Q (first_user xs u)
unfolding first_user
first_each Q [] u e q = q
first_each Q (x ∷ xs) u e q = go (same_edge x u) (first_each Q xs u e.1 q)
  where
    go : (b : Bool) → Q (first_user xs u) → Q (elim b [ true ↦ x | false ↦ first_user xs u ])
    go true r = e.0
    go false r = r

-- one of two lists has it
has_either : (n : ℕ) (xs ys : List ℕ) → Has n (xs ++ ys) → Has n xs ⊎ Has n ys
has_either n [] ys h = inr h
has_either n (x ∷ xs) ys (inl e) = inl (inl e)
has_either n (x ∷ xs) ys (inr h) = go (has_either n xs ys h)
  where
    go : Has n xs ⊎ Has n ys → Has n (x ∷ xs) ⊎ Has n ys
    go (inl k) = inl (inr k)
    go (inr k) = inr k

-- uses of rows that have face numbers mark these only
pub marks_faces : (faces : List ℕ) (before us : List Use) → Each (λ u. u.row < length faces) before → Each (λ u. u.row < length faces) us
    → (n : ℕ) → Has n (marks_from faces before us) → Has n faces
unfolding marks_from marked_by
marks_faces faces before [] b e n h = absurd h
marks_faces faces before (u ∷ us) b e n h =
    go (has_either n (marked_by faces before u) (marks_from faces (before ++ u ∷ []) us) h)
    (λ k. marks_faces faces (before ++ u ∷ []) us (each_both (λ v. v.row < length faces) before (u ∷ []) b (e.0, tt)) e.1 n k)
  where
    of : (k : ℕ) → k < length faces → n ≡ get_or faces k 0 → Has n faces
    of k l p = subst (λ (m : ℕ). Has m faces) (sym p) (has_item faces k l)

    here : (t : Bool) → Has n (cond t (get_or faces u.row 0 ∷ get_or faces (first_user before u).row 0 ∷ []) []) → Has n faces
    here true (inl p) = of u.row e.0 p
    here true (inr (inl p)) = of (first_user before u).row (first_each (λ v. v.row < length faces) before u b e.0) p
    here true (inr (inr k)) = absurd k
    here false k = absurd k

    go : Has n (marked_by faces before u) ⊎ Has n (marks_from faces (before ++ u ∷ []) us) → (Has n (marks_from faces (before ++ u ∷ []) us) → Has n faces) → Has n faces
    go (inl k) r = here (runs_alike before u) k
    go (inr k) r = r k

-- what holds of a row's number holds of its uses'
triangle_rows : (Q : ℕ → Type 0) (shell row : ℕ) (P : List ℕ) (ts : List Triangle) → Q row → Each (λ u. Q u.row) (triangle_uses shell row P ts)
unfolding triangle_uses
triangle_rows Q shell row P [] q = tt
triangle_rows Q shell row P (t ∷ ts) q = (q, (q, (q, triangle_rows Q shell row P ts q)))

uses_rows : (f : Row → ℕ) (n row : ℕ) (P : List ℕ) (patches : List Patch) → row + length patches ≤ n → Each (λ u. u.row < n) (uses_from f row P patches)
unfolding uses_from
uses_rows f n row P [] h = tt
uses_rows f n row P (p ∷ ps) h =
    each_both (λ u. u.row < n) (triangle_uses (f p.row) row P (triangles_of p.indices)) (uses_from f (suc row) (drop p.row.vertices P) ps)
    (triangle_rows (λ r. r < n) (f p.row) row P (triangles_of p.indices) (omega arith))
    (uses_rows f n (suc row) (drop p.row.vertices P) ps (omega arith))

-- A body's uses mark face numbers of its rows only.
pub body_marks : (rule : Rule) (ps : List Float) (patches : List Patch) (n : ℕ) → Has n (marks_of rule ps patches) → Has n (faces_in patches)
unfolding marks_of audit_uses
body_marks rule ps patches n h =
    marks_faces (faces_in patches) [] (audit_uses (joined (names rule ps)) patches) tt
    (uses_rows (λ r. 0) (length (faces_in patches)) 0 (joined (names rule ps)) patches (omega (arith, faces_long patches))) n h
  where
    faces_long : (qs : List Patch) → length (faces_in qs) ≡ length qs
    faces_long [] = refl
    faces_long (q ∷ qs) = ap suc (faces_long qs)

-- ---- by names

-- no item passes
any_miss : {A : Type 0} (f : A → Bool) (xs : List A) (d : A) → ((k : ℕ) → k < length xs → f (get_or xs k d) ≡ false) → any f xs ≡ false
unfolding any
any_miss f [] d h = refl
any_miss f (x ∷ xs) d h = ap (λ (b : Bool). elim b [ true ↦ true | false ↦ any f xs ]) (h 0 (omega arith)) ∙ any_miss f xs d (λ k l. h (suc k) (omega arith))

-- item k passes
any_hit : {A : Type 0} (f : A → Bool) (xs : List A) (d : A) (k : ℕ) → k < length xs → f (get_or xs k d) ≡ true → any f xs ≡ true
unfolding any
any_hit f [] d k l h = absurd (not-suc-le-zero l)
any_hit f (x ∷ xs) d zero l h = ap (λ (b : Bool). elim b [ true ↦ true | false ↦ any f xs ]) h
any_hit f (x ∷ xs) d (suc k) l h = go (f x) (any_hit f xs d k (le_of_suc-le-suc l) h)
  where
    go : (b : Bool) → any f xs ≡ true → elim b [ true ↦ true | false ↦ any f xs ] ≡ true
    go true e = refl
    go false e = e

-- the first use of an edge is at place j, if it is one and none before it is
first_in : (xs : List Use) (u : Use) (j : ℕ) → j < length xs → same_edge (get_or xs j no_use) u ≡ true → ((k : ℕ) → k < j → same_edge (get_or xs k no_use) u ≡ false) → first_user xs u ≡ get_or xs j no_use
unfolding first_user
first_in [] u j l h n = absurd (not-suc-le-zero l)
first_in (x ∷ xs) u zero l h n = ap (λ (b : Bool). elim b [ true ↦ x | false ↦ first_user xs u ]) h
first_in (x ∷ xs) u (suc j) l h n =
    ap (λ (b : Bool). elim b [ true ↦ x | false ↦ first_user xs u ]) (n 0 (omega arith))
    ∙ first_in xs u j (le_of_suc-le-suc l) h (λ k m. n (suc k) (omega arith))

both_false : (b : Bool) → b && false ≡ false
both_false true = refl
both_false false = refl

-- names that tell the edges of the uses apart, and use i
module _ (faces : List ℕ) (name : Use → ℕ) (us : List Use) (t : Tells name us) (i : ℕ) (h : i < length us) where
  -- the first use of its edge, by names
  abbrev pub first_of : ℕ
  first_of = first_index (map name us) i

  in_names : i < length (map name us)
  in_names = omega (arith, length_named name us)

  front_long : length (take i us) ≡ i
  front_long = length-take-le i us (omega arith)

  -- a use before the first one has another name
  earlier : (k : ℕ) → k < first_of → k < length us → name (get_or us k no_use) ≡ name (get_or us i no_use) → ⊥
  earlier k l m e =
      (rep_first (map name us) i in_names).first k l
      (get_d_map name us k m ∙ e ∙ sym (get_d_map name us i h) ∙ sym (rep_name (map name us) i in_names))

  -- The first use of an edge marks nothing.
  pub marked_first : first_of ≡ i → marked_by faces (take i us) (get_or us i no_use) ≡ []
  unfolding marked_by runs_alike
  marked_first e =
      let u = get_or us i no_use in
      let none : any (same_edge u) (take i us) ≡ false =
      any_miss (same_edge u) (take i us) no_use
      (λ k l. let m : k < i = omega (arith, front_long) in
      ap (same_edge u) (get_or-take i us k no_use m)
      ∙ t k i (omega arith) h
      ∙ ne_eqb (name (get_or us k no_use)) (name u) (earlier k (omega arith) (omega arith))) in
      ap
      (λ (b : Bool). cond (not (skipped u) && (b && eqb (first_user (take i us) u).start u.start)) (get_or faces u.row 0 ∷ get_or faces (first_user (take i us) u).row 0 ∷ []) [])
      none
      ∙ ap (λ (b : Bool). cond b (get_or faces u.row 0 ∷ get_or faces (first_user (take i us) u).row 0 ∷ []) []) (both_false (not (skipped u)))

  -- A later use marks its face and the first one's, if they run alike.
  pub marked_later : first_of < i → marked_by faces (take i us) (get_or us i no_use)
      ≡ cond (not (skipped (get_or us i no_use)) && eqb (get_or us first_of no_use).start (get_or us i no_use).start) (get_or faces (get_or us i no_use).row 0 ∷ get_or faces (get_or us first_of no_use).row 0 ∷ []) []
  unfolding marked_by runs_alike
  marked_later l =
      let u = get_or us i no_use in
      let j = first_of in
      let jn : j < length us = omega arith in
      let name_same : name (get_or us j no_use) ≡ name u = sym (get_d_map name us j jn) ∙ rep_name (map name us) i in_names ∙ get_d_map name us i h in
      let jf : j < length (take i us) = omega (arith, front_long) in
      let hit : any (same_edge u) (take i us) ≡ true =
      any_hit (same_edge u) (take i us) no_use j jf (ap (same_edge u) (get_or-take i us j no_use l) ∙ t j i jn h ∙ eq-eqb (name (get_or us j no_use)) (name u) name_same) in
      let first : first_user (take i us) u ≡ get_or us j no_use =
      first_in (take i us) u j jf
      (ap (λ (v : Use). same_edge v u) (get_or-take i us j no_use l) ∙ t i j h jn ∙ eq-eqb (name u) (name (get_or us j no_use)) (sym name_same))
      (λ k m. ap (λ (v : Use). same_edge v u) (get_or-take i us k no_use (omega arith)) ∙ t i k h (omega arith) ∙ ne_eqb (name u) (name (get_or us k no_use)) (λ e. earlier k m (omega arith) (sym e)))
      ∙ get_or-take i us j no_use l in
      (λ z. cond (not (skipped u) && (hit z && eqb (first z).start u.start)) (get_or faces u.row 0 ∷ get_or faces (first z).row 0 ∷ []) [])
