-- The ranges that the code writes are the definition's. Assumes nothing.
use Rattle.std.specs.Prelude.{◌≡◌, refl, Bool, true, false, cond, ℕ, zero, suc, ◌+◌, ◌≤◌, ◌<◌, length, get_or, take, drop, eqb}
use Rattle.std.proofs.Common.{sym, ap, ◌∙◌, add-zero, zero-add, arith, length-append, length-drop, length-take-le}
use mathlib.Core.List.{List, [], ◌∷◌, ◌++◌, map, flat_map, append-nil, append_assoc}
use Rattle.std.proofs.lemmas.List.{length-map}
use Rattle.std.proofs.Math.Dec.{eqb-suc-suc, eqb-zero-suc}
use Rattle.lists.specs.Lists.{sum_of}
use Rattle.mesh_layout.specs.Mesh.{Laid, run_of, start_of, range_of, ranges_from}
use Rattle.mesh_layout.specs.JudgedRows.{JudgedRow, base_after, kept_if, laid_by, indices_with, ranges_with}
use Rattle.mesh_layout.specs.LaidLaws.{judged_indices}

-- what one more patch adds to a run
run_more : (before : List Laid) (l : Laid) (m : ℕ) → length (run_of (before ++ l ∷ []) m) ≡ length (run_of before m) + length (cond (eqb l.material m) l.indices [])
unfolding run_of flat_map
run_more [] l m = length-append (cond (eqb l.material m) l.indices []) [] ∙ add-zero (length (cond (eqb l.material m) l.indices []))
    ∙ sym (zero-add (length (cond (eqb l.material m) l.indices [])))
run_more (b ∷ bs) l m =
    let e = run_more bs l m in
    let x = cond (eqb b.material m) b.indices [] in
    omega (arith, length-append x (run_of (bs ++ l ∷ []) m), length-append x (run_of bs m), e)

-- what one more row adds to its decision's indices
with_more : (bs : List JudgedRow) (j : JudgedRow) (w : ℕ) → indices_with w (bs ++ j ∷ []) ≡ indices_with w bs + cond (eqb j.decision w) j.row.indices 0
unfolding sum_of
with_more [] j w = add-zero (cond (eqb j.decision w) j.row.indices 0) ∙ sym (zero-add (cond (eqb j.decision w) j.row.indices 0))
with_more (b ∷ bs) j w = let e = with_more bs j w in omega arith

-- the rows before, as patches laid and as rows with decisions
pub record Same (before : List Laid) (bs : List JudgedRow) : Type 0 where
  pub size : (m : ℕ) → length (run_of before m) ≡ indices_with (suc m) bs

-- where each row's indices begin
pub record Begun (all : List Laid) (bs : List JudgedRow) (fs : List ℕ) (js : List JudgedRow) : Type 0 where
  pub first : (k m : ℕ) → k < length js → get_or (map (λ j. j.decision) js) k 0 ≡ suc m → get_or fs k 0 ≡ start_of all m + indices_with (suc m) (bs ++ take k js)
  pub long : length js ≤ length fs

-- a failed row in front
begun_next : (all : List Laid) (bs : List JudgedRow) (f : ℕ) (fs : List ℕ) (j : JudgedRow) (js : List JudgedRow) → Begun all bs (f ∷ fs) (j ∷ js) → Begun all (bs ++ j ∷ []) fs js
begun_next all bs f fs j js b =
    record {
      first = λ k m h e. b.first (suc k) m (omega arith) e ∙ ap (λ (xs : List JudgedRow). start_of all m + indices_with (suc m) xs) (sym (append_assoc bs (j ∷ []) (take k js)));
      long = let l = b.long in omega arith;
    }

-- the rows before, with a failed row more
same_no : (before : List Laid) (bs : List JudgedRow) (j : JudgedRow) → Same before bs → j.decision ≡ 0 → Same before (bs ++ j ∷ [])
same_no before bs j s z =
    record {
      size = λ m.
          let e = with_more bs j (suc m) in
          let t : cond (eqb j.decision (suc m)) j.row.indices 0 ≡ 0 = ap (λ (d : ℕ). cond (eqb d (suc m)) j.row.indices 0) z
          ∙ ap (λ (b : Bool). cond b j.row.indices 0) (eqb-zero-suc m) in
          let q = s.size m in
          omega arith;
    }

-- with an accepted row more
same_yes : (before : List Laid) (bs : List JudgedRow) (j : JudgedRow) (l : Laid) → Same before bs → j.decision ≡ suc l.material → length l.indices ≡ j.row.indices
    → Same (before ++ l ∷ []) (bs ++ j ∷ [])
same_yes before bs j l s z n =
    record {
      size = λ m.
          let e = with_more bs j (suc m) in
          let f = run_more before l m in
          let t : cond (eqb j.decision (suc m)) j.row.indices 0 ≡ length (cond (eqb l.material m) l.indices []) =
          ap (λ (d : ℕ). cond (eqb d (suc m)) j.row.indices 0) z ∙ ap (λ (b : Bool). cond b j.row.indices 0) (eqb-suc-suc l.material m) ∙ go (eqb l.material m) in
          let q = s.size m in
          omega arith;
    }
  where
    go : (b : Bool) → cond b j.row.indices 0 ≡ length (cond b l.indices [])
    go true = sym n
    go false = refl

-- The ranges with those firsts are the definition's.
pub ranges_are : (all before : List Laid) (bs : List JudgedRow) (base : ℕ) (fs : List ℕ) (js : List JudgedRow) (is : List ℕ) → Same before bs → Begun all bs fs js → judged_indices js ≤ length is
    → ranges_with fs js ≡ ranges_from all before (laid_by base js is)
unfolding ranges_with ranges_from laid_by kept_if base_after range_of sum_of
ranges_are all before bs base [] [] is s b h = refl
ranges_are all before bs base (f ∷ fs) [] is s b h = refl
ranges_are all before bs base [] (j ∷ js) is s b h = let l = b.long in absurd (omega arith)
ranges_are all before bs base (f ∷ fs) (j ∷ js) is s b h =
    go j.decision refl
    (λ z. ranges_are all before (bs ++ j ∷ []) base fs js (drop j.row.indices is) (same_no before bs j s z) (begun_next all bs f fs j js b) (omega (arith, length-drop j.row.indices is)))
    (λ l z n. ranges_are all (before ++ l ∷ []) (bs ++ j ∷ []) (base + j.row.vertices) fs js (drop j.row.indices is) (same_yes before bs j l s z n) (begun_next all bs f fs j js b)
    (omega (arith, length-drop j.row.indices is)))
  where
    go : (d : ℕ) → j.decision ≡ d
        → (j.decision ≡ 0 → ranges_with fs js ≡ ranges_from all before (laid_by base js (drop j.row.indices is)))
        → ((l : Laid) → j.decision ≡ suc l.material → length l.indices ≡ j.row.indices
        → ranges_with fs js ≡ ranges_from all (before ++ l ∷ []) (laid_by (base + j.row.vertices) js (drop j.row.indices is)))
        → kept_if d (j.row.face ∷ j.row.bin ∷ f ∷ (f + j.row.indices) ∷ []) ++ ranges_with fs js ≡ ranges_from all before (laid_by base (record { decision = d; row = j.row } ∷ js) is)
    go zero e p q = p e
    go (suc m) e p q =
        let l : Laid = record { face = j.row.face; bin = j.row.bin; material = m; indices = map (λ i. base + i) (take j.row.indices is) } in
        let n : length l.indices ≡ j.row.indices = length-map (take j.row.indices is) (λ i. base + i) ∙ length-take-le j.row.indices is (omega arith) in
        let first : f ≡ start_of all m + length (run_of before m) = b.first 0 m (omega arith) e ∙ ap (λ (xs : List JudgedRow). start_of all m + indices_with (suc m) xs) (append-nil bs)
        ∙ ap (λ (x : ℕ). start_of all m + x) (sym (s.size m)) in
        λ k. (j.row.face ∷ j.row.bin ∷ first k ∷ (first k + sym n k) ∷ []) ++ q l e n k
