-- Laws of the marks of uses: what the definition marks is what the uses' words in the work area say. Assumes nothing.
use mathlib.Core.Path.{◌≡◌, sym, ap, ◌∙◌}
use mathlib.Core.Bool.{Bool, true, false, not, ◌&&◌, cond}
use mathlib.Core.List.{List, [], ◌∷◌, map}
use Prim.Native.Nat.{ℕ, zero, suc, ◌+◌, ◌*◌, ◌≤◌, ◌<◌}
use native.Mathlib.Numerals.{add-one}
use native.Mathlib.Omega.{arith}
use native.Mathlib.Decide.{ℕ_discrete, dec_lt}
use lib.ListN.{length, get_or, take, drop}
use lib.Dec.{eqb}
use borrow.Author.Tests.{eq-eqb, ne_eqb, lt-ltb, le-ltb}
use Rattle.lists.specs.Lists.{count_if}
use Rattle.lists.specs.Stretches.{stretch_at}
use Rattle.join_definition.specs.Join.{joined, first_index}
use Rattle.join_definition.specs.Representatives.{rep_low, rep_name, same_name_rep, same_rep_name, joined_at}
use Rattle.edge_uses.specs.Edges.{Use, skipped}
use Rattle.edge_uses.specs.Named.{run_of, use_name, use_run, use_row}
use Rattle.edge_uses.specs.NameLaws.{SameEnds, ends_same, run_equal, run_apart}
use Rattle.edge_uses.proofs.UseLaws.{apart_tells, get_d_map, length_named}
use Rattle.edge_uses.specs.UseLaws.{no_use, Tells, Apart}
use Rattle.report_definition.specs.Audit.{marked_by, marks_from}
use Rattle.report_definition.proofs.MarkLaws.{marks_more, marked_first, marked_later}
use Rattle.report_audit.specs.Counts.{first_at, own_at, run_at, alike, alike_at, heads_at, heads_before}
use Rattle.report_audit.proofs.CountLaws.{alike_own, alike_ends, alike_runs, count_both, count_two, count_none}

-- ---- the way two uses of one edge run

-- a use whose ends differ runs upward or downward
run_up : (a b : ℕ) → a < b → run_of a b ≡ 0
unfolding run_of
run_up a b l = rw (ne_eqb a b (λ e. omega arith), lt-ltb a b l)

run_down : (a b : ℕ) → b < a → run_of a b ≡ 1
unfolding run_of
run_down a b l = rw (ne_eqb a b (λ e. omega arith), le-ltb a b (omega arith))

-- of two uses with the same ends those that run alike start alike
runs_start : (a b c d : ℕ) → (c ≡ d → ⊥) → SameEnds a b c d → eqb (run_of a b) (run_of c d) ≡ eqb a c
runs_start a b c d n s = go (dec_lt a b) (dec_lt c d)
  where
    alike_there : run_of a b ≡ run_of c d → a ≡ c → eqb (run_of a b) (run_of c d) ≡ eqb a c
    alike_there e f = eq-eqb (run_of a b) (run_of c d) e ∙ sym (eq-eqb a c f)

    apart_there : (run_of a b ≡ run_of c d → ⊥) → (a ≡ c → ⊥) → eqb (run_of a b) (run_of c d) ≡ eqb a c
    apart_there e f = ne_eqb (run_of a b) (run_of c d) e ∙ sym (ne_eqb a c f)

    go : Dec (a < b) → Dec (c < d) → eqb (run_of a b) (run_of c d) ≡ eqb a c
    go (yes l) (yes m) = alike_there (run_up a b l ∙ sym (run_up c d m)) (omega (arith, s.lower))
    go (yes l) (no m) =
        apart_there (λ e. omega (arith, run_up a b l, run_down c d (omega arith))) (λ e. omega (arith, s.lower, s.higher))
    go (no l) (yes m) =
        apart_there (λ e. omega (arith, run_down a b (omega (arith, s.lower, s.higher)), run_up c d m)) (λ e. omega (arith, s.lower, s.higher))
    go (no l) (no m) = alike_there (run_down a b (omega (arith, s.lower, s.higher)) ∙ sym (run_down c d (omega arith))) (omega (arith, s.lower, s.higher))

-- ---- one use

module _ (us : List Use) (a : Apart (λ s. s) us) (i : ℕ) (l : i < length us) where
  abbrev here : Use
  here = get_or us i no_use

  abbrev place : ℕ
  place = first_index (map use_name us) i

  abbrev found : Use
  found = get_or us place no_use

  names_long : length (map use_name us) ≡ length us
  names_long = length_named use_name us

  pub tells : Tells use_name us
  tells = apart_tells (λ s. s) us a

  in_names : i < length (map use_name us)
  in_names = omega (arith, names_long)

  pub place_low : place ≤ i
  place_low = rep_low (map use_name us) i in_names

  place_in : place < length us
  place_in = omega (arith, place_low)

  same_name : use_name found ≡ use_name here
  same_name = sym (get_d_map use_name us place place_in) ∙ rep_name (map use_name us) i in_names ∙ get_d_map use_name us i l

  ends_are : SameEnds found.start found.end here.start here.end
  ends_are = ends_same found.shell here.shell (a.low place place_in).start_low (a.low place place_in).end_low (a.low i l).start_low (a.low i l).end_low same_name

  -- of a later use the words tell what the definition asks
  pub later_alike : (place ≡ i → ⊥) → alike place i (use_run here) (use_run found) ≡ (not (skipped here) && eqb found.start here.start)
  unfolding skipped
  later_alike n = go (ℕ_discrete here.start here.end)
    where
      go : Dec (here.start ≡ here.end) → alike place i (use_run here) (use_run found) ≡ (not (eqb here.start here.end) && eqb found.start here.start)
      go (yes e) =
          sym (alike_ends place i (use_run here) (use_run found) n (run_equal here.start here.end e))
          ∙ ap (λ (b : Bool). not b && eqb found.start here.start) (sym (eq-eqb here.start here.end e))
      go (no e) =
          sym (alike_runs place i (use_run here) (use_run found) n (run_apart here.start here.end e))
          ∙ runs_start found.start found.end here.start here.end e ends_are
          ∙ ap (λ (b : Bool). not b && eqb found.start here.start) (sym (ne_eqb here.start here.end e))

-- ---- all uses

-- The uses stand in the work area by first use, row and run, and the first row of each row's face number behind them.
pub record UsesStand (W : List ℕ) (firsts n heads m : ℕ) (us : List Use) (faces : List ℕ) : Type 0 where
  pub many : length us ≡ n
  pub first : take n (drop firsts W) ≡ joined (map use_name us)
  pub row : take n (drop (firsts + n) W) ≡ map use_row us
  pub run : take n (drop (firsts + 2 * n) W) ≡ map use_run us
  pub row_low : (i : ℕ) → i < n → (get_or us i no_use).row < m
  pub faces_many : length faces ≡ m
  pub head : take m (drop heads W) ≡ joined faces

module _ {W : List ℕ} {firsts n heads m : ℕ} {us : List Use} {faces : List ℕ} (a : Apart (λ s. s) us) (s : UsesStand W firsts n heads m us faces) where
  module _ (i : ℕ) (l : i < n) where
    in_uses : i < length us
    in_uses = omega (arith, s.many)

    pub first_word : first_at W firsts i ≡ first_index (map use_name us) i
    first_word = sym (stretch_at firsts n W i 0 l) ∙ ap (λ (v : List ℕ). get_or v i 0) s.first ∙ joined_at (map use_name us) i (omega (arith, length_named use_name us, s.many))

    pub row_word : own_at W firsts n i ≡ (get_or us i no_use).row
    row_word = sym (stretch_at (firsts + n) n W i 0 l) ∙ ap (λ (v : List ℕ). get_or v i 0) s.row ∙ get_d_map use_row us i in_uses

    run_word : run_at W firsts n i ≡ use_run (get_or us i no_use)
    run_word = sym (stretch_at (firsts + 2 * n) n W i 0 l) ∙ ap (λ (v : List ℕ). get_or v i 0) s.run ∙ get_d_map use_run us i in_uses

  pub head_word : (j : ℕ) → j < m → get_or W (heads + j) 0 ≡ first_index faces j
  head_word j h = sym (stretch_at heads m W j 0 h) ∙ ap (λ (v : List ℕ). get_or v j 0) s.head ∙ joined_at faces j (omega (arith, s.faces_many))

  -- two rows have the same first row exactly if they have the same face number
  same_face : (j k : ℕ) → j < m → k < m → eqb (first_index faces j) (first_index faces k) ≡ eqb (get_or faces j 0) (get_or faces k 0)
  same_face j k lj lk = go (ℕ_discrete (get_or faces j 0) (get_or faces k 0))
    where
      go : Dec (get_or faces j 0 ≡ get_or faces k 0) → eqb (first_index faces j) (first_index faces k) ≡ eqb (get_or faces j 0) (get_or faces k 0)
      go (yes e) = eq-eqb (first_index faces j) (first_index faces k) (same_name_rep faces j k e) ∙ sym (eq-eqb (get_or faces j 0) (get_or faces k 0) e)
      go (no e) =
          ne_eqb (first_index faces j) (first_index faces k) (λ q. e (same_rep_name faces j k (omega (arith, s.faces_many)) (omega (arith, s.faces_many)) q))
          ∙ sym (ne_eqb (get_or faces j 0) (get_or faces k 0) e)

  module _ (i : ℕ) (l : i < n) where
    abbrev u : Use
    u = get_or us i no_use

    abbrev p : ℕ
    p = first_index (map use_name us) i

    p_low : p < n
    p_low = omega (arith, place_low us a i (in_uses i l))

    alike_word : alike_at W firsts n i ≡ alike p i (use_run u) (use_run (get_or us p no_use))
    alike_word = λ t. alike (first_word i l t) i (run_word i l t) ((ap (run_at W firsts n) (first_word i l) ∙ run_word p p_low) t)

    far_word : own_at W firsts n (first_at W firsts i) ≡ (get_or us p no_use).row
    far_word = ap (own_at W firsts n) (first_word i l) ∙ row_word p p_low

    own_head : get_or W (heads + own_at W firsts n i) 0 ≡ first_index faces u.row
    own_head = ap (λ (k : ℕ). get_or W (heads + k) 0) (row_word i l) ∙ head_word u.row (s.row_low i l)

    far_head : get_or W (heads + own_at W firsts n (first_at W firsts i)) 0 ≡ first_index faces (get_or us p no_use).row
    far_head = ap (λ (k : ℕ). get_or W (heads + k) 0) far_word ∙ head_word (get_or us p no_use).row (s.row_low p p_low)

    -- a use marks a row's first row as often as the row's face number
    use_marks : (j : ℕ) → j < m → count_if (eqb (first_index faces j)) (heads_at W firsts n heads i) ≡ count_if (eqb (get_or faces j 0)) (marked_by faces (take i us) u)
    unfolding heads_at
    use_marks j h =
        (λ t. count_if (eqb (first_index faces j)) (cond (alike_word t) (own_head t ∷ far_head t ∷ []) []))
        ∙ go (ℕ_discrete p i)
      where
        heads_of : Bool → ℕ
        heads_of b = count_if (eqb (first_index faces j)) (cond b (first_index faces u.row ∷ first_index faces (get_or us p no_use).row ∷ []) [])

        both : (b : Bool) → heads_of b ≡ count_if (eqb (get_or faces j 0)) (cond b (get_or faces u.row 0 ∷ get_or faces (get_or us p no_use).row 0 ∷ []) [])
        both true =
            count_two (eqb (first_index faces j)) (first_index faces u.row) (first_index faces (get_or us p no_use).row)
            ∙ (λ t. cond (same_face j u.row h (s.row_low i l) t) 1 0 + cond (same_face j (get_or us p no_use).row h (s.row_low p p_low) t) 1 0)
            ∙ sym (count_two (eqb (get_or faces j 0)) (get_or faces u.row 0) (get_or faces (get_or us p no_use).row 0))
        both false = count_none (eqb (first_index faces j)) ∙ sym (count_none (eqb (get_or faces j 0)))

        go : Dec (p ≡ i) → heads_of (alike p i (use_run u) (use_run (get_or us p no_use))) ≡ count_if (eqb (get_or faces j 0)) (marked_by faces (take i us) u)
        go (yes q) =
            ap heads_of (sym (alike_own p i (use_run u) (use_run (get_or us p no_use)) q))
            ∙ both false
            ∙ ap (count_if (eqb (get_or faces j 0))) (sym (marked_first faces use_name us (tells us a i (in_uses i l)) i (in_uses i l) q))
        go (no q) =
            ap heads_of (later_alike us a i (in_uses i l) q)
            ∙ both (not (skipped u) && eqb (get_or us p no_use).start u.start)
            ∙ ap (count_if (eqb (get_or faces j 0)))
            (sym (marked_later faces use_name us (tells us a i (in_uses i l)) i (in_uses i l) (omega (arith, place_low us a i (in_uses i l)))))

  -- so do all of them
  pub uses_marks : (j : ℕ) → j < m → (i : ℕ) → i ≤ n → count_if (eqb (first_index faces j)) (heads_before W firsts n heads i) ≡ count_if (eqb (get_or faces j 0)) (marks_from faces [] (take i us))
  unfolding heads_before marks_from
  uses_marks j h zero l = count_none (eqb (first_index faces j)) ∙ sym (count_none (eqb (get_or faces j 0)))
  uses_marks j h (suc i) l =
      let f = eqb (get_or faces j 0) in
      count_both (eqb (first_index faces j)) (heads_before W firsts n heads i) (heads_at W firsts n heads i)
      ∙ (λ t. uses_marks j h i (omega arith) t + use_marks i (omega arith) j h t)
      ∙ sym (count_both f (marks_from faces [] (take i us)) (marked_by faces (take i us) (get_or us i no_use)))
      ∙ ap (count_if f) (sym (marks_more faces us i (omega (arith, s.many))) ∙ ap (λ (k : ℕ). marks_from faces [] (take k us)) (add-one i))
