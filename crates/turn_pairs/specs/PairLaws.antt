-- The pairs of uses that are listed by first use, row and run are the definition's pairs. Assumes nothing.
use Rattle.std.specs.Prelude.{◌≡◌, ◌||◌, List, [], ◌∷◌, map, ℕ, zero, suc, ◌<◌, length, get_or}
use Rattle.std.proofs.Math.Path.{sym}
use Rattle.std.proofs.Common.{ap, ◌∙◌, zero-add, arith}
use Rattle.std.proofs.Math.Bool.{cond}
use Rattle.std.proofs.Math.Option.{Option, none, some}
use Rattle.std.proofs.Math.Decide.{ℕ_discrete, dec_lt}
use Rattle.std.proofs.Math.Dec.{eqb}
use borrow.Author.Tests.{eq-eqb, ne_eqb, lt-ltb, le-ltb}
use Rattle.lists.specs.Lists.{item_at}
use Rattle.lists.specs.Any.{item_at_lem}
use Rattle.join_definition.specs.Join.{joined, first_index}
use Rattle.join_definition.specs.Representatives.{rep_below, rep_name, joined_at}
use Rattle.edge_uses.specs.Edges.{Use, skipped, first_user}
use Rattle.edge_uses.specs.Named.{run_of, use_run, use_row}
use Rattle.edge_uses.specs.NameLaws.{SameEnds, ends_same, run_equal, run_apart}
use Rattle.edge_uses.proofs.UseLaws.{apart_tells, first_at, get_d_map, length_named}
use Rattle.edge_uses.specs.UseLaws.{no_use, name_by, Apart}
use Rattle.turn_walk.specs.Walk.{Pair}
use Rattle.turn_walk.specs.Uses.{Uses, own, far, records, agrees, pair_at, pairs_by, records_skip, records_same, records_yes, agrees_yes, agrees_not, pairs_match}
use Rattle.turn_definition.specs.Pairs.{pair_of, pairs_of}

-- uses listed by first use, row and run; their names have g's number for the shell
abbrev pub listed : (ℕ → ℕ) → List Use → Uses
listed g us = record { count = length us; first = joined (map (name_by g) us); row = map use_row us; run = map use_run us }

-- ---- the way a use runs

-- upward
run_up : (a b : ℕ) → a < b → run_of a b ≡ 0
unfolding run_of
run_up a b l = rw (ne_eqb a b (λ e. omega arith), lt-ltb a b l)

-- downward
run_down : (a b : ℕ) → b < a → run_of a b ≡ 1
unfolding run_of
run_down a b l = rw (ne_eqb a b (λ e. omega arith), le-ltb a b (omega arith))

-- the other way round it runs another way
run_back : (a b : ℕ) → (a ≡ b → ⊥) → run_of b a ≡ run_of a b → ⊥
run_back a b h e = go (dec_lt a b)
  where
    go : Dec (a < b) → ⊥
    go (yes l) = omega (arith, run_up a b l, run_down b a l)
    go (no l) = omega (arith, run_down a b (omega arith), run_up b a (omega arith))

-- ---- one use

module _ (g : ℕ → ℕ) (us : List Use) (a : Apart g us) (k : ℕ) (l : k < length us) where
  abbrev here : Use
  here = get_or us k no_use

  abbrev place : ℕ
  place = first_index (map (name_by g) us) k

  abbrev found : Use
  found = get_or us place no_use

  names_long : length (map (name_by g) us) ≡ length us
  names_long = length_named (name_by g) us

  inside : place < length us
  inside = omega (arith, rep_below (map (name_by g) us) k (omega (arith, names_long)), names_long)

  first_is : get_or (listed g us).first k 0 ≡ place
  first_is = joined_at (map (name_by g) us) k (omega (arith, names_long))

  own_is : own (listed g us) k ≡ here.row
  own_is = get_d_map use_row us k l

  far_is : far (listed g us) k ≡ found.row
  far_is = ap (λ (j : ℕ). get_or (map use_row us) j 0) first_is ∙ get_d_map use_row us place inside

  run_is : get_or (listed g us).run k 0 ≡ run_of here.start here.end
  run_is = get_d_map use_run us k l

  run_first : get_or (listed g us).run (get_or (listed g us).first k 0) 0 ≡ run_of found.start found.end
  run_first = ap (λ (j : ℕ). get_or (map use_run us) j 0) first_is ∙ get_d_map use_run us place inside

  first_user_is : first_user us here ≡ found
  first_user_is = first_at (name_by g) us (apart_tells g us a) k l inside

  same_name : name_by g found ≡ name_by g here
  same_name = sym (get_d_map (name_by g) us place inside) ∙ rep_name (map (name_by g) us) k (omega (arith, names_long)) ∙ get_d_map (name_by g) us k l

  ends_are : SameEnds found.start found.end here.start here.end
  ends_are = ends_same (g found.shell) (g here.shell) (a.low place inside).start_low (a.low place inside).end_low (a.low k l).start_low (a.low k l).end_low same_name

  -- the two agree exactly if they run oppositely
  agrees_is : (here.start ≡ here.end → ⊥) → agrees (listed g us) k ≡ eqb found.start here.end
  agrees_is n = go (ℕ_discrete found.start here.end)
    where
      go : Dec (found.start ≡ here.end) → agrees (listed g us) k ≡ eqb found.start here.end
      go (yes e) =
          let f : found.end ≡ here.start = omega (arith, ends_are.lower, ends_are.higher) in
          agrees_yes (listed g us) k
          (λ q. run_back here.start here.end n (sym (ap (λ (x : ℕ). run_of x found.end) e ∙ ap (run_of here.end) f) ∙ sym run_first ∙ q ∙ run_is))
          ∙ sym (eq-eqb found.start here.end e)
      go (no e) =
          let s : found.start ≡ here.start = omega (arith, ends_are.lower, ends_are.higher) in
          let f : found.end ≡ here.end = omega (arith, ends_are.lower, ends_are.higher) in
          agrees_not (listed g us) k (run_first ∙ ap (λ (x : ℕ). run_of x found.end) s ∙ ap (run_of here.start) f ∙ sym run_is)
          ∙ sym (ne_eqb found.start here.end e)

  -- the pair that the listed use records, and the definition's
  abbrev mine : Option Pair
  mine = some (record { first = far (listed g us) k; later = own (listed g us) k; agreeing = agrees (listed g us) k })

  abbrev theirs : Option Pair
  theirs = some (record { first = found.row; later = here.row; agreeing = eqb found.start here.end })

  -- a use records the definition's pair
  pub pair_is : pair_at (listed g us) k ≡ pair_of us here
  unfolding pair_at pair_of skipped
  pair_is = rw first_user_is (go (ℕ_discrete here.start here.end) (ℕ_discrete found.row here.row))
    where
      go : Dec (here.start ≡ here.end) → Dec (found.row ≡ here.row)
          → cond (records (listed g us) k) mine none ≡ cond (eqb here.start here.end || eqb found.row here.row) none theirs
      go (yes e) d = rw (records_skip (listed g us) k (run_is ∙ run_equal here.start here.end e), eq-eqb here.start here.end e)
      go (no e) (yes q) =
          rw (records_same (listed g us) k (own_is ∙ sym q ∙ sym far_is), ne_eqb here.start here.end e, eq-eqb found.row here.row q)
      go (no e) (no q) =
          rw (
            records_yes (listed g us) k (λ z. run_apart here.start here.end e (sym run_is ∙ z)) (λ z. q (sym far_is ∙ sym z ∙ own_is)),
            ne_eqb here.start here.end e,
            ne_eqb found.row
                here.row q,
          )
          (λ i. some (record { first = far_is i; later = own_is i; agreeing = agrees_is e i }))

-- ---- all uses

-- an item is inside
item_inside : {A : Type 0} (xs : List A) (k : ℕ) (x : A) → item_at xs k ≡ some x → k < length xs
unfolding item_at
item_inside [] k x e = absurd (let z : ◌≡◌ {A = ℕ} 0 1 = cc in omega arith)
item_inside (y ∷ xs) zero x e = omega arith
item_inside (y ∷ xs) (suc k) x e = omega (arith, item_inside xs k x e)

-- The pairs of the listed uses are the definition's, in recorded order.
pub pairs_are : (g : ℕ → ℕ) (us : List Use) → Apart g us → pairs_by (listed g us) ≡ pairs_of us
unfolding pairs_of
pairs_are g us a =
    pairs_match (listed g us) (pair_of us) us 0
    (λ k x e.
    let l = item_inside us k x e in
    ap (pair_at (listed g us)) (zero-add k) ∙ pair_is g us a k l ∙ ap (pair_of us) (whole us k x l e))
  where
    whole : (us : List Use) (k : ℕ) (x : Use) → k < length us → item_at us k ≡ some x → get_or us k no_use ≡ x
    whole us k x l e = let f = sym (item_at_lem us k no_use l) ∙ e in cc
