-- The laws of a lookup: what is refused, in its order, and what is listed. Assumes nothing.
use mathlib.Core.Path.{◌≡◌, refl, sym, ap, ◌∙◌, subst}
use mathlib.Core.Bool.{Bool, true, false, not, ◌&&◌, ◌||◌}
use mathlib.Core.List.{List, [], ◌∷◌, ◌++◌}
use Prim.Native.Nat.{ℕ, zero, suc, ◌*◌, ◌≤◌, ◌<◌}
use native.Mathlib.Omega.{arith}
use borrow.Author.Tests.{leb-true, lt-ltb, le-ltb, ltb-false, not-false}
use lib.Dec.{ltb}
use lib.IntN.{ℤ, pos, nat_abs, ◌+ℤ◌, ◌-ℤ◌, +ℤ-neg_ℤ_cancel}
use lib.ListN.{length, take}
use lib.Seq.{get_or-take, length-take-le}
use lib.Ieee.{Float}
use mir.Syntax.{w64}
use mir.Val.{SFits}
use mir.ValLaws.{to_z-of_z}
use Rattle.std.specs.Prelude.{Result, Ok, Err}
use Rattle.signed_numbers.specs.Range.{farthest, within}
use Rattle.signed_numbers.specs.Bits.{read}
use Rattle.signed_numbers.specs.Linear.{up, down, abs, plus}
use Rattle.lists.specs.Lists.{any, ascending, filter, written}
use Rattle.lists.specs.Any.{any_none}
use Rattle.lists.specs.Both.{and_left, and_right, or_left, or_right}
use Rattle.slice_front.specs.FrontLaws.{front_none}
use Rattle.body_rows.specs.Body.{Check, check, first_failing, patches_of, rows_of, work_needed}
use Rattle.body_rows.specs.Checks.{first_here, first_next, first_none, first_on, first_stop}
use Rattle.body_refusals.specs.BodyChecks.{before_work}
use Rattle.body_checks.specs.Accepted.{Passed, before_numbered, checks_before, passed, passed_rows}
use Rattle.plan_definition.specs.Places.{Place, in_range, origin}
use Rattle.peg_definition.specs.Peg.{Hit, Lookup, Refused, Found, bad_places, bins_after, bins_of, hits_of, lookup_of, nearest_bins, peg_checks, places_of, too_many_bins, winners}
use Rattle.peg_definition.specs.PlaceLaws.{place_at, places_length}
use Rattle.peg_definition.specs.Answers.{peg_answer}
use Rattle.refusals.specs.Laws.{number_positive}
use Rattle.peg_distance.specs.Words.{PegAt, beyond}
use Rattle.plan_definition.specs.declared.PlaceWords.{PlaceWords}
use Rattle.peg_search.specs.Hits.{least_most, hits_empty, hits_few, hits_shape}
use Rattle.peg_search.specs.Search.{BestOf, Listed, Placed, body_hits, peg_of}
use Rattle.peg_search.specs.declared.best.Best.{Best}
use Rattle.peg.proofs.RangeLaws.{place_is}
use Rattle.peg.specs.Answer.{BinsListed, PegFound, Ranged, at, fitting, placed_hits}

-- ---- bins into a list

module _ (bins E W0 : List ℕ) (n : ℕ) (v : Listed bins [] W0 n) where
  same : W0 ++ E ≡ E
  same = front_none W0 E v.long

  long : length (W0 ++ E) ≡ length E
  long = ap (length {A = ℕ}) same

  -- the list is too short
  pub listed_short : length (W0 ++ E) < n → BinsListed bins E (W0 ++ E) (Err too_many_bins)
  unfolding fitting peg_answer bins_after
  listed_short h =
      let is : fitting (length E) bins ≡ Refused too_many_bins = rw (lt-ltb (length E) (length bins) (omega (arith, v.count, long)), fitting) in
      record { answer = ap peg_answer (sym is); list = same ∙ ap (λ (l : Lookup). bins_after l E) (sym is) }

  -- it is long enough
  pub listed_found : {W : List ℕ} {m : ℕ} → n ≤ length (W0 ++ E) → Listed bins (W0 ++ E) W m → BinsListed bins E W (Ok m)
  unfolding fitting peg_answer bins_after
  listed_found {W} {m} h w =
      let is : fitting (length E) bins ≡ Found bins = rw (le-ltb (length E) (length bins) (omega (arith, v.count, long)), fitting) in
      record {
        answer = ap (λ (m : ℕ). Ok m) w.count ∙ ap peg_answer (sym is);
        list = w.front (omega (arith, v.count, w.count)) ∙ ap (written bins) same ∙ ap (λ (l : Lookup). bins_after l E) (sym is);
      }

-- ---- the peg's words

-- its number
word_back : (z : ℤ) (w : ℕ) → pos w ≡ z +ℤ pos farthest → pos w -ℤ pos farthest ≡ z
word_back z w e = ap (λ (n : ℤ). n -ℤ pos farthest) e ∙ +ℤ-neg_ℤ_cancel z (pos farthest)

-- as the machine reads it
at_read : (x y z : ℤ) → SFits w64 x → SFits w64 y → SFits w64 z → at (read x) (read y) (read z) ≡ at x y z
at_read x y z f g h = λ i. at (to_z-of_z w64 x f i) (to_z-of_z w64 y g i) (to_z-of_z w64 z h i)

-- it is no more than twice 2^40
word_low : (z : ℤ) (w : ℕ) → nat_abs z ≤ farthest → pos w ≡ z +ℤ pos farthest → w ≤ 2 * farthest
word_low z w h e = omega (arith, ap up e, ap down e, plus z (pos farthest), abs z)

-- ---- a placed body
module _ (table : List ℕ) (ps : List Float) (list : List ℤ) (x y z : ℤ) (E : List ℕ) (g : Ranged table ps list x y z) (fx : SFits w64 x) (fy : SFits w64 y) (fz : SFits w64 z) {w : PlaceWords}
    (e : PegAt (read x) (read y) (read z) w) where
  words : PegAt x y z w
  words = subst (λ (p : Place). PegAt p.x p.y p.z w) (at_read x y z fx fy fz) e

  -- it is as the passes ask
  pub placed : Placed table ps list w
  placed = record {
    rows = g.rows;
    positions = g.positions;
    few = g.few;
    bins = g.bins;
    places = g.places;
    range = g.range;
    peg_x = word_low x w.x g.x_range words.on_x;
    peg_y = word_low y w.y g.y_range words.on_y;
    peg_z = word_low z w.z g.z_range words.on_z;
  }

  -- its vertices, seen from the peg's words
  hits_are : body_hits table ps list w ≡ placed_hits table ps list x y z
  hits_are = λ i. hits_of (at (word_back x w.x words.on_x i) (word_back y w.y words.on_y i) (word_back z w.z words.on_z i)) (patches_of (rows_of table) ps [] []) (places_of list)

  module _ {best : Best} (v : BestOf (body_hits table ps list w) best) where
    -- no vertex is near
    pub none_near : best.square ≡ beyond → BinsListed (nearest_bins (placed_hits table ps list x y z)) E E (Ok 0)
    unfolding peg_answer bins_after fitting written nearest_bins winners ascending filter
    none_near h =
        let none : body_hits table ps list w ≡ [] =
        hits_empty (body_hits table ps list w) (λ s b t. hits_few (peg_of w) (patches_of (rows_of table) ps [] []) (places_of list) s b t) (sym v.least ∙ h) in
        let is : fitting (length E) (nearest_bins (placed_hits table ps list x y z)) ≡ Found [] =
        ap (λ (hs : List Hit). fitting (length E) (nearest_bins hs)) (sym hits_are ∙ none)
        ∙ ap (λ (t : Bool). elim t [ true ↦ Refused too_many_bins | false ↦ Found [] ]) (le-ltb (length E) 0 (omega arith)) in
        record { answer = ap peg_answer (sym is); list = ap (λ (l : Lookup). bins_after l E) (sym is) }

    -- one is
    pub some_near : (best.square ≡ beyond → ⊥) → best.square < beyond
    some_near h = below best.square h (subst (λ (m : ℕ). m ≤ beyond) (sym v.least) (least_most (body_hits table ps list w)))
      where
        below : (n : ℕ) → (n ≡ beyond → ⊥) → n ≤ beyond → n < beyond
        below n f l = omega arith

  pub near_listed : {W : List ℕ} {r : Result ℕ ℕ} → BinsListed (nearest_bins (body_hits table ps list w)) E W r → BinsListed (nearest_bins (placed_hits table ps list x y z)) E W r
  near_listed {W} {r} b = subst (λ (hs : List Hit). BinsListed (nearest_bins hs) E W r) hits_are b

-- ---- the checks

-- a check before 65 fails: the definition refuses the lookup with its number,
pub lookup_refused : (table : List ℕ) (ps ns : List Float) (is : List ℕ) (list : List ℤ) (peg : Place) (room : ℕ) → (first_failing (before_work table ps ns is) ≡ 0 → ⊥)
    → lookup_of table ps ns is list peg room ≡ Refused (first_failing (before_work table ps ns is))
unfolding lookup_of peg_checks
lookup_refused table ps ns is list peg room f = go (first_failing (before_work table ps ns is)) refl
  where
    go : (k : ℕ) → first_failing (before_work table ps ns is) ≡ k → lookup_of table ps ns is list peg room ≡ Refused (first_failing (before_work table ps ns is))
    go zero q = absurd (f q)
    go (suc k) q =
        let here : first_failing (peg_checks table ps ns is list peg room (length (bins_of table ps ns is list peg))) ≡ suc k = sym (first_stop (before_work table ps ns is) _ f) ∙ q in
        let is_refused : lookup_of table ps ns is list peg room ≡ Refused (suc k) = rw (here, lookup_of) in
        is_refused ∙ ap Refused (sym q)

-- its answer is that number,
pub refused_answer : (n : ℕ) → peg_answer (Refused n) ≡ Err n
unfolding peg_answer
refused_answer n = refl

-- and it leaves the list as it was.
pub refused_list : (n : ℕ) (E : List ℕ) → bins_after (Refused n) E ≡ E
unfolding bins_after
refused_list n E = refl

-- what `nearest_bins` needs where a check before 65 fails, in whatever form its code returns the refusal
pub ruleset refused_rules = (lookup_refused, refused_answer, refused_list, number_positive)

module _ (table : List ℕ) (ps ns : List Float) (is : List ℕ) (list : List ℤ) (x y z : ℤ) (E : List ℕ) {n : ℕ} (en : n ≡ first_failing (before_work table ps ns is)) where
  abbrev bins : List ℕ
  bins = bins_of table ps ns is list (at x y z)

  abbrev checks : List Check
  checks = peg_checks table ps ns is list (at x y z) (length E) (length bins)

  -- a refusal is the lookup's
  refused : (k : ℕ) → (k ≡ 0 → ⊥) → k ≡ first_failing checks → PegFound table ps ns is list x y z E E (Err k)
  unfolding peg_answer bins_after lookup_of
  refused k f e = go k e f
    where
      go : (j : ℕ) → j ≡ first_failing checks → (j ≡ 0 → ⊥) → PegFound table ps ns is list x y z E E (Err j)
      go zero q g = absurd (g refl)
      go (suc j) q g =
          let is : lookup_of table ps ns is list (at x y z) (length E) ≡ Refused (suc j) = rw (sym q, lookup_of) in
          record { answer = ap peg_answer (sym is); list = ap (λ (l : Lookup). bins_after l E) (sym is) }

  module _ (zn : n ≡ 0) where
    on : (cs : List Check) → first_failing cs ≡ first_failing (before_work table ps ns is ++ cs)
    on cs = first_on (before_work table ps ns is) cs (before_numbered table ps ns is) (sym en ∙ zn)

    -- what an accepted body has
    accepted : Passed table ps ns is (work_needed (rows_of table))
    accepted = passed table ps ns is (work_needed (rows_of table)) (checks_before table ps ns is (work_needed (rows_of table)) (λ q. omega arith) ∙ sym en ∙ zn)

    module _ (fx : SFits w64 x) (fy : SFits w64 y) (fz : SFits w64 z) {k : ℕ} (ek : k ≡ length (rows_of table)) {b : Bool} (eb : b ≡ bad_places (at (read x) (read y) (read z)) list k) where
      bad_is : b ≡ bad_places (at x y z) list (length (rows_of table))
      bad_is = eb ∙ (λ i. bad_places (at_read x y z fx fy fz i) list (ek i))

      -- 65
      pub lookup_misplaced : b ≡ true → PegFound table ps ns is list x y z E E (Err 65)
      unfolding peg_checks
      lookup_misplaced q = refused 65 (λ e. omega arith) (first_here 65 _ (sym bad_is ∙ q) ∙ on _)

      module _ (q : b ≡ false) where
        -- what the places and the peg have
        good : (not (in_range (at x y z)) || (ltb (length (places_of list)) (length (rows_of table)) || any (λ p. not (in_range p)) (take (length (rows_of table)) (places_of list)))) ≡ false
        unfolding bad_places
        good = sym bad_is ∙ q

        peg_in : in_range (at x y z) ≡ true
        peg_in = not-false (in_range (at x y z)) (or_left (not (in_range (at x y z)))
            (ltb (length (places_of list)) (length (rows_of table)) || any (λ p. not (in_range p)) (take (length (rows_of table)) (places_of list))) good)

        rest_in : (ltb (length (places_of list)) (length (rows_of table)) || any (λ p. not (in_range p)) (take (length (rows_of table)) (places_of list))) ≡ false
        rest_in = or_right (not (in_range (at x y z))) (ltb (length (places_of list)) (length (rows_of table)) || any (λ p. not (in_range p)) (take (length (rows_of table)) (places_of list))) good

        enough : length (rows_of table) ≤ length (places_of list)
        enough = ltb-false (length (places_of list)) (length (rows_of table)) (or_left (ltb (length (places_of list)) (length (rows_of table)))
            (any (λ p. not (in_range p)) (take (length (rows_of table)) (places_of list))) rest_in)

        -- row j's place is in range
        place_in : (j : ℕ) → j < length (rows_of table) → in_range (place_at list j) ≡ true
        place_in j h =
            not-false (in_range (place_at list j))
            (ap (λ (p : Place). not (in_range p)) (sym (get_or-take (length (rows_of table)) (places_of list) j origin h ∙ place_is list j (omega (arith, enough, places_length list))))
            ∙ any_none (λ p. not (in_range p)) (take (length (rows_of table)) (places_of list)) origin
            (or_right (ltb (length (places_of list)) (length (rows_of table))) (any (λ p. not (in_range p)) (take (length (rows_of table)) (places_of list))) rest_in)
            j (omega (arith, length-take-le (length (rows_of table)) (places_of list) enough)))

        in_yz : (within y && within z) ≡ true
        in_yz = and_right (within x) (within y && within z) peg_in

        -- body, places and peg are in range, as the machine reads the peg
        pub ranged : Ranged table ps list (read x) (read y) (read z)
        ranged = record {
          rows = passed_rows accepted;
          positions = accepted.all_positions;
          few = accepted.vertices;
          bins = accepted.bins;
          places = omega (arith, enough, places_length list);
          range = place_in;
          x_range = most x fx (and_left (within x) (within y && within z) peg_in);
          y_range = most y fy (and_left (within y) (within z) in_yz);
          z_range = most z fz (and_right (within y) (within z) in_yz);
        }
          where
            most : (n : ℤ) → SFits w64 n → within n ≡ true → nat_abs (read n) ≤ farthest
            most n f t = subst (λ (m : ℤ). nat_abs m ≤ farthest) (sym (to_z-of_z w64 n f)) (leb-true (nat_abs n) farthest t)

        -- the bins are the definition's
        bins_are : nearest_bins (placed_hits table ps list (read x) (read y) (read z)) ≡ bins
        unfolding bins_of
        bins_are =
            ap nearest_bins
            ((λ i. hits_of (at_read x y z fx fy fz i) (patches_of (rows_of table) ps [] []) (places_of list)) ∙ hits_shape (at x y z) (rows_of table) ps [] ns [] is (places_of list))

        -- 65 is passed: the list decides
        looked_up : lookup_of table ps ns is list (at x y z) (length E) ≡ fitting (length E) bins
        unfolding lookup_of fitting peg_checks
        looked_up = go (ltb (length E) (length bins)) refl
          where
            decides : first_failing checks ≡ first_failing (check too_many_bins (ltb (length E) (length bins)) ∷ [])
            decides = sym (first_next 65 (check too_many_bins (ltb (length E) (length bins)) ∷ []) (sym bad_is ∙ q) ∙ on _)

            go : (t : Bool) → ltb (length E) (length bins) ≡ t → lookup_of table ps ns is list (at x y z) (length E) ≡ elim t [ true ↦ Refused too_many_bins | false ↦ Found bins ]
            go true h = rw (decides ∙ sym (first_here too_many_bins [] h), lookup_of)
            go false h = rw (decides ∙ sym (first_next too_many_bins [] h) ∙ sym first_none, lookup_of)

        -- bins went into the list
        pub lookup_listed : {W : List ℕ} {r : Result ℕ ℕ} → BinsListed (nearest_bins (placed_hits table ps list (read x) (read y) (read z))) E W r → PegFound table ps ns is list x y z E W r
        lookup_listed v = record {
          answer = v.answer ∙ ap peg_answer (ap (fitting (length E)) bins_are ∙ sym looked_up);
          list = v.list ∙ ap (λ (l : Lookup). bins_after l E) (ap (fitting (length E)) bins_are ∙ sym looked_up);
        }
