-- Laws of listing the vertices that stand for points, and their names. Assumes nothing.
use mathlib.Core.Path.{◌≡◌, refl, sym, ap, ◌∙◌, subst}
use mathlib.Core.List.{List}
use Prim.Native.Nat.{ℕ, ◌+◌, ◌-◌, ◌*◌, ◌<◌, ◌≤◌}
use native.Mathlib.Omega.{arith}
use native.Mathlib.Decide.{ℕ_discrete}
use lib.ListN.{length, get_or, take, drop, set, length-set, length-map}
use lib.Seq.{ext_get_or, get_or-take, get_or-set_same, get_or-set_other, take-set-le, drop-set-lt}
use Rattle.lists.specs.Stretches.{front_at, stretch_at}
use Rattle.stitch_gather.specs.Standing.{mark_of, stands_for, standing_in, names_of, ListReady, PlaceReady, placed, ListStood}
use Rattle.stitch_gather.proofs.StandLaws.{map_at, stretch_long, standing_long, standing_at}

-- the points before place j are done: W became E
pub record Listing (v at ts n : ℕ) (W : List ℕ) (j : ℕ) (E : List ℕ) : Type 0 where
  pub high : j ≤ n
  pub done : (k : ℕ) → k < j → get_or E (at + k) 0 ≡ stands_for W v (get_or W (at + k) 0)
  pub named : (k : ℕ) → k < j → get_or E (ts + k) 0 ≡ get_or W (stands_for W v (get_or W (at + k) 0)) 0
  pub left : (k : ℕ) → j ≤ k → k < n → get_or E (at + k) 0 ≡ get_or W (at + k) 0
  pub front : take at E ≡ take at W
  pub rest : drop (ts + n) E ≡ drop (ts + n) W
  pub long : length E ≡ length W

-- none is done yet
pub listing_none : (v at ts n : ℕ) (W : List ℕ) → Listing v at ts n W 0 W
listing_none v at ts n W =
    record { high = omega arith; done = λ k l. absurd (omega arith); named = λ k l. absurd (omega arith); left = λ k a b. refl; front = refl; rest = refl; long = refl }

module _ {v at ts n : ℕ} {W : List ℕ} (r : ListReady v at ts n W) where
  module _ {j : ℕ} {E : List ℕ} (s : Listing v at ts n W j E) (l : j < n) where
    -- the first vertex at place j
    abbrev f : ℕ
    f = get_or W (at + j) 0

    here : get_or E (at + j) 0 ≡ f
    here = s.left j (omega arith) l

    mark_kept : mark_of E v f ≡ mark_of W v f
    mark_kept = front_at at (2 * v + f) W E 0 s.front (omega (arith, r.low j l, r.behind))

    mark_is : mark_of E v (get_or E (at + j) 0) ≡ mark_of W v f
    mark_is = ap (mark_of E v) here ∙ mark_kept

    stands_is : stands_for E v (get_or E (at + j) 0) ≡ stands_for W v f
    stands_is = ap (λ (k : ℕ). k - 1) mark_is

    -- it can be done
    pub place_ready : PlaceReady v at ts j E
    place_ready =
        record {
          behind = r.behind;
          apart = omega (arith, r.apart);
          room = omega (arith, r.room, s.long);
          low = omega (arith, here, r.low j l);
          set = omega (arith, mark_is, r.set j l);
          vertex = omega (arith, mark_is, r.vertex j l);
        }

    name_is : get_or E (stands_for E v (get_or E (at + j) 0)) 0 ≡ get_or W (stands_for W v f) 0
    name_is = ap (λ (x : ℕ). get_or E x 0) stands_is ∙ front_at at (stands_for W v f) W E 0 s.front (omega (arith, r.vertex j l, r.set j l, r.behind))

    -- the words after the first store
    abbrev Put : List ℕ
    Put = set E (at + j) (stands_for E v (get_or E (at + j) 0))

    abbrev name : ℕ
    name = get_or E (stands_for E v (get_or E (at + j) 0)) 0

    put_long : length Put ≡ length W
    put_long = length-set E (at + j) (stands_for E v (get_or E (at + j) 0)) ∙ s.long

    -- a word of the list but that at j is as it was
    list_other : (k : ℕ) → k < n → (k ≡ j → ⊥) → get_or (placed E v at ts j) (at + k) 0 ≡ get_or E (at + k) 0
    list_other k b e =
        get_or-set_other Put (ts + j) (at + k) name 0 (λ h. omega (arith, r.apart))
        ∙ get_or-set_other E (at + j) (at + k) (stands_for E v (get_or E (at + j) 0)) 0 (λ h. e (omega arith))

    list_here : get_or (placed E v at ts j) (at + j) 0 ≡ stands_for W v f
    list_here =
        get_or-set_other Put (ts + j) (at + j) name 0 (λ h. omega (arith, r.apart))
        ∙ get_or-set_same E (at + j) (stands_for E v (get_or E (at + j) 0)) 0 (omega (arith, r.apart, r.room, s.long))
        ∙ stands_is

    -- so is a name
    name_other : (k : ℕ) → (k ≡ j → ⊥) → get_or (placed E v at ts j) (ts + k) 0 ≡ get_or E (ts + k) 0
    name_other k e =
        get_or-set_other Put (ts + j) (ts + k) name 0 (λ h. e (omega arith))
        ∙ get_or-set_other E (at + j) (ts + k) (stands_for E v (get_or E (at + j) 0)) 0 (λ h. omega (arith, r.apart))

    name_here : get_or (placed E v at ts j) (ts + j) 0 ≡ get_or W (stands_for W v f) 0
    name_here = get_or-set_same Put (ts + j) name 0 (omega (arith, r.room, put_long)) ∙ name_is

    placed_more : Listing v at ts n W (j + 1) (placed E v at ts j)
    placed_more =
        record {
          high = omega arith;
          done = λ k b. done k b (ℕ_discrete k j);
          named = λ k b. named k b (ℕ_discrete k j);
          left = λ k a b. list_other k b (λ e. omega arith) ∙ s.left k (omega arith) b;
          front = take-set-le at Put (ts + j) name (omega (arith, r.apart)) ∙ take-set-le at E (at + j) (stands_for E v (get_or E (at + j) 0)) (omega arith) ∙ s.front;
          rest =
              drop-set-lt (ts + n) Put (ts + j) name (omega arith)
              ∙ drop-set-lt (ts + n) E (at + j) (stands_for E v (get_or E (at + j) 0)) (omega (arith, r.apart))
              ∙ s.rest;
          long = length-set Put (ts + j) name ∙ put_long;
        }
      where
        done : (k : ℕ) → k < j + 1 → Dec (k ≡ j) → get_or (placed E v at ts j) (at + k) 0 ≡ stands_for W v (get_or W (at + k) 0)
        done k b (yes e) = subst (λ (i : ℕ). get_or (placed E v at ts j) (at + i) 0 ≡ stands_for W v (get_or W (at + i) 0)) (sym e) list_here
        done k b (no e) = list_other k (omega arith) e ∙ s.done k (omega arith)

        named : (k : ℕ) → k < j + 1 → Dec (k ≡ j) → get_or (placed E v at ts j) (ts + k) 0 ≡ get_or W (stands_for W v (get_or W (at + k) 0)) 0
        named k b (yes e) = subst (λ (i : ℕ). get_or (placed E v at ts j) (ts + i) 0 ≡ get_or W (stands_for W v (get_or W (at + i) 0)) 0) (sym e) name_here
        named k b (no e) = name_other k e ∙ s.named k (omega arith)

    -- one more is done
    pub listing_more : {F : List ℕ} → F ≡ placed E v at ts j → Listing v at ts n W (j + 1) F
    listing_more e = subst (λ (X : List ℕ). Listing v at ts n W (j + 1) X) (sym e) placed_more

  -- all are done
  pub listing_all : {j : ℕ} {E : List ℕ} → Listing v at ts n W j E → n ≤ j → ListStood v at ts n W E
  listing_all {j} {E} s l =
      record {
        list =
            ext_get_or 0 (take n (drop at E)) (standing_in W v at n) (e_long ∙ sym w_long)
            (λ k b.
            let c : k < n = omega (arith, e_long) in
            stretch_at at n E k 0 c ∙ s.done k (omega arith) ∙ sym (standing_at W v at n room k c));
        names =
            ext_get_or 0 (take n (drop ts E)) (names_of (take v W) (standing_in W v at n)) (t_long ∙ sym (length-map (standing_in W v at n) (λ (x : ℕ). get_or (take v W) x 0) ∙ w_long))
            (λ k b. let c : k < n = omega (arith, t_long) in stretch_at ts n E k 0 c ∙ s.named k (omega arith) ∙ sym (name k c));
        front = s.front;
        rest = s.rest;
      }
    where
      room : at + n ≤ length W
      room = omega (arith, r.apart, r.room)

      e_long : length (take n (drop at E)) ≡ n
      e_long = stretch_long E at n (omega (arith, room, s.long))

      t_long : length (take n (drop ts E)) ≡ n
      t_long = stretch_long E ts n (omega (arith, r.room, s.long))

      w_long : length (standing_in W v at n) ≡ n
      w_long = standing_long W v at n room

      name : (k : ℕ) → k < n → get_or (names_of (take v W) (standing_in W v at n)) k 0 ≡ get_or W (stands_for W v (get_or W (at + k) 0)) 0
      name k c =
          map_at (λ (x : ℕ). get_or (take v W) x 0) (standing_in W v at n) k (omega (arith, w_long))
          ∙ ap (λ (x : ℕ). get_or (take v W) x 0) (standing_at W v at n room k c)
          ∙ get_or-take v W (stands_for W v (get_or W (at + k) 0)) 0 (omega (arith, r.vertex k c, r.set k c))
