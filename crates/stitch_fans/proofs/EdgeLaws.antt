-- The new vertices of each edge pushed, and the whole fan. Assumes nothing.
use mathlib.Core.Path.{◌≡◌, refl, sym, ap, ◌∙◌, subst}
use mathlib.Core.Bool.{Bool, true, false, cond}
use mathlib.Core.List.{List, [], ◌∷◌, ◌++◌, append_assoc, append-nil}
use Prim.Native.Nat.{ℕ, zero, suc, ◌+◌, ◌/◌, ◌<◌, ◌≤◌}
use native.Mathlib.Omega.{arith}
use lib.ListN.{length, get_or, take, drop, length-append, length-drop}
use lib.Seq.{take-take, length-take-le}
use lib.Dec.{eqb}
use borrow.Author.Tests.{eq-eqb, ne_eqb}
use Rattle.std.specs.Prelude.{None}
use Rattle.stitch_splits.specs.Entries.{entries_of, entries_in}
use Rattle.stitch_fans.specs.declared.fan.Fan.{Fan}
use Rattle.stitch_rings.specs.Rings.{numbers_of, edges_of, ring_after}
use Rattle.stitch_rings.specs.Added.{FanReady, FanWritten}
use Rattle.stitch_fans.specs.FanSteps.{picked, edge_numbers, Held, PushRoom, PickReady, EdgeReady, Pushed}
use Rattle.stitch_fans.proofs.PushLaws.{pushed_none, pushed_then}
use Rattle.stitch_rings.specs.FanLaws.{first_none}
use Rattle.lists.specs.Stretches.{stretch_more}

-- ---- one entry

module _ {W : List ℕ} {k e x : ℕ} {f : Fan} {out : List ℕ} (r : PickReady W k e x f out) where
  -- it is on the edge
  picked_yes : get_or W k 0 / 262144 ≡ e → picked e (get_or W k 0) x ≡ x ∷ []
  picked_yes y = ap (λ (b : Bool). cond b (x ∷ []) []) (eq-eqb (get_or W k 0 / 262144) e y)

  -- there is room for it
  pub picked_room : get_or W k 0 / 262144 ≡ e → PushRoom f 1 out
  picked_room y = subst (λ (v : List ℕ). PushRoom f (length v) out) (picked_yes y) r.room

  pub picked_on : {a : ℕ} {new : List ℕ} {g : Fan} → get_or W k 0 / 262144 ≡ e → Pushed a f (x ∷ []) out new g → Pushed a f (picked e (get_or W k 0) x) out new g
  picked_on {a} {new} {g} y p = subst (λ (v : List ℕ). Pushed a f v out new g) (sym (picked_yes y)) p

  -- it is on another
  pub picked_off : {a : ℕ} → (get_or W k 0 / 262144 ≡ e → ⊥) → Pushed a f (picked e (get_or W k 0) x) out out f
  picked_off {a} n =
      subst (λ (b : Bool). Pushed a f (cond b (x ∷ []) []) out out f) (sym (ne_eqb (get_or W k 0 / 262144) e n)) (pushed_none a f out)

-- ---- the numbers read from the words

-- those of a list behind another
numbers_append : (e next : ℕ) (xs ys : List ℕ) → edge_numbers e next (xs ++ ys) ≡ edge_numbers e next xs ++ edge_numbers e (next + length xs) ys
unfolding edge_numbers
numbers_append e next [] ys = let z : next ≡ next + 0 = omega arith in ap (λ (n : ℕ). edge_numbers e n ys) z
numbers_append e next (x ∷ xs) ys =
    let z : next + 1 + length xs ≡ next + suc (length xs) = omega arith in
    ap (λ (v : List ℕ). picked e x next ++ v) (numbers_append e (next + 1) xs ys ∙ ap (λ (n : ℕ). edge_numbers e (next + 1) xs ++ edge_numbers e n ys) z)
    ∙ sym (append_assoc (picked e x next) (edge_numbers e (next + 1) xs) (edge_numbers e (next + suc (length xs)) ys))

-- a front has no more
numbers_front : (e next j : ℕ) (xs : List ℕ) → length (edge_numbers e next (take j xs)) ≤ length (edge_numbers e next xs)
unfolding edge_numbers
numbers_front e next zero xs = omega arith
numbers_front e next (suc j) [] = omega arith
numbers_front e next (suc j) (x ∷ xs) =
    omega (arith, numbers_front e (next + 1) j xs, length-append (picked e x next) (edge_numbers e (next + 1) (take j xs)), length-append (picked e x next) (edge_numbers e (next + 1) xs))

-- a word is on one edge
picked_few : (x next : ℕ) → length (picked 0 x next) + length (picked 1 x next) + length (picked 2 x next) ≤ 1
picked_few x next = go (x / 262144)
  where
    go : (w : ℕ) → length (cond (eqb w 0) (next ∷ []) []) + length (cond (eqb w 1) (next ∷ []) []) + length (cond (eqb w 2) (next ∷ []) []) ≤ 1
    go zero = omega arith
    go (suc zero) = omega arith
    go (suc (suc zero)) = omega arith
    go (suc (suc (suc w))) =
        rw (ne_eqb (suc (suc (suc w))) 0 (λ z. omega arith), ne_eqb (suc (suc (suc w))) 1 (λ z. omega arith), ne_eqb (suc (suc (suc w))) 2 (λ z. omega arith))
        (omega arith)

-- so the three edges have no more than there are words
numbers_few : (next : ℕ) (xs : List ℕ) → length (edge_numbers 0 next xs) + length (edge_numbers 1 next xs) + length (edge_numbers 2 next xs) ≤ length xs
unfolding edge_numbers
numbers_few next [] = omega arith
numbers_few next (x ∷ xs) =
    omega (
      arith,
      picked_few x next,
      numbers_few (next + 1) xs,
      length-append (picked 0 x next) (edge_numbers 0 (next + 1) xs),
      length-append (picked 1 x next) (edge_numbers 1 (next + 1) xs),
      length-append (picked 2 x next) (edge_numbers 2 (next + 1) xs),
    )

-- a number in front, or none
in_front : (next : ℕ) (b : Bool) {xs ys : List ℕ} → xs ≡ ys → cond b (next ∷ xs) xs ≡ cond b (next ∷ []) [] ++ ys
in_front next true e = ap (λ (v : List ℕ). next ∷ v) e
in_front next false e = e

-- they are those of the entries that have parameters
numbers_are : (e next : ℕ) (X Y : List ℕ) → numbers_of e next (edges_of (entries_of X Y)) ≡ edge_numbers e next (take (length Y) X)
unfolding numbers_of entries_of edge_numbers
numbers_are e next [] [] = refl
numbers_are e next [] (y ∷ Y) = refl
numbers_are e next (x ∷ X) [] = refl
numbers_are e next (x ∷ X) (y ∷ Y) = in_front next (eqb (x / 262144) e) (numbers_are e (next + 1) X Y)

-- ---- the entries of an edge, one after another

-- the new vertices on edge e of the first j entries were pushed
pub record Pushing (a : ℕ) (W : List ℕ) (at count e next : ℕ) (f : Fan) (out : List ℕ) (j : ℕ) (new : List ℕ) (g : Fan) : Type 0 where
  pub low : j ≤ count
  pub done : Pushed a f (edge_numbers e next (take j (drop at W))) out new g

-- none yet
pub pushing_none : (a : ℕ) (W : List ℕ) (at count e next : ℕ) (f : Fan) (out : List ℕ) → Pushing a W at count e next f out 0 out f
unfolding edge_numbers
pushing_none a W at count e next f out = record { low = omega arith; done = pushed_none a f out }

module _ {a : ℕ} {W : List ℕ} {at count e next : ℕ} {f : Fan} {out : List ℕ} (r : EdgeReady W at count e next f out) where
  module _ {j : ℕ} {new : List ℕ} {g : Fan} (s : Pushing a W at count e next f out j new g) where
    -- all
    pub pushing_all : count ≤ j → Pushed a f (edge_numbers e next (take count (drop at W))) out new g
    pushing_all l = let z : j ≡ count = omega (arith, s.low) in subst (λ (n : ℕ). Pushed a f (edge_numbers e next (take n (drop at W))) out new g) z s.done

    module _ (l : j < count) where
      -- the numbers with those of entry j
      one_more : edge_numbers e next (take (j + 1) (drop at W)) ≡ edge_numbers e next (take j (drop at W)) ++ picked e (get_or W (at + j) 0) (next + j)
      unfolding edge_numbers
      one_more =
          let n : j < length (drop at W) = omega (arith, length-drop at W, r.words) in
          ap (edge_numbers e next) (stretch_more W at j 0 (omega (arith, r.words)))
          ∙ numbers_append e next (take j (drop at W)) (get_or W (at + j) 0 ∷ [])
          ∙ ap (λ (v : List ℕ). edge_numbers e next (take j (drop at W)) ++ v)
          (append-nil (picked e (get_or W (at + j) 0) (next + length (take j (drop at W))))
          ∙ ap (λ (n : ℕ). picked e (get_or W (at + j) 0) (next + n)) (length-take-le j (drop at W) (omega arith)))

      -- there is room for it
      pub entry_ready : PickReady W (at + j) e (next + j) g new
      entry_ready =
          record {
            inside = omega (arith, r.words);
            room =
                record {
                  room =
                      omega (
                        arith,
                        r.room.room,
                        s.done.moved,
                        s.done.long,
                        ap length one_more,
                        length-append (edge_numbers e next (take j (drop at W))) (picked e (get_or W (at + j) 0) (next + j)),
                        numbers_front e next (j + 1) (take count (drop at W)),
                        ap (λ (v : List ℕ). length (edge_numbers e next v)) (take-take (j + 1) count (drop at W) (omega arith)),
                      );
                };
          }

      -- one entry more
      pub pushing_more : {new' : List ℕ} {g' : Fan} → Pushed a g (picked e (get_or W (at + j) 0) (next + j)) new new' g' → Pushing a W at count e next f out (j + 1) new' g'
      pushing_more {new'} {g'} p =
          record {
            low = omega arith;
            done = subst (λ (v : List ℕ). Pushed a f v out new' g') (sym one_more) (pushed_then s.done p);
          }

-- ---- the whole fan

-- the state before the first vertex
abbrev empty : ℕ → Fan
empty o = record { o = o; last = None }

module _ {a b c next : ℕ} {W : List ℕ} {at kept o : ℕ} {out : List ℕ} (r : FanReady a b c next W at kept o out) {ts count : ℕ} (n : Held W ts kept count) where
  -- the words of the entries
  abbrev X : List ℕ
  X = take count (drop at W)

  few : length (edge_numbers 0 next X) + length (edge_numbers 1 next X) + length (edge_numbers 2 next X) ≤ count
  few = omega (arith, numbers_few next X, length-take-le count (drop at W) (omega (arith, n.few, r.words, length-drop at W)))

  -- the ring behind corner a
  abbrev Y : List ℕ
  Y = edge_numbers 0 next X ++ (b ∷ edge_numbers 1 next X) ++ (c ∷ edge_numbers 2 next X)

  numbers : (e : ℕ) → numbers_of e next (edges_of (entries_in W at ts kept)) ≡ edge_numbers e next X
  numbers e =
      numbers_are e next (take kept (drop at W)) (take kept (drop ts W))
      ∙ ap (λ (k : ℕ). edge_numbers e next (take k (take kept (drop at W)))) (sym n.all)
      ∙ ap (edge_numbers e next) (take-take count kept (drop at W) n.few)

  pub ready_0 : EdgeReady W at count 0 next (empty o) out
  ready_0 =
      record {
        words = omega (arith, n.few, r.words);
        small = omega (arith, n.few, r.small);
        room = record { room = omega (arith, n.few, few, r.room) };
      }

  module _ {A : List ℕ} {f : Fan} (p : Pushed a (empty o) (edge_numbers 0 next X) out A f) where
    pub room_b : PushRoom f 1 A
    room_b = record { room = omega (arith, n.few, few, r.room, p.moved, p.long) }

    module _ {B : List ℕ} {g : Fan} (pb : Pushed a f (b ∷ []) A B g) where
      pub ready_1 : EdgeReady W at count 1 next g B
      ready_1 =
          record {
            words = omega (arith, n.few, r.words);
            small = omega (arith, n.few, r.small);
            room = record { room = omega (arith, n.few, few, r.room, p.moved, p.long, pb.moved, pb.long) };
          }

      module _ {C : List ℕ} {h : Fan} (q : Pushed a g (edge_numbers 1 next X) B C h) where
        pub room_c : PushRoom h 1 C
        room_c = record { room = omega (arith, n.few, few, r.room, p.moved, p.long, pb.moved, pb.long, q.moved, q.long) }

        module _ {D : List ℕ} {i : Fan} (qc : Pushed a h (c ∷ []) C D i) where
          pub ready_2 : EdgeReady W at count 2 next i D
          ready_2 =
              record {
                words = omega (arith, n.few, r.words);
                small = omega (arith, n.few, r.small);
                room = record { room = omega (arith, n.few, few, r.room, p.moved, p.long, pb.moved, pb.long, q.moved, q.long, qc.moved, qc.long) };
              }

          -- all is pushed
          pub fan_written : {E : List ℕ} {k : Fan} → Pushed a i (edge_numbers 2 next X) D E k → FanWritten a b c next W at ts kept o out E k.o
          fan_written {E} {k} s =
              record {
                fan_is = whole.written;
                end_is = whole.end_is;
                few = omega (arith, n.few, few, pushed.end_is, size, first_none a Y (omega (arith, size)));
              }
            where
              size : length Y ≡ length (edge_numbers 0 next X) + length (edge_numbers 1 next X) + length (edge_numbers 2 next X) + 2
              size = omega (arith, length-append (edge_numbers 0 next X ++ (b ∷ edge_numbers 1 next X)) (c ∷ edge_numbers 2 next X), length-append (edge_numbers 0 next X) (b ∷ edge_numbers 1 next X))

              pushed : Pushed a (empty o) Y out E k
              pushed = pushed_then (pushed_then p (pushed_then pb q)) (pushed_then qc s)

              ring : Y ≡ ring_after b c next (entries_in W at ts kept)
              ring =
                  ap (λ (v : List ℕ). v ++ (b ∷ edge_numbers 1 next X) ++ (c ∷ edge_numbers 2 next X)) (sym (numbers 0))
                  ∙ ap (λ (v : List ℕ). numbers_of 0 next (edges_of (entries_in W at ts kept)) ++ (b ∷ v) ++ (c ∷ edge_numbers 2 next X)) (sym (numbers 1))
                  ∙ ap (λ (v : List ℕ). numbers_of 0 next (edges_of (entries_in W at ts kept)) ++ (b ∷ numbers_of 1 next (edges_of (entries_in W at ts kept))) ++ (c ∷ v)) (sym (numbers 2))

              whole : Pushed a (empty o) (ring_after b c next (entries_in W at ts kept)) out E k
              whole = subst (λ (v : List ℕ). Pushed a (empty o) v out E k) ring pushed
