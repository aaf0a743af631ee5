-- Laws of the loops over one row's triangles, whatever word they write for a use. Assumes nothing.
use mathlib.Core.Path.{◌≡◌, refl, sym, ap, ◌∙◌, subst}
use mathlib.Core.List.{List, [], ◌∷◌, ◌++◌, map, append_assoc, append-nil, map-append}
use Prim.Native.Nat.{ℕ, suc, ◌+◌, ◌-◌, ◌%◌, ◌≤◌, ◌<◌}
use native.Mathlib.Omega.{arith}
use lib.ListN.{length, get_or, take, drop, length-append}
use lib.Seq.{sets, length-sets, drop-cons, get_or-drop}
use Rattle.lists.specs.Sets.{get_d_sets_below, sets_append}
use Rattle.body_rows.specs.Body.{triangles_of}
use Rattle.edge_uses.specs.Edges.{Use, triangle_uses}
use Rattle.edge_uses.specs.Named.{PointReady, Low, RowReady}
use Rattle.edge_uses.proofs.UseLaws.{length_named}

-- the uses of the triangles whose indices stand from k up to `to`
abbrev pub uses_between : List ℕ → List ℕ → ℕ → ℕ → ℕ → List Use
uses_between is P shell k to = triangle_uses shell 0 P (triangles_of (take (to - k) (drop k is)))

-- with the words of the triangles before index k written: W became w
pub record Writing (word : Use → ℕ) (is W : List ℕ) (points from to at shell k : ℕ) (w : List ℕ) : Type 0 where
  pub done : List Use
  pub low : from ≤ k
  pub high : k ≤ to
  pub whole : (to - k) % 3 ≡ 0
  pub count : from + length done ≡ k
  pub list : w ≡ sets W (at + from) (map word done)
  pub long : length w ≡ length W
  pub rest : done ++ uses_between is (drop points W) shell k to ≡ uses_between is (drop points W) shell from to

pub writing_none : (word : Use → ℕ) (shell : ℕ) {is W : List ℕ} {points vertices from to at : ℕ} → RowReady is W points vertices from to at → Writing word is W points from to at shell from W
writing_none word shell r = record { done = []; low = omega arith; high = r.ordered; whole = r.whole; count = omega arith; list = refl; long = refl; rest = refl }

-- three indices, and those after them
take_three : (is : List ℕ) (k to : ℕ) → k + 3 ≤ to → to ≤ length is
    → take (to - k) (drop k is) ≡ get_or is k 0 ∷ get_or is (k + 1) 0 ∷ get_or is (k + 2) 0 ∷ take (to - (k + 3)) (drop (k + 3) is)
take_three is k to h l =
    let e : to - k ≡ suc (suc (suc (to - (k + 3)))) = omega arith in
    let a : k < length is = omega arith in
    let b : suc k < length is = omega arith in
    let c : suc (suc k) < length is = omega arith in
    let e1 : suc k ≡ k + 1 = omega arith in
    let e2 : suc (suc k) ≡ k + 2 = omega arith in
    let e3 : suc (suc (suc k)) ≡ k + 3 = omega arith in
    ap (λ (n : ℕ). take n (drop k is)) e
    ∙ ap (λ (l : List ℕ). take (suc (suc (suc (to - (k + 3))))) l) (drop-cons is k 0 a)
    ∙ ap (λ (l : List ℕ). get_or is k 0 ∷ take (suc (suc (to - (k + 3)))) l) (drop-cons is (suc k) 0 b)
    ∙ ap (λ (l : List ℕ). get_or is k 0 ∷ get_or is (suc k) 0 ∷ take (suc (to - (k + 3))) l) (drop-cons is (suc (suc k)) 0 c)
    ∙ ap (λ (n : ℕ). get_or is k 0 ∷ get_or is n 0 ∷ get_or is (suc (suc k)) 0 ∷ take (to - (k + 3)) (drop (suc (suc (suc k))) is)) e1
    ∙ ap (λ (n : ℕ). get_or is k 0 ∷ get_or is (k + 1) 0 ∷ get_or is n 0 ∷ take (to - (k + 3)) (drop (suc (suc (suc k))) is)) e2
    ∙ ap (λ (n : ℕ). get_or is k 0 ∷ get_or is (k + 1) 0 ∷ get_or is (k + 2) 0 ∷ take (to - (k + 3)) (drop n is)) e3

-- a use between two points
abbrev pub use_of : ℕ → ℕ → ℕ → Use
use_of shell a b = record { shell = shell; row = 0; start = a; end = b }

-- the uses of the triangle at index k, and those after it
uses_three : (is P : List ℕ) (shell k to : ℕ) → k + 3 ≤ to → to ≤ length is
    → uses_between is P shell k to
    ≡ use_of shell (get_or P (get_or is k 0) 0) (get_or P (get_or is (k + 1) 0) 0)
    ∷ use_of shell (get_or P (get_or is (k + 1) 0) 0) (get_or P (get_or is (k + 2) 0) 0)
    ∷ use_of shell (get_or P (get_or is (k + 2) 0) 0) (get_or P (get_or is k 0) 0)
    ∷ uses_between is P shell (k + 3) to
unfolding triangle_uses triangles_of
uses_three is P shell k to h l = ap (λ (xs : List ℕ). triangle_uses shell 0 P (triangles_of xs)) (take_three is k to h l)

module _ {word : Use → ℕ} {is W w : List ℕ} {points vertices from to at shell k : ℕ} (r : RowReady is W points vertices from to at) (n : Writing word is W points from to at shell k w)
    (more : k < to) where
  three : k + 3 ≤ to
  three = omega (arith, n.whole)

  -- what is read of a vertex's point has not been written
  read : (j : ℕ) → k ≤ j → j < k + 3 → get_or w (points + get_or is j 0) 0 ≡ get_or W (points + get_or is j 0) 0
  read j a b =
      ap (λ (l : List ℕ). get_or l (points + get_or is j 0) 0) n.list
      ∙ get_d_sets_below W (at + from) (map word n.done) (points + get_or is j 0) 0 (omega (arith, r.apart, r.below j (omega (arith, n.low)) (omega (arith, three))))

  ready : (j : ℕ) → k ≤ j → j < k + 3 → PointReady is w points j
  ready j a b =
      record {
        inside = omega (arith, r.inside, three);
        room = omega (arith, r.room, r.apart, n.low, n.long, r.below j (omega (arith, n.low)) (omega (arith, three)));
      }

  pub point_ready_0 : PointReady is w points k
  point_ready_0 = ready k (omega arith) (omega arith)

  pub point_ready_1 : PointReady is w points (k + 1)
  point_ready_1 = ready (k + 1) (omega arith) (omega arith)

  pub point_ready_2 : PointReady is w points (k + 2)
  point_ready_2 = ready (k + 2) (omega arith) (omega arith)

  pub three_room : at + k + 3 ≤ length w
  three_room = omega (arith, r.room, three, n.long)

  point_low : (j : ℕ) → k ≤ j → j < k + 3 → get_or w (points + get_or is j 0) 0 < 262144
  point_low j a b = subst (λ (x : ℕ). x < 262144) (sym (read j a b)) (r.low (get_or is j 0) (r.below j (omega (arith, n.low)) (omega (arith, three))))

  module _ {a b c : ℕ} (ea : a ≡ get_or w (points + get_or is k 0) 0) (eb : b ≡ get_or w (points + get_or is (k + 1) 0) 0) (ec : c ≡ get_or w (points + get_or is (k + 2) 0) 0) where
    pub points_low : Low a b c
    points_low =
        record {
          a_low = subst (λ (x : ℕ). x < 262144) (sym ea) (point_low k (omega arith) (omega arith));
          b_low = subst (λ (x : ℕ). x < 262144) (sym eb) (point_low (k + 1) (omega arith) (omega arith));
          c_low = subst (λ (x : ℕ). x < 262144) (sym ec) (point_low (k + 2) (omega arith) (omega arith));
        }

    pub writing_more : {v : List ℕ} → v ≡ sets w (at + k) (word (use_of shell a b) ∷ word (use_of shell b c) ∷ word (use_of shell c a) ∷ [])
        → Writing word is W points from to at shell (k + 3) v
    writing_more {v} e =
        record {
          done = n.done ++ us;
          low = omega (arith, n.low);
          high = three;
          whole = omega (arith, n.whole);
          count = omega (arith, n.count, length-append n.done us);
          list =
              e
              ∙ ap (λ (l : List ℕ). sets l (at + k) (map word us)) n.list
              ∙ ap (λ (m : ℕ). sets (sets W (at + from) (map word n.done)) m (map word us)) place
              ∙ sym (sets_append W (at + from) (map word n.done) (map word us))
              ∙ ap (sets W (at + from)) (sym (map-append word n.done us));
          long = ap length e ∙ length-sets w (at + k) (map word us) ∙ n.long;
          rest = append_assoc n.done us (uses_between is P shell (k + 3) to) ∙ ap (λ (l : List Use). n.done ++ l) (sym here) ∙ n.rest;
        }
      where
        P : List ℕ
        P = drop points W

        us : List Use
        us = use_of shell a b ∷ use_of shell b c ∷ use_of shell c a ∷ []

        point : (j : ℕ) → k ≤ j → j < k + 3 → (x : ℕ) → x ≡ get_or w (points + get_or is j 0) 0 → get_or P (get_or is j 0) 0 ≡ x
        point j p q x g = get_or-drop points W (get_or is j 0) 0 ∙ sym (g ∙ read j p q)

        place : at + k ≡ at + from + length (map word n.done)
        place = omega (arith, n.count, length_named word n.done)

        here : uses_between is P shell k to ≡ us ++ uses_between is P shell (k + 3) to
        here =
            uses_three is P shell k to three r.inside
            ∙ ap (λ (x : ℕ). use_of shell x (get_or P (get_or is (k + 1) 0) 0) ∷ use_of shell (get_or P (get_or is (k + 1) 0) 0) (get_or P (get_or is (k + 2) 0) 0) ∷ use_of shell (get_or P (get_or is (k + 2) 0) 0) x
            ∷ uses_between is P shell (k + 3) to) (point k (omega arith) (omega arith) a ea)
            ∙ ap (λ (x : ℕ). use_of shell a x ∷ use_of shell x (get_or P (get_or is (k + 2) 0) 0) ∷ use_of shell (get_or P (get_or is (k + 2) 0) 0) a ∷ uses_between is P shell (k + 3) to)
            (point (k + 1) (omega arith) (omega arith) b eb)
            ∙ ap (λ (x : ℕ). use_of shell a b ∷ use_of shell b x ∷ use_of shell x a ∷ uses_between is P shell (k + 3) to) (point (k + 2) (omega arith) (omega arith) c ec)

pub writing_all : {word : Use → ℕ} {is W w : List ℕ} {points from to at shell k : ℕ} → Writing word is W points from to at shell k w → to ≤ k
    → w ≡ sets W (at + from) (map word (uses_between is (drop points W) shell from to))
unfolding triangle_uses triangles_of
writing_all {word} {is} {W} {w} {points} {from} {to} {at} {shell} {k} n h =
    n.list ∙ ap (λ (l : List Use). sets W (at + from) (map word l)) (sym (append-nil n.done) ∙ ap (λ (l : List Use). n.done ++ l) (sym none) ∙ n.rest)
  where
    none : uses_between is (drop points W) shell k to ≡ []
    none =
        let e : to - k ≡ 0 = omega arith in
        ap (λ (m : ℕ). triangle_uses shell 0 (drop points W) (triangles_of (take m (drop k is)))) e
