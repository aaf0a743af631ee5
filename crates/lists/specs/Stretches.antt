-- Stretches of a list: what is read of one, what stays as it was, and a part that was lent and came back. Assumes nothing.
use Rattle.std.specs.Prelude.{◌≡◌, refl, List, [], ◌∷◌, ◌++◌, ℕ, zero, suc, ◌+◌, ◌-◌, ◌<◌, ◌≤◌, length, get_or, take, drop}
use Rattle.std.proofs.Common.{sym, ap, ◌∙◌, append_assoc, add-one, arith, length-drop, take-suc, drop-cons, get_or-take, get_or-drop, take-take, drop-drop, take_at, drop_at, length-take-le}
use Rattle.std.proofs.Math.ListN.{get_or-append}
use Rattle.std.proofs.lemmas.List.Edits.{sets, sets-eq}
use Rattle.std.proofs.lemmas.List.{take-append-le, drop-append-le}
use borrow.Rule.Slice.PartMut.{mid_of, post_of, put_mid, take_put, drop_put, mid_len}

module _ {A : Type 0} where
  -- a stretch of a list's front is that stretch of the list
  pub stretch_front : (k n j : ℕ) (l : List A) → k + n ≤ j → take n (drop k (take j l)) ≡ take n (drop k l)
  stretch_front zero n j l h = take-take n j l (omega arith)
  stretch_front (suc k) n zero l h = absurd (omega arith)
  stretch_front (suc k) n (suc j) [] h = refl
  stretch_front (suc k) n (suc j) (x ∷ l) h = stretch_front k n j l (omega arith)

  -- a stretch of the front is as it was
  pub stretch_kept : (k n b : ℕ) (W E : List A) → take b E ≡ take b W → k + n ≤ b → take n (drop k E) ≡ take n (drop k W)
  stretch_kept k n b W E e l = sym (stretch_front k n b E l) ∙ ap (λ (x : List A). take n (drop k x)) e ∙ stretch_front k n b W l

  -- a shorter front is as it was
  pub front_less : (j q : ℕ) (W E : List A) → take q E ≡ take q W → j ≤ q → take j E ≡ take j W
  front_less j q W E e l = sym (take-take j q E l) ∙ ap (take j) e ∙ take-take j q W l

  -- what ends later is as it was
  pub rest_less : (b d : ℕ) (W E : List A) → drop b E ≡ drop b W → b ≤ d → drop d E ≡ drop d W
  rest_less b d W E e l =
      let gap : b + (d - b) ≡ d = omega arith in
      ap (λ (k : ℕ). drop k E) (sym gap)
      ∙ sym (drop-drop (d - b) b E)
      ∙ ap (drop (d - b)) e
      ∙ drop-drop (d - b) b W
      ∙ ap (λ (k : ℕ). drop k W) gap

  -- a word of the front is as it was
  pub front_at : (q k : ℕ) (W E : List A) (x : A) → take q E ≡ take q W → k < q → get_or E k x ≡ get_or W k x
  front_at q k W E x e l = sym (get_or-take q E k x l) ∙ ap (λ (v : List A). get_or v k x) e ∙ get_or-take q W k x l

  -- a word behind what was written is as it was
  pub rest_at : (b k : ℕ) (W E : List A) (x : A) → drop b E ≡ drop b W → b ≤ k → get_or E k x ≡ get_or W k x
  rest_at b k W E x e l =
      let gap : b + (k - b) ≡ k = omega arith in
      ap (λ (n : ℕ). get_or E n x) (sym gap)
      ∙ sym (get_or-drop b E (k - b) x)
      ∙ ap (λ (v : List A). get_or v (k - b) x) e
      ∙ get_or-drop b W (k - b) x
      ∙ ap (λ (n : ℕ). get_or W n x) gap

  -- a word of a stretch
  pub stretch_at : (k n : ℕ) (W : List A) (j : ℕ) (x : A) → j < n → get_or (take n (drop k W)) j x ≡ get_or W (k + j) x
  stretch_at k n W j x l = get_or-take n (drop k W) j x l ∙ get_or-drop k W j x

  -- the stretch from k up to `to` begins with word k
  pub stretch_cons : (W : List A) (k to : ℕ) (x : A) → k < to → to ≤ length W → take (to - k) (drop k W) ≡ get_or W k x ∷ take (to - (k + 1)) (drop (k + 1) W)
  stretch_cons W k to x l h =
      let e : to - k ≡ suc (to - (k + 1)) = omega arith in
      let f : suc k ≡ k + 1 = omega arith in
      ap (λ (n : ℕ). take n (drop k W)) e ∙ ap (take (suc (to - (k + 1)))) (drop-cons W k x (omega arith)) ∙ ap (λ (n : ℕ). get_or W k x ∷ take (to - (k + 1)) (drop n W)) f

  -- and with the two behind it
  pub stretch_three : (W : List A) (k to : ℕ) (x : A) → k + 3 ≤ to → to ≤ length W
      → take (to - k) (drop k W) ≡ get_or W k x ∷ get_or W (k + 1) x ∷ get_or W (k + 2) x ∷ take (to - (k + 3)) (drop (k + 3) W)
  stretch_three W k to x l h =
      let e : k + 1 + 1 ≡ k + 2 = omega arith in
      let f : k + 2 + 1 ≡ k + 3 = omega arith in
      stretch_cons W k to x (omega arith) h
      ∙ ap (λ (v : List A). get_or W k x ∷ v) (stretch_cons W (k + 1) to x (omega arith) h ∙ ap (λ (n : ℕ). get_or W (k + 1) x ∷ take (to - n) (drop n W)) e)
      ∙ ap (λ (v : List A). get_or W k x ∷ get_or W (k + 1) x ∷ v) (stretch_cons W (k + 2) to x (omega arith) h ∙ ap (λ (n : ℕ). get_or W (k + 2) x ∷ take (to - n) (drop n W)) f)

  -- the same for the words from `at` on, by their places behind it
  pub stretch_three_at : (W : List A) (at k to : ℕ) (x : A) → k + 3 ≤ to → at + to ≤ length W
      → take (to - k) (drop (at + k) W) ≡ get_or W (at + k) x ∷ get_or W (at + k + 1) x ∷ get_or W (at + k + 2) x ∷ take (to - (k + 3)) (drop (at + (k + 3)) W)
  stretch_three_at W at k to x l h =
      let e : at + to - (at + k) ≡ to - k = omega arith in
      let f : at + to - (at + k + 3) ≡ to - (k + 3) = omega arith in
      let g : at + k + 3 ≡ at + (k + 3) = omega arith in
      ap (λ (n : ℕ). take n (drop (at + k) W)) (sym e)
      ∙ stretch_three W (at + k) (at + to) x (omega arith) h
      ∙ (λ i. get_or W (at + k) x ∷ get_or W (at + k + 1) x ∷ get_or W (at + k + 2) x ∷ take (f i) (drop (g i) W))

  -- behind the first n words of a stretch stands the next
  pub stretch_more : (W : List A) (k n : ℕ) (x : A) → k + n < length W → take (n + 1) (drop k W) ≡ take n (drop k W) ++ get_or W (k + n) x ∷ []
  stretch_more W k n x l =
      ap (λ (m : ℕ). take m (drop k W)) (add-one n)
      ∙ take-suc (drop k W) n x (omega (arith, length-drop k W))
      ∙ ap (λ (y : A). take n (drop k W) ++ y ∷ []) (get_or-drop k W n x)

  -- where a run of stores stands is what was stored
  pub stretch_sets : (W : List A) (at : ℕ) (vs : List A) (n : ℕ) → length vs ≡ n → at + n ≤ length W → take n (drop at (sets W at vs)) ≡ vs
  stretch_sets W at vs n e l =
      ap (λ (v : List A). take n (drop at v)) (sets-eq vs W at (omega arith) ∙ append_assoc (take at W) vs (drop (at + length vs) W))
      ∙ ap (take n) (drop_at (take at W) (vs ++ drop (at + length vs) W) at (length-take-le at W (omega arith)))
      ∙ take_at vs (drop (at + length vs) W) n e

  -- a part of a list, from b up to e, came back as ys
  module _ (b e : ℕ) (W ys : List A) (lo : b ≤ e) (hi : e ≤ length W) (l : length ys ≡ length (mid_of b (e - b) W)) where
    -- it is as long as it was
    pub part_long : length ys ≡ e - b
    part_long = l ∙ mid_len b e W hi

    part_tail : drop b (put_mid b (e - b) W ys) ≡ ys ++ post_of b (e - b) W
    part_tail = drop_at (take b W) (ys ++ post_of b (e - b) W) b (length-take-le b W (omega arith))

    -- a stretch of it stands in the list
    pub part_stretch : (k n : ℕ) → k + n ≤ e - b → take n (drop (b + k) (put_mid b (e - b) W ys)) ≡ take n (drop k ys)
    part_stretch k n h =
        ap (take n)
        (sym (drop-drop k b (put_mid b (e - b) W ys)) ∙ ap (drop k) part_tail ∙ drop-append-le k ys (post_of b (e - b) W) (omega (arith, part_long)))
        ∙ take-append-le n (drop k ys) (post_of b (e - b) W) (omega (arith, part_long, length-drop k ys))

    -- a word of it stands in the list
    pub part_at : (j : ℕ) (x : A) → j < e - b → get_or (put_mid b (e - b) W ys) (b + j) x ≡ get_or ys j x
    part_at j x h =
        sym (get_or-drop b (put_mid b (e - b) W ys) j x)
        ∙ ap (λ (v : List A). get_or v j x) part_tail
        ∙ get_or-append ys (post_of b (e - b) W) x j (omega (arith, part_long))

    -- what lies in front of it is as it was
    pub part_front : take b (put_mid b (e - b) W ys) ≡ take b W
    part_front = take_put b (e - b) W ys (omega arith)

    -- so is what lies behind it
    pub part_rest : drop e (put_mid b (e - b) W ys) ≡ drop e W
    part_rest = drop_put b e W ys lo hi part_long
