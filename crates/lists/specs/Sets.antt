-- A run of stores, `sets l i vs`: what is read after it, and runs that follow one another. Assumes nothing.
use Rattle.std.specs.Prelude.{◌≡◌, refl, List, [], ◌∷◌, ◌++◌, ℕ, zero, suc, ◌+◌, ◌≤◌, ◌<◌, length, get_or, set, take, drop}
use Rattle.std.proofs.Common.{sym, ap, ◌∙◌, append_assoc, add-zero, add-suc, suc-add, arith, length-set, get_or-set_same, get_or-set_other, take-take, drop-drop, drop-set-lt}
use Rattle.std.proofs.lemmas.List.Edits.{sets, sets-eq}
use Rattle.std.proofs.lemmas.List.{take-set-le}
use borrow.Rule.Slice.PartMut.{put_mid}

module _ {A : Type 0} where
  -- below the run nothing changed
  pub get_d_sets_below : (l : List A) (i : ℕ) (vs : List A) (k : ℕ) (d : A) → k < i → get_or (sets l i vs) k d ≡ get_or l k d
  get_d_sets_below l i [] k d h = refl
  get_d_sets_below l i (a ∷ vs) k d h = get_d_sets_below (set l i a) (suc i) vs k d (omega arith) ∙ get_or-set_other l i k a d (omega arith)

  -- beyond the run nothing changed
  pub get_d_sets_beyond : (l : List A) (i : ℕ) (vs : List A) (k : ℕ) (d : A) → i + length vs ≤ k → get_or (sets l i vs) k d ≡ get_or l k d
  get_d_sets_beyond l i [] k d h = refl
  get_d_sets_beyond l i (a ∷ vs) k d h = get_d_sets_beyond (set l i a) (suc i) vs k d (omega arith) ∙ get_or-set_other l i k a d (omega arith)

  -- in the run stands what was stored
  pub get_d_sets_in : (l : List A) (i : ℕ) (vs : List A) (j : ℕ) (d : A) → j < length vs → i + j < length l → get_or (sets l i vs) (i + j) d ≡ get_or vs j d
  get_d_sets_in l i [] j d h k = absurd (omega arith)
  get_d_sets_in l i (a ∷ vs) zero d h k =
      ap (λ (n : ℕ). get_or (sets (set l i a) (suc i) vs) n d) (add-zero i)
      ∙ get_d_sets_below (set l i a) (suc i) vs i d (omega arith)
      ∙ get_or-set_same l i a d (omega arith)
  get_d_sets_in l i (a ∷ vs) (suc j) d h k =
      ap (λ (n : ℕ). get_or (sets (set l i a) (suc i) vs) n d) (add-suc i j ∙ sym (suc-add i j))
      ∙ get_d_sets_in (set l i a) (suc i) vs j d (omega arith) (simp length-set (omega arith))

  -- a run behind a run is one run
  pub sets_append : (l : List A) (i : ℕ) (xs ys : List A) → sets l i (xs ++ ys) ≡ sets (sets l i xs) (i + length xs) ys
  sets_append l i [] ys = ap (λ (n : ℕ). sets l n ys) (sym (add-zero i))
  sets_append l i (x ∷ xs) ys =
      sets_append (set l i x) (suc i) xs ys
      ∙ ap (λ (n : ℕ). sets (sets (set l i x) (suc i) xs) n ys) (suc-add i (length xs) ∙ sym (add-suc i (length xs)))

  -- what lies in front of a run is as it was
  pub take_sets : (l : List A) (i : ℕ) (vs : List A) → take i (sets l i vs) ≡ take i l
  take_sets l i [] = refl
  take_sets l i (a ∷ vs) = sym (take-take i (suc i) (sets (set l i a) (suc i) vs) (omega arith)) ∙ ap (take i) (take_sets (set l i a) (suc i) vs) ∙ take-take i (suc i) (set l i a) (omega arith)
      ∙ take-set-le i l i a (omega arith)

  -- what lies behind a run is as it was
  pub drop_sets : (l : List A) (i : ℕ) (vs : List A) (k : ℕ) → i + length vs ≤ k → drop k (sets l i vs) ≡ drop k l
  drop_sets l i [] k h = refl
  drop_sets l i (a ∷ vs) k h = drop_sets (set l i a) (suc i) vs k (omega arith) ∙ drop-set-lt k l i a (omega arith)

  -- a store behind a run lengthens it
  stored_more : (l : List A) (i : ℕ) (vs : List A) (v : A) → set (sets l i vs) (i + length vs) v ≡ sets l i (vs ++ v ∷ [])
  stored_more l i vs v = sym (sets_append l i vs (v ∷ []))

  -- three stores in turn are a run
  pub three_stored : (l : List A) (i : ℕ) (a b c : A) → set (set (set l i a) (i + 1) b) (i + 2) c ≡ sets l i (a ∷ b ∷ c ∷ [])
  three_stored l i a b c = ap (λ (m : List A). set m (i + 2) c) (stored_more l i (a ∷ []) b) ∙ stored_more l i (a ∷ b ∷ []) c

  -- so are four
  pub four_stored : (l : List A) (i : ℕ) (a b c d : A) → set (set (set (set l i a) (i + 1) b) (i + 2) c) (i + 3) d ≡ sets l i (a ∷ b ∷ c ∷ d ∷ [])
  four_stored l i a b c d = ap (λ (m : List A). set m (i + 3) d) (three_stored l i a b c) ∙ stored_more l i (a ∷ b ∷ c ∷ []) d

  -- and five
  pub five_stored : (l : List A) (i : ℕ) (a b c d e : A) → set (set (set (set (set l i a) (i + 1) b) (i + 2) c) (i + 3) d) (i + 4) e ≡ sets l i (a ∷ b ∷ c ∷ d ∷ e ∷ [])
  five_stored l i a b c d e = ap (λ (m : List A). set m (i + 4) e) (four_stored l i a b c d) ∙ stored_more l i (a ∷ b ∷ c ∷ d ∷ []) e

  -- a part that was lent and came back with ys is a run of stores
  pub part_sets : (l : List A) (i n : ℕ) (ys : List A) → length ys ≡ n → i + n ≤ length l → put_mid i n l ys ≡ sets l i ys
  part_sets l i n ys e h =
      ap (λ (zs : List A). take i l ++ (ys ++ zs)) (drop-drop n i l ∙ ap (λ (m : ℕ). drop (i + m) l) (sym e))
      ∙ sym (append_assoc (take i l) ys (drop (i + length ys) l))
      ∙ sym (sets-eq ys l i (omega arith))
