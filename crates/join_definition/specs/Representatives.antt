-- Laws of representatives: the first item of the name of an item. Assumes nothing.
use Rattle.std.specs.Prelude.{◌≡◌, Bool, true, false}
use Rattle.std.proofs.Math.Path.{refl, sym, ap}
use Rattle.std.proofs.Common.{subst, ◌∙◌, arith, not-suc-le-zero, le_of_suc-le-suc, ext_get_or, eq-eqb, ne_eqb}
use mathlib.Core.List.{List, [], ◌∷◌, map}
use Prim.Native.Nat.{ℕ, zero, suc, ◌<◌, ◌≤◌}
use Rattle.std.proofs.Math.Decide.{ℕ_discrete, dec_lt}
use Rattle.std.proofs.Math.ListN.{length, get_or, length-map, get_or-eq_default}
use Rattle.join_definition.specs.Join.{index_of, joined, first_index, IsFirst}

-- ---- where a name stands first

-- here
index_here : (x y : ℕ) (ys : List ℕ) → x ≡ y → index_of x (y ∷ ys) ≡ 0
unfolding index_of
index_here x y ys e = subst (λ (b : Bool). ◌≡◌ {A = ℕ} (elim b [ true ↦ 0 | false ↦ suc (index_of x ys) ]) 0) (sym (eq-eqb x y e)) refl

-- later
index_there : (x y : ℕ) (ys : List ℕ) → (x ≡ y → ⊥) → index_of x (y ∷ ys) ≡ suc (index_of x ys)
unfolding index_of
index_there x y ys n =
    subst (λ (b : Bool). ◌≡◌ {A = ℕ} (elim b [ true ↦ 0 | false ↦ suc (index_of x ys) ]) (suc (index_of x ys))) (sym (ne_eqb x y n)) refl

-- at the first item that has it
pub index_is : (x : ℕ) (ns : List ℕ) (j : ℕ) → j < length ns → get_or ns j 0 ≡ x → ((k : ℕ) → k < j → get_or ns k 0 ≡ x → ⊥) → j ≡ index_of x ns
index_is x [] j l e f = absurd (not-suc-le-zero l)
index_is x (y ∷ ys) zero l e f = sym (index_here x y ys (sym e))
index_is x (y ∷ ys) (suc j) l e f =
    ap suc (index_is x ys j (le_of_suc-le-suc l) e (λ k m. f (suc k) (omega arith))) ∙ sym (index_there x y ys (λ q. f 0 (omega arith) (sym q)))

-- an item has it: the first that has it is not behind, and has it
pub record Found (x : ℕ) (ns : List ℕ) (k : ℕ) : Type 0 where
  pub low : index_of x ns ≤ k
  pub same : get_or ns (index_of x ns) 0 ≡ x

-- the first place is found
pub index_found : (x : ℕ) (ns : List ℕ) (k : ℕ) → k < length ns → get_or ns k 0 ≡ x → Found x ns k
index_found x [] k l e = absurd (not-suc-le-zero l)
index_found x (y ∷ ys) k l e = go k l e (ℕ_discrete x y) (λ j. index_found x ys j)
  where
    here : (k : ℕ) → x ≡ y → Found x (y ∷ ys) k
    here k p =
        record {
          low = omega (arith, index_here x y ys p);
          same = ap (λ (j : ℕ). get_or (y ∷ ys) j 0) (index_here x y ys p) ∙ sym p;
        }

    go : (k : ℕ) → k < length (y ∷ ys) → get_or (y ∷ ys) k 0 ≡ x → Dec (x ≡ y) → ((j : ℕ) → j < length ys → get_or ys j 0 ≡ x → Found x ys j) → Found x (y ∷ ys) k
    go k l e (yes p) more = here k p
    go zero l e (no n) more = absurd (n (sym e))
    go (suc k) l e (no n) more =
        let f = more k (le_of_suc-le-suc l) e in
        record {
          low = omega (arith, index_there x y ys n, f.low);
          same = ap (λ (j : ℕ). get_or (y ∷ ys) j 0) (index_there x y ys n) ∙ f.same;
        }

-- ---- the representative of an item
module _ (ns : List ℕ) where
  -- an item that is the first of the name is it
  pub first_is : (k j : ℕ) → k < length ns → IsFirst ns k j → j ≡ first_index ns k
  unfolding first_index
  first_is k j l i =
      index_is (get_or ns k 0) ns j (omega (arith, i.low)) i.same (λ m lm q. i.first m lm (q ∙ sym i.same))

  -- it is not behind the item
  pub rep_low : (i : ℕ) → i < length ns → first_index ns i ≤ i
  unfolding first_index
  rep_low i l = (index_found (get_or ns i 0) ns i l refl).low

  -- it is one of the items
  pub rep_below : (i : ℕ) → i < length ns → first_index ns i < length ns
  rep_below i l = omega (arith, rep_low i l)

  -- it has the item's name
  pub rep_name : (i : ℕ) → i < length ns → get_or ns (first_index ns i) 0 ≡ get_or ns i 0
  unfolding first_index
  rep_name i l = (index_found (get_or ns i 0) ns i l refl).same

  -- items of one name have one representative
  pub same_name_rep : (i j : ℕ) → get_or ns i 0 ≡ get_or ns j 0 → first_index ns i ≡ first_index ns j
  unfolding first_index
  same_name_rep i j e = ap (λ (x : ℕ). index_of x ns) e

  -- items of one representative have one name
  pub same_rep_name : (i j : ℕ) → i < length ns → j < length ns → first_index ns i ≡ first_index ns j → get_or ns i 0 ≡ get_or ns j 0
  same_rep_name i j li lj e = sym (rep_name i li) ∙ ap (λ (k : ℕ). get_or ns k 0) e ∙ rep_name j lj

  -- no item before it has the item's name
  pub rep_first : (i : ℕ) → i < length ns → IsFirst ns i (first_index ns i)
  rep_first i l =
      record {
        low = rep_low i l;
        same = rep_name i l;
        first = λ k lk e. omega (arith, rep_low k (omega (arith, rep_low i l)), same_name_rep k i (e ∙ rep_name i l));
      }

  -- ---- all of them

  -- as many as items
  pub joined_length : length (joined ns) ≡ length ns
  unfolding joined
  joined_length = length-map ns (λ (n : ℕ). index_of n ns)

  -- one of them
  pub joined_at : (i : ℕ) → i < length ns → get_or (joined ns) i 0 ≡ first_index ns i
  unfolding joined first_index
  joined_at i l = at ns i l
    where
      at : (xs : List ℕ) (i : ℕ) → i < length xs → get_or (map (λ (n : ℕ). index_of n ns) xs) i 0 ≡ index_of (get_or xs i 0) ns
      at [] i l = absurd (not-suc-le-zero l)
      at (x ∷ xs) zero l = refl
      at (x ∷ xs) (suc i) l = at xs i (le_of_suc-le-suc l)

  -- each is one of the items
  pub joined_below : (i : ℕ) → i < length ns → get_or (joined ns) i 0 < length ns
  joined_below i l = omega (arith, joined_at i l, rep_below i l)

  -- so each is below a bound of their number, past the end too
  pub joined_low : (n : ℕ) → 0 < n → length ns ≤ n → (i : ℕ) → get_or (joined ns) i 0 < n
  joined_low n p h i = go (dec_lt i (length ns))
    where
      go : Dec (i < length ns) → get_or (joined ns) i 0 < n
      go (yes l) = omega (arith, joined_below i l)
      go (no l) = omega (arith, get_or-eq_default (joined ns) 0 {n = i} (omega (arith, joined_length)))

-- ---- two lists of names that join the same items
pub record Alike (ns ms : List ℕ) : Type 0 where
  pub long : length ns ≡ length ms
  pub to : (i j : ℕ) → i < length ns → j < length ns → get_or ns i 0 ≡ get_or ns j 0 → get_or ms i 0 ≡ get_or ms j 0
  pub back : (i j : ℕ) → i < length ns → j < length ns → get_or ms i 0 ≡ get_or ms j 0 → get_or ns i 0 ≡ get_or ns j 0

module _ {ns ms : List ℕ} (a : Alike ns ms) where
  -- have the same representatives
  pub alike_rep : (i : ℕ) → i < length ns → first_index ns i ≡ first_index ms i
  alike_rep i l =
      first_is ms i (first_index ns i) (omega (arith, a.long))
      (record {
        low = rep_low ns i l;
        same = a.to (first_index ns i) i (rep_below ns i l) l (rep_name ns i l);
        first = λ k lk e. (rep_first ns i l).first k lk (a.back k (first_index ns i) (omega (arith, rep_below ns i l)) (rep_below ns i l) e);
      })

  -- all of them
  pub alike_joined : joined ns ≡ joined ms
  alike_joined =
      ext_get_or 0 (joined ns) (joined ms) (joined_length ns ∙ a.long ∙ sym (joined_length ms))
      (λ i l.
      let m : i < length ns = omega (arith, l, joined_length ns) in
      joined_at ns i m ∙ alike_rep i m ∙ sym (joined_at ms i (omega (arith, a.long))))
