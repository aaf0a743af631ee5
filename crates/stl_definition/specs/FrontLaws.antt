-- A slice that is written piece by piece, from one place on. Assumes nothing.
use Rattle.std.specs.Prelude.{◌≡◌, refl, List, [], ◌∷◌, ◌++◌, ℕ, ◌+◌, ◌≤◌, ◌<◌, length, set, replicate}
use Rattle.std.proofs.Common.{sym, ◌∙◌, subst, le_antisymm, arith}
use Rattle.std.proofs.lemmas.List.{length-replicate, replicate-append-replicate}
use Rattle.slice_append.specs.Appended.{Appended, appended_none, appended_then, appended_long, appended_sets}

module _ {A : Type 0} where
  -- the items of the first k of n pieces, f k, were written from place o on: E became W
  pub record Front (o : ℕ) (f : ℕ → List A) (n k : ℕ) (E W : List A) : Type 0 where
    pub low : k ≤ n
    pub items : Appended o (f k) E W
    pub long : length W ≡ length E

  -- none is written yet
  pub front_none : (o : ℕ) (f : ℕ → List A) (n : ℕ) (E : List A) → f 0 ≡ [] → Front o f n 0 E E
  front_none o f n E e = record { low = omega arith; items = subst (λ (xs : List A). Appended o xs E E) (sym e) (appended_none o E); long = refl }

  -- one more is
  pub front_more : {o : ℕ} {f : ℕ → List A} {n k p : ℕ} {ys E W W' : List A} → Front o f n k E W → k < n → f (k + 1) ≡ f k ++ ys → p ≡ o + length (f k)
      → p + length ys ≤ length E → Appended p ys W W' → Front o f n (k + 1) E W'
  front_more {o} {E = E} {W' = W'} q h e l room a =
      let g = q.long in
      record {
        low = omega arith;
        items = subst (λ (xs : List A). Appended o xs E W') (sym e) (appended_then q.items l a);
        long = appended_long a (omega arith) ∙ g;
      }

  -- all are
  pub front_all : {o : ℕ} {f : ℕ → List A} {n k : ℕ} {E W : List A} → Front o f n k E W → n ≤ k → Appended o (f n) E W
  front_all {o} {f} {E = E} {W = W} q h = subst (λ (m : ℕ). Appended o (f m) E W) (le_antisymm q.low h) q.items

  -- one item stored
  pub stored : (W : List A) (p : ℕ) (x : A) → p + 1 ≤ length W → Appended p (x ∷ []) W (set W p x)
  stored W p x h = appended_sets (omega arith) refl
