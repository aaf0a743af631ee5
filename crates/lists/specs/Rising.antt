-- Ascending lists in which each number stands once: a number put in, what is among them, and where such a list goes on from a number. Assumes nothing.
use Rattle.std.specs.Prelude.{◌≡◌, refl, ◌⊎◌, Bool, true, false, cond, List, [], ◌∷◌, ℕ, suc, ◌≤◌, ◌<◌, length, leb, ltb, eqb}
use Rattle.std.proofs.Common.{sym, ap, ◌∙◌, inl, inr, arith, le-leb, eqb-true, ltb-true, ltb-false, leb-true, leb-false}
use Rattle.std.proofs.lemmas.Bool.{lt-leb, eqb-false}
use Rattle.lists.specs.Lists.{filter, insert_new, ascending}
use Rattle.lists.specs.Members.{Has}

-- ---- a number put in

-- what is put in is among them, and so is what was
pub has_insert : (y n : ℕ) (xs : List ℕ) → (y ≡ n) ⊎ Has y xs → Has y (insert_new n xs)
unfolding insert_new
has_insert y n [] h = h
has_insert y n (x ∷ xs) h = first (ltb n x) refl (λ k. has_insert y n xs k)
  where
    rest : (y ≡ n) ⊎ Has y (x ∷ xs) → ((y ≡ n) ⊎ Has y xs → Has y (insert_new n xs)) → Has y (x ∷ insert_new n xs)
    rest (inl e) f = inr (f (inl e))
    rest (inr (inl e)) f = inl e
    rest (inr (inr k)) f = inr (f (inr k))

    same : n ≡ x → (y ≡ n) ⊎ Has y (x ∷ xs) → Has y (x ∷ xs)
    same p (inl e) = inl (e ∙ p)
    same p (inr k) = k

    second : (b : Bool) → eqb n x ≡ b → ((y ≡ n) ⊎ Has y xs → Has y (insert_new n xs)) → Has y (cond b (x ∷ xs) (x ∷ insert_new n xs))
    second true e f = same (eqb-true n x e) h
    second false e f = rest h f

    first : (b : Bool) → ltb n x ≡ b → ((y ≡ n) ⊎ Has y xs → Has y (insert_new n xs)) → Has y (cond b (n ∷ x ∷ xs) (cond (eqb n x) (x ∷ xs) (x ∷ insert_new n xs)))
    first true e f = h
    first false e f = second (eqb n x) refl f

-- nothing else is
pub insert_has : (y n : ℕ) (xs : List ℕ) → Has y (insert_new n xs) → (y ≡ n) ⊎ Has y xs
unfolding insert_new
insert_has y n [] h = h
insert_has y n (x ∷ xs) h = first (ltb n x) h (λ k. insert_has y n xs k)
  where
    last : (y ≡ n) ⊎ Has y xs → (y ≡ n) ⊎ Has y (x ∷ xs)
    last (inl e) = inl e
    last (inr q) = inr (inr q)

    rest : Has y (x ∷ insert_new n xs) → (Has y (insert_new n xs) → (y ≡ n) ⊎ Has y xs) → (y ≡ n) ⊎ Has y (x ∷ xs)
    rest (inl e) f = inr (inl e)
    rest (inr k) f = last (f k)

    second : (b : Bool) → Has y (cond b (x ∷ xs) (x ∷ insert_new n xs)) → (Has y (insert_new n xs) → (y ≡ n) ⊎ Has y xs) → (y ≡ n) ⊎ Has y (x ∷ xs)
    second true k f = inr k
    second false k f = rest k f

    first : (b : Bool) → Has y (cond b (n ∷ x ∷ xs) (cond (eqb n x) (x ∷ xs) (x ∷ insert_new n xs))) → (Has y (insert_new n xs) → (y ≡ n) ⊎ Has y xs) → (y ≡ n) ⊎ Has y (x ∷ xs)
    first true k f = k
    first false k f = second (eqb n x) k f

-- one more at most
pub insert_long : (n : ℕ) (xs : List ℕ) → length (insert_new n xs) ≤ suc (length xs)
unfolding insert_new
insert_long n [] = omega arith
insert_long n (x ∷ xs) = first (ltb n x) (insert_long n xs)
  where
    second : (b : Bool) → length (insert_new n xs) ≤ suc (length xs) → length (cond b (x ∷ xs) (x ∷ insert_new n xs)) ≤ suc (suc (length xs))
    second true e = omega arith
    second false e = omega arith

    first : (b : Bool) → length (insert_new n xs) ≤ suc (length xs) → length (cond b (n ∷ x ∷ xs) (cond (eqb n x) (x ∷ xs) (x ∷ insert_new n xs))) ≤ suc (suc (length xs))
    first true e = omega arith
    first false e = second (eqb n x) e

-- ---- they rise

-- numbers that rise, from `low` on
abbrev pub Rising : ℕ → List ℕ → Type 0
Rising low [] = Unit {0}
Rising low (x ∷ xs) = (low ≤ x) × Rising (suc x) xs

-- a number put in its place keeps the list rising
pub rising_insert : (n low : ℕ) (xs : List ℕ) → low ≤ n → Rising low xs → Rising low (insert_new n xs)
unfolding insert_new
rising_insert n low [] h r = (h, tt)
rising_insert n low (x ∷ xs) h r = first (ltb n x) refl (λ m. rising_insert n (suc x) xs m r.1)
  where
    above : (n ≡ x → ⊥) → x ≤ n → x < n
    above p q = omega arith

    second : (b : Bool) → eqb n x ≡ b → x ≤ n → (suc x ≤ n → Rising (suc x) (insert_new n xs)) → Rising low (cond b (x ∷ xs) (x ∷ insert_new n xs))
    second true e m f = r
    second false e m f = (r.0, f (above (eqb-false n x e) m))

    first : (b : Bool) → ltb n x ≡ b → (suc x ≤ n → Rising (suc x) (insert_new n xs)) → Rising low (cond b (n ∷ x ∷ xs) (cond (eqb n x) (x ∷ xs) (x ∷ insert_new n xs)))
    first true e f = (h, (ltb-true n x e, r.1))
    first false e f = second (eqb n x) refl (ltb-false n x e) f

-- what a rising list has is not below its start
pub rising_has : (y low : ℕ) (xs : List ℕ) → Rising low xs → Has y xs → low ≤ y
rising_has y low [] r h = absurd h
rising_has y low (x ∷ xs) r (inl e) = let l = r.0 in omega arith
rising_has y low (x ∷ xs) r (inr h) = let l = r.0 in let m = rising_has y (suc x) xs r.1 h in omega arith

-- from its start on, all of it is there
pub rising_all : (a low : ℕ) (xs : List ℕ) → a ≤ low → Rising low xs → filter (leb a) xs ≡ xs
unfolding filter
rising_all a low [] h r = refl
rising_all a low (x ∷ xs) h r =
    let l = r.0 in
    let t = le-leb a x (omega arith) in
    ap (λ (b : Bool). cond b (x ∷ filter (leb a) xs) (filter (leb a) xs)) t ∙ ap (λ (ys : List ℕ). x ∷ ys) (rising_all a (suc x) xs (omega arith) r.1)

-- From `last` on a rising list begins with its least number there.
pub rising_from : (last n low : ℕ) (xs : List ℕ) → Rising low xs → Has n xs → last ≤ n → ((y : ℕ) → last ≤ y → Has y xs → n ≤ y) → filter (leb last) xs ≡ n ∷ filter (leb (suc n)) xs
unfolding filter
rising_from last n low [] r h l least = absurd h
rising_from last n low (x ∷ xs) r h l least = go (leb last x) refl (λ k. rising_from last n (suc x) xs r.1 k l (λ y p q. least y p (inr q)))
  where
    beyond : n ≡ x → filter (leb (suc n)) (x ∷ xs) ≡ xs
    beyond e = ap (λ (b : Bool). cond b (x ∷ filter (leb (suc n)) xs) (filter (leb (suc n)) xs)) (lt-leb (suc n) x (omega arith)) ∙ rising_all (suc n) (suc x) xs (omega arith) r.1

    is_first : last ≤ x → Has n (x ∷ xs) → n ≡ x
    is_first m (inl e) = e
    is_first m (inr k) = let p = least x m (inl refl) in let q = rising_has n (suc x) xs r.1 k in absurd (omega arith)

    here : last ≤ x → n ≡ x → x ∷ filter (leb last) xs ≡ n ∷ filter (leb (suc n)) (x ∷ xs)
    here m e = λ j. sym e j ∷ (rising_all last (suc x) xs (omega arith) r.1 ∙ sym (beyond e)) j

    later : x < last → Has n (x ∷ xs) → (Has n xs → filter (leb last) xs ≡ n ∷ filter (leb (suc n)) xs) → filter (leb last) xs ≡ n ∷ filter (leb (suc n)) (x ∷ xs)
    later m (inl e) f = absurd (omega arith)
    later m (inr k) f = f k ∙ ap (λ (b : Bool). n ∷ cond b (x ∷ filter (leb (suc n)) xs) (filter (leb (suc n)) xs)) (sym (lt-leb (suc n) x (omega arith)))

    go : (b : Bool) → leb last x ≡ b → (Has n xs → filter (leb last) xs ≡ n ∷ filter (leb (suc n)) xs) → cond b (x ∷ filter (leb last) xs) (filter (leb last) xs) ≡ n ∷ filter (leb (suc n)) (x ∷ xs)
    go true e f = let m = leb-true last x e in here m (is_first m h)
    go false e f = later (leb-false last x e) h f

-- From `last` on there is nothing, if no number is there.
pub rising_none : (last : ℕ) (xs : List ℕ) → ((y : ℕ) → last ≤ y → Has y xs → ⊥) → filter (leb last) xs ≡ []
unfolding filter
rising_none last [] none = refl
rising_none last (x ∷ xs) none = go (leb last x) refl (rising_none last xs (λ y p q. none y p (inr q)))
  where
    go : (b : Bool) → leb last x ≡ b → filter (leb last) xs ≡ [] → cond b (x ∷ filter (leb last) xs) (filter (leb last) xs) ≡ []
    go true e f = absurd (none x (leb-true last x e) (inl refl))
    go false e f = f

-- ---- numbers put in one by one

-- all of them are there
pub has_ascending : (y : ℕ) (xs : List ℕ) → Has y xs → Has y (ascending xs)
unfolding ascending
has_ascending y [] h = h
has_ascending y (x ∷ xs) (inl e) = has_insert y x (ascending xs) (inl e)
has_ascending y (x ∷ xs) (inr h) = has_insert y x (ascending xs) (inr (has_ascending y xs h))

-- and no others
pub ascending_has : (y : ℕ) (xs : List ℕ) → Has y (ascending xs) → Has y xs
unfolding ascending
ascending_has y [] h = h
ascending_has y (x ∷ xs) h = go (insert_has y x (ascending xs) h) (λ k. ascending_has y xs k)
  where
    go : (y ≡ x) ⊎ Has y (ascending xs) → (Has y (ascending xs) → Has y xs) → Has y (x ∷ xs)
    go (inl e) f = inl e
    go (inr k) f = inr (f k)

-- they rise
pub ascending_rises : (xs : List ℕ) → Rising 0 (ascending xs)
unfolding ascending
ascending_rises [] = tt
ascending_rises (x ∷ xs) = rising_insert x 0 (ascending xs) (omega arith) (ascending_rises xs)
