-- Laws of inserting loose points: one by one, two in either order, and the corners of a triangle again. Assumes nothing.
use Rattle.stitch_loose_points.specs.Insertions.{lower, same, higher, Order, three}
use Rattle.std.specs.Prelude.{◌≡◌, refl, Bool, true, false, ◌||◌, cond, List, [], ◌∷◌, ℕ, ◌<◌}
use Rattle.std.proofs.Common.{sym, ap, ◌∙◌, arith}
use Rattle.std.proofs.Math.Decide.{ℕ_discrete, dec_lt}
use borrow.Author.Tests.{lt-ltb, le-ltb, eq-eqb, ne_eqb}
use Rattle.stitch_loose_points.specs.Loose.{Loose, Facet, insert_loose, insert_corner, insert_open}

-- ---- one point

order : (m n : ℕ) → Order m n
order m n = go (dec_lt m n) (ℕ_discrete m n)
  where
    go : Dec (m < n) → Dec (m ≡ n) → Order m n
    go (yes l) d = lower l
    go (no l) (yes e) = same e
    go (no l) (no e) = higher (omega arith)

module _ (l x : Loose) (xs : List Loose) where
  -- a lower name goes in front
  in_front : l.name < x.name → insert_loose l (x ∷ xs) ≡ l ∷ x ∷ xs
  unfolding insert_loose
  in_front h = rw (lt-ltb l.name x.name h)

  -- the same name is replaced
  in_place : l.name ≡ x.name → insert_loose l (x ∷ xs) ≡ l ∷ xs
  unfolding insert_loose
  in_place e = rw (le-ltb l.name x.name (omega arith), eq-eqb l.name x.name e)

  -- a higher name goes further
  behind : x.name < l.name → insert_loose l (x ∷ xs) ≡ x ∷ insert_loose l xs
  unfolding insert_loose
  behind h = rw (le-ltb l.name x.name (omega arith), ne_eqb l.name x.name (λ e. omega arith))

-- ---- two points

-- of two with one name the later stands
replaced : (a b : Loose) → a.name ≡ b.name → (ls : List Loose) → insert_loose a (insert_loose b ls) ≡ insert_loose a ls
unfolding insert_loose
replaced a b e [] = in_place a b [] e
replaced a b e (x ∷ ls) = go (order b.name x.name) (replaced a b e ls)
  where
    go : Order b.name x.name → insert_loose a (insert_loose b ls) ≡ insert_loose a ls → insert_loose a (insert_loose b (x ∷ ls)) ≡ insert_loose a (x ∷ ls)
    go (lower h) r = ap (insert_loose a) (in_front b x ls h) ∙ in_place a b (x ∷ ls) e ∙ sym (in_front a x ls (omega arith))
    go (same h) r = ap (insert_loose a) (in_place b x ls h) ∙ in_place a b ls e ∙ sym (in_place a x ls (e ∙ h))
    go (higher h) r =
        ap (insert_loose a) (behind b x ls h)
        ∙ behind a x (insert_loose b ls) (omega arith)
        ∙ ap (λ (k : List Loose). x ∷ k) r
        ∙ sym (behind a x ls (omega arith))

-- a point lower than another and than the first goes in front of both
in_front_of_both : (a b x : Loose) (xs : List Loose) → a.name < b.name → a.name < x.name → insert_loose a (insert_loose b (x ∷ xs)) ≡ a ∷ insert_loose b (x ∷ xs)
in_front_of_both a b x xs h k = go (order b.name x.name)
  where
    go : Order b.name x.name → insert_loose a (insert_loose b (x ∷ xs)) ≡ a ∷ insert_loose b (x ∷ xs)
    go (lower l) = rw (in_front b x xs l) (in_front a b (x ∷ xs) h)
    go (same l) = rw (in_place b x xs l) (in_front a b xs h)
    go (higher l) = rw (behind b x xs l) (in_front a x (insert_loose b xs) k)

-- the lower of two may go in before or after
lower_first : (a b : Loose) → a.name < b.name → (ls : List Loose) → insert_loose a (insert_loose b ls) ≡ insert_loose b (insert_loose a ls)
unfolding insert_loose
lower_first a b h [] = in_front a b [] h ∙ sym (behind b a [] h)
lower_first a b h (x ∷ ls) = go (order a.name x.name) (lower_first a b h ls)
  where
    go : Order a.name x.name → insert_loose a (insert_loose b ls) ≡ insert_loose b (insert_loose a ls) → insert_loose a (insert_loose b (x ∷ ls)) ≡ insert_loose b (insert_loose a (x ∷ ls))
    go (lower k) r = in_front_of_both a b x ls h k ∙ sym (ap (insert_loose b) (in_front a x ls k) ∙ behind b a (x ∷ ls) h)
    go (same k) r =
        ap (insert_loose a) (behind b x ls (omega arith))
        ∙ in_place a x (insert_loose b ls) k
        ∙ sym (ap (insert_loose b) (in_place a x ls k) ∙ behind b a ls h)
    go (higher k) r =
        ap (insert_loose a) (behind b x ls (omega arith))
        ∙ behind a x (insert_loose b ls) k
        ∙ ap (λ (l : List Loose). x ∷ l) r
        ∙ sym (ap (insert_loose b) (behind a x ls k) ∙ behind b x (insert_loose a ls) (omega arith))

-- a point that goes in again, behind another, need not have gone in before
again : (a b : Loose) (ls : List Loose) → insert_loose a (insert_loose b (insert_loose a ls)) ≡ insert_loose a (insert_loose b ls)
again a b ls = go (order a.name b.name)
  where
    go : Order a.name b.name → insert_loose a (insert_loose b (insert_loose a ls)) ≡ insert_loose a (insert_loose b ls)
    go (lower h) = ap (insert_loose a) (sym (lower_first a b h ls)) ∙ replaced a a refl (insert_loose b ls)
    go (same h) = ap (insert_loose a) (replaced b a (sym h) ls)
    go (higher h) = ap (insert_loose a) (lower_first b a h ls) ∙ replaced a a refl (insert_loose b ls)

-- ---- the corners of a triangle

module _ (a b c : Loose) where
  -- the last of them need not have gone in before
  last_again : (ls : List Loose) → three a b c (insert_loose c ls) ≡ three a b c ls
  last_again ls = go (order a.name c.name)
    where
      go : Order a.name c.name → three a b c (insert_loose c ls) ≡ three a b c ls
      go (lower h) = ap (λ (l : List Loose). insert_loose c (insert_loose b l)) (lower_first a c h ls) ∙ again c b (insert_loose a ls)
      go (same h) = ap (λ (l : List Loose). insert_loose c (insert_loose b l)) (replaced a c h ls)
      go (higher h) = ap (λ (l : List Loose). insert_loose c (insert_loose b l)) (sym (lower_first c a h ls)) ∙ again c b (insert_loose a ls)

  -- three points that go in again change nothing
  three_again : (ls : List Loose) → three a b c (three a b c ls) ≡ three a b c ls
  three_again ls =
      last_again (insert_loose b (insert_loose a ls))
      ∙ ap (insert_loose c) (again b a (insert_loose a ls))
      ∙ ap (λ (l : List Loose). insert_loose c (insert_loose b l)) (replaced a a refl ls)

-- what changes nothing the second time is done once, if at all
once : (t : List Loose → List Loose) → ((ls : List Loose) → t (t ls) ≡ t ls) → (o p q : Bool) (ls : List Loose)
    → cond q (t (cond p (t (cond o (t ls) ls)) (cond o (t ls) ls))) (cond p (t (cond o (t ls) ls)) (cond o (t ls) ls)) ≡ cond (o || p || q) (t ls) ls
once t e true true true ls = ap t (e ls) ∙ e ls
once t e true true false ls = e ls
once t e true false true ls = e ls
once t e true false false ls = refl
once t e false true true ls = e ls
once t e false true false ls = refl
once t e false false true ls = refl
once t e false false false ls = refl

-- the corners of a triangle go in once, if one of its edges is open
pub open_once : (f : Facet) (ls : List Loose)
    → insert_open f f.c₂ (insert_open f f.c₁ (insert_open f f.c₀ ls))
    ≡ cond (f.c₀.is_open || f.c₁.is_open || f.c₂.is_open) (insert_corner f.c₂ (insert_corner f.c₁ (insert_corner f.c₀ ls))) ls
unfolding insert_open insert_corner
open_once f ls =
    let a : Loose = record { name = f.c₀.name; point = f.c₀.point } in
    let b : Loose = record { name = f.c₁.name; point = f.c₁.point } in
    let c : Loose = record { name = f.c₂.name; point = f.c₂.point } in
    once (three a b c) (three_again a b c) f.c₀.is_open f.c₁.is_open f.c₂.is_open ls
