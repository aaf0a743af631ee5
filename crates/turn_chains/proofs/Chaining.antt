-- Laws of chaining that the proofs of this crate cite: heads cleared, one use chained, all uses chained. Assumes nothing.
use mathlib.Core.Path.{◌≡◌, refl, sym, ap, subst, ◌∙◌}
use mathlib.Core.List.{List}
use mathlib.Core.Bool.{Bool, true, false, cond}
use Prim.Native.Nat.{ℕ, suc, ◌+◌, ◌-◌, ◌*◌, ◌<◌, ◌≤◌}
use native.Mathlib.Omega.{arith}
use native.Mathlib.Decide.{ℕ_discrete}
use lib.ListN.{length, get_or, set, replicate, length-replicate, length-set}
use lib.Seq.{sets, get_or-set_same, get_or-set_other, take-set-le, drop-set-lt}
use Rattle.lists.specs.Sets.{get_d_sets_in}
use Rattle.turn_walk.specs.Uses.{Uses, own, far, records, touches, records_skip, records_same, records_yes, touch_none, touch_own, touch_far, touch_other}
use Rattle.turn_walk.specs.Area.{WrittenBetween, uses_of}
use Rattle.turn_walk.specs.Chains.{link_from, Chains, Chainable, UseAt, PairAt, ChainNext, Chained, linked}
use Rattle.turn_walk.specs.Frames.{within_sets, within_more}
use Rattle.turn_walk.specs.Kept.{zeros}
use Rattle.turn_walk.specs.Links.{uses_kept, own_at, run_at, first_there, far_is, sound_kept}

-- a link, by cases on its first use
module _ (u : Uses) (x i d : ℕ) where
  link_hit : touches u x i ≡ true → link_from u x i (suc d) ≡ i + 1
  unfolding link_from
  link_hit e = rw e

  link_miss : touches u x i ≡ false → link_from u x i (suc d) ≡ link_from u x (i + 1) d
  unfolding link_from
  link_miss e = rw e

-- ---- one use

module _ {n m i : ℕ} {W : List ℕ} (q : ChainNext n m i W) where
  fuel : n - i ≡ suc (n - (i + 1))
  fuel = omega (arith, q.inside)

  l : i < n
  l = q.inside

  -- what holds of the links of later uses holds of those from i on, if use i records no pair
  skip_links : records (uses_of n W) i ≡ false → (P : ℕ → Type 0)
      → ((k : ℕ) → i + 1 ≤ k → k < n → records (uses_of n W) k ≡ true → P k) → (k : ℕ) → i ≤ k → k < n → records (uses_of n W) k ≡ true → P k
  skip_links none P f k a b p = go (ℕ_discrete i k)
    where
      clash : records (uses_of n W) k ≡ false → records (uses_of n W) k ≡ true → ⊥
      clash e f = let z : ◌≡◌ {A = ℕ} 0 1 = ap (λ (b : Bool). cond b 0 1) (sym f ∙ e) in omega arith

      go : Dec (i ≡ k) → P k
      go (yes e) = absurd (clash (sym (ap (records (uses_of n W)) e) ∙ none) p)
      go (no e) = f k (omega arith) b p

  -- use i too is in the chains, if it records no pair
  chained_none : records (uses_of n W) i ≡ false → Chained n m i W W
  chained_none none =
      record {
        uses = refl;
        chains =
            record {
              heads = λ x h.
                  q.chains.heads x h
                  ∙ sym (ap (link_from (uses_of n W) x i) fuel ∙ link_miss (uses_of n W) x i (n - (i + 1)) (touch_none (uses_of n W) i x none));
              owns =
                  skip_links none (λ k. get_or W (3 * n + k) 0 ≡ link_from (uses_of n W) (own (uses_of n W) k) (k + 1) (n - (k + 1)))
                  q.chains.owns;
              fars =
                  skip_links none (λ k. get_or W (4 * n + k) 0 ≡ link_from (uses_of n W) (far (uses_of n W) k) (k + 1) (n - (k + 1)))
                  q.chains.fars;
            };
        within = record { front = refl; rest = refl };
      }

  own_in : own (uses_of n W) i < m
  own_in = q.given.sound.rows i l

  far_in : far (uses_of n W) i < m
  far_in = q.given.sound.rows (get_or (uses_of n W).first i 0) (q.given.sound.firsts i l)

  -- W with the links of use i written
  abbrev LinksSet : ℕ → ℕ → List ℕ
  LinksSet a b = set (set W (3 * n + i) (get_or W (5 * n + a) 0)) (4 * n + i) (get_or W (5 * n + b) 0)

  -- its pair goes first in the chains of its two rows
  module _ {a b : ℕ} (ea : own (uses_of n W) i ≡ a) (eb : far (uses_of n W) i ≡ b) (one : records (uses_of n W) i ≡ true) (apart : a ≡ b → ⊥) where
    kept_heads : (k : ℕ) → (k ≡ 5 * n + a → ⊥) → (k ≡ 5 * n + b → ⊥) → get_or (linked n i a b W) k 0 ≡ get_or (LinksSet a b) k 0
    kept_heads k r t =
        get_or-set_other (set (LinksSet a b) (5 * n + a) (i + 1)) (5 * n + b) k (i + 1) 0 t ∙ get_or-set_other (LinksSet a b) (5 * n + a) k (i + 1) 0 r

    kept : (k : ℕ) → (k ≡ 3 * n + i → ⊥) → (k ≡ 4 * n + i → ⊥) → (k ≡ 5 * n + a → ⊥) → (k ≡ 5 * n + b → ⊥) → get_or (linked n i a b W) k 0 ≡ get_or W k 0
    kept k p q r t =
        kept_heads k r t
        ∙ get_or-set_other (set W (3 * n + i) (get_or W (5 * n + a) 0)) (4 * n + i) k (get_or W (5 * n + b) 0) 0 q
        ∙ get_or-set_other W (3 * n + i) k (get_or W (5 * n + a) 0) 0 p

    at_b : get_or (linked n i a b W) (5 * n + b) 0 ≡ i + 1
    at_b = get_or-set_same (set (LinksSet a b) (5 * n + a) (i + 1)) (5 * n + b) (i + 1) 0 (simp length-set (omega (arith, far_in, eb, q.given.room)))

    at_a : get_or (linked n i a b W) (5 * n + a) 0 ≡ i + 1
    at_a =
        get_or-set_other (set (LinksSet a b) (5 * n + a) (i + 1)) (5 * n + b) (5 * n + a) (i + 1) 0 (omega arith)
        ∙ get_or-set_same (LinksSet a b) (5 * n + a) (i + 1) 0 (simp length-set (omega (arith, own_in, ea, q.given.room)))

    at_own : get_or (linked n i a b W) (3 * n + i) 0 ≡ get_or W (5 * n + a) 0
    at_own =
        kept_heads (3 * n + i) (omega arith) (omega arith)
        ∙ get_or-set_other (set W (3 * n + i) (get_or W (5 * n + a) 0)) (4 * n + i) (3 * n + i) (get_or W (5 * n + b) 0) 0 (omega arith)
        ∙ get_or-set_same W (3 * n + i) (get_or W (5 * n + a) 0) 0 (omega arith)

    at_far : get_or (linked n i a b W) (4 * n + i) 0 ≡ get_or W (5 * n + b) 0
    at_far =
        kept_heads (4 * n + i) (omega arith) (omega arith)
        ∙ get_or-set_same (set W (3 * n + i) (get_or W (5 * n + a) 0)) (4 * n + i) (get_or W (5 * n + b) 0) 0 (simp length-set (omega arith))

    hit : (x : ℕ) → touches (uses_of n W) x i ≡ true → i + 1 ≡ link_from (uses_of n W) x i (n - i)
    hit x t = sym (ap (link_from (uses_of n W) x i) (omega arith) ∙ link_hit (uses_of n W) x i (n - (i + 1)) t)

    head : (x : ℕ) → x < m → Dec (x ≡ a) → Dec (x ≡ b) → get_or (linked n i a b W) (5 * n + x) 0 ≡ link_from (uses_of n W) x i (n - i)
    head x h (yes e) d = ap (λ y. get_or (linked n i a b W) (5 * n + y) 0) e ∙ at_a ∙ hit x (touch_own (uses_of n W) i x one (ea ∙ sym e))
    head x h (no e) (yes f) = ap (λ y. get_or (linked n i a b W) (5 * n + y) 0) f ∙ at_b ∙ hit x (touch_far (uses_of n W) i x one (eb ∙ sym f))
    head x h (no e) (no f) =
        kept (5 * n + x) (omega arith) (omega arith) (omega arith) (omega arith) ∙ q.chains.heads x h
        ∙ sym
        (ap (link_from (uses_of n W) x i) (omega arith)
        ∙ link_miss (uses_of n W) x i (n - (i + 1)) (touch_other (uses_of n W) i x (λ q. e (sym q ∙ ea)) (λ q. f (sym q ∙ eb))))

    own_link : (k : ℕ) → i ≤ k → k < n → records (uses_of n W) k ≡ true → Dec (i ≡ k)
        → get_or (linked n i a b W) (3 * n + k) 0 ≡ link_from (uses_of n W) (own (uses_of n W) k) (k + 1) (n - (k + 1))
    own_link k h g p (yes e) =
        subst (λ j. get_or (linked n i a b W) (3 * n + j) 0 ≡ link_from (uses_of n W) (own (uses_of n W) j) (j + 1) (n - (j + 1))) e
        (at_own ∙ q.chains.heads a (omega (arith, own_in, ea)) ∙ ap (λ x. link_from (uses_of n W) x (i + 1) (n - (i + 1))) (sym ea))
    own_link k h g p (no e) = kept (3 * n + k) (omega arith) (omega arith) (omega arith) (omega arith) ∙ q.chains.owns k (omega arith) g p

    far_link : (k : ℕ) → i ≤ k → k < n → records (uses_of n W) k ≡ true → Dec (i ≡ k)
        → get_or (linked n i a b W) (4 * n + k) 0 ≡ link_from (uses_of n W) (far (uses_of n W) k) (k + 1) (n - (k + 1))
    far_link k h g p (yes e) =
        subst (λ j. get_or (linked n i a b W) (4 * n + j) 0 ≡ link_from (uses_of n W) (far (uses_of n W) j) (j + 1) (n - (j + 1))) e
        (at_far ∙ q.chains.heads b (omega (arith, far_in, eb)) ∙ ap (λ x. link_from (uses_of n W) x (i + 1) (n - (i + 1))) (sym eb))
    far_link k h g p (no e) = kept (4 * n + k) (omega arith) (omega arith) (omega arith) (omega arith) ∙ q.chains.fars k (omega arith) g p

    heads_set : Chains n m i (uses_of n W) (linked n i a b W)
    heads_set =
        record {
          heads = λ x h. head x h (ℕ_discrete x a) (ℕ_discrete x b);
          owns = λ k h g p. own_link k h g p (ℕ_discrete i k);
          fars = λ k h g p. far_link k h g p (ℕ_discrete i k);
        }

    heads_set_within : WrittenBetween (3 * n) (5 * n + m) W (linked n i a b W)
    heads_set_within =
        record {
          front =
              let p : 3 * n ≤ 3 * n + i = omega arith in
              let q : 3 * n ≤ 4 * n + i = omega arith in
              let r : 3 * n ≤ 5 * n + a = omega arith in
              let t : 3 * n ≤ 5 * n + b = omega arith in
              simp take-set-le;
          rest =
              let p : 3 * n + i < 5 * n + m = omega arith in
              let q : 4 * n + i < 5 * n + m = omega arith in
              let r : 5 * n + a < 5 * n + m = omega (arith, own_in, ea) in
              let t : 5 * n + b < 5 * n + m = omega (arith, far_in, eb) in
              simp drop-set-lt;
        }

    chained_linked : {E : List ℕ} → E ≡ linked n i a b W → Chained n m i W E
    chained_linked {E} e =
        rw e
        (record {
          uses = uses_kept n W (linked n i a b W) heads_set_within.front;
          chains = subst (λ v. Chains n m i v (linked n i a b W)) (sym (uses_kept n W (linked n i a b W) heads_set_within.front)) heads_set;
          within = heads_set_within;
        })

  -- by the tests of the code: equal ends
  pub use_skip : get_or W (2 * n + i) 0 ≡ 2 → Chained n m i W W
  use_skip e = chained_none (records_skip (uses_of n W) i (run_at n W i l ∙ e))

  -- the first use's row can be read
  pub use_there : UseAt n m i W
  use_there = record { given = q.given; inside = q.inside }

  module _ {b : ℕ} (eb : b ≡ far (uses_of n W) i) where
    -- one row
    pub use_same : get_or W (n + i) 0 ≡ b → Chained n m i W W
    use_same e = chained_none (records_same (uses_of n W) i (own_at n W i l ∙ e ∙ eb))

    -- the pair can be linked
    pub pair_there : PairAt n m i (get_or W (n + i) 0) b W
    pair_there =
        record { room = q.given.room; inside = l; own = omega (arith, own_in, own_at n W i l); far = omega (arith, far_in, eb) }

    -- and is
    pub use_linked : {E : List ℕ} → (get_or W (2 * n + i) 0 ≡ 2 → ⊥) → (get_or W (n + i) 0 ≡ b → ⊥)
        → E ≡ linked n i (get_or W (n + i) 0) b W → Chained n m i W E
    use_linked e f =
        chained_linked (own_at n W i l) (sym eb)
        (records_yes (uses_of n W) i (λ z. e (sym (run_at n W i l) ∙ z)) (λ z. f (sym (own_at n W i l) ∙ z ∙ sym eb))) f

-- the word that holds the row of the first use
pub first_index : {n m i : ℕ} {W : List ℕ} → UseAt n m i W → n + get_or W i 0 < length W
first_index a = omega (arith, first_there a.given.sound a.inside, a.given.room)

-- and the row
pub far_read : {n m i : ℕ} {W : List ℕ} → UseAt n m i W → get_or W (n + get_or W i 0) 0 ≡ far (uses_of n W) i
far_read a = far_is a.given.sound a.inside

-- ---- clearing

-- heads that are 0 are empty chains
pub heads_cleared : {n m : ℕ} {W E : List ℕ} → Chainable n m W → E ≡ sets W (5 * n) (replicate (5 * n + m - 5 * n) 0) → Chained n m n W E
unfolding link_from
heads_cleared {n} {m} {W} {E} g e = subst (λ (F : List ℕ). Chained n m n W F) (sym filled) cleared
  where
    gap : 5 * n + m - 5 * n ≡ m
    gap = omega arith

    filled : E ≡ sets W (5 * n) (replicate m 0)
    filled = e ∙ ap (λ (k : ℕ). sets W (5 * n) (replicate k 0)) gap

    long : length (replicate {A = ℕ} m 0) ≡ m
    long = length-replicate m 0

    within : WrittenBetween (3 * n) (5 * n + m) W (sets W (5 * n) (replicate m 0))
    within = within_sets (replicate m 0) W (omega arith) (omega (arith, long))

    none : 0 ≡ n - n
    none = omega arith

    empty : (y : ℕ) → y < m → get_or (sets W (5 * n) (replicate m 0)) (5 * n + y) 0 ≡ 0
    empty y l = get_d_sets_in W (5 * n) (replicate m 0) y 0 (omega (arith, long)) (omega (arith, g.room)) ∙ zeros m y

    cleared : Chained n m n W (sets W (5 * n) (replicate m 0))
    cleared =
        record {
          uses = uses_kept n W _ within.front;
          chains = record { heads = λ y l. empty y l ∙ ap (link_from (uses_of n _) y n) none; owns = λ k a b. absurd (omega arith); fars = λ k a b. absurd (omega arith) };
          within = within;
        }

-- ---- all uses, with those from i on in the chains

-- the loop from W on
pub record Chaining (n m : ℕ) (W : List ℕ) (i : ℕ) (E : List ℕ) : Type 0 where
  pub low : i ≤ n
  pub given : Chainable n m E
  pub chained : Chained n m i W E
  pub long : length E ≡ length W

-- one stage of chaining after another
chained_more : {n m i j : ℕ} {W E F : List ℕ} → Chained n m i W E → Chained n m j E F → Chained n m j W F
chained_more p c = record { uses = c.uses ∙ p.uses; chains = c.chains; within = within_more p.within c.within }

-- none
pub chaining_none : {n m : ℕ} {W E : List ℕ} → Chainable n m W → Chained n m n W E → length E ≡ length W → Chaining n m E n E
chaining_none g c e =
    record {
      low = omega arith;
      given = record { room = omega (arith, g.room); sound = sound_kept g.sound c.uses };
      chained = record { uses = refl; chains = c.chains; within = record { front = refl; rest = refl } };
      long = refl;
    }

-- the next can be chained
pub chaining_next : {n m i : ℕ} {W E : List ℕ} → Chaining n m W i E → 0 < i → ChainNext n m (i - 1) E
chaining_next {n} {m} {i} {W} {E} p h =
    record {
      given = p.given;
      inside = omega (arith, p.low);
      chains = subst (λ k. Chains n m k (uses_of n E) E) (omega arith) p.chained.chains;
    }

-- and is
pub chaining_more : {n m i : ℕ} {W E F : List ℕ} → Chaining n m W i E → 0 < i → Chained n m (i - 1) E F → length F ≡ length E → Chaining n m W (i - 1) F
chaining_more p h c e =
    record {
      low = omega (arith, p.low);
      given = record { room = omega (arith, p.given.room); sound = sound_kept p.given.sound c.uses };
      chained = chained_more p.chained c;
      long = e ∙ p.long;
    }

-- all
pub chaining_all : {n m i : ℕ} {W W₁ E : List ℕ} → Chained n m n W W₁ → Chaining n m W₁ i E → i ≤ 0 → Chained n m 0 W E
chaining_all {n} {m} {i} {W} {W₁} {E} c p z = chained_more c (subst (λ k. Chained n m k W₁ E) (omega arith) p.chained)
