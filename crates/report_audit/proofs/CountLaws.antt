-- Laws of marking uses and of counting their marks. Assumes nothing.
use mathlib.Core.Path.{◌≡◌, refl, sym, ap, ◌∙◌, subst}
use mathlib.Core.Bool.{Bool, true, false, cond}
use mathlib.Core.List.{List, [], ◌∷◌, ◌++◌}
use Prim.Native.Nat.{ℕ, zero, suc, ◌+◌, ◌-◌, ◌*◌, ◌≤◌, ◌<◌}
use native.Mathlib.Numerals.{add-one}
use native.Mathlib.Omega.{arith}
use native.Mathlib.Decide.{ℕ_discrete}
use lib.ListN.{length, get_or, take, drop, replicate, length-set, length-replicate, get_or-replicate}
use lib.Seq.{sets, length-sets, get_or-set_same, get_or-set_other, take-set-le, drop-set-lt}
use lib.Dec.{eqb}
use borrow.Author.Tests.{eq-eqb, ne_eqb}
use Rattle.lists.specs.Lists.{count_if}
use Rattle.lists.specs.Sets.{get_d_sets_in, take_sets, drop_sets}
use Rattle.lists.specs.Stretches.{front_at}
use Rattle.edge_uses.specs.Counted.{StepReady}
use Rattle.report_audit.specs.Counts.{first_at, own_at, run_at, alike, alike_at, added, marked_at, heads_at, heads_before, MarkReady, CountsReady, MarksCounted}

-- ---- two uses that run alike

module _ (first i run firstRun : ℕ) where
  -- a first use is no later use
  pub alike_own : first ≡ i → false ≡ alike first i run firstRun
  unfolding alike
  alike_own e = rw (eq-eqb first i e)

  -- a use with equal ends is skipped
  pub alike_ends : (first ≡ i → ⊥) → run ≡ 2 → false ≡ alike first i run firstRun
  unfolding alike
  alike_ends n e = rw (ne_eqb first i n, eq-eqb run 2 e)

  -- of the others the runs tell
  pub alike_runs : (first ≡ i → ⊥) → (run ≡ 2 → ⊥) → eqb firstRun run ≡ alike first i run firstRun
  unfolding alike
  alike_runs n e = rw (ne_eqb first i n, ne_eqb run 2 e)

-- ---- how many pass

pub count_both : {A : Type 0} (f : A → Bool) (xs ys : List A) → count_if f (xs ++ ys) ≡ count_if f xs + count_if f ys
unfolding count_if
count_both f [] ys = omega arith
count_both f (x ∷ xs) ys = go (f x) (count_both f xs ys)
  where
    go : (b : Bool) → count_if f (xs ++ ys) ≡ count_if f xs + count_if f ys
        → cond b (suc (count_if f (xs ++ ys))) (count_if f (xs ++ ys)) ≡ cond b (suc (count_if f xs)) (count_if f xs) + count_if f ys
    go true e = omega arith
    go false e = e

-- of none
pub count_none : {A : Type 0} (f : A → Bool) → count_if f [] ≡ 0
unfolding count_if
count_none f = refl

-- of two
pub count_two : {A : Type 0} (f : A → Bool) (x y : A) → count_if f (x ∷ y ∷ []) ≡ cond (f x) 1 0 + cond (f y) 1 0
unfolding count_if
count_two f x y = go (f x) (f y)
  where
    go : (b c : Bool) → cond b (suc (cond c 1 0)) (cond c 1 0) ≡ cond b 1 0 + cond c 1 0
    go true true = refl
    go true false = refl
    go false true = refl
    go false false = refl

-- ---- one mark

-- 1 is added for a row, whose first row stands in front of the counts
module _ (W : List ℕ) (heads counts row : ℕ) (room : counts + get_or W (heads + row) 0 < length W) where
  -- each count
  added_count : (j : ℕ) → get_or (added W heads counts row) (counts + j) 0 ≡ get_or W (counts + j) 0 + cond (eqb j (get_or W (heads + row) 0)) 1 0
  added_count j = go (ℕ_discrete j (get_or W (heads + row) 0))
    where
      h : ℕ
      h = get_or W (heads + row) 0

      go : Dec (j ≡ get_or W (heads + row) 0) → get_or (added W heads counts row) (counts + j) 0 ≡ get_or W (counts + j) 0 + cond (eqb j (get_or W (heads + row) 0)) 1 0
      go (yes q) =
          rw (eq-eqb j (get_or W (heads + row) 0) q)
          (ap (λ (k : ℕ). get_or (added W heads counts row) (counts + k) 0) q
          ∙ get_or-set_same W (counts + get_or W (heads + row) 0) (get_or W (counts + get_or W (heads + row) 0) 0 + 1) 0 room
          ∙ ap (λ (k : ℕ). get_or W (counts + k) 0 + 1) (sym q))
      go (no q) =
          rw (ne_eqb j (get_or W (heads + row) 0) q)
          (get_or-set_other W (counts + get_or W (heads + row) 0) (counts + j) (get_or W (counts + get_or W (heads + row) 0) 0 + 1) 0 (λ z. q (omega arith)) ∙ omega arith)

  -- what lies in front of the counts
  added_front : take counts (added W heads counts row) ≡ take counts W
  added_front = take-set-le counts W (counts + get_or W (heads + row) 0) (get_or W (counts + get_or W (heads + row) 0) 0 + 1) (omega arith)

  added_before : (k : ℕ) → k < counts → get_or (added W heads counts row) k 0 ≡ get_or W k 0
  added_before k l = front_at counts k W (added W heads counts row) 0 added_front l

  -- what lies behind them
  added_rest : (m : ℕ) → get_or W (heads + row) 0 < m → drop (counts + m) (added W heads counts row) ≡ drop (counts + m) W
  added_rest m l = drop-set-lt (counts + m) W (counts + get_or W (heads + row) 0) (get_or W (counts + get_or W (heads + row) 0) 0 + 1) (omega arith)

  added_long : length (added W heads counts row) ≡ length W
  added_long = length-set W (counts + get_or W (heads + row) 0) (get_or W (counts + get_or W (heads + row) 0) 0 + 1)

-- ---- a use's marks

bit_low : (b : Bool) → cond b 1 0 ≤ 1
bit_low true = omega arith
bit_low false = omega arith

module _ {W : List ℕ} {firsts n i heads counts : ℕ} (r : MarkReady W firsts n i heads counts) where
  abbrev own : ℕ
  own = own_at W firsts n i

  abbrev far : ℕ
  far = own_at W firsts n (first_at W firsts i)

  own_room : counts + get_or W (heads + own) 0 < length W
  own_room = omega (arith, r.low own r.own_low, r.room)

  -- the first mark can be added
  pub own_ready : StepReady W heads counts own
  own_ready = record { inside = omega (arith, r.own_low, r.apart, r.room); room = own_room; small = omega (arith, r.small (get_or W (heads + own) 0) (r.low own r.own_low)) }

  abbrev once : List ℕ
  once = added W heads counts own

  far_kept : get_or once (heads + far) 0 ≡ get_or W (heads + far) 0
  far_kept = added_before W heads counts own own_room (heads + far) (omega (arith, r.far_low, r.apart))

  once_long : length once ≡ length W
  once_long = added_long W heads counts own own_room

  far_room : counts + get_or once (heads + far) 0 < length once
  far_room = omega (arith, far_kept, once_long, r.low far r.far_low, r.room)

  -- so can the second
  pub far_ready : {X : List ℕ} → X ≡ once → StepReady X heads counts far
  far_ready {X} e = subst (λ (v : List ℕ). StepReady v heads counts far) (sym e) ready
    where
      j : ℕ
      j = get_or once (heads + far) 0

      ready : StepReady once heads counts far
      ready =
          record {
            inside = omega (arith, r.far_low, r.apart, r.room, once_long);
            room = far_room;
            small =
                omega (
                  arith,
                  added_count W heads counts own own_room (get_or once (heads + far) 0),
                  bit_low (eqb (get_or once (heads + far) 0) (get_or W (heads + own) 0)),
                  r.small (get_or once (heads + far) 0) (omega (arith, far_kept, r.low far r.far_low)),
                  once_long,
                );
          }

  -- both are added
  pub marked_yes : {b : Bool} {X Y : List ℕ} → b ≡ alike_at W firsts n i → b ≡ true → X ≡ once → Y ≡ added X heads counts far → Y ≡ marked_at W firsts n i heads counts
  unfolding marked_at
  marked_yes {b} {X} {Y} t h e f = f ∙ ap (λ (v : List ℕ). added v heads counts far) e ∙ sym (ap (λ (b : Bool). cond b (added once heads counts far) W) (sym t ∙ h))

  -- none is
  pub marked_no : {b : Bool} → b ≡ alike_at W firsts n i → b ≡ false → W ≡ marked_at W firsts n i heads counts
  unfolding marked_at
  marked_no t h = sym (ap (λ (b : Bool). cond b (added once heads counts far) W) (sym t ∙ h))

  -- each count afterwards
  marked_count : (j : ℕ) → get_or (marked_at W firsts n i heads counts) (counts + j) 0 ≡ get_or W (counts + j) 0 + count_if (eqb j) (heads_at W firsts n heads i)
  unfolding marked_at heads_at
  marked_count j = go (alike_at W firsts n i)
    where
      go : (b : Bool) → get_or (cond b (added once heads counts far) W) (counts + j) 0
          ≡ get_or W (counts + j) 0 + count_if (eqb j) (cond b (get_or W (heads + own) 0 ∷ get_or W (heads + far) 0 ∷ []) [])
      go true =
          added_count once heads counts far far_room j
          ∙ ap (λ (k : ℕ). get_or once (counts + j) 0 + cond (eqb j k) 1 0) far_kept
          ∙ omega (arith, added_count W heads counts own own_room j, count_two (eqb j) (get_or W (heads + own) 0) (get_or W (heads + far) 0))
      go false = omega (arith, count_none (eqb j))

  -- what lies around the counts
  marked_front : take counts (marked_at W firsts n i heads counts) ≡ take counts W
  unfolding marked_at
  marked_front = go (alike_at W firsts n i)
    where
      go : (b : Bool) → take counts (cond b (added once heads counts far) W) ≡ take counts W
      go true = added_front once heads counts far far_room ∙ added_front W heads counts own own_room
      go false = refl

  marked_rest : drop (counts + r.m) (marked_at W firsts n i heads counts) ≡ drop (counts + r.m) W
  unfolding marked_at
  marked_rest = go (alike_at W firsts n i)
    where
      go : (b : Bool) → drop (counts + r.m) (cond b (added once heads counts far) W) ≡ drop (counts + r.m) W
      go true = added_rest once heads counts far far_room r.m (omega (arith, far_kept, r.low far r.far_low)) ∙ added_rest W heads counts own own_room r.m (r.low own r.own_low)
      go false = refl

  marked_long : length (marked_at W firsts n i heads counts) ≡ length W
  unfolding marked_at
  marked_long = go (alike_at W firsts n i)
    where
      go : (b : Bool) → length (cond b (added once heads counts far) W) ≡ length W
      go true = added_long once heads counts far far_room ∙ once_long
      go false = refl

-- ---- all marks

-- uses that stand in front of the counts are as they were, and so are their marks
module _ {W : List ℕ} {firsts n heads counts m : ℕ} (g : CountsReady W firsts n heads counts m) (E : List ℕ) (front : take counts E ≡ take counts W) where
  kept_at : (k : ℕ) → k < counts → get_or E k 0 ≡ get_or W k 0
  kept_at k l = front_at counts k W E 0 front l

  module _ (i : ℕ) (l : i < n) where
    first_kept : first_at E firsts i ≡ first_at W firsts i
    first_kept = kept_at (firsts + i) (omega (arith, g.uses_apart, g.apart))

    own_kept : own_at E firsts n i ≡ own_at W firsts n i
    own_kept = kept_at (firsts + n + i) (omega (arith, g.uses_apart, g.apart))

    far_same : own_at E firsts n (first_at E firsts i) ≡ own_at W firsts n (first_at W firsts i)
    far_same = ap (own_at E firsts n) first_kept ∙ kept_at (firsts + n + first_at W firsts i) (omega (arith, g.firsts_low i l, g.uses_apart, g.apart))

    alike_kept : alike_at E firsts n i ≡ alike_at W firsts n i
    alike_kept = λ t. alike (first_kept t) i (run t) (first_run t)
      where
        run : run_at E firsts n i ≡ run_at W firsts n i
        run = kept_at (firsts + 2 * n + i) (omega (arith, g.uses_apart, g.apart))

        first_run : run_at E firsts n (first_at E firsts i) ≡ run_at W firsts n (first_at W firsts i)
        first_run = ap (run_at E firsts n) first_kept ∙ kept_at (firsts + 2 * n + first_at W firsts i) (omega (arith, g.firsts_low i l, g.uses_apart, g.apart))

    head_same : (k : ℕ) → k < m → get_or E (heads + k) 0 ≡ get_or W (heads + k) 0
    head_same k h = kept_at (heads + k) (omega (arith, g.apart))

    heads_kept : heads_at E firsts n heads i ≡ heads_at W firsts n heads i
    unfolding heads_at
    heads_kept = λ t. cond (alike_kept t) (own_head t ∷ far_head t ∷ []) []
      where
        own_head : get_or E (heads + own_at E firsts n i) 0 ≡ get_or W (heads + own_at W firsts n i) 0
        own_head = ap (λ (k : ℕ). get_or E (heads + k) 0) own_kept ∙ head_same (own_at W firsts n i) (g.rows_low i l)

        far_head : get_or E (heads + own_at E firsts n (first_at E firsts i)) 0 ≡ get_or W (heads + own_at W firsts n (first_at W firsts i)) 0
        far_head = ap (λ (k : ℕ). get_or E (heads + k) 0) far_same ∙ head_same (own_at W firsts n (first_at W firsts i)) (g.rows_low (first_at W firsts i) (g.firsts_low i l))

  before_kept : (i : ℕ) → i ≤ n → heads_before E firsts n heads i ≡ heads_before W firsts n heads i
  unfolding heads_before
  before_kept zero l = refl
  before_kept (suc i) l = λ t. before_kept i (omega arith) t ++ heads_kept i (omega arith) t

-- at most two marks of each use
heads_few : (W : List ℕ) (firsts n heads : ℕ) (f : ℕ → Bool) (i : ℕ) → count_if f (heads_at W firsts n heads i) ≤ 2
unfolding heads_at
heads_few W firsts n heads f i = go (alike_at W firsts n i)
  where
    h : ℕ
    h = get_or W (heads + own_at W firsts n i) 0

    k : ℕ
    k = get_or W (heads + own_at W firsts n (first_at W firsts i)) 0

    go : (b : Bool) → count_if f (cond b (get_or W (heads + own_at W firsts n i) 0 ∷ get_or W (heads + own_at W firsts n (first_at W firsts i)) 0 ∷ []) []) ≤ 2
    go true = omega (arith, count_two f h k, bit_low (f h), bit_low (f k))
    go false = omega (arith, count_none f)

pub before_few : (W : List ℕ) (firsts n heads : ℕ) (f : ℕ → Bool) (i : ℕ) → count_if f (heads_before W firsts n heads i) ≤ 2 * i
unfolding heads_before count_if
before_few W firsts n heads f zero = omega arith
before_few W firsts n heads f (suc i) =
    omega (
      arith,
      count_both f (heads_before W firsts n heads i) (heads_at W firsts n heads i),
      before_few W firsts n heads f i,
      heads_few W firsts n heads f i,
    )

-- with the marks of the uses before use i counted: W became E
pub record Counting (W : List ℕ) (firsts n heads counts m i : ℕ) (E : List ℕ) : Type 0 where
  pub low : i ≤ n
  pub count : (j : ℕ) → j < m → get_or E (counts + j) 0 ≡ count_if (eqb j) (heads_before W firsts n heads i)
  pub front : take counts E ≡ take counts W
  pub rest : drop (counts + m) E ≡ drop (counts + m) W
  pub long : length E ≡ length W

-- the counts are cleared first: U became W
module _ {U W : List ℕ} {firsts n heads counts m e : ℕ} (g : CountsReady U firsts n heads counts m) (ee : e ≡ counts + m) (ew : W ≡ sets U counts (replicate (e - counts) 0)) where
  abbrev zeros : List ℕ
  zeros = replicate m 0

  zeros_long : length zeros ≡ m
  zeros_long = length-replicate m 0

  list : W ≡ sets U counts zeros
  list = let c : e - counts ≡ m = omega arith in ew ∙ ap (λ (k : ℕ). sets U counts (replicate k 0)) c

  cleared_front : take counts W ≡ take counts U
  cleared_front = ap (take counts) list ∙ take_sets U counts zeros

  cleared_long : length W ≡ length U
  cleared_long = ap length list ∙ length-sets U counts zeros

  -- what was asked still holds
  pub cleared_ready : CountsReady W firsts n heads counts m
  cleared_ready =
      record {
        uses_apart = g.uses_apart;
        apart = g.apart;
        room = omega (arith, g.room, cleared_long);
        enough = omega (arith, g.enough, cleared_long);
        firsts_low = λ i l. subst (λ (k : ℕ). k < n) (sym (first_kept g W cleared_front i l)) (g.firsts_low i l);
        rows_low = λ i l. subst (λ (k : ℕ). k < m) (sym (own_kept g W cleared_front i l)) (g.rows_low i l);
        low = λ k l. subst (λ (x : ℕ). x < m) (sym (kept_at g W cleared_front (heads + k) (omega (arith, g.apart)))) (g.low k l);
      }

  -- nothing is counted yet
  pub counting_none : Counting W firsts n heads counts m 0 W
  unfolding heads_before count_if
  counting_none =
      record {
        low = omega arith;
        count = λ j h.
            ap (λ (l : List ℕ). get_or l (counts + j) 0) list
            ∙ get_d_sets_in U counts zeros j 0 (omega (arith, zeros_long)) (omega (arith, g.room))
            ∙ get_or-replicate m j 0 0 h;
        front = refl;
        rest = refl;
        long = refl;
      }

  -- all is
  pub counting_all : {E : List ℕ} {i : ℕ} → Counting W firsts n heads counts m i E → n ≤ i → MarksCounted U firsts n heads counts m E
  counting_all {E} {i} c h =
      let q : i ≡ n = omega (arith, c.low) in
      record {
        count = λ j l. c.count j l ∙ ap (λ (k : ℕ). count_if (eqb j) (heads_before W firsts n heads k)) q ∙ ap (count_if (eqb j)) (before_kept g W cleared_front n (omega arith));
        front = c.front ∙ cleared_front;
        rest = c.rest ∙ ap (drop (counts + m)) list ∙ drop_sets U counts zeros (counts + m) (omega (arith, zeros_long));
        long = c.long ∙ cleared_long;
      }

module _ {W E : List ℕ} {firsts n heads counts m i : ℕ} (g : CountsReady W firsts n heads counts m) (c : Counting W firsts n heads counts m i E) (more : i < n) where
  -- use i can be marked
  pub mark_ready : MarkReady E firsts n i heads counts
  mark_ready =
      record {
        use_ready =
            record {
              inside = more;
              room = omega (arith, g.uses_apart, g.apart, g.room, c.long);
              low = subst (λ (k : ℕ). k < n) (sym (first_kept g E c.front i more)) (g.firsts_low i more);
            };
        m = m;
        own_low = subst (λ (k : ℕ). k < m) (sym (own_kept g E c.front i more)) (g.rows_low i more);
        far_low = subst (λ (k : ℕ). k < m) (sym (far_same g E c.front i more)) (g.rows_low (first_at W firsts i) (g.firsts_low i more));
        apart = g.apart;
        room = omega (arith, g.room, c.long);
        low = λ k l. subst (λ (x : ℕ). x < m) (sym (kept_at g E c.front (heads + k) (omega (arith, g.apart)))) (g.low k l);
        small = λ j l. omega (arith, c.count j l, before_few W firsts n heads (eqb j) i, g.enough, c.long);
      }

  -- it is
  pub counting_more : {X : List ℕ} → X ≡ marked_at E firsts n i heads counts → Counting W firsts n heads counts m (i + 1) X
  unfolding heads_before mark_ready
  counting_more {X} e =
      record {
        low = omega arith;
        count = λ j h.
            ap (λ (v : List ℕ). get_or v (counts + j) 0) e
            ∙ marked_count mark_ready j
            ∙ (λ t. c.count j h t + count_if (eqb j) (heads_kept g E c.front i more t))
            ∙ sym (ap (λ (k : ℕ). count_if (eqb j) (heads_before W firsts n heads k)) (add-one i) ∙ count_both (eqb j) (heads_before W firsts n heads i) (heads_at W firsts n heads i));
        front = ap (take counts) e ∙ marked_front mark_ready ∙ c.front;
        rest = ap (drop (counts + m)) e ∙ marked_rest mark_ready ∙ c.rest;
        long = ap length e ∙ marked_long mark_ready ∙ c.long;
      }
