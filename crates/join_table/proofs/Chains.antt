-- Laws of the table of chains: a walk along a chain, an item joined, all items joined. Assumes nothing.
use mathlib.Core.Path.{◌≡◌, refl, sym, ap, subst, ◌∙◌}
use mathlib.Core.Bool.{Bool, true, false}
use mathlib.Core.Logic.{◌≢◌}
use mathlib.Core.List.{List}
use Prim.Native.Nat.{ℕ, ◌+◌, ◌-◌, ◌*◌, ◌<◌, ◌≤◌}
use native.Mathlib.Omega.{arith}
use native.Mathlib.Nat.{not-suc-le-zero}
use native.Mathlib.Decide.{ℕ_discrete}
use lib.Dec.{eqb}
use lib.ListN.{length, get_or, take, drop, set, replicate, length-set, length-drop, get_or-replicate, get_or-append}
use lib.Seq.{get_or-take, get_or-drop, get_or-append-add, length-take-le, take-take, get_or-set_same, get_or-set_other, take-set-le, drop-set-lt, ext_get_or}
use borrow.Author.Count.{below_more}
use borrow.Author.Tests.{eqb-true, eqb-false}
use borrow.Rule.Slice.PartMut.{mid_of, put_mid, take_put, drop_put, mid_len}
use Rattle.join_definition.specs.Join.{joined, first_index, First, IsFirst, Joined}
use Rattle.join_definition.specs.Representatives.{first_is, joined_length, joined_at}
use Rattle.join_table.specs.Table.{bucket_of, Bucket, Named, Latest, Table, Walk, Compared, Search, Hit, Turn, Step, Begun, Ready}

-- ---- `find`, at the link p
module _ {ns W : List ℕ} {n i q : ℕ} (s : Search ns n i W q) where
  module _ {p : ℕ} (w : Walk ns (take n W) n i p) (test : p ≡ 0 → ⊥) where
    -- the link there leads on along the chain
    next_link : Latest ns (take n W) n (p - 1) (bucket_of n (get_or (take n W) (p - 1) 0)) (get_or W (2 * n + (p - 1)) 0)
    next_link = s.table.nexts (p - 1) (omega (arith, w.low)) (w.first (omega arith))

    -- the item there can be compared with item i
    pub walk_compares : Compared ns n (p - 1) i W
    walk_compares =
        record {
          named = s.table.named;
          room = omega (arith, s.table.room);
          low = omega (arith, w.low, s.low);
          low₂ = s.low;
        }

    -- the next link is smaller
    pub walk_less : get_or W (2 * n + (p - 1)) 0 < p
    walk_less = omega (arith, next_link.low)

    -- the item there has another name: the walk goes on
    pub walk_more : {r : Bool} → r ≡ eqb (get_or ns (p - 1) 0) (get_or ns i 0) → r ≡ false → Walk ns (take n W) n i (get_or W (2 * n + (p - 1)) 0)
    walk_more e z =
        record {
          low = omega (arith, next_link.low, w.low);
          first = next_link.first;
          hash = λ l. next_link.hash l ∙ w.hash (omega arith);
          all = λ j lt f g. next_link.all j
              (before j (w.all j lt f g) (λ q. other (ap (λ k. get_or ns k 0) (sym q) ∙ g)))
              f (ap (bucket_of n) (s.table.named.agree j i (omega (arith, s.low)) s.low g) ∙ sym (w.hash (omega arith)));
        }
      where
        other : get_or ns (p - 1) 0 ≡ get_or ns i 0 → ⊥
        other = eqb-false _ _ (sym e ∙ z)

        before : (j : ℕ) → j < p → (j ≡ p - 1 → ⊥) → j < p - 1
        before j a b = omega arith

    -- the item there has the name: it is found
    pub walk_hit : {r : Bool} → r ≡ eqb (get_or ns (p - 1) 0) (get_or ns i 0) → r ≡ true → Hit ns i p
    walk_hit e t =
        record { low = w.low; first = w.first; same = λ _. eqb-true _ _ (sym e ∙ t); none = λ z. absurd (test z) }

  -- the chain has ended: no item has the name
  pub walk_miss : {p : ℕ} → Walk ns (take n W) n i p → p ≡ 0 → Hit ns i 0
  walk_miss w z =
      record {
        low = omega arith;
        first = λ l. absurd (not-suc-le-zero l);
        same = λ l. absurd (not-suc-le-zero l);
        none = λ _ j lt f e. omega (arith, w.all j lt f e);
      }

-- ---- `join_one`

-- the word at k is not one of those that were stored
kept : (W : List ℕ) (a b c x y z k : ℕ) → (k ≡ a → ⊥) → (k ≡ b → ⊥) → (k ≡ c → ⊥) → get_or (set (set (set W a x) b y) c z) k 0 ≡ get_or W k 0
kept W a b c x y z k p q r =
    get_or-set_other (set (set W a x) b y) c k z 0 r ∙ get_or-set_other (set W a x) b k y 0 q ∙ get_or-set_other W a k x 0 p

-- a chain that item i does not go into
latest_skip : {ns ds : List ℕ} {n i h L : ℕ} → Latest ns ds n i h L → (First ns i → bucket_of n (get_or ds i 0) ≡ h → ⊥) → Latest ns ds n (i + 1) h L
latest_skip {ns} {ds} {n} {i} {h} {L} l no-i =
    record {
      low = omega (arith, l.low);
      first = l.first;
      hash = l.hash;
      all = below_more (λ j. First ns j → bucket_of n (get_or ds j 0) ≡ h → j < L) i l.all (λ f e. absurd (no-i f e));
    }

-- the chain that item i heads
latest_here : {ns ds : List ℕ} {i : ℕ} (n : ℕ) → First ns i → Latest ns ds n (i + 1) (bucket_of n (get_or ds i 0)) (i + 1)
latest_here {ns} {ds} {i} n f =
    record {
      low = omega arith;
      first = λ _. subst (First ns) back f;
      hash = λ _. ap (λ k. bucket_of n (get_or ds k 0)) (sym back);
      all = λ j l _ _. l;
    }
  where
    back : i ≡ i + 1 - 1
    back = omega arith

module _ {ns W : List ℕ} {n i : ℕ} (u : Turn ns n i W) where
  -- the table before the turn
  t : Table ns (take n W) n i W
  t = u.table

  -- the digest of item i
  here : get_or (take n W) i 0 ≡ get_or W i 0
  here = get_or-take n W i 0 u.low

  -- the head of the chain of item i starts a walk
  pub walk_start : {b : ℕ} → Bucket n (get_or W i 0) b → Search ns n i W (get_or W (3 * n + b) 0)
  walk_start {b} l =
      let h = t.heads b l.low in
      let e : b ≡ bucket_of n (get_or (take n W) i 0) = l.is ∙ ap (bucket_of n) (sym here) in
      record {
        table = t;
        low = u.low;
        walk =
            record {
              low = h.low;
              first = h.first;
              hash = λ p. h.hash p ∙ e;
              all = λ j lj f q. h.all j lj f (ap (bucket_of n) (t.named.agree j i (omega (arith, u.low)) u.low q) ∙ sym e);
            };
      }

  -- no item below has its name
  is_first : {r : ℕ} → Hit ns i r → r ≡ 0 → First ns i
  is_first hit z k lk e =
      let r = t.reps k lk in
      hit.none z (get_or W (n + k) 0) (omega (arith, r.low)) r.first (r.same ∙ e)

  -- an item below has its name
  module _ {r : ℕ} (hit : Hit ns i r) (pos : r ≡ 0 → ⊥) where
    -- the item found is the representative
    rep : IsFirst ns i (r - 1)
    rep = record { low = omega (arith, hit.low); same = hit.same (omega arith); first = hit.first (omega arith) }

    -- so item i is not the first of its name
    later : First ns i → ⊥
    later f = f (r - 1) (omega (arith, hit.low)) rep.same

    -- the words once it is stored
    abbrev Found : List ℕ
    Found = set W (n + i) (r - 1)

    -- every other word is as it was
    other : (k : ℕ) → (k ≡ n + i → ⊥) → get_or W k 0 ≡ get_or Found k 0
    other k p = sym (get_or-set_other W (n + i) k (r - 1) 0 p)

    -- the item is joined
    pub step_found : Step ns n i W (set W (n + i) (r - 1))
    step_found =
        record {
          table =
              record {
                bound = omega (arith, u.low);
                few = t.few;
                room = simp length-set t.room;
                named = t.named;
                reps =
                    below_more (λ k. IsFirst ns k (get_or Found (n + k) 0)) i
                    (λ k l. subst (IsFirst ns k) (other (n + k) (omega arith)) (t.reps k l))
                    (subst (IsFirst ns i) (sym (get_or-set_same W (n + i) (r - 1) 0 (omega (arith, t.room, u.low)))) rep);
                nexts =
                    below_more (λ k. First ns k → Latest ns (take n W) n k (bucket_of n (get_or (take n W) k 0)) (get_or Found (2 * n + k) 0)) i
                    (λ k l f. subst (Latest ns (take n W) n k (bucket_of n (get_or (take n W) k 0))) (other (2 * n + k) (omega (arith, u.low))) (t.nexts k l f))
                    (λ f. absurd (later f));
                heads =
                    λ h l.
                    subst (Latest ns (take n W) n (i + 1) h) (other (3 * n + h) (omega (arith, u.low)))
                    (latest_skip (t.heads h l) (λ f _. later f));
              };
          words = take-set-le n W (n + i) (r - 1) (omega arith);
          rest = drop-set-lt (4 * n) W (n + i) (r - 1) (omega (arith, u.low));
        }

  -- no item below has its name, and it becomes the head b of its chain
  module _ {b r : ℕ} (l : Bucket n (get_or W i 0) b) (hit : Hit ns i r) (z : r ≡ 0) where
    -- item i is the first of its name
    f : First ns i
    f = is_first hit z

    -- the chain is one of n
    low_b : b < n
    low_b = l.low

    -- the words once item i is its own representative, links to the former head, and is the head
    abbrev New : List ℕ
    New = set (set (set W (n + i) i) (2 * n + i) (get_or W (3 * n + b) 0)) (3 * n + b) (i + 1)

    -- every other word is as it was
    old : (k : ℕ) → (k ≡ n + i → ⊥) → (k ≡ 2 * n + i → ⊥) → (k ≡ 3 * n + b → ⊥) → get_or W k 0 ≡ get_or New k 0
    old k p q r = sym (kept W (n + i) (2 * n + i) (3 * n + b) i (get_or W (3 * n + b) 0) (i + 1) k p q r)

    -- and there are as many
    long : length New ≡ length W
    long = simp length-set

    -- the chain is that of the digest of item i
    hash : b ≡ bucket_of n (get_or (take n W) i 0)
    hash = l.is ∙ ap (bucket_of n) (sym here)

    -- the representative that was stored
    at_rep : get_or New (n + i) 0 ≡ i
    at_rep =
        let p : n + i ≢ 3 * n + b = omega (arith, u.low) in
        let q : n + i ≢ 2 * n + i = omega (arith, u.low) in
        let r : n + i < length W = omega (arith, t.room, u.low) in
        simp (get_or-set_other, get_or-set_same)

    -- the link that was stored
    at_next : get_or New (2 * n + i) 0 ≡ get_or W (3 * n + b) 0
    at_next =
        let p : 2 * n + i ≢ 3 * n + b = omega (arith, u.low) in
        let r : 2 * n + i < length (set W (n + i) i) = simp length-set (omega (arith, t.room, u.low)) in
        simp (get_or-set_other, get_or-set_same)

    -- the head that was stored
    at_head : get_or New (3 * n + b) 0 ≡ i + 1
    at_head = get_or-set_same (set (set W (n + i) i) (2 * n + i) (get_or W (3 * n + b) 0)) _ _ _ (simp length-set (omega (arith, t.room, low_b)))

    -- every chain ends in its latest item again
    head : (h : ℕ) → h < n → Dec (h ≡ b) → Latest ns (take n W) n (i + 1) h (get_or New (3 * n + h) 0)
    head h m (yes q) =
        subst (λ x. Latest ns (take n W) n (i + 1) x (get_or New (3 * n + x) 0)) (sym q)
        (subst (Latest ns (take n W) n (i + 1) b) (sym at_head) (subst (λ x. Latest ns (take n W) n (i + 1) x (i + 1)) (sym hash) (latest_here n f)))
    head h m (no q) =
        subst (Latest ns (take n W) n (i + 1) h) (old (3 * n + h) (omega (arith, u.low)) (omega (arith, u.low)) (omega arith))
        (latest_skip (t.heads h m) (λ _ z. q (sym z ∙ sym hash)))

    -- the item is joined
    pub step_new : Step ns n i W New
    step_new =
        record {
          table =
              record {
                bound = omega (arith, u.low);
                few = t.few;
                room = omega (arith, t.room, long);
                named = t.named;
                reps =
                    below_more (λ k. IsFirst ns k (get_or New (n + k) 0)) i
                    (λ k m. subst (IsFirst ns k) (old (n + k) (omega arith) (omega (arith, u.low)) (omega (arith, u.low))) (t.reps k m))
                    (subst (IsFirst ns i) (sym at_rep) (record { low = omega arith; same = refl; first = f }));
                nexts =
                    below_more (λ k. First ns k → Latest ns (take n W) n k (bucket_of n (get_or (take n W) k 0)) (get_or New (2 * n + k) 0)) i
                    (λ k m g. subst (Latest ns (take n W) n k (bucket_of n (get_or (take n W) k 0))) (old (2 * n + k) (omega (arith, u.low)) (omega arith) (omega (arith, u.low))) (t.nexts k m g))
                    (λ g. subst (λ x. Latest ns (take n W) n i x (get_or New (2 * n + i) 0)) hash (subst (Latest ns (take n W) n i b) (sym at_next) (t.heads b low_b)));
                heads = λ h m. head h m (ℕ_discrete h b);
              };
          words =
              let p : n ≤ n + i = omega arith in
              let q : n ≤ 2 * n + i = omega arith in
              let r : n ≤ 3 * n + b = omega arith in
              simp take-set-le;
          rest =
              let p : n + i < 4 * n = omega (arith, u.low) in
              let q : 2 * n + i < 4 * n = omega (arith, u.low) in
              let r : 3 * n + b < 4 * n = omega (arith, low_b) in
              simp drop-set-lt;
        }

-- ---- `start`: the part from 3 * n to 4 * n came back cleared
module _ (W ys : List ℕ) (n : ℕ) (room : 4 * n ≤ length W) (e : ys ≡ replicate (4 * n - 3 * n) 0) (l : length ys ≡ length (mid_of (3 * n) (4 * n - 3 * n) W)) where
  -- the words after that
  abbrev Out : List ℕ
  Out = put_mid (3 * n) (4 * n - 3 * n) W ys

  -- the words in front of the heads
  front : length (take (3 * n) W) ≡ 3 * n
  front = length-take-le (3 * n) W (omega arith)

  -- all heads are 0, and the words in front of them and behind are as they were
  pub begun : Begun n W Out
  begun =
      record {
        heads = λ h m.
            ap (λ k. get_or Out (k + h) 0) (sym front)
            ∙ get_or-append-add (take (3 * n) W) _ h 0
            ∙ get_or-append ys _ 0 h (omega (arith, l, mid_len (3 * n) (4 * n) W room))
            ∙ ap (λ x. get_or x h 0) e
            ∙ get_or-replicate (4 * n - 3 * n) h 0 0 (omega arith);
        words =
            sym (take-take n (3 * n) Out (omega arith)) ∙ ap (take n) (take_put (3 * n) (4 * n - 3 * n) W ys (omega arith)) ∙ take-take n (3 * n) W (omega arith);
        rest = drop_put (3 * n) (4 * n) W ys (omega arith) room (l ∙ mid_len (3 * n) (4 * n) W room);
      }

-- ---- `join_table`, with i items joined, from W; the names go by the words of the table
pub record Progress (of : List ℕ → List ℕ) (n : ℕ) (W : List ℕ) (i : ℕ) (E : List ℕ) : Type 0 where
  pub table : Table (of (take n E)) (take n E) n i E
  pub words : take n E ≡ take n W
  pub rest : drop (4 * n) E ≡ drop (4 * n) W
  pub long : length E ≡ length W

module _ {of : List ℕ → List ℕ} {n : ℕ} where
  -- the next item can be joined
  pub progress_turn : {i : ℕ} {W E : List ℕ} → Progress of n W i E → i < n → Turn (of (take n E)) n i E
  progress_turn p l = record { table = p.table; low = l }

  -- one item more is joined
  pub progress_more : {i : ℕ} {W E F : List ℕ} → Progress of n W i E → Step (of (take n E)) n i E F → length F ≡ length E → Progress of n W (i + 1) F
  progress_more {i} {W} {E} {F} p s e =
      record {
        table = subst (λ l. Table (of l) l n (i + 1) F) (sym s.words) s.table;
        words = s.words ∙ p.words;
        rest = s.rest ∙ p.rest;
        long = e ∙ p.long;
      }

  -- no item is joined while the chains are empty
  pub progress_none : {W E : List ℕ} → Ready (of (take n W)) n W → Begun n W E → length E ≡ length W → Progress of n E 0 E
  progress_none {W} {E} r b e =
      record {
        table =
            record {
              bound = omega arith;
              few = r.few;
              room = omega (arith, r.room, e);
              named = subst (λ l. Named (of l) l n) (sym b.words) r.named;
              reps = λ k l. absurd (not-suc-le-zero l);
              nexts = λ k l. absurd (not-suc-le-zero l);
              heads = λ h l. subst (Latest (of (take n E)) (take n E) n 0 h) (sym (b.heads h l)) empty;
            };
        words = refl;
        rest = refl;
        long = refl;
      }
    where
      empty : {ns ds : List ℕ} {n h : ℕ} → Latest ns ds n 0 h 0
      empty =
          record {
            low = omega arith;
            first = λ l. absurd (not-suc-le-zero l);
            hash = λ l. absurd (not-suc-le-zero l);
            all = λ j l. absurd (not-suc-le-zero l);
          }

  -- all items are joined
  pub progress_all : {i : ℕ} {ns W W₁ E : List ℕ} → Progress of n W₁ i E → n ≤ i → Begun n W W₁ → Ready ns n W → ns ≡ of (take n W) → Joined ns n W E
  progress_all {i} {ns} {W} {W₁} {E} p le b r is =
      record {
        reps =
            ext_get_or 0 (take n (drop n E)) (joined ns) (part ∙ sym (joined_length ns ∙ r.named.long))
            (λ k l. get_or-take n (drop n E) k 0 (omega (arith, l, part)) ∙ get_or-drop n E k 0 ∙ one k (omega (arith, l, part)) ∙ sym (joined_at ns k (omega (arith, l, part, r.named.long))));
        rep = one;
        words = words;
        rest = p.rest ∙ b.rest;
      }
    where
      words : take n E ≡ take n W
      words = p.words ∙ b.words

      one : (k : ℕ) → k < n → get_or E (n + k) 0 ≡ first_index ns k
      one k l =
          first_is ns k (get_or E (n + k) 0) (omega (arith, r.named.long))
          (subst (λ l. IsFirst l k (get_or E (n + k) 0)) (ap of words ∙ sym is) (p.table.reps k (omega arith)))

      part : length (take n (drop n E)) ≡ n
      part = length-take-le n (drop n E) (simp length-drop (omega (arith, p.table.room)))
