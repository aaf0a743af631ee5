-- The laws of items and groups: a step from a place, and steps one after another. Assumes nothing.
use mathlib.Core.Bool.{Bool, true, false, cond}
use mathlib.Core.List.{List, [], ◌∷◌, ◌++◌, append_assoc}
use mathlib.Core.Option.{some}
use mathlib.Core.Path.{◌≡◌, refl, sym, ◌∙◌, ap, subst}
use Prim.Native.Nat.{ℕ, zero, suc, ◌+◌, ◌-◌, ◌*◌, ◌≤◌, ◌<◌}
use native.Mathlib.Numerals.{add-one}
use native.Mathlib.Omega.{arith}
use borrow.Author.Tests.{lt-ltb, le-ltb, eqb-true, eqb-false}
use lib.Dec.{eqb, ltb}
use lib.IntN.{ℤ, pos}
use lib.ListN.{length, drop, length-append}
use Rattle.std.specs.Prelude.{Option, None, Some, Result, Ok, Err, IfOk}
use Rattle.slice_append.specs.Appended.{Appended, appended_none, appended_then}
use Rattle.plan_definition.specs.Places.{Place, total, moved, in_range}
use Rattle.plan_definition.specs.Grammar.{Entry, entry, most_depth}
use Rattle.plan_definition.specs.Lines as Lines
use Rattle.plan_definition.specs.Lines.{line_of, lines_of}
use Rattle.plan_definition.specs.Reading.{refusal_of, entries_of, entry_width, list_of, malformed, too_deep, out_of_range, too_many, outer}
use Rattle.plan_definition.specs.ListLaws.{list_append, list_length}
use Rattle.plan_definition.specs.Steps.{
  no_line,
  group_opened,
  group_too_deep,
  bin_placed,
  bin_out_of_range,
  bin_too_many,
  group_closed,
  none_to_close,
  opened_entries,
  bin_entries,
  closed_entries,
}
use Rattle.plan_definition.specs.declared.PlaceWords.{PlaceWords}
use Rattle.plan_lines.specs.declared.places.SumWords.{SumWords}
use Rattle.plan_lines.specs.declared.lines.LineAt.{LineAt}
use Rattle.plan_lines.specs.declared.lines.PlanLine.{PlanLine}
use Rattle.plan_lines.specs.declared.lines.PlanLine.TheVariants as PlanLine
use Rattle.plan_lines.specs.Given.{Begins, Found, ended, given, place_of}
use Rattle.plan_lines.specs.Sums.{MovedTo, Near, sum_of}
use Rattle.plan_read.specs.declared.path.Path.{Path}
use Rattle.plan_read.specs.declared.items.Step.{Step}
use Rattle.plan_read.specs.Steps.{
  Along,
  GroupRead,
  ItemRead,
  LeafRead,
  Opened,
  OpensGroup,
  Read,
  Ready,
  Stands,
  Went,
  bin_step,
  closed_step,
  end_step,
  entries_after,
  entries_closed,
  leaf_entries,
  leaf_step,
  may_open,
  refusal_after,
  refusal_closed,
  step,
}

-- ---- a step that offends, and one that doesn't, along every path
module _ (text : List ℕ) (depth : ℕ) (sum : SumWords) (at count room : ℕ) (E W : List ℤ) (long : length W ≡ length E) where
  offends : (n : ℕ) → ((path : List Place) → Stands path depth sum → refusal_of room path count (lines_of (drop at text)) ≡ n) → ItemRead text depth sum at count room E W (Err n)
  offends n v = record { read = record { long = long; inside = tt; onward = tt; along = v }; further = tt }

  goes_on : (s : Step) → s.next ≤ length text → at ≤ s.next → (s.closed ≡ false → at < s.next)
      → ((path : List Place) → Stands path depth sum → Went text path at count room E W s)
      → ItemRead text depth sum at count room E W (Ok s)
  goes_on s h l m v = record { read = record { long = long; inside = h; onward = l; along = v }; further = m }

-- ---- a line at a place
module _ (text : List ℕ) (at : ℕ) (r : LineAt) (v : Found text at r) where
  -- the line is there
  begins : ended r.line ≡ false → Begins text at r
  begins = v.begins

  module _ (b : Begins text at r) (path : List Place) where
    refusal_cut : (room count : ℕ) → refusal_of room path count (lines_of (drop at text)) ≡ refusal_of room path count (b.bytes ∷ lines_of (drop r.end text))
    refusal_cut room count = ap (refusal_of room path count) b.cut

    entries_cut : entries_of path (lines_of (drop at text)) ≡ entries_of path (b.bytes ∷ lines_of (drop r.end text))
    entries_cut = ap (entries_of path) b.cut

    is_line : (x : Lines.Line) → given r.line ≡ some x → line_of b.bytes ≡ some x
    is_line x e = sym b.is ∙ e

-- the sum along the path into a bin or a group
deeper : (path : List Place) (depth : ℕ) (sum : SumWords) (o : PlaceWords) → Stands path depth sum → moved (sum_of sum) (place_of o) ≡ total (place_of o ∷ path)
unfolding total
deeper path depth sum o s = ap (λ (p : Place). moved p (place_of o)) s.sum_is

module _ (text : List ℕ) (depth : ℕ) (sum : SumWords) (at end count room : ℕ) (E W : List ℤ) where
  -- a group too deep
  leaf_deep : (o : PlaceWords) → Found text at (record { line = PlanLine.Open o; end = end }) → ltb depth most_depth ≡ false → length W ≡ length E
      → ItemRead text depth sum at count room E W (Err too_deep)
  unfolding given ended
  leaf_deep o v d l =
      let b : Begins text at (record { line = PlanLine.Open o; end = end }) = v.begins refl in
      offends text depth sum at count room E W l 62 (λ path s. ap (refusal_of room path count) b.cut
      ∙ group_too_deep room path count b.bytes _ (place_of o) (sym b.is) (ap (λ (n : ℕ). ltb n most_depth) s.deep ∙ d))

  -- no line of a plan
  leaf_none : Found text at (record { line = PlanLine.Malformed; end = end }) → length W ≡ length E → ItemRead text depth sum at count room E W (Err malformed)
  unfolding given ended
  leaf_none v l =
      let b : Begins text at (record { line = PlanLine.Malformed; end = end }) = v.begins refl in
      offends text depth sum at count room E W l 61 (λ path s. ap (refusal_of room path count) b.cut ∙ no_line room path count b.bytes _ (sym b.is))

  -- a bracket
  leaf_close : Found text at (record { line = PlanLine.Close; end = end }) → length W ≡ length E
      → IfOk (closed_step depth end count) (λ s. entry_width * room ≤ length E → Appended (entry_width * count) [] E W) → ItemRead text depth sum at count room E W (closed_step depth end count)
  unfolding given ended refusal_closed entries_closed list_of
  leaf_close v l put = go (eqb depth 0) refl put
    where
      b : Begins text at (record { line = PlanLine.Close; end = end })
      b = v.begins refl

      closes : (path : List Place) → 0 < length path → refusal_of room path count (lines_of (drop at text)) ≡ refusal_closed room path count (lines_of (drop end text))
      closes [] h = absurd (omega arith)
      closes (o ∷ path) h = ap (refusal_of room (o ∷ path) count) b.cut ∙ group_closed room (o ∷ path) count b.bytes _ (sym b.is) (lt-ltb 0 (length (o ∷ path)) h)

      lists : (path : List Place) → 0 < length path → entries_of path (lines_of (drop at text)) ≡ entries_closed path (lines_of (drop end text))
      lists [] h = absurd (omega arith)
      lists (o ∷ path) h = ap (entries_of (o ∷ path)) b.cut ∙ closed_entries (o ∷ path) b.bytes _ (sym b.is)

      afterwards : Bool → Result Step ℕ
      afterwards z = cond z (Err malformed) (Ok (step true end count))

      go : (z : Bool) → eqb depth 0 ≡ z → IfOk (afterwards z) (λ s. entry_width * room ≤ length E → Appended (entry_width * count) [] E W)
          → ItemRead text depth sum at count room E W (afterwards z)
      go true q p =
          let none_open : depth ≡ 0 = eqb-true depth 0 q in
          offends text depth sum at count room E W l 61 (λ path s. ap (refusal_of room path count) b.cut
          ∙ none_to_close room path count b.bytes _ (sym b.is) (le-ltb 0 (length path) (omega (arith, s.deep))))
      go false q p =
          let some_open : ¬ (depth ≡ 0) = eqb-false depth 0 q in
          goes_on text depth sum at count room E W l (step true end count) v.within v.from (λ e. absurd (no e))
          (λ path s. record {
            entries = [];
            refusal = closes path (omega (arith, s.deep));
            listed = lists path (omega (arith, s.deep));
            counted = omega arith;
            put = p;
          })
        where
          no : true ≡ false → ⊥
          no e = let z : ◌≡◌ {A = ℕ} 0 1 = cc in omega arith

  -- the end of the text
  leaf_end : Found text at (record { line = PlanLine.End; end = end }) → length W ≡ length E
      → IfOk (end_step depth end count) (λ s. entry_width * room ≤ length E → Appended (entry_width * count) [] E W) → ItemRead text depth sum at count room E W (end_step depth end count)
  unfolding ended refusal_of entries_of refusal_closed entries_closed list_of
  leaf_end v l put = go (eqb depth 0) refl put
    where
      none_left : lines_of (drop at text) ≡ []
      none_left = v.none_left refl

      ends : (path : List Place) → length path ≡ 0 → refusal_of room path count (lines_of (drop at text)) ≡ refusal_closed room path count (lines_of (drop end text))
      ends [] h = ap (refusal_of room [] count) none_left
      ends (o ∷ path) h = absurd (omega arith)

      lists : (path : List Place) → length path ≡ 0 → entries_of path (lines_of (drop at text)) ≡ entries_closed path (lines_of (drop end text))
      lists [] h = ap (entries_of []) none_left
      lists (o ∷ path) h = absurd (omega arith)

      open_still : (path : List Place) → 0 < length path → refusal_of room path count (lines_of (drop at text)) ≡ malformed
      open_still [] h = absurd (omega arith)
      open_still (o ∷ path) h = ap (refusal_of room (o ∷ path) count) none_left

      no : true ≡ false → ⊥
      no e = let z : ◌≡◌ {A = ℕ} 0 1 = cc in omega arith

      afterwards : Bool → Result Step ℕ
      afterwards z = cond z (Ok (step true end count)) (Err malformed)

      go : (z : Bool) → eqb depth 0 ≡ z → IfOk (afterwards z) (λ s. entry_width * room ≤ length E → Appended (entry_width * count) [] E W)
          → ItemRead text depth sum at count room E W (afterwards z)
      go true q p =
          let none_open : depth ≡ 0 = eqb-true depth 0 q in
          goes_on text depth sum at count room E W l (step true end count) v.within v.from (λ e. absurd (no e))
          (λ path s. record { entries = []; refusal = ends path (omega (arith, s.deep)); listed = lists path (omega (arith, s.deep)); counted = omega arith; put = p })
      go false q p =
          let some_open : ¬ (depth ≡ 0) = eqb-false depth 0 q in
          offends text depth sum at count room E W l 61 (λ path s. open_still path (omega (arith, s.deep)))

  -- a bin
  leaf_bin : (n : ℕ) (o : PlaceWords) → Found text at (record { line = PlanLine.Bin n o; end = end }) → length W ≡ length E
      → IfOk (bin_step (moved (sum_of sum) (place_of o)) end count room) (λ s. entry_width * room ≤ length E
      → Appended (entry_width * count) (list_of (entry (pos n) (moved (sum_of sum) (place_of o)) ∷ [])) E W)
      → ItemRead text depth sum at count room E W (bin_step (moved (sum_of sum) (place_of o)) end count room)
  unfolding given ended
  leaf_bin n o v l put = go (in_range place) refl put
    where
      place : Place
      place = moved (sum_of sum) (place_of o)

      b : Begins text at (record { line = PlanLine.Bin n o; end = end })
      b = v.begins refl

      there : (path : List Place) → Stands path depth sum → (x : Bool) → in_range place ≡ x → in_range (total (place_of o ∷ path)) ≡ x
      there path s x q = ap in_range (sym (deeper path depth sum o s)) ∙ q

      Put : Result Step ℕ → Type 0
      Put r = IfOk r (λ s. entry_width * room ≤ length E → Appended (entry_width * count) (list_of (entry (pos n) place ∷ [])) E W)

      within : (x : Bool) → ltb count room ≡ x → in_range place ≡ true → Put (cond x (Ok (step false end (suc count))) (Err too_many))
          → ItemRead text depth sum at count room E W (cond x (Ok (step false end (suc count))) (Err too_many))
      within true q r p =
          goes_on text depth sum at count room E W l (step false end (suc count)) v.within v.from (λ e. b.more)
          (λ path s. record {
            entries = entry (pos n) place ∷ [];
            refusal = ap (refusal_of room path count) b.cut ∙ bin_placed room path count b.bytes _ n (place_of o) (sym b.is) (there path s true r) q;
            listed = ap (entries_of path) b.cut ∙ bin_entries path b.bytes _ n (place_of o) (sym b.is)
                ∙ ap (λ (p : Place). entry (pos n) p ∷ entries_of path (lines_of (drop end text))) (sym (deeper path depth sum o s));
            counted = omega arith;
            put = p;
          })
      within false q r p =
          offends text depth sum at count room E W l 64
          (λ path s. ap (refusal_of room path count) b.cut ∙ bin_too_many room path count b.bytes _ n (place_of o) (sym b.is) (there path s true r) q)

      go : (x : Bool) → in_range place ≡ x → Put (cond x (cond (ltb count room) (Ok (step false end (suc count))) (Err too_many)) (Err out_of_range))
          → ItemRead text depth sum at count room E W (cond x (cond (ltb count room) (Ok (step false end (suc count))) (Err too_many)) (Err out_of_range))
      go true q p = within (ltb count room) refl q p
      go false q p =
          offends text depth sum at count room E W l 63
          (λ path s. ap (refusal_of room path count) b.cut ∙ bin_out_of_range room path count b.bytes _ n (place_of o) (sym b.is) (there path s false q))

  -- a line that opens no group, or one too many
  leaf_any : (line : PlanLine) → Found text at (record { line = line; end = end }) → may_open line depth ≡ false → length W ≡ length E
      → IfOk (leaf_step line depth sum end count room) (λ s. entry_width * room ≤ length E → Appended (entry_width * count) (list_of (leaf_entries line sum)) E W)
      → ItemRead text depth sum at count room E W (leaf_step line depth sum end count room)
  unfolding leaf_step leaf_entries may_open list_of
  leaf_any (PlanLine.Open o) v d l put = leaf_deep o v d l
  leaf_any (PlanLine.Bin n o) v d l put = leaf_bin n o v l put
  leaf_any PlanLine.Close v d l put = leaf_close v l put
  leaf_any PlanLine.Malformed v d l put = leaf_none v l
  leaf_any PlanLine.End v d l put = leaf_end v l put

-- An item that is no group.
pub item_leaf : (text : List ℕ) (depth : ℕ) (sum : SumWords) (at count room : ℕ) (E W : List ℤ) (x : Result Step ℕ) (r : LineAt) → Found text at r → may_open r.line depth ≡ false
    → LeafRead r.line depth sum r.end count room E W x → ItemRead text depth sum at count room E W x
item_leaf text depth sum at count room E W x r v d w =
    subst (ItemRead text depth sum at count room E W) (sym w.is)
    (leaf_any text depth sum at r.end count room E W r.line v d w.long
    (subst (λ (y : Result Step ℕ). IfOk y (λ s. entry_width * room ≤ length E → Appended (entry_width * count) (list_of (leaf_entries r.line sum)) E W)) w.is w.put))

-- ---- groups

-- what reading from a place asks of a group
pub ready_inner : (text : List ℕ) (at room : ℕ) (r : LineAt) → Ready text at room → Found text at r → Ready text r.end room
ready_inner text at room r v w = record { place = w.within; few = v.few }

-- An item that is a group.
module _ (text : List ℕ) (depth : ℕ) (sum : SumWords) (inner : Path) (at count room : ℕ) (E W : List ℤ) (r : LineAt) (v : Found text at r) (o : OpensGroup r.line depth sum inner) where
  opening : given r.line ≡ some (Lines.Open (place_of o.offset))
  unfolding given
  opening = ap given o.is

  there : Begins text at r
  unfolding ended
  there = v.begins (ap ended o.is)

  inside : (path : List Place) → Stands path depth sum → Stands (place_of o.offset ∷ path) inner.depth inner.sum
  inside path t = record { deep = omega (arith, t.deep, o.deeper); sum_is = o.moved_to.is ∙ deeper path depth sum o.offset t }

  opens : (path : List Place) → Stands path depth sum → refusal_of room path count (lines_of (drop at text)) ≡ refusal_of room (place_of o.offset ∷ path) count (lines_of (drop r.end text))
  opens path t =
      ap (refusal_of room path count) there.cut
      ∙ group_opened room path count there.bytes _ (place_of o.offset) (sym there.is ∙ opening) (lt-ltb (length path) most_depth (omega (arith, t.deep, o.shallow)))

  -- a line in it offends
  pub item_offends : (n : ℕ) → GroupRead text inner.depth inner.sum r.end count room E W (Err n) → ItemRead text depth sum at count room E W (Err n)
  item_offends n w = record {
    read = record { long = w.read.long; inside = tt; onward = tt; along = λ path t. opens path t ∙ w.read.along (place_of o.offset ∷ path) (inside path t) };
    further = tt;
  }

  -- it is read to its bracket
  pub item_group : (s : Step) → GroupRead text inner.depth inner.sum r.end count room E W (Ok s) → ItemRead text depth sum at count room E W (Ok (step false s.next s.count))
  unfolding refusal_closed entries_closed
  item_group s w = record {
    read = record { long = w.read.long; inside = w.read.inside; onward = omega (arith, w.read.onward, v.from); along = along };
    further = λ e. omega (arith, w.read.onward, there.more);
  }
    where
      along : (path : List Place) → Stands path depth sum → Along text path at count room E W (Ok (step false s.next s.count))
      along path t =
          let g : Went text (place_of o.offset ∷ path) r.end count room E W s = w.read.along (place_of o.offset ∷ path) (inside path t) in
          let shut : s.closed ≡ true = w.ended in
          record {
            entries = g.entries;
            refusal = opens path t ∙ g.refusal
                ∙ ap (λ (c : Bool). cond c (refusal_of room path s.count (lines_of (drop s.next text)))
                (refusal_of room (place_of o.offset ∷ path) s.count (lines_of (drop s.next text)))) shut;
            listed = ap (entries_of path) there.cut ∙ opened_entries path there.bytes _ (place_of o.offset) (sym there.is ∙ opening) ∙ g.listed
                ∙ ap (λ (c : Bool). g.entries ++ cond c (entries_of path (lines_of (drop s.next text))) (entries_of (place_of o.offset ∷ path) (lines_of (drop s.next text)))) shut;
            counted = g.counted;
            put = g.put;
          }

-- ---- items one after another

-- so far, from a place: the items before the next have been read
abbrev pub Reached : List ℕ → ℕ → SumWords → ℕ → ℕ → ℕ → List ℤ → List ℤ → ℕ → ℕ → Type 0
Reached text depth sum at count room E W next standing = Read text depth sum at count room E W (Ok (step false next standing))

pub reached_none : (text : List ℕ) (depth : ℕ) (sum : SumWords) (at count room : ℕ) (E : List ℤ) → Ready text at room → Reached text depth sum at count room E E at count
unfolding list_of
reached_none text depth sum at count room E v = record {
  long = refl;
  inside = v.place;
  onward = omega arith;
  along = λ path s. record { entries = []; refusal = refl; listed = refl; counted = omega arith; put = λ h. appended_none (entry_width * count) E };
}

pub ready_next : (text : List ℕ) (depth : ℕ) (sum : SumWords) (at count room : ℕ) (E W : List ℤ) (next standing : ℕ) → Ready text at room
    → Reached text depth sum at count room E W next standing
    → Ready text next room
ready_next text depth sum at count room E W next standing v r = record { place = r.inside; few = v.few }

-- one item more
module _ (text : List ℕ) (depth : ℕ) (sum : SumWords) (at count room : ℕ) (E W U : List ℤ) (next standing : ℕ) (v : Reached text depth sum at count room E W next standing) where
  before : (path : List Place) → Stands path depth sum → Went text path at count room E W (step false next standing)
  before path t = v.along path t

  -- a line offends
  pub group_offends : (n : ℕ) → ItemRead text depth sum next standing room W U (Err n) → GroupRead text depth sum at count room E U (Err n)
  group_offends n w = record {
    read = record { long = w.read.long ∙ v.long; inside = tt; onward = tt; along = λ path t. (before path t).refusal ∙ w.read.along path t };
    ended = tt;
  }

  module _ (s : Step) (w : ItemRead text depth sum next standing room W U (Ok s)) where
    then : Read text depth sum at count room E U (Ok s)
    then = record { long = w.read.long ∙ v.long; inside = w.read.inside; onward = omega (arith, v.onward, w.read.onward); along = along }
      where
        along : (path : List Place) → Stands path depth sum → Along text path at count room E U (Ok s)
        along path t =
            let b : Went text path at count room E W (step false next standing) = before path t in
            let g : Went text path next standing room W U s = w.read.along path t in
            record {
              entries = b.entries ++ g.entries;
              refusal = b.refusal ∙ g.refusal;
              listed = b.listed ∙ ap (λ (es : List Entry). b.entries ++ es) g.listed ∙ sym (append_assoc b.entries g.entries (entries_after path text s));
              counted = omega (arith, g.counted, b.counted, length-append b.entries g.entries);
              put = λ h. subst (λ (xs : List ℤ). Appended (entry_width * count) xs E U) (sym (list_append b.entries g.entries))
                  (appended_then (b.put h) (omega (arith, b.counted, list_length b.entries)) (g.put (subst (λ (n : ℕ). entry_width * room ≤ n) (sym v.long) h)));
            }

    pub group_ended : s.closed ≡ true → GroupRead text depth sum at count room E U (Ok s)
    group_ended e = record { read = then; ended = e }

    pub reached_more : s.closed ≡ false → Reached text depth sum at count room E U s.next s.count
    reached_more e = subst (λ (x : Step). Read text depth sum at count room E U (Ok x)) same then
      where
        same : s ≡ step false s.next s.count
        same = λ i. step (e i) s.next s.count

    pub item_further : s.closed ≡ false → length text - s.next < length text - next
    item_further e = omega (arith, w.further e, w.read.inside)

-- ---- what remains falls
pub item_falls : (text : List ℕ) (depth : ℕ) (sum : SumWords) (at count room : ℕ) (E W : List ℤ) (next standing t : ℕ) → Reached text depth sum at count room E W next standing
    → 2 * (length text - at) + 1 ≡ t → 2 * (length text - next) < t
item_falls text depth sum at count room E W next standing t v e = omega (arith, v.onward)

pub group_falls : (text : List ℕ) (at t depth : ℕ) (sum : SumWords) (inner : Path) (r : LineAt) → Found text at r → OpensGroup r.line depth sum inner → 2 * (length text - at) ≡ t
    → 2 * (length text - r.end) + 1 < t
unfolding ended
group_falls text at t depth sum inner r v o e =
    let b : Begins text at r = v.begins (ap ended o.is) in
    omega (arith, b.more, v.within)

-- what `open_group` answered
pub opened_group : (line : PlanLine) (depth : ℕ) (sum : SumWords) (inner : Path) (a : Option Path) → Opened line depth sum a → a ≡ Some inner → OpensGroup line depth sum inner
unfolding Opened
opened_group line depth sum inner a v e = subst (Opened line depth sum) e v

pub opened_other : (line : PlanLine) (depth : ℕ) (sum : SumWords) (a : Option Path) → Opened line depth sum a → a ≡ None → may_open line depth ≡ false
unfolding Opened
opened_other line depth sum a v e = subst (Opened line depth sum) e v
