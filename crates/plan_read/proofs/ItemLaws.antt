-- The laws of one step: a bracket, the end, a bin, any line that opens no group, and one that does. Assumes nothing.
use mathlib.Core.Bool.{Bool, true, false, not, cond}
use mathlib.Core.List.{List, [], ◌∷◌}
use mathlib.Core.Logic.{inl, inr}
use mathlib.Core.Path.{◌≡◌, refl, sym, ◌∙◌, ap, subst}
use Prim.Native.Nat.{ℕ, suc, ◌+◌, ◌*◌, ◌≤◌, ◌<◌}
use native.Mathlib.Numerals.{add-one}
use native.Mathlib.Omega.{arith}
use borrow.Author.Tests.{eq-eqb, ne_eqb, le-ltb, lt-ltb, not-true, not-false}
use denote.Enum.Declared.{tag_of}
use types.Run.{OneOf}
use lib.Dec.{eqb, ltb}
use lib.IntN.{ℤ, pos}
use lib.ListN.{length}
use Rattle.std.specs.Prelude.{None, Some, Result, Ok, Err, IfOk}
use Rattle.slice_append.specs.Appended.{Appended, appended_none}
use Rattle.body_refusals.specs.TableChecks.{most_bin}
use Rattle.plan_definition.specs.Places.{Place, moved, in_range}
use Rattle.plan_definition.specs.Grammar.{Entry, entry, most_depth}
use Rattle.plan_definition.specs.Reading.{entry_width, list_of, malformed, out_of_range, too_many}
use Rattle.plan_lines.specs.contracts.lines.PlanLine.{the_type}
use Rattle.plan_definition.specs.declared.PlaceWords.{PlaceWords}
use Rattle.plan_lines.specs.declared.places.SumWords.{SumWords}
use Rattle.plan_lines.specs.declared.lines.PlanLine.{PlanLine}
use Rattle.plan_lines.specs.declared.lines.PlanLine.TheVariants as PlanLine
use Rattle.plan_lines.specs.Given.{InWords, Small, place_of}
use Rattle.plan_lines.specs.Sums.{EntryPut, MovedTo, Near, NearZero, entry_for, sum_of}
use Rattle.plan_read.specs.declared.path.Path.{Path}
use Rattle.plan_read.specs.declared.items.Step.{Step}
use Rattle.plan_read.specs.Steps.{
  BinRead,
  LeafRead,
  OpensGroup,
  Opened,
  bin_step,
  closed_step,
  end_step,
  leaf_entries,
  leaf_step,
  may_open,
  step,
}

-- ---- a bracket, and the end
pub close_none : (depth next count : ℕ) → depth ≡ 0 → Err 61 ≡ closed_step depth next count
close_none depth next count h = ap (λ (b : Bool). cond b (Err malformed) (Ok (step true next count))) (sym (eq-eqb depth 0 h))

pub close_some : (depth next count : ℕ) → (depth ≡ 0 → ⊥) → Ok (step true next count) ≡ closed_step depth next count
close_some depth next count h = ap (λ (b : Bool). cond b (Err malformed) (Ok (step true next count))) (sym (ne_eqb depth 0 h))

pub end_open : (depth next count : ℕ) → (depth ≡ 0 → ⊥) → Err 61 ≡ end_step depth next count
end_open depth next count h = ap (λ (b : Bool). cond b (Ok (step true next count)) (Err malformed)) (sym (ne_eqb depth 0 h))

pub end_all : (depth next count : ℕ) → depth ≡ 0 → Ok (step true next count) ≡ end_step depth next count
end_all depth next count h = ap (λ (b : Bool). cond b (Ok (step true next count)) (Err malformed)) (sym (eq-eqb depth 0 h))

-- ---- a bin
module _ (bin : ℕ) (o : PlaceWords) (depth : ℕ) (sum place : SumWords) (next count room : ℕ) (E : List ℤ) (v : MovedTo depth sum o place) (t : Bool) (e : t ≡ in_range (sum_of place)) where
  abbrev at : Place
  at = moved (sum_of sum) (place_of o)

  in_range_lem : (b : Bool) → t ≡ b → in_range at ≡ b
  in_range_lem b q = ap in_range (sym v.is) ∙ sym e ∙ q

  -- what a place in range leads to, and any
  there_is_room : Bool → Result Step ℕ
  there_is_room b = cond b (Ok (step false next (suc count))) (Err too_many)

  by_range : Bool → Result Step ℕ
  by_range b = cond b (there_is_room (ltb count room)) (Err out_of_range)

  pub bin_out : not t ≡ true → BinRead bin o sum next count room E E (Err 63)
  unfolding by_range there_is_room
  bin_out n = record { long = refl; is = ap by_range (sym (in_range_lem false (not-true t n))); put = tt }

  pub bin_many : not t ≡ false → room ≤ count → BinRead bin o sum next count room E E (Err 64)
  unfolding by_range there_is_room
  bin_many n h = record { long = refl; is = ap there_is_room (sym (le-ltb count room h)) ∙ ap by_range (sym (in_range_lem true (not-false t n))); put = tt }

  pub bin_stands : (W : List ℤ) → not t ≡ false → count < room → EntryPut E count (entry_for bin place) W → BinRead bin o sum next count room E W (Ok (step false next (count + 1)))
  unfolding by_range there_is_room
  bin_stands W n h w = record {
    long = w.long;
    is = ap (λ (m : ℕ). Ok (step false next m)) (add-one count) ∙ ap there_is_room (sym (lt-ltb count room h)) ∙ ap by_range (sym (in_range_lem true (not-false t n)));
    put = λ l. subst (λ (p : Place). Appended (entry_width * count) (list_of (entry (pos bin) p ∷ [])) E W) v.is (w.put (omega arith));
  }

pub near_more : (k : ℕ) (w : SumWords) → Near (suc k) w → k ≤ 16 → Near 17 w
near_more k w n h = record { on_x = more n.on_x; on_y = more n.on_y; on_z = more n.on_z }
  where
    more : {m : ℕ} → NearZero (suc k) m → NearZero 17 m
    more {m} v = record { low = omega (arith, v.low); high = omega (arith, v.high) }

-- ---- a line that opens no group, or one too many
module _ (line : PlanLine) (depth : ℕ) (sum : SumWords) (next count room : ℕ) (E : List ℤ) where
  same_list : (r : Result Step ℕ) → list_of (leaf_entries line sum) ≡ [] → r ≡ leaf_step line depth sum next count room → LeafRead line depth sum next count room E E r
  same_list r n e = record { long = refl; is = e; put = put r }
    where
      put : (q : Result Step ℕ) → IfOk q (λ s. entry_width * room ≤ length E → Appended (entry_width * count) (list_of (leaf_entries line sum)) E E)
      put (Ok s) = λ l. subst (λ (xs : List ℤ). Appended (entry_width * count) xs E E) (sym n) (appended_none (entry_width * count) E)
      put (Err m) = tt

  pub leaf_open : {o : PlaceWords} → line ≡ PlanLine.Open o → LeafRead line depth sum next count room E E (Err 62)
  unfolding leaf_step leaf_entries list_of
  leaf_open {o} q = same_list (Err 62) (ap (λ (l : PlanLine). list_of (leaf_entries l sum)) q) (ap (λ (l : PlanLine). leaf_step l depth sum next count room) (sym q))

  pub leaf_close : (r : Result Step ℕ) → line ≡ PlanLine.Close → r ≡ closed_step depth next count → LeafRead line depth sum next count room E E r
  unfolding leaf_step leaf_entries list_of
  leaf_close r q e = same_list r (ap (λ (l : PlanLine). list_of (leaf_entries l sum)) q) (e ∙ ap (λ (l : PlanLine). leaf_step l depth sum next count room) (sym q))

  pub leaf_malformed : line ≡ PlanLine.Malformed → LeafRead line depth sum next count room E E (Err 61)
  unfolding leaf_step leaf_entries list_of
  leaf_malformed q = same_list (Err 61) (ap (λ (l : PlanLine). list_of (leaf_entries l sum)) q) (ap (λ (l : PlanLine). leaf_step l depth sum next count room) (sym q))

  pub leaf_end : (r : Result Step ℕ) → line ≡ PlanLine.End → r ≡ end_step depth next count → LeafRead line depth sum next count room E E r
  unfolding leaf_step leaf_entries list_of
  leaf_end r q e = same_list r (ap (λ (l : PlanLine). list_of (leaf_entries l sum)) q) (e ∙ ap (λ (l : PlanLine). leaf_step l depth sum next count room) (sym q))

pub leaf_bin : (line : PlanLine) (depth : ℕ) (sum : SumWords) (next count room : ℕ) (E W : List ℤ) (r : Result Step ℕ) (n : ℕ) (o : PlaceWords) → line ≡ PlanLine.Bin n o
    → BinRead n o sum next count room E W r
    → LeafRead line depth sum next count room E W r
unfolding leaf_step leaf_entries
leaf_bin line depth sum next count room E W r n o q v = record {
  long = v.long;
  is = v.is ∙ ap (λ (l : PlanLine). leaf_step l depth sum next count room) (sym q);
  put = subst (λ (m : PlanLine). IfOk r (λ s. entry_width * room ≤ length E → Appended (entry_width * count) (list_of (leaf_entries m sum)) E W)) (sym q) v.put;
}

-- the numbers of a bin's line, and of a group's
pub bin_number : (line : PlanLine) (n : ℕ) (o : PlaceWords) → line ≡ PlanLine.Bin n o → Small line → n ≤ 65535
unfolding Small
bin_number line n o q v = let w : (n ≤ most_bin) × InWords o = subst Small q v in w.0

pub bin_offset : (line : PlanLine) (n : ℕ) (o : PlaceWords) → line ≡ PlanLine.Bin n o → Small line → InWords o
unfolding Small
bin_offset line n o q v = let w : (n ≤ most_bin) × InWords o = subst Small q v in w.1

pub open_small : (line : PlanLine) (o : PlaceWords) → line ≡ PlanLine.Open o → Small line → InWords o
unfolding Small
open_small line o q v = subst Small q v

-- ---- a line that opens a group
pub too_deep : (line : PlanLine) (depth : ℕ) (sum : SumWords) → 16 ≤ depth → Opened line depth sum None
unfolding Opened may_open
too_deep (PlanLine.Open o) depth sum h = le-ltb depth most_depth h
too_deep (PlanLine.Bin n o) depth sum h = refl
too_deep PlanLine.Close depth sum h = refl
too_deep PlanLine.Malformed depth sum h = refl
too_deep PlanLine.End depth sum h = refl

no_tag : OneOf (1 ∷ 2 ∷ 3 ∷ 4 ∷ []) 0 → ⊥
no_tag (inl e) = omega arith
no_tag (inr (inl e)) = omega arith
no_tag (inr (inr (inl e))) = omega arith
no_tag (inr (inr (inr e))) = omega arith

pub no_group : (line : PlanLine) (depth : ℕ) (sum : SumWords) → OneOf (1 ∷ 2 ∷ 3 ∷ 4 ∷ []) (tag_of the_type line) → Opened line depth sum None
unfolding Opened may_open
no_group (PlanLine.Open o) depth sum k = absurd (no_tag k)
no_group (PlanLine.Bin n o) depth sum k = refl
no_group PlanLine.Close depth sum k = refl
no_group PlanLine.Malformed depth sum k = refl
no_group PlanLine.End depth sum k = refl

pub group_opens : (line : PlanLine) (depth : ℕ) (sum : SumWords) (inner : Path) (o : PlaceWords) → line ≡ PlanLine.Open o → depth < 16 → inner.depth ≡ depth + 1 → MovedTo depth sum o inner.sum
    → Opened line depth sum (Some inner)
unfolding Opened
group_opens line depth sum inner o q h d v = record { offset = o; is = q; shallow = h; deeper = d; moved_to = v }
