-- The laws of reading a whole plan: once to check it, and once to list it. Assumes nothing.
use mathlib.Core.Bool.{Bool, cond}
use mathlib.Core.List.{List, [], ◌++◌, append-nil}
use mathlib.Core.Path.{◌≡◌, refl, sym, ◌∙◌, ap, subst}
use Prim.Native.Nat.{ℕ, zero, suc, ◌+◌, ◌*◌, ◌≤◌}
use native.Mathlib.Omega.{arith}
use lib.IntN.{ℤ}
use lib.ListN.{length, drop}
use Rattle.lists.specs.Lists.{written}
use Rattle.slice_front.specs.FrontLaws.{front_none}
use Rattle.slice_append.specs.Appended.{appended_written}
use Rattle.plan_definition.specs.Places.{total}
use Rattle.plan_definition.specs.Grammar.{Entry}
use Rattle.plan_definition.specs.Lines.{lines_of}
use Rattle.plan_definition.specs.Reading.{Reading, refusal_of, entries_of, plan_of, room_of, list_of, list_after}
use Rattle.plan_lines.specs.declared.places.SumWords.{SumWords}
use Rattle.plan_lines.specs.Sums.{Near, origin_words}
use Rattle.plan_read.specs.declared.items.Step.{Step}
use Rattle.std.specs.Prelude.{Result, Ok, Err}
use Rattle.refusals.specs.declared.Refusal.{Refusal}
use Rattle.refusals.specs.Laws.{number_nonzero}
use Rattle.refusals.specs.Numbers.{failing, number, numbered}
use Rattle.plan_definition.specs.Answers.{plan_answer, reading_of}
use Rattle.plan_read.specs.Answer.{PlanRead}
use Rattle.plan_read.specs.Steps.{GroupRead, Ready, Stands, Went, entries_closed, refusal_closed}

-- what reading from the start asks
pub start_ready : (text : List ℕ) (room n : ℕ) → room ≡ room_of n → Ready text 0 room
start_ready text room n q = record { place = omega arith; few = omega arith }

-- no offset is added up yet
pub start_near : (w : SumWords) → w ≡ origin_words → Near 0 w
start_near w e = subst (Near 0) (sym e) (record {
  on_x = record { low = omega arith; high = omega arith };
  on_y = record { low = omega arith; high = omega arith };
  on_z = record { low = omega arith; high = omega arith };
})

-- no group is open at the start
stands : (w : SumWords) → w ≡ origin_words → Stands [] 0 w
unfolding total
stands w e = subst (Stands [] 0) (sym e) (record { deep = refl; sum_is = refl })

-- a line of the whole text offended
refused_by : (text : List ℕ) (w : SumWords) (room n : ℕ) (E W : List ℤ) → w ≡ origin_words → GroupRead text 0 w 0 0 room E W (Err n) → refusal_of room [] 0 (lines_of text) ≡ n
refused_by text w room n E W e v = v.read.along [] (stands w e)

-- none did
module _ (text : List ℕ) (w : SumWords) (room : ℕ) (E W : List ℤ) (s : Step) (e : w ≡ origin_words) (v : GroupRead text 0 w 0 0 room E W (Ok s)) where
  whole : Went text [] 0 0 room E W s
  whole = v.read.along [] (stands w e)

  passed : refusal_of room [] 0 (lines_of text) ≡ 0
  unfolding refusal_closed
  passed = whole.refusal ∙ ap (λ (c : Bool). cond c 0 (refusal_of room [] s.count (lines_of (drop s.next text)))) v.ended

  all_listed : entries_of [] (lines_of text) ≡ whole.entries
  unfolding entries_closed
  all_listed =
      whole.listed
      ∙ ap (λ (c : Bool). whole.entries ++ cond c [] (entries_of [] (lines_of (drop s.next text)))) v.ended
      ∙ append-nil whole.entries

-- A refused plan leaves the list as it was: the definition refuses it with the same number,
pub refused_reading : (text : List ℕ) (E W0 : List ℤ) (w : SumWords) (room : ℕ) (refusal : Refusal) → GroupRead text 0 w 0 0 room [] W0 (Err (number refusal)) → w ≡ origin_words
    → room ≡ room_of (length E) → Reading.Refused (number refusal) ≡ reading_of text E
unfolding plan_of
refused_reading text E W0 w room refusal v e q = go (number refusal) refl
  where
    here : refusal_of (room_of (length E)) [] 0 (lines_of text) ≡ number refusal
    here = ap (λ (m : ℕ). refusal_of m [] 0 (lines_of text)) (sym q) ∙ refused_by text w room (number refusal) [] W0 e v

    go : (k : ℕ) → number refusal ≡ k → Reading.Refused (number refusal) ≡ reading_of text E
    go zero z = absurd (number_nonzero refusal z)
    go (suc k) z = ap Reading.Refused z ∙ sym (let is : reading_of text E ≡ Reading.Refused (suc k) = rw (here ∙ z, plan_of) in is)

-- its answer is that number,
pub refused_answer : (n : ℕ) → plan_answer (Reading.Refused n) ≡ Err n
unfolding plan_answer
refused_answer n = refl

-- it leaves the list as it was,
pub refused_list : (n : ℕ) (E : List ℤ) → list_after (Reading.Refused n) E ≡ E
unfolding list_after
refused_list n E = refl

-- and so does a reading into no entries.
pub none_written : (W0 E : List ℤ) → length W0 ≡ 0 → W0 ++ E ≡ E
none_written W0 E h = front_none W0 E h

-- what `read_plan` needs where the first reading is refused, in whatever form its code returns the refusal
pub ruleset refused_rules = (refused_reading, refused_answer, refused_list, none_written)

-- a plan that was checked, and not refused
module _ (text : List ℕ) (E W0 W : List ℤ) (w : SumWords) (room : ℕ) (checked : Result Step Refusal)
    (v1 : GroupRead text 0 w 0 0 room [] W0 (numbered checked)) (z : failing checked ≡ 0) (e : w ≡ origin_words) where
  -- no line of it offends
  none_offends : refusal_of room [] 0 (lines_of text) ≡ 0
  none_offends = go checked v1 z
    where
      go : (r : Result Step Refusal) → GroupRead text 0 w 0 0 room [] W0 (numbered r) → failing r ≡ 0 → refusal_of room [] 0 (lines_of text) ≡ 0
      go (Ok first) v f = passed text w room [] W0 first e v
      go (Err refusal) v f = absurd (number_nonzero refusal f)

  -- so it isn't refused while it is listed
  pub plan_passed : (n : ℕ) (answer : Result ℕ ℕ) → GroupRead text 0 w 0 0 room (W0 ++ E) W (Err n) → (n ≡ 0 → ⊥) → PlanRead text E W answer
  plan_passed n answer v2 some = absurd (some (sym (refused_by text w room n (W0 ++ E) W e v2) ∙ none_offends))

  -- It is listed in front of the list.
  pub plan_listed : (second : Step) → room ≡ room_of (length E) → GroupRead text 0 w 0 0 room (W0 ++ E) W (Ok second) → PlanRead text E W (Ok second.count)
  unfolding plan_answer plan_of list_after
  plan_listed second q v2 =
      let g : Went text [] 0 0 room (W0 ++ E) W second = whole text w room (W0 ++ E) W second e v2 in
      let es : List Entry = g.entries in
      let same : W0 ++ E ≡ E = front_none W0 E v1.read.long in
      let is : reading_of text E ≡ Reading.Listed es =
      rw (ap (λ (m : ℕ). refusal_of m [] 0 (lines_of text)) (sym q) ∙ none_offends, plan_of) (ap Reading.Listed (all_listed text w room (W0 ++ E) W second e v2)) in
      let room_enough : 4 * room ≤ length (W0 ++ E) = omega (arith, ap (length {A = ℤ}) same) in
      record {
        answer = ap (λ (m : ℕ). Ok m) (g.counted ∙ (let f : 0 + length es ≡ length es = omega arith in f)) ∙ ap plan_answer (sym is);
        list = appended_written (g.put room_enough) ∙ ap (written (list_of es)) same ∙ ap (λ (x : Reading). list_after x E) (sym is);
      }
