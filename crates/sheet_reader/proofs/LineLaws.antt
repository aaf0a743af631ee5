-- The laws of a line: refused, taken up, or no line of the sheet. Assumes nothing.
use mathlib.Core.Bool.{Bool, true, false, not}
use mathlib.Core.List.{List}
use mathlib.Core.Option.{Option, none, some}
use mathlib.Core.Path.{◌≡◌, refl, sym, ◌∙◌, ap}
use Prim.Native.Nat.{ℕ, ◌<◌}
use borrow.Author.Tests.{eq-eqb, ne_eqb, not-true, not-false}
use lib.Dec.{eqb}
use lib.ListN.{length}
use Rattle.refusals.specs.Numbers.{number}
use Rattle.refusals.specs.declared.Refusal.{Refusal}
use Rattle.refusals.specs.declared.Refusal.TheVariants.{Table, Outcome, Limit, Lengths, Bin, Triangles, Index, NotFinite, Clamped, WorkArea, Output, StitchedLimit, Mesh, Material, Sheet, SheetLimit, Line, Depth, Place, Entries, Peg, BinList, Page, Text, FaceList, FileRoom, FileLength, FileTriangles, FileCorner, ReadRoom}
use Rattle.sheet_lines.specs.Exact.{line_fits}
use Rattle.sheet_lines.specs.Forms.{line_of}
use Rattle.sheet_lines.specs.Forms as Form
use Rattle.sheet_lines.specs.Scan.{given}
use Rattle.sheet_lines.specs.declared.Kind.{Kind}
use Rattle.std.specs.Prelude.{Some, None}
use Rattle.std.specs.Prelude as Std
use Rattle.sheet_reader_state.specs.declared.Reader.{Reader}
use Rattle.sheet_line_order.specs.Reading.{State, line_refusal, read_line, refuse, take_up, with_form}
use Rattle.sheet_line_order.specs.Refusals.{LineRefusal}
use Rattle.sheet_reader_state.specs.Slices.{Lent, fits, lent, line_from, over, patterns_of, read_form, read_into, read_roomy, refuse_in, refused, state_of, taken_up}
use Rattle.sheet_line_effects.specs.Added.{Fitting, Ready, Roomy}
use Rattle.sheet_reader_state.specs.Held.{Held, counts_of, held_of}
use Rattle.sheet_reader_state.specs.Same.{over_same}

some_number : (f : Refusal) → eqb (number f) 0 ≡ false
some_number Table = refl
some_number Outcome = refl
some_number Limit = refl
some_number Lengths = refl
some_number Bin = refl
some_number Triangles = refl
some_number Index = refl
some_number NotFinite = refl
some_number Clamped = refl
some_number WorkArea = refl
some_number Output = refl
some_number StitchedLimit = refl
some_number Mesh = refl
some_number Material = refl
some_number Sheet = refl
some_number SheetLimit = refl
some_number Line = refl
some_number Depth = refl
some_number Place = refl
some_number Entries = refl
some_number Peg = refl
some_number BinList = refl
some_number Page = refl
some_number Text = refl
some_number FaceList = refl
some_number FileRoom = refl
some_number FileLength = refl
some_number FileTriangles = refl
some_number FileCorner = refl
some_number ReadRoom = refl

module _ (s : Reader) (T P N I M : List ℕ) where
  abbrev here : Lent
  here = lent s T P N I M

  -- the refusal in the slices changes nothing else
  over_refused : (n : ℕ) → Held s T P N I M → refuse_in n here ≡ over here (refuse n (state_of here))
  unfolding refuse
  over_refused n h = ap (refuse_in n) (over_same s T P N I M h)

  module _ (k : Kind) (ns : List ℕ) (v : Fitting here k ns) where
    held : Held s T P N I M
    held = held_of s T P N I M v.roomy.held

    refusal_is : (n : ℕ) → LineRefusal s.limits s.place s.rows s.vertices s.indices k (line_from k ns).numbers n → n ≡ line_refusal (line_from k ns) (state_of here)
    refusal_is n u = u.is s.refusal (patterns_of here) (counts_of s T P N I M held)

    -- a refusal's number isn't 0
    pub form_refused : (f : Refusal) (r : Reader) → LineRefusal s.limits s.place s.rows s.vertices s.indices k (line_from k ns).numbers (number f) → r ≡ refused (number f) s
        → lent r T P N I M ≡ read_form here k ns
    unfolding read_form with_form
    form_refused f r u e =
        let no : eqb (line_refusal (line_from k ns) (state_of here)) 0 ≡ false = ap (λ (m : ℕ). eqb m 0) (sym (refusal_is (number f) u)) ∙ some_number f in
        ap (λ (x : Reader). lent x T P N I M) e
        ∙ over_refused (number f) held
        ∙ ap (λ (m : ℕ). over here (refuse m (state_of here))) (refusal_is (number f) u)
        ∙ ap (over here) (sym (ap (λ (b : Bool). elim b as (λ x. State) [ true ↦ take_up (state_of here) (line_from k ns) | false ↦ refuse (line_refusal (line_from k ns) (state_of here)) (state_of here) ])
        no))

    module _ (u : LineRefusal s.limits s.place s.rows s.vertices s.indices k (line_from k ns).numbers 0) where
      pub form_ready : Ready here k ns
      form_ready = record { fitting = v; taken = sym (refusal_is 0 u) }

      pub form_taken : (x : Lent) → x ≡ taken_up here k ns → x ≡ read_form here k ns
      unfolding read_form with_form taken_up
      form_taken x e =
          let yes : eqb (line_refusal (line_from k ns) (state_of here)) 0 ≡ true = ap (λ (m : ℕ). eqb m 0) (sym (refusal_is 0 u)) in
          e ∙ ap (over here) (sym (ap (λ (b : Bool). elim b as (λ x. State) [ true ↦ take_up (state_of here) (line_from k ns) | false ↦ refuse (line_refusal (line_from k ns) (state_of here)) (state_of here) ])
          yes))

  module _ (line : List ℕ) (v : Roomy here) where
    -- what the line's form makes of it
    read_as : (o : Option Form.Line) → line_of line ≡ o → read_roomy here line ≡ over here (elim o as (λ x. State) [ none ↦ refuse 51 (state_of here) | some l ↦ with_form (state_of here) l ])
    unfolding read_roomy read_line
    read_as o e =
        ap (λ (b : Bool). over here (elim b as (λ x. State) [
          | true ↦ elim (line_of line) as
              (λ x. State) [ none ↦ refuse 51 (state_of here) | some l ↦ with_form (state_of here) l ]
          | false ↦ state_of here
        ])) (eq-eqb s.refusal 0 v.clean)
        ∙ ap (λ (p : Option Form.Line). over here (elim p as (λ x. State) [ none ↦ refuse 51 (state_of here) | some l ↦ with_form (state_of here) l ])) e

    module _ (g : Std.Option Kind) (ns : List ℕ) (q : given g ns ≡ line_of line) where
      line_is : (k : Kind) → g ≡ Some k → line_of line ≡ some (line_from k ns)
      unfolding given
      line_is k e = sym (sym (ap (λ (x : Std.Option Kind). given x ns) e) ∙ q)

      pub roomy_fitting : (k : Kind) → g ≡ Some k → 6 < length ns → Fitting here k ns
      roomy_fitting k e l = record { roomy = v; long = l; small = line_fits line (line_from k ns) (line_is k e) }

      pub roomy_line : (x : Lent) (k : Kind) → g ≡ Some k → x ≡ read_form here k ns → x ≡ read_roomy here line
      unfolding read_form
      roomy_line x k e p = p ∙ sym (read_as (some (line_from k ns)) (line_is k e))

      pub roomy_nothing : (r : Reader) → g ≡ None → r ≡ refused 51 s → lent r T P N I M ≡ read_roomy here line
      unfolding given
      roomy_nothing r e p =
          let no : line_of line ≡ none = sym (sym (ap (λ (x : Std.Option Kind). given x ns) e) ∙ q) in
          ap (λ (x : Reader). lent x T P N I M) p ∙ over_refused 51 (held_of s T P N I M v.held) ∙ sym (read_as none no)

  pub read_room : s.refusal ≡ 0 → (b : Bool) → b ≡ fits here → not b ≡ false → Roomy here
  read_room clean b f n = record { clean = clean; held = sym f ∙ not-false b n }

  pub read_refused : (line : List ℕ) → (s.refusal ≡ 0 → ⊥) → here ≡ read_into here line
  unfolding read_into
  read_refused line n = rw (ne_eqb s.refusal 0 n, read_into)

  module _ (line : List ℕ) (clean : s.refusal ≡ 0) (b : Bool) (f : b ≡ fits here) where
    pub read_unfit : (r : Reader) → not b ≡ true → r ≡ refused 52 s → lent r T P N I M ≡ read_into here line
    unfolding read_into
    read_unfit r n e =
        let no : fits here ≡ false = sym f ∙ not-true b n in
        ap (λ (x : Reader). lent x T P N I M) e ∙ sym (rw (eq-eqb s.refusal 0 clean, no, read_into))

    pub read_roomy_lem : (x : Lent) → not b ≡ false → x ≡ read_roomy here line → x ≡ read_into here line
    unfolding read_into read_roomy
    read_roomy_lem x n e =
        let yes : fits here ≡ true = sym f ∙ not-false b n in
        e ∙ sym (rw (eq-eqb s.refusal 0 clean, yes, read_into))
