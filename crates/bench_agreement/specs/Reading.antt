-- A text that passes no limit of the smaller program is read alike by both: only the materials of the larger's further faces stand behind. Assumes nothing.
use Rattle.std.specs.Prelude.{Bool, ◌&&◌, ◌||◌, ◌≡◌, ℕ, ◌+◌, ◌-◌, ◌*◌, ◌≤◌, ltb, length, replicate}
use Rattle.std.proofs.Math.Bool.{true, false, not, cond}
use mathlib.Core.List.{List, [], ◌∷◌, ◌++◌}
use Rattle.std.proofs.Math.Option.{none, some}
use Rattle.std.proofs.Math.Path.{refl, ap}
use Rattle.std.proofs.Common.{sym, ◌∙◌, arith}
use borrow.Author.Tests.{le-ltb, leb-false, lt-leb, ltb-false}
use Rattle.std.proofs.Math.Dec.{leb, eqb}
use Rattle.std.proofs.lemmas.List.{replicate-append-replicate, set-append_left}
use Rattle.lists.specs.Both.{or_left, or_right}
use Rattle.body_rows.specs.Body.{row_width}
use Rattle.sheet_lines.specs.Forms.{Line, line_of}
use Rattle.sheet_lines.specs.declared.Kind.{Kind}
use Rattle.sheet_lines.specs.declared.Kind.TheVariants.{Box, Sag, NoDefault, Default, Material, Face, FaceBin, Vertex, Triangle, Fail, FailBin}
use Rattle.sheet_line_order.specs.declared.Limits.{Limits}
use Rattle.sheet_line_order.specs.Laws.{line_limits}
use Rattle.sheet_line_order.specs.Reading.{Patterns, State, at, cut, finished, order_of, passes_limit, patterns, read_from, read_line, refuse, sheet_of, start, take_up, with_form, with_line}
use Rattle.sheet_reader_state.specs.Kept.{Sized, sized_line, sized_start}
use Rattle.bench_agreement.specs.Within.{Within}

-- a sheet with n more faces that have no material of their own
unfoldable pub padded : ℕ → Patterns → Patterns
padded n x = patterns x.box x.sag x.default (x.materials ++ replicate n 0) x.table x.positions x.normals x.indices

-- the same within other limits, with n more faces
unfoldable pub widened : Limits → ℕ → State → State
widened limits n s = record { limits = limits; refusal = s.refusal; place = s.place; sheet = padded n s.sheet }

-- a sheet whose body is within the limits
pub record Held (limits : Limits) (x : Patterns) : Type 0 where
  pub table : length x.table ≤ row_width * limits.rows
  pub positions : length x.positions ≤ 3 * limits.vertices
  pub indices : length x.indices ≤ limits.indices

-- ---- a refusal stays

line_stays : (s : State) (xs : List ℕ) → s.refusal ≡ 52 → (read_line s xs).refusal ≡ 52
unfolding read_line
line_stays s xs e =
    ap (λ (n : ℕ). (elim (eqb n 0) as (λ x. State) [ true ↦ elim (line_of xs) as (λ x. State) [ none ↦ refuse 51 s | some l ↦ with_form s l ] | false ↦ s ]).refusal) e ∙ e

end_stays : (s : State) (rest : List ℕ) → s.refusal ≡ 52 → (finished s rest).refusal ≡ 52
unfolding finished
end_stays s rest e = ap (λ (n : ℕ). (cond (eqb n 0 && not (eqb (length rest) 0 && leb 3 s.place)) (refuse 51 s) s).refusal) e ∙ e

pub read_stays : (s : State) (ls : List (List ℕ)) → s.refusal ≡ 52 → (read_from s ls).refusal ≡ 52
unfolding read_from
read_stays s [] e = e
read_stays s (rest ∷ []) e = end_stays s rest e
read_stays s (l ∷ m ∷ ls) e = read_stays (read_line s l) (m ∷ ls) (line_stays s l e)

-- ---- the sizes that are read

end_sheet : (s : State) (rest : List ℕ) → (finished s rest).sheet ≡ s.sheet
unfolding finished refuse
end_sheet s rest = go (eqb s.refusal 0 && not (eqb (length rest) 0 && leb 3 s.place))
  where
    go : (b : Bool) → (cond b (refuse 51 s) s).sheet ≡ s.sheet
    go true = refl
    go false = refl

held_by : (limits : Limits) (s : State) → s.limits ≡ limits → Sized s → (x : Patterns) → x ≡ s.sheet → Held limits x
held_by limits s e v x q =
    record {
      table = omega (arith, ap (λ (y : Patterns). length y.table) q, v.table, v.few_rows, ap (λ (l : Limits). l.rows) e);
      positions = omega (arith, ap (λ (y : Patterns). length y.positions) q, v.positions, v.few_vertices, ap (λ (l : Limits). l.vertices) e);
      indices = omega (arith, ap (λ (y : Patterns). length y.indices) q, v.indices, v.few_triangles, ap (λ (l : Limits). l.indices) e);
    }

read_held : (limits : Limits) (s : State) (ls : List (List ℕ)) → s.limits ≡ limits → Sized s → Held limits (read_from s ls).sheet
unfolding read_from
read_held limits s [] e v = held_by limits s e v s.sheet refl
read_held limits s (rest ∷ []) e v = held_by limits s e v (finished s rest).sheet (end_sheet s rest)
read_held limits s (l ∷ m ∷ ls) e v = read_held limits (read_line s l) (m ∷ ls) (line_limits s l ∙ e) (sized_line s v l)

-- What was read is within the limits.
pub sheet_held : (limits : Limits) (text : List ℕ) → Held limits (sheet_of limits text).sheet
unfolding sheet_of start
sheet_held limits text = read_held limits (start limits) (cut text) refl (sized_start limits)

-- ---- the limits stay

end_limits : (s : State) (rest : List ℕ) → (finished s rest).limits ≡ s.limits
unfolding finished refuse
end_limits s rest = go (eqb s.refusal 0 && not (eqb (length rest) 0 && leb 3 s.place))
  where
    go : (b : Bool) → (cond b (refuse 51 s) s).limits ≡ s.limits
    go true = refl
    go false = refl

read_limits : (s : State) (ls : List (List ℕ)) → (read_from s ls).limits ≡ s.limits
unfolding read_from
read_limits s [] = refl
read_limits s (rest ∷ []) = end_limits s rest
read_limits s (l ∷ m ∷ ls) = read_limits (read_line s l) (m ∷ ls) ∙ line_limits s l

-- The limits are the program's.
pub sheet_limits : (limits : Limits) (text : List ℕ) → (sheet_of limits text).limits ≡ limits
unfolding sheet_of start
sheet_limits limits text = read_limits (start limits) (cut text)

-- ---- line by line

-- the refusal by its two tests
abbrev pub by_tests : Bool → Bool → ℕ
by_tests bad limit = cond bad 51 (cond limit 52 0)

module _ (small large : Limits) (w : Within small large) (n : ℕ) where
  row_limit : (face long : ℕ) → (ltb small.face face || leb (row_width * small.rows) long) ≡ false → (ltb large.face face || leb (row_width * large.rows) long) ≡ false
  row_limit face long e =
      let a = ltb-false small.face face (or_left (ltb small.face face) (leb (row_width * small.rows) long) e) in
      let b = leb-false (row_width * small.rows) long (or_right (ltb small.face face) (leb (row_width * small.rows) long) e) in
      rw (le-ltb large.face face (omega (arith, w.face)), lt-leb (row_width * large.rows) long (omega (arith, w.rows)))

  pub limit_same : (k : Kind) (ns : List ℕ) (x : Patterns) → passes_limit small k ns x ≡ false → passes_limit large k ns (padded n x) ≡ false
  unfolding passes_limit padded
  limit_same Box ns x e = refl
  limit_same Sag ns x e = refl
  limit_same NoDefault ns x e = refl
  limit_same Default ns x e = refl
  limit_same Material ns x e = le-ltb large.face (at ns 0) (omega (arith, w.face, ltb-false small.face (at ns 0) e))
  limit_same Face ns x e = row_limit (at ns 1) (length x.table) e
  limit_same FaceBin ns x e = row_limit (at ns 1) (length x.table) e
  limit_same Vertex ns x e = lt-leb (3 * large.vertices) (length x.positions) (omega (arith, w.vertices, leb-false (3 * small.vertices) (length x.positions) e))
  limit_same Triangle ns x e = le-ltb large.indices (length x.indices + 3) (omega (arith, w.indices, ltb-false small.indices (length x.indices + 3) e))
  limit_same Fail ns x e = row_limit (at ns 1) (length x.table) e
  limit_same FailBin ns x e = row_limit (at ns 1) (length x.table) e

  line_padded : (k : Kind) (ns : List ℕ) (x : Patterns) → length x.materials ≡ small.face + 1 → passes_limit small k ns x ≡ false → with_line k ns (padded n x) ≡ padded n (with_line k ns x)
  unfolding with_line padded passes_limit
  line_padded Box ns x m e = refl
  line_padded Sag ns x m e = refl
  line_padded NoDefault ns x m e = refl
  line_padded Default ns x m e = refl
  line_padded Material ns x m e =
      ap (λ (ms : List ℕ). patterns x.box x.sag x.default ms x.table x.positions x.normals x.indices)
      (set-append_left x.materials (replicate n 0) (at ns 0) (at ns 1 + 1) (omega (arith, ltb-false small.face (at ns 0) e)))
  line_padded Face ns x m e = refl
  line_padded FaceBin ns x m e = refl
  line_padded Vertex ns x m e = refl
  line_padded Triangle ns x m e = refl
  line_padded Fail ns x m e = refl
  line_padded FailBin ns x m e = refl

  module _ (s : State) (el : s.limits ≡ small) (em : length s.sheet.materials ≡ small.face + 1) where
    pub within_small : (l : Line) → passes_limit s.limits l.kind l.numbers s.sheet ≡ false → passes_limit small l.kind l.numbers s.sheet ≡ false
    within_small l e = ap (λ (m : Limits). passes_limit m l.kind l.numbers s.sheet) (sym el) ∙ e

    pub take_same : (l : Line) → passes_limit s.limits l.kind l.numbers s.sheet ≡ false → take_up (widened large n s) l ≡ widened large n (take_up s l)
    unfolding take_up widened
    take_same l e =
        ap (λ (x : Patterns). record { limits = large; refusal = 0; place = (order_of l.kind).then; sheet = x }) (line_padded l.kind l.numbers s.sheet em (within_small l e))

  pub end_same : (s : State) (rest : List ℕ) → finished (widened large n s) rest ≡ widened large n (finished s rest)
  unfolding finished refuse widened
  end_same s rest = go (eqb s.refusal 0 && not (eqb (length rest) 0 && leb 3 s.place))
    where
      go : (b : Bool) → cond b (refuse 51 (widened large n s)) (widened large n s) ≡ widened large n (cond b (refuse 51 s) s)
      go true = refl
      go false = refl

-- ---- the text

-- how many faces more the larger program takes
abbrev pub more_faces : Limits → Limits → ℕ
more_faces small large = large.face - small.face

pub start_same : (small large : Limits) → Within small large → start large ≡ widened large (more_faces small large) (start small)
unfolding start widened padded
start_same small large w =
    let e : small.face + 1 + more_faces small large ≡ large.face + 1 = omega (arith, w.face) in
    ap (λ (ms : List ℕ). record { limits = large; refusal = 0; place = 0; sheet = patterns (replicate 6 0) 0 0 ms [] [] [] [] })
    (sym (replicate-append-replicate (small.face + 1) (more_faces small large) 0 ∙ ap (λ (k : ℕ). replicate k 0) e))
