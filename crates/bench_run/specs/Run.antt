-- A program of some limits: the slices that it holds, and what it prints of what it reads. Assumes nothing.
use Rattle.std.specs.Prelude.{true, List, [], ◌≡◌, ℕ, ◌≤◌, ◌<◌, length}
use Rattle.std.proofs.Common.{◌∙◌, sym, ap, subst}
use Rattle.sheet_line_order.specs.declared.Limits.{Limits}
use Rattle.sheet_line_order.specs.Reading.{State}
use Rattle.sheet_reader_state.specs.declared.Reader.{Reader}
use Rattle.sheet_reader_state.specs.Limits.{SheetRoom}
use Rattle.sheet_reader_state.specs.Slices.{Begun, Lent, lent, of_bodies}
use Rattle.bench_definition.specs.Finish.{area, mesh_slices, stitch_slices}
use Rattle.sheet_meaning.specs.Answered.{answer_in}
use Rattle.sheet_meaning.specs.Bench.{program}
use Rattle.bench_call_texts.specs.Told.{Told}
use Rattle.bench_call_texts.specs.Texts.{MeshRoom, StitchRoom, bytes_in}
use Rattle.bench_finish.specs.Answer.{BodyRoom, answer_with}
use Rattle.bench_finish.specs.Printed.{answer_with_lem}
use Rattle.bench_feed.specs.declared.Fed.{Fed}
use Rattle.bench_feed.specs.Feeding.{Answered, Ended, FedSome, SoFar}
use Rattle.bench_feed.specs.FeedingLaws.{fed_begin}

-- Slices as a program of such limits holds them: room for the longest line, for every sheet within the limits and for its body, and zeros for the calls.
pub record Arrays (limits : Limits) (line table positions normals indices materials : List ℕ) (p n i : ℕ) (into : StitchRoom) (out : MeshRoom) (work : List ℕ) : Type 0 where
  pub few : of_bodies limits ≡ true
  pub longest : 108 ≤ length line
  pub room : SheetRoom limits (length table) (length positions) (length normals) (length indices) (length materials)
  pub body : BodyRoom limits p n i
  pub stitched : into ≡ stitch_slices limits
  pub mesh : out ≡ mesh_slices limits
  pub words : work ≡ area limits

-- what a program of these limits is to print of some text was written, if the slices are as it holds them
pub record Ran (limits : Limits) (line table positions normals indices materials : List ℕ) (p n i : ℕ) (into : StitchRoom) (out : MeshRoom) (work E W : List ℕ) (r : ℕ) : Type 0 where
  pub says : Arrays limits line table positions normals indices materials p n i into out work → Answered limits E W r

-- what is printed in such slices is what the program is to print
pub arrays_told : (limits : Limits) (line table positions normals indices materials : List ℕ) (p n i : ℕ) (into : StitchRoom) (out : MeshRoom) (work : List ℕ) (l : Lent) (E W : List ℕ) (r : ℕ)
    → Arrays limits line table positions normals indices materials p n i into out work → l.reader.limits ≡ limits
    → Told (bytes_in out) E (answer_with p n i into out work l) W r → Told (bytes_in (mesh_slices limits)) E (answer_in l) W r
arrays_told limits line table positions normals indices materials p n i into out work l E W r a e v =
    let m : MeshRoom = mesh_slices limits in
    let x : Told (bytes_in m) E (answer_with p n i into m work l) W r = subst (λ (o : MeshRoom). Told (bytes_in o) E (answer_with p n i into o work l) W r) a.mesh v in
    let y : Told (bytes_in m) E (answer_with p n i (stitch_slices limits) m work l) W r = subst (λ (o : StitchRoom). Told (bytes_in m) E (answer_with p n i o m work l) W r) a.stitched x in
    let z : Told (bytes_in m) E (answer_with p n i (stitch_slices limits) m (area limits) l) W r =
    subst (λ (w : List ℕ). Told (bytes_in m) E (answer_with p n i (stitch_slices limits) m w l) W r) a.words y in
    subst (λ (t : List ℕ). Told (bytes_in m) E t W r) (answer_with_lem limits p n i l e a.body) z

-- a text was read into a reader and its slices: what the program of these limits prints of them is what it is to print of the text
pub record TextRead (limits : Limits) (l : Lent) : Type 0 where
  pub text : List ℕ
  pub within : l.reader.limits ≡ limits
  pub same : answer_in l ≡ program limits text

-- some text was read, if there is room for the longest line and for every sheet within the limits
pub record InputRead (limits : Limits) (line table positions normals indices materials : List ℕ) (l : Lent) : Type 0 where
  pub says : of_bodies limits ≡ true → 108 ≤ length line → SheetRoom limits (length table) (length positions) (length normals) (length indices) (length materials) → TextRead limits l

module _ (limits : Limits) (line table positions normals indices materials : List ℕ) where
  -- What was fed to its end is some text that was read.
  pub input_read : (M : List ℕ) (s : Reader) (g : Fed) (line' table' positions' normals' indices' materials' : List ℕ) (t : Reader)
      → Begun limits materials s M
      → FedSome (record { reader = s; length = 0 }) line table positions normals indices M g line' table' positions' normals' indices' materials' → Ended g line' t
      → InputRead limits line table positions normals indices materials (lent t table' positions' normals' indices' materials')
  input_read M s g line' table' positions' normals' indices' materials' t b w e =
      record {
        says = λ few longest room.
            let f : Fed = record { reader = s; length = 0 } in
            let begun : SoFar limits [] f line table positions normals indices M = fed_begin limits line table positions normals indices materials M s b few longest room in
            let fed : SoFar limits w.part g line' table' positions' normals' indices' materials' = w.fed.goes limits [] begun in
            record {
              text = w.part;
              within = e.within ∙ ap (λ (x : State). x.limits) fed.kept.same ∙ fed.within;
              same = e.goes limits w.part table' positions' normals' indices' materials' fed;
            };
      }

  -- A text that was read and finished is printed as the program is to print it.
  pub ran : (p n i : ℕ) (into : StitchRoom) (out : MeshRoom) (work : List ℕ) (l : Lent) (E W : List ℕ) (r : ℕ)
      → InputRead limits line table positions normals indices materials l → Told (bytes_in out) E (answer_with p n i into out work l) W r
      → Ran limits line table positions normals indices materials p n i into out work E W r
  ran p n i into out work l E W r read v =
      record {
        says = λ a.
            let x : TextRead limits l = read.says a.few a.longest a.room in
            let told : Told (bytes_in (mesh_slices limits)) E (answer_in l) W r =
            arrays_told limits line table positions normals indices materials p n i into out work l E W r a x.within v in
            record { text = x.text; told = subst (λ (y : List ℕ). Told (bytes_in (mesh_slices limits)) E y W r) x.same told };
      }

-- what a program of these limits is to print of the text that was read was written
pub record FinishedIn (limits : Limits) (l : Lent) (E W : List ℕ) (r : ℕ) : Type 0 where
  pub says : TextRead limits l → Answered limits E W r

-- how many bytes a refusal of two digits has
abbrev pub refusal_bytes : ℕ
refusal_bytes = 13

-- the same, if the slices have room for the limits and more than a refusal was written
pub record FinishedShort (limits : Limits) (l : Lent) (E W : List ℕ) (r : ℕ) : Type 0 where
  pub says : TextRead limits l → SheetRoom limits (length l.table) (length l.positions) (length l.normals) (length l.indices) (length l.materials) → refusal_bytes < r
      → Answered limits E W r
