-- What the program prints of the three calls on a body's floats. Assumes nothing.
use Rattle.std.specs.Prelude.{true, false, List, [], ◌++◌, ◌≡◌, ℕ, ◌*◌, length, take, eqb, Float, Result}
use Rattle.stitch_definition.specs.declared.Sizes as Stitching
use Rattle.sheet_answer_text.specs.declared.Sizes.{Sizes}
use Rattle.sheet_answer_text.specs.declared.Tallies.{Tallies}
use Rattle.sheet_answer_text.specs.Answer.{mesh_text, count_text, refusal_line}
use Rattle.point_rules.specs.Points.{key}
use Rattle.patch_geometry.specs.declared.Aabb.{Aabb}
use Rattle.turn_definition.specs.declared.TurnCounts.{TurnCounts}
use Rattle.turn_definition.specs.Orient.{AfterTurn, turn_of}
use Rattle.turn_definition.specs.Answers.{left, answered}
use Rattle.stitch_definition.specs.Slices.{AfterStitch, StitchSlices}
use Rattle.stitch_definition.specs.Stitch.{stitch_of}
use Rattle.stitch_definition.specs.Answers as S
use Rattle.mesh_definition.specs.declared.MeshCounts.{MeshCounts}
use Rattle.mesh_definition.specs.Assemble.{AfterAssemble, assemble_of}
use Rattle.mesh_definition.specs.Assembled.{counts_answered, left_mesh, slices_of, assemble_answered}
use Rattle.bench_call_texts.specs.Told.{Told}
use Rattle.mesh_room.specs.Slices.{MeshSlices}
use Rattle.sheet_answer_text.specs.Longest.{mesh_bytes}

-- how much assemble wrote
abbrev pub sized_from : MeshCounts → Sizes
sized_from c = record { vertices = c.vertices; indices = c.indices; parts = c.parts; ranges = c.ranges; failures = c.failures }

-- what was counted
abbrev pub tallied_from : TurnCounts → ℕ → MeshCounts → Tallies
tallied_from t splits c =
    record { turned = t.turned; against = t.against; split = splits; ok = c.ranges; edges = c.edges; opens = c.opens; overs = c.overs; closed = c.closed }

-- what is printed of assemble's answer
unfoldable pub mesh_printed : TurnCounts → ℕ → AfterAssemble → List ℕ
mesh_printed t splits a =
    let out = a.slices in
    elim (eqb a.refusal 0) [
      | true ↦ mesh_text (sized_from (counts_answered a)) out.vertices.positions out.vertices.normals out.indices out.parts out.ranges out.failures
          ++ count_text (tallied_from t splits (counts_answered a))
      | false ↦ refusal_line a.refusal
    ]

-- an answer of assemble and what it left are printed
pub record MeshSaid (t : TurnCounts) (splits : ℕ) (g : Result MeshCounts ℕ) (P N : List Float) (I parts ranges failures E W : List ℕ) (r : ℕ) : Type 0 where
  pub says : (a : AfterAssemble) (w : List ℕ) → left_mesh g (slices_of P N I parts ranges failures w) ≡ assemble_answered a
      → Told (mesh_bytes (length P) (length I) (length parts) (length ranges) (length failures)) E (mesh_printed t splits a) W r

-- the slices that assemble is lent, by the work area
abbrev pub MeshRoom : Type 0
MeshRoom = List ℕ → MeshSlices

-- these slices
abbrev pub mesh_in : List Float → List Float → List ℕ → List ℕ → List ℕ → List ℕ → MeshRoom
mesh_in ps ns is parts ranges failures = λ work. slices_of ps ns is parts ranges failures work

-- how many bytes the lines of a mesh in these slices take at the most
abbrev pub bytes_in : MeshRoom → ℕ
bytes_in out =
    let m = out [] in
    mesh_bytes (length m.vertices.positions) (length m.indices) (length m.parts) (length m.ranges) (length m.failures)

-- what is printed of a stitched body, assembled in lent slices
unfoldable pub assembled_text : List ℕ → List Float → List Float → List ℕ → Aabb → List ℕ → ℕ → TurnCounts → ℕ → MeshSlices → List ℕ
assembled_text T P N I box M d t splits out = mesh_printed t splits (assemble_of T P N I box M d out)

-- what is printed of stitch's answer on a body of table T, once assembled in lent slices and the work area that stitch left
unfoldable pub stitch_printed : List ℕ → Aabb → List ℕ → ℕ → TurnCounts → MeshRoom → AfterStitch → List ℕ
stitch_printed T box M d t room s =
    let out = s.slices in
    elim (eqb s.refusal 0) [
      | true ↦ assembled_text (take (length T) out.table) (take (3 * s.vertices) out.positions) (take (3 * s.vertices) out.normals) (take s.indices out.indices) box M d t
          s.splits (room out.work)
      | false ↦ refusal_line s.refusal
    ]

-- an answer of stitch and what it left are assembled and printed
pub record StitchSaid (T : List ℕ) (box : Aabb) (M : List ℕ) (d : ℕ) (t : TurnCounts) (g : Result Stitching.Sizes ℕ) (R : List ℕ) (P N : List Float) (I w : List ℕ) (out : MeshRoom)
    (E W : List ℕ) (r : ℕ) : Type 0 where
  pub says : (s : AfterStitch) → S.left_stitch g (S.slices_of R P N I w) ≡ S.stitch_answered s → Told (bytes_in out) E (stitch_printed T box M d t out s) W r

-- the slices that stitch is lent, by the work area
abbrev pub StitchRoom : Type 0
StitchRoom = List ℕ → StitchSlices

-- these slices
abbrev pub stitch_in : List ℕ → List Float → List Float → List ℕ → StitchRoom
stitch_in table ps ns is = λ work. S.slices_of table ps ns is work

-- what is printed of a turned body, stitched and assembled in lent slices and a work area
unfoldable pub stitched_text : List ℕ → List Float → List Float → List ℕ → Float → Aabb → List ℕ → ℕ → TurnCounts → StitchRoom → MeshRoom → List ℕ → List ℕ
stitched_text T P N I sag box M d t into out work = stitch_printed T box M d t out (stitch_of key T P N I sag (into work))

-- what is printed of turn's answer, once stitched and assembled
unfoldable pub turn_printed : List ℕ → List Float → Float → Aabb → List ℕ → ℕ → StitchRoom → MeshRoom → AfterTurn → List ℕ
turn_printed T P sag box M d into out t = elim (eqb t.refusal 0) [
  | true ↦ stitched_text T P t.normals t.indices sag box M d (record { turned = t.turned; against = t.against }) into out t.work
  | false ↦ refusal_line t.refusal
]

-- an answer of turn and what it left are stitched, assembled and printed
pub record TurnSaid (T : List ℕ) (P : List Float) (sag : Float) (box : Aabb) (M : List ℕ) (d : ℕ) (g : Result TurnCounts ℕ) (N : List Float) (I w : List ℕ) (into : StitchRoom) (out : MeshRoom) (E W : List ℕ)
    (r : ℕ) : Type 0 where
  pub says : (t : AfterTurn) → left g N I w ≡ answered t → Told (bytes_in out) E (turn_printed T P sag box M d into out t) W r

-- what is printed of a body, turned, stitched and assembled
unfoldable pub finished_text : List ℕ → List Float → List Float → List ℕ → Float → Aabb → List ℕ → ℕ → StitchRoom → MeshRoom → List ℕ → List ℕ
finished_text T P N I sag box M d into out work = turn_printed T P sag box M d into out (turn_of key T P N I work)
