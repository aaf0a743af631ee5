-- The source's winding audit over a whole stitched body (request N7). Assumes nothing.
use Rattle.std.specs.Prelude.{Bool, not, ◌&&◌, ◌||◌, cond, List, [], ◌∷◌, ◌++◌, map, ℕ, get_or, ltb, eqb, Float}
use Rattle.lists.specs.Lists.{any, count_if, filter, ascending}
use Rattle.point_rules.specs.Rule.{Rule, names}
use Rattle.join_definition.specs.Join.{joined}
use Rattle.body_rows.specs.Body.{Patch}
use Rattle.edge_uses.specs.Edges.{Use, uses_from, skipped, same_edge, first_user}

-- ---- which faces are marked

-- The uses of a body whose vertices stand for the `points`. Shells are ignored: every row counts as of shell 0.
unfoldable pub audit_uses : List ℕ → List Patch → List Use
audit_uses points patches = uses_from (λ r. 0) 0 points patches

-- whether a use is a later use of its edge, after those before it, and runs as the first one does
unfoldable pub runs_alike : List Use → Use → Bool
runs_alike before u = not (skipped u) && (any (same_edge u) before && eqb (first_user before u).start u.start)

-- What a use marks, after those before it: if it runs as the first use of its edge, the face number of its row and that of the first use's row.
unfoldable pub marked_by : List ℕ → List Use → Use → List ℕ
marked_by faces before u = cond (runs_alike before u) (get_or faces u.row 0 ∷ get_or faces (first_user before u).row 0 ∷ []) []

-- what some uses mark in turn, after those before them; `faces` are the face numbers of all rows, of which every use has one
unfoldable pub marks_from : List ℕ → List Use → List Use → List ℕ
marks_from faces before [] = []
marks_from faces before (u ∷ us) = marked_by faces before u ++ marks_from faces (before ++ u ∷ []) us

-- ---- the entries

-- a face number with its count
pub record Entry : Type 0 where
  pub face : ℕ
  pub count : ℕ

-- Each mark of a face number adds 1 to it.
unfoldable pub entry_of : List ℕ → ℕ → Entry
entry_of marks face = record { face = face; count = count_if (eqb face) marks }

-- the higher count goes first, then the lower number
unfoldable pub goes_before : Entry → Entry → Bool
goes_before e f = ltb f.count e.count || (eqb e.count f.count && ltb e.face f.face)

-- an entry put in its place
unfoldable pub insert_entry : Entry → List Entry → List Entry
insert_entry e [] = e ∷ []
insert_entry e (f ∷ fs) = let rest = f ∷ insert_entry e fs in cond (goes_before e f) (e ∷ f ∷ fs) rest

-- entries in their order
unfoldable pub ranked : List Entry → List Entry
ranked [] = []
ranked (e ∷ es) = insert_entry e (ranked es)

-- The face numbers with a count above 0, each once with its count: highest count first, then by number.
unfoldable pub entries_of : List ℕ → List ℕ → List Entry
entries_of faces marks = ranked (filter (λ e. ltb 0 e.count) (map (entry_of marks) (ascending faces)))

-- ---- a body

-- the face numbers of a body's rows
abbrev pub faces_in : List Patch → List ℕ
faces_in patches = map (λ p. p.row.face) patches

-- the face numbers that a body's uses mark, in the order of the uses, points joined by a rule
unfoldable pub marks_of : Rule → List Float → List Patch → List ℕ
marks_of rule ps patches = marks_from (faces_in patches) [] (audit_uses (joined (names rule ps)) patches)

-- the audit of a body: its positions as they are lent, and its patches
unfoldable pub audit_of : Rule → List Float → List Patch → List Entry
audit_of rule ps patches = entries_of (faces_in patches) (marks_of rule ps patches)
