-- The audit of a body in the work area: what it asks and leaves. It looks at no normals. Assumes nothing.
use Rattle.std.specs.Prelude.{◌≡◌, refl, List, [], ◌∷◌, map, ℕ, ◌+◌, ◌*◌, ◌/◌, ◌%◌, ◌≤◌, ◌<◌, length, get_or, take, drop, Float}
use Rattle.std.proofs.Common.{sym, ap, ◌∙◌, subst, arith}
use Rattle.point_rules.specs.Rule.{names}
use Rattle.point_rules.specs.Points.{key}
use Rattle.join_definition.specs.Join.{joined}
use Rattle.body_rows.specs.Body.{Row, rows_of, patches_of, all_vertices, work_needed}
use Rattle.body_rows.specs.Patches.{shapes}
use Rattle.body_checks.specs.Accepted.{Passed, passed_rows}
use Rattle.edge_uses.specs.Edges.{Use, uses_from}
use Rattle.edge_uses.specs.Named.{use_name, use_run, use_row}
use Rattle.edge_uses.proofs.UseLaws.{rows_uses}
use Rattle.edge_uses.specs.Area.{AreaReady}
use Rattle.report_definition.specs.Audit.{Entry, audit_uses, marks_from, marks_of, entries_of, faces_in, audit_of}
use Rattle.report_audit.specs.Faces.{faces_of}
use Rattle.report_audit.specs.Ranks.{entry_word}

-- ---- where things stand

-- the uses' names, of v vertices and m rows; behind them their first uses, rows and runs
abbrev pub uses_at : ℕ → ℕ → ℕ
uses_at v m = 4 * v + 4 * m

-- face numbers and all that is ranked, behind n uses
abbrev pub faces_at : ℕ → ℕ → ℕ → ℕ
faces_at v m n = 4 * v + 4 * m + 4 * n

-- the entries
abbrev pub entries_at : ℕ → ℕ → ℕ → ℕ
entries_at v m n = 4 * v + 13 * m + 4 * n

-- ---- the uses laid out

-- the uses of a body as the audit sees them
abbrev pub uses_in : List ℕ → List Float → List ℕ → List Use
uses_in table ps is = audit_uses (joined (names key ps)) (shapes table ps is)

-- what laying them out leaves: behind their names their first uses, rows and runs, and all behind those as it was
pub record UsesLaid (table : List ℕ) (ps : List Float) (is : List ℕ) (v m : ℕ) (W E : List ℕ) : Type 0 where
  pub firsts : take (length is) (drop (uses_at v m + length is) E) ≡ joined (map use_name (uses_in table ps is))
  pub rows : take (length is) (drop (uses_at v m + 2 * length is) E) ≡ map use_row (uses_in table ps is)
  pub runs : take (length is) (drop (uses_at v m + 3 * length is) E) ≡ map use_run (uses_in table ps is)
  pub rows_low : (i : ℕ) → i < length is → get_or (map use_row (uses_in table ps is)) i 0 < m
  pub many : length (uses_in table ps is) ≡ length is
  pub rest : drop (faces_at v m (length is)) E ≡ drop (faces_at v m (length is)) W
  pub long : length E ≡ length W

-- ---- the audit

-- the audit of a body, its points joined by key
abbrev pub audit_in : List ℕ → List Float → List ℕ → List Entry
audit_in table ps is = audit_of key ps (shapes table ps is)

-- an entry of nothing: what lies past the end
abbrev pub no_entry : Entry
no_entry = record { face = 0; count = 0 }

-- What the audit of a body of v vertices and m rows leaves: r entries as words, from which face number and count are read back, and all behind the words that
-- 31 counts as it was.
pub record BodyAudited (table : List ℕ) (ps : List Float) (is : List ℕ) (v m r : ℕ) (W E : List ℕ) : Type 0 where
  pub many : r ≡ length (audit_in table ps is)
  pub few : r ≤ m
  pub words : take r (drop (entries_at v m (length is)) E) ≡ map entry_word (audit_in table ps is)
  pub faces : (k : ℕ) → k < r → get_or E (entries_at v m (length is) + k) 0 % 4294967296 ≡ (get_or (audit_in table ps is) k no_entry).face
  pub counts : (k : ℕ) → k < r → get_or E (entries_at v m (length is) + k) 0 / 4294967296 ≡ (get_or (audit_in table ps is) k no_entry).count
  pub rest : drop (16 * length is + 16 * m + 4 * v) E ≡ drop (16 * length is + 16 * m + 4 * v) W
  pub long : length E ≡ length W

-- what the audit asks: whole rows, counts within limits, indices of vertices, and the words that 31 counts
abbrev pub Auditable : List ℕ → List Float → List ℕ → List ℕ → Type 0
Auditable table ps is W = AreaReady table ps is W (all_vertices (rows_of table)) (length (rows_of table))

-- what it leaves: r entries
abbrev pub Audited : List ℕ → List Float → List ℕ → ℕ → List ℕ → List ℕ → Type 0
Audited table ps is r W E = BodyAudited table ps is (all_vertices (rows_of table)) (length (rows_of table)) r W E

-- ---- no normals

-- the face numbers of patches are those of their rows
pub faces_are : (rows : List Row) (ps ns : List Float) (is : List ℕ) → faces_in (patches_of rows ps ns is) ≡ faces_of rows
unfolding patches_of
faces_are [] ps ns is = refl
faces_are (r ∷ rs) ps ns is = ap (λ (fs : List ℕ). r.face ∷ fs) (faces_are rs (drop (3 * r.vertices) ps) (drop (3 * r.vertices) ns) (drop r.indices is))

-- The audit does not depend on normals.
pub audit_any : (table : List ℕ) (ps ns : List Float) (is : List ℕ) → audit_of key ps (patches_of (rows_of table) ps ns is) ≡ audit_in table ps is
unfolding audit_of marks_of audit_uses
audit_any table ps ns is = λ i. entries_of (faces i) (marks_from (faces i) [] (uses i))
  where
    rows : List Row
    rows = rows_of table

    faces : faces_in (patches_of rows ps ns is) ≡ faces_in (patches_of rows ps [] is)
    faces = faces_are rows ps ns is ∙ sym (faces_are rows ps [] is)

    uses : uses_from (λ r. 0) 0 (joined (names key ps)) (patches_of rows ps ns is) ≡ uses_from (λ r. 0) 0 (joined (names key ps)) (patches_of rows ps [] is)
    uses = sym (rows_uses (λ r. 0) 0 (joined (names key ps)) rows ps ns is) ∙ rows_uses (λ r. 0) 0 (joined (names key ps)) rows ps [] is

-- ---- accepted bodies

-- An accepted body can be audited.
pub auditable : {table : List ℕ} {ps ns : List Float} {is : List ℕ} (W : List ℕ) → Passed table ps ns is (length W) → Auditable table ps is W
unfolding work_needed
auditable W p =
    record {
      body =
          record {
            rows = passed_rows p;
            count = refl;
            vertices = refl;
            few_vertices = p.vertices;
            all_positions = p.all_positions;
            all_indices_lem = p.all_indices_lem;
            few_indices = p.indices;
            threes = p.threes;
            inside = p.inside;
            room = omega (arith, p.enough, p.all_indices_lem);
          };
      enough = omega (arith, p.enough, p.all_indices_lem);
    }

-- Behind the words that it needs all is as it was.
pub audited_rest : {table : List ℕ} {ps : List Float} {is : List ℕ} {r : ℕ} (W E : List ℕ) → Auditable table ps is W → Audited table ps is r W E
    → drop (work_needed (rows_of table)) E ≡ drop (work_needed (rows_of table)) W
unfolding work_needed
audited_rest {table} {ps} {is} W E g a =
    let e : 16 * length is + 16 * length (rows_of table) + 4 * all_vertices (rows_of table) ≡ work_needed (rows_of table) = omega (arith, g.body.all_indices_lem) in
    subst (λ (k : ℕ). drop k E ≡ drop k W) e a.rest
