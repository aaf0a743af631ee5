-- What the audit of a body lists: face numbers of its rows, each with its count above 0, and every face number that is marked. Assumes nothing.
use Rattle.report_definition.specs.BodyAudit.{Audited}
use Rattle.std.specs.Prelude.{◌≡◌, refl, Bool, true, false, cond, List, [], ◌∷◌, map, ℕ, suc, ◌*◌, ◌<◌, drop, eqb, Float}
use Rattle.std.proofs.Common.{ap, subst, inl, inr, arith, eq-eqb}
use Rattle.lists.specs.Lists.{count_if}
use Rattle.lists.specs.Members.{Has}
use Rattle.point_rules.specs.Rule.{Rule}
use Rattle.body_rows.specs.Body.{Row, rows_of, patches_of}
use Rattle.report_definition.specs.Audit.{Entry, entry_of, faces_in, marks_of, audit_of}
use Rattle.report_definition.specs.Report.{Body, patches_in, faces_of_body}
use Rattle.report_definition.specs.AuditLaws.{Among, Ordered, Listed, entries_listed}
use Rattle.report_definition.proofs.MarkLaws.{body_marks}

-- a number that is among the marks has a count above 0
marked_above : (n : ℕ) (marks : List ℕ) → Has n marks → 0 < count_if (eqb n) marks
unfolding count_if
marked_above n [] h = absurd h
marked_above n (m ∷ ms) (inl e) = go (eqb n m) (eq-eqb n m e)
  where
    go : (b : Bool) → b ≡ true → 0 < cond b (suc (count_if (eqb n) ms)) (count_if (eqb n) ms)
    go true q = omega arith
    go false q = let z : ◌≡◌ {A = ℕ} 0 1 = cc in absurd (omega arith)
marked_above n (m ∷ ms) (inr h) = go (eqb n m) (marked_above n ms h)
  where
    go : (b : Bool) → 0 < count_if (eqb n) ms → 0 < cond b (suc (count_if (eqb n) ms)) (count_if (eqb n) ms)
    go true l = omega arith
    go false l = l

-- the face numbers of a body's patches are those of its rows
faces_rows : (rows : List Row) (ps ns : List Float) (is : List ℕ) → faces_in (patches_of rows ps ns is) ≡ map (λ r. r.face) rows
unfolding patches_of
faces_rows [] ps ns is = refl
faces_rows (r ∷ rs) ps ns is = ap (λ (ns : List ℕ). r.face ∷ ns) (faces_rows rs (drop (3 * r.vertices) ps) (drop (3 * r.vertices) ns) (drop r.indices is))

-- So are those that the report lists of it: each mark is a face number of a row, so that none is lost.
pub body_audited : (rule : Rule) (b : Body) → Audited rule b (faces_of_body rule b)
unfolding audit_of entry_of
body_audited rule b =
    let faces = faces_in (patches_in b) in
    let marks = marks_of rule b.positions (patches_in b) in
    let l : Listed faces marks (faces_of_body rule b) = entries_listed marks faces in
    record {
      ordered = l.ordered;
      of_row = λ e m. subst (Has e.face) (faces_rows (rows_of b.table) b.positions b.normals b.indices) (l.each e m).of_face;
      counted = λ e m. ap (λ (x : Entry). x.count) (l.each e m).counted;
      above = λ e m. (l.each e m).above;
      every = λ n h. l.every n (body_marks rule b.positions (patches_in b) n h) (marked_above n marks h);
    }
