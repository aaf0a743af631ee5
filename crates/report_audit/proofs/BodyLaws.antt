-- Laws of the audit of a body: its uses laid out, its face numbers joined, the marks counted, the counts ranked. Assumes nothing.
use mathlib.Core.Path.{◌≡◌, refl, sym, ap, ◌∙◌, subst}
use mathlib.Core.List.{List, [], ◌∷◌, map}
use Prim.Native.Nat.{ℕ, zero, suc, ◌+◌, ◌-◌, ◌*◌, ◌<◌}
use native.Mathlib.Nat.{le_of_suc-le-suc, not-suc-le-zero}
use native.Mathlib.Omega.{arith}
use lib.ListN.{length, get_or, take, drop, replicate, length-map, length-drop, length-replicate, get_or-replicate}
use lib.Seq.{sets, length-sets, length-take-le, take_all}
use lib.Dec.{eqb}
use lib.Ieee.{Float}
use Rattle.lists.specs.Lists.{count_if}
use Rattle.lists.specs.Members.{has_place}
use Rattle.lists.specs.Sets.{get_d_sets_in, take_sets, drop_sets}
use Rattle.lists.specs.Stretches.{front_at, rest_less, stretch_at, stretch_kept}
use Rattle.point_rules.specs.Rule.{names}
use Rattle.point_rules.specs.Points.{key}
use Rattle.body_rows.specs.Body.{Row, rows_of, all_vertices}
use Rattle.body_rows.specs.Rows.{Total}
use Rattle.body_rows.specs.Patches.{shapes}
use Rattle.join_definition.specs.Join.{joined, first_index}
use Rattle.join_definition.specs.Representatives.{rep_below}
use Rattle.join_points.specs.declared.vertices.Rule.TheVariants.{Key}
use Rattle.join_points.specs.Rules.{rule_of, JoinedPoints}
use Rattle.edge_uses.specs.Edges.{Use}
use Rattle.edge_uses.specs.Named.{use_name, use_run, use_row, row_numbers}
use Rattle.edge_uses.specs.FirstUsers.{UsersReady}
use Rattle.edge_uses.specs.FirstUsers as laid
use Rattle.edge_uses.specs.RowUses.{numbers_below}
use Rattle.edge_uses.specs.Area.{AreaReady, UsesListed}
use Rattle.edge_uses.proofs.AreaLaws.{uses_many, rows_there, points_low, users_ready, uses_there}
use Rattle.edge_uses.proofs.UseLaws.{low_uses, get_d_map, length_named}
use Rattle.edge_uses.specs.UseLaws.{Apart}
use Rattle.report_definition.specs.Audit.{Entry, audit_uses, marks_from, marks_of, entries_of, audit_of}
use Rattle.report_definition.specs.AuditLaws.{entries_listed}
use Rattle.report_audit.specs.Faces.{faces_of, FacesJoined}
use Rattle.report_audit.specs.Counts.{CountsReady, MarksCounted}
use Rattle.report_audit.specs.Ranks.{entry_word, RankReady, CountsStand, Ranked}
use Rattle.report_audit.specs.Audited.{uses_in, audit_in, no_entry, entries_at, UsesLaid, BodyAudited, Auditable, Audited, faces_are}
use Rattle.report_audit.proofs.FaceLaws.{faces_long}
use Rattle.report_audit.proofs.CountLaws.{before_few}
use Rattle.report_audit.proofs.EntryLaws.{among_item}
use Rattle.report_audit.proofs.UseLaws.{UsesStand, first_word, row_word, head_word, uses_marks}

-- ---- the uses laid out

-- every row is of shell 0
abbrev no_shell : Row → ℕ
no_shell r = 0

all_zero : (rows : List Row) (k : ℕ) → ◌≡◌ {A = ℕ} (get_or (map no_shell rows) k 0) 0
all_zero [] k = refl
all_zero (r ∷ rs) zero = refl
all_zero (r ∷ rs) (suc k) = all_zero rs k

module _ {table : List ℕ} {ps : List Float} {is W : List ℕ} {v m : ℕ} (g : AreaReady table ps is W v m) where
  -- points joined: W became X; shells cleared: X became Y
  module _ {X Y : List ℕ} (p : JoinedPoints Key ps v W X) (xl : length X ≡ length W) (e : Y ≡ sets X (4 * v) (replicate (4 * v + m - 4 * v) 0)) where
    abbrev zeros : List ℕ
    zeros = replicate m 0

    zeros_long : length zeros ≡ m
    zeros_long = length-replicate m 0

    list : Y ≡ sets X (4 * v) zeros
    list = let c : 4 * v + m - 4 * v ≡ m = omega arith in e ∙ ap (λ (k : ℕ). sets X (4 * v) (replicate k 0)) c

    y_long : length Y ≡ length W
    y_long = ap length list ∙ length-sets X (4 * v) zeros ∙ xl

    there : take v (drop v Y) ≡ joined (names key ps)
    unfolding rule_of
    there = stretch_kept v v (4 * v) X Y (ap (take (4 * v)) list ∙ take_sets X (4 * v) zeros) (omega arith) ∙ p.reps

    zero_at : (k : ℕ) → k < m → get_or Y (4 * v + k) 0 ≡ 0
    zero_at k l =
        ap (λ (w : List ℕ). get_or w (4 * v + k) 0) list
        ∙ get_d_sets_in X (4 * v) zeros k 0 (omega (arith, zeros_long)) (omega (arith, g.enough, xl))
        ∙ get_or-replicate m k 0 0 l

    -- the uses can be listed
    pub uses_ready : UsersReady table is Y v (4 * v) (4 * v + 4 * m)
    uses_ready = users_ready g.body Y (4 * v) there y_long (omega arith) (λ k l. omega (arith, zero_at k l))

    -- they are the definition's
    uses_are : laid.uses_in table is Y v (4 * v) ≡ uses_in table ps is
    unfolding audit_uses
    uses_are = uses_there g.body Y (4 * v) there y_long (omega arith) no_shell (λ k l. zero_at k l ∙ sym (all_zero (rows_of table) k))

    uses_long : length (uses_in table ps is) ≡ length is
    uses_long = sym (ap length uses_are) ∙ uses_many uses_ready

    numbered : map use_row (uses_in table ps is) ≡ row_numbers 0 (rows_of table)
    numbered = sym (ap (map use_row) uses_are) ∙ rows_there uses_ready

    -- they are laid out
    pub uses_laid : {E : List ℕ} → UsesListed table is Y v (4 * v) (4 * v + 4 * m) E → length E ≡ length Y → UsesLaid table ps is v m W E
    uses_laid {E} u l =
        record {
          firsts = u.firsts ∙ ap (λ (us : List Use). joined (map use_name us)) uses_are;
          rows = u.rows ∙ sym numbered;
          runs = u.runs ∙ ap (map use_run) uses_are;
          rows_low = λ i h.
              omega (
                arith,
                ap (λ (s : List ℕ). get_or s i 0) numbered,
                numbers_below 0 (rows_of table) i (omega (arith, ap length numbered, length_named use_row (uses_in table ps is), uses_long)),
                g.body.count,
              );
          many = uses_long;
          rest =
              u.rest
              ∙ ap (drop (4 * v + 4 * m + 4 * length is)) list
              ∙ drop_sets X (4 * v) zeros (4 * v + 4 * m + 4 * length is) (omega (arith, zeros_long))
              ∙ rest_less (4 * v) (4 * v + 4 * m + 4 * length is) W X p.rest (omega arith);
          long = l ∙ y_long;
        }

  -- ---- the marks counted

  abbrev n : ℕ
  n = length is

  abbrev at : ℕ
  at = 4 * v + 4 * m + 4 * length is

  abbrev firsts : ℕ
  firsts = 4 * v + 4 * m + length is

  abbrev uses : List Use
  uses = uses_in table ps is

  abbrev faces : List ℕ
  faces = faces_of (rows_of table)

  faces_many : length faces ≡ m
  faces_many = faces_long (rows_of table) ∙ g.body.count

  -- names tell the uses' edges apart
  apart : Apart (λ s. s) uses
  unfolding audit_uses
  apart = record { shells = λ i j li lj e. e; low = λ i l. low_uses (λ r. 0) 0 (joined (names key ps)) (shapes table ps is) (points_low g.body) i }

  -- uses laid out in A, face numbers joined: A became B
  module _ {A B : List ℕ} (a : UsesLaid table ps is v m W A) (b : FacesJoined table at A B) (bl : length B ≡ length A) where
    b_long : length B ≡ length W
    b_long = bl ∙ a.long

    faces_there : take m (drop at B) ≡ faces
    faces_there = subst (λ (k : ℕ). take k (drop at B) ≡ faces) g.body.count b.faces

    heads_there : take m (drop (at + m) B) ≡ joined faces
    heads_there = subst (λ (k : ℕ). take k (drop (at + k) B) ≡ joined faces) g.body.count b.heads

    stand : UsesStand B firsts n (at + m) m uses faces
    stand =
        let two : firsts + n ≡ 4 * v + 4 * m + 2 * n = omega arith in
        let three : firsts + 2 * n ≡ 4 * v + 4 * m + 3 * n = omega arith in
        record {
          many = a.many;
          first = stretch_kept firsts n at A B b.front (omega arith) ∙ a.firsts;
          row = stretch_kept (firsts + n) n at A B b.front (omega arith) ∙ ap (λ (k : ℕ). take n (drop k A)) two ∙ a.rows;
          run = stretch_kept (firsts + 2 * n) n at A B b.front (omega arith) ∙ ap (λ (k : ℕ). take n (drop k A)) three ∙ a.runs;
          row_low = λ i l. omega (arith, a.rows_low i l, get_d_map use_row uses i (omega (arith, a.many)));
          faces_many = faces_many;
          head = heads_there;
        }

    -- the marks can be counted
    pub counts_ready : CountsReady B firsts n (at + m) (at + 4 * m) m
    counts_ready =
        record {
          uses_apart = omega arith;
          apart = omega arith;
          room = omega (arith, g.enough, b_long);
          enough = omega (arith, g.enough, b_long);
          firsts_low = λ i l.
              let h : i < length (map use_name uses) = omega (arith, length_named use_name uses, a.many) in
              omega (arith, first_word apart stand i l, rep_below (map use_name uses) i h, length_named use_name uses, a.many);
          rows_low = λ i l. omega (arith, row_word apart stand i l, stand.row_low i l);
          low = λ k l. omega (arith, head_word apart stand k l, rep_below faces k (omega (arith, faces_many)), faces_many);
        }

    -- ---- the counts ranked

    module _ {C : List ℕ} (c : MarksCounted B firsts n (at + m) (at + 4 * m) m C) where
      face_is : (k : ℕ) → k < m → get_or C (at + k) 0 ≡ get_or faces k 0
      face_is k l = front_at (at + 4 * m) (at + k) B C 0 c.front (omega arith) ∙ sym (stretch_at at m B k 0 l) ∙ ap (λ (s : List ℕ). get_or s k 0) faces_there

      -- the counts can be ranked
      pub rank_ready : RankReady C at m
      rank_ready =
          record {
            few = omega (arith, g.body.rows.few, g.body.count);
            faces = λ k l. omega (arith, face_is k l, b.narrow.small k (omega (arith, faces_many)));
            small = λ j l. omega (arith, c.count j l, before_few B firsts n (at + m) (eqb j) n, g.body.all_indices_lem, g.body.few_indices);
            room = omega (arith, g.enough, b_long, c.long);
          }

      abbrev marks : List ℕ
      marks = marks_from faces [] uses

      counts_stand : CountsStand C at m faces marks
      counts_stand =
          record {
            many = faces_many;
            faces_are = stretch_kept at m (at + 4 * m) B C c.front (omega arith) ∙ faces_there;
            heads_are = stretch_kept (at + m) m (at + 4 * m) B C c.front (omega arith) ∙ heads_there;
            count = λ j l.
                c.count (first_index faces j) (omega (arith, rep_below faces j (omega (arith, faces_many)), faces_many))
                ∙ uses_marks apart stand j l n (omega arith)
                ∙ ap (λ (us : List Use). count_if (eqb (get_or faces j 0)) (marks_from faces [] us)) (take_all n uses (omega (arith, a.many)));
          }

      -- the entries are the definition's
      audit_is : entries_of faces marks ≡ audit_in table ps is
      unfolding audit_of marks_of
      audit_is = let e = sym (faces_are (rows_of table) ps [] is) in λ t. entries_of (e t) (marks_from (e t) [] uses)

      module _ {r : ℕ} {E : List ℕ} (k : Ranked C at m r E) where
        place : at + 9 * m ≡ entries_at v m n
        place = omega arith

        words_are : take r (drop (entries_at v m n) E) ≡ map entry_word (audit_in table ps is)
        words_are = subst (λ (j : ℕ). take r (drop j E) ≡ map entry_word (audit_in table ps is)) place (k.words faces marks counts_stand ∙ ap (map entry_word) audit_is)

        e_long : length E ≡ length W
        e_long = k.long ∙ c.long ∙ b_long

        many : r ≡ length (audit_in table ps is)
        many =
            sym (length-take-le r (drop (entries_at v m n) E) (omega (arith, length-drop (entries_at v m n) E, g.enough, k.few, e_long)))
            ∙ ap length words_are
            ∙ length-map (audit_in table ps is) entry_word

        word_at_lem : (es : List Entry) (q : ℕ) → q < length es → get_or (map entry_word es) q 0 ≡ entry_word (get_or es q no_entry)
        word_at_lem [] q h = absurd (not-suc-le-zero h)
        word_at_lem (x ∷ es) zero h = refl
        word_at_lem (x ∷ es) (suc q) h = word_at_lem es q (le_of_suc-le-suc h)

        entry_at : (q : ℕ) → q < r → get_or E (entries_at v m n + q) 0 ≡ entry_word (get_or (audit_in table ps is) q no_entry)
        entry_at q l =
            sym (stretch_at (entries_at v m n) r E q 0 l)
            ∙ ap (λ (s : List ℕ). get_or s q 0) words_are
            ∙ word_at_lem (audit_in table ps is) q (omega (arith, many))

        -- its face number has 32 bits
        narrow_at : (q : ℕ) → q < r → (get_or (audit_in table ps is) q no_entry).face < 4294967296
        narrow_at q l =
            let has = subst (λ (x : List Entry). (j : ℕ) → j < length x → (get_or x j no_entry).face < 4294967296) audit_is small in
            has q (omega (arith, many))
          where
            small : (j : ℕ) → j < length (entries_of faces marks) → (get_or (entries_of faces marks) j no_entry).face < 4294967296
            small j h =
                let x = get_or (entries_of faces marks) j no_entry in
                let p = has_place x.face faces ((entries_listed marks faces).each x (among_item (entries_of faces marks) j h)).of_face in
                subst (λ (f : ℕ). f < 4294967296) p.1.1 (b.narrow.small p.0 p.1.0)

        -- the body is audited
        pub body_audited : BodyAudited table ps is v m r W E
        body_audited =
            record {
              many = many;
              few = k.few;
              words = words_are;
              faces = λ q l. omega (arith, entry_at q l, narrow_at q l);
              counts = λ q l. omega (arith, entry_at q l, narrow_at q l);
              rest =
                  rest_less (at + 10 * m) (16 * n + 16 * m + 4 * v) C E k.rest (omega arith)
                  ∙ rest_less (at + 4 * m + m) (16 * n + 16 * m + 4 * v) B C c.rest (omega arith)
                  ∙ rest_less (at + 4 * length (rows_of table)) (16 * n + 16 * m + 4 * v) A B b.rest (omega (arith, g.body.count))
                  ∙ rest_less at (16 * n + 16 * m + 4 * v) W A a.rest (omega arith);
              long = e_long;
            }

-- ---- the body's own counts

module _ {table : List ℕ} {ps : List Float} {is W : List ℕ} {v m : ℕ} (ev : Total (all_vertices (rows_of table)) v) (em : m ≡ length (rows_of table)) where
  -- what is asked with them
  pub area_ready : Auditable table ps is W → AreaReady table ps is W v m
  area_ready a = subst (λ (x : ℕ). AreaReady table ps is W x m) (sym ev.is) (subst (λ (x : ℕ). AreaReady table ps is W (all_vertices (rows_of table)) x) (sym em) a)

  -- what is left with them
  pub audited : {r : ℕ} {E : List ℕ} → BodyAudited table ps is v m r W E → Audited table ps is r W E
  audited {r} {E} a =
      subst (λ (x : ℕ). BodyAudited table ps is (all_vertices (rows_of table)) x r W E) em (subst (λ (x : ℕ). BodyAudited table ps is x m r W E) ev.is a)
