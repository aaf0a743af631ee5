-- The laws of a text fed piece by piece that a program cites: the beginning, and one stretch behind another. Assumes nothing.
use Rattle.std.specs.Prelude.{List, [], ◌++◌, ◌≡◌, refl, true, ℕ, ◌+◌, ◌≤◌, ◌<◌, drop}
use Rattle.std.proofs.Common.{append_assoc, append-nil, ◌∙◌, arith, take_all, take_at}
use Rattle.std.proofs.Math.Path.{sym, ap, subst}
use Rattle.std.proofs.Math.ListN.{length, take, replicate, length-replicate, length-take}
use Rattle.std.proofs.Math.Seq.{take-nil}
use Rattle.sheet_line_order.specs.declared.Limits.{Limits}
use Rattle.sheet_line_order.specs.Reading.{sheet_of, start}
use Rattle.sheet_reader_state.specs.declared.Reader.{Reader}
use Rattle.sheet_reader_state.specs.Kept.{Kept, kept_begin}
use Rattle.sheet_reader_state.specs.Limits.{SheetRoom}
use Rattle.sheet_reader_state.specs.Slices.{Begun, lent, of_bodies, reader_of}
use Rattle.bench_feed.specs.declared.Fed.{Fed}
use Rattle.bench_feed.specs.Feeding.{FedOn, FedSome, SoFar}

-- ---- the beginning
module _ (limits : Limits) (line table positions normals indices M W : List ℕ) (r : Reader) (b : Begun limits M r W) where
  -- how many face numbers there are
  abbrev faces : ℕ
  faces = limits.face + 1

  zeros : limits.face < length M → take faces W ≡ replicate faces 0
  zeros m =
      let few : length (replicate {A = ℕ} faces 0) ≤ length M = omega (arith, length-replicate {A = ℕ} faces 0) in
      ap (take faces) b.materials ∙ ap (λ (xs : List ℕ). take faces (xs ++ drop faces M)) (take_all (length M) (replicate faces 0) few)
      ∙ take_at (replicate faces 0) (drop faces M) faces (length-replicate {A = ℕ} faces 0)

  pub fed_begin : of_bodies limits ≡ true → 108 ≤ length line → SheetRoom limits (length table) (length positions) (length normals) (length indices) (length M)
      → SoFar limits [] (record { reader = r; length = 0 }) line table positions normals indices W
  unfolding sheet_of start
  fed_begin few l room =
      let clean : take faces W ≡ replicate faces 0 = zeros room.materials in
      let long : limits.face < length W = omega (arith, ap length clean, length-take faces W, length-replicate {A = ℕ} faces 0) in
      let wide : SheetRoom limits (length table) (length positions) (length normals) (length indices) (length W) =
      record { table = room.table; positions = room.positions; normals = room.normals; indices = room.indices; materials = long } in
      let kept : Kept (lent (reader_of (start limits)) table positions normals indices W) (start limits) = kept_begin limits table positions normals indices W wide few clean in
      record {
        state = start limits;
        within = refl;
        tail = [];
        plain = tt;
        means = λ rest. refl;
        kept = subst (λ (s : Reader). Kept (lent s table positions normals indices W) (start limits)) (sym b.reader) kept;
        room = l;
        buffer = sym (take-nil (length line));
        count = sym (ap length (take-nil {A = ℕ} (length line)));
      }

-- ---- stretch by stretch
module _ (f : Fed) (line table positions normals indices materials : List ℕ) where
  pub fed_nothing : FedSome f line table positions normals indices materials f line table positions normals indices materials
  fed_nothing = record { part = []; fed = record { goes = λ limits text v. subst (λ (t : List ℕ). SoFar limits t f line table positions normals indices materials) (sym (append-nil text)) v } }

  module _ (g : Fed) (line' table' positions' normals' indices' materials' : List ℕ) where
    pub fed_part : (part : List ℕ) → FedOn part f line table positions normals indices materials g line' table' positions' normals' indices' materials'
        → FedSome f line table positions normals indices materials g line' table' positions' normals' indices' materials'
    fed_part part w = record { part = part; fed = w }

    pub fed_further : (h : Fed) (line'' table'' positions'' normals'' indices'' materials'' : List ℕ)
        → FedSome f line table positions normals indices materials g line' table' positions' normals' indices' materials'
        → FedSome g line' table' positions' normals' indices' materials' h line'' table'' positions'' normals'' indices'' materials''
        → FedSome f line table positions normals indices materials h line'' table'' positions'' normals'' indices'' materials''
    fed_further h line'' table'' positions'' normals'' indices'' materials'' v w =
        record {
          part = v.part ++ w.part;
          fed =
              record {
                goes =
                    λ limits text x.
                    subst (λ (t : List ℕ). SoFar limits t h line'' table'' positions'' normals'' indices'' materials'') (append_assoc text v.part w.part)
                    (w.fed.goes limits (text ++ v.part) (v.fed.goes limits text x));
              };
        }
