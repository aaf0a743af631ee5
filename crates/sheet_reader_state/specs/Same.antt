-- A state as it is, in its slices. Assumes nothing.
use Rattle.std.specs.Prelude.{List, [], ◌∷◌, ◌≡◌, refl, ℕ, zero, suc, ◌+◌, ◌*◌, ◌/◌, ◌≤◌, length, take}
use Rattle.std.proofs.Common.{sym, ◌∙◌, ap, arith}
use Rattle.body_rows.specs.Body.{row_width}
use Rattle.sheet_reader_state.specs.declared.Reader.{Reader}
use Rattle.sheet_line_order.specs.Reading.{State}
use Rattle.sheet_reader_state.specs.Slices.{Lent, lent, moved, onto, over, reader_of, refused, state_of}
use Rattle.sheet_reader_state.specs.Held.{Held, counts_of}

-- the slice is its front and the rest
pub kept : (n : ℕ) (xs : List ℕ) → xs ≡ onto (take n xs) xs
kept zero xs = refl
kept (suc n) [] = refl
kept (suc n) (x ∷ xs) = ap (λ (ys : List ℕ). x ∷ ys) (kept n xs)

-- equal parts make equal wholes
pub same_lent : {r r' : Reader} {T T' P P' N N' I I' M M' : List ℕ} → r ≡ r' → T ≡ T' → P ≡ P' → N ≡ N' → I ≡ I' → M ≡ M' → lent r T P N I M ≡ lent r' T' P' N' I' M'
same_lent {r} {r'} {T} {T'} {P} {P'} {N} {N'} {I} {I'} {M} {M'} a b c d e f =
    ap (λ (x : Reader). lent x T P N I M) a
    ∙ ap (λ (x : List ℕ). lent r' x P N I M) b
    ∙ ap (λ (x : List ℕ). lent r' T' x N I M) c
    ∙ ap (λ (x : List ℕ). lent r' T' P' x I M) d
    ∙ ap (λ (x : List ℕ). lent r' T' P' N' x M) e
    ∙ ap (λ (x : List ℕ). lent r' T' P' N' I' x) f

-- equal numbers make equal readers, the box aside
pub same_reader : (s : Reader) (refusal refusal' place place' rows rows' vertices vertices' indices indices' default default' sag : ℕ)
    → refusal ≡ refusal' → place ≡ place' → rows ≡ rows' → vertices ≡ vertices' → indices ≡ indices' → default ≡ default'
    → moved (refused refusal s) place rows vertices indices default sag ≡ moved (refused refusal' s) place' rows' vertices' indices' default' sag
same_reader s refusal refusal' place place' rows rows' vertices vertices' indices indices' default default' sag a b c d e f =
    ap (λ (n : ℕ). moved (refused n s) place rows vertices indices default sag) a
    ∙ ap (λ (n : ℕ). moved (refused refusal' s) n rows vertices indices default sag) b
    ∙ ap (λ (n : ℕ). moved (refused refusal' s) place' n vertices indices default sag) c
    ∙ ap (λ (n : ℕ). moved (refused refusal' s) place' rows' n indices default sag) d
    ∙ ap (λ (n : ℕ). moved (refused refusal' s) place' rows' vertices' n default sag) e
    ∙ ap (λ (n : ℕ). moved (refused refusal' s) place' rows' vertices' indices' n sag) f

module _ (s : Reader) (T P N I M : List ℕ) where
  abbrev here : Lent
  here = lent s T P N I M

  -- the counts are those of the fronts, which the slices hold
  module _ (h : Held s T P N I M) where
    pub same_rows : s.rows ≡ length (take (row_width * s.rows) T) / row_width
    same_rows = omega (arith, (counts_of s T P N I M h).table)

    pub same_vertices : s.vertices ≡ length (take (3 * s.vertices) P) / 3
    same_vertices = omega (arith, (counts_of s T P N I M h).positions)

    pub same_indices : s.indices ≡ length (take s.indices I)
    same_indices = sym (counts_of s T P N I M h).indices

    pub rows_fit : row_width * s.rows ≤ length T
    rows_fit = omega (arith, h.limits.room.table, h.limits.rows)

    pub vertices_fit : 3 * s.vertices ≤ length P
    vertices_fit = omega (arith, h.limits.room.positions, h.limits.vertices)

    pub normals_fit : 3 * s.vertices ≤ length N
    normals_fit = omega (arith, h.limits.room.normals, h.limits.vertices)

    pub indices_fit : s.indices ≤ length I
    indices_fit = omega (arith, h.limits.room.indices, h.limits.counted)

  -- a line before the faces: only the reader changes
  pub header : (r : Reader) (s' : State) → r ≡ reader_of s' → s'.sheet.table ≡ take (row_width * s.rows) T → s'.sheet.positions ≡ take (3 * s.vertices) P
      → s'.sheet.normals ≡ take (3 * s.vertices) N → s'.sheet.indices ≡ take s.indices I → s'.sheet.materials ≡ take (s.limits.face + 1) M → lent r T P N I M ≡ over here s'
  header r s' e a b c d f =
      same_lent e (kept (row_width * s.rows) T ∙ ap (λ (xs : List ℕ). onto xs T) (sym a)) (kept (3 * s.vertices) P ∙ ap (λ (xs : List ℕ). onto xs P) (sym b))
      (kept (3 * s.vertices) N ∙ ap (λ (xs : List ℕ). onto xs N) (sym c)) (kept s.indices I ∙ ap (λ (xs : List ℕ). onto xs I) (sym d))
      (kept (s.limits.face + 1) M ∙ ap (λ (xs : List ℕ). onto xs M) (sym f))

  -- the state as it is, in its slices
  pub over_same : Held s T P N I M → here ≡ over here (state_of here)
  over_same h = header s (state_of here) (same_reader s s.refusal s.refusal s.place s.place s.rows _ s.vertices _ s.indices _ s.default s.default s.sag refl refl
      (same_rows h) (same_vertices h) (same_indices h) refl) refl refl refl refl refl
