-- The laws of order and limits, kind by kind, and of the refusal of a line. Assumes nothing.
use mathlib.Core.Bool.{Bool, true, false, not, ◌||◌, cond}
use mathlib.Core.List.{List}
use mathlib.Core.Logic.{◌⊎◌, inl, inr}
use mathlib.Core.Path.{◌≡◌, refl, sym, ◌∙◌, ap, subst}
use Prim.Native.Nat.{ℕ, ◌+◌, ◌*◌, ◌<◌}
use native.Mathlib.Nat.{mul-le-mul_left, mul-lt-mul_of_pos_left}
use native.Mathlib.Omega.{arith}
use borrow.Author.Tests.{le-leb, lt-leb, leb-true, leb-false, not-true, not-false}
use lib.Dec.{leb, ltb, eqb}
use lib.ListN.{get_or, length, take}
use lib.Seq.{get_or-take}
use Rattle.body_rows.specs.Body.{row_width, first_failing}
use Rattle.sheet_lines.specs.Counted.{count_in}
use Rattle.sheet_lines.specs.Forms.{form, numbers}
use Rattle.sheet_lines.specs.declared.Kind.{Kind}
use Rattle.sheet_lines.specs.declared.Kind.TheVariants.{Box, Sag, NoDefault, Default, Material, Face, FaceBin, Vertex, Triangle, Fail, FailBin}
use Rattle.sheet_line_order.specs.declared.Limits.{Limits}
use Rattle.sheet_line_order.specs.Reading.{Patterns, State, fails_with_zero, in_order, line_refusal, passes_limit}
use Rattle.sheet_line_order.specs.Refusals.{Limit, LineRefusal}

-- ---- a fail line with number 0

-- What holds of a kind holds of the kind that equals it.
fails_as : (j : Kind) (N : List ℕ) (b : Bool) (k : Kind) → k ≡ j → b ≡ fails_with_zero j (take (count_in (form j)) N) → b ≡ fails_with_zero k (take (count_in (form k)) N)
fails_as j N b k e q = subst (λ (i : Kind). b ≡ fails_with_zero i (take (count_in (form i)) N)) (sym e) q

fails_fail : (N : List ℕ) → eqb (get_or N 2 0) 0 ≡ fails_with_zero Fail (take (count_in (form Fail)) N)
unfolding fails_with_zero form numbers count_in
fails_fail N = ap (λ (n : ℕ). eqb n 0) (sym (get_or-take 3 N 2 0 (omega arith)))

-- the same with a bin
fails_bin : (N : List ℕ) → eqb (get_or N 2 0) 0 ≡ fails_with_zero FailBin (take (count_in (form FailBin)) N)
unfolding fails_with_zero form numbers count_in
fails_bin N = ap (λ (n : ℕ). eqb n 0) (sym (get_or-take 4 N 2 0 (omega arith)))

pub fails_either : (k : Kind) (N : List ℕ) → (k ≡ Fail) ⊎ (k ≡ FailBin) → eqb (get_or N 2 0) 0 ≡ fails_with_zero k (take (count_in (form k)) N)
fails_either k N (inl e) = fails_as Fail N _ k e (fails_fail N)
fails_either k N (inr e) = fails_as FailBin N _ k e (fails_bin N)

pub fails_no : (k : Kind) (ns : List ℕ) → (k ≡ Fail → ⊥) → (k ≡ FailBin → ⊥) → false ≡ fails_with_zero k ns
unfolding fails_with_zero
fails_no Fail ns f b = absurd (f refl)
fails_no FailBin ns f b = absurd (b refl)
fails_no Box ns f b = refl
fails_no Sag ns f b = refl
fails_no NoDefault ns f b = refl
fails_no Default ns f b = refl
fails_no Material ns f b = refl
fails_no Face ns f b = refl
fails_no FaceBin ns f b = refl
fails_no Vertex ns f b = refl
fails_no Triangle ns f b = refl

-- ---- limits

-- a test of so many times as much
times : (c m n : ℕ) → 0 < c → leb m n ≡ leb (c * m) (c * n)
times c m n p = go (leb m n) refl
  where
    go : (b : Bool) → leb m n ≡ b → b ≡ leb (c * m) (c * n)
    go true q = sym (le-leb (c * m) (c * n) (mul-le-mul_left c (leb-true m n q)))
    go false q = sym (lt-leb (c * m) (c * n) (mul-lt-mul_of_pos_left (leb-false m n q) p))

module _ (limits : Limits) (rows vertices indices : ℕ) (k : Kind) (N : List ℕ) where
  limit_as : (j : Kind) (b : Bool) → k ≡ j → Limit limits rows vertices indices j (take (count_in (form j)) N) b → Limit limits rows vertices indices k (take (count_in (form k)) N) b
  limit_as j b e v = subst (λ (i : Kind). Limit limits rows vertices indices i (take (count_in (form i)) N) b) (sym e) v

  -- a kind that has no limit
  limit_none : (j : Kind) → ((ns : List ℕ) (x : Patterns) → false ≡ passes_limit limits j ns x) → k ≡ j → Limit limits rows vertices indices k (take (count_in (form k)) N) false
  limit_none j n e = limit_as j false e (record { is = λ x c. n (take (count_in (form j)) N) x })

  pub limit_free : (k ≡ Box) ⊎ ((k ≡ Sag) ⊎ ((k ≡ NoDefault) ⊎ (k ≡ Default))) → Limit limits rows vertices indices k (take (count_in (form k)) N) false
  unfolding passes_limit
  limit_free (inl e) = limit_none Box (λ ns x. refl) e
  limit_free (inr (inl e)) = limit_none Sag (λ ns x. refl) e
  limit_free (inr (inr (inl e))) = limit_none NoDefault (λ ns x. refl) e
  limit_free (inr (inr (inr e))) = limit_none Default (λ ns x. refl) e

  pub limit_material : k ≡ Material → Limit limits rows vertices indices k (take (count_in (form k)) N) (ltb limits.face (get_or N 0 0))
  unfolding passes_limit form numbers count_in
  limit_material e = limit_as Material (ltb limits.face (get_or N 0 0)) e (record { is = λ x c. ap (ltb limits.face) (sym (get_or-take 2 N 0 0 (omega arith))) })

  -- a kind that opens a row
  limit_row : (j : Kind) → 1 < count_in (form j) → ((ns : List ℕ) (x : Patterns) → passes_limit limits j ns x ≡ ltb limits.face (get_or ns 1 0) || leb (row_width * limits.rows) (length x.table))
      → (b : Bool) → k ≡ j → b ≡ ltb limits.face (get_or N 1 0) || leb limits.rows rows → Limit limits rows vertices indices k (take (count_in (form k)) N) b
  limit_row j l is b e q =
      let ns : List ℕ = take (count_in (form j)) N in
      limit_as j b e
      (record {
        is = λ x c.
            q ∙ ap (λ (n : ℕ). ltb limits.face n || leb limits.rows rows) (sym (get_or-take (count_in (form j)) N 1 0 l))
            ∙ ap (λ (t : Bool). ltb limits.face (get_or ns 1 0) || t) (times row_width limits.rows rows (omega arith) ∙ ap (leb (row_width * limits.rows)) (sym c.table))
            ∙ sym (is ns x);
      })

  pub limit_opens : (b : Bool) → (k ≡ Face) ⊎ ((k ≡ FaceBin) ⊎ ((k ≡ Fail) ⊎ (k ≡ FailBin))) → b ≡ ltb limits.face (get_or N 1 0) || leb limits.rows rows
      → Limit limits rows vertices indices k (take (count_in (form k)) N) b
  unfolding passes_limit form numbers count_in
  limit_opens b (inl e) q = limit_row Face (omega arith) (λ ns x. refl) b e q
  limit_opens b (inr (inl e)) q = limit_row FaceBin (omega arith) (λ ns x. refl) b e q
  limit_opens b (inr (inr (inl e))) q = limit_row Fail (omega arith) (λ ns x. refl) b e q
  limit_opens b (inr (inr (inr e))) q = limit_row FailBin (omega arith) (λ ns x. refl) b e q

  pub limit_vertex : k ≡ Vertex → Limit limits rows vertices indices k (take (count_in (form k)) N) (leb limits.vertices vertices)
  unfolding passes_limit
  limit_vertex e = limit_as Vertex (leb limits.vertices vertices) e (record { is = λ x c. times 3 limits.vertices vertices (omega arith) ∙ ap (leb (3 * limits.vertices)) (sym c.positions) })

  pub limit_triangle : (b : Bool) → k ≡ Triangle → b ≡ ltb limits.indices (indices + 3) → Limit limits rows vertices indices k (take (count_in (form k)) N) b
  unfolding passes_limit
  limit_triangle b e q = limit_as Triangle b e (record { is = λ x c. q ∙ ap (λ (n : ℕ). ltb limits.indices (n + 3)) (sym c.indices) })

-- ---- the refusal

-- the refusal by its three tests
of_tests : Bool → Bool → Bool → ℕ
of_tests order zero limit = cond (not order || zero) 51 (cond limit 52 0)

refusal_is : (s : State) (k : Kind) (ns : List ℕ) (a b c : Bool) → a ≡ in_order s.place k → b ≡ fails_with_zero k ns → c ≡ passes_limit s.limits k ns s.sheet
    → line_refusal (record { kind = k; numbers = ns }) s ≡ of_tests a b c
unfolding line_refusal first_failing of_tests
refusal_is s k ns a b c p q r =
    ap (λ (x : Bool). of_tests x (fails_with_zero k ns) (passes_limit s.limits k ns s.sheet)) (sym p)
    ∙ ap (λ (x : Bool). of_tests a x (passes_limit s.limits k ns s.sheet)) (sym q)
    ∙ ap (λ (x : Bool). of_tests a b x) (sym r)

module _ (limits : Limits) (place rows vertices indices : ℕ) (k : Kind) (ns : List ℕ) (a : Bool) (p : a ≡ in_order place k) where
  pub refused_order : not a ≡ true → LineRefusal limits place rows vertices indices k ns 51
  unfolding of_tests
  refused_order e =
      record {
        is = λ n x c.
            let y : State = record { limits = limits; refusal = n; place = place; sheet = x } in
            sym (refusal_is y k ns a (fails_with_zero k ns) (passes_limit limits k ns x) p refl refl ∙ ap (λ (b : Bool). of_tests b (fails_with_zero k ns) (passes_limit limits k ns x)) (not-true a e));
      }

  module _ (o : not a ≡ false) (b : Bool) (q : b ≡ fails_with_zero k ns) where
    tests : (n : ℕ) (x : Patterns) (c : Bool) → c ≡ passes_limit limits k ns x
        → line_refusal (record { kind = k; numbers = ns }) (record { limits = limits; refusal = n; place = place; sheet = x }) ≡ of_tests true b c
    tests n x c r =
        let y : State = record { limits = limits; refusal = n; place = place; sheet = x } in
        refusal_is y k ns a b c p q r ∙ ap (λ (z : Bool). of_tests z b c) (not-false a o)

    pub refused_zero : b ≡ true → LineRefusal limits place rows vertices indices k ns 51
    unfolding of_tests
    refused_zero e = record { is = λ n x c. sym (tests n x (passes_limit limits k ns x) refl ∙ ap (λ (z : Bool). of_tests true z (passes_limit limits k ns x)) e) }

    module _ (z : b ≡ false) (c : Bool) (v : Limit limits rows vertices indices k ns c) where
      pub refused_limit : c ≡ true → LineRefusal limits place rows vertices indices k ns 52
      unfolding of_tests
      refused_limit e = record { is = λ n x h. sym (tests n x c (v.is x h) ∙ ap (λ (y : Bool). of_tests true y c) z ∙ ap (λ (y : Bool). of_tests true false y) e) }

      pub not_refused : c ≡ false → LineRefusal limits place rows vertices indices k ns 0
      unfolding of_tests
      not_refused e = record { is = λ n x h. sym (tests n x c (v.is x h) ∙ ap (λ (y : Bool). of_tests true y c) z ∙ ap (λ (y : Bool). of_tests true false y) e) }
