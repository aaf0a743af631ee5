-- Corners looked at and written, triangle by triangle. Assumes nothing.
use mathlib.Core.Path.{◌≡◌, refl, sym, ap, ◌∙◌}
use mathlib.Core.Bool.{Bool, true, false, not, ◌||◌}
use mathlib.Core.List.{List, ◌++◌}
use Prim.Native.Nat.{ℕ, ◌+◌, ◌*◌, ◌≤◌, ◌<◌}
use native.Mathlib.Omega.{arith}
use lib.Ieee.{Float}
use lib.ListN.{drop, length, length-drop, set}
use Rattle.lists.specs.Lists.{any}
use Rattle.lists.specs.Any.{any_append}
use Rattle.lists.specs.Sets.{three_stored}
use Rattle.float_steps.specs.Floats.{f32, finite}
use Rattle.body_patch_checks.specs.PatchTests.{not_finite}
use Rattle.slice_append.specs.Appended.{Appended, appended_sets, appended_then}
use Rattle.stl_definition.specs.File.{facet_bytes, head_bytes, normal_bytes}
use Rattle.stl_definition.specs.FileLaws.{facets_nine}
use Rattle.stl_definition.specs.FrontLaws.{Front, front_none, front_more, front_all}
use Rattle.stl_definition.specs.Read.{facet_corners}
use Rattle.stl_definition.specs.StepLaws.{corners_at, corners_next, point_at, word_at, word_at_lem}
use Rattle.stl_read.specs.Ready.{ByteAt, CornersReady, Holds}

-- ---- words

-- four bytes make a word
pub word_is : (file : List ℕ) (p : ℕ) {a b c d : ℕ} → p + 4 ≤ length file → ByteAt file p a → ByteAt file (p + 1) b → ByteAt file (p + 2) c → ByteAt file (p + 3) d
    → a + 256 * (b + 256 * (c + 256 * d)) ≡ word_at file p
word_is file p h a b c d =
    (λ i. a.value i + 256 * (b.value i + 256 * (c.value i + 256 * d.value i))) ∙ sym (word_at_lem file p h)

-- ---- a look at every corner

-- of one number
pub not_finite_is : (w : ℕ) {x : Float} {b : Bool} → x ≡ f32 w → b ≡ finite x → not b ≡ not_finite (f32 w)
not_finite_is w e f = ap not (f ∙ ap finite e)

-- a test of three
three_any : (x y z : Bool) → elim x [ true ↦ true | false ↦ elim y [ true ↦ true | false ↦ elim z [ true ↦ true | false ↦ false ] ] ] ≡ (x || y || z)
three_any true true true = refl
three_any true true false = refl
three_any true false true = refl
three_any true false false = refl
three_any false true true = refl
three_any false true false = refl
three_any false false true = refl
three_any false false false = refl

-- of a corner's coordinates
pub point_any : (file : List ℕ) (p : ℕ) {u v w : ℕ} {x y z : Bool} → u ≡ word_at file p → v ≡ word_at file (p + 4) → w ≡ word_at file (p + 8) → x ≡ not_finite (f32 u) → y ≡ not_finite (f32 v)
    → z ≡ not_finite (f32 w) → (x || y || z) ≡ any not_finite (point_at file p)
unfolding any
point_any file p a b c e f g =
    let at : ℕ → Bool = λ n. not_finite (f32 n) in
    (λ i. (e ∙ ap at a) i || (f ∙ ap at b) i || (g ∙ ap at c) i)
    ∙ sym (three_any (at (word_at file p)) (at (word_at file (p + 4))) (at (word_at file (p + 8))))

-- of a triangle's corners
pub facet_any : (file : List ℕ) (p : ℕ) {x y z : Bool} → x ≡ any not_finite (point_at file p) → y ≡ any not_finite (point_at file (p + 12)) → z ≡ any not_finite (point_at file (p + 24))
    → (x || y || z) ≡ any not_finite (corners_at file p)
facet_any file p {x} {y} {z} e f g =
    let a = point_at file p in
    let b = point_at file (p + 12) in
    let c = point_at file (p + 24) in
    (λ i. e i || f i || g i)
    ∙ ap (λ (t : Bool). t || any not_finite c) (sym (any_append not_finite a b))
    ∙ sym (any_append not_finite (a ++ b) c)

-- the corners of the first t triangles were looked at
pub record Looked (file : List ℕ) (n t : ℕ) (found : Bool) : Type 0 where
  pub low : t ≤ n
  pub is : found ≡ any not_finite (facet_corners t (drop head_bytes file))

-- none was yet
pub looked_none : (file : List ℕ) (n : ℕ) → Looked file n 0 false
unfolding any facet_corners
looked_none file n = record { low = omega arith; is = refl }

-- one more was
pub looked_more : {file : List ℕ} {n t : ℕ} {found b : Bool} → Holds file n → Looked file n t found → t < n
    → b ≡ any not_finite (corners_at file (head_bytes + facet_bytes * t + normal_bytes)) → Looked file n (t + 1) (found || b)
looked_more {file} {n} {t} h v l e =
    let xs = facet_corners t (drop head_bytes file) in
    let ys = corners_at file (head_bytes + facet_bytes * t + normal_bytes) in
    record {
      low = omega arith;
      is = (λ i. v.is i || e i) ∙ sym (any_append not_finite xs ys) ∙ ap (any not_finite) (sym (corners_next file t (omega (arith, h.long))));
    }

-- all were
pub looked_all : {file : List ℕ} {n t : ℕ} {found : Bool} → Looked file n t found → n ≤ t → found ≡ any not_finite (facet_corners n (drop head_bytes file))
looked_all {file} {n} {t} v h = v.is ∙ ap (λ (k : ℕ). any not_finite (facet_corners k (drop head_bytes file))) (let e : t ≡ n = omega (arith, v.low) in e)

-- ---- corners written

-- three floats are a corner
pub point_put : (file : List ℕ) (p : ℕ) {E : List Float} {o u v w : ℕ} {x y z : Float} → o + 3 ≤ length E → u ≡ word_at file p → v ≡ word_at file (p + 4) → w ≡ word_at file (p + 8)
    → x ≡ f32 u → y ≡ f32 v → z ≡ f32 w → Appended o (point_at file p) E (set (set (set E o x) (o + 1) y) (o + 2) z)
point_put file p {E} {o} h a b c e f g =
    appended_sets (omega arith)
    ((λ i. set (set (set E o ((e ∙ ap f32 a) i)) (o + 1) ((f ∙ ap f32 b) i)) (o + 2) ((g ∙ ap f32 c) i))
    ∙ three_stored E o (f32 (word_at file p)) (f32 (word_at file (p + 4))) (f32 (word_at file (p + 8))))

-- three corners are a triangle's
pub facet_put : (file : List ℕ) (p : ℕ) {o : ℕ} {E A B W : List Float} → Appended o (point_at file p) E A → Appended (o + 3) (point_at file (p + 12)) A B
    → Appended (o + 6) (point_at file (p + 24)) B W → Appended o (corners_at file p) E W
facet_put file p a b c = appended_then (appended_then a refl b) refl c

-- the corners of t triangles are written: E became W
abbrev pub Putting : List ℕ → ℕ → ℕ → List Float → List Float → Type 0
Putting file n t E W = Front 0 (λ k. facet_corners k (drop head_bytes file)) n t E W

pub putting_none : {file : List ℕ} {n : ℕ} {E : List Float} → CornersReady file n E → Putting file n 0 E E
unfolding facet_corners
putting_none {file} {n} {E} r = front_none 0 (λ k. facet_corners k (drop head_bytes file)) n E refl

pub putting_more : {file : List ℕ} {n t : ℕ} {E W W' : List Float} → CornersReady file n E → Putting file n t E W → t < n
    → Appended (9 * t) (corners_at file (head_bytes + facet_bytes * t + normal_bytes)) W W' → Putting file n (t + 1) E W'
putting_more {file} {n} {t} {E} r q h a =
    front_more q h (corners_next file t (omega (arith, r.holds.long)))
    (omega (arith, facets_nine t (drop head_bytes file) (omega (arith, r.holds.long, length-drop head_bytes file)))) (omega (arith, r.room)) a

pub putting_all : (file : List ℕ) {n t : ℕ} {E W : List Float} → Putting file n t E W → n ≤ t → Appended 0 (facet_corners n (drop head_bytes file)) E W
putting_all file q h = front_all q h
