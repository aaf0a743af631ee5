-- Bytes written one behind the other: a word, a corner, a triangle. Assumes nothing.
use mathlib.Core.Path.{◌≡◌, refl, sym, subst}
use mathlib.Core.List.{List, [], ◌∷◌, ◌++◌, flat_map}
use Prim.Native.Nat.{ℕ, ◌+◌, ◌/◌, ◌%◌, ◌≤◌}
use native.Mathlib.Omega.{arith}
use lib.ListN.{length, set, replicate}
use lib.Ieee.{Float}
use Rattle.lists.specs.Sets.{four_stored, sets_append}
use Rattle.float_steps.specs.Floats.{bits32}
use Rattle.point_rules.specs.Points.{little_endian}
use Rattle.slice_append.specs.Appended.{Appended, appended_then, appended_sets}
use Rattle.stl_definition.specs.Bytes.{word, floats_bytes}
use Rattle.stl_definition.specs.File.{corners, facet, last_bytes, point_in}

-- four bytes are a word
pub word_put : (out : List ℕ) (o w : ℕ) → o + 4 ≤ length out
    → Appended o (word w) out (set (set (set (set out o (w % 256)) (o + 1) (w / 256 % 256)) (o + 2) (w / 256 / 256 % 256)) (o + 3) (w / 256 / 256 / 256 % 256))
unfolding little_endian
word_put out o w h = appended_sets (omega arith) (four_stored out o (w % 256) (w / 256 % 256) (w / 256 / 256 % 256) (w / 256 / 256 / 256 % 256))

-- two bytes are those behind a triangle
pub last_put : (out : List ℕ) (o : ℕ) → o + 2 ≤ length out → Appended o (replicate last_bytes 0) out (set (set out o 0) (o + 1) 0)
last_put out o h = appended_sets (omega arith) (sym (sets_append out o (0 ∷ []) (0 ∷ [])))

-- three words
pub words_put : {o : ℕ} (a b c : ℕ) {E A B W : List ℕ} → Appended o (word a) E A → Appended (o + 4) (word b) A B → Appended (o + 8) (word c) B W → Appended o (word a ++ word b ++ word c) E W
unfolding little_endian
words_put a b c p q r = appended_then (appended_then p refl q) refl r

-- the words of three floats are a corner
pub corner_put : {o : ℕ} (x y z : Float) {a b c : ℕ} {E W : List ℕ} → a ≡ bits32 x → b ≡ bits32 y → c ≡ bits32 z → Appended o (word a ++ word b ++ word c) E W
    → Appended o (floats_bytes (x ∷ y ∷ z ∷ [])) E W
unfolding floats_bytes flat_map little_endian
corner_put {o} x y z {E = E} {W = W} e f g p = subst (λ (l : List ℕ). Appended o l E W) (λ i. word (e i) ++ word (f i) ++ word (g i)) p

-- three words of zero, three corners and two bytes are a triangle
pub facet_put : {o : ℕ} (ps : List Float) (a b c : ℕ) {E A B C D W : List ℕ} → Appended o (word 0 ++ word 0 ++ word 0) E A → Appended (o + 12) (floats_bytes (point_in 3 ps a)) A B
    → Appended (o + 24) (floats_bytes (point_in 3 ps b)) B C → Appended (o + 36) (floats_bytes (point_in 3 ps c)) C D → Appended (o + 48) (replicate last_bytes 0) D W
    → Appended o (facet (corners 3 ps (record { a = a; b = b; c = c }))) E W
unfolding facet floats_bytes flat_map little_endian
facet_put ps a b c p q r s t = appended_then (appended_then (appended_then (appended_then p refl q) refl r) refl s) refl t
