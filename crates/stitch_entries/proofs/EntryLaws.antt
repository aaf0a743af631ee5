-- A pair compared with an entry in the work area, and the entry made of it. Assumes nothing.
use mathlib.Core.Path.{◌≡◌, sym, ap, ◌∙◌}
use mathlib.Core.Bool.{Bool, false}
use mathlib.Core.List.{List}
use Prim.Native.Nat.{ℕ, suc, ◌+◌, ◌-◌, ◌*◌, ◌/◌, ◌%◌, ◌<◌}
use native.Mathlib.Omega.{arith}
use lib.ListN.{get_or}
use lib.Ieee.{Float, lt}
use borrow.Author.Tests.{eq-eqb, ne_eqb}
use Rattle.float_steps.specs.Floats.{f64, absolute}
use Rattle.patch_geometry.specs.Geometry.{sub}
use Rattle.slice_pairs.specs.Pairs.{pair_of}
use Rattle.stitch_splits.specs.Splits.{near_last}
use Rattle.stitch_splits.specs.Entries.{Entry, entry_of, entry_at, close_to}
use Rattle.stitch_pairs.specs.FoundPairs.{entry_of_pair}
use Rattle.stitch_entries.specs.PairEntries.{entry_of_words, pair_entry_at, close_keys, close_to_last}

-- ---- whether a pair is close to an entry

-- ---- whether two pairs are close

-- ---- the last kept

-- none is kept
pub last_none : (W : List ℕ) (at ts kept : ℕ) (y : Entry) → kept ≡ 0 → false ≡ close_to_last W at ts kept y
unfolding close_to_last
last_none W at ts kept y e = ap (λ (k : ℕ). close_to_last W at ts k y) (sym e)

-- the last kept is in front of place `kept`
pub last_is : (W : List ℕ) (at ts kept : ℕ) (y : Entry) {r : Bool} → (kept ≡ 0 → ⊥) → r ≡ close_to (entry_at W at ts (kept - 1)) y → r ≡ close_to_last W at ts kept y
unfolding close_to_last
last_is W at ts kept y n k =
    let e : suc (kept - 1) ≡ kept = omega arith in
    k ∙ ap (λ (i : ℕ). close_to_last W at ts i y) e

-- ---- the entry of a pair

-- an entry of its parts
make : ℕ → Float → ℕ → Entry
make e t g = record { e = e; t = t; vertex = g }

-- the entry of a number is that of its two words
pub words_pair : (x y : ℕ) → y < 18446744073709551616 → entry_of_pair (pair_of x y) ≡ entry_of_words x y
unfolding make
words_pair x y l =
    let h : (18446744073709551616 * x + y) / 18446744073709551616 ≡ x = omega arith in
    let v : (18446744073709551616 * x + y) % 262144 ≡ y % 262144 = omega arith in
    ap (λ (a : ℕ). make (a / 4611686018427387904) (f64 (a % 4611686018427387904)) (pair_of x y % 262144)) h ∙ ap (make (x / 4611686018427387904) (f64 (x % 4611686018427387904))) v

-- it is written as edge and vertex in one word and the parameter's bits in another
pub words_entry : (x y : ℕ) → entry_of (x / 4611686018427387904 * 262144 + y % 262144) (x % 4611686018427387904) ≡ entry_of_words x y
unfolding make
words_entry x y =
    let e : (x / 4611686018427387904 * 262144 + y % 262144) / 262144 ≡ x / 4611686018427387904 = omega arith in
    let v : (x / 4611686018427387904 * 262144 + y % 262144) % 262144 ≡ y % 262144 = omega arith in
    ap (λ (a : ℕ). make a (f64 (x % 4611686018427387904)) ((x / 4611686018427387904 * 262144 + y % 262144) % 262144)) e
    ∙ ap (make (x / 4611686018427387904) (f64 (x % 4611686018427387904))) v
