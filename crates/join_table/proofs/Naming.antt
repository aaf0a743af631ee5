-- Laws of names and their digests. Assumes nothing.
use mathlib.Core.Path.{◌≡◌, sym, ap, subst, ◌∙◌}
use mathlib.Core.Bool.{Bool, true, false}
use mathlib.Core.List.{List}
use Prim.Native.Nat.{ℕ, ◌*◌, ◌/◌, ◌%◌, ◌^◌, ◌<◌}
use native.Mathlib.Nat.{div-lt_iff_lt-mul, mul_comm, mul-lt-mul_of_pos_right}
use native.Mathlib.Omega.{arith}
use lib.ListN.{length, get_or, take}
use lib.Seq.{get_or-take}
use lib.Bits.{bit_xor}
use lib.Pow.{pow_pos}
use lib.Dec.{eqb}
use lib.Ieee.{Float}
use borrow.Author.Tests.{eq-eqb, ne_eqb}
use mir.Syntax.{w64}
use mir.Val.{Fits}
use Rattle.point_rules.specs.Bits.{bits_by}
use Rattle.point_rules.specs.Rule.{names, Both}
use Rattle.point_rules.specs.Names.{names_within}
use Rattle.point_rules.specs.Halves.{halves_below}
use Rattle.join_table.specs.declared.Source.{Source}
use Rattle.join_table.specs.declared.Source.TheVariants.{Words, Bits, Zeros}
use Rattle.join_table.specs.Naming.{names_of}
use Rattle.join_table.specs.Table.{bucket_of, Sized, Bucket, Compared}

-- ---- `bucket`
pub share_fits : {h n : ℕ} → Sized n → h < 2 ^ 32 → Fits w64 (h * n)
share_fits s l = record { fits = halves_below l s.few }

-- the chain is one of n
share_low : {h n : ℕ} → 0 < n → h < 2 ^ 32 → h * n / 2 ^ 32 < n
share_low {h} {n} s l = (div-lt_iff_lt-mul (pow_pos 32)).1 (subst (λ (x : ℕ). h * n < x) (mul_comm (2 ^ 32) n) (mul-lt-mul_of_pos_right l s))

-- the chain that the code finds is the one meant
pub bucket_is : (n d : ℕ) {p q : ℕ} → Sized n → p ≡ d * 11400714819323198485 % 2 ^ 64 → q ≡ bit_xor p (p / 2 ^ 32) * 15485907386658061715 % 2 ^ 64
    → Bucket n d (q / 2 ^ 32 * n / 2 ^ 32)
unfolding bucket_of
bucket_is n d {p} {q} s ep eq =
    record {
      low = share_low s.some (omega (arith, eq));
      is = ap (λ (x : ℕ). x / 2 ^ 32 * n / 2 ^ 32) (eq ∙ ap (λ (x : ℕ). bit_xor x (x / 2 ^ 32) * 15485907386658061715 % 2 ^ 64) ep);
    }

-- ---- `same_name`
module _ (W : List ℕ) (n k i : ℕ) where
  -- names with different digests differ
  pub digests_differ : (ns : List ℕ) → Compared ns n k i W → (get_or W k 0 ≡ get_or W i 0 → ⊥) → false ≡ eqb (get_or ns k 0) (get_or ns i 0)
  digests_differ ns c d =
      sym (ne_eqb _ _ (λ e. d (sym (get_or-take n W k 0 c.low) ∙ c.named.agree k i c.low c.low₂ e ∙ get_or-take n W i 0 c.low₂)))

  module _ (s : Source) (ps : List Float) (c : Compared (names_of s ps (take n W)) n k i W) where
    -- words that are the names
    pub words_decide : s ≡ Words → get_or W k 0 ≡ get_or W i 0 → true ≡ eqb (get_or (names_of s ps (take n W)) k 0) (get_or (names_of s ps (take n W)) i 0)
    unfolding names_of
    words_decide q e =
        subst (λ (t : Source). true ≡ eqb (get_or (names_of t ps (take n W)) k 0) (get_or (names_of t ps (take n W)) i 0)) (sym q)
        (sym (eq-eqb _ _ (get_or-take n W k 0 c.low ∙ e ∙ sym (get_or-take n W i 0 c.low₂))))

    -- the vertices are among the positions
    both : (joined : Bool) {j l : ℕ} → names_of s ps (take n W) ≡ names (bits_by joined) ps → j < n → l < n → Both j l ps
    both joined {j} {l} q lj ll =
        let e : length (names (bits_by joined) ps) ≡ n = ap length (sym q) ∙ c.named.long in
        record { low = names_within (bits_by joined) ps j (omega arith); low₂ = names_within (bits_by joined) ps l (omega arith) }

    -- by bits, the zeros apart
    bits_names : s ≡ Bits → names_of s ps (take n W) ≡ names (bits_by false) ps
    unfolding names_of bits_by
    bits_names q = ap (λ (t : Source). names_of t ps (take n W)) q

    pub bits_both : {j l : ℕ} → s ≡ Bits → j < n → l < n → Both j l ps
    bits_both q = both false (bits_names q)

    pub bits_decide : {r : Bool} → s ≡ Bits → r ≡ eqb (get_or (names (bits_by false) ps) k 0) (get_or (names (bits_by false) ps) i 0)
        → r ≡ eqb (get_or (names_of s ps (take n W)) k 0) (get_or (names_of s ps (take n W)) i 0)
    bits_decide q e = e ∙ ap (λ (ns : List ℕ). eqb (get_or ns k 0) (get_or ns i 0)) (sym (bits_names q))

    -- with the zeros as one
    zeros_names : s ≡ Zeros → names_of s ps (take n W) ≡ names (bits_by true) ps
    unfolding names_of bits_by
    zeros_names q = ap (λ (t : Source). names_of t ps (take n W)) q

    pub zeros_both : {j l : ℕ} → s ≡ Zeros → j < n → l < n → Both j l ps
    zeros_both q = both true (zeros_names q)

    pub zeros_decide : {r : Bool} → s ≡ Zeros → r ≡ eqb (get_or (names (bits_by true) ps) k 0) (get_or (names (bits_by true) ps) i 0)
        → r ≡ eqb (get_or (names_of s ps (take n W)) k 0) (get_or (names_of s ps (take n W)) i 0)
    zeros_decide q e = e ∙ ap (λ (ns : List ℕ). eqb (get_or ns k 0) (get_or ns i 0)) (sym (zeros_names q))
