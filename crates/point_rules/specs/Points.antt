-- Cell and key of a point, and the joining rules: `key` for turning and stitching, `bits` for the counts over the mesh, `zeros` for closed. Assumes nothing.
use Rattle.std.specs.Prelude.{Bool, true, false, cond, List, [], ◌∷◌, ◌++◌, ℕ, zero, suc, ◌+◌, ◌-◌, ◌*◌, ◌/◌, ◌%◌, ◌^◌, min, ℤ, pos, negsuc, neg_ℤ, leb, eqb, Float}
use Rattle.std.specs.Int.Bits.{bit_xor}
use Rattle.std.specs.Float.{nan, inf, fin}
use Rattle.std.specs.Float.Ieee.{up, down}
use Rattle.float_round.specs.Integral.{half_up}
use Rattle.float_steps.specs.Floats.{bits32}
use Rattle.point_rules.specs.Rule.{Rule}

-- a magnitude with its sign (true is minus), clamped to signed 64 bits
abbrev pub clamped : Bool → ℕ → ℤ
clamped true n = neg_ℤ (pos (min n (2 ^ 63)))
clamped false n = pos (min n (2 ^ 63 - 1))

-- The cell of v is the whole number nearest 1,000,000 × v, halves away from zero, clamped to signed 64 bits; of a NaN it is 0, as in the Rust.
unfoldable pub cell : Float → ℤ
cell nan = pos 0
cell (inf s) = clamped s (2 ^ 63)
cell (fin s m e) = clamped s (half_up (1_000_000 * m * up e) (down e))

-- How far the whole number nearest factor × v is from zero, halves away from zero: of a NaN 0; an infinity counts as 2^128, which no finite f32 reaches.
unfoldable pub nearest_size : ℕ → Float → ℕ
nearest_size factor nan = 0
nearest_size factor (inf s) = factor * 2 ^ 128
nearest_size factor (fin s m e) = half_up (factor * m * up e) (down e)

-- a magnitude with its sign (true is minus)
abbrev pub signed : Bool → ℕ → ℤ
signed true n = neg_ℤ (pos n)
signed false n = pos n

-- the whole number nearest factor × v
unfoldable pub nearest : ℕ → Float → ℤ
nearest factor nan = pos 0
nearest factor (inf s) = signed s (nearest_size factor (inf s))
nearest factor (fin s m e) = signed s (nearest_size factor (fin s m e))

-- whether a whole number is outside signed 64 bits
abbrev pub outside64 : ℤ → Bool
outside64 (pos n) = leb (2 ^ 63) n
outside64 (negsuc n) = leb (2 ^ 63) n

-- Request N6: the cell of v is clamped exactly if the whole number nearest 1,000,000 × v is outside signed 64 bits; an infinity's is, a NaN's, 0, isn't.
unfoldable pub clamps : Float → Bool
clamps v = outside64 (nearest 1_000_000 v)

-- how far the cell of v is from zero before the sign decides the clamp: at most 2^63
abbrev pub cell_size : Float → ℕ
cell_size v = min (nearest_size 1_000_000 v) (2 ^ 63)

-- whether two whole numbers are the same
abbrev pub sameℤ : ℤ → ℤ → Bool
sameℤ (pos m) (pos n) = eqb m n
sameℤ (pos m) (negsuc n) = false
sameℤ (negsuc m) (pos n) = false
sameℤ (negsuc m) (negsuc n) = eqb m n

-- the 64 bits of a signed number
abbrev pub pattern : ℤ → ℕ
pattern (pos n) = n
pattern (negsuc n) = 2 ^ 64 - suc n

-- the k little-endian bytes of n
unfoldable pub little_endian : ℕ → ℕ → List ℕ
little_endian zero n = []
little_endian (suc k) n = n % 256 ∷ little_endian k (n / 256)

-- exclusive-or with a byte, then multiply by 1,099,511,628,211, keeping the low 64 bits
unfoldable pub key_step : ℕ → ℕ → ℕ
key_step h b = (h / 256 * 256 + bit_xor (h % 256) b) * 1_099_511_628_211 % 2 ^ 64

-- that for each of some bytes, in order
unfoldable pub key_steps : ℕ → List ℕ → ℕ
key_steps h [] = h
key_steps h (b ∷ bs) = key_steps (key_step h b) bs

-- A key starts from 1469598103934665603 and takes each of the 24 little-endian bytes of the three cells.
unfoldable pub key : Rule
key x y z =
    key_steps 1469598103934665603 (little_endian 8 (pattern (cell x)) ++ little_endian 8 (pattern (cell y)) ++ little_endian 8 (pattern (cell z)))

-- Points are the same exactly if their bits agree: the three f32 bit patterns as one number.
unfoldable pub bits : Rule
bits x y z = (bits32 x * 2 ^ 32 + bits32 y) * 2 ^ 32 + bits32 z

-- the bits of a coordinate, −0.0 having those of 0.0
abbrev pub zero_joined : ℕ → ℕ
zero_joined b = cond (eqb b (2 ^ 31)) 0 b

-- For closed, the two zeros are one point: the rule by bits, with −0.0 as 0.0 on each axis.
unfoldable pub zeros : Rule
zeros x y z = (zero_joined (bits32 x) * 2 ^ 32 + zero_joined (bits32 y)) * 2 ^ 32 + zero_joined (bits32 z)
