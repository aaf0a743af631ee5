-- Laws of the key's steps. Assumes nothing.
use Rattle.std.proofs.Common.{◌≡◌, ℕ, suc, ◌+◌, ◌-◌, ◌*◌, ◌/◌, ◌%◌, ◌^◌, ◌<◌, ◌≤◌, Bool, ◌||◌, List, [], ◌∷◌, ◌++◌, sym, refl, ap, ◌∙◌, mul_assoc, mul_comm, add-mul, add_comm, div-add-mod', zero-add, mul_left_comm, arith}
use native.Mathlib.Nat.{add-mul-mod_self_right}
use lib.Pow.{split}
use lib.Bits.{bit_xor, xor_block, xor_zero_r}
use lib.Ieee.{Float}
use Rattle.point_rules.specs.Points.{cell, pattern, key_step, key_steps, little_endian, key, clamps}
use Rattle.point_key.specs.Told.{key_told}
use Rattle.point_key.specs.declared.key.KeyAnswer.{KeyAnswer}

-- exclusive-or with a byte changes the lowest byte only
xor_byte : (h b : ℕ) → b < 256 → bit_xor h b ≡ h / 256 * 256 + bit_xor (h % 256) b
xor_byte h b l =
    ap (λ (x : ℕ). bit_xor x b) (sym (split h 8))
    ∙ ap (λ (x : ℕ). bit_xor (h / 256 * 256 + h % 256) x) (sym (zero-add b))
    ∙ xor_block 8 (h / 256) 0 (h % 256) b (omega arith) l
    ∙ ap (λ (x : ℕ). x * 256 + bit_xor (h % 256) b) (xor_zero_r (h / 256))

-- a step of the key
pub step_is : {r : ℕ} (h b : ℕ) → b < 256 → r ≡ bit_xor h b * 1099511628211 % 2 ^ 64 → r ≡ key_step h b
unfolding key_step
step_is h b l e = e ∙ ap (λ (x : ℕ). x * 1099511628211 % 2 ^ 64) (xor_byte h b l)

-- `key_bytes`, with i of its n bytes taken in
pub bytes_none : (h w n : ℕ) → key_steps h (little_endian (n - 0) w) ≡ key_steps h (little_endian n w)
bytes_none h w n = let e : n - 0 ≡ n = omega arith in ap (λ (k : ℕ). key_steps h (little_endian k w)) e

pub bytes_more : {g r : ℕ} (h w n i : ℕ) → i < n → key_steps h (little_endian (n - i) w) ≡ g → r ≡ key_step h (w % 256)
    → key_steps r (little_endian (n - (i + 1)) (w / 256)) ≡ g
unfolding key_steps little_endian
bytes_more {g} h w n i l e s =
    let next : n - i ≡ suc (n - (i + 1)) = omega arith in
    ap (λ (x : ℕ). key_steps x (little_endian (n - (i + 1)) (w / 256))) s ∙ ap (λ (k : ℕ). key_steps h (little_endian k w)) (sym next) ∙ e

-- with all of them
pub bytes_all : {g : ℕ} (h w n i : ℕ) → n ≤ i → key_steps h (little_endian (n - i) w) ≡ g → h ≡ g
unfolding key_steps little_endian
bytes_all h w n i l e = let none : 0 ≡ n - i = omega arith in ap (λ (k : ℕ). key_steps h (little_endian k w)) none ∙ e

-- a factor after the remainder or before it
mod_times : (a f m : ℕ) → a % m * f % m ≡ a * f % m
mod_times a f m =
    sym (add-mul-mod_self_right (a % m * f) (a / m * f) m) ∙ ap (λ (x : ℕ). x % m) (regroup ∙ ap (λ (x : ℕ). x * f) (div-add-mod' a m))
  where
    regroup : a % m * f + a / m * f * m ≡ (a / m * m + a % m) * f
    regroup = simp (add-mul, mul_assoc, mul_comm, mul_left_comm, add_comm) refl

-- a byte of 0 only multiplies
zero_step : (h : ℕ) → key_step h 0 ≡ h * 1099511628211 % 2 ^ 64
unfolding key_step
zero_step h =
    ap (λ (x : ℕ). (h / 256 * 256 + x) * 1099511628211 % 2 ^ 64) (xor_zero_r (h % 256)) ∙ ap (λ (x : ℕ). x * 1099511628211 % 2 ^ 64) (split h 8)

-- three of them multiply once
three_zeros : (h : ℕ) → key_step (key_step (key_step h 0) 0) 0 ≡ h * 624165263380053675 % 2 ^ 64
three_zeros h = again (key_step (key_step h 0) 0) (h * 1099511628211 * 1099511628211) (again (key_step h 0) (h * 1099511628211) (zero_step h)) ∙ cubed
  where
    again : (g x : ℕ) → g ≡ x % 2 ^ 64 → key_step g 0 ≡ x * 1099511628211 % 2 ^ 64
    again g x e = zero_step g ∙ ap (λ (y : ℕ). y * 1099511628211 % 2 ^ 64) e ∙ mod_times x 1099511628211 (2 ^ 64)

    cubed : h * 1099511628211 * 1099511628211 * 1099511628211 % 2 ^ 64 ≡ h * 624165263380053675 % 2 ^ 64
    cubed = omega arith

-- a word of five bytes: the three above them are 0
pub low_word : {r h : ℕ} (start word : ℕ) → word < 2 ^ 40 → h ≡ key_steps start (little_endian 5 word) → r ≡ h * 624165263380053675 % 2 ^ 64
    → r ≡ key_steps start (little_endian 8 word)
unfolding key_steps little_endian
low_word {h = h} start word l e s =
    s ∙ sym (three_zeros h) ∙ ap (λ (n : ℕ). key_steps h (little_endian 3 n)) none ∙ ap (λ (g : ℕ). key_steps g (little_endian 3 (word / 256 / 256 / 256 / 256 / 256))) e
  where
    none : 0 ≡ word / 256 / 256 / 256 / 256 / 256
    none = omega arith

-- bytes taken in one after the other
append_steps : (h : ℕ) (xs ys : List ℕ) → key_steps h (xs ++ ys) ≡ key_steps (key_steps h xs) ys
unfolding key_steps
append_steps h [] ys = refl
append_steps h (x ∷ xs) ys = append_steps (key_step h x) xs ys

-- the key, a cell at a time
pub key_is : (x y z : Float) {r hx hy cx cy cz : ℕ} → cx ≡ pattern (cell x) → cy ≡ pattern (cell y) → cz ≡ pattern (cell z)
    → hx ≡ key_steps 1469598103934665603 (little_endian 8 cx) → hy ≡ key_steps hx (little_endian 8 cy) → r ≡ key_steps hy (little_endian 8 cz) → r ≡ key x y z
unfolding key
key_is x y z {cx = cx} {cy = cy} {cz = cz} ex ey ez gx gy gz =
    gz
    ∙ ap (λ (h : ℕ). key_steps h (little_endian 8 cz)) (gy ∙ ap (λ (h : ℕ). key_steps h (little_endian 8 cy)) gx)
    ∙ ap (λ (h : ℕ). key_steps h (little_endian 8 cz)) (sym (append_steps 1469598103934665603 (little_endian 8 cx) (little_endian 8 cy)))
    ∙ sym (append_steps 1469598103934665603 (little_endian 8 cx ++ little_endian 8 cy) (little_endian 8 cz))
    ∙ (λ i. key_steps 1469598103934665603 (little_endian 8 (ex i) ++ little_endian 8 (ey i) ++ little_endian 8 (ez i)))

-- value and clamped make the answer
pub key_told_lem : (x y z : Float) {k : ℕ} {a b c : Bool} → k ≡ key x y z → a ≡ clamps x → b ≡ clamps y → c ≡ clamps z
    → ◌≡◌ {A = KeyAnswer} (record { value = k; clamped = a || b || c }) (key_told x y z)
key_told_lem x y z e f g h = λ i. record { value = e i; clamped = f i || g i || h i }
