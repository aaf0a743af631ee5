-- What writing at a place leaves. Assumes nothing.
use Rattle.std.specs.Prelude.{List, ◌++◌, ◌≡◌, ℕ, ◌-◌, ◌≤◌, length, take, drop}
use Rattle.sheet_digits.specs.Digits.{decimal, digits}

-- A text was written into E from a place on, and W is what stands there now: the text ends at r, or where E ends, which is then r; nothing else changed.
pub record Wrote (E : List ℕ) (at : ℕ) (text W : List ℕ) (r : ℕ) : Type 0 where
  pub long : length W ≡ length E
  pub more : at ≤ r
  pub within : r ≤ length E
  pub front : take r W ≡ take (length E) (take at E ++ text)
  pub rest : drop r W ≡ drop r E

-- the last k digits of n stand at the end of twenty bytes
pub record Filling (base k n : ℕ) (W : List ℕ) : Type 0 where
  pub long : length W ≡ 20
  pub is : drop (20 - k) W ≡ digits base k n

-- n in decimal has k digits
pub record Digits (n k : ℕ) : Type 0 where
  pub few : k ≤ 20
  pub is : decimal n ≡ digits 10 k n
