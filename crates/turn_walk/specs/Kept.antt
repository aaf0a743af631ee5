-- What a stage of the walk leaves for the next: words of queue and colours, and chains, colours and queue kept. Assumes nothing.
use Rattle.std.specs.Prelude.{◌≡◌, refl, List, ℕ, zero, suc, ◌+◌, ◌*◌, ◌<◌, ◌≤◌, length, get_or, take, drop, replicate}
use Rattle.std.proofs.Common.{sym, subst, arith, length-take, length-drop, length-take-le}
use Rattle.turn_walk.specs.Area.{area_end, uses_of}
use Rattle.turn_walk.specs.Chains.{Paired}
use Rattle.turn_walk.specs.Group.{queue_of, colours_of, Colours, Uncoloured}
use Rattle.lists.specs.Stretches.{stretch_at, front_at, front_less}
use Rattle.turn_walk.specs.Links.{pairs_uses, paired_kept}

-- the colour of row x
pub colour_at : (n m : ℕ) (W : List ℕ) (x : ℕ) → x < m → get_or (colours_of n m W) x 0 ≡ get_or W (5 * n + 2 * m + x) 0
colour_at n m W x l = stretch_at (5 * n + 2 * m) m W x 0 l

-- row k of the queue
pub queue_at : (n m t : ℕ) (W : List ℕ) (k : ℕ) → k < t → get_or (queue_of n m t W) k 0 ≡ get_or W (5 * n + m + k) 0
queue_at n m t W k l = stretch_at (5 * n + m) t W k 0 l

-- there are m colours
pub colours_long : (n m : ℕ) (W : List ℕ) → area_end n m ≤ length W → length (colours_of n m W) ≡ m
colours_long n m W l = simp (length-take, length-drop) (omega arith)

-- and t rows in the queue
pub queue_long : (n m t : ℕ) (W : List ℕ) → area_end n m ≤ length W → t ≤ m → length (queue_of n m t W) ≡ t
queue_long n m t W l h = length-take-le t (drop (5 * n + m) W) (simp length-drop (omega arith))

-- Colours are kept by a stage that writes behind them.
pub colours_kept : {n m : ℕ} {W E : List ℕ} → Colours n m W → take (area_end n m) E ≡ take (area_end n m) W → Colours n m E
colours_kept {n} {m} {W} {E} c e =
    record { known = λ x l. subst (λ (k : ℕ). k ≤ 2) (sym (front_at (5 * n + 3 * m) (5 * n + 2 * m + x) W E 0 e (omega arith))) (c.known x l) }

-- Chains are kept when the colours are cleared,
pub paired_uncoloured : {n m : ℕ} {W E : List ℕ} → Paired n m W → Uncoloured n m W E → length E ≡ length W → Paired n m E
paired_uncoloured {n} {m} {W} {E} p u l = paired_kept p (front_less (5 * n + m) (5 * n + 2 * m) W E u.within.front (omega arith)) l

-- The uses are kept when the colours are cleared,
pub uses_uncoloured : {n m : ℕ} {W E : List ℕ} → Uncoloured n m W E → uses_of n E ≡ uses_of n W
uses_uncoloured {n} {m} {W} {E} u = pairs_uses n m W E (front_less (5 * n + m) (5 * n + 2 * m) W E u.within.front (omega arith))

-- a list of zeros has nothing else
pub zeros : (m x : ℕ) → ◌≡◌ {A = ℕ} (get_or (replicate m 0) x 0) 0
zeros zero x = refl
zeros (suc m) zero = refl
zeros (suc m) (suc x) = zeros m x
