-- The chains: each row's pairs linked in recorded order, and what chaining asks and leaves. Assumes nothing.
use Rattle.std.specs.Prelude.{◌≡◌, List, [], ◌∷◌, true, cond, ℕ, zero, suc, ◌+◌, ◌-◌, ◌<◌, ◌≤◌, length, get_or, set}
use Rattle.turn_walk.specs.Walk.{Neighbour}
use Rattle.turn_walk.specs.Uses.{Uses, own, far, records, touches, across, across_from}
use Rattle.turn_walk.specs.Area.{own_links_at, far_links_at, heads_at, queue_at, area_end, WrittenBetween, uses_of, Sound}

-- the link to the first of the d uses from i on whose pair touches row x
unfoldable pub link_from : Uses → ℕ → ℕ → ℕ → ℕ
link_from u x i zero = 0
link_from u x i (suc d) = cond (touches u x i) (i + 1) (link_from u x (i + 1) d)

-- where the pairs of row x lead from the link p on
unfoldable pub across_on : Uses → ℕ → ℕ → List Neighbour
across_on u x zero = []
across_on u x (suc k) = across u x k ∷ across_from u x (suc k) (u.count - suc k)

-- the uses from i on are in the chains
pub record Chains (n m i : ℕ) (u : Uses) (W : List ℕ) : Type 0 where
  pub heads : (x : ℕ) → x < m → get_or W (heads_at n + x) 0 ≡ link_from u x i (n - i)
  pub owns : (k : ℕ) → i ≤ k → k < n → records u k ≡ true → get_or W (own_links_at n + k) 0 ≡ link_from u (own u k) (k + 1) (n - (k + 1))
  pub fars : (k : ℕ) → i ≤ k → k < n → records u k ≡ true → get_or W (far_links_at n + k) 0 ≡ link_from u (far u k) (k + 1) (n - (k + 1))

-- what chaining asks: room for all regions, and uses that are sound
pub record Chainable (n m : ℕ) (W : List ℕ) : Type 0 where
  pub room : area_end n m ≤ length W
  pub sound : Sound n m W

-- what reading use i asks
pub record UseAt (n m i : ℕ) (W : List ℕ) : Type 0 where
  pub given : Chainable n m W
  pub inside : i < n

-- what linking the pair of use i at the rows a and b asks
pub record PairAt (n m i a b : ℕ) (W : List ℕ) : Type 0 where
  pub room : area_end n m ≤ length W
  pub inside : i < n
  pub own : a < m
  pub far : b < m

-- the pair of use i put first in the chains of its own row a and the first use's row b
abbrev pub linked : (n i a b : ℕ) → List ℕ → List ℕ
linked n i a b W =
    set
    (set (set (set W (own_links_at n + i) (get_or W (heads_at n + a) 0)) (far_links_at n + i) (get_or W (heads_at n + b) 0)) (heads_at n + a) (i + 1))
    (heads_at n + b)
    (i + 1)

-- what chaining use i asks: those after it are in the chains
pub record ChainNext (n m i : ℕ) (W : List ℕ) : Type 0 where
  pub given : Chainable n m W
  pub inside : i < n
  pub chains : Chains n m (i + 1) (uses_of n W) W

-- W became E: the chains from use i on stand in E, and only the links and the heads were written
pub record Chained (n m i : ℕ) (W E : List ℕ) : Type 0 where
  pub uses : uses_of n E ≡ uses_of n W
  pub chains : Chains n m i (uses_of n E) E
  pub within : WrittenBetween (own_links_at n) (queue_at n m) W E

-- the pairs of all uses and their chains stand in W
pub record Paired (n m : ℕ) (W : List ℕ) : Type 0 where
  pub room : area_end n m ≤ length W
  pub sound : Sound n m W
  pub chains : Chains n m 0 (uses_of n W) W

-- the link p is 0 or stands on the chain of row x
pub record On (n x p : ℕ) (W : List ℕ) : Type 0 where
  pub low : p ≤ n
  pub touch : (p ≡ 0 → ⊥) → touches (uses_of n W) x (p - 1) ≡ true

-- what following the link p of row x asks
pub record LinkAt (n m x p : ℕ) (W : List ℕ) : Type 0 where
  pub paired : Paired n m W
  pub on : On n x p W
  pub some : p ≡ 0 → ⊥
