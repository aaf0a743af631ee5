-- The table of chains by which the first item of each name is found. The work area W of n items has a digest of each name at 0..n, the
-- representatives at n..2n, links at 2n..3n, the heads of the chains at 3n..4n. A link is 0, or 1 + an item. Assumes nothing.
use Rattle.std.specs.Prelude.{◌≡◌, List, ℕ, ◌+◌, ◌-◌, ◌*◌, ◌/◌, ◌%◌, ◌^◌, ◌<◌, ◌≤◌, length, get_or, take, drop}
use Rattle.std.specs.Int.Bits.{bit_xor}
use Rattle.join_definition.specs.Join.{First, IsFirst}

-- which of n chains the items with digest d are in
unfoldable pub bucket_of : ℕ → ℕ → ℕ
bucket_of n d =
    let p = d * 11400714819323198485 % 2 ^ 64 in
    bit_xor p (p / 2 ^ 32) * 15485907386658061715 % 2 ^ 64 / 2 ^ 32 * n / 2 ^ 32

-- a number of chains: some, and below 2^32
pub record Sized (n : ℕ) : Type 0 where
  pub some : 0 < n
  pub few : n < 2 ^ 32

-- r is the chain of digest d
pub record Bucket (n d r : ℕ) : Type 0 where
  pub low : r < n
  pub is : r ≡ bucket_of n d

-- n items with names ns have digests ds: the digest goes by the name
pub record Named (ns ds : List ℕ) (n : ℕ) : Type 0 where
  pub long : length ns ≡ n
  pub agree : (j k : ℕ) → j < n → k < n → get_or ns j 0 ≡ get_or ns k 0 → get_or ds j 0 ≡ get_or ds k 0

-- L is the link to the latest of the first items below b in the chain h
pub record Latest (ns ds : List ℕ) (n b h L : ℕ) : Type 0 where
  pub low : L ≤ b
  pub first : 0 < L → First ns (L - 1)
  pub hash : 0 < L → bucket_of n (get_or ds (L - 1) 0) ≡ h
  pub all : (j : ℕ) → j < b → First ns j → bucket_of n (get_or ds j 0) ≡ h → j < L

-- the items below i are joined
pub record Table (ns ds : List ℕ) (n i : ℕ) (W : List ℕ) : Type 0 where
  pub bound : i ≤ n
  pub few : n < 2 ^ 32
  pub room : 4 * n ≤ length W
  pub named : Named ns ds n
  pub reps : (k : ℕ) → k < i → IsFirst ns k (get_or W (n + k) 0)
  pub nexts : (k : ℕ) → k < i → First ns k → Latest ns ds n k (bucket_of n (get_or ds k 0)) (get_or W (2 * n + k) 0)
  pub heads : (h : ℕ) → h < n → Latest ns ds n i h (get_or W (3 * n + h) 0)

-- on the way along a chain: an item below i that is the first of i's name stands at the link p or is yet to come
pub record Walk (ns ds : List ℕ) (n i p : ℕ) : Type 0 where
  pub low : p ≤ i
  pub first : 0 < p → First ns (p - 1)
  pub hash : 0 < p → bucket_of n (get_or ds (p - 1) 0) ≡ bucket_of n (get_or ds i 0)
  pub all : (j : ℕ) → j < i → First ns j → get_or ns j 0 ≡ get_or ns i 0 → j < p

-- what `same_name` requires
pub record Compared (ns : List ℕ) (n k i : ℕ) (W : List ℕ) : Type 0 where
  pub named : Named ns (take n W) n
  pub room : n ≤ length W
  pub low : k < n
  pub low₂ : i < n

-- what `find` requires
pub record Search (ns : List ℕ) (n i : ℕ) (W : List ℕ) (p : ℕ) : Type 0 where
  pub table : Table ns (take n W) n i W
  pub low : i < n
  pub walk : Walk ns (take n W) n i p

-- what `find` ensures of its result: the link to the first item of i's name, or 0
pub record Hit (ns : List ℕ) (i r : ℕ) : Type 0 where
  pub low : r ≤ i
  pub first : 0 < r → First ns (r - 1)
  pub same : 0 < r → get_or ns (r - 1) 0 ≡ get_or ns i 0
  pub none : r ≡ 0 → (j : ℕ) → j < i → First ns j → get_or ns j 0 ≡ get_or ns i 0 → ⊥

-- what `join_one` requires
pub record Turn (ns : List ℕ) (n i : ℕ) (W : List ℕ) : Type 0 where
  pub table : Table ns (take n W) n i W
  pub low : i < n

-- what `join_one` ensures
pub record Step (ns : List ℕ) (n i : ℕ) (W E : List ℕ) : Type 0 where
  pub table : Table ns (take n W) n (i + 1) E
  pub words : take n E ≡ take n W
  pub rest : drop (4 * n) E ≡ drop (4 * n) W

-- what `start` ensures
pub record Begun (n : ℕ) (W E : List ℕ) : Type 0 where
  pub heads : (h : ℕ) → h < n → get_or E (3 * n + h) 0 ≡ 0
  pub words : take n E ≡ take n W
  pub rest : drop (4 * n) E ≡ drop (4 * n) W

-- what `join` requires: room for the table, few enough items, and digests that go by the names
pub record Ready (ns : List ℕ) (n : ℕ) (W : List ℕ) : Type 0 where
  pub room : 4 * n ≤ length W
  pub few : n < 2 ^ 32
  pub named : Named ns (take n W) n
