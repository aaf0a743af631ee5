-- The definitions that the theorems of this name in proofs/ speak of. Assumes nothing.
use Rattle.std.specs.Prelude.{◌≡◌, ℕ, ◌<◌, Float}
use Rattle.slice_pairs.specs.Pairs.{pair_of}
use Rattle.stitch_pairs.specs.FoundPairs.{place_key}
use Rattle.stitch_pairs.specs.BitOrder.{Inside}

-- the pair of a place and a word below b, which came before the words from b on
pub record PairBelow (b x : ℕ) : Type 0 where
  pub e : ℕ
  pub t : Float
  pub word : ℕ
  pub is : x ≡ pair_of (place_key e t) word
  pub inside : Inside t
  pub low : word < b
