-- The laws of the functions without a loop. Assumes nothing.
use mathlib.Core.Path.{◌≡◌, refl, sym, ap, ◌∙◌}
use mathlib.Core.Bool.{Bool, true, false, not, cond}
use mathlib.Core.List.{List}
use Prim.Native.Nat.{ℕ, ◌≤◌, ◌<◌}
use native.Mathlib.Omega.{arith}
use borrow.Author.Tests.{lt-ltb, le-ltb, eq-eqb, ne_eqb, not-true, not-false}
use lib.Dec.{ltb, eqb}
use lib.ListN.{length, set}
use Rattle.peg_search.specs.Search.{BinPut, best_with, lower_bin, row_ties}
use Rattle.peg_search.specs.declared.best.Best.{Best}

-- ---- one row more
module _ (b : Best) (s bin : ℕ) where
  pub best_nearer : s < b.square → record { square = s; low = bin; high = bin } ≡ best_with b s bin
  best_nearer h = rw (lt-ltb s b.square h)

  module _ (h : b.square ≤ s) where
    pub best_farther : b.square < s → b ≡ best_with b s bin
    best_farther l = rw (le-ltb s b.square h, lt-ltb b.square s l)

    module _ (l : s ≤ b.square) where
      pub best_lower : bin < b.low → record { square = s; low = bin; high = b.high } ≡ best_with b s bin
      best_lower m = rw (le-ltb s b.square h, le-ltb b.square s l, lt-ltb bin b.low m)

      module _ (m : b.low ≤ bin) where
        pub best_higher : b.high < bin → record { square = s; low = b.low; high = bin } ≡ best_with b s bin
        best_higher n = rw (le-ltb s b.square h, le-ltb b.square s l, le-ltb bin b.low m, lt-ltb b.high bin n)

        pub best_same : bin ≤ b.high → b ≡ best_with b s bin
        best_same n = rw (le-ltb s b.square h, le-ltb b.square s l, le-ltb bin b.low m, le-ltb b.high bin n)

-- ---- a bin put
pub put_inside : (E : List ℕ) (i n : ℕ) → i < length E → BinPut E i n (set E i n)
put_inside E i n h = record { inside = λ l. refl; outside = λ l. absurd (omega arith) }

pub put_outside : (E : List ℕ) (i n : ℕ) → length E ≤ i → BinPut E i n E
put_outside E i n h = record { inside = λ l. absurd (omega arith); outside = λ l. refl }
