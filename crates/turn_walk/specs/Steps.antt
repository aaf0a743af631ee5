-- The walk a turn at a time, and the colour that is wanted. Assumes nothing.
use Rattle.std.specs.Prelude.{◌≡◌, refl, List, Bool, true, false, cond, ℕ, zero, suc, ◌+◌, ◌<◌, ◌≤◌, length, get_or}
use Rattle.std.proofs.Common.{arith, lt-ltb, le-ltb}
use Rattle.turn_walk.specs.Walk.{Pair, Walk, unvisited, opposite, neighbours, visit, walk}

-- the next row is visited
pub walk_step : (ps : List Pair) (fuel done : ℕ) (w : Walk) → done < length w.rows
    → walk ps (suc fuel) done w
    ≡ walk ps fuel (done + 1) (visit (get_or w.colours (get_or w.rows done 0) unvisited) (neighbours (get_or w.rows done 0) ps) w)
unfolding walk
walk_step ps fuel done w l = rw (lt-ltb done (length w.rows) l, walk)

-- a walk ends when all rows found are visited
pub walk_stop : (ps : List Pair) (fuel done : ℕ) (w : Walk) → length w.rows ≤ done → walk ps fuel done w ≡ w
unfolding walk
walk_stop ps zero done w l = refl
walk_stop ps (suc fuel) done w l = rw (le-ltb done (length w.rows) l, walk)

-- a wanted colour is one of the two: it is not unvisited,
pub want_some : (c : ℕ) (b : Bool) → 0 < c → c ≤ 2 → 0 < cond b c (opposite c)
want_some c true h k = h
want_some c false h k = omega arith

-- nor beyond them
pub want_known : (c : ℕ) (b : Bool) → 0 < c → c ≤ 2 → cond b c (opposite c) ≤ 2
want_known c true h k = k
want_known c false h k = omega arith
