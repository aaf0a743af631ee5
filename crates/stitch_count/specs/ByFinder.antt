-- What counting splits asks and leaves, by the finder and the tallies of the code. Assumes nothing.
use Rattle.std.specs.Prelude.{List, ℕ, Float}
use Rattle.stitch_splits.specs.declared.finder.Finder.{Finder}
use Rattle.stitch_triangle.specs.declared.search.Tally.{Tally}
use Rattle.stitch_count.specs.Counting as By

-- the splits of the triangle at index k
abbrev pub TriangleReady : List Float → List ℕ → Finder → ℕ → ℕ → ℕ → List ℕ → Type 0
TriangleReady ps is f n base k W = By.TriangleReady ps is f.sag f.beyond n f.v f.list f.count f.at f.ts f.flags f.order f.boxes f.top base k W

-- they were found: W became E
abbrev pub TriangleDone : List Float → List ℕ → Finder → ℕ → ℕ → List ℕ → List ℕ → Tally → Type 0
TriangleDone ps is f base k W E r = By.TriangleDone ps is f.sag f.v f.list f.count f.at f.ts f.flags base k W E r.found r.placed

-- and counted
abbrev pub TriangleCounted : List Float → List ℕ → Finder → ℕ → ℕ → List ℕ → List ℕ → Tally → Type 0
TriangleCounted ps is f base k W E r = By.TriangleCounted ps is f.sag f.v f.list f.count f.at f.ts f.flags base k W E r.found r.placed

-- counting a row, behind the tally t
abbrev pub RowReady : List Float → List ℕ → Finder → ℕ → ℕ → ℕ → ℕ → ℕ → Tally → List ℕ → Type 0
RowReady ps is f n base vertices from to t W = By.RowReady ps is f.sag f.beyond n f.v f.list f.count f.at f.ts f.flags f.order f.boxes f.top base vertices from to t.found t.placed W

-- the tally with its splits is r
abbrev pub RowCounted : List Float → List ℕ → Finder → ℕ → ℕ → ℕ → Tally → List ℕ → List ℕ → Tally → Type 0
RowCounted ps is f base from to t W E r = By.RowCounted ps is f.sag f.v f.list f.count f.at f.ts f.flags base from to t.found t.placed W E r.found r.placed

-- counting the body
abbrev pub BodyReady : List ℕ → List Float → List ℕ → Finder → List ℕ → Type 0
BodyReady table ps is f W = By.BodyReady table ps is f.sag f.beyond f.v f.list f.count f.at f.ts f.flags f.order f.boxes f.top W

-- it was counted
abbrev pub BodyCounted : List ℕ → List Float → List ℕ → Finder → List ℕ → List ℕ → Tally → Type 0
BodyCounted table ps is f W E r = By.BodyCounted table ps is f.sag f.v f.list f.count f.at f.ts f.flags W E r.found r.placed
