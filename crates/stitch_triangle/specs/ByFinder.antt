-- What finding on an edge asks and leaves, by the finder and the tallies of the code. Assumes nothing.
use Rattle.std.specs.Prelude.{List, ℕ, Float}
use Rattle.stitch_splits.specs.declared.finder.Finder.{Finder}
use Rattle.stitch_splits.specs.declared.sides.Sides.{Sides}
use Rattle.stitch_triangle.specs.declared.search.Tally.{Tally}
use Rattle.stitch_triangle.specs.Triangle as By

-- looking at the point of word j
abbrev pub PointReady : List Float → Finder → ℕ → List ℕ → Type 0
PointReady ps f j W = By.PointReady ps f.v f.order f.count j W

-- trying the vertex of word j on edge e
abbrev pub TryReady : List Float → Finder → ℕ → ℕ → Tally → List ℕ → Type 0
TryReady ps f j e t W = By.TryReady ps f.sag f.beyond f.v f.order f.count j e f.at f.ts t.found t.placed W

-- the vertices of the words `os` were found on edge e: the tally t became r, and the area W became E
abbrev pub FoundIn : List Float → Sides → Finder → ℕ → Tally → List ℕ → List ℕ → List ℕ → Tally → Type 0
FoundIn ps s f e t os W E r = By.FoundIn ps f.sag s f.v e f.at f.ts t.found t.placed os W E r.found r.placed

-- trying the block at place `from`
abbrev pub BlockReady : List Float → Finder → ℕ → ℕ → Tally → List ℕ → Type 0
BlockReady ps f from e t W = By.BlockReady ps f.sag f.beyond f.v f.order f.count from e f.at f.ts t.found t.placed W

-- looking at a node's box
abbrev pub BoxReady : Finder → ℕ → ℕ → List ℕ → Type 0
BoxReady f leaf height W = By.BoxReady f.boxes leaf height f.top W

-- finding on edge e
abbrev pub FindOn : List Float → Sides → Finder → ℕ → Tally → List ℕ → Type 0
FindOn ps s f e t W = By.FindOn ps f.sag f.beyond s f.v f.order f.count f.boxes f.top e f.at f.ts t.found t.placed W

-- splitting a triangle
abbrev pub Splittable : List Float → Sides → Finder → List ℕ → Type 0
Splittable ps s f W = By.Splittable ps f.sag f.beyond s f.v f.list f.count f.at f.ts f.order f.boxes f.top W

-- it was split: r is how many points split it and how many entries it keeps
abbrev pub Split : List Float → Sides → Finder → List ℕ → List ℕ → Tally → Type 0
Split ps s f W E r = By.Split ps f.sag s f.v f.list f.count f.at f.ts W E r.found r.placed
