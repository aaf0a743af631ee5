-- What writing the stitched body asks and leaves, by the finder of the code and the ends that it hands on. Assumes nothing.
use Rattle.std.specs.Prelude.{List, ℕ, Float}
use Rattle.stitch_splits.specs.declared.finder.Finder.{Finder}
use Rattle.stitch_write.specs.declared.write.Ends.{Ends}
use Rattle.stitch_write.specs.Writing as By

-- writing the triangle at index k behind the ends o, its first new vertex being `next`
abbrev pub TriangleWritable : List Float → List Float → List ℕ → Finder → ℕ → ℕ → ℕ → ℕ → Ends → List ℕ → List Float → List Float → List ℕ → Type 0
TriangleWritable ps ns is f n base k next o W P N I =
    By.TriangleWritable ps ns is f.sag f.beyond n f.v f.list f.count f.at f.ts f.flags f.order f.boxes f.top base k next o.vertices o.indices W P N I

-- it was written up to the ends r
abbrev pub TriangleWritten : List Float → List Float → List ℕ → Finder → ℕ → ℕ → ℕ → Ends → List ℕ → List ℕ → List Float → List Float → List Float → List Float → List ℕ → List ℕ
    → Ends → Type 0
TriangleWritten ps ns is f base k next o W E P P' N N' I I' r =
    By.TriangleWritten ps ns is f.sag f.v f.list f.count f.at f.ts f.flags base k next o.vertices o.indices W E P P' N N' I I' r.vertices r.indices

-- writing a row behind the ends o
abbrev pub RowWritable : List Float → List Float → List ℕ → Finder → ℕ → ℕ → ℕ → ℕ → ℕ → Ends → List ℕ → List Float → List Float → List ℕ → Type 0
RowWritable ps ns is f n base vertices from to o W P N I =
    By.RowWritable ps ns is f.sag f.beyond n f.v f.list f.count f.at f.ts f.flags f.order f.boxes f.top base vertices from to o.vertices o.indices W P N I

-- it was written up to the ends r
abbrev pub RowWritten : List Float → List Float → List ℕ → Finder → ℕ → ℕ → ℕ → ℕ → Ends → List ℕ → List ℕ → List Float → List Float → List Float → List Float → List ℕ → List ℕ
    → Ends → Type 0
RowWritten ps ns is f base vertices from to o W E P P' N N' I I' r =
    By.RowWritten ps ns is f.sag f.v f.list f.count f.at f.ts f.flags base vertices from to o.vertices o.indices W E P P' N N' I I' r.vertices r.indices

-- writing the body
abbrev pub BodyWritable : List ℕ → List Float → List Float → List ℕ → Finder → List ℕ → List ℕ → List Float → List Float → List ℕ → Type 0
BodyWritable table ps ns is f W R P N I = By.BodyWritable table ps ns is f.sag f.beyond f.v f.list f.count f.at f.ts f.flags f.order f.boxes f.top W R P N I

-- it was written
abbrev pub BodyWritten : List ℕ → List Float → List Float → List ℕ → Finder → List ℕ → List ℕ → List ℕ → List ℕ → List Float → List Float → List Float → List Float → List ℕ → List ℕ
    → Type 0
BodyWritten table ps ns is f W E R R' P P' N N' I I' = By.BodyWritten table ps ns is f.sag f.v f.list f.count f.at f.ts f.flags W E R R' P P' N N' I I'
