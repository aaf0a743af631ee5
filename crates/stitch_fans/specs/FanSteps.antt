-- The fan written vertex by vertex: what pushing some vertices asks and leaves, and the vertices of an edge read from the words. Assumes nothing.
use Rattle.std.specs.Prelude.{◌≡◌, cond, Some, None, List, [], ◌∷◌, ◌++◌, ℕ, ◌+◌, ◌*◌, ◌/◌, ◌<◌, ◌≤◌, length, get_or, take, drop, eqb}
use Rattle.stitch_fans.specs.declared.fan.Fan.{Fan}
use Rattle.stitch_rings.specs.Rings.{fan_go}
use Rattle.slice_append.specs.Appended.{Appended}

-- the vertex x, if the word of its entry is on edge e
abbrev pub picked : ℕ → ℕ → ℕ → List ℕ
picked e word x = cond (eqb (word / 262144) e) (x ∷ []) []

-- the numbers of the new vertices on edge e, read from the words of their entries
unfoldable pub edge_numbers : ℕ → ℕ → List ℕ → List ℕ
edge_numbers e next [] = []
edge_numbers e next (x ∷ xs) = picked e x next ++ edge_numbers e (next + 1) xs

-- three places further than the fan's end, once a vertex was pushed: each vertex moves it on by three
abbrev pub reach : Fan → ℕ
reach f = f.o + elim f.last [ None ↦ 0 | Some x ↦ 3 ]

-- r of the `kept` words from ts on are there
pub record Held (W : List ℕ) (ts kept r : ℕ) : Type 0 where
  pub all : r ≡ length (take kept (drop ts W))
  pub few : r ≤ kept

-- what pushing k vertices asks: room for their triangles
pub record PushRoom (f : Fan) (k : ℕ) (out : List ℕ) : Type 0 where
  pub room : reach f + 3 * k ≤ length out + 3

-- what pushing vertex x asks if the entry at place k is on edge e
pub record PickReady (W : List ℕ) (k e x : ℕ) (f : Fan) (out : List ℕ) : Type 0 where
  pub inside : k < length W
  pub room : PushRoom f (length (picked e (get_or W k 0) x)) out

-- what pushing the new vertices on edge e asks: the entries' words are there, the numbers fit, and there is room
pub record EdgeReady (W : List ℕ) (at count e next : ℕ) (f : Fan) (out : List ℕ) : Type 0 where
  pub words : at + count ≤ length W
  pub small : next + count < 4294967296
  pub room : PushRoom f (length (edge_numbers e next (take count (drop at W)))) out

-- what pushing the vertices ys leaves: their triangles are written, and the new state adds to a fan what the old one adds behind them
pub record Pushed (a : ℕ) (f : Fan) (ys out new : List ℕ) (g : Fan) : Type 0 where
  pub written : Appended f.o (fan_go a f.last ys) out new
  pub end_is : g.o ≡ f.o + length (fan_go a f.last ys)
  pub behind : (more : List ℕ) → fan_go a f.last (ys ++ more) ≡ fan_go a f.last ys ++ fan_go a g.last more
  pub moved : reach g ≡ reach f + 3 * length ys
  pub long : length new ≡ length out
