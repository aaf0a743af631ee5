-- A group settled in the work area: walked, measured, and inverted if its volume says so. Assumes nothing.
use Rattle.std.specs.Prelude.{◌≡◌, cond, List, [], ℕ, ◌+◌, ◌*◌, ◌≤◌, Float}
use Rattle.body_rows.specs.Patches.{shapes}
use Rattle.patch_geometry.specs.Geometry.{zero64}
use Rattle.turn_walk.specs.Walk.{inverted}
use Rattle.turn_walk.specs.Area.{queue_at, colours_at, area_end, WrittenBetween}
use Rattle.turn_walk.specs.Group.{queue_of, colours_of, Colours, Rooted, walk_from}
use Rattle.turn_definition.specs.Inversion.{volume_from, inverts}
use Rattle.turn_definition.specs.Groups.{add_group}
use Rattle.turn_inversion.specs.Measured.{Measurable, GroupMeasurable}

-- what judging the group in the queue asks
pub record Judgeable (table : List ℕ) (ps : List Float) (is W : List ℕ) (n m t : ℕ) : Type 0 where
  pub group : GroupMeasurable table ps is W n m t
  pub known : Colours n m W

-- what it leaves: the group's colours inverted if V says so; only colours were written
pub record Judged (table : List ℕ) (ps : List Float) (is : List ℕ) (n m t : ℕ) (W E : List ℕ) : Type 0 where
  pub colours : colours_of n m E
      ≡ cond (inverts (shapes table ps is) (colours_of n m W) (queue_of n m t W) (volume_from (shapes table ps is) (colours_of n m W) zero64 (queue_of n m t W)))
      (inverted (queue_of n m t W) (colours_of n m W)) (colours_of n m W)
  pub known : Colours n m E
  pub within : WrittenBetween (colours_at n m) (area_end n m) W E

-- what settling the group of a root asks
pub record Settleable (table : List ℕ) (ps : List Float) (is W : List ℕ) (n m root a : ℕ) : Type 0 where
  pub given : Measurable table ps is W n m
  pub rooted : Rooted n m root a W

-- what it leaves: the definition's colours and contradictions; only queue and colours were written
pub record Settled (table : List ℕ) (ps : List Float) (is : List ℕ) (n m root a : ℕ) (W E : List ℕ) (against : ℕ) : Type 0 where
  pub colours : colours_of n m E ≡ (add_group (shapes table ps is) [] (walk_from n m root a W)).colours
  pub total : against ≡ (walk_from n m root a W).against
  pub known : Colours n m E
  pub few : against ≤ a + m * n
  pub within : WrittenBetween (queue_at n m) (area_end n m) W E
