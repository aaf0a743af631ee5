-- The volume rule of document 01. Assumes nothing.
--
-- A group is the rows of one walk. V is the f64 that turn computes for it, coloured rows reversed. E is the exact volume of the same triangles.
-- All is counted in whole numbers, so that nothing here is rounded:
--
--   a coordinate of an f32 is a whole number of 2 ^ -149, so a product of three is one of (2 ^ -149) ^ 3 and E is one of sixths of that;
--   an f64 is a whole number of 2 ^ -1074, and so V is one of sixths of 2 ^ -1074;
--   (2 ^ -149) ^ 3 is 2 ^ 627 times 2 ^ -1074, so E is one of sixths of 2 ^ -1074 too;
--   T × T × M × M × M / 2 ^ 50, with M a whole number of 2 ^ -149, is 6 × T × T × M × M × M × 2 ^ 577 of them, since 627 − 50 = 577.
--
-- So V and E are compared as the whole numbers `volume_of` and `exact_volume`, and the bound is the whole number `bound`.
use Rattle.turn_definition.specs.declared.TurnCounts.{TurnCounts}
use Rattle.std.specs.Prelude.{◌≡◌, List, ◌∷◌, ℕ, ◌<◌, T, length, Float, Result, Ok, Err}
use Rattle.lists.specs.Lists.{all}
use Rattle.point_rules.specs.Rule.{Rule, names}
use Rattle.join_definition.specs.Join.{joined}
use Rattle.body_rows.specs.Body.{Patch, rows_of, patches_of}
use Rattle.turn_definition.specs.Groups.{Group}
use Rattle.turn_definition.specs.Orient.{walks_of, turn_of}
use Rattle.turn_definition.specs.Inversion.{patch_at}
use Rattle.turn_volume_rule.specs.Exact.{F32s, rule_holds}

-- A body's slices before and after, its points joined by a rule. For every group: V lies within the bound of E, and if E is further from zero than the bound,
-- the exact volume of the group as it is left is E, sign dropped.
unfoldable pub KeepsVolume : Rule → List ℕ → List Float → List Float → List ℕ → List Float → List ℕ → Type 0
KeepsVolume rule table ps ns is ns' is' =
    let before = patches_of (rows_of table) ps ns is in
    let after = patches_of (rows_of table) ps ns' is' in
    T (all (rule_holds before after) (walks_of before (joined (names rule ps))).groups)

-- In every body that turn accepts, whatever the joining rule, every group keeps the rule. The premise is what a slice of f32 holds; the calls have none.
unfoldable pub VolumeRule : Type 0
VolumeRule = (rule : Rule) (table : List ℕ) (ps ns : List Float) (is work : List ℕ) → F32s ps → (turn_of rule table ps ns is work).refusal ≡ 0
    → let t = turn_of rule table ps ns is work in KeepsVolume rule table ps ns is t.normals t.indices

-- what turn's answer says of volumes: a body that is done keeps the rule, a refusal says nothing
abbrev pub DoneKeepsVolume : {E : Type 0} → Result TurnCounts E → Rule → List ℕ → List Float → List Float → List ℕ → List Float → List ℕ → Type 0
DoneKeepsVolume (Ok c) rule table ps ns is ns' is' = KeepsVolume rule table ps ns is ns' is'
DoneKeepsVolume (Err n) rule table ps ns is ns' is' = Unit

-- n is one of the rows
pub data In (n : ℕ) : List ℕ → Type 0 where
  here : {ns : List ℕ} → In n (n ∷ ns)
  there : {m : ℕ} {ns : List ℕ} → In n ns → In n (m ∷ ns)

-- row n is in one of the groups
pub data InSome (n : ℕ) : List Group → Type 0 where
  this : {g : Group} {gs : List Group} → In n g.rows → InSome n (g ∷ gs)
  that : {g : Group} {gs : List Group} → InSome n gs → InSome n (g ∷ gs)

-- The rule speaks of every triangle: every row with indices is in some group.
unfoldable pub EveryRow : Type 0
EveryRow = (patches : List Patch) (points : List ℕ) (n : ℕ) → n < length patches → 0 < length (patch_at patches n).indices → InSome n (walks_of patches points).groups
