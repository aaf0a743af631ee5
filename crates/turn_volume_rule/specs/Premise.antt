-- Without its premise, that positions are values of f32, the volume rule would be false: three points at 2 ^ −150 on the axes, half of the smallest f32. Assumes nothing.
use Rattle.std.specs.Prelude.{◌≡◌, refl, false, List, [], ◌∷◌, ℕ, replicate, pos, negsuc, Float}
use Rattle.std.specs.Float.{fin}
use Rattle.point_rules.specs.Rule.{Rule}
use Rattle.point_rules.specs.Points.{key}
use Rattle.turn_definition.specs.Orient.{turn_of}
use Rattle.turn_volume_rule.specs.VolumeRule.{KeepsVolume}
use Rattle.turn_volume_rule.specs.Evaluation.{evaluation}

-- the volume rule without that premise
pub Unpremised : Type 0
Unpremised = (rule : Rule) (table : List ℕ) (ps ns : List Float) (is work : List ℕ) → (turn_of rule table ps ns is work).refusal ≡ 0
    → let t = turn_of rule table ps ns is work in KeepsVolume rule table ps ns is t.normals t.indices

-- 2 ^ −150
small : Float
small = fin false 1 (negsuc 149)

-- 0
nil : Float
nil = fin false 0 (pos 0)

-- It is false.
pub unpremised_false : Unpremised → ⊥
unfolding evaluation KeepsVolume Unpremised small nil
unpremised_false rule =
    rule key (0 ∷ 0 ∷ 0 ∷ 3 ∷ 3 ∷ 7 ∷ []) (small ∷ nil ∷ nil ∷ nil ∷ small ∷ nil ∷ nil ∷ nil ∷ small ∷ []) (replicate 9 nil) (0 ∷ 1 ∷ 2 ∷ []) (replicate 76 0) refl
