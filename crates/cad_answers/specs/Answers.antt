-- The definitions' answers as the C structs. Assumes nothing.
use Rattle.std.specs.Prelude.{Bool, cond, Float}
use Rattle.patch_geometry.specs.declared.Aabb.{Aabb}
use Rattle.patch_alone.specs.Alone.{Alone}
use Rattle.cad_answers.specs.declared.patch.CadMeasured.{CadMeasured}
use Rattle.cad_answers.specs.declared.patch.CadJudged.{CadJudged}

-- the box of six numbers, minimum first
abbrev pub box_of : Float → Float → Float → Float → Float → Float → Aabb
box_of x0 y0 z0 x1 y1 z1 = record { min = record { x = x0; y = y0; z = z0 }; max = record { x = x1; y = y1; z = z1 } }

-- the struct of a measured answer
abbrev pub cad_measured : Alone Float → CadMeasured
cad_measured a = record { refusal = a.refusal; value = a.answer }

-- the struct of a judged answer: the verdict is 1 or 0
abbrev pub cad_judged : Alone Bool → CadJudged
cad_judged a = record { refusal = a.refusal; verdict = cond a.answer 1 0 }
