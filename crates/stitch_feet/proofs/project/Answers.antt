-- `stitch_feet::project` meets its contract. Assumes nothing.
use mathlib.Core.Path.{◌∙◌}
use Rattle.stitch_feet.proofs.FootLaws.{project_outside, project_inside}
use Rattle.stitch_feet.proofs.project.Goals as goal

pub returns-in_err-f : goal.returns-in_err-f
returns-in_err-f c =
    c.from_residual.ensures ∙ project_outside c.args.s c.args.r c.foot_of.ensures c.in_err-f.was

pub returns : goal.returns
returns c = project_inside c.args.s c.args.r c.foot_of.ensures c.in_ok-f.f c.in_ok-f.was c.length.ensures
