-- `checks::lone::lone_patch_failing` meets its contract. Assumes nothing.
use Rattle.body_checks.proofs.CheckLaws.{lone_21, lone_22, lone_23, lone_24, lone_none}
use Rattle.body_checks.proofs.lone.lone_patch_failing.Goals as goal

pub returns-then-indices-ne0 : goal.returns-then-indices-ne0
returns-then-indices-ne0 c = search lone_21

pub returns-then-any_at_least : goal.returns-then-any_at_least
returns-then-any_at_least c = search lone_22

pub returns-then-any_number_not_finite : goal.returns-then-any_number_not_finite
returns-then-any_number_not_finite c = search lone_23

pub returns-then-any_clamps : goal.returns-then-any_clamps
returns-then-any_clamps c = search lone_24

pub returns : goal.returns
returns c = search lone_none
