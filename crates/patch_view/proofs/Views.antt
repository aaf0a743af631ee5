-- A view of a patch's three stretches, what is read through it, and that a view of row k's stretches shows patch k. Assumes nothing.
use Rattle.std.specs.Prelude.{◌≡◌, Bool, List, ℕ, get_or, Float}
use Rattle.std.proofs.Common.{ap}
use Rattle.body_rows.specs.Body.{Row, Patch, patches_of}
use Rattle.body_rows.specs.Patches.{no_patch}
use Rattle.patch_alone.specs.Answers.{answer_of}
use Rattle.patch_alone.specs.Alone.{volume_alone}
use Rattle.patch_view.specs.declared.PatchView.{PatchView}
use Rattle.patch_view.specs.Views.{volume_of, Stretches, shows_patch}

-- A volume that is read through it is that of patch k alone.
pub shows_volume : (rows : List Row) (ps ns : List Float) (is : List ℕ) (k : ℕ) (v : PatchView) (flip : Bool) → Stretches rows ps ns is k v
    → let p = get_or (patches_of rows ps ns is) k no_patch in volume_of v flip ≡ answer_of (volume_alone p.positions p.normals p.indices flip)
shows_volume rows ps ns is k v flip s =
    ap (λ (p : Patch). answer_of (volume_alone p.positions p.normals p.indices flip)) (shows_patch rows ps ns is k v s)
