-- One of two answers told whole. Assumes nothing.
use mathlib.Core.Path.{◌≡◌, refl}
use mathlib.Core.Bool.{Bool, true, false}

-- what holds of both of two answers holds of the one that a test picks
pub either : {A : Type 0} (P : A → Type 0) (b : Bool) (done refused : A) → P done → (b ≡ false → P refused) → P (elim b [ true ↦ done | false ↦ refused ])
either P true done refused p q = p
either P false done refused p q = q refl
