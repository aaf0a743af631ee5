-- The laws of entries as a lent list has them. Assumes nothing.
use Rattle.std.specs.Prelude.{List, [], ◌∷◌, ◌++◌, ◌≡◌, refl, ℕ, ◌*◌, ℤ, length}
use Rattle.std.proofs.Common.{ap, arith}
use Rattle.plan_definition.specs.Grammar.{Entry}
use Rattle.plan_definition.specs.Reading.{entry_width, list_of}
use Rattle.plan_definition.specs.Writing.{entries_in}

pub list_length : (es : List Entry) → length (list_of es) ≡ entry_width * length es
unfolding list_of
list_length [] = refl
list_length (e ∷ es) = omega (arith, list_length es)

pub list_append : (a b : List Entry) → list_of (a ++ b) ≡ list_of a ++ list_of b
unfolding list_of
list_append [] b = refl
list_append (e ∷ a) b = ap (λ (xs : List ℤ). e.bin ∷ e.place.x ∷ e.place.y ∷ e.place.z ∷ xs) (list_append a b)

-- The entries of a listed plan are read back from its list.
pub entries_back : (es : List Entry) → entries_in (list_of es) ≡ es
unfolding entries_in list_of
entries_back [] = refl
entries_back (e ∷ es) = ap (λ (fs : List Entry). e ∷ fs) (entries_back es)
