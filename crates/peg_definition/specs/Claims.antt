-- Small placed bodies, each of which tells a reading of document 02 from a near miss. Assumes nothing.
use mathlib.Core.List.{List, [], ◌∷◌, ◌++◌, map, flat_map}
use Rattle.std.specs.Prelude.{◌≡◌, refl, ℕ, ◌*◌, ℤ, pos, negsuc, length, replicate, Float}
use Rattle.std.specs.Float.{nan}
use Rattle.float_steps.specs.Floats.{f32}
use Rattle.plan_definition.specs.Places.{Place}
use Rattle.peg_definition.specs.Peg.{Lookup, Refused, Found, lookup_of, bins_after}
use Rattle.peg_definition.specs.Evaluation.{evaluation}

-- a place of three numbers that aren't negative
at : ℕ → ℕ → ℕ → Place
at x y z = record { x = pos x; y = pos y; z = pos z }

-- a row of one vertex for each bin
rows : List ℕ → List ℕ
rows bins = flat_map (λ b. 0 ∷ 0 ∷ 0 ∷ 1 ∷ 0 ∷ b ∷ []) bins

-- Bins of one vertex each at their own origin, which their places move, found from a peg with a list for so many.
at_origin : List ℕ → List ℤ → Place → ℕ → Lookup
at_origin bins places peg room = lookup_of (rows bins) (replicate (3 * length bins) (f32 0)) (replicate (3 * length bins) (f32 0)) [] places peg room

-- one bin, number 7, whose vertex has an x of such f32 bits, at a place on x
alone : ℕ → ℤ → Place → Lookup
alone b place peg = lookup_of (rows (7 ∷ [])) (f32 b ∷ f32 0 ∷ f32 0 ∷ []) (replicate 3 (f32 0)) [] (place ∷ pos 0 ∷ pos 0 ∷ []) peg 1

-- −62.5 micrometres are −63 before the place of 64 is added: from a peg at 5,001 the vertex is 5,000 away, from 5,002 it is not near
rounded_first : alone 0xBD800000 (pos 64) (at 5001 0 0) ∷ alone 0xBD800000 (pos 64) (at 5002 0 0) ∷ [] ≡ Found (7 ∷ []) ∷ Found [] ∷ []
unfolding evaluation alone rows at
rounded_first = refl

-- 62.5 are 63; 0.00049 micrometres are none; the last coordinate whose cell isn't clamped is just far
rounded : alone 0x3D800000 (pos 0) (at 5063 0 0) ∷ alone 0x3D800000 (pos 0) (at 5064 0 0) ∷ alone 0x35000000 (pos 0) (at 5000 0 0) ∷ alone 0x550637BD (pos 0) (at 0 0 0) ∷ []
    ≡ Found (7 ∷ []) ∷ Found [] ∷ Found (7 ∷ []) ∷ Found [] ∷ []
unfolding evaluation alone rows at
rounded = refl

-- 5,000 away on each axis counts, 5,001 on any doesn't
cube : at_origin (1 ∷ []) (pos 5000 ∷ negsuc 4999 ∷ pos 5000 ∷ []) (at 0 0 0) 1
    ∷ at_origin (1 ∷ []) (pos 5001 ∷ pos 0 ∷ pos 0 ∷ []) (at 0 0 0) 1
    ∷ at_origin (1 ∷ []) (pos 0 ∷ negsuc 5000 ∷ pos 0 ∷ []) (at 0 0 0) 1
    ∷ at_origin (1 ∷ []) (pos 0 ∷ pos 0 ∷ pos 5001 ∷ []) (at 0 0 0) 1
    ∷ []
    ≡ Found (1 ∷ []) ∷ Found [] ∷ Found [] ∷ Found [] ∷ []
unfolding evaluation at_origin rows at
cube = refl

-- 27 from (3, 3, 3) is more than 25 from (5, 0, 0), whose largest axis is the larger
by_squares : at_origin (1 ∷ 2 ∷ []) (pos 3 ∷ pos 3 ∷ pos 3 ∷ pos 5 ∷ pos 0 ∷ pos 0 ∷ []) (at 0 0 0) 1 ≡ Found (2 ∷ [])
unfolding evaluation at_origin rows at
by_squares = refl

-- bins that share the sum, ascending, each once; a list too short for them; a number behind the last place, which is not looked at
ties : at_origin (9 ∷ 3 ∷ 9 ∷ 5 ∷ []) (pos 1 ∷ pos 0 ∷ pos 0 ∷ negsuc 0 ∷ pos 0 ∷ pos 0 ∷ pos 0 ∷ pos 1 ∷ pos 0 ∷ pos 2 ∷ pos 0 ∷ pos 0 ∷ pos 1099511627777 ∷ []) (at 0 0 0) 2 ≡ Found (3 ∷ 9 ∷ [])
unfolding evaluation at_origin rows at
ties = refl

too_many : at_origin (9 ∷ 3 ∷ 9 ∷ []) (replicate 9 (pos 0)) (at 0 0 0) 1 ≡ Refused 66
unfolding evaluation at_origin rows at
too_many = refl

-- places too few or too far, a peg too far, before a list too short and after a normal that isn't finite; a failed row's place counts; no bin fits an empty list
refused : at_origin (1 ∷ 2 ∷ []) (replicate 5 (pos 0)) (at 0 0 0) 0
    ∷ at_origin (1 ∷ []) (pos 0 ∷ pos 1099511627777 ∷ pos 0 ∷ []) (at 0 0 0) 0
    ∷ at_origin (1 ∷ []) (replicate 3 (pos 0)) (at 0 0 1099511627777) 0
    ∷ lookup_of (0 ∷ 0 ∷ 9 ∷ 0 ∷ 0 ∷ 1 ∷ []) [] [] [] (negsuc 1099511627776 ∷ pos 0 ∷ pos 0 ∷ []) (at 0 0 0) 0
    ∷ lookup_of (rows (1 ∷ [])) (replicate 3 (f32 0)) (replicate 3 nan) [] [] (at 0 0 0) 0
    ∷ at_origin (1 ∷ []) (negsuc 1099511627775 ∷ pos 0 ∷ pos 0 ∷ []) (at 1099511627776 0 0) 0
    ∷ []
    ≡ Refused 65 ∷ Refused 65 ∷ Refused 65 ∷ Refused 65 ∷ Refused 23 ∷ Found [] ∷ []
unfolding evaluation at_origin rows at
refused = refl

-- the next coordinate is refused, on either side, before a place that is too far; a normal that isn't finite comes before it
clamped : alone 0x550637BE (pos 0) (at 0 0 0)
    ∷ alone 0xD50637BE (pos 1099511627777) (at 0 0 0)
    ∷ lookup_of (rows (1 ∷ [])) (replicate 3 (f32 0x7F7FFFFF)) (replicate 3 nan) [] [] (at 0 0 0) 0
    ∷ []
    ≡ Refused 24 ∷ Refused 24 ∷ Refused 23 ∷ []
unfolding evaluation alone rows at
clamped = refl

-- bins in front of a list of three numbers; a refusal leaves it
bins_after_lem : bins_after (at_origin (8 ∷ 4 ∷ []) (replicate 6 (pos 0)) (at 0 0 0) 3) (9 ∷ 9 ∷ 9 ∷ []) ≡ 4 ∷ 8 ∷ 9 ∷ []
unfolding evaluation at_origin rows at
bins_after_lem = refl

bins_kept : bins_after (at_origin (8 ∷ 4 ∷ []) (replicate 6 (pos 0)) (at 0 0 0) 1) (9 ∷ []) ≡ 9 ∷ []
unfolding evaluation at_origin rows at
bins_kept = refl
