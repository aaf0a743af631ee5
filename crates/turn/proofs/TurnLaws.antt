-- Laws of the call: a body is turned or refused. Assumes nothing.
use Rattle.std.specs.Prelude.{Ok, Err}
use mathlib.Core.Path.{◌≡◌, refl, sym, ap, ◌∙◌}
use mathlib.Core.Bool.{Bool, true, false}
use mathlib.Core.List.{List}
use Prim.Native.Nat.{ℕ, ◌<◌}
use native.Mathlib.Omega.{arith}
use lib.ListN.{length}
use lib.Ieee.{Float}
use borrow.Author.Tests.{eq-eqb, ne_eqb}
use Rattle.point_rules.specs.Points.{key}
use Rattle.body_rows.specs.Body.{first_failing}
use Rattle.body_refusals.specs.BodyChecks.{body_checks}
use Rattle.body_checks.specs.Accepted.{Passed, passed}
use Rattle.turn_definition.specs.declared.TurnCounts.{TurnCounts}
use Rattle.turn_definition.specs.Orient.{refuse_turn, turn_of}
use Rattle.turn_definition.specs.Answers.{left, left_done, answered, turn_done}
use Rattle.turn_volume_rule.specs.Exact.{F32s}
use Rattle.turn_volume_rule.specs.VolumeRule.{KeepsVolume}
use Rattle.turn_volume_rule.proofs.Rule.{volume_kept}

module _ (table : List ℕ) (ps ns : List Float) (is W : List ℕ) {refusal : ℕ} (f : refusal ≡ first_failing (body_checks table ps ns is (length W))) where
  -- a body that no check refuses has passed them
  pub body_passed : refusal ≡ 0 → Passed table ps ns is (length W)
  body_passed e = passed table ps ns is (length W) (sym f ∙ e)

  -- the definition turns such a body
  turn_done_lem : refusal ≡ 0 → turn_of key table ps ns is W ≡ turn_done table ps ns is W
  unfolding turn_of
  turn_done_lem e = rw (eq-eqb (first_failing (body_checks table ps ns is (length W))) 0 (sym f ∙ e), turn_of)

  -- and refuses any other
  turn_refused : (refusal ≡ 0 → ⊥) → turn_of key table ps ns is W ≡ refuse_turn (first_failing (body_checks table ps ns is (length W))) ns is W
  unfolding turn_of
  turn_refused e = rw (ne_eqb (first_failing (body_checks table ps ns is (length W))) 0 (λ q. e (f ∙ q)), turn_of)

  -- such a body is turned
  pub call_done : {c : TurnCounts} {ns' : List Float} {is' W' : List ℕ} → refusal ≡ 0 → left_done c ns' is' W' ≡ turn_done table ps ns is W
      → left (Ok c) ns' is' W' ≡ answered (turn_of key table ps ns is W)
  call_done e t = ap answered (t ∙ sym (turn_done_lem e))

  -- and keeps the volume rule
  pub call_kept : {c : TurnCounts} {ns' : List Float} {is' W' : List ℕ} → F32s ps → refusal ≡ 0 → left_done c ns' is' W' ≡ turn_done table ps ns is W
      → KeepsVolume key table ps ns is ns' is'
  call_kept {c} {ns'} {is'} {W'} k e t = volume_kept key table ps ns is W (left_done c ns' is' W') k (t ∙ sym (turn_done_lem e)) refl

  -- any other is refused
  pub call_refused : (refusal ≡ 0 → ⊥) → left (Err refusal) ns is W ≡ answered (turn_of key table ps ns is W)
  unfolding refuse_turn
  call_refused e =
      ap (λ (b : Bool). left (elim b [ true ↦ Ok (record { turned = 0; against = 0 }) | false ↦ Err refusal ]) ns is W) (sym (ne_eqb refusal 0 e))
      ∙ ap (λ (k : ℕ). answered (refuse_turn k ns is W)) f
      ∙ ap answered (sym (turn_refused e))

-- ---- the call, whatever form the code gives its refusal

-- what a check refuses, the definition refuses with the first that fails, and nothing is changed
pub refused_answered : (table : List ℕ) (ps ns : List Float) (is W : List ℕ) → 0 < first_failing (body_checks table ps ns is (length W))
    → answered (turn_of key table ps ns is W) ≡ left (Err (first_failing (body_checks table ps ns is (length W)))) ns is W
refused_answered table ps ns is W h = sym (call_refused table ps ns is W refl (λ z. omega (arith, h, z)))
