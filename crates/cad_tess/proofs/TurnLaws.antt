-- Laws of cad_turn. Assumes nothing.
use Rattle.std.specs.Prelude.{Result, Ok, Err}
use mathlib.Core.Path.{◌≡◌, refl, ap, ◌∙◌}
use mathlib.Core.Bool.{Bool, true, false}
use mathlib.Core.List.{List}
use Prim.Native.Nat.{ℕ}
use lib.Dec.{eqb}
use lib.ListN.{length}
use lib.Ieee.{Float}
use Rattle.turn_definition.specs.declared.TurnCounts.{TurnCounts}
use Rattle.point_rules.specs.Rule.{Rule, names}
use Rattle.join_definition.specs.Join.{joined}
use Rattle.body_rows.specs.Body.{rows_of, patches_of, first_failing}
use Rattle.body_refusals.specs.BodyChecks.{body_checks}
use Rattle.turn_definition.specs.Orient.{AfterTurn, walks_of, turn_body, refuse_turn, turn_of}
use Rattle.turn_definition.specs.Answers.{Left, left, answered}
use Rattle.turn_volume_rule.specs.Exact.{F32s}
use Rattle.turn_volume_rule.specs.VolumeRule.{KeepsVolume}
use Rattle.turn_volume_rule.proofs.Rule.{volume_kept}
use Rattle.cad_answers.specs.declared.turning.CadTurned.{CadTurned}
use Rattle.cad_answers.specs.Turning.{cad_turned, left_after_turn}
use Rattle.cad_tess.proofs.Told.{either}

-- the struct and the slices of a call
abbrev flat : Left → AfterTurn
flat l = left_after_turn (cad_turned l.answer) l.normals l.indices l.work

-- a refusal holds its number only
refused_told : (n : ℕ) (ns : List Float) (is work : List ℕ) → eqb n 0 ≡ false → flat (answered (refuse_turn n ns is work)) ≡ refuse_turn n ns is work
unfolding refuse_turn
refused_told n ns is work e =
    ap (λ (b : Bool). left_after_turn (cad_turned (elim b [ true ↦ Ok (record { turned = 0; against = 0 }) | false ↦ Err n ])) ns is work) e

module _ (rule : Rule) (table : List ℕ) (ps ns : List Float) (is work : List ℕ) where
  -- the struct holds all that the definition says
  all_told : flat (answered (turn_of rule table ps ns is work)) ≡ turn_of rule table ps ns is work
  unfolding turn_of turn_body
  all_told =
      let n = first_failing (body_checks table ps ns is (length work)) in
      either (λ t. flat (answered t) ≡ t) (eqb n 0) (turn_body (rows_of table) (patches_of (rows_of table) ps ns is) (walks_of (patches_of (rows_of table) ps ns is) (joined (names rule ps))) work)
      (refuse_turn n ns is work) refl (refused_told n ns is work)

  -- what the call leaves
  pub call_left : {t : Result TurnCounts ℕ} {r : CadTurned} {ns' : List Float} {is' work' : List ℕ} → left t ns' is' work' ≡ answered (turn_of rule table ps ns is work) → r ≡ cad_turned t
      → left_after_turn r ns' is' work' ≡ turn_of rule table ps ns is work
  call_left {t} {r} {ns'} {is'} {work'} e f = ap (λ (c : CadTurned). left_after_turn c ns' is' work') f ∙ ap flat e ∙ all_told

  -- and that it keeps the volume rule
  pub call_kept : {t : Result TurnCounts ℕ} {r : CadTurned} {ns' : List Float} {is' work' : List ℕ} → F32s ps
      → left t ns' is' work' ≡ answered (turn_of rule table ps ns is work) → r ≡ cad_turned t → r.refusal ≡ 0 → KeepsVolume rule table ps ns is ns' is'
  call_kept {t} {r} {ns'} {is'} {work'} k e f h = volume_kept rule table ps ns is work (left_after_turn r ns' is' work') k (call_left e f) h
