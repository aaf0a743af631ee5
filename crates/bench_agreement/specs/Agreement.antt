-- A text that passes no limit of the smaller program prints the same from both. Assumes nothing.
use Rattle.std.specs.Prelude.{◌≡◌, ℕ}
use Rattle.std.proofs.Common.{sym, ◌∙◌, ap, arith}
use Rattle.sheet_line_order.specs.declared.Limits.{Limits}
use Rattle.sheet_line_order.specs.Limits.{bench_limits, yard_limits}
use Rattle.sheet_line_order.specs.Reading.{State}
use Rattle.sheet_answer_text.specs.Answer.{refusal_line}
use Rattle.bench_definition.specs.Finish.{Sheet, finish}
use Rattle.sheet_meaning.specs.Bench.{printed, said}
use Rattle.sheet_meaning.specs.Meaning.{meant}
use Rattle.bench_agreement.specs.Answers.{or_unless, or_refusal}
use Rattle.bench_agreement.specs.Within.{Spacious, Within}
use Rattle.bench_agreement.specs.Reading.{Held, padded, widened}
use Rattle.bench_agreement.specs.Finishing.{finish_said}
use Rattle.bench_agreement.specs.Stitching.{with_faces}

-- a state that was refused prints the refusal
pub refused_said : (s : State) → s.refusal ≡ 52 → said s ≡ refusal_line 52
unfolding said
refused_said s e = ap (λ (n : ℕ). or_refusal n (printed (finish s.limits (meant s.sheet)))) e

-- a state within the smaller program's limits prints the same from both
pub said_same : (small large : Limits) → Within small large → Spacious small → (n : ℕ) (s : State) → s.limits ≡ small → Held small s.sheet → (said s ≡ refusal_line 32 → ⊥)
    → said (widened large n s) ≡ said s
unfolding said widened padded meant
said_same small large w spacious n s e v h =
    let x : Sheet = meant s.sheet in
    let here : printed (finish small x) ≡ printed (finish s.limits x) = ap (λ (l : Limits). printed (finish l x)) (sym e) in
    or_unless s.refusal 32 (printed (finish large (with_faces n x))) (printed (finish s.limits x))
    (λ z k. finish_said small large w spacious x n v.table v.positions v.indices (λ q. k (sym here ∙ q)) ∙ here) h

-- ---- the bench and the yard program

-- no limit of the bench program is above the yard program's
pub bench_within : Within bench_limits yard_limits
unfolding bench_limits yard_limits
bench_within = omega arith

-- the bench program's results may be as large as its bodies
pub bench_spacious : Spacious bench_limits
unfolding bench_limits
bench_spacious = omega arith
