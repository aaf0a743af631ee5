-- An answer is written whole where there is room for the longest. Assumes nothing.
use Rattle.std.specs.Prelude.{List, ◌++◌, ◌≡◌, ℕ, ◌+◌, ◌≤◌, length, take, drop}
use Rattle.std.proofs.Common.{sym, ◌∙◌, ap, arith, length-append, take_all, take_at}
use Rattle.bench_call_texts.specs.Told.{Told}

-- the bytes written stand in the slice
pub told_count : (lines : ℕ) (E W text : List ℕ) (r : ℕ) → Told lines E text W r → r ≤ length W
told_count lines E W text r v =
    omega (arith, v.written.count, ap length v.written.out, length-append (take (length E) text) (drop (length text) E))

-- Where there is room for the lines of the mesh and 504 bytes more, there is room for every answer: the front is the whole text.
pub told_whole : (lines : ℕ) (E W text : List ℕ) (r : ℕ) → Told lines E text W r → lines + 504 ≤ length E → take r W ≡ text
told_whole lines E W text r v h =
    let all : take (length E) text ≡ text = take_all (length E) text (omega (arith, v.few)) in
    ap (take r) v.written.out ∙ ap (λ (xs : List ℕ). take r (xs ++ drop (length text) E)) all ∙ take_at text (drop (length text) E) r (sym (v.written.count ∙ ap length all))
