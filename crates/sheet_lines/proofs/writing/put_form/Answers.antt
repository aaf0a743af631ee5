-- `put_form` meets its contract. Assumes nothing.
use Rattle.sheet_lines.proofs.WriteLaws.{formed_all, formed_more, formed_none, formed_short}
use Rattle.std.proofs.Common.{◌≡◌, ◌∙◌, ap, arith, get_or}
use Rattle.std.specs.Prelude.{unwrap_or}
use borrow.Author.Rules.{rules}
use Rattle.sheet_lines.proofs.writing.put_form.Goals as goal

pub loop-p-init : goal.loop-p-init
loop-p-init c = search (rules, formed_none)

pub returns-then-numbers-count : goal.returns-then-numbers-count
returns-then-numbers-count c = search (rules, formed_short)

pub loop-p-preserved : goal.loop-p-preserved
loop-p-preserved c =
    let v : c.unwrap_or-v.result ≡ get_or c.args.numbers.now c.loop-p.count 0 =
    c.unwrap_or-v.ensures ∙ ap (λ o. unwrap_or o 0) c.copied.ensures ∙ c.get.ensures.lookup.4 (omega arith) 0 in
    search (rules, formed_more)

pub returns : goal.returns
returns c = search (rules, formed_all)
