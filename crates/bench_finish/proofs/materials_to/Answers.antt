-- `materials_to` meets its contract. Assumes nothing.
use Rattle.bench_finish.proofs.SheetLaws.{whole_materials}
use borrow.Author.Rules.{rules}
use Rattle.bench_finish.proofs.materials_to.Goals as goal

pub returns-then-s-n : goal.returns-then-s-n
returns-then-s-n c = search (rules, whole_materials)
