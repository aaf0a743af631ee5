-- `scan` meets its contract. Assumes nothing.
use Rattle.sheet_lines.proofs.ScanLaws.{Scanning}
use Rattle.sheet_lines.proofs.scanning.scan.Given as goal

abbrev pub invariant-loop-p : goal.invariant-loop-p
invariant-loop-p l = Scanning l.line l.form l.initial.numbers l.numbers l.at l.count l.p-index
