-- `nearest_bins` meets its contract. Assumes nothing.
use Rattle.std.proofs.Common.{◌≡◌, arith, rules}
use Rattle.refusals.specs.Numbers.{failing}
use Rattle.peg.proofs.LookupLaws.{lookup_listed, lookup_misplaced, ranged}
use Rattle.peg.proofs.lookup.nearest_bins.Goals as goal

pub returns-then-bad_places : goal.returns-then-bad_places
returns-then-bad_places c =
    let passed : failing c.failing_before_work.result ≡ 0 = grind arith in
    search (rules, lookup_misplaced, passed)

pub placed_bins-requires : goal.placed_bins-requires
placed_bins-requires c =
    let passed : failing c.failing_before_work.result ≡ 0 = grind arith in
    search (rules, ranged, passed)

pub returns : goal.returns
returns c =
    let passed : failing c.failing_before_work.result ≡ 0 = grind arith in
    search (rules, lookup_listed, passed)
