-- `bad_places` meets its contract. Assumes nothing.
use Rattle.peg.proofs.RangeLaws.{enough_places, peg_out, places_few, places_tested}
use borrow.Author.Rules.{rules}
use Rattle.peg.proofs.places.bad_places.Goals as goal

pub returns-then-not-place_in_range : goal.returns-then-not-place_in_range
returns-then-not-place_in_range c = search (rules, peg_out)

pub returns-then-places-n : goal.returns-then-places-n
returns-then-places-n c = search (rules, places_few)

pub any_out_of_range-requires : goal.any_out_of_range-requires
any_out_of_range-requires c = search (rules, enough_places)

pub returns : goal.returns
returns c = search (rules, places_tested)
