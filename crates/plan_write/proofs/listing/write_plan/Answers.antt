-- `write_plan` meets its contract. Assumes nothing.
use Rattle.std.proofs.Common.{◌≡◌, rules, Err}
use Rattle.refusals.specs.Laws.{number_nonzero}
use Rattle.refusals.specs.Numbers.{number, numbered}
use Rattle.plan_write.proofs.ListingLaws.{listing_refused, listing_short, listing_written, none_offends, text_fits}
use Rattle.plan_write.proofs.listing.write_plan.Goals as goal

pub returns-in_err-length : goal.returns-in_err-length
returns-in_err-length c =
    let told : numbered c.from_residual.result ≡ Err (number c.in_err-length.field-0.0) = search rules in
    rw told (search (rules, listing_refused, number_nonzero, c.in_err-length.ensures))

pub returns-then-out-length : goal.returns-then-out-length
returns-then-out-length c = search (rules, listing_short, c.in_ok-length.ensures)

pub put_listing-requires : goal.put_listing-requires
put_listing-requires c = search (rules, none_offends, text_fits, c.in_ok-length.ensures)

pub returns : goal.returns
returns c = search (rules, listing_written, c.in_ok-length.ensures)
