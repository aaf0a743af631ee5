-- `check_listing` meets its contract. Assumes nothing.
use Prim.Native.Nat.{◌-◌}
use Rattle.std.proofs.Common.{◌≡◌, rules, Err}
use Rattle.refusals.specs.Laws.{none_failing, number_nonzero}
use Rattle.refusals.specs.Numbers.{number, numbered}
use Rattle.plan_write.proofs.ListingLaws.{bin_there, checking_all, checking_more, checking_none, checking_refused, checking_room, entry_there}
use Rattle.plan_write.proofs.listing.check_listing.Goals as goal

pub loop-k-init : goal.loop-k-init
loop-k-init c = search (rules, checking_none)

pub entry_words-words-requires : goal.entry_words-words-requires
entry_words-words-requires c = search (rules, entry_there)

pub returns-in_err-check_entry : goal.returns-in_err-check_entry
returns-in_err-check_entry c =
    let told : numbered c.from_residual.result ≡ Err (number c.in_err-check_entry.field-0.0) = search rules in
    rw told (search (rules, checking_refused, number_nonzero, c.in_err-check_entry.ensures))

pub line_length-total-requires : goal.line_length-total-requires
line_length-total-requires c = search (rules, bin_there, none_failing c.in_ok-check_entry.was)

pub overflow_add-total : goal.overflow_add-total
overflow_add-total c = search (rules, checking_room, none_failing c.in_ok-check_entry.was)

pub loop-k-preserved : goal.loop-k-preserved
loop-k-preserved c = search (rules, checking_more, none_failing c.in_ok-check_entry.was)

pub returns : goal.returns
returns c = search (rules, checking_all)
