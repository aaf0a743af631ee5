-- `same_name` meets its contract. Assumes nothing.
use Rattle.join_table.proofs.Naming.{digests_differ, bits_both, bits_decide, words_decide, zeros_both, zeros_decide}
use Rattle.join_table.proofs.same_name.Goals as goal

pub returns-then-w-k : goal.returns-then-w-k
returns-then-w-k c = search digests_differ

pub same_bits-requires : goal.same_bits-requires
same_bits-requires c = search bits_both

pub same_bits-requires-in-Zeros : goal.same_bits-requires-in-Zeros
same_bits-requires-in-Zeros c = search zeros_both

pub returns-in-Words : goal.returns-in-Words
returns-in-Words c = search words_decide

pub returns-in-Bits : goal.returns-in-Bits
returns-in-Bits c = search bits_decide

pub returns-in-Zeros : goal.returns-in-Zeros
returns-in-Zeros c = search zeros_decide
