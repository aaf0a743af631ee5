-- The proof of the cycle of calls {read_group, read_item}. What remains of the text falls: a group's measure is one more than twice its bytes, an item's is
-- twice its bytes, so an item of a group falls at the same place, and a group of an item behind its line. Assumes nothing.
use Prim.Native.Nat.{◌+◌, ◌-◌, ◌*◌}
use lib.ListN.{length}
use Rattle.plan_read.proofs.GroupLaws.{Reached}
use Rattle.plan_read.proofs.groups.+read_group_read_item.Given as goal

abbrev pub decreases-read_group : goal.decreases-read_group
decreases-read_group l = 2 * (length l.text.now - l.at) + 1

abbrev pub decreases-read_item : goal.decreases-read_item
decreases-read_item l = 2 * (length l.text.now - l.at)

abbrev pub invariant-read_group-loop-s : goal.invariant-read_group-loop-s
invariant-read_group-loop-s l = Reached l.text l.path.depth l.path.sum l.at l.count l.room l.initial.entries l.entries l.next l.standing

abbrev pub decreases-read_group-loop-s : goal.decreases-read_group-loop-s
decreases-read_group-loop-s l = length l.text - l.next
