-- `put_body` meets its contract. Assumes nothing.
use Rattle.stitch_copy.proofs.PutLaws.{put_room, put_copied}
use Rattle.stitch_copy.proofs.put.put_body.Goals as goal

pub copy_body-requires : goal.copy_body-requires
copy_body-requires c = search put_room

pub returns-then-kept-eq0 : goal.returns-then-kept-eq0
returns-then-kept-eq0 c = search put_copied
