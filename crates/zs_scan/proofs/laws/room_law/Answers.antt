use Rattle.zs_scan.proofs.InRoom.{block_in_room}
use Rattle.zs_scan.proofs.laws.room_law.Goals as goal

pub returns : goal.returns
returns c = block_in_room
