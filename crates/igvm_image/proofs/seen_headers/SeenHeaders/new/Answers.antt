use Rattle.igvm_image.proofs.RoomLemmas.{has_room-none}
use Rattle.igvm_image.proofs.seen_headers.SeenHeaders.new.Goals as goal

pub invariant_of-result : goal.invariant_of-result
invariant_of-result c = rw c.new.ensures has_room-none
