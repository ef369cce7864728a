-- the state so far is the state after the bytes so far
use Rattle.std.proofs.Common.{◌≡◌, fold, take}
use Rattle.igvm_headers.specs.Checksum.{crc_step}
use Rattle.igvm_headers.proofs.crc.crc_more.Given as goal

abbrev pub invariant-bytes : goal.invariant-bytes
invariant-bytes l = l.now ≡ fold crc_step l.state (take l.byte-index l.bytes)
