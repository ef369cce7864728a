-- the message is the bytes alone, fed after nothing
use Rattle.std.proofs.Common.{[]}
use Rattle.igvm_headers.proofs.crc.crc32.Goals as goal

pub returns : goal.returns
returns c = c.crc_end.ensures c.args.bytes.now (c.crc_more.ensures [] c.crc_begin.ensures)
