-- the table's step is the step bit by bit
use Rattle.std.proofs.Common.{ap, ◌∙◌}
use Rattle.igvm_headers.specs.Checksum.{crc_step}
use Rattle.igvm_headers.proofs.Checksum.{crc_step-table}
use Rattle.igvm_headers.proofs.crc.crc_byte.Goals as goal

pub returns : goal.returns
returns c = crc_step-table c.args.state c.from.result ∙ ap (crc_step c.args.state) c.from.ensures
