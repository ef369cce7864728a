use Rattle.vmsa_page.proofs.PageLaws.{bytes_by}
use Rattle.vmsa_page.proofs.PagesRead.{vmsa_fits}
use Rattle.vmsa_page.proofs.page_reader.read_page.Goals as goal

pub from_parts-requires : goal.from_parts-requires
from_parts-requires c =
    vmsa_fits c.args.page.now _ _ _ c.segments_of.ensures c.numbers_of.ensures c.in_ok-other.ensures (bytes_by c.args.page.now c.note_bytes.ensures) c.requires
