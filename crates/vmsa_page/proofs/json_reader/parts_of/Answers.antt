use Rattle.std.proofs.Common.{rules}
use Rattle.std.proofs.lemmas.List.Elements.{recursion_from_All}
use Rattle.vmsa_page.proofs.FieldsInOrder.{default_holds}
use Rattle.vmsa_page.proofs.json_reader.parts_of.Goals as goal

pub from_parts-requires : goal.from_parts-requires
from_parts-requires c =
    record { ten = search rules; segments = c.in_ok-segments.ensures.fits; thirteen = search rules; numbers = recursion_from_All _ c.in_ok-numbers.numbers c.note_numbers.ensures; other = default_holds _ c.in_ok-other.other.items c.in_ok-other.ensures.read }
