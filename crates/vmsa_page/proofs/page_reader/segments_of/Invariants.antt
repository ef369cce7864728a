use Rattle.std.proofs.Common.{◌≡◌, length, map, take}
use Rattle.vmsa_page.specs.Fields.{segments}
use Rattle.vmsa_page.specs.Pages.{segment_of}
use Rattle.vmsa_page.proofs.page_reader.segments_of.Given as goal

abbrev pub invariant-steps : goal.invariant-steps
invariant-steps l = (length l.found ≡ 10) × (take l.place l.found ≡ map (segment_of l.page) (take l.place segments))
