use Rattle.std.proofs.Common.{◌≡◌, length, map, take}
use Rattle.byteorder.specs.Endian.{little_from}
use Rattle.vmsa_page.specs.Fields.{numbers}
use Rattle.vmsa_page.proofs.page_reader.numbers_of.Given as goal

abbrev pub invariant-steps : goal.invariant-steps
invariant-steps l = (length l.found ≡ 13) × (take l.place l.found ≡ map (λ f. little_from f.offset 8 l.page) (take l.place numbers))
