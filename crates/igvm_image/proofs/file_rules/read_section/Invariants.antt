use Rattle.std.proofs.Common.{length}
use Rattle.igvm_image.proofs.Walking.{Walking}
use Rattle.igvm_image.proofs.file_rules.read_section.Given as goal

abbrev pub invariant-headers : goal.invariant-headers
invariant-headers l = Walking l.total l.start l.seen l.count l.section l.rest

abbrev pub decreases-headers : goal.decreases-headers
decreases-headers l = length l.rest
