use Rattle.std.proofs.Common.{◌≡◌, ℕ, List, refl}
use Rattle.igvm_headers.specs.declared.tag.Tag.{Tag}
use Rattle.igvm_headers.specs.declared.tag.Tag.TheVariants.{Normal, Zero, Unmeasured, Secrets, Cpuid}
use Rattle.snp_chain.specs.Tagged.{contents_by}
use Rattle.igvm_measure.specs.Measured.{bytes_if, has_bytes}
use Rattle.igvm_measure.specs.Records.{contents_of}
use Rattle.igvm_measure.proofs.laws.tagged_contents.Goals as goal

by_tag : (tag : Tag) (page : List ℕ) → contents_of (bytes_if (has_bytes tag) page) ≡ contents_by tag page
by_tag Normal page = refl
by_tag Zero page = refl
by_tag Unmeasured page = refl
by_tag Secrets page = refl
by_tag Cpuid page = refl

pub returns : goal.returns
returns c = by_tag
