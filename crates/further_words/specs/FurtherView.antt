-- A further job as the code lends its words.
use Rattle.further_words.specs.declared.job.FurtherJob as code
use Rattle.further_words.specs.declared.job.FurtherJob.TheVariants as is
use Rattle.further_words.specs.declared.job.ElfWords as elf
use Rattle.further_words.specs.declared.job.SevLoadWords as sev
use Rattle.further_words.specs.declared.job.StripWords as strip_words
use Rattle.further_words.specs.declared.job.JoinWords as join_words
use Rattle.further_words.specs.declared.job.SealWords as seal_words
use Rattle.igvm_words.specs.JobView.{choice_view}
use Rattle.further_words.specs.FurtherWords.{FurtherJob, SevMeasure, SevLoad, VmsaBuild, VmsaPrint, BuildElf, Strip, Join, Seal, SevLoadWords, ElfWords, StripWords, JoinWords, SealWords}

-- what is loaded for which SEV or SEV-ES platform, and on which host
abbrev pub sev_load_view : sev.SevLoadWords → SevLoadWords
sev_load_view words = record { file = words.file.now; host = words.host.now; wanted = choice_view words.wanted }

-- what an image with the pages of an ELF file is built of
abbrev pub elf_view : elf.ElfWords → ElfWords
elf_view words = record { list = words.list.now; elf = words.elf.now; mask = words.mask; target = words.target.now }

-- which platform an image is stripped to
abbrev pub strip_view : strip_words.StripWords → StripWords
strip_view words = record { file = words.file.now; target = words.target.now; wanted = choice_view words.wanted }

-- which images are joined
abbrev pub join_view : join_words.JoinWords → JoinWords
join_view words = record { first = words.first.now; second = words.second.now; target = words.target.now }

-- for which platform an image is sealed
abbrev pub seal_view : seal_words.SealWords → SealWords
seal_view words =
    record { file = words.file.now; target = words.target.now; wanted = choice_view words.wanted; options = words.options }

-- a further job
abbrev pub further_view : code.FurtherJob → FurtherJob
further_view (is.SevMeasure file wanted) = SevMeasure file.now (choice_view wanted)
further_view (is.SevLoad words) = SevLoad (sev_load_view words)
further_view (is.VmsaBuild json target) = VmsaBuild json.now target.now
further_view (is.VmsaPrint file) = VmsaPrint file.now
further_view (is.BuildElf words) = BuildElf (elf_view words)
further_view (is.Strip words) = Strip (strip_view words)
further_view (is.Join words) = Join (join_view words)
further_view (is.Seal words) = Seal (seal_view words)
