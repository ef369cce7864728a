-- `sev-measure FILE --platform P`.
use Rattle.std.specs.Prelude.{ℕ, List}
use Rattle.platform_masks.specs.declared.platform.Platform.{Platform}
use Rattle.sev_chain.specs.SevBytes.{sev_digest_of}
use Rattle.igvm_words.specs.Words.{PlatformChoice}
use Rattle.igvm_jobs.specs.Texts.{digest_text}
use Rattle.igvm_jobs.specs.Outcome.{Outcome, done}
use Rattle.igvm_jobs.specs.Tasks.{Task}
use Rattle.igvm_jobs.specs.ImageFiles.{file_task}
use Rattle.igvm_jobs.specs.MeasureJob.{wanted_platform, platform_outcome, digest_outcome}

-- of a platform of an accepted image
abbrev pub sev_measured_for : List ℕ → Platform → Outcome
sev_measured_for bytes platform =
    digest_outcome platform.kind (λ digest. done (digest_text digest)) (sev_digest_of bytes platform)

-- of an accepted image
unfoldable pub sev_measured : PlatformChoice → List ℕ → Outcome
sev_measured wanted bytes = platform_outcome wanted (sev_measured_for bytes) (wanted_platform bytes wanted)

-- FILE is read
abbrev pub sev_measure_task : List ℕ → PlatformChoice → Task
sev_measure_task file wanted = file_task file (sev_measured wanted)
