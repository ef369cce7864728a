-- `strip FILE OUT --platform P`.
use Rattle.std.specs.Prelude.{ℕ, List}
use Rattle.platform_masks.specs.declared.platform.Platform.{Platform}
use Rattle.further_words.specs.FurtherWords.{StripWords}
use Rattle.image_ops.specs.Stripped.{stripped}
use Rattle.igvm_jobs.specs.BuildJob.{parts_outcome}
use Rattle.igvm_jobs.specs.MeasureJob.{platform_outcome, wanted_platform}
use Rattle.igvm_jobs.specs.Outcome.{Outcome}
use Rattle.igvm_jobs.specs.Tasks.{Task}
use Rattle.operation_jobs.specs.StoredData.{data_outcome, image_task}

-- of a platform of an accepted image: the image of the list that is stripped to it is written
abbrev pub stripped_for : List ℕ → List ℕ → Platform → Outcome
stripped_for target bytes platform =
    data_outcome (λ list. parts_outcome target (stripped platform.mask list)) bytes

-- of an accepted image
unfoldable pub stripped_outcome : StripWords → List ℕ → Outcome
stripped_outcome words bytes =
    platform_outcome words.wanted (stripped_for words.target bytes) (wanted_platform bytes words.wanted)

-- FILE is read, and OUT is written
abbrev pub strip_task : StripWords → Task
strip_task words = image_task words.file words.target (stripped_outcome words)
