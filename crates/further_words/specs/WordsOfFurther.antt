-- The words of a further job.
use Rattle.std.specs.Prelude.{◌≡◌, ℕ, ◌^◌, ◌<◌, true, List, [], ◌∷◌, codes}
use Rattle.std.specs.Fmt.{decimal}
use Rattle.igvm_headers.specs.declared.platform_kind.PlatformKind.TheVariants.{Sev, SevEs}
use Rattle.igvm_words.specs.Words.{PlatformChoice, First, Numbered, choice_text, is_file_name}
use Rattle.igvm_words.specs.WordsOfJob.{IsChoice, options_words}
use Rattle.further_words.specs.FurtherWords.{FurtherJob, SevMeasure, SevLoad, VmsaBuild, VmsaPrint, BuildElf, Strip, Join, Seal}

-- a platform that words can ask for where SEV digests are wanted
abbrev pub IsSevChoice : PlatformChoice → Type 0
IsSevChoice (First Sev) = Unit {0}
IsSevChoice (First SevEs) = Unit {0}
IsSevChoice (First _) = ⊥
IsSevChoice (Numbered number) = number < 2 ^ 32

-- a further job that words can ask for
abbrev pub IsFurther : FurtherJob → Type 0
IsFurther (SevMeasure file wanted) = (is_file_name file ≡ true) × IsSevChoice wanted
IsFurther (SevLoad words) =
    (is_file_name words.file ≡ true) × (is_file_name words.host ≡ true) × IsSevChoice words.wanted
IsFurther (VmsaBuild json target) = (is_file_name json ≡ true) × (is_file_name target ≡ true)
IsFurther (VmsaPrint file) = is_file_name file ≡ true
IsFurther (BuildElf words) =
    (is_file_name words.list ≡ true) × (is_file_name words.elf ≡ true) × (words.mask < 2 ^ 32) × (is_file_name words.target ≡ true)
IsFurther (Strip words) = (is_file_name words.file ≡ true) × (is_file_name words.target ≡ true) × IsChoice words.wanted
IsFurther (Join words) =
    (is_file_name words.first ≡ true) × (is_file_name words.second ≡ true) × (is_file_name words.target ≡ true)
IsFurther (Seal words) = (is_file_name words.file ≡ true) × (is_file_name words.target ≡ true) × IsChoice words.wanted

-- the words of a further job, in their order
abbrev pub further_words : FurtherJob → List (List ℕ)
further_words (SevMeasure file wanted) =
    codes "sev-measure" ∷ file ∷ codes "--platform" ∷ choice_text wanted ∷ []
further_words (SevLoad words) =
    codes "sev-load" ∷ words.file ∷ words.host ∷ codes "--platform" ∷ choice_text words.wanted ∷ []
further_words (VmsaBuild json target) = codes "vmsa-build" ∷ json ∷ target ∷ []
further_words (VmsaPrint file) = codes "vmsa-print" ∷ file ∷ []
further_words (BuildElf words) = codes "build-elf" ∷ words.list ∷ words.elf ∷ decimal words.mask ∷ words.target ∷ []
further_words (Strip words) =
    codes "strip" ∷ words.file ∷ words.target ∷ codes "--platform" ∷ choice_text words.wanted ∷ []
further_words (Join words) = codes "join" ∷ words.first ∷ words.second ∷ words.target ∷ []
further_words (Seal words) =
    codes "seal" ∷ words.file ∷ words.target ∷ codes "--platform" ∷ choice_text words.wanted ∷ options_words words.options

-- the words are exactly those of a further job
pub record MeansFurther (words : List (List ℕ)) (job : FurtherJob) : Type 0 where
  pub possible : IsFurther job
  pub same : words ≡ further_words job
