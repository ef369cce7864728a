-- Which words ask for which further job, and which for a job of any command.
use Rattle.std.specs.Prelude.{ℕ, List, [], ◌∷◌, ◌&&◌, codes, if◌then◌else◌, Option, Some, None}
use Rattle.std.specs.Option.{option_map}
use Rattle.igvm_headers.specs.declared.options.Options.{Options}
use Rattle.igvm_headers.specs.declared.platform_kind.PlatformKind.TheVariants.{Sev, SevEs}
use Rattle.igvm_words.specs.Words.{Job, job_of, PlatformChoice, Numbered, choice_of, is_text, is_file_name, measure_options, number_of}
use Rattle.igvm_words.specs.Words as words

-- what an image with the pages of an ELF file is built of
pub record ElfWords : Type 0 where
  pub list : List ℕ
  pub elf : List ℕ
  pub mask : ℕ
  pub target : List ℕ

-- what is loaded for which SEV or SEV-ES platform, and on which host
pub record SevLoadWords : Type 0 where
  pub file : List ℕ
  pub host : List ℕ
  pub wanted : PlatformChoice

-- which platform an image is stripped to, and the name of the image that comes out
pub record StripWords : Type 0 where
  pub file : List ℕ
  pub target : List ℕ
  pub wanted : PlatformChoice

-- which images are joined, and the name of the image that comes out
pub record JoinWords : Type 0 where
  pub first : List ℕ
  pub second : List ℕ
  pub target : List ℕ

-- for which platform an image is sealed, by which options, and the name of the image that comes out
pub record SealWords : Type 0 where
  pub file : List ℕ
  pub target : List ℕ
  pub wanted : PlatformChoice
  pub options : Options

-- what the program is asked to do, beside its first jobs
pub data FurtherJob : Type 0 where
  SevMeasure : (file : List ℕ) (wanted : PlatformChoice) → FurtherJob
  SevLoad : (words : SevLoadWords) → FurtherJob
  VmsaBuild : (json target : List ℕ) → FurtherJob
  VmsaPrint : (file : List ℕ) → FurtherJob
  BuildElf : (words : ElfWords) → FurtherJob
  Strip : (words : StripWords) → FurtherJob
  Join : (words : JoinWords) → FurtherJob
  Seal : (words : SealWords) → FurtherJob

-- what the program is asked to do: one of its first jobs, or a further one
pub data AnyJob : Type 0 where
  First : (job : Job) → AnyJob
  Further : (job : FurtherJob) → AnyJob

-- the SEV or SEV-ES platform that a word asks for: the first of its kind, or the one of a number
unfoldable pub sev_choice_of : List ℕ → Option PlatformChoice
sev_choice_of word =
    if is_text word (codes "sev") then Some (words.First Sev)
    else (if is_text word (codes "sev_es") then Some (words.First SevEs) else option_map Numbered (number_of word))

-- ---- further jobs

-- `FILE --platform P`, and no option
abbrev pub sev_measure_job : List (List ℕ) → Option FurtherJob
sev_measure_job (file ∷ option ∷ platform ∷ []) =
    if is_file_name file && is_text option (codes "--platform")
    then option_map (λ wanted. SevMeasure file wanted) (sev_choice_of platform) else None
sev_measure_job _ = None

-- `FILE HOST --platform P`, and no option
abbrev pub sev_load_job : List (List ℕ) → Option FurtherJob
sev_load_job (file ∷ host ∷ option ∷ platform ∷ []) =
    if is_file_name file && is_file_name host && is_text option (codes "--platform")
    then option_map (λ wanted. SevLoad (record { file = file; host = host; wanted = wanted })) (sev_choice_of platform) else None
sev_load_job _ = None

-- `JSON OUT`
abbrev pub vmsa_build_job : List (List ℕ) → Option FurtherJob
vmsa_build_job (json ∷ target ∷ []) =
    if is_file_name json && is_file_name target then Some (VmsaBuild json target) else None
vmsa_build_job _ = None

-- `FILE`
abbrev pub vmsa_print_job : List (List ℕ) → Option FurtherJob
vmsa_print_job (file ∷ []) = if is_file_name file then Some (VmsaPrint file) else None
vmsa_print_job _ = None

-- `LIST ELF MASK OUT`
abbrev pub build_elf_job : List (List ℕ) → Option FurtherJob
build_elf_job (list ∷ elf ∷ number ∷ target ∷ []) =
    if is_file_name list && is_file_name elf && is_file_name target
    then option_map (λ mask. BuildElf (record { list = list; elf = elf; mask = mask; target = target })) (number_of number) else None
build_elf_job _ = None

-- `FILE OUT --platform P`
abbrev pub strip_job : List (List ℕ) → Option FurtherJob
strip_job (file ∷ target ∷ option ∷ platform ∷ []) =
    if is_file_name file && is_file_name target && is_text option (codes "--platform")
    then option_map (λ wanted. Strip (record { file = file; target = target; wanted = wanted })) (choice_of platform) else None
strip_job _ = None

-- `FILE FILE OUT`
abbrev pub join_job : List (List ℕ) → Option FurtherJob
join_job (first ∷ second ∷ target ∷ []) =
    if is_file_name first && is_file_name second && is_file_name target
    then Some (Join (record { first = first; second = second; target = target })) else None
join_job _ = None

-- a file is sealed, where a platform and options are asked for
abbrev pub sealed_as : List ℕ → List ℕ → Option PlatformChoice → Option Options → Option FurtherJob
sealed_as file target (Some wanted) (Some options) =
    Some (Seal (record { file = file; target = target; wanted = wanted; options = options }))
sealed_as file target _ _ = None

-- `FILE OUT --platform P`, and the options
abbrev pub seal_job : List (List ℕ) → Option FurtherJob
seal_job (file ∷ target ∷ option ∷ platform ∷ tail) =
    if is_file_name file && is_file_name target && is_text option (codes "--platform")
    then sealed_as file target (choice_of platform) (measure_options tail) else None
seal_job _ = None

-- the further job that these words mean, if they mean one
unfoldable pub further_of : List (List ℕ) → Option FurtherJob
further_of [] = None
further_of (command ∷ words) =
    if is_text command (codes "sev-measure") then sev_measure_job words
    else (if is_text command (codes "sev-load") then sev_load_job words
    else (if is_text command (codes "vmsa-build") then vmsa_build_job words
    else (if is_text command (codes "vmsa-print") then vmsa_print_job words
    else (if is_text command (codes "build-elf") then build_elf_job words
    else (if is_text command (codes "strip") then strip_job words
    else (if is_text command (codes "join") then join_job words
    else (if is_text command (codes "seal") then seal_job words else None)))))))

-- ---- jobs of any command

-- the further job where there is one, else the first one where there is one
abbrev pub either_job : Option FurtherJob → Option Job → Option AnyJob
either_job (Some further) first = Some (Further further)
either_job None first = option_map First first

-- the job that these words mean, if they mean one
unfoldable pub any_job_of : List (List ℕ) → Option AnyJob
any_job_of words = either_job (further_of words) (job_of words)
