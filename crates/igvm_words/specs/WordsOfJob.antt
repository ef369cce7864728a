-- The words of a job, as docs/PROGRAM.md lists them.
use Rattle.std.specs.Prelude.{◌≡◌, ℕ, ◌^◌, ◌<◌, ◌≤◌, true, List, [], ◌∷◌, ◌++◌, codes, if◌then◌else◌, Option, Some, None}
use Rattle.std.specs.Fmt.{decimal}
use Rattle.igvm_headers.specs.declared.options.Options.{Options}
use Rattle.igvm_headers.specs.declared.platform_kind.PlatformKind.TheVariants.{SevSnp, Tdx}
use Rattle.igvm_words.specs.Words.{Job, Build, Print, Measure, Load, Make, PlatformChoice, First, Numbered, is_file_name, choice_text}

-- a platform that words can ask for
abbrev pub IsChoice : PlatformChoice → Type 0
IsChoice (First SevSnp) = Unit {0}
IsChoice (First Tdx) = Unit {0}
IsChoice (First _) = ⊥
IsChoice (Numbered number) = number < 2 ^ 32

-- no file is asked for, or one whose name is a file's
abbrev pub IsImage : Option (List ℕ) → Type 0
IsImage None = Unit {0}
IsImage (Some name) = is_file_name name ≡ true

-- a job that words can ask for
abbrev pub IsJob : Job → Type 0
IsJob (Build list target) = (is_file_name list ≡ true) × (is_file_name target ≡ true)
IsJob (Print file) = is_file_name file ≡ true
IsJob (Measure words) = (is_file_name words.file ≡ true) × IsChoice words.wanted
IsJob (Load words) =
    (is_file_name words.file ≡ true) × (is_file_name words.host ≡ true) × IsChoice words.wanted × IsImage words.image
IsJob (Make count target) = (1 ≤ count) × (count ≤ 100000) × (is_file_name target ≡ true)

-- the words of the options that are set, in their order
abbrev pub options_words : Options → List (List ℕ)
options_words options = if options.native_zero then codes "--native-zero" ∷ [] else []

-- the words that ask for a pages file, where one is
abbrev pub image_words : Option (List ℕ) → List (List ℕ)
image_words None = []
image_words (Some name) = codes "--image" ∷ name ∷ []

-- the words of a job, in their order
abbrev pub words_of : Job → List (List ℕ)
words_of (Build list target) = codes "build" ∷ list ∷ target ∷ []
words_of (Print file) = codes "print" ∷ file ∷ []
words_of (Measure words) =
    codes "measure" ∷ words.file ∷ codes "--platform" ∷ choice_text words.wanted ∷ options_words words.options
words_of (Load words) =
    codes "load" ∷ words.file ∷ words.host ∷ codes "--platform" ∷ choice_text words.wanted
    ∷ options_words words.options ++ image_words words.image
words_of (Make count target) = codes "make" ∷ decimal count ∷ target ∷ []

-- the words are exactly those of a job
pub record Means (words : List (List ℕ)) (job : Job) : Type 0 where
  pub possible : IsJob job
  pub same : words ≡ words_of job
