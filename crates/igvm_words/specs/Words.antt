-- Which words ask for which job: docs/PROGRAM.md.
use Rattle.std.specs.Prelude.{ℕ, ◌^◌, List, [], ◌∷◌, Bool, true, false, not, length, nat_lt, nat_le, ◌==◌, ◌&&◌, ◌||◌, codes, if◌then◌else◌, Option, Some, None}
use Rattle.std.specs.Option.{option_map}
use Rattle.std.specs.List.{list_all}
use Rattle.std.specs.Char.{is_ascii_digit}
use Rattle.std.specs.Fmt.{decimal}
use Rattle.std.specs.Str.Parse.{digits_value}
use Rattle.igvm_headers.specs.declared.options.Options.{Options}
use Rattle.igvm_headers.specs.PlatformKinds.{kind_text}
use Rattle.igvm_headers.specs.declared.platform_kind.PlatformKind.{PlatformKind}
use Rattle.igvm_headers.specs.declared.platform_kind.PlatformKind.TheVariants.{SevSnp, Tdx}

-- the platform that is asked for: the first of a kind, or the one of a number
pub data PlatformChoice : Type 0 where
  First : (kind : PlatformKind) → PlatformChoice
  Numbered : (number : ℕ) → PlatformChoice

-- what a measurement is asked for
pub record MeasureWords : Type 0 where
  pub file : List ℕ
  pub wanted : PlatformChoice
  pub options : Options

-- what a load is asked for, and the name of the pages file, where one is
pub record LoadWords : Type 0 where
  pub file : List ℕ
  pub host : List ℕ
  pub wanted : PlatformChoice
  pub options : Options
  pub image : Option (List ℕ)

-- what the program is asked to do
pub data Job : Type 0 where
  Build : (list target : List ℕ) → Job
  Print : (file : List ℕ) → Job
  Measure : (words : MeasureWords) → Job
  Load : (words : LoadWords) → Job
  Make : (count : ℕ) (target : List ℕ) → Job

-- ---- words

-- the word for a platform that is asked for
abbrev pub choice_text : PlatformChoice → List ℕ
choice_text (First kind) = kind_text kind
choice_text (Numbered number) = decimal number

-- two texts are one
abbrev pub is_text : List ℕ → List ℕ → Bool
is_text [] [] = true
is_text (a ∷ word) (b ∷ text) = (a == b) && is_text word text
is_text _ _ = false

-- a file's name is not empty and does not begin with `-`
abbrev pub is_file_name : List ℕ → Bool
is_file_name [] = false
is_file_name (first ∷ rest) = not (first == 45)

-- decimal digits, without a leading zero
abbrev pub is_decimal : List ℕ → Bool
is_decimal [] = false
is_decimal (first ∷ rest) = list_all is_ascii_digit (first ∷ rest) && (not (first == 48) || (length rest == 0))

-- the number of 32 bits that a word is
unfoldable pub number_of : List ℕ → Option ℕ
number_of word =
    if is_decimal word && nat_lt (digits_value 10 word) (2 ^ 32) then Some (digits_value 10 word) else None

-- from 1 to 100,000: how many pages an image can be made of
abbrev pub is_count : ℕ → Bool
is_count number = nat_le 1 number && nat_le number 100000

-- a number, where it is such a one
abbrev pub as_count : Option ℕ → Option ℕ
as_count (Some number) = if is_count number then Some number else None
as_count None = None

-- the number of pages that a word is
abbrev pub count_of : List ℕ → Option ℕ
count_of word = as_count (number_of word)

-- the platform that a word asks for
unfoldable pub choice_of : List ℕ → Option PlatformChoice
choice_of word =
    if is_text word (codes "snp") then Some (First SevSnp)
    else (if is_text word (codes "tdx") then Some (First Tdx) else option_map Numbered (number_of word))

-- whether a flag stands first, and the words after it
abbrev pub after_flag : List ℕ → List (List ℕ) → Bool × List (List ℕ)
after_flag flag [] = (false, [])
after_flag flag (word ∷ words) = if is_text word flag then (true, words) else (false, word ∷ words)

-- ---- jobs

-- `LIST OUT`
abbrev pub build_job : List (List ℕ) → Option Job
build_job (list ∷ target ∷ []) = if is_file_name list && is_file_name target then Some (Build list target) else None
build_job _ = None

-- `FILE`
abbrev pub print_job : List (List ℕ) → Option Job
print_job (file ∷ []) = if is_file_name file then Some (Print file) else None
print_job _ = None

-- whether pages are measured as zero pages, where no further word stands
abbrev pub last_options : Bool × List (List ℕ) → Option Options
last_options (native_zero, []) = Some (record { native_zero = native_zero })
last_options (native_zero, _) = None

-- `[--native-zero]`
abbrev pub measure_options : List (List ℕ) → Option Options
measure_options words = last_options (after_flag (codes "--native-zero") words)

-- a file is measured, where a platform and options are asked for
abbrev pub measured_as : List ℕ → Option PlatformChoice → Option Options → Option Job
measured_as file (Some wanted) (Some options) = Some (Measure (record { file = file; wanted = wanted; options = options }))
measured_as file _ _ = None

-- `FILE --platform P`, and the options
abbrev pub measure_job : List (List ℕ) → Option Job
measure_job (file ∷ option ∷ platform ∷ tail) =
    if is_file_name file && is_text option (codes "--platform")
    then measured_as file (choice_of platform) (measure_options tail) else None
measure_job _ = None

-- `[--image OUT]`, where no further word stands
abbrev pub image_option : List (List ℕ) → Option (Option (List ℕ))
image_option [] = Some None
image_option (flag ∷ target ∷ []) =
    if is_text flag (codes "--image") && is_file_name target then Some (Some target) else None
image_option _ = None

-- a file is loaded on a host, where a platform and options are asked for
abbrev pub loaded_as : List ℕ → List ℕ → Option PlatformChoice → Options → Option (Option (List ℕ)) → Option Job
loaded_as file host (Some wanted) options (Some image) =
    Some (Load (record { file = file; host = host; wanted = wanted; options = options; image = image }))
loaded_as file host _ options _ = None

-- the same, with `[--native-zero]` read before `[--image OUT]`
abbrev pub loaded_with : List ℕ → List ℕ → Option PlatformChoice → Bool × List (List ℕ) → Option Job
loaded_with file host wanted (native_zero, words) =
    loaded_as file host wanted (record { native_zero = native_zero }) (image_option words)

-- `FILE HOST --platform P`, and the options
abbrev pub load_job : List (List ℕ) → Option Job
load_job (file ∷ host ∷ option ∷ platform ∷ tail) =
    if is_file_name file && is_file_name host && is_text option (codes "--platform")
    then loaded_with file host (choice_of platform) (after_flag (codes "--native-zero") tail) else None
load_job _ = None

-- `N OUT`
abbrev pub make_job : List (List ℕ) → Option Job
make_job (number ∷ target ∷ []) =
    if is_file_name target then option_map (λ count. Make count target) (count_of number) else None
make_job _ = None

-- the job that these words mean, if they mean one
unfoldable pub job_of : List (List ℕ) → Option Job
job_of [] = None
job_of (command ∷ words) =
    if is_text command (codes "build") then build_job words
    else (if is_text command (codes "print") then print_job words
    else (if is_text command (codes "measure") then measure_job words
    else (if is_text command (codes "load") then load_job words
    else (if is_text command (codes "make") then make_job words else None))))
