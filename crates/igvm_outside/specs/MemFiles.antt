-- The files that a shelf in memory keeps, as a list in which the first of a name counts.
use Rattle.std.specs.Prelude.{ℕ, ◌≡◌, ◌≢◌, ◌<◌, ◌≤◌, List, [], length, map, get_or, Some}
use Rattle.std.specs.FinMap as finite
use Rattle.igvm_outside.specs.Files.{Files, State, Nothing, Reading, Writing}
use Rattle.igvm_outside.specs.declared.fakes.mem_files.KeptFile.{KeptFile}
use Rattle.igvm_outside.specs.declared.fakes.mem_files.Turn.{Turn}
use Rattle.igvm_outside.specs.declared.fakes.mem_files.Turn.TheVariants.{Closed, Read, Write}

-- the name and the bytes of each
abbrev pub entries : List KeptFile → List (List ℕ × List ℕ)
entries files = map (λ file. (file.name.items, file.bytes.items)) files

-- what each file holds
abbrev pub files_of : List KeptFile → Files
files_of files = finite.from_entries (entries files)

abbrev pub name_at : List KeptFile → ℕ → List ℕ
name_at files at = (get_or (entries files) at ([], [])).0

abbrev pub bytes_at : List KeptFile → ℕ → List ℕ
bytes_at files at = (get_or (entries files) at ([], [])).1

-- here stands the first file of this name
pub record IsFileAt (files : List KeptFile) (name : List ℕ) (at : ℕ) : Type 0 where
  pub within : at < length files
  pub named : name_at files at ≡ name
  pub first : (before : ℕ) → before < at → name_at files before ≢ name

-- what is open
abbrev pub state_of : List KeptFile → Turn → State
state_of files Closed = Nothing
state_of files (Read file place) = Reading (Some (name_at files file, place))
state_of files (Write file) = Writing (Some (name_at files file))

-- a file that is open is there
abbrev pub IsOpenAt : List KeptFile → Turn → Type 0
IsOpenAt files Closed = Unit {0}
IsOpenAt files (Read file place) =
    IsFileAt files (name_at files file) file × (place ≤ length (bytes_at files file))
IsOpenAt files (Write file) = IsFileAt files (name_at files file) file
