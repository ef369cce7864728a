-- What each command of a SEV machine needs and does (AMD SEV API, LAUNCH_UPDATE_DATA, LAUNCH_UPDATE_VMSA, LAUNCH_MEASURE
-- and LAUNCH_FINISH).
use Rattle.std.specs.Prelude.{ℕ, ◌≡◌, ◌-◌, List, [], ◌∷◌, ◌++◌, true, false, Option, Some, None, Result, Ok, Err, slice_get}
use Rattle.launch_platform.specs.Machine.{Spares}
use Rattle.launch_platform.specs.Commands.{change_at, context_of}
use Rattle.launch_platform.specs.declared.phase.Phase.TheVariants.{Done}
use Rattle.sev_platform.specs.SevMachine.{SevPage, SevState}

-- a command between the start of a launch and its end
pub data SevCommand : Type 0 where
  Place : (gpa : ℕ) (page : List ℕ) → SevCommand
  Update : (slot : ℕ) → SevCommand
  AddContext : (vp gpa : ℕ) (page : List ℕ) → SevCommand

-- an entry that was placed, and is not measured
abbrev pub placed_page : ℕ → List ℕ → SevPage
placed_page gpa page = record { gpa = gpa; page = page; measured = false }

-- the entry, measured
abbrev pub measured : SevPage → SevPage
measured entry = record entry { measured = true }

-- the state after a command
abbrev pub after_command : SevCommand → SevState → SevState
after_command (Place gpa page) s = record s { entries = s.entries ++ placed_page gpa page ∷ [] }
after_command (Update slot) s = record s { entries = change_at slot measured s.entries }
after_command (AddContext vp gpa page) s = record s { contexts = s.contexts ++ context_of vp gpa page ∷ [] }

-- the spares after a command
abbrev pub spares_after : SevCommand → Spares → Spares
spares_after (Place gpa page) s = record s { pages = s.pages - 1 }
spares_after (Update slot) s = s
spares_after (AddContext vp gpa page) s = record s { contexts = s.contexts - 1 }

-- the bytes of an entry, where it is there
abbrev pub bytes_of_entry : Option SevPage → List ℕ
bytes_of_entry None = []
bytes_of_entry (Some entry) = entry.page

-- the bytes that follow by a command in a state: those of the entry that is updated, and of the context that is added
abbrev pub bytes_of : SevCommand → SevState → List ℕ
bytes_of (Place gpa page) s = []
bytes_of (Update slot) s = bytes_of_entry (slice_get s.entries slot)
bytes_of (AddContext vp gpa page) s = page

-- A machine has carried out a command: its state and spares are those after it, and behind each list of bytes that it
-- held it holds those of the command.
pub record IsSevStep (command : SevCommand) (old new : SevState) (had has : Spares) (Held Holds : List ℕ → Type 0)
    : Type 0 where
  pub state : new ≡ after_command command old
  pub spares : has ≡ spares_after command had
  pub held : (bytes : List ℕ) → Held bytes → Holds (bytes ++ bytes_of command old)

-- a machine is as before: its state, its spares, and the bytes that it holds
pub record IsSevAsBefore (old new : SevState) (had has : Spares) (Held Holds : List ℕ → Type 0) : Type 0 where
  pub state : new ≡ old
  pub spares : has ≡ had
  pub held : (bytes : List ℕ) → Held bytes → Holds bytes

-- the entry is there, and its bytes are not measured yet
pub record CanUpdate (slot : ℕ) (s : SevState) : Type 0 where
  pub entry : SevPage
  pub there : slice_get s.entries slot ≡ Some entry
  pub once : entry.measured ≡ false

-- the state of a launch that has ended with a digest
abbrev pub sev_ended : List ℕ → SevState → SevState
sev_ended digest s = record s { phase = Done; digest = Some digest }

-- how a launch ends by its answer: with the digest that it answers, or, after a fault, not at all
abbrev pub SevEnds : {E : Type 0} → SevState → SevState → Result (List ℕ) E → Type 0
SevEnds old new (Ok digest) = new ≡ sev_ended digest old
SevEnds old new (Err failed) = new ≡ old
