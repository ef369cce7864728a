-- What each command of a launch machine needs and does (SEV-SNP Firmware ABI, SNP_LAUNCH_UPDATE and SNP_LAUNCH_FINISH;
-- Intel TDX Module Base Architecture Specification, TDH.MEM.PAGE.ADD, TDH.MR.EXTEND and TDH.MR.FINALIZE; AMD SEV API,
-- LAUNCH_UPDATE_DATA and LAUNCH_UPDATE_VMSA). What is said of SEV and SEV-ES is for machines of another make than `Launch`,
-- which are sent the same commands.
use Rattle.std.specs.Prelude.{ℕ, zero, suc, ◌≡◌, ◌≢◌, ◌-◌, List, [], ◌∷◌, ◌++◌, map, replicate, true, false, Option, Some, None, Result, Ok, Err, IfSome, slice_get}
use Rattle.sha2.specs.Sha512.{sha384}
use Rattle.igvm_headers.specs.declared.platform_kind.PlatformKind.{PlatformKind}
use Rattle.igvm_headers.specs.declared.platform_kind.PlatformKind.TheVariants.{SevSnp, Tdx, Sev, SevEs}
use Rattle.igvm_headers.specs.declared.tag.Tag.{Tag}
use Rattle.igvm_headers.specs.declared.tag.Tag.TheVariants as tag
use Rattle.snp_chain.specs.Chain.{page_of}
use Rattle.snp_chain.specs.declared.page.SnpPage.TheVariants.{Vmsa}
use Rattle.snp_chain.specs.Tagged.{page_type_of, contents_by}
use Rattle.tdx_chain.specs.Stream.{page_add_record, extend_records}
use Rattle.launch_platform.specs.declared.phase.Phase.{Phase}
use Rattle.launch_platform.specs.declared.phase.Phase.TheVariants.{Done, Refused}
use Rattle.launch_platform.specs.declared.refusals.FinishRefusal.{FinishRefusal}
use Rattle.launch_platform.specs.declared.refusals.FinishRefusal.TheVariants.{BadDigest, Failed}
use Rattle.launch_platform.specs.Machine.{Entry, Context, State, Spares, LaunchRecord, Info, Bytes}

-- a command between the start of a launch and its end
pub data Command : Type 0 where
  Place : (gpa : ℕ) (page : List ℕ) → Command
  Add : (slot : ℕ) (tag : Tag) → Command
  Extend : (slot : ℕ) → Command
  AddContext : (vp gpa : ℕ) (page : List ℕ) → Command

-- an entry that was placed, and not yet added
abbrev pub new_entry : ℕ → List ℕ → Entry
new_entry gpa page = record { gpa = gpa; page = page; tag = None; extended = false }

-- the entry with this tag
abbrev pub tagged : Tag → Entry → Entry
tagged tag entry = record entry { tag = Some tag }

-- the entry with its bytes measured
abbrev pub extended : Entry → Entry
extended entry = record entry { extended = true }

-- the context of a virtual processor, with the address and bytes of its save area
abbrev pub context_of : ℕ → ℕ → List ℕ → Context
context_of vp gpa page = record { vp = vp; gpa = gpa; page = page }

-- the list with its element at a place changed, and all others as they were
abbrev pub change_at : {X : Type 0} → ℕ → (X → X) → List X → List X
change_at n change [] = []
change_at zero change (x ∷ xs) = change x ∷ xs
change_at (suc n) change (x ∷ xs) = x ∷ change_at n change xs

-- the state after a command
abbrev pub after_command : Command → State → State
after_command (Place gpa page) s = record s { entries = s.entries ++ new_entry gpa page ∷ [] }
after_command (Add slot tag) s = record s { entries = change_at slot (tagged tag) s.entries }
after_command (Extend slot) s = record s { entries = change_at slot extended s.entries }
after_command (AddContext vp gpa page) s = record s { contexts = s.contexts ++ context_of vp gpa page ∷ [] }

-- the spares after a command
abbrev pub spares_after : Command → Spares → Spares
spares_after (Place gpa page) s = record s { pages = s.pages - 1 }
spares_after (Add slot tag) s = s
spares_after (Extend slot) s = s
spares_after (AddContext vp gpa page) s = record s { contexts = s.contexts - 1 }

-- What is measured of an entry that is added with a tag: on SEV-SNP its page record, by the tag's page type and
-- contents; on TDX its address; on SEV and SEV-ES its bytes.
abbrev pub records_of_add : PlatformKind → Tag → Entry → List LaunchRecord
records_of_add SevSnp tag entry = Info (page_of (page_type_of tag) entry.gpa (contents_by tag entry.page)) ∷ []
records_of_add Tdx tag entry = Bytes (page_add_record entry.gpa) ∷ []
records_of_add Sev tag entry = Bytes entry.page ∷ []
records_of_add SevEs tag entry = Bytes entry.page ∷ []
records_of_add _ tag entry = []

-- what is measured of an entry that is extended: a record for each of the 16 chunks of its own page
abbrev pub records_of_extend : Entry → List LaunchRecord
records_of_extend entry = map (λ bytes. Bytes bytes) (extend_records entry.gpa entry.page)

-- What is measured of a context: on SEV-SNP a page record of the VMSA type, with the digest of its bytes as contents;
-- on SEV-ES its bytes.
abbrev pub records_of_context : PlatformKind → ℕ → List ℕ → List LaunchRecord
records_of_context SevSnp gpa page = Info (page_of Vmsa gpa (sha384 page)) ∷ []
records_of_context SevEs gpa page = Bytes page ∷ []
records_of_context _ gpa page = []

-- what is given by an entry that is there
abbrev pub of_entry : (Entry → List LaunchRecord) → Option Entry → List LaunchRecord
of_entry given None = []
of_entry given (Some entry) = given entry

-- the records that follow by a command in a state
abbrev pub records_of : Command → State → List LaunchRecord
records_of (Place gpa page) s = []
records_of (Add slot tag) s = of_entry (records_of_add s.kind tag) (slice_get s.entries slot)
records_of (Extend slot) s = of_entry records_of_extend (slice_get s.entries slot)
records_of (AddContext vp gpa page) s = records_of_context s.kind gpa page

-- A machine has carried out a command: its state and spares are those after it, and behind each list of records that it
-- held it holds those of the command.
pub record IsStep (command : Command) (old new : State) (had has : Spares) (Held Holds : List LaunchRecord → Type 0) : Type 0 where
  pub state : new ≡ after_command command old
  pub spares : has ≡ spares_after command had
  pub held : (records : List LaunchRecord) → Held records → Holds (records ++ records_of command old)

-- a machine is as before: its state, its spares, and the records that it holds
pub record IsAsBefore (old new : State) (had has : Spares) (Held Holds : List LaunchRecord → Type 0) : Type 0 where
  pub state : new ≡ old
  pub spares : has ≡ had
  pub held : (records : List LaunchRecord) → Held records → Holds records

-- A platform takes this tag for a page with these bytes. SEV-SNP takes each, but Zero only for a page of zeros; TDX
-- takes Normal and Unmeasured; all others take Normal alone.
abbrev pub TagFits : PlatformKind → Tag → List ℕ → Type 0
TagFits SevSnp tag.Zero page = page ≡ replicate 4096 0
TagFits SevSnp _ page = Unit {0}
TagFits Tdx tag.Normal page = Unit {0}
TagFits Tdx tag.Unmeasured page = Unit {0}
TagFits Tdx _ page = ⊥
TagFits _ tag.Normal page = Unit {0}
TagFits _ _ page = ⊥

-- the entry is there, was not yet added, and the platform takes this tag for it
pub record CanAdd (slot : ℕ) (tag : Tag) (s : State) : Type 0 where
  pub entry : Entry
  pub there : slice_get s.entries slot ≡ Some entry
  pub untagged : entry.tag ≡ None
  pub fits : TagFits s.kind tag entry.page

-- the entry is there, was added as Normal, and its bytes are not yet measured
pub record CanExtend (slot : ℕ) (s : State) : Type 0 where
  pub entry : Entry
  pub there : slice_get s.entries slot ≡ Some entry
  pub normal : entry.tag ≡ Some tag.Normal
  pub once : entry.extended ≡ false

-- the state of a launch that has ended in a phase, with a digest
abbrev pub ended : Phase → List ℕ → State → State
ended phase digest s = record s { phase = phase; digest = Some digest }

-- How a launch ends by its answer: with the digest that it answers, where no other is wanted; refused, with the digest
-- that was found, where another is wanted; or, after a fault, not at all.
abbrev pub Ends : Option (List ℕ) → State → State → Result (List ℕ) FinishRefusal → Type 0
Ends wanted old new (Ok digest) = (new ≡ ended Done digest old) × IfSome wanted (λ other. other ≡ digest)
Ends wanted old new (Err (BadDigest found)) =
    (new ≡ ended Refused found old) × ((other : List ℕ) × (wanted ≡ Some other) × (other ≢ found))
Ends wanted old new (Err Failed) = new ≡ old

-- the digest that an answer names, if it names one, is this one
abbrev pub Answers : List ℕ → Result (List ℕ) FinishRefusal → Type 0
Answers digest (Ok found) = found ≡ digest
Answers digest (Err (BadDigest found)) = found ≡ digest
Answers digest (Err Failed) = Unit {0}
