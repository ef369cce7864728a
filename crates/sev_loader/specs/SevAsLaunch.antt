-- A SEV machine as the loader sees machines.
use Rattle.std.specs.Prelude.{ℕ, List, map, false, if◌then◌else◌, Some, None}
use Rattle.std.specs.List.{flat_map}
use Rattle.igvm_headers.specs.declared.tag.Tag.TheVariants.{Normal}
use Rattle.launch_platform.specs.Machine.{Entry, State, LaunchRecord, streams}
use Rattle.sev_platform.specs.SevMachine.{SevPage, SevState}

-- an entry that is measured was added as Normal, and another was not added
abbrev pub as_entry : SevPage → Entry
as_entry e = record { gpa = e.gpa; page = e.page; tag = if e.measured then Some Normal else None; extended = false }

-- the state with such entries
abbrev pub as_state : SevState → State
as_state s = record { kind = s.kind; phase = s.phase; entries = map as_entry s.entries; contexts = s.contexts; digest = s.digest }

-- the rows of bytes among the records, one after the other
abbrev pub joined : List LaunchRecord → List ℕ
joined records = flat_map (λ row. row) (streams records)
