-- The pages of a SEV launch, as they stand in memory.
use Rattle.std.specs.Prelude.{is_some}
use Rattle.launch_platform.specs.Machine.{Entry}
use Rattle.sev_platform.specs.SevMachine.{SevPage}

-- the page of an entry, which is measured where the entry has a tag
abbrev pub sev_page : Entry → SevPage
sev_page entry = record { gpa = entry.gpa; page = entry.page; measured = is_some entry.tag }
