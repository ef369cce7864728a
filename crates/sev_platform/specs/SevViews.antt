-- What is lent of an entry, as contracts see it.
use Rattle.sev_platform.specs.SevMachine.{SevPage}
use Rattle.sev_platform.specs.declared.sev_entry.SevEntry.{SevEntry}

-- the entry that a view lends
abbrev pub page_in : SevEntry → SevPage
page_in view = record { gpa = view.gpa; page = view.page.now; measured = view.measured }
