-- What is lent of an entry and of a context, as contracts see them.
use Rattle.launch_platform.specs.Machine.{Entry, Context}
use Rattle.launch_platform.specs.declared.views.EntryView.{EntryView}
use Rattle.launch_platform.specs.declared.views.ContextView.{ContextView}

-- the entry that a view lends
abbrev pub entry_in : EntryView → Entry
entry_in view = record { gpa = view.gpa; page = view.page.now; tag = view.tag; extended = view.extended }

-- the context that a view lends
abbrev pub context_in : ContextView → Context
context_in view = record { vp = view.vp; gpa = view.gpa; page = view.page.now }
