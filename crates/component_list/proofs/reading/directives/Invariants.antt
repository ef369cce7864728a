use Rattle.component_list.specs.ListForms.{directive_entry}
use Rattle.component_list.specs.declared.refusal.ListPart.TheVariants as part
use Rattle.component_list.proofs.EntryWalks.{EntryWalk}
use Rattle.component_list.proofs.reading.directives.Given as goal

abbrev pub invariant-entries : goal.invariant-entries
invariant-entries l = EntryWalk directive_entry part.Directives l.items l.number l.entries.items
