use Rattle.component_list.specs.ListForms.{platform_entry}
use Rattle.component_list.specs.declared.refusal.ListPart.TheVariants as part
use Rattle.component_list.proofs.EntryWalks.{EntryWalk}
use Rattle.component_list.proofs.reading.platforms.Given as goal

abbrev pub invariant-entries : goal.invariant-entries
invariant-entries l = EntryWalk platform_entry part.Platforms l.items l.number l.headers.items
