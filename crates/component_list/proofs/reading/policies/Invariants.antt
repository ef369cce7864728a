use Rattle.component_list.specs.ListForms.{policy_entry}
use Rattle.component_list.specs.declared.refusal.ListPart.TheVariants as part
use Rattle.component_list.proofs.EntryWalks.{EntryWalk}
use Rattle.component_list.proofs.reading.policies.Given as goal

abbrev pub invariant-entries : goal.invariant-entries
invariant-entries l = EntryWalk policy_entry part.Policies l.items l.number l.headers.items
