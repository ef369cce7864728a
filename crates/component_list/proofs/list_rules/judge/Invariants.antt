use Rattle.component_list.proofs.Judged.{Judging}
use Rattle.component_list.proofs.list_rules.judge.Given as goal

abbrev pub invariant-parts : goal.invariant-parts
invariant-parts l = Judging l.parts l.seen l.place
