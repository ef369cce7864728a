use Rattle.joined_list.proofs.Counted.{Counted}
use Rattle.joined_list.proofs.numbers.Numbers.of.Given as goal

abbrev pub invariant-parts : goal.invariant-parts
invariant-parts l = Counted l.parts l.seen l.numbers.0.items l.numbers.1.0.items l.numbers.1.1.0 l.component-index
