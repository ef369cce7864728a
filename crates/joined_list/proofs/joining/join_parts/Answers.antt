use Rattle.std.proofs.Common.{subst}
use Rattle.joined_list.specs.ListNumbers.{AreNumbersOf}
use Rattle.joined_list.proofs.RenamedParts.{joined_by_turns}
use Rattle.joined_list.proofs.joining.join_parts.Goals as goal

pub returns-clause-parts : goal.returns-clause-parts
returns-clause-parts c =
    let a = c.args.first.items in
    let b = c.args.second.items in
    let first = c.in_ok-first_numbers.first_numbers in
    let first_are : AreNumbersOf a first = subst (λ parts. AreNumbersOf parts first) c.as_slice.ensures.value c.in_ok-first_numbers.ensures in
    joined_by_turns a b c.in_ok-first.first.items c.in_ok-second.second.items c.in_ok-parts.parts.items c.in_ok-cut.field-0 c.in_ok-cut-2.field-0
    c.in_ok-first.ensures (c.in_ok-second.ensures a first_are)
    (record { first = c.in_ok-cut.ensures.first; second = c.in_ok-cut.ensures.second; third = c.in_ok-cut.ensures.third })
    (record { first = c.in_ok-cut-2.ensures.first; second = c.in_ok-cut-2.ensures.second; third = c.in_ok-cut-2.ensures.third })
    c.in_ok-parts.ensures

pub returns-clause-together : goal.returns-clause-together
returns-clause-together c =
    let first = c.in_ok-first_numbers.first_numbers in
    let second = c.in_ok-second_numbers.second_numbers in
    c.in_ok-fit_together.ensures.together c.args.first.items c.args.second.items
    (subst (λ parts. AreNumbersOf parts first) c.as_slice.ensures.value c.in_ok-first_numbers.ensures)
    (subst (λ parts. AreNumbersOf parts second) c.as_slice-2.ensures.value c.in_ok-second_numbers.ensures)
