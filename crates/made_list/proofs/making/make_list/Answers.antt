use Rattle.std.proofs.Common.{◌≡◌, sym, subst, arith}
use Rattle.component_list.specs.Lists.{IsValid}
use Rattle.made_list.specs.MadeList.{made_parts}
use Rattle.made_list.proofs.Valid.{made_parts_valid}
use Rattle.made_list.proofs.making.make_list.Goals as goal

pub of_valid-requires : goal.of_valid-requires
unfolding made_parts
of_valid-requires c =
    let all : c.push_tail.new.parts.items ≡ made_parts c.args.n = grind arith in
    subst IsValid (sym all) (made_parts_valid c.args.n (omega arith))
