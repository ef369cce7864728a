use Rattle.std.proofs.Common.{◌∙◌, sym, ap}
use Rattle.std.specs.List.{range_with_len}
use Rattle.joined_list.specs.NewNumbers.{free, moves}
use Rattle.joined_list.proofs.MoveLists.{moves-none, range_more}
use Rattle.joined_list.proofs.moves.free_areas.Goals as goal

pub indices-init : goal.indices-init
indices-init c = c.new-list.ensures.items ∙ sym (moves-none c.args.areas.now)

pub indices-preserved : goal.indices-preserved
indices-preserved c =
    c.in_ok-give.ensures (range_with_len 0 c.indices.index) c.indices.invariant
    ∙ ap (λ ns. moves c.args.areas.now (free c.args.taken.now ns)) (sym (range_more c.indices.index))
