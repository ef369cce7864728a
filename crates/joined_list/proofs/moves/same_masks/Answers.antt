use Rattle.std.proofs.Common.{◌≡◌, ◌∙◌, map, rules}
use Rattle.std.specs.Prelude.{IfOk}
use Rattle.std.specs.Vec.{vec_items}
use Rattle.std.proofs.lemmas.Iterator.{items_from_collect, YieldsList-from_map, YieldsList-from_slice}
use Rattle.joined_list.proofs.MoveLists.{moves-same}
use Rattle.joined_list.proofs.moves.same_masks.Goals as goal

pub returns : goal.returns
returns c =
    let made : IfOk c.collect.result (λ list. vec_items list ≡ map (λ n. record { old = n; new = n }) c.args.masks.now) =
    items_from_collect _ c.collect.ensures.ran
    (YieldsList-from_map _ (λ n. record { old = n; new = n }) (YieldsList-from_slice c.args.masks.now (search rules)) (search rules) (λ x r q k. search rules)) in
    (rw c.in_ok-collect.was at made) ∙ moves-same c.args.masks.now
