use Rattle.std.proofs.Common.{◌≡◌, ◌∙◌, ap, sym, rules}
use Rattle.std.specs.Prelude.{find, ◌==◌}
use Rattle.std.specs.Option.{option_map}
use Rattle.std.proofs.lemmas.Iterator.{YieldsList-from_slice}
use Rattle.std.proofs.lemmas.Iterator.Search.{find_from_yields_List}
use borrow.Author.Tests.{tests}
use Rattle.joined_list.specs.declared.moves.Move.{Move}
use Rattle.joined_list.proofs.MoveLists.{area_by_found, new_or}
use Rattle.joined_list.proofs.moves.area_by.Goals as goal

pub returns : goal.returns
returns c =
    let ms = c.args.moves.now in
    let area = c.args.area in
    let first : option_map (λ m. m.now) c.find.result ≡ find (λ move. move.old == area) ms =
    find_from_yields_List (λ (move : Move). move.old == area) _ _ c.find.result c.find.ensures.ran (YieldsList-from_slice ms (search rules))
    (λ x b q k. search (rules, tests)) in
    let gives : c.map_or.result ≡ new_or (option_map (λ m. m.now) c.find.result) area = search rules in
    gives ∙ ap (λ o. new_or o area) first ∙ sym (area_by_found ms area)
