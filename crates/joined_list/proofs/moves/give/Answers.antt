use Rattle.std.proofs.Common.{◌≡◌, ◌∷◌, ◌++◌, [], length, sym, ◌∙◌, ap, Some, None}
use Rattle.std.specs.Prelude.{slice_get}
use Rattle.std.proofs.lemmas.Option.{slice_get-get_or, slice_get_past}
use Rattle.joined_list.specs.NewNumbers.{free, moves}
use Rattle.joined_list.proofs.MoveLists.{moves_more, moves_enough, free_more}
use Rattle.joined_list.proofs.moves.give.Goals as goal

pub returns-in_default : goal.returns-in_default
returns-in_default c = λ before is.
    let olds = c.args.olds.now in
    let news = free c.args.taken.now before in
    let count : length (moves olds news) ≡ c.len.result = ap length (sym is) ∙ sym c.args.list.now.ok.0 ∙ sym c.len.ensures in
    let next : slice_get olds (length (moves olds news)) ≡ None = ap (slice_get olds) count ∙ slice_get_past olds c.len.result c.in_default.ensures.lookup.3 in
    is ∙ sym (moves_enough olds news c.args.number next)
    ∙ ap (moves olds) (sym (free_more c.args.taken.now before c.args.number (sym c.contains.ensures.value ∙ c.if-contains.false)))

pub returns : goal.returns
returns c = λ before is.
    let olds = c.args.olds.now in
    let news = free c.args.taken.now before in
    let found = c.in-Some.ensures.lookup in
    let count : length (moves olds news) ≡ c.len.result = ap length (sym is) ∙ sym c.args.list.now.ok.0 ∙ sym c.len.ensures in
    let next : slice_get olds (length (moves olds news)) ≡ Some c.in-Some.old.now =
    ap (slice_get olds) count ∙ slice_get-get_or olds c.len.result c.in-Some.old.now found.3.0 ∙ ap (λ x. Some x) (sym found.1) in
    c.in_ok-push.ensures.items ∙ ap (λ xs. xs ++ record { old = c.in-Some.old.now; new = c.args.number } ∷ []) is
    ∙ sym (moves_more olds news c.in-Some.old.now c.args.number next)
    ∙ ap (moves olds) (sym (free_more c.args.taken.now before c.args.number (sym c.contains.ensures.value ∙ c.if-contains.false)))
