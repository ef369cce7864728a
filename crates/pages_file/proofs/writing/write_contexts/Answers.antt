use Rattle.std.proofs.Common.{sym, subst, ◌+◌, drop}
use Rattle.std.specs.List.{flat_map}
use Rattle.pages_file.specs.PagesFile.{context_record}
use Rattle.pages_file.specs.Added.{IsAdded, IsBrokenOff}
use Rattle.pages_file.proofs.Outcomes.{on_err}
use Rattle.pages_file.proofs.Records.{row_more, row_rest}
use Rattle.pages_file.proofs.AddedBytes.{none_added, added_more, broken_more, broken_longer}
use Rattle.pages_file.proofs.writing.write_contexts.Goals as goal

pub contexts-init : goal.contexts-init
contexts-init g c = none_added g.S.Shelf _ _ c.requires

pub contexts-preserved : goal.contexts-preserved
contexts-preserved g c =
    let all = (g.L.Launch.state c.args.machine.now).contexts in
    subst (λ row. IsAdded g.S.Shelf c.args.name.now row c.args.shelf.now c.write_context.new.shelf)
    (sym (row_more context_record all c.contexts.k _ c.in-Some.ensures.value))
    (added_more g.S.Shelf _ _ _ c.args.shelf.now c.contexts.shelf c.write_context.new.shelf
    c.writes_compose.ensures c.contexts.invariant c.in_ok-write_context.ensures.added)

-- where a record is broken off, so are all
pub returns-in_err-write_context-clause-broken : goal.returns-in_err-write_context-clause-broken
returns-in_err-write_context-clause-broken g c =
    let all = (g.L.Launch.state c.args.machine.now).contexts in
    on_err c.from_residual.result
    (subst (λ row. IsBrokenOff g.S.Shelf c.args.name.now row c.args.shelf.now c.write_context.new.shelf)
    (sym (row_rest context_record all c.contexts.k _ c.in-Some.ensures.value))
    (broken_longer g.S.Shelf _ _ (flat_map context_record (drop (c.contexts.k + 1) all)) c.args.shelf.now c.write_context.new.shelf
    (broken_more g.S.Shelf _ _ _ c.args.shelf.now c.contexts.shelf c.write_context.new.shelf
    c.writes_compose.ensures c.contexts.invariant c.in_err-write_context.ensures.broken)))
