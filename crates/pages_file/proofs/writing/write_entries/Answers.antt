use Rattle.std.proofs.Common.{sym, subst, ◌+◌, drop}
use Rattle.std.specs.List.{flat_map}
use Rattle.pages_file.specs.PagesFile.{entry_record}
use Rattle.pages_file.specs.Added.{IsAdded, IsBrokenOff}
use Rattle.pages_file.proofs.Outcomes.{on_err}
use Rattle.pages_file.proofs.Records.{row_more, row_rest}
use Rattle.pages_file.proofs.AddedBytes.{none_added, added_more, broken_more, broken_longer}
use Rattle.pages_file.proofs.writing.write_entries.Goals as goal

pub entries-init : goal.entries-init
entries-init g c = none_added g.S.Shelf _ _ c.requires

pub entries-preserved : goal.entries-preserved
entries-preserved g c =
    let all = (g.L.Launch.state c.args.machine.now).entries in
    subst (λ row. IsAdded g.S.Shelf c.args.name.now row c.args.shelf.now c.write_entry.new.shelf)
    (sym (row_more entry_record all c.entries.k _ c.in-Some.ensures.value))
    (added_more g.S.Shelf _ _ _ c.args.shelf.now c.entries.shelf c.write_entry.new.shelf
    c.writes_compose.ensures c.entries.invariant c.in_ok-write_entry.ensures.added)

-- where a record is broken off, so are all
pub returns-in_err-write_entry-clause-broken : goal.returns-in_err-write_entry-clause-broken
returns-in_err-write_entry-clause-broken g c =
    let all = (g.L.Launch.state c.args.machine.now).entries in
    on_err c.from_residual.result
    (subst (λ row. IsBrokenOff g.S.Shelf c.args.name.now row c.args.shelf.now c.write_entry.new.shelf)
    (sym (row_rest entry_record all c.entries.k _ c.in-Some.ensures.value))
    (broken_longer g.S.Shelf _ _ (flat_map entry_record (drop (c.entries.k + 1) all)) c.args.shelf.now c.write_entry.new.shelf
    (broken_more g.S.Shelf _ _ _ c.args.shelf.now c.entries.shelf c.write_entry.new.shelf
    c.writes_compose.ensures c.entries.invariant c.in_err-write_entry.ensures.broken)))
