use Rattle.std.proofs.Common.{[], rules, ◌≡◌, ◌∙◌, subst, inr}
use Rattle.std.specs.Prelude.{OnOk}
use Rattle.std.specs.List.{flat_map}
use Rattle.igvm_headers.specs.FaultCounts.{Rose, HasCause}
use Rattle.igvm_outside.specs.Files.{with_file}
use Rattle.pages_file.specs.PagesFile.{entry_record, context_record, pages_file}
use Rattle.pages_file.proofs.Outcomes.{on_ok, on_err}
use Rattle.pages_file.proofs.AddedBytes.{begun, ended, whole_front, added_more, broken_longer}
use Rattle.pages_file.proofs.writing.write_pages.Goals as goal

-- where the records of the pages are broken off, so are all
pub returns-in_err-write_entries : goal.returns-in_err-write_entries
returns-in_err-write_entries g c =
    let s = g.S.Shelf in
    let name = c.args.name.now in
    let machine = g.L.Launch.state c.args.machine.now in
    let result = c.from_residual-in_err-write_entries.result in
    let broken = broken_longer s name (flat_map entry_record machine.entries) (flat_map context_record machine.contexts)
    c.create.new.self c.write_entries.new.shelf c.in_err-write_entries.ensures.broken in
    record {
      written = search rules;
      front = on_err result (inr (broken.front (s.told c.args.shelf.now) [] c.in_ok-create.ensures.emptied));
      cause = on_err result (subst (λ n. Rose n (s.write_faults c.write_entries.new.shelf name)) c.in_ok-create.ensures.no_fault broken.cause);
      no_fault = search rules;
      closed = broken.dropped;
      only = c.writes_compose.ensures name c.args.shelf.now c.create.new.self c.write_entries.new.shelf
          (begun s name _ _ c.in_ok-create.ensures.emptied c.create.ensures.reads c.create.ensures.writes c.create.ensures.given_kept) broken.only;
    }

-- after the last record the file holds all
pub returns : goal.returns
returns g c =
    let s = g.S.Shelf in
    let name = c.args.name.now in
    let machine = g.L.Launch.state c.args.machine.now in
    let result = c.close.result in
    let added = added_more s name (flat_map entry_record machine.entries) (flat_map context_record machine.contexts)
    c.create.new.self c.write_entries.new.shelf c.write_contexts.new.shelf c.writes_compose.ensures
    c.in_ok-write_entries.ensures.added c.in_ok-write_contexts.ensures.added in
    let all : s.told c.close.new.self ≡ with_file (s.told c.args.shelf.now) name (pages_file machine.entries machine.contexts) =
    c.close.ensures.kept ∙ added.written (s.told c.args.shelf.now) [] c.in_ok-create.ensures.emptied in
    let no_fault = added.no_fault ∙ c.in_ok-create.ensures.no_fault in
    record {
      written = on_ok result all;
      front = whole_front result _ _ name _ all;
      cause = subst (λ n. HasCause n (s.write_faults c.close.new.self name) result) no_fault c.close.ensures.cause;
      no_fault = subst (λ n. OnOk result (s.write_faults c.close.new.self name ≡ n)) no_fault c.close.ensures.no_fault;
      closed = c.close.ensures.closed;
      only = c.writes_compose.ensures name c.args.shelf.now c.write_contexts.new.shelf c.close.new.self
          (c.writes_compose.ensures name c.args.shelf.now c.create.new.self c.write_contexts.new.shelf
          (begun s name _ _ c.in_ok-create.ensures.emptied c.create.ensures.reads c.create.ensures.writes c.create.ensures.given_kept) added.only)
          (ended s name _ _ c.close.ensures.kept c.close.ensures.reads c.close.ensures.writes c.close.ensures.given_kept);
    }
