use Rattle.std.proofs.Common.{◌∙◌, sym, ap, arith, length, subst, None, Some}
use Rattle.elf_pages.specs.declared.segment.Segment.{Segment}
use Rattle.elf_pages.specs.Faults.{fault_in, segment_fault}
use Rattle.elf_pages.specs.SegmentTables.{AreSorted, HasSame}
use Rattle.elf_pages.specs.Segments.{segments_before}
use Rattle.elf_pages.proofs.HeaderSteps.{place_is, not_taken, judged, taken_by}
use Rattle.elf_pages.proofs.program_headers.take_header.Goals as goal

pub returns-then-not-is_loadable-clause-accepted : goal.returns-then-not-is_loadable-clause-accepted
returns-then-not-is_loadable-clause-accepted c =
    (not_taken c.args.file.now c.args.k _ c.args.table.now (place_is c.args.file.now _ _ _ c.requires.start c.from.ensures) (sym c.if-not-is_loadable.true ∙ c.is_loadable.ensures) c.requires.same).0

pub returns-then-not-is_loadable-clause-same : goal.returns-then-not-is_loadable-clause-same
returns-then-not-is_loadable-clause-same c =
    (not_taken c.args.file.now c.args.k _ c.args.table.now (place_is c.args.file.now _ _ _ c.requires.start c.from.ensures) (sym c.if-not-is_loadable.true ∙ c.is_loadable.ensures) c.requires.same).1

pub returns-in-Some-clause-fault : goal.returns-in-Some-clause-fault
returns-in-Some-clause-fault c =
    judged c.args.file.now c.args.k _ c.args.table.now _ (Some c.in-Some.what) (place_is c.args.file.now _ _ _ c.requires.start c.from.ensures)
    (sym c.if-not-is_loadable.false ∙ c.is_loadable.ensures) c.read-segment.ensures
    (sym c.in-Some.is ∙ c.segment_fault.ensures ∙ ap (λ t. segment_fault (length c.args.file.now) t c.read-segment.result) c.as_slice-segments.ensures.value)
    c.requires.same
    ∙ ap (λ n. Some (fault_in n c.in-Some.what)) (sym c.from-item.ensures)

pub returns-clause-accepted : goal.returns-clause-accepted
returns-clause-accepted c =
    judged c.args.file.now c.args.k _ c.args.table.now _ None (place_is c.args.file.now _ _ _ c.requires.start c.from.ensures)
    (sym c.if-not-is_loadable.false ∙ c.is_loadable.ensures) c.read-segment.ensures
    (sym c.in_default.is ∙ c.segment_fault.ensures ∙ ap (λ t. segment_fault (length c.args.file.now) t c.read-segment.result) c.as_slice-segments.ensures.value)
    c.requires.same

pub insert-requires-clause-room : goal.insert-requires-clause-room
insert-requires-clause-room c =
    let after = taken_by c.args.file.now _ _ c.args.k c.place_of-place.result c.args.table.now c.as_slice-segments.result.now _ c.requires.start c.from.ensures c.as_slice-segments.ensures.value
    (sym c.if-not-is_loadable.false ∙ c.is_loadable.ensures) c.read-segment.ensures (sym c.segment_fault.ensures ∙ c.in_default.is)
    c.requires.sorted c.requires.same c.place_of-place.ensures.within c.place_of-place.ensures.before c.place_of-place.ensures.after in
    omega (arith, after.room, ap (length {A = Segment}) c.as_slice-segments.ensures.value, c.as_slice-segments.ensures.within)

pub returns-clause-sorted : goal.returns-clause-sorted
returns-clause-sorted c =
    let after = taken_by c.args.file.now _ _ c.args.k c.place_of-place.result c.args.table.now c.as_slice-segments.result.now _ c.requires.start c.from.ensures c.as_slice-segments.ensures.value
    (sym c.if-not-is_loadable.false ∙ c.is_loadable.ensures) c.read-segment.ensures (sym c.segment_fault.ensures ∙ c.in_default.is)
    c.requires.sorted c.requires.same c.place_of-place.ensures.within c.place_of-place.ensures.before c.place_of-place.ensures.after in
    subst (AreSorted (length c.args.file.now)) (sym c.insert.ensures) after.sorted

pub returns-clause-same : goal.returns-clause-same
returns-clause-same c =
    let after = taken_by c.args.file.now _ _ c.args.k c.place_of-place.result c.args.table.now c.as_slice-segments.result.now _ c.requires.start c.from.ensures c.as_slice-segments.ensures.value
    (sym c.if-not-is_loadable.false ∙ c.is_loadable.ensures) c.read-segment.ensures (sym c.segment_fault.ensures ∙ c.in_default.is)
    c.requires.sorted c.requires.same c.place_of-place.ensures.within c.place_of-place.ensures.before c.place_of-place.ensures.after in
    subst (HasSame c.args.file.now (segments_before c.args.file.now _)) (sym c.insert.ensures) after.same
