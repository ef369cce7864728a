use Rattle.std.proofs.Common.{ap, length, arith, ◌+◌}
use Rattle.component_list.proofs.Stepping.{starting, stepping, left_of, taken_of, found_of, front_of, file_cause, given_right, rule_right, short_all, short_more, none_more, names_none, told_at}
use Rattle.component_list.proofs.Reached.{read_reached, rules_reached}
use Rattle.component_list.proofs.expanding.expand.Goals as goal

pub add-requires-clause-few : goal.add-requires-clause-few
add-requires-clause-few g c =
    let few = c.directives.invariant.keeps.few in
    let pages = c.directives.invariant.keeps.pages in
    let sizes = c.directives-directives.ensures.few in
    let all = ap length c.directives-directives.ensures.value in
    omega arith

pub finish-requires-clause-few : goal.finish-requires-clause-few
finish-requires-clause-few g c =
    let few = c.directives.invariant.keeps.few in
    let pages = c.directives.invariant.keeps.pages in
    let sizes = c.directives-directives.ensures.few in
    let all = ap length c.directives-directives.ensures.value in
    omega arith

pub directives-init : goal.directives-init
directives-init g c =
    starting g.S.Shelf.told g.S.Shelf.state g.S.Shelf.given g.S.Shelf.read_faults g.S.Shelf.write_faults c.args.shelf.now c.args.source.now _ c.in-Ok.ensures

pub returns-in-Err-clause-cause : goal.returns-in-Err-clause-cause
returns-in-Err-clause-cause g c =
    file_cause c.args.source.now.directives c.directives.item _ _ _ _ _
    (found_of _ _ _ _ c.directives-directives.ensures.value c.directives-test.true c.index-directives-item.is)
    c.directives.invariant.reads c.in-Err.ensures.which c.in-Err.ensures.cause

pub returns-in-Err-clause-reached : goal.returns-in-Err-clause-reached
returns-in-Err-clause-reached g c =
    read_reached (g.S.Shelf.told c.args.shelf.now) c.args.source.now c.directives.item c.directives.progress _
    c.directives.invariant.reached c.in-Err.ensures.which

pub returns-in-Err-add-clause-reached : goal.returns-in-Err-add-clause-reached
returns-in-Err-add-clause-reached g c =
    rules_reached (g.S.Shelf.told c.args.shelf.now) c.args.source.now c.directives.item _ c.in-Err-add.ensures.which

pub returns-in-Err-add-clause-given : goal.returns-in-Err-add-clause-given
returns-in-Err-add-clause-given g c =
    given_right c.args.source.now.directives c.directives.item _ _ c.in-Err-add.ensures.which
    (short_more c.args.source.now.directives c.directives.item _ _ _
    (taken_of _ _ _ _ c.directives-directives.ensures.value c.directives-test.true c.index-directives-item.is)
    c.directives.invariant.short c.in-Ok-read_file.ensures.short c.in-Ok-read_file.ensures.same)

pub returns-clause-given : goal.returns-clause-given
returns-clause-given g c =
    rule_right c.args.source.now.directives _ c.finish.result c.finish.ensures.rule
    (short_all c.args.source.now.directives c.directives.item _ (let all = ap length c.directives-directives.ensures.value in omega arith) c.directives.invariant.short)

pub returns-in-Err-clause-no_file : goal.returns-in-Err-clause-no_file
returns-in-Err-clause-no_file g c = λ none.
    none_more c.args.source.now.directives c.directives.item _ _ _ _
    (taken_of _ _ _ _ c.directives-directives.ensures.value c.directives-test.true c.index-directives-item.is)
    c.directives.invariant.no_file c.read_file.ensures.same (names_none c.args.source.now.directives (c.directives.item + 1) none)

pub returns-in-Err-add-clause-no_file : goal.returns-in-Err-add-clause-no_file
returns-in-Err-add-clause-no_file g c = λ none.
    none_more c.args.source.now.directives c.directives.item _ _ _ _
    (taken_of _ _ _ _ c.directives-directives.ensures.value c.directives-test.true c.index-directives-item.is)
    c.directives.invariant.no_file c.read_file.ensures.same (names_none c.args.source.now.directives (c.directives.item + 1) none)

pub directives-preserved : goal.directives-preserved
directives-preserved g c =
    let d = c.index-directives-item.result in
    let same = c.directives-directives.ensures.value in
    stepping g.S.Shelf.told g.S.Shelf.state g.S.Shelf.given g.S.Shelf.read_faults g.S.Shelf.write_faults
    c.args.shelf.now c.directives.shelf c.read_file.new.shelf c.args.source.now c.directives.item c.directives.progress c.add.new.self d _
    c.directives.invariant
    (front_of _ _ _ same c.directives-test.true)
    (left_of _ _ _ _ same c.directives-test.true c.index-directives-item.is)
    (taken_of _ _ _ _ same c.directives-test.true c.index-directives-item.is)
    c.read_file.ensures.kept c.read_file.ensures.reads c.read_file.ensures.writes c.read_file.ensures.unwritten
    c.in-Ok-read_file.ensures.short c.in-Ok-read_file.ensures.same
    (λ files is. told_at _ _ c.in-Ok-read_file.ensures.file files is)
    c.in-Ok-add.ensures.added
