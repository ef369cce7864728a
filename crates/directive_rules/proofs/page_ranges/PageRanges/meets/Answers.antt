-- the last range that begins before the end decides
use Rattle.std.proofs.Common.{ap, sym, ◌∙◌}
use Rattle.std.specs.List.{list_any}
use Rattle.directive_rules.specs.PageRanges.{meets}
use Rattle.directive_rules.proofs.RangesLemmas.{meets_none, meets_last}
use Rattle.directive_rules.proofs.page_ranges.PageRanges.meets.Goals as goal

pub returns-in-Some : goal.returns-in-Some
returns-in-Some c =
    let range = c.range.ensures.in_range tt in
    let entry = range.3 _ _ c.in-Some.ensures.steps in
    meets_last c.self.inside.ranges c.args.start c.args.end _ _ c.self.invariant c.range.ensures.ordered entry.0.1 entry.1
    (λ q less there. range.4 _ _ c.in-Some.ensures.steps q (tt, less) there)
    ∙ ap (list_any (meets c.args.start c.args.end)) c.self.view_is

pub returns-in-None : goal.returns-in-None
returns-in-None c =
    let range = c.range.ensures.in_range tt in
    sym (meets_none c.self.inside.ranges c.args.start c.args.end c.range.ensures.ordered
    (λ q less. range.5 c.in-None.ensures.steps.0 q (tt, less)))
    ∙ ap (list_any (meets c.args.start c.args.end)) c.self.view_is
