-- a range more, in the place of none
use Rattle.std.proofs.Common.{ℕ, ◌||◌, ap, ◌∙◌, List}
use Rattle.std.specs.List.{list_any}
use Rattle.directive_rules.specs.PageRanges.{meets}
use Rattle.directive_rules.proofs.RangesLemmas.{any-insert, start_absent, apart_more, apart_same, not_at}
use Rattle.directive_rules.proofs.page_ranges.PageRanges.add.Goals as goal

pub invariant_of-self : goal.invariant_of-self
invariant_of-self c = apart_same c.self.inside.ranges c.insert.new.self c.self.invariant c.in_err-insert.ensures.err

pub invariant_of-self-2 : goal.invariant_of-self-2
invariant_of-self-2 c =
    let none = ap (list_any (meets c.args.start c.args.end)) c.self.view_is ∙ c.requires.apart in
    apart_more c.self.inside.ranges c.insert.new.self c.args.start c.args.end c.self.invariant c.in_ok-insert.ensures.was_ordered c.requires.some none
    (λ q other. c.in_ok-insert.ensures.updates.2 q (not_at c.args.start q other)) c.in_ok-insert.ensures.updates.1

pub returns : goal.returns
returns c = λ test.
    let none = ap (list_any (meets c.args.start c.args.end)) c.self.view_is ∙ c.requires.apart in
    let absent = start_absent c.self.inside.ranges c.args.start c.args.end c.self.invariant c.in_ok-insert.ensures.was_ordered c.requires.some none in
    ap (list_any test) c.in_ok-insert.ensures.entries ∙ any-insert test c.self.inside.ranges.entries c.args.start c.args.end absent
    ∙ ap (λ (es : List (ℕ × ℕ)). list_any test es || test (c.args.start, c.args.end)) c.self.view_is
