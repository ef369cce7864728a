use Rattle.std.proofs.Common.{sym, ◌∙◌}
use Rattle.igvm_measure.specs.Measured.{measured}
use Rattle.igvm_measure.specs.Walks.{walk_left}
use Rattle.igvm_measure.proofs.FileBinding.{decides_alike, differ_where_false}
use Rattle.igvm_measure.proofs.alike.measured_alike.Goals as goal

pub returns-clause-exact : goal.returns-clause-exact
returns-clause-exact c =
    decides_alike c.same_pages.result (walk_left c.new.result) (walk_left c.new-2.result)
    (measured c.args.first.now c.args.p c.args.options) (measured c.args.second.now c.args.q c.args.options)
    c.same_pages.ensures c.new.ensures.left c.new-2.ensures.left

pub returns-clause-digests : goal.returns-clause-digests
returns-clause-digests c = λ holds.
    c.binding.ensures.alike c.args.first.now c.args.second.now c.args.p c.args.q c.args.options c.requires.kinds
    (sym c.new.ensures.left ∙ c.same_pages.ensures.0 holds ∙ c.new-2.ensures.left)

pub returns-clause-clash : goal.returns-clause-clash
returns-clause-clash c = λ fails same.
    c.binding.ensures.clash c.args.first.now c.args.second.now c.args.p c.args.q c.args.options c.requires.kinds
    (record { bytes = c.fixed-first.ensures.bytes; accepted = c.fixed-first.ensures.accepted })
    (record { bytes = c.fixed-second.ensures.bytes; accepted = c.fixed-second.ensures.accepted })
    same
    (differ_where_false c.same_pages.result (walk_left c.new.result) (walk_left c.new-2.result)
    (measured c.args.first.now c.args.p c.args.options) (measured c.args.second.now c.args.q c.args.options)
    c.same_pages.ensures c.new.ensures.left c.new-2.ensures.left fails)
