use Rattle.std.proofs.Common.{◌≡◌, ◌+◌, sym, ◌∙◌, subst, arith}
use Rattle.list_changes.proofs.Numbered.{IsLeft, at_platform, past_platform, past_other, past_all}
use Rattle.list_changes.proofs.platforms.mask_at.Goals as goal
use Rattle.list_changes.proofs.platforms.mask_at.Goals.{in-Some+else-left-eq0, in_default}

pub returns-then-left-eq0 : goal.returns-then-left-eq0
returns-then-left-eq0 c =
    at_platform c.args.parts.now c.args.number c.parts.component-index c.parts.left c.in-Some.mask c.component-item.result
    c.parts.invariant c.parts-test.true c.component-item.is c.in-Some.ensures c.if-left-eq0.true

pub returns : goal.returns
returns c = past_all c.args.parts.now c.args.number c.parts.component-index c.parts.left c.parts.invariant c.parts-test.false

pub parts-preserved : goal.parts-preserved
parts-preserved c = elim c.match-own_mask.branch [
  | in-Some+else-left-eq0 w ↦
      past_platform c.args.parts.now c.args.number c.parts.component-index c.parts.left c.match-own_mask.left w.in-Some.mask c.component-item.result
      c.parts.invariant c.parts-test.true c.component-item.is w.in-Some.ensures (omega arith)
  | in_default w ↦
      let same : c.match-own_mask.left ≡ c.parts.left = w.left-is in
      subst (IsLeft c.args.parts.now c.args.number (c.parts.component-index + 1)) (sym same)
      (past_other c.args.parts.now c.args.number c.parts.component-index c.parts.left c.component-item.result
      c.parts.invariant c.parts-test.true c.component-item.is (sym w.in_default.is ∙ c.own_mask.ensures))
]
