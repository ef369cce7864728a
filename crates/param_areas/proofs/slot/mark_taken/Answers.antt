use Rattle.std.proofs.Common.{◌==◌, ◌∙◌, sym, ap, arith, true, false}
use Rattle.std.proofs.lemmas.Bool.{eq-eqb}
use Rattle.param_areas.specs.AreaBytes.{change_first}
use Rattle.param_areas.specs.declared.slot.Slot.{Slot}
use Rattle.param_areas.proofs.Changes.{change_at, change_none}
use Rattle.param_areas.proofs.slot.mark_taken.Goals as goal

pub returns-then-slots-i : goal.returns-then-slots-i
returns-then-slots-i c =
    sym (change_at (λ s. s.area == c.args.area) (λ s. record s { taken = true }) (record { area = 0; start = 0; size = 0; taken = false }) c.slots.slots c.slots.i
    (omega arith) (eq-eqb _ _ c.if-slots-i.true) c.slots.invariant.1)
    ∙ ap (λ slots. change_first (λ (s : Slot). s.area == c.args.area) (λ s. record s { taken = true }) slots) c.slots.invariant.0

pub returns : goal.returns
returns c =
    sym (change_none (λ s. s.area == c.args.area) (λ s. record s { taken = true }) (record { area = 0; start = 0; size = 0; taken = false }) c.slots.slots (λ k h. c.slots.invariant.1 k (omega arith)))
    ∙ ap (λ slots. change_first (λ (s : Slot). s.area == c.args.area) (λ s. record s { taken = true }) slots) c.slots.invariant.0
