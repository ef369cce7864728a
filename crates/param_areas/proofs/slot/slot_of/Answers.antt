use Rattle.std.proofs.Common.{◌==◌, ◌∙◌, sym, ap, arith, is_some, true, false, ◌≡◌}
use Rattle.std.proofs.lemmas.Bool.{eq-eqb}
use Rattle.param_areas.specs.declared.slot.Slot.{Slot}
use Rattle.param_areas.proofs.Changes.{find_first, find_none}
use Rattle.param_areas.proofs.slot.slot_of.Goals as goal

pub returns-then-slots-i : goal.returns-then-slots-i
returns-then-slots-i c =
    find_first (λ s. s.area == c.args.area) (record { area = 0; start = 0; size = 0; taken = false }) c.args.slots.now c.slots.i
    c.slots-test.true (eq-eqb _ _ c.if-slots-i.true) c.slots.invariant

pub unreachable-requires : goal.unreachable-requires
unreachable-requires c =
    let none = find_none (λ (s : Slot). s.area == c.args.area) (record { area = 0; start = 0; size = 0; taken = false }) c.args.slots.now (λ k h. c.slots.invariant k (omega arith)) in
    let no : true ≡ false = sym c.requires ∙ ap is_some none in
    cc
