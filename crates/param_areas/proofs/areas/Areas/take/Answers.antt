use Rattle.std.proofs.Common.{◌≡◌, ◌≤◌, ◌==◌, ◌∙◌, ℕ, ap, sym, length, take, arith, subst, ◌++◌, List, true}
use Rattle.std.proofs.lemmas.List.{take_at, length-take-le}
use borrow.Rule.Slice.PartMut.{post_of}
use Rattle.param_areas.specs.AreaBytes.{Space, change_first}
use Rattle.param_areas.specs.Slots.{LaidOut}
use Rattle.param_areas.specs.declared.slot.Slot.{Slot}
use Rattle.param_areas.proofs.InBuffer.{laid_taken, space_taken}
use Rattle.param_areas.proofs.Histories.{take_told}
use Rattle.param_areas.proofs.areas.Areas.take.Goals as goal

marked : (slots after rest : List Slot) (count area : ℕ) → count ≤ length slots → length after ≡ length (take count slots) → after ≡ change_first (λ s. s.area == area) (λ s. record s { taken = true }) (take count slots) → take count (after ++ rest) ≡ change_first (λ s. s.area == area) (λ s. record s { taken = true }) (take count slots)
marked slots after rest count area few size is = take_at after rest count (size ∙ length-take-le count slots few) ∙ is

pub invariant_of-self : goal.invariant_of-self
invariant_of-self c =
    let after = marked c.self.inside.slots c.mark_taken.new.slots (post_of 0 c.self.inside.count c.self.inside.slots) c.self.inside.count c.args.area (omega arith) c.mark_taken.auto.slots c.mark_taken.ensures in
    let P : List Slot → Type 0 = λ slots. LaidOut 0 slots c.self.inside.used in
    record { few = omega arith; within = omega arith; small = omega arith; laid = subst P (sym after) (laid_taken _ (take c.self.inside.count c.self.inside.slots) 0 c.self.inside.used c.self.invariant.laid) }

pub returns-clause-taken : goal.returns-clause-taken
returns-clause-taken c =
    let after = marked c.self.inside.slots c.mark_taken.new.slots (post_of 0 c.self.inside.count c.self.inside.slots) c.self.inside.count c.args.area (omega arith) c.mark_taken.auto.slots c.mark_taken.ensures in
    space_taken c.self.inside.bytes.items (take c.self.inside.count c.self.inside.slots) _ c.args.self.now _ c.args.area after c.self.view_is

pub returns-clause-told : goal.returns-clause-told
returns-clause-told c =
    λ told shows. ap (λ (s : Space). s.areas) (returns-clause-taken c) ∙ take_told c.args.self.now told c.args.area shows
