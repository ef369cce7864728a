use Rattle.std.proofs.Common.{◌≡◌, ◌+◌, ◌∙◌, ap, sym, length, take, arith}
use Rattle.std.proofs.lemmas.List.{with_items_is}
use Rattle.param_areas.specs.AreaBytes.{Space, written}
use Rattle.param_areas.proofs.InBuffer.{slot_where_open, part_within, space_set}
use Rattle.param_areas.proofs.Written.{length_written}
use Rattle.param_areas.proofs.Histories.{set_told}
use Rattle.param_areas.proofs.areas.Areas.set.Goals as goal

pub slot_of-slot-requires : goal.slot_of-slot-requires
slot_of-slot-requires c =
    slot_where_open c.self.inside.bytes.items (take c.self.inside.count c.self.inside.slots) c.args.self.now _ c.args.area c.requires.open c.self.view_is

pub overflow_add-slot : goal.overflow_add-slot
overflow_add-slot c =
    let room = part_within c.self.inside.bytes.items (take c.self.inside.count c.self.inside.slots) c.args.self.now _ c.args.area c.self.inside.used (c.args.offset + length c.args.value.now) c.slot_of-slot.result c.slot_of-slot.ensures c.self.invariant.laid (omega (arith, c.self.inside.bytes.ok.0)) c.self.view_is c.requires.fits in
    omega (arith, room.0, room.1, c.self.inside.bytes.ok.0)

pub write_value-requires : goal.write_value-requires
write_value-requires c =
    let room = part_within c.self.inside.bytes.items (take c.self.inside.count c.self.inside.slots) c.args.self.now _ c.args.area c.self.inside.used (c.args.offset + length c.args.value.now) c.slot_of-slot.result c.slot_of-slot.ensures c.self.invariant.laid (omega (arith, c.self.inside.bytes.ok.0)) c.self.view_is c.requires.fits in
    omega (arith, room.0, room.1, c.self.inside.bytes.ok.0, ap length c.as_mut_slice.ensures.value)

pub returns-clause-changed : goal.returns-clause-changed
returns-clause-changed c =
    let room = part_within c.self.inside.bytes.items (take c.self.inside.count c.self.inside.slots) c.args.self.now _ c.args.area c.self.inside.used (c.args.offset + length c.args.value.now) c.slot_of-slot.result c.slot_of-slot.ensures c.self.invariant.laid (omega (arith, c.self.inside.bytes.ok.0)) c.self.view_is c.requires.fits in
    let is : c.write_value.new.bytes ≡ written (c.slot_of-slot.result.start + c.args.offset) c.args.value.now c.self.inside.bytes.items = c.write_value.ensures ∙ ap (written (c.slot_of-slot.result.start + c.args.offset) c.args.value.now) c.as_mut_slice.ensures.value in
    let size : length c.write_value.new.bytes ≡ c.self.inside.bytes.len = ap length is ∙ length_written _ _ _ (omega (arith, room.0, room.1)) ∙ sym c.self.inside.bytes.ok.0 in
    space_set c.self.inside.bytes.items _ c.args.value.now (take c.self.inside.count c.self.inside.slots) c.args.self.now _ c.args.area c.args.offset c.self.inside.used c.slot_of-slot.result c.slot_of-slot.ensures c.self.invariant.laid (omega (arith, c.self.inside.bytes.ok.0)) room.0
    (with_items_is c.self.inside.bytes c.write_value.new.bytes size ∙ is) c.self.view_is

pub returns-clause-told : goal.returns-clause-told
returns-clause-told c =
    λ told shows. ap (λ (s : Space). s.areas) (returns-clause-changed c) ∙ set_told c.args.self.now told c.args.area c.args.offset c.args.value.now c.requires.fits shows
