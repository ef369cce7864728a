use Rattle.std.proofs.Common.{◌≡◌, ◌+◌, ◌-◌, ◌*◌, ◌∙◌, ap, length, take, drop, arith, get_or}
use Rattle.igvm_headers.specs.Numbers.{slice}
use Rattle.param_areas.proofs.InBuffer.{slot_where_open, part_within, lent_bytes}
use Rattle.param_areas.proofs.Histories.{lent_told}
use Rattle.param_areas.proofs.areas.Areas.page.Goals as goal

pub slot_of-slot-requires : goal.slot_of-slot-requires
slot_of-slot-requires c =
    slot_where_open c.self.inside.bytes.items (take c.self.inside.count c.self.inside.slots) c.args.self.now _ c.args.area c.requires.open c.self.view_is

pub overflow_mul-place : goal.overflow_mul-place
overflow_mul-place c =
    let room = part_within c.self.inside.bytes.items (take c.self.inside.count c.self.inside.slots) c.args.self.now _ c.args.area c.self.inside.used (4096 * c.args.k + 4096) c.slot_of-slot.result c.slot_of-slot.ensures c.self.invariant.laid (omega (arith, c.self.inside.bytes.ok.0)) c.self.view_is c.requires.within in
    omega (arith, room.0, room.1, c.self.inside.bytes.ok.0)

pub overflow_add-place : goal.overflow_add-place
overflow_add-place c =
    let room = part_within c.self.inside.bytes.items (take c.self.inside.count c.self.inside.slots) c.args.self.now _ c.args.area c.self.inside.used (4096 * c.args.k + 4096) c.slot_of-slot.result c.slot_of-slot.ensures c.self.invariant.laid (omega (arith, c.self.inside.bytes.ok.0)) c.self.view_is c.requires.within in
    omega (arith, room.0, room.1, c.self.inside.bytes.ok.0)

pub overflow_add-result : goal.overflow_add-result
overflow_add-result c =
    let room = part_within c.self.inside.bytes.items (take c.self.inside.count c.self.inside.slots) c.args.self.now _ c.args.area c.self.inside.used (4096 * c.args.k + 4096) c.slot_of-slot.result c.slot_of-slot.ensures c.self.invariant.laid (omega (arith, c.self.inside.bytes.ok.0)) c.self.view_is c.requires.within in
    omega (arith, room.0, room.1, c.self.inside.bytes.ok.0)

pub slice_bounds-result-end : goal.slice_bounds-result-end
slice_bounds-result-end c =
    let room = part_within c.self.inside.bytes.items (take c.self.inside.count c.self.inside.slots) c.args.self.now _ c.args.area c.self.inside.used (4096 * c.args.k + 4096) c.slot_of-slot.result c.slot_of-slot.ensures c.self.invariant.laid (omega (arith, c.self.inside.bytes.ok.0)) c.self.view_is c.requires.within in
    omega (arith, room.0, room.1, c.self.inside.bytes.ok.0, ap length c.as_slice.ensures.value)

pub returns-clause-bytes : goal.returns-clause-bytes
returns-clause-bytes c =
    let size : c.slot_of-slot.result.start + 4096 * c.args.k + 4096 - (c.slot_of-slot.result.start + 4096 * c.args.k) ≡ 4096 = omega arith in
    ap (λ n. take n (drop (c.slot_of-slot.result.start + 4096 * c.args.k) c.as_slice.result.now)) size
    ∙ ap (λ l. slice l (c.slot_of-slot.result.start + 4096 * c.args.k) 4096) c.as_slice.ensures.value
    ∙ lent_bytes c.self.inside.bytes.items (take c.self.inside.count c.self.inside.slots) c.args.self.now _ c.args.area c.self.inside.used (4096 * c.args.k) 4096 c.slot_of-slot.result c.slot_of-slot.ensures c.self.invariant.laid (omega (arith, c.self.inside.bytes.ok.0)) c.self.view_is c.requires.within

pub returns-clause-told : goal.returns-clause-told
returns-clause-told c =
    λ told shows j few. ap (λ l. get_or l j 0) (returns-clause-bytes c) ∙ lent_told c.args.self.now told c.args.area c.args.k j c.requires.within shows few
