use Rattle.std.proofs.Common.{◌≡◌, ℕ, ◌+◌, ◌≤◌, ◌<◌, ◌∙◌, ap, sym, length, take, arith, subst, refl, List, false}
use Rattle.std.proofs.lemmas.List.{with_items_is, take_more_set, length-take-le}
use Rattle.param_areas.specs.AreaBytes.{Space, written}
use Rattle.param_areas.specs.AreaHistory.{content_bytes}
use Rattle.param_areas.specs.Slots.{LaidOut}
use Rattle.param_areas.specs.declared.slot.Slot.{Slot}
use Rattle.param_areas.proofs.InBuffer.{used_is, laid_push, space_declared}
use Rattle.param_areas.proofs.Written.{length_written}
use Rattle.param_areas.proofs.Histories.{declare_told, length_content_bytes}
use Rattle.param_areas.proofs.areas.Areas.declare.Goals as goal

pub write_pages-requires : goal.write_pages-requires
write_pages-requires c =
    let is = used_is c.self.inside.bytes.items (take c.self.inside.count c.self.inside.slots) c.args.self.now _ c.self.inside.used c.self.invariant.laid (omega (arith, c.self.inside.bytes.ok.0)) c.self.view_is in
    omega (arith, is.0, is.1, c.self.inside.bytes.ok.0, ap length c.as_mut_slice.ensures.value, c.requires.fits, c.requires.size)

pub invariant_of-self : goal.invariant_of-self
invariant_of-self c =
    let P : List Slot → Type 0 = λ slots. LaidOut 0 slots (c.self.inside.used + c.args.size) in
    let is = used_is c.self.inside.bytes.items (take c.self.inside.count c.self.inside.slots) c.args.self.now _ c.self.inside.used c.self.invariant.laid (omega (arith, c.self.inside.bytes.ok.0)) c.self.view_is in
    let fits : c.self.inside.used + c.args.size ≤ c.self.inside.bytes.len = omega (arith, is.0, is.1, c.requires.fits) in
    let few : c.self.inside.count < 256 = omega (arith, is.2, c.requires.few, length-take-le c.self.inside.count c.self.inside.slots (omega arith)) in
    record {
      few = omega arith;
      within = fits;
      small = omega arith;
      laid = subst P (sym (take_more_set c.self.inside.slots c.self.inside.count _ (omega arith))) (laid_push (take c.self.inside.count c.self.inside.slots) (record { area = c.args.area; start = c.self.inside.used; size = c.args.size; taken = false }) 0 c.self.inside.used c.self.invariant.laid refl);
    }

pub returns-clause-added : goal.returns-clause-added
returns-clause-added c =
    let is = used_is c.self.inside.bytes.items (take c.self.inside.count c.self.inside.slots) c.args.self.now _ c.self.inside.used c.self.invariant.laid (omega (arith, c.self.inside.bytes.ok.0)) c.self.view_is in
    let fits : c.self.inside.used + c.args.size ≤ c.self.inside.bytes.len = omega (arith, is.0, is.1, c.requires.fits) in
    let few : c.self.inside.count < 256 = omega (arith, is.2, c.requires.few, length-take-le c.self.inside.count c.self.inside.slots (omega arith)) in
    let full : length (content_bytes c.args.content) ≡ c.args.size = length_content_bytes c.args.content ∙ sym c.requires.size in
    let written_is : c.write_pages.new.bytes ≡ written c.self.inside.used (content_bytes c.args.content) c.self.inside.bytes.items = c.write_pages.ensures ∙ ap (written c.self.inside.used (content_bytes c.args.content)) c.as_mut_slice.ensures.value in
    let within : c.self.inside.used + length (content_bytes c.args.content) ≤ length c.self.inside.bytes.items = omega (arith, full, fits, c.self.inside.bytes.ok.0) in
    let size : length c.write_pages.new.bytes ≡ c.self.inside.bytes.len = ap length written_is ∙ length_written _ _ _ within ∙ sym c.self.inside.bytes.ok.0 in
    space_declared c.self.inside.bytes.items _ (content_bytes c.args.content) (take c.self.inside.count c.self.inside.slots) _ (record { area = c.args.area; start = c.self.inside.used; size = c.args.size; taken = false }) c.args.self.now _ c.args.area c.self.inside.used c.self.invariant.laid within
    (with_items_is c.self.inside.bytes c.write_pages.new.bytes size ∙ written_is) (take_more_set c.self.inside.slots c.self.inside.count _ (omega arith))
    (ap (λ (n : ℕ). let s : Slot = record { area = c.args.area; start = c.self.inside.used; size = n; taken = false } in s) (sym full)) c.self.view_is

pub returns-clause-told : goal.returns-clause-told
returns-clause-told c =
    λ told shows. ap (λ (s : Space). s.areas) (returns-clause-added c) ∙ declare_told c.args.self.now told c.args.area c.args.content shows
