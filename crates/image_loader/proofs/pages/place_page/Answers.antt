use Rattle.std.proofs.Common.{sym, ap, subst, ◌∙◌}
use Rattle.launch_platform.specs.Machine.{State}
use Rattle.image_loader.proofs.Carried.{did_place, on_err}
use Rattle.image_loader.proofs.PageSteps.{can_add, can_extend, did_page, same_kind, same_phase, stopped_adding, stopped_extending}
use Rattle.image_loader.proofs.pages.place_page.Goals as goal

pub add_page-requires-clause-kinds : goal.add_page-requires-clause-kinds
add_page-requires-clause-kinds g c =
    subst g.C.Carrier.kinds (sym (ap (λ (s : State). s.kind) c.in_ok-slot.ensures.done.state)) c.requires.kinds

pub add_page-requires-clause-loading : goal.add_page-requires-clause-loading
add_page-requires-clause-loading g c =
    ap (λ (s : State). s.phase) c.in_ok-slot.ensures.done.state ∙ c.requires.loading

pub add_page-requires-clause-entry : goal.add_page-requires-clause-entry
add_page-requires-clause-entry g c =
    can_add c.pages_enter.ensures.added _ _ c.args.gpa _ c.args.page c.args.tag
    c.in_ok-slot.ensures.done.state c.in_ok-slot.ensures.slot c.requires.fits

pub returns-in_err-add_page-clause-stopped : goal.returns-in_err-add_page-clause-stopped
returns-in_err-add_page-clause-stopped g c =
    on_err c.from_residual-in_err-add_page.result
    (stopped_adding g.C.Carrier c.args.gpa _ _ c.args.page c.args.tag c.args.extended _ _ _
    (did_place g.C.Carrier c.args.gpa c.args.page _ _
    c.in_ok-slot.ensures.done c.requires.spare c.in_ok-slot.ensures.no_fault)
    c.in_err-add_page.ensures.stopped c.in_ok-slot.ensures.slot)

pub extend_page-requires-clause-kinds : goal.extend_page-requires-clause-kinds
extend_page-requires-clause-kinds g c =
    subst g.C.Carrier.kinds
    (sym (ap (λ (s : State). s.kind) c.in_ok-add_page.ensures.done.state
    ∙ same_kind c.args.tag _ _
    ∙ ap (λ (s : State). s.kind) c.in_ok-slot.ensures.done.state))
    c.requires.kinds

pub extend_page-requires-clause-loading : goal.extend_page-requires-clause-loading
extend_page-requires-clause-loading g c =
    ap (λ (s : State). s.phase) c.in_ok-add_page.ensures.done.state
    ∙ same_phase c.args.tag _ _
    ∙ ap (λ (s : State). s.phase) c.in_ok-slot.ensures.done.state
    ∙ c.requires.loading

pub extend_page-requires-clause-kind : goal.extend_page-requires-clause-kind
extend_page-requires-clause-kind g c = λ is.
    ap (λ (s : State). s.kind) c.in_ok-add_page.ensures.done.state
    ∙ same_kind c.args.tag _ _
    ∙ ap (λ (s : State). s.kind) c.in_ok-slot.ensures.done.state
    ∙ c.requires.kind is

pub extend_page-requires-clause-entry : goal.extend_page-requires-clause-entry
extend_page-requires-clause-entry g c = λ is.
    can_extend c.pages_enter.ensures.extended _ _ _ c.args.gpa _ c.args.page c.args.tag
    c.in_ok-slot.ensures.done.state c.in_ok-slot.ensures.slot c.in_ok-add_page.ensures.done.state
    (c.requires.normal is)

pub returns-in_err-extend_page-clause-stopped : goal.returns-in_err-extend_page-clause-stopped
returns-in_err-extend_page-clause-stopped g c =
    on_err c.from_residual-in_err-extend_page.result
    (stopped_extending g.C.Carrier c.args.gpa _ _ c.args.page c.args.tag c.args.extended _ _ _ _
    (did_place g.C.Carrier c.args.gpa c.args.page _ _
    c.in_ok-slot.ensures.done c.requires.spare c.in_ok-slot.ensures.no_fault)
    c.in_ok-add_page.ensures.done c.in_err-extend_page.ensures.stopped c.in_ok-slot.ensures.slot)

pub returns-clause-done : goal.returns-clause-done
returns-clause-done g c =
    did_page g.C.Carrier c.args.gpa _ _ c.args.page c.args.tag c.args.extended _ _ _ _
    (did_place g.C.Carrier c.args.gpa c.args.page _ _
    c.in_ok-slot.ensures.done c.requires.spare c.in_ok-slot.ensures.no_fault)
    c.in_ok-add_page.ensures.done c.in_ok-extend_page.ensures.done c.in_ok-slot.ensures.slot
