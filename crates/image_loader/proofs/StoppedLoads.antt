-- Where a fault may stop a load on its way, on a machine of any make.
use Rattle.std.proofs.Common.{◌≡◌, ℕ, ◌+◌, [], length, take, refl, sym, ap, subst, ◌∙◌, arith, length-append}
use Rattle.std.proofs.lemmas.List.{take_at}
use Rattle.launch_platform.specs.Machine.{State, started}
use Rattle.image_loader.specs.declared.carrier.Carrier as carriers
use Rattle.image_loader.specs.Loads.{Load}
use Rattle.image_loader.specs.LoadCommands.{IsAfterIn, Stopped, commands, records_by, state_after}

-- a machine that a fault has stopped on its way from the start of the launch is as a front of the commands leaves it
pub stopped_in : {C M : Type 0} (g : carriers.Ghosts C M) (load : Load) (a b : M)
    → g.state a ≡ started load.platform.kind → g.holds a [] → Stopped g (commands load) a b
    → (n : ℕ) × IsAfterIn g.state g.holds load n b
stopped_in g load a b begun empty stopped =
    let front : take (length stopped.front) (commands load) ≡ stopped.front =
    ap (take (length stopped.front)) (sym stopped.split)
    ∙ take_at stopped.front stopped.back (length stopped.front) refl in
    let size : length stopped.front + length stopped.back ≡ length (commands load) =
    sym (length-append stopped.front stopped.back) ∙ ap length stopped.split in (
      length stopped.front,
      record {
        some = omega arith;
        state = stopped.state
            ∙ ap (state_after stopped.front) begun
            ∙ ap (λ cs. state_after cs (started load.platform.kind)) (sym front);
        held = subst (λ cs. g.holds b (records_by cs (started load.platform.kind))) (sym front)
            (subst (λ (s : State). g.holds b (records_by stopped.front s)) begun (stopped.held [] empty));
      },
    )
