use Rattle.std.proofs.Common.{◌≡◌, refl, sym, ap, subst, ◌∙◌, arith, false, Option, Some, inl, inr}
use Rattle.std.specs.Prelude.{IfOk, IfErr}
use Rattle.directive_rules.specs.CheckAnswers.{IsRefusalBy}
use Rattle.directive_rules.specs.FirstMisfit.{first_misfit}
use Rattle.directive_rules.specs.declared.misfit.Misfit as misfit
use Rattle.directive_rules.specs.declared.misfit.CheckRefusal.{CheckRefusal}
use Rattle.directive_rules.specs.declared.misfit.CheckRefusal.TheVariants.{Misfit}
use Rattle.igvm_headers.specs.declared.options.Options.{Options}
use Rattle.igvm_headers.specs.declared.platform_kind.PlatformKind.{PlatformKind}
use Rattle.igvm_headers.specs.declared.platform_kind.PlatformKind.TheVariants.{Sev, SevEs}
use Rattle.image_loader.specs.Loads.{Load, load_of}
use Rattle.sev_chain.specs.SevBytes.{HasSevDigest}
use Rattle.sev_loader.specs.SevLoading.{SevEndsBy, IsSevRefusal}
use Rattle.sev_loader.proofs.loading.sev_load.Goals as goal

-- a kind that is neither has no such digest
no_digest : (kind : PlatformKind) → (kind ≡ Sev → ⊥) → (kind ≡ SevEs → ⊥) → HasSevDigest kind → ⊥
no_digest kind not_sev not_sev_es (inl is) = not_sev is
no_digest kind not_sev not_sev_es (inr is) = not_sev_es is

-- options without a say
plain : (options : Options) → options.native_zero ≡ false → options ≡ record { native_zero = false }
plain options is = ap (λ z. record { native_zero = z }) is

-- a refusal that is a misfit names it
misfit_is : (first : Option misfit.Misfit) (e : CheckRefusal) (m : misfit.Misfit) → e ≡ Misfit m → IsRefusalBy first e
    → first ≡ Some m
misfit_is first e m is by = subst (IsRefusalBy first) is by

pub returns-in_default : goal.returns-in_default
returns-in_default g c = record {
  ends = tt;
  refused = (refl, no_digest c.args.platform.kind c.in_default.not-Sev c.in_default.not-SevEs, refl);
  cause = λ is. absurd (cc is);
  no_fault = λ other. refl;
  counted = omega arith;
}

-- ---- where it is not judged to fit

pub returns-in-Err-Misfit-clause-ends : goal.returns-in-Err-Misfit-clause-ends
returns-in-Err-Misfit-clause-ends g c =
    let named = misfit_is _ c.in-Err-Misfit.field-0 c.in-Err-Misfit.misfit c.in-Err-Misfit.field-0-is
    c.in-Err-Misfit.ensures.refused in
    (c.in-Sev.is, named ∙ ap (λ m. Some m) (sym c.in-Err-Misfit.misfit-is), refl)

pub returns-in-Err-Misfit-clause-cause : goal.returns-in-Err-Misfit-clause-cause
returns-in-Err-Misfit-clause-cause g c = λ is. absurd (cc is)

pub returns-in-Err-Misfit-clause-no_fault : goal.returns-in-Err-Misfit-clause-no_fault
returns-in-Err-Misfit-clause-no_fault g c = λ other. refl

pub returns-in-Err-Misfit-clause-counted : goal.returns-in-Err-Misfit-clause-counted
returns-in-Err-Misfit-clause-counted g c = omega arith

pub returns-in-Err-Memory-clause-refused : goal.returns-in-Err-Memory-clause-refused
returns-in-Err-Memory-clause-refused g c = (c.in-Sev.is, refl)

pub returns-in-Err-Memory-clause-cause : goal.returns-in-Err-Memory-clause-cause
returns-in-Err-Memory-clause-cause g c = λ is. absurd (cc is)

pub returns-in-Err-Memory-clause-no_fault : goal.returns-in-Err-Memory-clause-no_fault
returns-in-Err-Memory-clause-no_fault g c = λ other. refl

pub returns-in-Err-Memory-clause-counted : goal.returns-in-Err-Memory-clause-counted
returns-in-Err-Memory-clause-counted g c = omega arith

-- ---- where it is

pub launch-requires-clause-idle : goal.launch-requires-clause-idle
launch-requires-clause-idle g c = c.requires

pub launch-requires-clause-kind : goal.launch-requires-clause-kind
launch-requires-clause-kind g c = ap (λ (load : Load). load.platform.kind) (sym c.in-Ok.ensures.load)

pub launch-requires-clause-sev : goal.launch-requires-clause-sev
launch-requires-clause-sev g c =
    subst (λ (load : Load). HasSevDigest load.platform.kind) (sym c.in-Ok.ensures.load) c.in-Sev.is

pub returns-clause-ends : goal.returns-clause-ends
returns-clause-ends g c =
    let loads = c.in-Ok.ensures.load
    ∙ ap (λ options. load_of c.args.view.now c.args.platform options c.args.host.now) (plain c.plain.result c.plain.ensures) in
    let first = first_misfit c.args.view.now c.args.platform c.args.plan.now c.args.host.now in
    let old = c.args.machine.now in
    let new = c.launch.new.machine in
    subst (λ load. IfOk c.launch.result (SevEndsBy g.M.SevLaunch load first old new)) loads
    (subst (λ found. IfOk c.launch.result (SevEndsBy g.M.SevLaunch c.in-Ok.judged found old new)) (sym c.in-Ok.ensures.fits)
    c.launch.ensures.ends)

pub returns-clause-refused : goal.returns-clause-refused
returns-clause-refused g c =
    let loads = c.in-Ok.ensures.load
    ∙ ap (λ options. load_of c.args.view.now c.args.platform options c.args.host.now) (plain c.plain.result c.plain.ensures) in
    let first = first_misfit c.args.view.now c.args.platform c.args.plan.now c.args.host.now in
    let old = c.args.machine.now in
    let new = c.launch.new.machine in
    subst (λ load. IfErr c.launch.result (IsSevRefusal g.M.SevLaunch load first old new)) loads
    (subst (λ found. IfErr c.launch.result (IsSevRefusal g.M.SevLaunch c.in-Ok.judged found old new))
    (sym c.in-Ok.ensures.fits) c.launch.ensures.refused)

pub returns-clause-cause : goal.returns-clause-cause
returns-clause-cause g c = c.launch.ensures.cause

pub returns-clause-no_fault : goal.returns-clause-no_fault
returns-clause-no_fault g c = c.launch.ensures.no_fault

pub returns-clause-counted : goal.returns-clause-counted
returns-clause-counted g c = c.launch.ensures.counted
