use Rattle.std.proofs.Common.{◌≡◌, ℕ, arith, refl, take, subst, get_or}
use Rattle.std.proofs.lemmas.Result.{err_from_is_err_and}
use Rattle.igvm_headers.specs.declared.param_kind.ParamKind.{ParamKind}
use Rattle.igvm_headers.specs.declared.param_kind.ParamKind.TheVariants.{VpCount}
use Rattle.serde_json.specs.View.{view}
use Rattle.host_set.specs.Hosts.{with_value}
use Rattle.igvm_headers.specs.ParamKinds.{param_kinds}
use Rattle.host_set.specs.Descriptions.{param_values}
use Rattle.host_set.proofs.ValueLemmas.{with_front, values_from, starts, ends, refused, rest_stays, count_stays, values_go_on}
use Rattle.host_set.proofs.values_json.param_values.Goals as goal

pub steps-init : goal.steps-init
steps-init c =
    record {
      rest = rw c.empty-host.ensures refl;
      count = rw c.empty-host.ensures refl;
      same = starts (view c.args.json.now) c.empty-host.result.values;
    }

pub steps-preserved : goal.steps-preserved
steps-preserved c =
    let kind : ParamKind = get_or param_kinds c.steps.kind-index VpCount in
    let changed : c.put.new.self ≡ with_value kind c.in_ok-value.value.items c.steps.host = c.put.ensures.changed in
    record {
      rest = rest_stays c.steps.host c.put.new.self kind c.in_ok-value.value.items c.steps.invariant.rest changed;
      count = count_stays c.steps.host c.put.new.self kind c.in_ok-value.value.items c.steps.invariant.count changed;
      same = values_go_on (view c.args.json.now) c.steps.kind-index _ VpCount c.in_ok-value.value.items c.steps.host c.put.new.self refl c.steps-test.true c.steps.invariant.count c.in_ok-value.ensures.read changed c.steps.invariant.same;
    }

pub returns-clause-read : goal.returns-clause-read
returns-clause-read c =
    let last : c.steps.kind-index ≡ 10 = omega arith in
    let P : ℕ → Type 0 = λ i. with_front (take i c.steps.host.values) (values_from (view c.args.json.now) i) ≡ param_values (view c.args.json.now) in
    ends (view c.args.json.now) c.steps.host.values c.steps.invariant.count (subst P last c.steps.invariant.same)

pub returns-in_err-value-clause-refused : goal.returns-in_err-value-clause-refused
returns-in_err-value-clause-refused c =
    let p = err_from_is_err_and c.from_residual.result c.from_residual.ensures.1 in
    rw (p.1, p.2) (λ known. refused (view c.args.json.now) c.steps.kind-index VpCount c.in_err-value.field-0.0 c.steps.host.values c.steps-test.true (c.in_err-value.ensures.refused known) c.steps.invariant.same)
