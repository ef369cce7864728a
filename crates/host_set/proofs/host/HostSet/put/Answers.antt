use Rattle.std.proofs.Common.{◌≡◌, ◌<◌, ap, sym, ◌∙◌, subst, arith, length, ℕ, map, set, Vec, Global}
use Rattle.std.proofs.lemmas.List.{map-set}
use Rattle.igvm_headers.specs.declared.param_kind.ParamKind.{ParamKind}
use Rattle.host_set.specs.Hosts.{HostValues, AreWithin, with_value, value_of}
use Rattle.igvm_headers.specs.ParamKinds.{param_number}
use Rattle.host_set.specs.HostViews.{view_of}
use Rattle.host_set.specs.declared.host.HostSet.TheInside.{Inside}
use Rattle.host_set.proofs.Changed.{stays_within, value_put, others_stay}
use Rattle.host_set.proofs.host.HostSet.put.Goals as goal

changed : (host : Inside) (kind : ParamKind) (number : ℕ) (value : Vec ℕ Global) → number ≡ param_number kind → view_of (record host { values = set host.values number value }) ≡ with_value kind value.items (view_of host)
changed host kind number value is =
    ap (λ vs. record (view_of host) { values = vs }) (map-set (λ (v : Vec ℕ Global). v.items) host.values number value ∙ ap (λ n. set (map (λ (v : Vec ℕ Global). v.items) host.values) n value.items) is)

pub invariant_of-self : goal.invariant_of-self
invariant_of-self c =
    let few : param_number c.args.kind < 10 = subst (λ n. n < 10) c.number-number.ensures.number c.number-number.ensures.few in
    subst AreWithin (sym (changed c.self.inside c.args.kind c.number-number.result c.args.value c.number-number.ensures.number))
    (stays_within (view_of c.self.inside) c.args.kind c.args.value.items few c.requires c.self.invariant)

pub returns : goal.returns
returns c =
    let now = changed c.self.inside c.args.kind c.number-number.result c.args.value c.number-number.ensures.number ∙ ap (with_value c.args.kind c.args.value.items) c.self.view_is in
    let few : param_number c.args.kind < 10 = subst (λ n. n < 10) c.number-number.ensures.number c.number-number.ensures.few in
    let count : length c.args.self.now.values ≡ 10 = subst (λ (h : HostValues). length h.values ≡ 10) c.self.view_is c.self.invariant.count in
    let within : param_number c.args.kind < length c.args.self.now.values = omega arith in
    record {
      put = ap (λ h. value_of h c.args.kind) now ∙ value_put c.args.self.now c.args.kind c.args.value.items within;
      others = λ other differ. ap (λ h. value_of h other) now ∙ others_stay c.args.self.now c.args.kind other c.args.value.items differ;
      changed = now;
    }
