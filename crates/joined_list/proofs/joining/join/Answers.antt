use Rattle.std.proofs.Common.{◌≡◌, ◌∙◌, ap, ap₂, sym, subst, true}
use Rattle.igvm_headers.specs.Fixed.{is_version}
use Rattle.component_list.specs.Lists.{ImageParts, IsList, IsValid}
use Rattle.joined_list.specs.Joined.{FitTogether, joined, joined_parts}
use Rattle.joined_list.proofs.Fields.{joined_is_valid}
use Rattle.joined_list.proofs.JoinedWants.{first_wants, second_wants}
use Rattle.joined_list.proofs.Launches.{first_kept, second_kept}
use Rattle.joined_list.proofs.joining.join.Goals as goal

pub of_valid-requires : goal.of_valid-requires
of_valid-requires c =
    let same = c.into_parts.ensures.parts in
    let also = c.into_parts-2.ensures.parts in
    let fit : FitTogether c.args.first.parts c.args.second.parts = subst (λ a. FitTogether a c.args.second.parts) same (subst (λ b. FitTogether c.into_parts.result.items b) also c.in_ok-parts.ensures.together) in
    subst IsValid (sym (c.in_ok-parts.ensures.parts ∙ ap₂ joined_parts same also))
    (joined_is_valid c.args.first.parts c.args.second.parts c.into_parts.ensures.valid c.into_parts-2.ensures.valid fit c.requires)

pub returns-clause-list : goal.returns-clause-list
returns-clause-list c =
    c.with_version.ensures
    ∙ ap₂ (λ version parts. record { version = version; parts = parts }) c.version-version.ensures.value
    (ap (λ (l : ImageParts). l.parts) c.of_valid.ensures ∙ c.in_ok-parts.ensures.parts ∙ ap₂ joined_parts c.into_parts.ensures.parts c.into_parts-2.ensures.parts)

pub returns-clause-together : goal.returns-clause-together
returns-clause-together c =
    subst (λ a. FitTogether a c.args.second.parts) c.into_parts.ensures.parts
    (subst (λ b. FitTogether c.into_parts.result.items b) c.into_parts-2.ensures.parts c.in_ok-parts.ensures.together)

pub returns-clause-first : goal.returns-clause-first
returns-clause-first c = λ file n p of here small.
    let valid = c.into_parts.ensures.valid in
    let also = c.into_parts-2.ensures.valid in
    let fit = returns-clause-together c in
    let whole = returns-clause-list c in
    let is : IsList (joined c.args.first c.args.second) = record {
      known = subst (λ v. is_version v ≡ true) c.version-version.ensures.value c.version-version.ensures.known;
      valid = joined_is_valid c.args.first.parts c.args.second.parts valid also fit c.requires;
    } in
    first_kept c.args.first c.args.second valid also fit file n p c.with_version.result of here whole
    (c.built_is_read_back.ensures.list c.with_version.result (subst IsList (sym whole) is) small)

pub returns-clause-second : goal.returns-clause-second
returns-clause-second c = λ file n p of here small.
    let valid = c.into_parts.ensures.valid in
    let also = c.into_parts-2.ensures.valid in
    let fit = returns-clause-together c in
    let whole = returns-clause-list c in
    let is : IsList (joined c.args.first c.args.second) = record {
      known = subst (λ v. is_version v ≡ true) c.version-version.ensures.value c.version-version.ensures.known;
      valid = joined_is_valid c.args.first.parts c.args.second.parts valid also fit c.requires;
    } in
    second_kept c.args.first c.args.second valid also fit file n p c.with_version.result of here whole
    (c.built_is_read_back.ensures.list c.with_version.result (subst IsList (sym whole) is) small)

pub returns-clause-first_wants : goal.returns-clause-first_wants
returns-clause-first_wants c = λ file n p of here small.
    let valid = c.into_parts.ensures.valid in
    let also = c.into_parts-2.ensures.valid in
    let fit = returns-clause-together c in
    let whole = returns-clause-list c in
    let is : IsList (joined c.args.first c.args.second) = record {
      known = subst (λ v. is_version v ≡ true) c.version-version.ensures.value c.version-version.ensures.known;
      valid = joined_is_valid c.args.first.parts c.args.second.parts valid also fit c.requires;
    } in
    first_wants c.args.first c.args.second valid also fit file n p c.with_version.result of here whole
    (c.built_is_read_back.ensures.list c.with_version.result (subst IsList (sym whole) is) small)

pub returns-clause-second_wants : goal.returns-clause-second_wants
returns-clause-second_wants c = λ file n p of here small.
    let valid = c.into_parts.ensures.valid in
    let also = c.into_parts-2.ensures.valid in
    let fit = returns-clause-together c in
    let whole = returns-clause-list c in
    let is : IsList (joined c.args.first c.args.second) = record {
      known = subst (λ v. is_version v ≡ true) c.version-version.ensures.value c.version-version.ensures.known;
      valid = joined_is_valid c.args.first.parts c.args.second.parts valid also fit c.requires;
    } in
    second_wants c.args.first c.args.second valid also fit file n p c.with_version.result of here whole
    (c.built_is_read_back.ensures.list c.with_version.result (subst IsList (sym whole) is) small)
