-- The image of a sealed list has the digest that its ID block wants.
use Rattle.std.proofs.Common.{◌≡◌, ℕ, List, [], ◌∷◌, map, refl, sym, ◌∙◌, ap, subst, Bool, true, false, Option, Some, None}
use Rattle.std.specs.Prelude.{if◌then◌else◌}
use Rattle.std.specs.List.{AllByRecursion, cons_option, filter_map}
use Rattle.std.proofs.lemmas.Slice.Eq.{bytes_eq-Decides}
use Rattle.igvm_headers.specs.HeaderFacts.{with_offset}
use Rattle.igvm_headers.specs.declared.header.Header.{Header}
use Rattle.igvm_headers.specs.declared.header.Header.TheVariants.{Area, Page, Context, IdBlock}
use Rattle.igvm_headers.specs.declared.options.Options.{Options}
use Rattle.platform_masks.specs.Masks.{applies}
use Rattle.platform_masks.specs.declared.platform.Platform.{Platform}
use Rattle.igvm_image.specs.Headers.{PlacedHeader, placed_headers}
use Rattle.directive_rules.specs.DirectiveFacts.{wanted_by}
use Rattle.directive_rules.specs.FirstMisfit.{headers_for}
use Rattle.directive_rules.specs.LoadCounts.{wanted_of}
use Rattle.directive_rules.specs.declared.misfit.IdWanted.{IdWanted}
use Rattle.directive_rules.specs.declared.misfit.Why.TheVariants.{BadDigest}
use Rattle.igvm_measure.specs.Digests.{digest_of}
use Rattle.igvm_measure.specs.WantedDigest.{bad_digest, bad_digest_by, first_wanted}
use Rattle.component_list.specs.declared.component.Component.{Component}
use Rattle.component_list.specs.ImageList.{component_of, components_in}
use Rattle.list_changes.specs.Changes.{with_digest}
use Rattle.image_ops.specs.Sealed.{sealed_header, sealed_parts}

-- an ID block wants this digest
abbrev Wants : List ℕ → Header → Type 0
Wants digest (IdBlock mask author_enabled ld family_id image_id version guest_svn id_algorithm author_algorithm) = ld ≡ digest
Wants digest _ = Unit {0}

-- it does where it counts for the platform of a mask
abbrev WantsFor : ℕ → List ℕ → Header → Type 0
WantsFor mask digest h = applies h mask ≡ true → Wants digest h

-- ---- the list

given_wants : (digest : List ℕ) (h : Header) → Wants digest (with_digest digest h)
given_wants digest (IdBlock mask author_enabled ld family_id image_id version guest_svn id_algorithm author_algorithm) = refl
given_wants digest h = tt

sealed_wants : (mask : ℕ) (digest : List ℕ) (h : Header) → WantsFor mask digest (sealed_header mask digest h)
sealed_wants mask digest h = cases (applies h mask) refl
  where
    cases : (b : Bool) → applies h mask ≡ b → WantsFor mask digest (if b then with_digest digest h else h)
    cases true is = λ counts. given_wants digest h
    cases false is = λ counts. (let both : false ≡ true = sym is ∙ counts in cc)

parts_want : (mask : ℕ) (digest : List ℕ) (cs : List Component) → AllByRecursion (λ c. WantsFor mask digest c.header) (sealed_parts mask digest cs)
unfolding sealed_parts
parts_want mask digest [] = tt
parts_want mask digest (c ∷ cs) = (sealed_wants mask digest c.header, parts_want mask digest cs)

-- ---- the image

-- where a header's data stand has no say
offset_wants : (mask : ℕ) (digest : List ℕ) (h : Header) → WantsFor mask digest (with_offset 0 h) → WantsFor mask digest h
offset_wants mask digest (Area bytes area offset) wants = λ counts. tt
offset_wants mask digest (Page gpa own offset large unmeasured kind) wants = λ counts. tt
offset_wants mask digest (Context gpa own offset vp) wants = λ counts. tt
offset_wants mask digest h wants = wants

headers_want : (mask : ℕ) (digest : List ℕ) (ps : List PlacedHeader) → AllByRecursion (λ c. WantsFor mask digest c.header) (map component_of ps)
    → AllByRecursion (λ p. WantsFor mask digest p.header) ps
headers_want mask digest [] all = tt
headers_want mask digest (p ∷ ps) all = (offset_wants mask digest p.header all.0, headers_want mask digest ps all.1)

-- the first that is wanted, if any, is this digest
abbrev IsWanted : List ℕ → Option IdWanted → Type 0
IsWanted digest None = Unit {0}
IsWanted digest (Some id) = id.wanted ≡ digest

own_wanted : (digest : List ℕ) (index : ℕ) (h : Header) → Wants digest h → (others : List IdWanted) → IsWanted digest (first_wanted others)
    → IsWanted digest (first_wanted (cons_option (wanted_by index h) others))
own_wanted digest index (IdBlock mask author_enabled ld family_id image_id version guest_svn id_algorithm author_algorithm) wants others behind = wants
own_wanted digest index h wants others behind = behind

wanted_is : (mask : ℕ) (digest : List ℕ) (ps : List PlacedHeader) → AllByRecursion (λ p. WantsFor mask digest p.header) ps
    → IsWanted digest (first_wanted (filter_map wanted_of (headers_for mask ps)))
wanted_is mask digest [] all = tt
wanted_is mask digest (p ∷ ps) all = cases (applies p.header mask) refl (wanted_is mask digest ps all.1)
  where
    cases : (b : Bool) → applies p.header mask ≡ b → IsWanted digest (first_wanted (filter_map wanted_of (headers_for mask ps)))
        → IsWanted digest (first_wanted (filter_map wanted_of (if b then p ∷ headers_for mask ps else headers_for mask ps)))
    cases true counts behind = own_wanted digest p.index p.header (all.0 counts) (filter_map wanted_of (headers_for mask ps)) behind
    cases false counts behind = behind

-- ---- all

not_bad : (digest : List ℕ) (wanted : Option IdWanted) (found : Option (List ℕ)) → IsWanted digest wanted → found ≡ Some digest → bad_digest_by wanted found ≡ None
not_bad digest None found is same = refl
not_bad digest (Some id) found is same =
    ap (bad_digest_by (Some id)) same
    ∙ ap (λ b. if b then None else Some (record { index = id.index; why = BadDigest id.wanted digest })) ((bytes_eq-Decides id.wanted digest).1 is)

pub sealed_wanted : (digest : List ℕ) (parts : List Component) (file : List ℕ) (p : Platform) (options : Options)
    → components_in file ≡ sealed_parts p.mask digest parts → digest_of file p options ≡ Some digest → bad_digest file p options ≡ None
sealed_wanted digest parts file p options same found =
    let all = headers_want p.mask digest (placed_headers file)
    (subst (AllByRecursion (λ (c : Component). WantsFor p.mask digest c.header)) (sym same) (parts_want p.mask digest parts)) in
    not_bad digest (first_wanted (filter_map wanted_of (headers_for p.mask (placed_headers file)))) (digest_of file p options)
    (wanted_is p.mask digest (placed_headers file) all) found
