-- Headers set side by side by steps: ID blocks that want the same launch digest.
use Rattle.std.proofs.Common.{◌≡◌, ◌↔◌, ℕ, List, [], ◌∷◌, ◌++◌, map, refl, sym, ◌∙◌, ap, ap₂, Option, Some, None, Bool, true, false}
use Rattle.std.specs.Prelude.{bytes_eq, if◌then◌else◌}
use Rattle.std.specs.List.{AllByRecursion, filter_map, flat_map}
use Rattle.std.specs.Option.{option_map}
use Rattle.igvm_headers.specs.HeaderFacts.{with_offset}
use Rattle.igvm_headers.specs.declared.header.Header.{Header}
use Rattle.igvm_headers.specs.declared.header.Header.TheVariants.{Area, Page, Param, Context, IdBlock}
use Rattle.platform_masks.specs.Masks.{applies}
use Rattle.platform_masks.specs.declared.platform.Platform.{Platform}
use Rattle.igvm_image.specs.Headers.{PlacedHeader, placed_headers}
use Rattle.directive_rules.specs.FirstMisfit.{headers_for}
use Rattle.directive_rules.specs.LoadCounts.{wanted_of}
use Rattle.directive_rules.specs.declared.misfit.IdWanted.{IdWanted}
use Rattle.directive_rules.specs.declared.misfit.Misfit.{Misfit}
use Rattle.directive_rules.specs.declared.misfit.Why.TheVariants.{BadDigest}
use Rattle.igvm_measure.specs.Digests.{digest_of}
use Rattle.igvm_measure.specs.Measured.{counted}
use Rattle.igvm_measure.specs.WantedDigest.{bad_digest_by, first_wanted, wanted_id}
use Rattle.component_list.specs.ImageList.{component_of, components_in}
use Rattle.component_list.specs.declared.component.Component.{Component}
use Rattle.list_changes.specs.Changes.{changed, changed_part}
use Rattle.launch_likeness.specs.LaunchedAlike.{AreLaunchedAlike, WantAlike}
use Rattle.launch_likeness.proofs.Steps.{Step, firsts, seconds, Change, IsForeign, AreSteps, same_areas}
use Rattle.launch_likeness.proofs.StepMeasures.{Gives, counted_by}
use Rattle.launch_likeness.proofs.Listed.{as_placed, beside_parts, beside-firsts, beside-seconds, file_fits, file_steps, listed, place_of_content}

-- the digest that a header wants, where it is an ID block
abbrev pub wanted_in : Header → List (List ℕ)
wanted_in (IdBlock mask author_enabled ld family_id image_id version guest_svn id_algorithm author_algorithm) = ld ∷ []
wanted_in _ = []

abbrev pub wants : PlacedHeader → List (List ℕ)
wants p = wanted_in p.header

-- no step changes it
abbrev pub KeepWants : List Step → Type 0
KeepWants steps = AllByRecursion (Gives wants wants) steps

wants_none : (ch : Change) (h : Header) → IsForeign ch h → applies h ch.new ≡ true → wanted_in h ≡ []
wants_none ch (Area bytes area offset) foreign counts = refl
wants_none ch (Param kind area byte_offset) foreign counts = refl
wants_none ch h foreign counts = cc

pub wants_same : (ch : Change) (steps : List Step) → AreSteps ch steps → KeepWants steps
    → counted wants ch.new (seconds steps) ≡ counted wants ch.old (firsts steps)
wants_same ch steps are keep = counted_by ch wants wants (λ q. wants_none ch q.header) steps are keep

-- ---- a change of masks and areas

offset_wants : (at : ℕ) (h : Header) → wanted_in (with_offset at h) ≡ wanted_in h
offset_wants at (Area bytes area offset) = refl
offset_wants at (Page gpa mask offset large unmeasured kind) = refl
offset_wants at (Context gpa mask offset vp) = refl
offset_wants at h = refl

changed_wants : (mask_to area_to : ℕ → ℕ) (h : Header) → wanted_in (changed mask_to area_to h) ≡ wanted_in h
changed_wants mask_to area_to (IdBlock mask author_enabled ld family_id image_id version guest_svn id_algorithm author_algorithm) = refl
changed_wants mask_to area_to h = refl

pub part_wants : (mask_to area_to : ℕ → ℕ) (c : Component) → wants (as_placed (changed_part mask_to area_to c)) ≡ wants (as_placed c)
part_wants mask_to area_to c =
    let at = place_of_content c.content in
    offset_wants at (changed mask_to area_to c.header) ∙ changed_wants mask_to area_to c.header ∙ sym (offset_wants at c.header)

-- ---- a file beside its list

beside_wants : (ps : List PlacedHeader) → KeepWants (beside_parts ps)
beside_wants [] = tt
beside_wants (p ∷ ps) =
    (offset_wants (place_of_content (component_of p).content) (with_offset 0 p.header) ∙ offset_wants 0 p.header, beside_wants ps)

file_wants : (file : List ℕ) (mask : ℕ) → counted wants mask (listed (components_in file)) ≡ counted wants mask (placed_headers file)
file_wants file mask =
    ap (counted wants mask) (sym (beside-seconds (placed_headers file)))
    ∙ wants_same (same_areas mask mask) (file_steps file) (file_fits file mask).0 (beside_wants (placed_headers file))
    ∙ ap (counted wants mask) (beside-firsts (placed_headers file))

-- ---- whether another digest is wanted

-- the first of these
first : List (List ℕ) → Option (List ℕ)
first [] = None
first (x ∷ xs) = Some x

-- no digest is wanted, or this one is
agrees : Option (List ℕ) → Option (List ℕ) → Bool
agrees (Some wanted) (Some digest) = bytes_eq wanted digest
agrees _ _ = true

first_wants : (ids : List IdWanted) → option_map (λ (id : IdWanted). id.wanted) (first_wanted ids) ≡ first (map (λ (id : IdWanted). id.wanted) ids)
unfolding first
first_wants [] = refl
first_wants (id ∷ ids) = refl

wants_of : (ps : List PlacedHeader) → map (λ (id : IdWanted). id.wanted) (filter_map wanted_of ps) ≡ flat_map wants ps
wants_of [] = refl
wants_of (p ∷ ps) = cases p.index p.header (wants_of ps)
  where
    cases : (index : ℕ) (h : Header) → map (λ (id : IdWanted). id.wanted) (filter_map wanted_of ps) ≡ flat_map wants ps
        → map (λ (id : IdWanted). id.wanted) (filter_map wanted_of (record p { index = index; header = h } ∷ ps)) ≡ wanted_in h ++ flat_map wants ps
    cases index (IdBlock mask author_enabled ld family_id image_id version guest_svn id_algorithm author_algorithm) others = ap (λ ws. ld ∷ ws) others
    cases index h others = others

none_bad : (id : Option IdWanted) (digest : Option (List ℕ))
    → (bad_digest_by id digest ≡ None) ↔ (agrees (option_map (λ (i : IdWanted). i.wanted) id) digest ≡ true)
unfolding agrees
none_bad None digest = (λ h. refl, λ h. refl)
none_bad (Some id) None = (λ h. refl, λ h. refl)
none_bad (Some id) (Some digest) = cases (bytes_eq id.wanted digest)
  where
    misfit : Misfit
    misfit = record { index = id.index; why = BadDigest id.wanted digest }

    other : Option Misfit
    other = Some misfit

    cases : (b : Bool) → ((if b then None else other) ≡ None) ↔ (b ≡ true)
    cases true = (λ h. refl, λ h. refl)
    cases false = (λ h. cc, λ h. cc)

-- what a file's ID block wants, by what its list's components want
file_wanted : (file : List ℕ) (p : Platform)
    → option_map (λ (id : IdWanted). id.wanted) (wanted_id file p) ≡ first (counted wants p.mask (listed (components_in file)))
file_wanted file p =
    first_wants (filter_map wanted_of (headers_for p.mask (placed_headers file)))
    ∙ ap first (wants_of (headers_for p.mask (placed_headers file)))
    ∙ ap first (sym (file_wants file p.mask))

pub want_alike : (file other : List ℕ) (p q : Platform) → AreLaunchedAlike file p other q
    → counted wants q.mask (listed (components_in other)) ≡ counted wants p.mask (listed (components_in file)) → WantAlike file p other q
want_alike file other p q alike same options =
    let wanted = file_wanted other q ∙ ap first same ∙ sym (file_wanted file p) in
    let both = ap₂ agrees wanted (alike.digest options) in
    let new = none_bad (wanted_id other q) (digest_of other q options) in
    let old = none_bad (wanted_id file p) (digest_of file p options) in
    (λ none. old.1 (sym both ∙ new.0 none), λ none. new.1 (both ∙ old.0 none))

pub one_list_wants : (file other : List ℕ) (p : Platform) → components_in other ≡ components_in file → AreLaunchedAlike file p other p
    → WantAlike file p other p
one_list_wants file other p same alike =
    want_alike file other p p alike (ap (λ (parts : List Component). counted wants p.mask (listed parts)) same)
