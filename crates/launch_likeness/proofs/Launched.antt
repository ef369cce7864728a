-- Files whose component lists say the same are launched alike, and fit the same hosts.
use Rattle.std.proofs.Common.{◌≡◌, ◌↔◌, ℕ, ◌+◌, List, [], ◌∷◌, ◌++◌, length, map, refl, sym, ◌∙◌, ap, ap₂, subst, Option, Some, None}
use Rattle.std.specs.List.{flat_map}
use Rattle.igvm_headers.specs.HeaderFacts.{with_offset}
use Rattle.igvm_headers.specs.declared.header.Header as headers
use Rattle.igvm_headers.specs.declared.header.Header.TheVariants.{Area, Page, Context}
use Rattle.igvm_headers.specs.declared.options.Options.{Options}
use Rattle.igvm_headers.specs.declared.platform_kind.PlatformKind.{PlatformKind}
use Rattle.igvm_headers.specs.declared.platform_kind.PlatformKind.TheVariants.{Native, VsmIsolation, SevSnp, Tdx, Sev, SevEs}
use Rattle.platform_masks.specs.declared.platform.Platform.{Platform}
use Rattle.platform_masks.specs.Platforms.{platform_of, platforms_from, platforms_of}
use Rattle.host_set.specs.declared.range.PlanRange.{PlanRange}
use Rattle.host_set.specs.Hosts.{HostValues}
use Rattle.sha2.specs.Sha256.{sha256}
use Rattle.sev_chain.specs.SevBytes.{header_bytes, sev_bytes, sev_digest, sev_digest_by, sev_digest_of}
use Rattle.snp_chain.specs.Chain.{snp}
use Rattle.tdx_chain.specs.Stream.{tdx}
use Rattle.igvm_image.specs.Areas.{areas_of}
use Rattle.igvm_image.specs.Headers.{PlacedHeader, placed_headers, headers_of}
use Rattle.directive_rules.specs.FirstMisfit.{headers_for, headers_in, misfit_after}
use Rattle.directive_rules.specs.MisfitRows.{setting}
use Rattle.igvm_measure.specs.Measured.{counted}
use Rattle.igvm_measure.specs.Digests.{digest_by, snp_digest, tdx_digest}
use Rattle.igvm_measure.specs.Records.{snp_record, tdx_records_of}
use Rattle.component_list.specs.FirstFault as lists
use Rattle.component_list.specs.ImageList.{component_of, components_in}
use Rattle.image_loader.specs.Loads.{load_of}
use Rattle.list_changes.specs.ListPlatforms.{platforms_in}
use Rattle.launch_likeness.specs.LaunchedAlike.{AreLaunchedAlike, FitAlike}
use Rattle.launch_likeness.proofs.Steps.{Step, AreSteps, AreOld, firsts, seconds, same_areas}
use Rattle.launch_likeness.proofs.Alike.{Alike, alike_back, alike_on}
use Rattle.launch_likeness.proofs.PagesBy.{pages_by}
use Rattle.launch_likeness.proofs.StepMisfits.{misfits_same}
use Rattle.launch_likeness.proofs.StepPages.{placed_by}
use Rattle.launch_likeness.proofs.Listed.{listed, file_alike, file_fits, file_steps, beside-firsts, beside-seconds}
pub use Rattle.launch_likeness.proofs.Listed.{steps_alike}

-- ---- launches

-- what is measured gives the digest
digest_same : (kind : PlatformKind) (options : Options) (file other : List ℕ) (old new : ℕ)
    → Alike old (placed_headers file) new (placed_headers other) → digest_by kind options other new ≡ digest_by kind options file old
unfolding snp_digest tdx_digest
digest_same SevSnp options file other old new alike = ap (λ pages. Some (snp (map snp_record pages))) (alike.snp options)
digest_same Tdx options file other old new alike = ap (λ pages. Some (tdx (flat_map tdx_records_of pages))) alike.tdx
digest_same Native options file other old new alike = refl
digest_same VsmIsolation options file other old new alike = refl
digest_same Sev options file other old new alike = refl
digest_same SevEs options file other old new alike = refl

-- the digest of the bytes that are hashed for SEV or SEV-ES
sev_by : PlatformKind → List ℕ → Option (List ℕ)
sev_by Sev bytes = Some (sha256 bytes)
sev_by SevEs bytes = Some (sha256 bytes)
sev_by _ bytes = None

sev_is : (file : List ℕ) (p : Platform) → sev_digest_of file p ≡ sev_by p.kind (sev_bytes file p)
unfolding sev_digest sev_by
sev_is file p = cases p.kind
  where
    cases : (kind : PlatformKind) → sev_digest_by kind file p ≡ sev_by kind (sev_bytes file p)
    cases Native = refl
    cases VsmIsolation = refl
    cases SevSnp = refl
    cases Tdx = refl
    cases Sev = refl
    cases SevEs = refl

headers_alike : (file other : List ℕ) (p q : Platform) → q.kind ≡ p.kind
    → Alike p.mask (placed_headers file) q.mask (placed_headers other) → AreLaunchedAlike file p other q
headers_alike file other p q kind alike = record {
  kind = kind;
  digest = λ options. ap (λ k. digest_by k options other q.mask) kind ∙ digest_same p.kind options file other p.mask q.mask alike;
  sev_digest =
      sev_is other q
      ∙ ap (λ k. sev_by k (counted (header_bytes k) q.mask (placed_headers other))) kind
      ∙ ap (sev_by p.kind) (alike.sev p.kind)
      ∙ sym (sev_is file p);
  placed = λ options host.
      placed_by (load_of other q options host)
      ∙ ap (λ k. pages_by k options host (areas_of (headers_of other)) [] (headers_for q.mask (placed_headers other))) kind
      ∙ alike.placed p.kind options host
      ∙ sym (placed_by (load_of file p options host));
  contexts = λ options host. alike.contexts;
}

pub launched_alike : (file other : List ℕ) (p q : Platform) → q.kind ≡ p.kind
    → Alike p.mask (listed (components_in file)) q.mask (listed (components_in other)) → AreLaunchedAlike file p other q
launched_alike file other p q kind alike =
    headers_alike file other p q kind (alike_on (alike_on (file_alike file p.mask) alike) (alike_back (file_alike other q.mask)))

-- ---- hosts

-- none of these headers misfits
abbrev FitsOf : PlatformKind → List PlanRange → HostValues → ℕ → List PlacedHeader → Type 0
FitsOf kind plan host mask ps = misfit_after (setting kind plan host (areas_of (headers_in ps))) [] (headers_for mask ps) ≡ None

-- a file's headers fit a host where those of its list do
listed_fits : (kind : PlatformKind) (plan : List PlanRange) (host : HostValues) (mask : ℕ) (file : List ℕ)
    → FitsOf kind plan host mask (listed (components_in file)) ↔ FitsOf kind plan host mask (placed_headers file)
listed_fits kind plan host mask file =
    let fits = file_fits file mask in
    subst (λ (qs : List PlacedHeader). FitsOf kind plan host mask qs ↔ FitsOf kind plan host mask (placed_headers file)) (beside-seconds (placed_headers file))
    (subst (λ (ps : List PlacedHeader). FitsOf kind plan host mask (seconds (file_steps file)) ↔ FitsOf kind plan host mask ps) (beside-firsts (placed_headers file))
    (misfits_same mask mask (file_steps file) fits.0 fits.1 kind plan host))

steps_fit : (kind : PlatformKind) (plan : List PlanRange) (host : HostValues) (old new : ℕ) (ps qs : List PlacedHeader)
    → (steps : List Step) → firsts steps ≡ ps → seconds steps ≡ qs → AreSteps (same_areas old new) steps → AreOld steps
    → FitsOf kind plan host new qs ↔ FitsOf kind plan host old ps
steps_fit kind plan host old new ps qs steps first second are olds =
    subst (λ (qs : List PlacedHeader). FitsOf kind plan host new qs ↔ FitsOf kind plan host old ps) second
    (subst (λ (ps : List PlacedHeader). FitsOf kind plan host new (seconds steps) ↔ FitsOf kind plan host old ps) first
    (misfits_same old new steps are olds kind plan host))

-- files fit alike where their lists do
lists_fit : (file other : List ℕ) (p q : Platform) → q.kind ≡ p.kind
    → ((kind : PlatformKind) (plan : List PlanRange) (host : HostValues)
    → FitsOf kind plan host q.mask (listed (components_in other)) ↔ FitsOf kind plan host p.mask (listed (components_in file)))
    → FitAlike file p other q
lists_fit file other p q kind same plan host =
    subst (λ (k : PlatformKind). FitsOf k plan host q.mask (placed_headers other) ↔ FitsOf p.kind plan host p.mask (placed_headers file)) (sym kind)
    (let first = listed_fits p.kind plan host p.mask file in
    let second = listed_fits p.kind plan host q.mask other in
    let mid = same p.kind plan host in
    (λ fits. first.0 (mid.0 (second.1 fits)), λ fits. second.0 (mid.1 (first.1 fits))))

pub fit_alike : (file other : List ℕ) (p q : Platform) → q.kind ≡ p.kind
    → (steps : List Step) → firsts steps ≡ listed (components_in file) → seconds steps ≡ listed (components_in other)
    → AreSteps (same_areas p.mask q.mask) steps → AreOld steps → FitAlike file p other q
fit_alike file other p q kind steps first second are olds =
    lists_fit file other p q kind (λ k plan host. steps_fit k plan host p.mask q.mask (listed (components_in file)) (listed (components_in other)) steps first second are olds)

-- ---- one list

alike_same : (mask : ℕ) (ps : List PlacedHeader) → Alike mask ps mask ps
alike_same mask ps = record { snp = λ options. refl; tdx = refl; sev = λ kind. refl; contexts = refl; placed = λ kind options host. refl }

pub one_list_launched : (file other : List ℕ) (p : Platform) → components_in other ≡ components_in file → AreLaunchedAlike file p other p
one_list_launched file other p same =
    launched_alike file other p p refl
    (subst (λ parts. Alike p.mask (listed (components_in file)) p.mask (listed parts)) (sym same) (alike_same p.mask (listed (components_in file))))

pub one_list_fits : (file other : List ℕ) (p : Platform) → components_in other ≡ components_in file → FitAlike file p other p
one_list_fits file other p same =
    lists_fit file other p p refl
    (λ kind plan host. subst (λ parts. FitsOf kind plan host p.mask (listed parts) ↔ FitsOf kind plan host p.mask (listed (components_in file))) (sym same) (λ fits. fits, λ fits. fits))

-- ---- platforms

offset_platform : (n : ℕ) (h : headers.Header) → platform_of n (with_offset 0 h) ≡ platform_of n h
offset_platform n (Area bytes area offset) = refl
offset_platform n (Page gpa mask offset large unmeasured kind) = refl
offset_platform n (Context gpa mask offset vp) = refl
offset_platform n h = refl

listed_platforms : (n : ℕ) (ps : List PlacedHeader) → platforms_from n (headers_in ps) ≡ platforms_from n (lists.headers_in (map component_of ps))
unfolding platforms_from
listed_platforms n [] = refl
listed_platforms n (p ∷ ps) =
    ap₂ (λ own others. own ++ others) (sym (offset_platform n p.header))
    (ap (λ own. platforms_from (n + length own) (headers_in ps)) (sym (offset_platform n p.header))
    ∙ listed_platforms (n + length (platform_of n (with_offset 0 p.header))) ps)

-- where data stand changes nothing of the platforms
pub file_platforms : (file : List ℕ) → platforms_of (headers_of file) ≡ platforms_in (components_in file)
file_platforms file = listed_platforms 0 (placed_headers file)
