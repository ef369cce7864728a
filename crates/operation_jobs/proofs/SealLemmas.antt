-- What sealing an accepted image gives.
use Rattle.std.proofs.Common.{◌≡◌, ◌≢◌, ◌∙◌, ℕ, ◌<◌, ◌≤◌, refl, sym, ap, subst, List, length, Option, Some, None, true, false}
use Rattle.std.specs.Prelude.{if◌then◌else◌, not, slice_get}
use Rattle.std.specs.List.{AllByRecursion}
use denote.Enum.Bare.{sameb}
use Rattle.igvm_headers.specs.contracts.platform_kind.PlatformKind.{the_type}
use Rattle.igvm_headers.specs.declared.platform_kind.PlatformKind.{PlatformKind}
use Rattle.igvm_headers.specs.declared.platform_kind.PlatformKind.TheVariants.{SevSnp}
use Rattle.platform_masks.specs.declared.platform.Platform.{Platform}
use Rattle.igvm_measure.specs.Digests.{digest_of}
use Rattle.component_list.specs.ImageList.{list_of}
use Rattle.component_list.specs.Lists.{ImageParts, IsList}
use Rattle.component_list.specs.Ranges.{IsComponent}
use Rattle.image_builder.specs.Layout.{layout, layout_size}
use Rattle.list_changes.specs.ListPlatforms.{platforms_in}
use Rattle.launch_likeness.specs.LaunchedAlike.{AreLaunchedAlike}
use Rattle.igvm_words.specs.Words.{PlatformChoice}
use Rattle.further_words.specs.FurtherWords.{SealWords}
use Rattle.image_ops.specs.Sealed.{IsSealed, has_id_block, sealed}
use Rattle.image_ops.specs.SealRefusals.{IsSealRefusal}
use Rattle.image_ops.specs.declared.sealing.SealRefusal.{SealRefusal}
use Rattle.image_ops.specs.declared.sealing.SealRefusal.TheVariants.{NoIdBlock, TooLarge}
use Rattle.image_ops.proofs.BuiltLists.{ReadsBack}
use Rattle.image_ops.proofs.SealedSize.{IsPadded, sealed_size}
use Rattle.igvm_jobs.specs.declared.refusal.Refusal.{Refusal}
use Rattle.igvm_jobs.specs.declared.status.Status.TheVariants as is
use Rattle.igvm_jobs.specs.Texts.{built_text, large_image_text, no_platform_text}
use Rattle.igvm_jobs.specs.Outcome.{Outcome, refused, done_writing}
use Rattle.igvm_jobs.specs.BuildJob.{image_limit, parts_outcome}
use Rattle.igvm_jobs.specs.MeasureJob.{digest_outcome, platform_digest, platform_outcome, wanted_platform}
use Rattle.igvm_jobs.specs.Refusals.{Refuses}
use Rattle.operation_jobs.specs.OperationTexts.{no_id_block_text, no_seal_text}
use Rattle.operation_jobs.specs.StoredData.{data_outcome}
use Rattle.operation_jobs.specs.SealJob.{sealed_for, sealed_list, sealed_outcome}
use Rattle.operation_jobs.proofs.Outcomes.{passes}
use Rattle.operation_jobs.proofs.SealOutcomes.{is_snp_kind, no_snp_kind}
use Rattle.operation_jobs.proofs.DigestBytes.{snp_has_digest}
use Rattle.operation_jobs.proofs.WantedPlatforms.{stands_in_list}

-- ---- the kind of a platform

-- as it is compared
pub is_snp_by : (kind : PlatformKind) → false ≡ not (sameb the_type kind SevSnp) → kind ≡ SevSnp
is_snp_by SevSnp same = refl
is_snp_by _ same = cc

pub is_other_by : (kind : PlatformKind) → true ≡ not (sameb the_type kind SevSnp) → kind ≢ SevSnp
is_other_by SevSnp other same = cc
is_other_by _ other same = cc

-- ---- the platform

-- there is none
pub no_platform : (words : SealWords) (bytes : List ℕ) → wanted_platform bytes words.wanted ≡ None → sealed_outcome words bytes ≡ refused is.Platform (no_platform_text words.wanted)
unfolding sealed_outcome
no_platform words bytes none = ap (platform_outcome words.wanted (sealed_for words bytes)) none

-- its kind has no ID block
pub other_platform : (words : SealWords) (bytes : List ℕ) (p : Platform) → wanted_platform bytes words.wanted ≡ Some p → p.kind ≢ SevSnp
    → sealed_outcome words bytes ≡ refused is.Platform (no_seal_text p.kind)
unfolding sealed_outcome
other_platform words bytes p found other =
    ap (platform_outcome words.wanted (sealed_for words bytes)) found
    ∙ ap (λ b. if b then data_outcome (sealed_list words bytes p) bytes else refused is.Platform (no_seal_text p.kind)) (no_snp_kind p.kind other)

-- its kind has
pub snp_platform : (words : SealWords) (bytes : List ℕ) (p : Platform) → wanted_platform bytes words.wanted ≡ Some p → p.kind ≡ SevSnp
    → sealed_outcome words bytes ≡ data_outcome (sealed_list words bytes p) bytes
unfolding sealed_outcome
snp_platform words bytes p found snp =
    ap (platform_outcome words.wanted (sealed_for words bytes)) found
    ∙ ap (λ b. if b then data_outcome (sealed_list words bytes p) bytes else refused is.Platform (no_seal_text p.kind)) (is_snp_kind p.kind snp)

-- An accepted image with a SEV-SNP platform that is asked for, and its list, which is copied.
pub record IsSet (words : SealWords) (bytes : List ℕ) (p : Platform) (list : ImageParts) : Type 0 where
  pub found : wanted_platform bytes words.wanted ≡ Some p
  pub snp : p.kind ≡ SevSnp
  pub copied : (next : ImageParts → Outcome) → data_outcome next bytes ≡ next list

pub is_set : (words : SealWords) (bytes : List ℕ) (p : Platform) (list : ImageParts) → wanted_platform bytes words.wanted ≡ Some p → p.kind ≡ SevSnp
    → ((next : ImageParts → Outcome) → data_outcome next bytes ≡ next list) → IsSet words bytes p list
is_set words bytes p list found snp copied = record { found = found; snp = snp; copied = copied }

-- the list isn't copied
pub list_refused : (words : SealWords) (bytes : List ℕ) (p : Platform) (r : Refusal) → wanted_platform bytes words.wanted ≡ Some p → p.kind ≡ SevSnp
    → ((next : ImageParts → Outcome) → Refuses (data_outcome next bytes) r) → Refuses (sealed_outcome words bytes) r
list_refused words bytes p r found snp refuses = subst (λ (x : Outcome). Refuses x r) (sym (snp_platform words bytes p found snp)) (refuses (sealed_list words bytes p))

set_outcome : (words : SealWords) (bytes : List ℕ) (p : Platform) (list : ImageParts) → IsSet words bytes p list → sealed_outcome words bytes ≡ sealed_list words bytes p list
set_outcome words bytes p list h = snp_platform words bytes p h.found h.snp ∙ h.copied (sealed_list words bytes p)

-- ---- the list

-- no ID block counts
no_block : (words : SealWords) (bytes : List ℕ) (p : Platform) (list : ImageParts) → IsSet words bytes p list → has_id_block p.mask list.parts ≡ false
    → sealed_outcome words bytes ≡ refused is.Platform no_id_block_text
no_block words bytes p list h none =
    set_outcome words bytes p list h
    ∙ ap (λ b. if b
    then digest_outcome p.kind (λ digest. parts_outcome words.target (sealed p.mask digest list)) (platform_digest bytes words.options p)
    else refused is.Platform no_id_block_text) none

-- one counts, and the image is written with the file's digest
with_block : (words : SealWords) (bytes : List ℕ) (p : Platform) (list : ImageParts) (digest : List ℕ) → IsSet words bytes p list → has_id_block p.mask list.parts ≡ true
    → digest_of bytes p words.options ≡ Some digest → sealed_outcome words bytes ≡ parts_outcome words.target (sealed p.mask digest list)
unfolding platform_digest
with_block words bytes p list digest h some found =
    set_outcome words bytes p list h
    ∙ ap (λ b. if b
    then digest_outcome p.kind (λ digest. parts_outcome words.target (sealed p.mask digest list)) (platform_digest bytes words.options p)
    else refused is.Platform no_id_block_text) some
    ∙ ap (digest_outcome p.kind (λ digest. parts_outcome words.target (sealed p.mask digest list))) found

-- the digest of the list's own image is the file's
sealed_image : (words : SealWords) (bytes : List ℕ) (p : Platform) (list new : ImageParts) → IsSet words bytes p list → has_id_block p.mask list.parts ≡ true
    → digest_of (layout list) p words.options ≡ digest_of bytes p words.options → IsSealed p.mask (digest_of (layout list) p words.options) list new
    → sealed_outcome words bytes ≡ parts_outcome words.target new
sealed_image words bytes p list new h some same made =
    let has = snp_has_digest bytes words.options p h.snp in
    let is : new ≡ sealed p.mask has.digest list = subst (λ (d : Option (List ℕ)). IsSealed p.mask d list new) (same ∙ has.found) made in
    with_block words bytes p list has.digest h some has.found ∙ ap (parts_outcome words.target) (sym is)

-- what every layout is long
abbrev pub HasSize : Type 0
HasSize = (list : ImageParts) → length (layout list) ≡ layout_size list

large_parts : (target : List ℕ) (list : ImageParts) → image_limit < length (layout list) → parts_outcome target list ≡ refused is.Limit large_image_text
unfolding parts_outcome
large_parts target list large =
    ap (λ b. if b then refused is.Limit large_image_text else done_writing target (layout list) (built_text (length (layout list)))) (passes image_limit (length (layout list)) large)

-- the list's image is too large, and so is the sealed one
large_image : HasSize → IsPadded → (words : SealWords) (bytes : List ℕ) (p : Platform) (list : ImageParts) → IsSet words bytes p list → AllByRecursion IsComponent list.parts → has_id_block p.mask list.parts ≡ true
    → image_limit < length (layout list) → sealed_outcome words bytes ≡ refused is.Limit large_image_text
large_image sizes padded words bytes p list h each some large =
    let has = snp_has_digest bytes words.options p h.snp in
    let new = sealed p.mask has.digest list in
    let same : length (layout list) ≡ length (layout new) = sizes list ∙ sym (sealed_size padded p.mask has.digest list has.is_digest.size each) ∙ sym (sizes new) in
    with_block words bytes p list has.digest h some has.found ∙ large_parts words.target new (subst (λ n. image_limit < n) same large)

-- ---- what a call of `seal` answers

some_same : {p q : Platform} → Some p ≡ Some q → p ≡ q
some_same same = cc

-- what stands at the number is the platform that is asked for, and of its kind
pub kind_at : (bytes : List ℕ) (wanted : PlatformChoice) (p : Platform) (list : ImageParts) → wanted_platform bytes wanted ≡ Some p → list ≡ list_of bytes → p.kind ≡ SevSnp
    → (q : Platform) → slice_get (platforms_in list.parts) p.number ≡ Some q → q.kind ≡ SevSnp
kind_at bytes wanted p list found same snp q here =
    let is : p ≡ q = some_same (sym (stands_in_list bytes wanted p list found same) ∙ here) in
    ap (λ (r : Platform). r.kind) (sym is) ∙ snp

-- the platform at the number
abbrev pub AtNumber : ImageParts → Platform → (Platform → Type 0) → Type 0
AtNumber list p P = (q : Platform) → slice_get (platforms_in list.parts) p.number ≡ Some q → P q

-- no ID block counts
pub refused_block : (words : SealWords) (bytes : List ℕ) (p : Platform) (list : ImageParts) (e : SealRefusal) → IsSet words bytes p list → list ≡ list_of bytes → e ≡ NoIdBlock
    → AtNumber list p (λ q. IsSealRefusal (has_id_block q.mask list.parts) (length (layout list)) e) → sealed_outcome words bytes ≡ refused is.Platform no_id_block_text
refused_block words bytes p list e h same is refuses =
    no_block words bytes p list h
    (subst (λ (f : SealRefusal). IsSealRefusal (has_id_block p.mask list.parts) (length (layout list)) f) is (refuses p (stands_in_list bytes words.wanted p list h.found same)))

-- the image is too large
pub refused_size : HasSize → IsPadded → (words : SealWords) (bytes : List ℕ) (p : Platform) (list : ImageParts) (e : SealRefusal) (size : ℕ) → IsSet words bytes p list → list ≡ list_of bytes
    → IsList (list_of bytes) → e ≡ TooLarge size → AtNumber list p (λ q. IsSealRefusal (has_id_block q.mask list.parts) (length (layout list)) e)
    → sealed_outcome words bytes ≡ refused is.Limit large_image_text
refused_size sizes padded words bytes p list e size h same valid is refuses =
    let why = subst (λ (f : SealRefusal). IsSealRefusal (has_id_block p.mask list.parts) (length (layout list)) f) is (refuses p (stands_in_list bytes words.wanted p list h.found same)) in
    let list_valid : IsList list = subst IsList (sym same) valid in
    large_image sizes padded words bytes p list h list_valid.valid.fits.each why.0 why.1

-- the list is sealed
pub sealed_ends : ReadsBack → ((file other : List ℕ) (q : Platform) → (list_of other).parts ≡ (list_of file).parts → AreLaunchedAlike file q other q)
    → (words : SealWords) (bytes : List ℕ) (p : Platform) (list new : ImageParts) → IsSet words bytes p list → list ≡ list_of bytes → IsList (list_of bytes) → layout_size list ≤ image_limit
    → AtNumber list p (λ q. has_id_block q.mask list.parts ≡ true) → AtNumber list p (λ q. IsSealed q.mask (digest_of (layout list) q words.options) list new)
    → sealed_outcome words bytes ≡ parts_outcome words.target new
sealed_ends back alike words bytes p list new h same valid small some made =
    let here = stands_in_list bytes words.wanted p list h.found same in
    let list_valid : IsList list = subst IsList (sym same) valid in
    let own = back list list_valid small in
    let launched = alike bytes (layout list) p (ap (λ (l : ImageParts). l.parts) (own ∙ same)) in
    sealed_image words bytes p list new h (some p here) (launched.digest words.options) (made p here)
