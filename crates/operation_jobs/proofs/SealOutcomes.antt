-- What sealing an accepted image gives: there is nothing to seal, or something is too large, or the image is written.
use Rattle.std.proofs.Common.{◌≡◌, ◌≢◌, ◌∙◌, ℕ, ◌≤◌, refl, ap, inl, inr, ◌⊎◌, List, length, Option, Some, None, Bool, true, false}
use Rattle.std.specs.Prelude.{if◌then◌else◌}
use Rattle.igvm_headers.specs.declared.options.Options.{Options}
use Rattle.igvm_headers.specs.declared.platform_kind.PlatformKind.{PlatformKind}
use Rattle.igvm_headers.specs.declared.platform_kind.PlatformKind.TheVariants.{SevSnp}
use Rattle.platform_masks.specs.declared.platform.Platform.{Platform}
use Rattle.directive_rules.specs.MisfitRows.{is_snp}
use Rattle.igvm_measure.specs.Digests.{digest_by}
use Rattle.component_list.specs.ImageList.{list_of}
use Rattle.image_builder.specs.Layout.{layout}
use Rattle.further_words.specs.FurtherWords.{SealWords}
use Rattle.image_ops.specs.Sealed.{has_id_block, sealed}
use Rattle.igvm_jobs.specs.declared.status.Status.TheVariants as is
use Rattle.igvm_jobs.specs.Texts.{built_text, no_platform_text}
use Rattle.igvm_jobs.specs.Outcome.{Outcome, refused, done_writing}
use Rattle.igvm_jobs.specs.BuildJob.{image_limit, parts_outcome}
use Rattle.igvm_jobs.specs.MeasureJob.{digest_outcome, platform_digest, platform_outcome, wanted_platform}
use Rattle.operation_jobs.specs.OperationTexts.{no_id_block_text, no_seal_text}
use Rattle.operation_jobs.specs.StoredData.{data_limit, data_outcome, stored_bytes}
use Rattle.operation_jobs.specs.SealJob.{sealed_list, sealed_for, sealed_outcome}
use Rattle.operation_jobs.specs.OperationAnswers.{IsLargeText}
use Rattle.operation_jobs.proofs.Outcomes.{DataAre, data_are, PartsAre, parts_are}

-- ---- SEV-SNP platforms

pub snp_kind : (kind : PlatformKind) → is_snp kind ≡ true → kind ≡ SevSnp
snp_kind SevSnp h = refl
snp_kind _ h = cc

pub other_kind : (kind : PlatformKind) → is_snp kind ≡ false → kind ≢ SevSnp
other_kind SevSnp h same = cc
other_kind _ h same = cc

pub is_snp_kind : (kind : PlatformKind) → kind ≡ SevSnp → is_snp kind ≡ true
is_snp_kind kind same = ap is_snp same

pub no_snp_kind : (kind : PlatformKind) → kind ≢ SevSnp → is_snp kind ≡ false
no_snp_kind SevSnp h = absurd (h refl)
no_snp_kind _ h = refl

-- they have a digest
pub snp_digested : (bytes : List ℕ) (options : Options) (p : Platform) → p.kind ≡ SevSnp → (digest : List ℕ) × (platform_digest bytes options p ≡ Some digest)
unfolding platform_digest
snp_digested bytes options p same = (_, ap (λ k. digest_by k options bytes p.mask) same)

-- ---- what becomes of an image

-- The image of FILE's list is written, its ID blocks that count for the platform wanting FILE's digest for it.
pub record IsWrittenFor (words : SealWords) (bytes : List ℕ) (platform : Platform) (digest : List ℕ) (x : Outcome) : Type 0 where
  pub named : wanted_platform bytes words.wanted ≡ Some platform
  pub few : stored_bytes bytes ≤ data_limit
  pub snp : platform.kind ≡ SevSnp
  pub block : has_id_block platform.mask (list_of bytes).parts ≡ true
  pub found : platform_digest bytes words.options platform ≡ Some digest
  pub within : length (layout (sealed platform.mask digest (list_of bytes))) ≤ image_limit
  pub outcome : x ≡ done_writing words.target (layout (sealed platform.mask digest (list_of bytes))) (built_text (length (layout (sealed platform.mask digest (list_of bytes)))))

abbrev pub SealIs : SealWords → List ℕ → Outcome → Type 0
SealIs words bytes x =
    ((wanted_platform bytes words.wanted ≡ None) × (x ≡ refused is.Platform (no_platform_text words.wanted)))
    ⊎ ((platform : Platform) × (wanted_platform bytes words.wanted ≡ Some platform) × (platform.kind ≢ SevSnp) × (x ≡ refused is.Platform (no_seal_text platform.kind)))
    ⊎ ((platform : Platform) × (wanted_platform bytes words.wanted ≡ Some platform) × (platform.kind ≡ SevSnp) × (has_id_block platform.mask (list_of bytes).parts ≡ false)
    × (x ≡ refused is.Platform no_id_block_text))
    ⊎ ((text : List ℕ) × IsLargeText text × (x ≡ refused is.Limit text))
    ⊎ ((platform : Platform) × (digest : List ℕ) × IsWrittenFor words bytes platform digest x)

by_parts : (words : SealWords) (bytes : List ℕ) (x : Outcome) (platform : Platform) (digest : List ℕ) → wanted_platform bytes words.wanted ≡ Some platform → stored_bytes bytes ≤ data_limit
    → platform.kind ≡ SevSnp → has_id_block platform.mask (list_of bytes).parts ≡ true → platform_digest bytes words.options platform ≡ Some digest
    → PartsAre words.target (sealed platform.mask digest (list_of bytes)) x → SealIs words bytes x
by_parts words bytes x platform digest named few snp block found (inl h) = inr (inr (inr (inl (_, inr refl, h))))
by_parts words bytes x platform digest named few snp block found (inr h) =
    inr (inr (inr (inr (platform, digest, record { named = named; few = few; snp = snp; block = block; found = found; within = h.0; outcome = h.1 }))))

-- with the digest, which there is
by_digest : (words : SealWords) (bytes : List ℕ) (x : Outcome) (platform : Platform) → wanted_platform bytes words.wanted ≡ Some platform → stored_bytes bytes ≤ data_limit → platform.kind ≡ SevSnp
    → has_id_block platform.mask (list_of bytes).parts ≡ true
    → x ≡ digest_outcome platform.kind (λ digest. parts_outcome words.target (sealed platform.mask digest (list_of bytes))) (platform_digest bytes words.options platform) → SealIs words bytes x
by_digest words bytes x platform named few snp block same =
    let has = snp_digested bytes words.options platform snp in
    let next = λ (digest : List ℕ). parts_outcome words.target (sealed platform.mask digest (list_of bytes)) in
    by_parts words bytes x platform has.0 named few snp block has.1
    (parts_are words.target (sealed platform.mask has.0 (list_of bytes)) x (same ∙ ap (digest_outcome platform.kind next) has.1))

by_list : (words : SealWords) (bytes : List ℕ) (x : Outcome) (platform : Platform) (block : Bool) → wanted_platform bytes words.wanted ≡ Some platform → stored_bytes bytes ≤ data_limit → platform.kind ≡ SevSnp
    → has_id_block platform.mask (list_of bytes).parts ≡ block
    → x ≡ (if block
    then digest_outcome platform.kind (λ digest. parts_outcome words.target (sealed platform.mask digest (list_of bytes))) (platform_digest bytes words.options platform)
    else refused is.Platform no_id_block_text) → SealIs words bytes x
by_list words bytes x platform true named few snp block same = by_digest words bytes x platform named few snp block same
by_list words bytes x platform false named few snp block same = inr (inr (inl (platform, named, snp, block, same)))

by_data : (words : SealWords) (bytes : List ℕ) (x : Outcome) (platform : Platform) → wanted_platform bytes words.wanted ≡ Some platform → platform.kind ≡ SevSnp
    → DataAre (sealed_list words bytes platform) bytes x → SealIs words bytes x
by_data words bytes x platform named snp (inl h) = inr (inr (inr (inl (_, inl refl, h))))
by_data words bytes x platform named snp (inr h) = by_list words bytes x platform _ named h.0 snp refl h.1

by_kind : (words : SealWords) (bytes : List ℕ) (x : Outcome) (platform : Platform) (snp : Bool) → wanted_platform bytes words.wanted ≡ Some platform → is_snp platform.kind ≡ snp
    → x ≡ (if snp then data_outcome (sealed_list words bytes platform) bytes else refused is.Platform (no_seal_text platform.kind)) → SealIs words bytes x
by_kind words bytes x platform true named kind same = by_data words bytes x platform named (snp_kind platform.kind kind) (data_are (sealed_list words bytes platform) bytes x same)
by_kind words bytes x platform false named kind same = inr (inl (platform, named, other_kind platform.kind kind, same))

by_platform : (words : SealWords) (bytes : List ℕ) (x : Outcome) (found : Option Platform) → wanted_platform bytes words.wanted ≡ found → x ≡ platform_outcome words.wanted (sealed_for words bytes) found
    → SealIs words bytes x
by_platform words bytes x None same is = inl (same, is)
by_platform words bytes x (Some platform) same is = by_kind words bytes x platform _ same refl is

pub seal_is : (words : SealWords) (bytes : List ℕ) (x : Outcome) → x ≡ sealed_outcome words bytes → SealIs words bytes x
unfolding sealed_outcome
seal_is words bytes x same = by_platform words bytes x _ refl same
