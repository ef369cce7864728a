-- The images that `strip`, `join` and `seal` write launch platforms as the images of their files do.
use Rattle.std.proofs.Common.{◌≡◌, ◌∙◌, ℕ, ◌+◌, ◌≤◌, refl, sym, ap, subst, List, length, Option, Some, None}
use Rattle.std.specs.Prelude.{slice_get}
use Rattle.igvm_headers.specs.declared.options.Options.{Options}
use Rattle.igvm_headers.specs.declared.platform_kind.PlatformKind.TheVariants.{SevSnp}
use Rattle.platform_masks.specs.declared.platform.Platform.{Platform}
use Rattle.platform_masks.specs.Platforms.{platforms_of}
use Rattle.igvm_image.specs.Headers.{headers_of}
use Rattle.igvm_measure.specs.Digests.{digest_of}
use Rattle.igvm_measure.specs.WantedDigest.{bad_digest}
use Rattle.igvm_outside.specs.Files.{Files}
use Rattle.component_list.specs.ImageList.{list_of}
use Rattle.component_list.specs.Lists.{ImageParts, IsList}
use Rattle.image_builder.specs.Layout.{layout, layout_size}
use Rattle.list_changes.specs.ListPlatforms.{platforms_in, renumbered}
use Rattle.launch_likeness.specs.LaunchedAlike.{AreLaunchedAlike, FitAlike, KeepsLaunch}
use Rattle.launch_likeness.proofs.Launched.{file_platforms}
use Rattle.joined_list.specs.Joined.{joined}
use Rattle.joined_list.specs.NewNumbers.{mask_by, second_masks}
use Rattle.joined_list.proofs.Fields.{joined_is_valid}
use Rattle.joined_list.proofs.Launches.{first_kept, second_kept}
use Rattle.image_ops.specs.Sealed.{sealed}
use Rattle.image_ops.specs.Stripped.{stripped}
use Rattle.image_ops.proofs.BuiltLists.{ReadsBack}
use Rattle.image_ops.proofs.StripAnswers.{IsFound, strip_fits, strip_launch}
use Rattle.image_ops.proofs.SealedSize.{IsPadded, sealed_size}
use Rattle.image_ops.proofs.SealedValid.{sealed_valid}
use Rattle.image_ops.proofs.SealAnswers.{IsDone, seal_fits, seal_launch, seal_wanted}
use Rattle.further_words.specs.FurtherWords.{SealWords, StripWords}
use Rattle.igvm_jobs.specs.BuildJob.{image_limit}
use Rattle.igvm_jobs.specs.ImageFiles.{file_limit}
use Rattle.igvm_jobs.specs.MeasureJob.{platform_digest}
use Rattle.operation_jobs.specs.OperationAnswers.{IsJoined, IsSealedFile, IsStripped, IsWritten}
use Rattle.operation_jobs.proofs.DigestBytes.{IsDigest, snp_has_digest}
use Rattle.operation_jobs.proofs.FewComponents.{few_together}
use Rattle.operation_jobs.proofs.SealLemmas.{HasSize}
use Rattle.operation_jobs.proofs.WantedPlatforms.{stands_in_list}

-- an image that is written is within the limit of what is read
small : HasSize → (target : List ℕ) (list : ImageParts) (told told' : Option Files) (gains : List ℕ → Type 0) → IsWritten target list told told' gains → layout_size list ≤ image_limit
small sizes target list told told' gains written = subst (λ n. n ≤ image_limit) (sizes list) written.within

-- ---- `strip`

is_found : (words : StripWords) (given : ℕ) (told told' : Option Files) (gains : List ℕ → Type 0) (done : IsStripped words given told told' gains) → IsFound (list_of done.bytes) done.platform.number done.platform
is_found words given told told' gains done =
    record { is_list = done.from.list; here = stands_in_list done.bytes words.wanted done.platform (list_of done.bytes) done.from.named refl }

pub stripped_launch : ReadsBack → HasSize → (words : StripWords) (given : ℕ) (told told' : Option Files) (gains : List ℕ → Type 0) (done : IsStripped words given told told' gains)
    → KeepsLaunch done.bytes done.platform (stripped done.platform.mask (list_of done.bytes)) 0 done.platform.mask
stripped_launch back sizes words given told told' gains done =
    let new = stripped done.platform.mask (list_of done.bytes) in
    strip_launch back done.bytes (list_of done.bytes) new done.platform.number done.platform (is_found words given told told' gains done) refl refl
    (small sizes words.target new told told' gains done.written)

pub stripped_fits : ReadsBack → HasSize → (words : StripWords) (given : ℕ) (told told' : Option Files) (gains : List ℕ → Type 0) (done : IsStripped words given told told' gains)
    → FitAlike done.bytes done.platform (layout (stripped done.platform.mask (list_of done.bytes))) (renumbered 0 done.platform.mask done.platform)
stripped_fits back sizes words given told told' gains done =
    let new = stripped done.platform.mask (list_of done.bytes) in
    strip_fits back done.bytes (list_of done.bytes) new done.platform.number done.platform (is_found words given told told' gains done) refl refl
    (small sizes words.target new told told' gains done.written)

-- ---- `join`

-- a platform of an image, in its list
in_list : (file : List ℕ) (n : ℕ) (p : Platform) → slice_get (platforms_of (headers_of file)) n ≡ Some p → slice_get (platforms_in (list_of file).parts) n ≡ Some p
in_list file n p here = ap (λ ps. slice_get ps n) (sym (file_platforms file)) ∙ here

-- the joined image is read back as the joined list
joined_back : ReadsBack → HasSize → (target : List ℕ) (given : ℕ) (told told' : Option Files) (gains : List ℕ → Type 0) (done : IsJoined target given told told' gains)
    → let list = joined (list_of done.first) (list_of done.second) in list_of (layout list) ≡ list
joined_back back sizes target given told told' gains done =
    let first = list_of done.first in
    let second = list_of done.second in
    let within : length done.second ≤ file_limit = subst (λ n. n ≤ file_limit) (sym done.second_image.size) done.second_image.within in
    let few = few_together done.first done.second first second done.first_within within refl refl in
    let list : IsList (joined first second) = record { known = done.first_list.known; valid = joined_is_valid first.parts second.parts done.first_list.valid done.second_list.valid done.together few } in
    back (joined first second) list (small sizes target (joined first second) told told' gains done.written)

pub first_launch : ReadsBack → HasSize → (target : List ℕ) (given : ℕ) (told told' : Option Files) (gains : List ℕ → Type 0) (done : IsJoined target given told told' gains)
    (n : ℕ) (p : Platform) → slice_get (platforms_of (headers_of done.first)) n ≡ Some p → KeepsLaunch done.first p (joined (list_of done.first) (list_of done.second)) n p.mask
first_launch back sizes target given told told' gains done n p here =
    first_kept (list_of done.first) (list_of done.second) done.first_list.valid done.second_list.valid done.together done.first n p (joined (list_of done.first) (list_of done.second)) refl
    (in_list done.first n p here) refl (joined_back back sizes target given told told' gains done)

pub second_launch : ReadsBack → HasSize → (target : List ℕ) (given : ℕ) (told told' : Option Files) (gains : List ℕ → Type 0) (done : IsJoined target given told told' gains)
    (n : ℕ) (p : Platform) → slice_get (platforms_of (headers_of done.second)) n ≡ Some p
    → KeepsLaunch done.second p (joined (list_of done.first) (list_of done.second)) (length (platforms_of (headers_of done.first)) + n)
    (mask_by (second_masks (list_of done.first).parts (list_of done.second).parts) p.mask)
second_launch back sizes target given told told' gains done n p here =
    let list = joined (list_of done.first) (list_of done.second) in
    let mask = mask_by (second_masks (list_of done.first).parts (list_of done.second).parts) p.mask in
    subst (λ (ps : List Platform). KeepsLaunch done.second p list (length ps + n) mask) (sym (file_platforms done.first))
    (second_kept (list_of done.first) (list_of done.second) done.first_list.valid done.second_list.valid done.together done.second n p list refl
    (in_list done.second n p here) refl (joined_back back sizes target given told told' gains done))

-- ---- `seal`

digest_is : (bytes : List ℕ) (options : Options) (p : Platform) (digest : List ℕ) → p.kind ≡ SevSnp → platform_digest bytes options p ≡ Some digest
    → (digest_of bytes p options ≡ Some digest) × IsDigest digest
unfolding platform_digest
digest_is bytes options p digest snp found =
    let has = snp_has_digest bytes options p snp in
    (found, subst IsDigest (same_some (sym has.found ∙ found)) has.is_digest)
  where
    same_some : {a b : List ℕ} → Some a ≡ Some b → a ≡ b
    same_some same = cc

is_done : HasSize → IsPadded → (words : SealWords) (given : ℕ) (told told' : Option Files) (gains : List ℕ → Type 0) (done : IsSealedFile words given told told' gains)
    → IsDone (list_of done.bytes) done.platform.mask done.digest (sealed done.platform.mask done.digest (list_of done.bytes))
is_done sizes padded words given told told' gains done =
    let list = list_of done.bytes in
    let mask = done.platform.mask in
    let digest = (digest_is done.bytes words.options done.platform done.digest done.snp done.found).1 in
    let valid = done.from.list.valid in
    record {
      given = refl;
      old_list = done.from.list;
      new_list = record { known = done.from.list.known; valid = sealed_valid mask done.digest list.parts digest.size digest.bytes valid };
      size = digest.size;
      small = subst (λ n. n ≤ image_limit) (sealed_size padded mask done.digest list digest.size valid.fits.each) (small sizes words.target (sealed mask done.digest list) told told' gains done.written);
    }

pub sealed_launch : ReadsBack → HasSize → IsPadded → (words : SealWords) (given : ℕ) (told told' : Option Files) (gains : List ℕ → Type 0) (done : IsSealedFile words given told told' gains)
    (n : ℕ) (p : Platform) → slice_get (platforms_of (headers_of done.bytes)) n ≡ Some p → KeepsLaunch done.bytes p (sealed done.platform.mask done.digest (list_of done.bytes)) n p.mask
sealed_launch back sizes padded words given told told' gains done n p here =
    seal_launch back padded done.bytes (list_of done.bytes) (sealed done.platform.mask done.digest (list_of done.bytes)) done.platform.mask done.digest n p
    (is_done sizes padded words given told told' gains done) refl (in_list done.bytes n p here)

pub sealed_fits : ReadsBack → HasSize → IsPadded → (words : SealWords) (given : ℕ) (told told' : Option Files) (gains : List ℕ → Type 0) (done : IsSealedFile words given told told' gains)
    (n : ℕ) (p : Platform) → slice_get (platforms_of (headers_of done.bytes)) n ≡ Some p → FitAlike done.bytes p (layout (sealed done.platform.mask done.digest (list_of done.bytes))) p
sealed_fits back sizes padded words given told told' gains done n p here =
    seal_fits back padded done.bytes (list_of done.bytes) (sealed done.platform.mask done.digest (list_of done.bytes)) done.platform.mask done.digest n p
    (is_done sizes padded words given told told' gains done) refl (in_list done.bytes n p here)

pub sealed_wants : ReadsBack → HasSize → IsPadded → ((file other : List ℕ) (q : Platform) → (list_of other).parts ≡ (list_of file).parts → AreLaunchedAlike file q other q)
    → (words : SealWords) (given : ℕ) (told told' : Option Files) (gains : List ℕ → Type 0) (done : IsSealedFile words given told told' gains)
    → bad_digest (layout (sealed done.platform.mask done.digest (list_of done.bytes))) done.platform words.options ≡ None
sealed_wants back sizes padded alike words given told told' gains done =
    let list = list_of done.bytes in
    let p = done.platform in
    let sealing = is_done sizes padded words given told told' gains done in
    let own = back list sealing.old_list sealing.small in
    let launched = alike done.bytes (layout list) p (ap (λ (l : ImageParts). l.parts) own) in
    let found = (digest_is done.bytes words.options p done.digest done.snp done.found).0 in
    seal_wanted back padded list (sealed p.mask done.digest list) p.mask done.digest p.number p words.options sealing
    (stands_in_list done.bytes words.wanted p list done.from.named refl) refl (launched.digest words.options ∙ found)
