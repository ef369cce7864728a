-- What the promises come to for `strip`, `join` and `seal`, whatever is told. `given` is how many bytes the file gave that
-- was read last; `gains` says that the output has gained a text, and `put` that the error output has, or a front where its
-- count rose.
use Rattle.std.specs.Prelude.{◌≡◌, ◌≢◌, ℕ, ◌≤◌, ◌⊎◌, List, length, true, false, Option, Some, None}
use Rattle.igvm_headers.specs.declared.platform_kind.PlatformKind.TheVariants.{SevSnp}
use Rattle.igvm_outside.specs.Files.{Files, with_file}
use Rattle.platform_masks.specs.declared.platform.Platform.{Platform}
use Rattle.igvm_image.specs.FileFault.{fault_of}
use Rattle.component_list.specs.ImageList.{list_of}
use Rattle.component_list.specs.Lists.{ImageParts, IsList}
use Rattle.image_builder.specs.Layout.{layout}
use Rattle.igvm_words.specs.Words.{PlatformChoice}
use Rattle.further_words.specs.FurtherWords.{StripWords, SealWords}
use Rattle.joined_list.specs.Joined.{FitTogether, joined}
use Rattle.image_ops.specs.Sealed.{has_id_block, sealed}
use Rattle.image_ops.specs.Stripped.{stripped}
use Rattle.igvm_jobs.specs.declared.status.Status.{Status}
use Rattle.igvm_jobs.specs.declared.status.Status.TheVariants as is
use Rattle.igvm_jobs.specs.BuildJob.{image_limit}
use Rattle.igvm_jobs.specs.ImageFiles.{file_limit}
use Rattle.igvm_jobs.specs.JobAnswers.{IsFileRefused, IsHalted, IsImage}
use Rattle.igvm_jobs.specs.MeasureJob.{platform_digest, wanted_platform}
use Rattle.igvm_jobs.specs.Texts.{built_text, large_data_text, large_image_text, many_areas_text, many_pages_text, many_platforms_text, no_platform_text}
use Rattle.operation_jobs.specs.OperationTexts.{no_id_block_text, no_seal_text}
use Rattle.operation_jobs.specs.StoredData.{data_limit, stored_bytes}

-- the image of this list is within its limit, is written, and its size is put
pub record IsWritten (target : List ℕ) (list : ImageParts) (told told' : Option Files) (gains : List ℕ → Type 0) : Type 0 where
  pub within : length (layout list) ≤ image_limit
  pub written : told' ≡ with_file told target (layout list)
  pub put : gains (built_text (length (layout list)))

-- the data are too many, or the image too large
abbrev pub IsLargeText : List ℕ → Type 0
IsLargeText text = (text ≡ large_data_text) ⊎ (text ≡ large_image_text)

-- An image that is accepted, of as many bytes as were given, whose data are few enough, and its platform that is asked for.
-- What it comes to is a list.
pub record IsNamedIn (wanted : PlatformChoice) (given : ℕ) (bytes : List ℕ) (platform : Platform) : Type 0 where
  pub image : IsImage bytes given
  pub named : wanted_platform bytes wanted ≡ Some platform
  pub few : stored_bytes bytes ≤ data_limit
  pub list : IsList (list_of bytes)

-- ---- `strip`

-- the image of FILE's list, stripped to the platform that is asked for, is written
pub record IsStripped (words : StripWords) (given : ℕ) (told told' : Option Files) (gains : List ℕ → Type 0) : Type 0 where
  pub bytes : List ℕ
  pub platform : Platform
  pub from : IsNamedIn words.wanted given bytes platform
  pub written : IsWritten words.target (stripped platform.mask (list_of bytes)) told told' gains

-- `strip`: FILE is refused, or its image has no such platform, or it is too large, or the stripped image is written to OUT
abbrev pub StripAnswers : StripWords → Status → ℕ → Option Files → Option Files → (List ℕ → Type 0) → (List ℕ → Type 0)
    → Type 0
StripAnswers words status given told told' gains put =
    IsHalted status ⊎ IsFileRefused status given put
    ⊎ ((status ≡ is.Platform)
    × ((bytes : List ℕ) × IsImage bytes given × (wanted_platform bytes words.wanted ≡ None) × put (no_platform_text words.wanted)))
    ⊎ ((status ≡ is.Limit) × ((text : List ℕ) × IsLargeText text × put text))
    ⊎ ((status ≡ is.Done) × IsStripped words given told told' gains)

-- ---- `seal`

-- an image has no platform that is asked for, or it is no SEV-SNP one, or no ID block counts for it
abbrev pub IsUnsealable : PlatformChoice → List ℕ → (List ℕ → Type 0) → Type 0
IsUnsealable wanted bytes put =
    ((wanted_platform bytes wanted ≡ None) × put (no_platform_text wanted))
    ⊎ ((platform : Platform) × (wanted_platform bytes wanted ≡ Some platform) × (platform.kind ≢ SevSnp)
    × put (no_seal_text platform.kind))
    ⊎ ((platform : Platform) × (wanted_platform bytes wanted ≡ Some platform) × (platform.kind ≡ SevSnp)
    × (has_id_block platform.mask (list_of bytes).parts ≡ false) × put no_id_block_text)

-- the image of FILE's list is written, its ID blocks that count for the platform wanting FILE's digest for it
pub record IsSealedFile (words : SealWords) (given : ℕ) (told told' : Option Files) (gains : List ℕ → Type 0) : Type 0 where
  pub bytes : List ℕ
  pub platform : Platform
  pub digest : List ℕ
  pub from : IsNamedIn words.wanted given bytes platform
  pub snp : platform.kind ≡ SevSnp
  pub block : has_id_block platform.mask (list_of bytes).parts ≡ true
  pub found : platform_digest bytes words.options platform ≡ Some digest
  pub written : IsWritten words.target (sealed platform.mask digest (list_of bytes)) told told' gains

-- `seal`: FILE is refused, or there is nothing to seal, or it is too large, or the sealed image is written to OUT
abbrev pub SealAnswers : SealWords → Status → ℕ → Option Files → Option Files → (List ℕ → Type 0) → (List ℕ → Type 0)
    → Type 0
SealAnswers words status given told told' gains put =
    IsHalted status ⊎ IsFileRefused status given put
    ⊎ ((status ≡ is.Platform) × ((bytes : List ℕ) × IsImage bytes given × IsUnsealable words.wanted bytes put))
    ⊎ ((status ≡ is.Limit) × ((text : List ℕ) × IsLargeText text × put text))
    ⊎ ((status ≡ is.Done) × IsSealedFile words given told told' gains)

-- ---- `join`

-- more data or bytes than the limit, or more platforms, areas or pages than one image may have
abbrev pub IsJoinLimitText : List ℕ → Type 0
IsJoinLimitText text =
    IsLargeText text ⊎ (text ≡ many_platforms_text) ⊎ (text ≡ many_areas_text) ⊎ (text ≡ many_pages_text)

-- The image of two files' lists, joined, is written. Both are images that are accepted, and what they come to are lists; the
-- second has as many bytes as were given.
pub record IsJoined (target : List ℕ) (given : ℕ) (told told' : Option Files) (gains : List ℕ → Type 0) : Type 0 where
  pub first : List ℕ
  pub second : List ℕ
  pub first_within : length first ≤ file_limit
  pub first_accepted : fault_of first ≡ None
  pub second_image : IsImage second given
  pub first_few : stored_bytes first ≤ data_limit
  pub second_few : stored_bytes second ≤ data_limit
  pub first_list : IsList (list_of first)
  pub second_list : IsList (list_of second)
  pub together : FitTogether (list_of first).parts (list_of second).parts
  pub written : IsWritten target (joined (list_of first) (list_of second)) told told' gains

-- `join`: one of the files is refused, or something is too large or too many, or the joined image is written to OUT
abbrev pub JoinAnswers : List ℕ → Status → ℕ → Option Files → Option Files → (List ℕ → Type 0) → (List ℕ → Type 0)
    → Type 0
JoinAnswers target status given told told' gains put =
    IsHalted status ⊎ IsFileRefused status given put
    ⊎ ((status ≡ is.Limit) × ((text : List ℕ) × IsJoinLimitText text × put text))
    ⊎ ((status ≡ is.Done) × IsJoined target given told told' gains)
