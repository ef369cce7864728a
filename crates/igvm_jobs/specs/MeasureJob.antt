-- `measure FILE --platform P [--native-zero]`.
use Rattle.std.specs.Prelude.{ℕ, List, position, slice_get, Option, Some, None}
use Rattle.igvm_headers.specs.PlatformKinds.{is_kind}
use Rattle.igvm_headers.specs.declared.options.Options.{Options}
use Rattle.igvm_headers.specs.declared.platform_kind.PlatformKind.{PlatformKind}
use Rattle.platform_masks.specs.declared.platform.Platform.{Platform}
use Rattle.platform_masks.specs.Platforms.{platforms_of}
use Rattle.igvm_image.specs.Headers.{headers_of}
use Rattle.igvm_measure.specs.Digests.{digest_of}
use Rattle.igvm_jobs.specs.declared.status.Status.TheVariants as is
use Rattle.igvm_words.specs.Words.{MeasureWords, PlatformChoice, First, Numbered}
use Rattle.igvm_jobs.specs.Texts.{no_platform_text, no_digest_text, digest_text}
use Rattle.igvm_jobs.specs.Outcome.{Outcome, done, refused}
use Rattle.igvm_jobs.specs.Tasks.{Task}
use Rattle.igvm_jobs.specs.ImageFiles.{file_task}

-- the platform of a number, where there is one
abbrev pub platform_at : List Platform → Option ℕ → Option Platform
platform_at platforms None = None
platform_at platforms (Some number) = slice_get platforms number

-- the first platform of a kind
unfoldable pub first_platform : List ℕ → PlatformKind → Option Platform
first_platform bytes kind =
    platform_at (platforms_of (headers_of bytes)) (position (λ p. is_kind p.kind kind) (platforms_of (headers_of bytes)))

-- the platform that is asked for
unfoldable pub wanted_platform : List ℕ → PlatformChoice → Option Platform
wanted_platform bytes (First kind) = first_platform bytes kind
wanted_platform bytes (Numbered number) = slice_get (platforms_of (headers_of bytes)) number

-- the digest of an image for a platform, where its kind has one
unfoldable pub platform_digest : List ℕ → Options → Platform → Option (List ℕ)
platform_digest bytes options platform = digest_of bytes platform options

-- an image whose platform's kind has no digest is refused; `next` says what becomes of another
abbrev pub digest_outcome : PlatformKind → (List ℕ → Outcome) → Option (List ℕ) → Outcome
digest_outcome kind next None = refused is.Platform (no_digest_text kind)
digest_outcome kind next (Some digest) = next digest

-- an image without the platform is refused; `next` says what becomes of another
abbrev pub platform_outcome : PlatformChoice → (Platform → Outcome) → Option Platform → Outcome
platform_outcome wanted next None = refused is.Platform (no_platform_text wanted)
platform_outcome wanted next (Some platform) = next platform

-- of a platform of an accepted image
abbrev pub measured_for : List ℕ → Options → Platform → Outcome
measured_for bytes options platform =
    digest_outcome platform.kind (λ digest. done (digest_text digest)) (platform_digest bytes options platform)

-- of an accepted image
unfoldable pub measured : PlatformChoice → Options → List ℕ → Outcome
measured wanted options bytes =
    platform_outcome wanted (measured_for bytes options) (wanted_platform bytes wanted)

-- FILE is read
abbrev pub measure_task : MeasureWords → Task
measure_task words = file_task words.file (measured words.wanted words.options)
