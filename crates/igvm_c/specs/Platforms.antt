-- The platforms of an image as C gets them.
use Rattle.std.specs.Prelude.{ℕ, List, length, Result, Ok, slice_get, position}
use Rattle.std.specs.Option.{ok_or}
use Rattle.igvm_headers.specs.PlatformKinds.{kind_number, is_kind, platform_kind_of}
use Rattle.igvm_headers.specs.declared.platform_kind.PlatformKind.{PlatformKind}
use Rattle.igvm_image.specs.Headers.{headers_of}
use Rattle.platform_masks.specs.Platforms.{platforms_of}
use Rattle.platform_masks.specs.declared.platform.Platform.{Platform}
use Rattle.igvm_c.specs.declared.platform.PlatformFields.{PlatformFields}
use Rattle.igvm_c.specs.declared.refusal.Refusal.{Refusal}
use Rattle.igvm_c.specs.declared.refusal.Refusal.TheVariants.{NoPlatform, Unknown}
use Rattle.igvm_c.specs.Files.{file_refusal}
use Rattle.igvm_c.specs.Refusals.{and_then, unless}

abbrev pub told_platform : Platform → PlatformFields
told_platform p = record {
  shared_gpa = p.shared_gpa;
  number = p.number;
  mask = p.mask;
  kind = kind_number p.kind;
  version = p.version;
  highest_vtl = p.highest_vtl;
}

-- how many platforms a file has
abbrev pub count_of : List ℕ → Result ℕ Refusal
count_of file = unless (file_refusal file) (Ok (length (platforms_of (headers_of file))))

-- the platform of a number in a file that isn't refused
abbrev pub platform_numbered : List ℕ → ℕ → Result Platform Refusal
platform_numbered file number = ok_or (slice_get (platforms_of (headers_of file)) number) NoPlatform

-- the platform of a number in a file
abbrev pub platform_of : List ℕ → ℕ → Result Platform Refusal
platform_of file number = unless (file_refusal file) (platform_numbered file number)

-- the kind of a number
abbrev pub kind_of : ℕ → Result PlatformKind Refusal
kind_of number = ok_or (platform_kind_of number) Unknown

-- the place of the first platform of a kind in a file that isn't refused
unfoldable pub first_of_kind : List ℕ → PlatformKind → Result ℕ Refusal
first_of_kind file kind = ok_or (position (λ p. is_kind p.kind kind) (platforms_of (headers_of file))) NoPlatform

-- the place of the first platform of the kind of a number in a file
abbrev pub first_of : List ℕ → ℕ → Result ℕ Refusal
first_of file number = and_then (kind_of number) (λ kind. unless (file_refusal file) (first_of_kind file kind))
