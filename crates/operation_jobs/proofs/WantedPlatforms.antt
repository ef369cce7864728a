-- The platform that is asked for stands at its number, in an image and in its list.
use Rattle.std.proofs.Common.{◌≡◌, ◌∙◌, ℕ, zero, suc, ◌<◌, List, [], ◌∷◌, length, sym, ap, zero-add, arith, Option, Some, None}
use Rattle.std.specs.Prelude.{position, slice_get}
use Rattle.igvm_headers.specs.PlatformKinds.{is_kind}
use Rattle.igvm_headers.specs.declared.platform_kind.PlatformKind.{PlatformKind}
use Rattle.platform_masks.specs.declared.platform.Platform.{Platform}
use Rattle.platform_masks.specs.Platforms.{platforms_of}
use Rattle.igvm_image.specs.Headers.{headers_of}
use Rattle.component_list.specs.ImageList.{list_of}
use Rattle.component_list.specs.Lists.{ImageParts}
use Rattle.list_changes.specs.ListPlatforms.{platforms_in}
use Rattle.list_changes.proofs.Numbered.{number_in}
use Rattle.launch_likeness.proofs.Launched.{file_platforms}
use Rattle.igvm_words.specs.Words.{PlatformChoice, First, Numbered}
use Rattle.igvm_jobs.specs.MeasureJob.{first_platform, platform_at, wanted_platform}

-- a platform at a place of an image stands at its number
at_number : (bytes : List ℕ) (n : ℕ) (p : Platform) → slice_get (platforms_of (headers_of bytes)) n ≡ Some p → slice_get (platforms_of (headers_of bytes)) p.number ≡ Some p
at_number bytes n p here =
    ap (slice_get (platforms_of (headers_of bytes))) (number_in (headers_of bytes) 0 n p here ∙ zero-add n) ∙ here

found_at : (bytes : List ℕ) (place : Option ℕ) (p : Platform) → platform_at (platforms_of (headers_of bytes)) place ≡ Some p → slice_get (platforms_of (headers_of bytes)) p.number ≡ Some p
found_at bytes None p here = cc
found_at bytes (Some n) p here = at_number bytes n p here

first_stands : (bytes : List ℕ) (kind : PlatformKind) (p : Platform) → first_platform bytes kind ≡ Some p → slice_get (platforms_of (headers_of bytes)) p.number ≡ Some p
unfolding first_platform
first_stands bytes kind p here = found_at bytes (position (λ q. is_kind q.kind kind) (platforms_of (headers_of bytes))) p here

-- in the image
pub stands : (bytes : List ℕ) (wanted : PlatformChoice) (p : Platform) → wanted_platform bytes wanted ≡ Some p → slice_get (platforms_of (headers_of bytes)) p.number ≡ Some p
unfolding wanted_platform
stands bytes (First kind) p here = first_stands bytes kind p here
stands bytes (Numbered number) p here = at_number bytes number p here

-- in the list
pub stands_in_list : (bytes : List ℕ) (wanted : PlatformChoice) (p : Platform) (list : ImageParts) → wanted_platform bytes wanted ≡ Some p → list ≡ list_of bytes
    → slice_get (platforms_in list.parts) p.number ≡ Some p
stands_in_list bytes wanted p list found same =
    ap (λ (l : ImageParts). slice_get (platforms_in l.parts) p.number) same
    ∙ ap (λ ps. slice_get ps p.number) (sym (file_platforms bytes)) ∙ stands bytes wanted p found

-- what stands at a place of a list
is_within : {X : Type 0} (xs : List X) (n : ℕ) (x : X) → slice_get xs n ≡ Some x → n < length xs
is_within [] n x here = cc
is_within (y ∷ ys) zero x here = omega arith
is_within (y ∷ ys) (suc n) x here = let behind = is_within ys n x here in omega arith

-- so the list has a platform of that number
pub platform_within : (bytes : List ℕ) (wanted : PlatformChoice) (p : Platform) (list : ImageParts) → wanted_platform bytes wanted ≡ Some p → list ≡ list_of bytes → p.number < length (platforms_in list.parts)
platform_within bytes wanted p list found same = is_within (platforms_in list.parts) p.number p (stands_in_list bytes wanted p list found same)
