-- The platforms of an image: its SUPPORTED_PLATFORM headers, numbered from 0 in their order.
use Rattle.std.specs.Prelude.{ℕ, ◌+◌, List, [], ◌∷◌, ◌++◌, length}
use Rattle.igvm_headers.specs.declared.header.Header as headers
use Rattle.igvm_headers.specs.declared.header.Header.TheVariants.{Platform}
use Rattle.platform_masks.specs.declared.platform.Platform as platforms

-- the platform that a header declares, under a number; other headers declare none
abbrev pub platform_of : ℕ → headers.Header → List platforms.Platform
platform_of n (Platform mask highest_vtl kind version shared_gpa) =
    record {
      number = n;
      mask = mask;
      kind = kind;
      highest_vtl = highest_vtl;
      version = version;
      shared_gpa = shared_gpa;
    }
    ∷ []
platform_of n _ = []

-- the platforms of these headers, numbered from a number on
unfoldable pub platforms_from : ℕ → List headers.Header → List platforms.Platform
platforms_from n [] = []
platforms_from n (header ∷ rest) =
    platform_of n header ++ platforms_from (n + length (platform_of n header)) rest

-- the platforms of these headers
abbrev pub platforms_of : List headers.Header → List platforms.Platform
platforms_of all = platforms_from 0 all
