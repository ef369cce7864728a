-- Platform kinds (`igvm_defs`, IgvmPlatformType): all of them, with the number and the name of each.
use Rattle.std.specs.Prelude.{ℕ, List, [], ◌∷◌, ◌==◌, Bool, Option, codes, find, bytes_eq}
use Rattle.igvm_headers.specs.declared.platform_kind.PlatformKind.{PlatformKind}
use Rattle.igvm_headers.specs.declared.platform_kind.PlatformKind.TheVariants.{Native, VsmIsolation, SevSnp, Tdx, Sev, SevEs}

-- all kinds, in the order of their numbers
abbrev pub platform_kinds : List PlatformKind
platform_kinds = Native ∷ VsmIsolation ∷ SevSnp ∷ Tdx ∷ Sev ∷ SevEs ∷ []

-- the number that a kind has in a SUPPORTED_PLATFORM header
abbrev pub kind_number : PlatformKind → ℕ
kind_number Native = 0
kind_number VsmIsolation = 1
kind_number SevSnp = 2
kind_number Tdx = 3
kind_number Sev = 4
kind_number SevEs = 5

-- the name that texts and lists have for a kind
abbrev pub kind_text : PlatformKind → List ℕ
kind_text Native = codes "native"
kind_text VsmIsolation = codes "vsm"
kind_text SevSnp = codes "snp"
kind_text Tdx = codes "tdx"
kind_text Sev = codes "sev"
kind_text SevEs = codes "sev_es"

-- the kind of a number
abbrev pub platform_kind_of : ℕ → Option PlatformKind
platform_kind_of number = find (λ kind. kind_number kind == number) platform_kinds

-- the kind of a name
abbrev pub platform_kind_named : List ℕ → Option PlatformKind
platform_kind_named name = find (λ kind. bytes_eq (kind_text kind) name) platform_kinds

-- two kinds are one
abbrev pub is_kind : PlatformKind → PlatformKind → Bool
is_kind a b = kind_number a == kind_number b
