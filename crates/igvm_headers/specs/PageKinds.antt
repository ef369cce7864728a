-- Page kinds (`igvm_defs`, IgvmPageDataType): all of them, with the data type and the name of each.
use Rattle.std.specs.Prelude.{ℕ, List, [], ◌∷◌, ◌==◌, Option, codes, find, bytes_eq}
use Rattle.igvm_headers.specs.declared.page_kind.PageKind.{PageKind}
use Rattle.igvm_headers.specs.declared.page_kind.PageKind.TheVariants.{Normal, Secrets, Cpuid, CpuidXf}

-- all kinds, in the order of their data types
abbrev pub page_kinds : List PageKind
page_kinds = Normal ∷ Secrets ∷ Cpuid ∷ CpuidXf ∷ []

-- the data type of a page
abbrev pub data_type : PageKind → ℕ
data_type Normal = 0
data_type Secrets = 1
data_type Cpuid = 2
data_type CpuidXf = 3

-- the name that texts and lists have for a kind
abbrev pub page_kind_text : PageKind → List ℕ
page_kind_text Normal = codes "normal"
page_kind_text Secrets = codes "secrets"
page_kind_text Cpuid = codes "cpuid"
page_kind_text CpuidXf = codes "cpuid_xf"

-- the kind of a data type
abbrev pub page_kind_of : ℕ → Option PageKind
page_kind_of number = find (λ kind. data_type kind == number) page_kinds

-- the kind of a name
abbrev pub page_kind_named : List ℕ → Option PageKind
page_kind_named name = find (λ kind. bytes_eq (page_kind_text kind) name) page_kinds
