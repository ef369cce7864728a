-- Which headers have a spelling that is read again as the same header.
use Rattle.std.specs.Prelude.{◌≡◌, ℕ, ◌<◌, ◌^◌, List, length, slice_index, IsTrue, Ok, ⊤}
use Rattle.std.specs.List.{AllByRecursion}
use Rattle.igvm_headers.specs.HeaderFacts.{tail_size}
use Rattle.igvm_headers.specs.HeaderForm.{header_form}
use Rattle.igvm_headers.specs.Records.Carried.{is_carried}
use Rattle.igvm_headers.specs.declared.page_kind.PageKind.TheVariants.{Normal}
use Rattle.igvm_headers.specs.declared.header.Header.{Header}
use Rattle.igvm_headers.specs.declared.header.Header.TheVariants.{Platform, Policy, Area, Page, Insert, Param, Context, Required, ErrorRange, IdBlock, Carried}

-- the bytes handed in are as many as the header carries
abbrev pub TailFits : Header → List ℕ → Type 0
TailFits header tail = length tail ≡ tail_size header

-- a page of 2 MB is a normal one
abbrev pub LargeIsNormal : Header → Type 0
LargeIsNormal (Page gpa mask offset large unmeasured kind) = IsTrue large → kind ≡ Normal
LargeIsNormal _ = ⊤

-- what is carried whole is of a type that is carried
abbrev pub KindIsCarried : Header → Type 0
KindIsCarried (Carried kind length) = IsTrue (is_carried kind)
KindIsCarried _ = ⊤

-- a number of 8 bits
abbrev U8 : ℕ → Type 0
U8 n = n < 2 ^ 8

-- a number of 16 bits
abbrev U16 : ℕ → Type 0
U16 n = n < 2 ^ 16

-- a number of 32 bits
abbrev U32 : ℕ → Type 0
U32 n = n < 2 ^ 32

-- a number of 64 bits
abbrev U64 : ℕ → Type 0
U64 n = n < 2 ^ 64

-- each field is of its type's size, as in every `Header` of the code
abbrev pub NumbersFit : Header → Type 0
NumbersFit (Platform mask highest_vtl kind version shared_gpa) =
    U32 mask × U8 highest_vtl × U16 version × U64 shared_gpa
NumbersFit (Policy policy mask) = U64 policy × U32 mask
NumbersFit (Area bytes area offset) = U64 bytes × U32 area × U32 offset
NumbersFit (Page gpa mask offset large unmeasured kind) = U64 gpa × U32 mask × U32 offset
NumbersFit (Insert gpa mask area) = U64 gpa × U32 mask × U32 area
NumbersFit (Param kind area byte_offset) = U32 area × U32 byte_offset
NumbersFit (Context gpa mask offset vp) = U64 gpa × U32 mask × U32 offset × U16 vp
NumbersFit (Required gpa mask bytes flags) = U64 gpa × U32 mask × U32 bytes × U32 flags
NumbersFit (ErrorRange gpa mask bytes) = U64 gpa × U32 mask × U32 bytes
NumbersFit (IdBlock mask author_enabled ld family_id image_id version guest_svn id_algorithm
    author_algorithm) =
    U32 mask × U8 author_enabled × (length ld ≡ 48) × (length family_id ≡ 16)
    × (length image_id ≡ 16) × U32 version × U32 guest_svn × U32 id_algorithm
    × U32 author_algorithm
NumbersFit (Carried kind length) = U32 kind × U32 length

-- these numbers are bytes
abbrev pub AreBytes : List ℕ → Type 0
AreBytes bytes = AllByRecursion (λ byte. byte < 2 ^ 8) bytes

-- the lists that a header holds, the three of an ID block, are bytes
abbrev pub ListsAreBytes : Header → Type 0
ListsAreBytes (IdBlock mask author_enabled ld family_id image_id version guest_svn id_algorithm author_algorithm) =
    AreBytes ld × AreBytes family_id × AreBytes image_id
ListsAreBytes _ = Unit {0}

-- a header that is read again as it is spelled, with a tail
pub record IsSpellable (header : Header) (tail : List ℕ) : Type 0 where
  pub numbers : NumbersFit header
  pub tail_fits : TailFits header tail
  pub large_is_normal : LargeIsNormal header
  pub kind_is_carried : KindIsCarried header

-- a type of 32 bits and a content, of bytes as many as such a number can say, are read as a header
pub record IsRead (kind : ℕ) (content : List ℕ) (header : Header) : Type 0 where
  pub kind_fits : kind < 2 ^ 32
  pub size_fits : length content < 2 ^ 32
  pub bytes : (k : ℕ) → slice_index content k < 2 ^ 8
  pub form : header_form kind content ≡ Ok header
