-- The JSON text of a VMSA.
use Rattle.std.specs.Prelude.{ℕ, ◌-◌, ◌&&◌, ◌==◌, Bool, false, if◌then◌else◌, nat_lt, codes, List, [], ◌∷◌, ◌++◌, slice_index, slice_index_or, Option, Some, None}
use Rattle.std.specs.Fmt.{digits}
use Rattle.serde_json.specs.Data.{Data, Items, no_items, item, Members, no_members, member, unsigned}
use Rattle.serde_json.specs.Data as data_
use Rattle.serde_json.specs.Written.{compact_text}
use Rattle.vmsa_page.specs.declared.other_byte.OtherByte.{OtherByte}
use Rattle.vmsa_page.specs.declared.segment.Segment.{Segment}
use Rattle.vmsa_page.specs.Fields.{key_name}
use Rattle.vmsa_page.specs.Vmsas.{VmsaParts}

-- `0x` and hexadecimal digits in lower case without leading zeros
unfoldable pub address_text : ℕ → List ℕ
address_text n = codes "0x" ++ digits 16 false n

-- a text of that form
abbrev pub address_data : ℕ → Data
address_data n = data_.string (address_text n)

-- a number in decimal
abbrev pub number_data : ℕ → Data
number_data n = data_.number (unsigned n)

-- ---- what stands at each key

-- a segment of zeros
abbrev pub zero_segment : Segment
zero_segment = record { selector = 0; attributes = 0; limit = 0; base = 0 }

-- all of a segment is zero
abbrev pub is_zero : Segment → Bool
is_zero s = (s.selector == 0) && (s.attributes == 0) && (s.limit == 0) && (s.base == 0)

-- all four keys of a segment
abbrev pub segment_data : Segment → Data
segment_data s =
    data_.object (member (codes "attributes") (number_data s.attributes) (member (codes "base") (address_data s.base)
    (member (codes "limit") (number_data s.limit) (member (codes "selector") (number_data s.selector) no_members))))

-- a segment, or nothing where it is all zero
abbrev pub segment_part : Segment → Option Data
segment_part s = if is_zero s then None else Some (segment_data s)

-- a number, or nothing where it is 0
abbrev pub number_part : ℕ → Option Data
number_part n = if n == 0 then None else Some (address_data n)

-- another byte, and its place
abbrev pub other_data : OtherByte → Data
other_data o = data_.object (member (codes "at") (number_data o.at) (member (codes "byte") (number_data o.byte) no_members))

-- the items of these bytes
abbrev pub other_items : List OtherByte → Items
other_items [] = no_items
other_items (o ∷ os) = item (other_data o) (other_items os)

-- an array of these bytes, or nothing where there are none
abbrev pub other_part : List OtherByte → Option Data
other_part [] = None
other_part (o ∷ os) = Some (data_.array (other_items (o ∷ os)))

-- ---- the members, by the numbers of their keys

-- all keys in rising order of their bytes: cr0, cr3, cr4, cs, dr6, dr7, ds, efer, es, fs, g_pat, gdtr, gs, idtr, ldtr,
-- other, rax, rflags, rip, rsp, sev_features, ss, tr, xcr0
abbrev pub key_order : List ℕ
key_order =
    13 ∷ 12 ∷ 11 ∷ 1 ∷ 15 ∷ 14 ∷ 3 ∷ 10 ∷ 0 ∷ 4 ∷ 20 ∷ 6 ∷ 5 ∷ 8 ∷ 7 ∷ 23 ∷ 19 ∷ 16 ∷ 17 ∷ 18 ∷ 21 ∷ 2 ∷ 9 ∷ 22 ∷ []

-- what stands at a key, or nothing where that is zero
unfoldable pub part_of : VmsaParts → ℕ → Option Data
part_of v key =
    if nat_lt key 10 then segment_part (slice_index_or v.segments key zero_segment)
    else (if nat_lt key 23 then number_part (slice_index v.numbers (key - 10)) else other_part v.other)

-- a member in front of others, where something stands at its key
abbrev pub member_if : List ℕ → Option Data → Members → Members
member_if key None members = members
member_if key (Some json) members = member key json members

-- the members of these keys
abbrev pub members_of : VmsaParts → List ℕ → Members
members_of v [] = no_members
members_of v (key ∷ keys) = member_if (key_name key) (part_of v key) (members_of v keys)

-- the object of a VMSA
unfoldable pub vmsa_data : VmsaParts → Data
vmsa_data v = data_.object (members_of v key_order)

-- its compact text
unfoldable pub vmsa_json : VmsaParts → List ℕ
vmsa_json v = compact_text (vmsa_data v)
