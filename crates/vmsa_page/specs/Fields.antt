-- The named fields of a VMSA page: AMD64 Architecture Programmer's Manual, volume 2, appendix B, VMSA layout.
use Rattle.std.specs.Prelude.{ℕ, ◌+◌, ◌&&◌, Bool, nat_le, nat_lt, codes, List, [], ◌∷◌, ◌++◌, map, slice_index_or}
use Rattle.std.specs.List.{list_any}
use Rattle.vmsa_page.specs.declared.fields.Field as declared

-- a name, and the bytes of the page that it names: where they begin, and how many they are
pub record Field : Type 0 where
  pub name : List ℕ
  pub offset : ℕ
  pub width : ℕ

-- a field of the table in the code, as such a field
abbrev pub field_of : declared.Field → Field
field_of f = record { name = f.name.now; offset = f.offset; width = f.width }

-- the field of a segment register
abbrev pub segment : List ℕ → ℕ → Field
segment name offset = record { name = name; offset = offset; width = 16 }

-- the field of a number
abbrev pub number : List ℕ → ℕ → Field
number name offset = record { name = name; offset = offset; width = 8 }

-- the segments, whose places in the JSON rules are 1 to 10
abbrev pub segments : List Field
segments =
    segment (codes "es") 0x000
    ∷ segment (codes "cs") 0x010
    ∷ segment (codes "ss") 0x020
    ∷ segment (codes "ds") 0x030
    ∷ segment (codes "fs") 0x040
    ∷ segment (codes "gs") 0x050
    ∷ segment (codes "gdtr") 0x060
    ∷ segment (codes "ldtr") 0x070
    ∷ segment (codes "idtr") 0x080
    ∷ segment (codes "tr") 0x090
    ∷ []

-- the numbers, whose places in the JSON rules are 11 to 23
abbrev pub numbers : List Field
numbers =
    number (codes "efer") 0x0D0
    ∷ number (codes "cr4") 0x148
    ∷ number (codes "cr3") 0x150
    ∷ number (codes "cr0") 0x158
    ∷ number (codes "dr7") 0x160
    ∷ number (codes "dr6") 0x168
    ∷ number (codes "rflags") 0x170
    ∷ number (codes "rip") 0x178
    ∷ number (codes "rsp") 0x1D8
    ∷ number (codes "rax") 0x1F8
    ∷ number (codes "g_pat") 0x268
    ∷ number (codes "sev_features") 0x3B0
    ∷ number (codes "xcr0") 0x3E8
    ∷ []

-- all named fields, in the order of their offsets
abbrev pub fields : List Field
fields = segments ++ numbers

-- ---- places in the page

-- a place in the page lies within a field
abbrev pub is_within : Field → ℕ → Bool
is_within field at = nat_le field.offset at && nat_lt at (field.offset + field.width)

-- a place in the page lies within one of these fields
abbrev pub is_in : List Field → ℕ → Bool
is_in fs at = list_any (λ f. is_within f at) fs

-- a place in the page lies within a named field
unfoldable pub is_named : ℕ → Bool
is_named at = is_in fields at

-- ---- keys in JSON, by number: 0 to 9 are the segments, 10 to 22 the numbers, and 23 is `other`

-- all keys in the order of their numbers
abbrev pub key_names : List (List ℕ)
key_names = map (λ f. f.name) fields ++ codes "other" ∷ []

-- the key of a number
abbrev pub key_name : ℕ → List ℕ
key_name key = slice_index_or key_names key []
