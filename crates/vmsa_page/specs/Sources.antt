-- The VMSA that a JSON text describes, or the first refusal of it.
use Rattle.std.specs.Prelude.{ℕ, suc, ◌+◌, option_and_then, if◌then◌else◌, codes, List, [], ◌∷◌, ok_or, Option, Some, None, Result, Ok, Err}
use Rattle.serde_json.specs.Data.{Data, Items, no_items, item}
use Rattle.serde_json.specs.Find.{as_array}
use Rattle.json_forms.specs.Bind.{◌>>=◌}
use Rattle.json_forms.specs.Forms.{address, byte, short, word, has_only, optional, required}
use Rattle.json_forms.specs.Texts.{json_of}
use Rattle.vmsa_page.specs.declared.other_byte.OtherByte.{OtherByte}
use Rattle.vmsa_page.specs.declared.segment.Segment.{Segment}
use Rattle.vmsa_page.specs.declared.refusal.VmsaRefusal.{VmsaRefusal}
use Rattle.vmsa_page.specs.declared.refusal.VmsaRefusal.TheVariants as refusal
use Rattle.vmsa_page.specs.Fields.{Field, key_names, segments, numbers}
use Rattle.vmsa_page.specs.Vmsas.{VmsaParts, is_placed}
use Rattle.vmsa_page.specs.Texts.{zero_segment}

-- ---- a segment

-- a segment from its four numbers
abbrev pub segment_from : Option ℕ → Option ℕ → Option ℕ → Option ℕ → Option Segment
segment_from (Some selector) (Some attributes) (Some limit) (Some base) =
    Some (record { selector = selector; attributes = attributes; limit = limit; base = base })
segment_from (Some selector) (Some attributes) (Some limit) None = None
segment_from (Some selector) (Some attributes) None base = None
segment_from (Some selector) None limit base = None
segment_from None attributes limit base = None

-- an object with no other keys than these four, each of which may be missing
unfoldable pub segment_form : Data → Option Segment
segment_form json =
    if has_only (codes "selector" ∷ codes "attributes" ∷ codes "limit" ∷ codes "base" ∷ []) json
    then segment_from (optional short 0 (codes "selector") json) (optional short 0 (codes "attributes") json)
    (optional word 0 (codes "limit") json) (optional address 0 (codes "base") json)
    else None

-- ---- the fields

-- what stands at the names of these fields, or a default where one is missing; the first has this place in the rules
abbrev pub all_at : {A : Type 0} → (Data → Option A) → A → Data → ℕ → List Field → Result (List A) VmsaRefusal
all_at form default json place [] = Ok []
all_at form default json place (f ∷ fs) = do
  first ← ok_or (optional form default f.name json) (refusal.Field place)
  rest ← all_at form default json (suc place) fs
  Ok (first ∷ rest)

-- ---- the other bytes

-- another byte from its two numbers
abbrev pub pair_from : Option ℕ → Option ℕ → Option OtherByte
pair_from (Some at) (Some b) = Some (record { at = at; byte = b })
pair_from (Some at) None = None
pair_from None b = None

-- an object with exactly `at` and `byte`
unfoldable pub other_form : Data → Option OtherByte
other_form json =
    if has_only (codes "at" ∷ codes "byte" ∷ []) json
    then pair_from (required short (codes "at") json) (required byte (codes "byte") json) else None

-- another byte in front of others
abbrev pub and_rest : OtherByte → Option (List OtherByte) → Option (List OtherByte)
and_rest o None = None
and_rest o (Some os) = Some (o ∷ os)

-- another byte, whose place is `low` or behind that
abbrev pub other_from : ℕ → Data → Option OtherByte
other_from low json =
    option_and_then (λ o. if is_placed low o then Some o else None) (other_form json)

-- entries, each of which stands behind the ones before
abbrev pub others_in : ℕ → Items → Option (List OtherByte)
others_in low no_items = Some []
others_in low (item json entries) =
    option_and_then (λ o. and_rest o (others_in (o.at + 1) entries)) (other_from low json)

-- the entries of an array
abbrev pub others_of : Option Items → Option (List OtherByte)
others_of None = None
others_of (Some entries) = others_in 0 entries

-- an array of such objects
abbrev pub others_form : Data → Option (List OtherByte)
others_form json = others_of (as_array json)

-- ---- the whole

-- the parts in the order of their places
unfoldable pub parts_of : Data → Result VmsaParts VmsaRefusal
parts_of json = do
  ss ← all_at segment_form zero_segment json 1 segments
  ns ← all_at address 0 json 11 numbers
  os ← ok_or (optional others_form [] (codes "other") json) (refusal.Field 24)
  Ok (record { segments = ss; numbers = ns; other = os })

-- the VMSA of an object with no other keys
unfoldable pub vmsa_from : Data → Result VmsaParts VmsaRefusal
vmsa_from json = if has_only key_names json then parts_of json else Err (refusal.Field 0)

-- the VMSA that a text describes, or the first refusal of the text
unfoldable pub vmsa_source : List ℕ → Result VmsaParts VmsaRefusal
vmsa_source bytes = ok_or (json_of bytes) refusal.NotJson >>= vmsa_from
