-- What a component list's JSON says, or its first refusal: docs/LIST.md has the forms in words.
use Rattle.std.specs.Prelude.{ℕ, suc, ◌&&◌, nat_le, bytes_eq, false, if◌then◌else◌, codes, List, [], ◌∷◌, replicate, option_map, Option, Some, None, option_and_then, Result, Ok, Err}
use Rattle.igvm_headers.specs.Fixed.{is_version}
use Rattle.igvm_headers.specs.PlatformKinds.{platform_kind_named}
use Rattle.igvm_headers.specs.PageKinds.{page_kind_named}
use Rattle.igvm_headers.specs.ParamKinds.{param_kind_named}
use Rattle.igvm_headers.specs.declared.header.Header.{Header}
use Rattle.igvm_headers.specs.declared.header.Header.TheVariants as header
use Rattle.igvm_headers.specs.declared.page_kind.PageKind.{PageKind}
use Rattle.igvm_headers.specs.declared.page_kind.PageKind.TheVariants.{Normal}
use Rattle.igvm_headers.specs.declared.param_kind.ParamKind.{ParamKind}
use Rattle.igvm_headers.specs.declared.platform_kind.PlatformKind.{PlatformKind}
use Rattle.serde_json.specs.Data.{Data, Items, no_items, item}
use Rattle.serde_json.specs.Events.{items_len}
use Rattle.serde_json.specs.Find.{as_array, as_bool, as_str}
use Rattle.json_forms.specs.Forms.{address, byte, short, word, has_only, required, optional}
use Rattle.json_forms.specs.Texts.{json_of}
use Rattle.component_list.specs.declared.refusal.ListPart.{ListPart}
use Rattle.component_list.specs.declared.refusal.ListPart.TheVariants as part
use Rattle.component_list.specs.declared.refusal.ListRefusal.{ListRefusal}
use Rattle.component_list.specs.declared.refusal.ListRefusal.TheVariants as refusal
use Rattle.component_list.specs.declared.source.Directive.{Directive}
use Rattle.component_list.specs.declared.source.Directive.TheVariants as directive
use Rattle.component_list.specs.declared.source.PageRun.{PageRun}
use Rattle.component_list.specs.Source.{Source}
use Rattle.component_list.specs.TextForms.{file_name, hex_bytes}

-- one form, and then another that may lean on it
infixl 10 ◌>>=◌
abbrev pub ◌>>=◌ : {A B : Type 0} → Option A → (A → Option B) → Option B
None >>= f = None
Some x >>= f = f x

-- ---- kinds by their names

-- a platform kind by its name
abbrev pub platform_kind : Data → Option PlatformKind
platform_kind json = option_and_then platform_kind_named (as_str json)

-- a page kind by its name
abbrev pub page_kind : Data → Option PageKind
page_kind json = option_and_then page_kind_named (as_str json)

-- a parameter by its name
abbrev pub param_kind : Data → Option ParamKind
param_kind json = option_and_then param_kind_named (as_str json)

-- ---- entries

abbrev pub platform_keys : List (List ℕ)
platform_keys = codes "kind" ∷ codes "mask" ∷ codes "vtl" ∷ codes "version" ∷ codes "shared_gpa" ∷ []

abbrev pub platform_fields : Data → Option Header
platform_fields json = do
  kind ← required platform_kind (codes "kind") json
  mask ← required word (codes "mask") json
  vtl ← optional byte 0 (codes "vtl") json
  version ← optional short 1 (codes "version") json
  shared_gpa ← optional address 0 (codes "shared_gpa") json
  Some (header.Platform mask vtl kind version shared_gpa)

unfoldable pub platform_entry : Data → Option Header
platform_entry json = if has_only platform_keys json then platform_fields json else None

abbrev pub policy_keys : List (List ℕ)
policy_keys = codes "mask" ∷ codes "policy" ∷ []

abbrev pub policy_fields : Data → Option Header
policy_fields json = do
  mask ← required word (codes "mask") json
  policy ← required address (codes "policy") json
  Some (header.Policy policy mask)

unfoldable pub policy_entry : Data → Option Header
policy_entry json = if has_only policy_keys json then policy_fields json else None

-- what `pages` and `zero` share
unfoldable pub page_run : Data → Option PageRun
page_run json = do
  gpa ← required address (codes "gpa") json
  mask ← required word (codes "mask") json
  large ← optional as_bool false (codes "large") json
  unmeasured ← optional as_bool false (codes "unmeasured") json
  kind ← optional page_kind Normal (codes "kind") json
  Some (record { gpa = gpa; mask = mask; large = large; unmeasured = unmeasured; kind = kind })

abbrev pub pages_keys : List (List ℕ)
pages_keys =
    codes "do" ∷ codes "mask" ∷ codes "gpa" ∷ codes "file" ∷ codes "kind" ∷ codes "large" ∷ codes "unmeasured" ∷ []

unfoldable pub pages_entry : Data → Option Directive
pages_entry json = do
  run ← page_run json
  file ← required file_name (codes "file") json
  Some (directive.Pages run file)

abbrev pub zero_keys : List (List ℕ)
zero_keys =
    codes "do" ∷ codes "mask" ∷ codes "gpa" ∷ codes "count" ∷ codes "kind" ∷ codes "large" ∷ codes "unmeasured" ∷ []

-- from 1 to 524,288
abbrev pub few_pages : ℕ → Option ℕ
few_pages count = if nat_le 1 count && nat_le count 524288 then Some count else None

abbrev pub page_count : Data → Option ℕ
page_count json = option_and_then few_pages (word json)

unfoldable pub zero_entry : Data → Option Directive
zero_entry json = do
  run ← page_run json
  count ← required page_count (codes "count") json
  Some (directive.Zeros run count)

-- a file that may be missing
abbrev pub some_file : Data → Option (Option (List ℕ))
some_file json = option_map (λ name. Some name) (file_name json)

abbrev pub area_keys : List (List ℕ)
area_keys = codes "do" ∷ codes "index" ∷ codes "bytes" ∷ codes "file" ∷ []

unfoldable pub area_entry : Data → Option Directive
area_entry json = do
  area ← required word (codes "index") json
  bytes ← required word (codes "bytes") json
  file ← optional some_file None (codes "file") json
  Some (directive.Area area bytes file)

abbrev pub context_keys : List (List ℕ)
context_keys = codes "do" ∷ codes "mask" ∷ codes "gpa" ∷ codes "vp" ∷ codes "file" ∷ []

unfoldable pub context_entry : Data → Option Directive
context_entry json = do
  gpa ← required address (codes "gpa") json
  mask ← required word (codes "mask") json
  vp ← required short (codes "vp") json
  file ← optional some_file None (codes "file") json
  Some (directive.Context gpa mask vp file)

-- a header with neither data nor bytes that are carried unread
abbrev pub plain : Header → Directive
plain header' = directive.Plain header' []

abbrev pub param_keys : List (List ℕ)
param_keys = codes "do" ∷ codes "kind" ∷ codes "area" ∷ codes "offset" ∷ []

unfoldable pub param_fields : Data → Option Header
param_fields json = do
  kind ← required param_kind (codes "kind") json
  area ← required word (codes "area") json
  offset ← required word (codes "offset") json
  Some (header.Param kind area offset)

abbrev pub insert_keys : List (List ℕ)
insert_keys = codes "do" ∷ codes "mask" ∷ codes "gpa" ∷ codes "area" ∷ []

unfoldable pub insert_fields : Data → Option Header
insert_fields json = do
  gpa ← required address (codes "gpa") json
  mask ← required word (codes "mask") json
  area ← required word (codes "area") json
  Some (header.Insert gpa mask area)

abbrev pub required_keys : List (List ℕ)
required_keys = codes "do" ∷ codes "mask" ∷ codes "gpa" ∷ codes "bytes" ∷ codes "flags" ∷ []

unfoldable pub required_fields : Data → Option Header
required_fields json = do
  gpa ← required address (codes "gpa") json
  mask ← required word (codes "mask") json
  bytes ← required word (codes "bytes") json
  flags ← optional word 0 (codes "flags") json
  Some (header.Required gpa mask bytes flags)

abbrev pub error_range_keys : List (List ℕ)
error_range_keys = codes "do" ∷ codes "mask" ∷ codes "gpa" ∷ codes "bytes" ∷ []

unfoldable pub error_range_fields : Data → Option Header
error_range_fields json = do
  gpa ← required address (codes "gpa") json
  mask ← required word (codes "mask") json
  bytes ← required word (codes "bytes") json
  Some (header.ErrorRange gpa mask bytes)

abbrev pub id_block_keys : List (List ℕ)
id_block_keys =
    codes "do" ∷ codes "mask" ∷ codes "ld" ∷ codes "family_id" ∷ codes "image_id" ∷ codes "version" ∷ codes "guest_svn"
    ∷ codes "id_algorithm" ∷ codes "author_algorithm" ∷ codes "author_enabled" ∷ codes "keys" ∷ []

-- so many zeros
unfoldable pub zeros : ℕ → List ℕ
zeros n = replicate n 0

unfoldable pub id_block_fields : Data → Option Header
id_block_fields json = do
  mask ← required word (codes "mask") json
  ld ← required (hex_bytes 48) (codes "ld") json
  family_id ← optional (hex_bytes 16) (zeros 16) (codes "family_id") json
  image_id ← optional (hex_bytes 16) (zeros 16) (codes "image_id") json
  version ← optional word 0 (codes "version") json
  guest_svn ← optional word 0 (codes "guest_svn") json
  id_algorithm ← optional word 0 (codes "id_algorithm") json
  author_algorithm ← optional word 0 (codes "author_algorithm") json
  author_enabled ← optional byte 0 (codes "author_enabled") json
  Some (header.IdBlock mask author_enabled ld family_id image_id version guest_svn id_algorithm author_algorithm)

unfoldable pub id_block_entry : Data → Option Directive
id_block_entry json = do
  header' ← id_block_fields json
  keys ← optional (hex_bytes 592) (zeros 592) (codes "keys") json
  Some (directive.Plain header' keys)

-- the entry of one word at `do`, where it has no keys but these
abbrev pub entry_form : List (List ℕ) → (Data → Option Directive) → Data → Option Directive
entry_form keys form json = if has_only keys json then form json else None

abbrev pub plain_form : (Data → Option Header) → Data → Option Directive
plain_form form json = option_map plain (form json)

unfoldable pub directive_by : List ℕ → Data → Option Directive
directive_by word' json =
    if bytes_eq word' (codes "pages") then entry_form pages_keys pages_entry json else
    if bytes_eq word' (codes "zero") then entry_form zero_keys zero_entry json else
    if bytes_eq word' (codes "area") then entry_form area_keys area_entry json else
    if bytes_eq word' (codes "param") then entry_form param_keys (plain_form param_fields) json else
    if bytes_eq word' (codes "insert") then entry_form insert_keys (plain_form insert_fields) json else
    if bytes_eq word' (codes "context") then entry_form context_keys context_entry json else
    if bytes_eq word' (codes "required") then entry_form required_keys (plain_form required_fields) json else
    if bytes_eq word' (codes "error_range") then entry_form error_range_keys (plain_form error_range_fields) json else
    if bytes_eq word' (codes "id_block") then entry_form id_block_keys id_block_entry json else
    None

unfoldable pub directive_entry : Data → Option Directive
directive_entry json = option_and_then (λ word'. directive_by word' json) (required as_str (codes "do") json)

-- ---- the whole

-- an entry before the others, or the refusal of its item
abbrev pub before : {A : Type 0} → ListRefusal → Option A → Result (List A) ListRefusal → Result (List A) ListRefusal
before refused None others = Err refused
before refused (Some entry) (Ok entries) = Ok (entry ∷ entries)
before refused (Some entry) (Err e) = Err e

-- the entries of a list, the first of which has this number, or the first that has not its form
abbrev pub entries_from : {A : Type 0} → (Data → Option A) → ListPart → ℕ → Items → Result (List A) ListRefusal
entries_from form part' number no_items = Ok []
entries_from form part' number (item json others) =
    before (refusal.Field part' number) (form json) (entries_from form part' (suc number) others)

abbrev pub entries_of : {A : Type 0} → (Data → Option A) → ListPart → Items → Result (List A) ListRefusal
entries_of form part' items = entries_from form part' 0 items

-- the version of the format, which may be missing, and the three arrays, of which `policies` may be missing
pub record ListFields : Type 0 where
  pub version : ℕ
  pub platforms : Items
  pub policies : Items
  pub directives : Items

-- the keys that the object may have
abbrev pub top_keys : List (List ℕ)
top_keys = codes "version" ∷ codes "platforms" ∷ codes "policies" ∷ codes "directives" ∷ []

-- a version of the format: 1 or 2
abbrev pub known_version : ℕ → Option ℕ
known_version number = if is_version number then Some number else None

-- the version of the format, as a number of 32 bits
abbrev pub format_version : Data → Option ℕ
format_version json = option_and_then known_version (word json)

-- An array. A text of at most 16,777,216 bytes has no more entries than that.
abbrev pub few_entries : Items → Option Items
few_entries items = if nat_le (items_len items) 16777216 then Some items else None

abbrev pub entries : Data → Option Items
entries json = option_and_then few_entries (as_array json)

abbrev pub known_fields : Data → Option ListFields
known_fields json = do
  version ← optional format_version 1 (codes "version") json
  platforms ← required entries (codes "platforms") json
  policies ← optional entries no_items (codes "policies") json
  directives ← required entries (codes "directives") json
  Some (record { version = version; platforms = platforms; policies = policies; directives = directives })

unfoldable pub fields_of : Data → Option ListFields
fields_of json = if has_only top_keys json then known_fields json else None

-- the parts in their order
abbrev pub and_directives : ℕ → List Header → List Header → Result (List Directive) ListRefusal → Result Source ListRefusal
and_directives version platforms policies (Ok directives) =
    Ok (record { version = version; platforms = platforms; policies = policies; directives = directives })
and_directives version platforms policies (Err e) = Err e

abbrev pub and_policies : List Header → ListFields → Result (List Header) ListRefusal → Result Source ListRefusal
and_policies platforms fields (Ok policies) =
    and_directives fields.version platforms policies (entries_of directive_entry part.Directives fields.directives)
and_policies platforms fields (Err e) = Err e

abbrev pub and_platforms : ListFields → Result (List Header) ListRefusal → Result Source ListRefusal
and_platforms fields (Ok platforms) =
    and_policies platforms fields (entries_of policy_entry part.Policies fields.policies)
and_platforms fields (Err e) = Err e

abbrev pub source_in : Option ListFields → Result Source ListRefusal
source_in None = Err (refusal.Field part.Top 0)
source_in (Some fields) = and_platforms fields (entries_of platform_entry part.Platforms fields.platforms)

unfoldable pub source_from : Data → Result Source ListRefusal
source_from json = source_in (fields_of json)

abbrev pub source_by : Option Data → Result Source ListRefusal
source_by None = Err refusal.NotJson
source_by (Some json) = source_from json

-- the entries that a text says, or its first refusal
unfoldable pub source_of : List ℕ → Result Source ListRefusal
source_of bytes = source_by (json_of bytes)
