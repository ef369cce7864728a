-- Jobs that begin with a component list: it is read, expanded, and then something is made of its components.
use Rattle.std.specs.Prelude.{◌≡◌, ℕ, ◌<◌, ◌≤◌, ◌⊎◌, List, length, nat_lt, if◌then◌else◌, true, false, Option, Some, None, IfSome, slice_get, option_and_then, Result, Ok, Err}
use Rattle.std.specs.FinMap as map
use Rattle.igvm_outside.specs.Files.{Files, content}
use Rattle.component_list.specs.Lists.{ImageParts}
use Rattle.component_list.specs.declared.refusal.ListRefusal.{ListRefusal}
use Rattle.component_list.specs.declared.refusal.ListRefusal.TheVariants as reading
use Rattle.component_list.specs.declared.refusal.ExpandRefusal.{ExpandRefusal}
use Rattle.component_list.specs.declared.refusal.ExpandRefusal.TheVariants as expand
use Rattle.component_list.specs.Source.{Source}
use Rattle.component_list.specs.ListForms.{source_of}
use Rattle.component_list.specs.Expansion.{expand_of, file_of, BeforeExpands}
use Rattle.igvm_jobs.specs.declared.status.Status.TheVariants as is
use Rattle.igvm_jobs.specs.Texts.{shelf_text, memory_text, long_list_text, long_blob_text, large_data_text, not_json_text, part_text, field_text, entry_text}
use Rattle.igvm_jobs.specs.Outcome.{Outcome, refused}
use Rattle.igvm_jobs.specs.Tasks.{Task}
use Rattle.igvm_jobs.specs.ImageFiles.{file_limit}

-- the most bytes that a component list's text may have
abbrev pub list_limit : ℕ
list_limit = 16777216

-- ---- the outcome

-- of a list that is not read
abbrev pub list_refused : ListRefusal → Outcome
list_refused reading.NotJson = refused is.Json not_json_text
list_refused (reading.Field part item) = refused is.Json (field_text (part_text part) item)
list_refused reading.Memory = refused is.Memory memory_text

-- of a list that is not expanded
abbrev pub expand_refused : ExpandRefusal → Outcome
expand_refused (expand.Read item) = refused is.Outside shelf_text
expand_refused (expand.TooLong item) = refused is.Limit long_blob_text
expand_refused (expand.TooLarge item) = refused is.Limit large_data_text
expand_refused (expand.Rule part item what) = refused is.Json (entry_text part item what)
expand_refused expand.Memory = refused is.Memory memory_text

-- of the entries of a list; `next` says what becomes of its components
abbrev pub expanded_outcome : (ImageParts → Outcome) → Result (ImageParts) ExpandRefusal → Outcome
expanded_outcome next (Ok parts) = next parts
expanded_outcome next (Err refusal) = expand_refused refusal

-- of a list as its text is read
abbrev pub source_outcome : Files → (ImageParts → Outcome) → Result Source ListRefusal → Outcome
source_outcome files next (Ok source) = expanded_outcome next (expand_of source files)
source_outcome files next (Err refusal) = list_refused refusal

-- of the text of a list
unfoldable pub text_outcome : Files → (ImageParts → Outcome) → List ℕ → Outcome
text_outcome files next bytes =
    if nat_lt list_limit (length bytes) then refused is.Limit long_list_text
    else source_outcome files next (source_of bytes)

-- a list that is not there is a fault of the shelf
abbrev pub list_outcome : Files → (ImageParts → Outcome) → Option (List ℕ) → Outcome
list_outcome files next None = refused is.Outside shelf_text
list_outcome files next (Some bytes) = text_outcome files next bytes

-- ---- whatever is told

-- some text of a list, as long as was given, is not read
abbrev pub IsUnread : ℕ → Outcome → Type 0
IsUnread given outcome =
    (text : List ℕ) × (length text ≡ given) × (given ≤ list_limit)
    × ((refusal : ListRefusal) × (source_of text ≡ Err refusal) × (outcome ≡ list_refused refusal))

-- what the file that was read last gave, by the refusal of a list that is not expanded
abbrev pub IsGivenTo : ExpandRefusal → ℕ → Type 0
IsGivenTo (expand.TooLong item) given = file_limit < given
IsGivenTo _ given = Unit {0}

-- some list is not expanded
abbrev pub IsUnexpanded : ℕ → Outcome → Type 0
IsUnexpanded given outcome =
    (refusal : ExpandRefusal) × IsGivenTo refusal given × (outcome ≡ expand_refused refusal)

-- the list is too long, or it is not read, or not expanded
abbrev pub IsListRefused : ℕ → Outcome → Type 0
IsListRefused given outcome =
    ((list_limit < given) × (outcome ≡ refused is.Limit long_list_text)) ⊎ IsUnread given outcome ⊎ IsUnexpanded given outcome

-- ---- the files that may be read

-- a directive of a list names a file, and those before it expand
abbrev pub IsNamedIn : Files → Result Source ListRefusal → List ℕ → Type 0
IsNamedIn files (Err refusal) name = ⊥
IsNamedIn files (Ok source) name =
    (item : ℕ) × (option_and_then file_of (slice_get source.directives item) ≡ Some name)
    × BeforeExpands source files item

-- a file that a text of a list comes to; a text above its limit comes to none
abbrev pub IsNamedBy : Files → List ℕ → List ℕ → Type 0
IsNamedBy files text name = (length text ≤ list_limit) × IsNamedIn files (source_of text) name

-- a file that a list comes to; any, where the files are not told
abbrev pub IsNamed : Option Files → List ℕ → List ℕ → Type 0
IsNamed told list name = IfSome told (λ files. IsNamedBy files (content files list) name)

-- ---- a part of a job

-- What a list decides by itself, where `next` says what becomes of its components. A job that begins with a list gives all
-- that this part gives, and reads all that it reads.
abbrev pub list_part : List ℕ → (ImageParts → Outcome) → Task
list_part list next =
    record {
      meant = true;
      outcome = λ files. list_outcome files next (map.get files list);
      can_give = IsListRefused;
      reads = λ told name. (name ≡ list) ⊎ IsNamed told list name;
      writes = λ name. ⊥;
      launches = false;
      early = false;
    }
