-- The pages file: what a launch machine holds, in records of 4,112 bytes. Numbers are little-endian.
use Rattle.std.specs.Prelude.{ℕ, List, [], ◌∷◌, ◌++◌, replicate, Option, Some, None}
use Rattle.std.specs.List.{flat_map}
use Rattle.igvm_headers.specs.Endian.{little_bytes}
use Rattle.igvm_headers.specs.declared.tag.Tag.{Tag}
use Rattle.igvm_headers.specs.declared.tag.Tag.TheVariants.{Normal, Unmeasured, Secrets, Cpuid, Zero}
use Rattle.launch_platform.specs.Machine.{Entry, Context}

-- The number of a page's kind, by the tag by which it was added. A page that was placed alone has none, and 255 stands
-- for it.
abbrev pub tag_number : Option Tag → ℕ
tag_number (Some Normal) = 0
tag_number (Some Unmeasured) = 1
tag_number (Some Secrets) = 2
tag_number (Some Cpuid) = 3
tag_number (Some Zero) = 4
tag_number None = 255

-- A record: the address (8), the kind (1), a zero, the processor (2), 4 zeros, and the page (4,096).
unfoldable pub record_bytes : (gpa kind vp : ℕ) → List ℕ → List ℕ
record_bytes gpa kind vp page =
    little_bytes 8 gpa ++ (kind ∷ 0 ∷ []) ++ little_bytes 2 vp ++ replicate 4 0 ++ page

-- the record of a page: no processor has it
abbrev pub entry_record : Entry → List ℕ
entry_record entry = record_bytes entry.gpa (tag_number entry.tag) 0 entry.page

-- the record of a context, whose kind is 5
abbrev pub context_record : Context → List ℕ
context_record context = record_bytes context.gpa 5 context.vp context.page

-- the pages file of these pages and contexts: a record for each page, in their order, then one for each context
abbrev pub pages_file : List Entry → List Context → List ℕ
pages_file entries contexts = flat_map entry_record entries ++ flat_map context_record contexts
