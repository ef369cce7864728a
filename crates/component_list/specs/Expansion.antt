-- The components of a list, where its files hold these bytes, or the first refusal: docs/LIST.md has the order in
-- words.
use Rattle.std.specs.Prelude.{◌≡◌, ◌<◌, ◌≤◌, true, is_some, take, option_and_then, slice_get, ℕ, suc, ◌+◌, ◌-◌, ◌*◌, ◌/◌, ◌^◌, List, [], ◌∷◌, ◌++◌, length, map, replicate, position, nat_lt, if◌then◌else◌, Bool, false, Option, Some, None, Result, Ok, Err, IsOk}
use Rattle.std.specs.FinMap as finite
use Rattle.std.specs.List.{range_with_len, list_any}
use Rattle.igvm_headers.specs.FaultCounts.{Rose}
use Rattle.igvm_headers.specs.Numbers.{slice}
use Rattle.igvm_headers.specs.Pages.{page_bytes, small_pages}
use Rattle.igvm_headers.specs.HeaderFacts.{with_offset}
use Rattle.igvm_headers.specs.declared.header.Header.{Header}
use Rattle.igvm_headers.specs.declared.header.Header.TheVariants as header
use Rattle.igvm_headers.specs.declared.fault.ReadWhat.{ReadWhat}
use Rattle.igvm_headers.specs.declared.fault.ReadWhat.TheVariants.{Length, Wrap, TooManyPages}
use Rattle.igvm_outside.specs.Files.{Files}
use Rattle.component_list.specs.declared.component.Component.{Component}
use Rattle.component_list.specs.declared.component.Content.{Content}
use Rattle.component_list.specs.declared.component.Content.TheVariants.{Nothing, Zero, Bytes}
use Rattle.component_list.specs.declared.list_fault.ListFault.{ListFault}
use Rattle.component_list.specs.declared.refusal.ListPart.{ListPart}
use Rattle.component_list.specs.declared.refusal.ListPart.TheVariants.{Platforms, Policies, Directives}
use Rattle.component_list.specs.declared.refusal.ExpandRefusal.{ExpandRefusal}
use Rattle.component_list.specs.declared.refusal.ExpandRefusal.TheVariants.{Read, TooLong, TooLarge, Rule, Memory}
use Rattle.component_list.specs.declared.source.Directive.{Directive}
use Rattle.component_list.specs.declared.source.Directive.TheVariants.{Pages, Zeros, Area, Context, Plain}
use Rattle.component_list.specs.declared.source.PageRun.{PageRun}
use Rattle.component_list.specs.Lists.{ImageParts, list_fault}
use Rattle.component_list.specs.Source.{Source}

-- one step, and then the next
infixl 10 ◌>>=◌
abbrev pub ◌>>=◌ : {A B : Type 0} → Result A ExpandRefusal → (A → Result B ExpandRefusal) → Result B ExpandRefusal
Ok x >>= f = f x
Err e >>= f = Err e

-- ---- a directive's file

-- the name of the file, where there is one
abbrev pub file_of : Directive → Option (List ℕ)
file_of (Pages run file) = Some file
file_of (Zeros run count) = None
file_of (Area area bytes file) = file
file_of (Context gpa mask vp file) = file
file_of (Plain header' tail) = None

-- the bytes of a file that is there, at most 536,870,912 of them
abbrev pub file_bytes : ℕ → Option (List ℕ) → Result (Option (List ℕ)) ExpandRefusal
file_bytes item None = Err (Read item)
file_bytes item (Some bytes) = if nat_lt 536870912 (length bytes) then Err (TooLong item) else Ok (Some bytes)

-- what a name gives
abbrev pub given_by : Files → ℕ → Option (List ℕ) → Result (Option (List ℕ)) ExpandRefusal
given_by files item None = Ok None
given_by files item (Some name) = file_bytes item (finite.get files name)

-- ---- what a directive with its file adds

-- the least number of pages that hold so many bytes
abbrev pub pages_for : PageRun → ℕ → ℕ
pages_for run size = (size + (page_bytes run.large - 1)) / page_bytes run.large

-- the bytes of a file, where there is one
abbrev pub bytes_or_none : Option (List ℕ) → List ℕ
bytes_or_none None = []
bytes_or_none (Some bytes) = bytes

-- these bytes, followed by zeros up to a size
unfoldable pub padded : ℕ → List ℕ → List ℕ
padded size bytes = bytes ++ replicate (size - length bytes) 0

-- page k of a run, with its data
unfoldable pub page_at : PageRun → ℕ → Content → Component
page_at run k content = record {
  header = header.Page (run.gpa + page_bytes run.large * k) run.mask 0 run.large run.unmeasured run.kind;
  tail = [];
  content = content;
}

-- so many pages of a run
abbrev pub page_parts : PageRun → (ℕ → Content) → ℕ → List Component
page_parts run content count = map (λ k. page_at run k (content k)) (range_with_len 0 count)

-- page k of a file's bytes
unfoldable pub piece_of : ℕ → List ℕ → ℕ → Content
piece_of size bytes k = Bytes (padded size (slice bytes (size * k) size))

abbrev pub all_zero : ℕ → Content
all_zero k = Zero

-- data of a size: zeros, or a file's bytes
abbrev pub filled : ℕ → Option (List ℕ) → Content
filled size None = Zero
filled size (Some bytes) = Bytes (padded size bytes)

abbrev pub one_part : Header → List ℕ → Content → List Component
one_part header' tail content = record { header = header'; tail = tail; content = content } ∷ []

abbrev pub parts_of : Directive → Option (List ℕ) → List Component
parts_of (Pages run name) file =
    page_parts run (piece_of (page_bytes run.large) (bytes_or_none file)) (pages_for run (length (bytes_or_none file)))
parts_of (Zeros run count) file = page_parts run all_zero count
parts_of (Area area bytes name) file = one_part (header.Area bytes area 0) [] (filled bytes file)
parts_of (Context gpa mask vp name) file = one_part (header.Context gpa mask 0 vp) [] (filled 4096 file)
parts_of (Plain header' tail) file = one_part (with_offset 0 header') tail Nothing

-- the file is longer than what it is to fill
abbrev pub is_longer : ℕ → Option (List ℕ) → Bool
is_longer size None = false
is_longer size (Some bytes) = nat_lt size (length bytes)

abbrev pub breaks_size : Directive → Option (List ℕ) → Bool
breaks_size (Area area bytes name) file = is_longer bytes file
breaks_size (Context gpa mask vp name) file = is_longer 4096 file
breaks_size _ file = false

-- so many pages from an address on pass the end of the address space
abbrev pub passes_end : PageRun → ℕ → Bool
passes_end run count = nat_lt (2 ^ 64) (run.gpa + page_bytes run.large * count)

abbrev pub breaks_end : Directive → Option (List ℕ) → Bool
breaks_end (Pages run name) file = passes_end run (pages_for run (length (bytes_or_none file)))
breaks_end (Zeros run count) file = passes_end run count
breaks_end _ file = false

-- how many pages of 4 KB it names
abbrev pub pages_named : Directive → Option (List ℕ) → ℕ
pages_named (Pages run name) file = small_pages run.large * pages_for run (length (bytes_or_none file))
pages_named (Zeros run count) file = small_pages run.large * count
pages_named _ file = 0

-- the bytes of its contents
abbrev pub size_if : ℕ → Option (List ℕ) → ℕ
size_if size None = 0
size_if size (Some bytes) = size

abbrev pub content_bytes : Directive → Option (List ℕ) → ℕ
content_bytes (Pages run name) file = page_bytes run.large * pages_for run (length (bytes_or_none file))
content_bytes (Area area bytes name) file = size_if bytes file
content_bytes (Context gpa mask vp name) file = size_if 4096 file
content_bytes _ file = 0

-- ---- the directives in order

-- what is expanded so far: the components, how many they were behind each directive, the pages of 4 KB that `pages`
-- and `zero` name, and the bytes of all contents
pub record Progress : Type 0 where
  pub parts : List Component
  pub ends : List ℕ
  pub pages : ℕ
  pub bytes : ℕ

abbrev pub with_added : Directive → Option (List ℕ) → Progress → Progress
with_added d file p = record {
  parts = p.parts ++ parts_of d file;
  ends = p.ends ++ length (p.parts ++ parts_of d file) ∷ [];
  pages = p.pages + pages_named d file;
  bytes = p.bytes + content_bytes d file;
}

-- one directive more, or the first of its rules that fails
unfoldable pub added : ℕ → Directive → Option (List ℕ) → Progress → Result Progress ExpandRefusal
added item d file p =
    if breaks_size d file then Err (Rule Directives item Length) else
    if breaks_end d file then Err (Rule Directives item Wrap) else
    if nat_lt 4194304 (p.pages + pages_named d file) then Err (Rule Directives item TooManyPages) else
    if nat_lt 1073741824 (p.bytes + content_bytes d file) then Err (TooLarge item) else
    Ok (with_added d file p)

-- the directives from one on
abbrev pub expanded_from : Files → ℕ → List Directive → Progress → Result Progress ExpandRefusal
expanded_from files item [] p = Ok p
expanded_from files item (d ∷ ds) p =
    given_by files item (file_of d) >>= λ file. added item d file p >>= expanded_from files (suc item) ds

-- the components of headers without data
abbrev pub plain_part : Header → Component
plain_part header' = record { header = with_offset 0 header'; tail = []; content = Nothing }

abbrev pub begun : Source → Progress
begun source = record {
  parts = map plain_part source.platforms ++ map plain_part source.policies;
  ends = [];
  pages = 0;
  bytes = 0;
}

-- ---- the rules on the whole list

-- the directive that a component came from; the lack of a platform is that of the first
abbrev pub of_directive : Option ℕ → ListPart × ℕ
of_directive None = (Platforms, 0)
of_directive (Some item) = (Directives, item)

-- the entry that a component came from
unfoldable pub origin : Source → List ℕ → ℕ → ListPart × ℕ
origin source ends place =
    if nat_lt place (length source.platforms) then (Platforms, place) else
    if nat_lt place (length source.platforms + length source.policies)
    then (Policies, place - length source.platforms) else
    of_directive (position (λ end. nat_lt place end) ends)

abbrev pub rule_at : ListPart × ℕ → ReadWhat → ExpandRefusal
rule_at entry what = Rule entry.0 entry.1 what

abbrev pub unless_faulty : Source → Progress → Option ListFault → Result ImageParts ExpandRefusal
unless_faulty source p None = Ok (record { version = source.version; parts = p.parts })
unless_faulty source p (Some fault) = Err (rule_at (origin source p.ends fault.place) fault.what)

unfoldable pub judged : Source → Progress → Result ImageParts ExpandRefusal
judged source p = unless_faulty source p (list_fault p.parts)

-- the list that the entries make, with their version
unfoldable pub expand_of : Source → Files → Result ImageParts ExpandRefusal
expand_of source files = expanded_from files 0 source.directives (begun source) >>= judged source

-- ---- when a refusal comes

-- a refusal that follows from what the files hold
abbrev pub FollowsFiles : ExpandRefusal → Type 0
FollowsFiles (Read item) = ⊥
FollowsFiles Memory = ⊥
FollowsFiles _ = Unit {0}

-- a refusal of one directive for its rules, or want of memory
abbrev pub IsOfDirective : ℕ → ExpandRefusal → Type 0
IsOfDirective item (Rule part number what) = (part ≡ Directives) × (number ≡ item)
IsOfDirective item (TooLarge number) = number ≡ item
IsOfDirective item Memory = Unit {0}
IsOfDirective item _ = ⊥

-- a refusal by a rule
abbrev pub IsRule : ExpandRefusal → Type 0
IsRule (Rule part item what) = Unit {0}
IsRule _ = ⊥

-- a file that is not read is that of its directive, and its count rose
abbrev pub ReadHasCause : List Directive → (List ℕ → ℕ) → (List ℕ → ℕ) → ExpandRefusal → Type 0
ReadHasCause directives before now (Read item) =
    (name : List ℕ) × (option_and_then file_of (slice_get directives item) ≡ Some name) × Rose (before name) (now name)
ReadHasCause directives before now _ = Unit {0}

-- the directives before an entry expand
abbrev pub BeforeExpands : Source → Files → ℕ → Type 0
BeforeExpands source files item = IsOk (expanded_from files 0 (take item source.directives) (begun source))

-- a file is read only where the directives before its own expand
abbrev pub IsReached : Source → Files → ExpandRefusal → Type 0
IsReached source files (Read item) = BeforeExpands source files item
IsReached source files _ = Unit {0}

-- some directive names a file
abbrev pub names_file : List Directive → Bool
names_file directives = list_any (λ d. is_some (file_of d)) directives

-- how many directives were looked at before a refusal
abbrev pub looked_at : ListPart → ℕ → ℕ
looked_at Directives item = suc item
looked_at _ item = 0

-- What the shelf gave for the file opened last tells a file that is too long from the other refusals.
abbrev pub IsGivenRight : List Directive → ℕ → ExpandRefusal → Type 0
IsGivenRight directives given (Read item) = Unit {0}
IsGivenRight directives given (TooLong item) = 536870912 < given
IsGivenRight directives given (TooLarge item) =
    names_file (take (suc item) directives) ≡ true → given ≤ 536870912
IsGivenRight directives given (Rule part item what) =
    names_file (take (looked_at part item) directives) ≡ true → given ≤ 536870912
IsGivenRight directives given Memory = Unit {0}
