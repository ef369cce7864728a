-- What the expansion of a list is, in words. Each directive passes where its file is there and no longer than may be,
-- its size and its end fit, and the sums up to it stay within both limits. Where all pass, their components stand in
-- order; else the first that doesn't pass is refused by the first of these steps that fails.
use Rattle.std.specs.Prelude.{◌≡◌, ◌<◌, ℕ, suc, List, [], ◌∷◌, ◌++◌, length, map, take, nat_lt, is_some, is_none, ◌&&◌, if◌then◌else◌, Bool, Option, Some, None, option_and_then, sum_by}
use Rattle.std.specs.FinMap as finite
use Rattle.std.specs.List.{slice_get, flat_map, range_with_len}
use Rattle.igvm_headers.specs.declared.fault.ReadWhat.TheVariants.{Length, Wrap, TooManyPages}
use Rattle.igvm_outside.specs.Files.{Files}
use Rattle.component_list.specs.declared.component.Component.{Component}
use Rattle.component_list.specs.declared.refusal.ListPart.TheVariants.{Directives}
use Rattle.component_list.specs.declared.refusal.ExpandRefusal.{ExpandRefusal}
use Rattle.component_list.specs.declared.refusal.ExpandRefusal.TheVariants.{Read, TooLong, TooLarge, Rule}
use Rattle.component_list.specs.declared.source.Directive.{Directive}
use Rattle.component_list.specs.Expansion.{Progress, begun, breaks_end, breaks_size, bytes_or_none, content_bytes, file_of, pages_named, parts_of}
use Rattle.component_list.specs.Source.{Source}

-- the bytes of a directive's file, where it names one that is there
abbrev pub file_in : Files → Directive → Option (List ℕ)
file_in files d = option_and_then (finite.get files) (file_of d)

-- it names a file that isn't there
abbrev pub is_missing : Files → Directive → Bool
is_missing files d = is_some (file_of d) && is_none (file_in files d)

-- its file has more bytes than it may have
abbrev pub is_too_long : Files → Directive → Bool
is_too_long files d = nat_lt 536870912 (length (bytes_or_none (file_in files d)))

-- the pages of 4 KB that these directives name together
abbrev pub pages_in : Files → List Directive → ℕ
pages_in files ds = sum_by (λ d. pages_named d (file_in files d)) ds

-- the bytes of all their contents
abbrev pub bytes_in : Files → List Directive → ℕ
bytes_in files ds = sum_by (λ d. content_bytes d (file_in files d)) ds

-- the first step that fails at a directive behind others
abbrev pub step_fault : Files → List Directive → ℕ → Directive → Option ExpandRefusal
step_fault files before item d =
    if is_missing files d then Some (Read item) else
    if is_too_long files d then Some (TooLong item) else
    if breaks_size d (file_in files d) then Some (Rule Directives item Length) else
    if breaks_end d (file_in files d) then Some (Rule Directives item Wrap) else
    if nat_lt 4194304 (pages_in files (before ++ d ∷ [])) then Some (Rule Directives item TooManyPages) else
    if nat_lt 1073741824 (bytes_in files (before ++ d ∷ [])) then Some (TooLarge item) else
    None

-- what refuses the directive at a place, where one stands there and doesn't pass
abbrev pub refused_at : Files → List Directive → ℕ → Option ExpandRefusal
refused_at files ds item = option_and_then (step_fault files (take item ds) item) (slice_get ds item)

-- the directives before a place pass
abbrev pub ArePassed : Files → List Directive → ℕ → Type 0
ArePassed files ds item = (k : ℕ) → k < item → refused_at files ds k ≡ None

-- the directives before one pass, and it is refused
pub record IsRefusedAt (files : Files) (ds : List Directive) (item : ℕ) (e : ExpandRefusal) : Type 0 where
  pub before : ArePassed files ds item
  pub refused : refused_at files ds item ≡ Some e

-- the refusal of the first directive that doesn't pass
abbrev pub IsFirstRefusal : Files → List Directive → ExpandRefusal → Type 0
IsFirstRefusal files ds e = (item : ℕ) × IsRefusedAt files ds item e

-- the components of the headers in front and of these directives, in order
abbrev pub parts_up_to : Source → Files → List Directive → List Component
parts_up_to source files ds = (begun source).parts ++ flat_map (λ d. parts_of d (file_in files d)) ds

-- what the first directives make: their components, how many stand up to each of them, and both sums
abbrev pub progress_at : Source → Files → ℕ → Progress
progress_at source files item = record {
  parts = parts_up_to source files (take item source.directives);
  ends = map (λ k. length (parts_up_to source files (take (suc k) source.directives))) (range_with_len 0 item);
  pages = pages_in files (take item source.directives);
  bytes = bytes_in files (take item source.directives);
}
