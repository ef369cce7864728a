-- What a list keeps where one more directive is expanded.
use Rattle.std.proofs.Common.{◌≡◌, ℕ, ◌+◌, ◌*◌, ◌≤◌, List, [], ◌∷◌, ◌++◌, length, map, refl, subst, arith, length-append, Option, Result, Ok, Err, Bool, true, false}
use Rattle.std.specs.Prelude.{if◌then◌else◌, nat_lt}
use Rattle.std.specs.List.{range_with_len, AllByRecursion}
use Rattle.std.proofs.lemmas.Bool.{ltb-false}
use Rattle.std.proofs.lemmas.List.FromFn.{length-map-range_with_len}
use Rattle.igvm_headers.specs.Pages.{small_pages}
use Rattle.igvm_headers.specs.declared.header.Header.{Header}
use Rattle.igvm_headers.specs.declared.header.Header.TheVariants.{Area, Page, Context}
use Rattle.igvm_headers.specs.declared.fault.ReadWhat.TheVariants as what
use Rattle.component_list.specs.declared.component.Component.{Component}
use Rattle.component_list.specs.declared.component.Content.{Content}
use Rattle.component_list.specs.declared.refusal.ListPart.TheVariants.{Directives}
use Rattle.component_list.specs.declared.refusal.ExpandRefusal.{ExpandRefusal}
use Rattle.component_list.specs.declared.refusal.ExpandRefusal.TheVariants.{TooLarge, Rule}
use Rattle.component_list.specs.declared.source.Directive.{Directive}
use Rattle.component_list.specs.declared.source.Directive.TheVariants as directive
use Rattle.component_list.specs.declared.source.PageRun.{PageRun}
use Rattle.igvm_headers.specs.HeaderFacts.{data_offset, with_offset}
use Rattle.component_list.specs.Expansion.{Progress, added, with_added, parts_of, pages_named, content_bytes, breaks_size, breaks_end, page_at, page_parts, pages_for, bytes_or_none}

-- a component at file offset 0
abbrev pub IsAtStart : Component → Type 0
IsAtStart c = data_offset c.header ≡ 0

pages_few : (run : PageRun) (content : ℕ → Content) (count : ℕ) → length (page_parts run content count) ≤ 1 + small_pages run.large * count
pages_few run content count = cases run.large (length-map-range_with_len (λ k. page_at run k (content k)) 0 count)
  where
    cases : (large : Bool) → length (page_parts run content count) ≡ count → length (page_parts run content count) ≤ 1 + small_pages large * count
    cases true size = omega arith
    cases false size = omega arith

-- a directive adds one component, or no more than the pages that it names
pub parts_few : (d : Directive) (file : Option (List ℕ)) → length (parts_of d file) ≤ 1 + pages_named d file
parts_few (directive.Pages run name) file = pages_few run _ (pages_for run (length (bytes_or_none file)))
parts_few (directive.Zeros run count) file = pages_few run _ count
parts_few (directive.Area area bytes name) file = omega arith
parts_few (directive.Context gpa mask vp name) file = omega arith
parts_few (directive.Plain header tail) file = omega arith

pub offset_0 : (h : Header) → data_offset (with_offset 0 h) ≡ 0
offset_0 (Area bytes area offset) = refl
offset_0 (Page gpa mask offset large unmeasured kind) = refl
offset_0 (Context gpa mask offset vp) = refl
offset_0 h = refl

pages_start : (run : PageRun) (content : ℕ → Content) (ks : List ℕ) → AllByRecursion IsAtStart (map (λ k. page_at run k (content k)) ks)
unfolding page_at
pages_start run content [] = tt
pages_start run content (k ∷ ks) = (refl, pages_start run content ks)

parts_start : (d : Directive) (file : Option (List ℕ)) → AllByRecursion IsAtStart (parts_of d file)
parts_start (directive.Pages run name) file = pages_start run _ (range_with_len 0 (pages_for run (length (bytes_or_none file))))
parts_start (directive.Zeros run count) file = pages_start run _ (range_with_len 0 count)
parts_start (directive.Area area bytes name) file = (refl, tt)
parts_start (directive.Context gpa mask vp name) file = (refl, tt)
parts_start (directive.Plain header tail) file = (offset_0 header, tt)

pub starts_append : (xs ys : List Component) → AllByRecursion IsAtStart xs → AllByRecursion IsAtStart ys → AllByRecursion IsAtStart (xs ++ ys)
starts_append [] ys first second = second
starts_append (x ∷ xs) ys first second = (first.0, starts_append xs ys first.1 second)

-- what is kept from directive to directive
pub record Keeps (entries : ℕ) (p : Progress) : Type 0 where
  pub starts : AllByRecursion IsAtStart p.parts
  pub few : length p.parts ≤ entries + p.pages
  pub pages : p.pages ≤ 4194304
  pub bytes : p.bytes ≤ 1073741824

-- a test that did not refuse
passed : {A : Type 0} (b : Bool) (e : ExpandRefusal) (rest : Result A ExpandRefusal) (x : A) → (if b then Err e else rest) ≡ Ok x → (b ≡ false) × (rest ≡ Ok x)
passed true e rest x h = cc
passed false e rest x h = (refl, h)

pub added_is : (item : ℕ) (d : Directive) (file : Option (List ℕ)) (p q : Progress) → added item d file p ≡ Ok q → with_added d file p ≡ q
unfolding added
added_is item d file p q ok =
    let size = passed (breaks_size d file) (Rule Directives item what.Length) _ q ok in
    let end = passed (breaks_end d file) (Rule Directives item what.Wrap) _ q size.1 in
    let pages = passed (nat_lt 4194304 (p.pages + pages_named d file)) (Rule Directives item what.TooManyPages) _ q end.1 in
    let bytes = passed (nat_lt 1073741824 (p.bytes + content_bytes d file)) (TooLarge item) (Ok (with_added d file p)) q pages.1 in
    cc

pub added_keeps : (item entries : ℕ) (d : Directive) (file : Option (List ℕ)) (p q : Progress) → Keeps entries p → added item d file p ≡ Ok q → Keeps (entries + 1) q
unfolding added
added_keeps item entries d file p q kept ok =
    let size = passed (breaks_size d file) (Rule Directives item what.Length) _ q ok in
    let end = passed (breaks_end d file) (Rule Directives item what.Wrap) _ q size.1 in
    let pages = passed (nat_lt 4194304 (p.pages + pages_named d file)) (Rule Directives item what.TooManyPages) _ q end.1 in
    let bytes = passed (nat_lt 1073741824 (p.bytes + content_bytes d file)) (TooLarge item) (Ok (with_added d file p)) q pages.1 in
    subst (Keeps (entries + 1)) (added_is item d file p q ok) (record {
      starts = starts_append p.parts (parts_of d file) kept.starts (parts_start d file);
      few = (let few = kept.few in let more = parts_few d file in let sum = length-append p.parts (parts_of d file) in omega arith);
      pages = ltb-false 4194304 (p.pages + pages_named d file) pages.0;
      bytes = ltb-false 1073741824 (p.bytes + content_bytes d file) bytes.0;
    })
