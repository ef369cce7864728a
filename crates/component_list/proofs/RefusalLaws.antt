-- The expansion of a list is what the words say.
use Rattle.std.proofs.Common.{◌≡◌, ◌⊎◌, inl, inr, ℕ, zero, suc, ◌+◌, ◌<◌, ◌≤◌, List, [], ◌∷◌, ◌++◌, length, map, take, drop, refl, sym, ◌∙◌, ap, ap₂, subst, arith, add-one, append-nil, append_assoc, below_more, Option, Some, None, Result, Ok, Err, Bool, true, false}
use Rattle.std.specs.Prelude.{if◌then◌else◌, nat_lt, is_some, is_none, ◌&&◌, option_and_then}
use Rattle.std.specs.FinMap as finite
use Rattle.std.specs.List.{slice_get, flat_map, range_with_len}
use Rattle.std.proofs.lemmas.List.{drop_all}
use Rattle.std.proofs.lemmas.List.FromFn.{map-range_with_len_more}
use Rattle.std.proofs.lemmas.List.Sums.{sum_by_push}
use Rattle.std.proofs.lemmas.Option.{slice_get_within}
use Rattle.std.proofs.lemmas.Grind.{flat_map-append}
use Rattle.igvm_outside.specs.Files.{Files}
use Rattle.igvm_headers.specs.declared.fault.ReadWhat.TheVariants.{Length, Wrap, TooManyPages}
use Rattle.component_list.specs.declared.refusal.ListPart.TheVariants.{Directives}
use Rattle.component_list.specs.declared.refusal.ExpandRefusal.{ExpandRefusal}
use Rattle.component_list.specs.declared.refusal.ExpandRefusal.TheVariants.{Read, TooLong, TooLarge, Rule}
use Rattle.component_list.specs.declared.source.Directive.{Directive}
use Rattle.component_list.specs.Source.{Source}
use Rattle.component_list.specs.Expansion.{◌>>=◌, Progress, added, begun, breaks_end, breaks_size, bytes_or_none, content_bytes, expand_of, expanded_from, file_bytes, file_of, given_by, judged, pages_named, parts_of, with_added}
use Rattle.component_list.specs.FirstRefusal.{file_in, is_missing, is_too_long, pages_in, bytes_in, step_fault, refused_at, ArePassed, IsRefusedAt, IsFirstRefusal, parts_up_to, progress_at}

-- ---- one step

-- a result, unless something is refused
abbrev unless : {A : Type 0} → Option ExpandRefusal → A → Result A ExpandRefusal
unless None x = Ok x
unless (Some e) x = Err e

unless_if : {A : Type 0} (b : Bool) (e : ExpandRefusal) (rest : Option ExpandRefusal) (x : A)
    → unless (if b then Some e else rest) x ≡ (if b then Err e else unless rest x)
unless_if true e rest x = refl
unless_if false e rest x = refl

found_is : (item : ℕ) (files : Files) (name : List ℕ) (found : Option (List ℕ)) → finite.get files name ≡ found
    → given_by files item (Some name) ≡ (if is_none found then Err (Read item) else if nat_lt 536870912 (length (bytes_or_none found)) then Err (TooLong item) else Ok found)
found_is item files name None same = ap (file_bytes item) same
found_is item files name (Some bytes) same = ap (file_bytes item) same

-- the file that is given
given_is : (files : Files) (item : ℕ) (named : Option (List ℕ))
    → given_by files item named
    ≡ (if is_some named && is_none (option_and_then (finite.get files) named) then Err (Read item) else
    if nat_lt 536870912 (length (bytes_or_none (option_and_then (finite.get files) named))) then Err (TooLong item) else
    Ok (option_and_then (finite.get files) named))
given_is files item None = refl
given_is files item (Some name) = found_is item files name (finite.get files name) refl

then_if : {A B : Type 0} (a b : Bool) (e f : ExpandRefusal) (x : A) (g : A → Result B ExpandRefusal)
    → ((if a then Err e else if b then Err f else Ok x) >>= g) ≡ (if a then Err e else if b then Err f else g x)
then_if true b e f x g = refl
then_if false true e f x g = refl
then_if false false e f x g = refl

-- one directive passes, or is refused by the first step that fails
step_is : (files : Files) (before : List Directive) (item : ℕ) (d : Directive) (p : Progress)
    → p.pages ≡ pages_in files before → p.bytes ≡ bytes_in files before
    → (given_by files item (file_of d) >>= λ file. added item d file p) ≡ unless (step_fault files before item d) (with_added d (file_in files d) p)
unfolding added
step_is files before item d p pages bytes =
    let file = file_in files d in
    let q = with_added d file p in
    let all = pages_in files (before ++ d ∷ []) in
    let sum = bytes_in files (before ++ d ∷ []) in
    let pages_more : p.pages + pages_named d file ≡ all =
    ap (λ n. n + pages_named d file) pages ∙ sym (sum_by_push (λ d. pages_named d (file_in files d)) before d) in
    let bytes_more : p.bytes + content_bytes d file ≡ sum =
    ap (λ n. n + content_bytes d file) bytes ∙ sym (sum_by_push (λ d. content_bytes d (file_in files d)) before d) in
    let large = if nat_lt 1073741824 sum then Some (TooLarge item) else None in
    let many = if nat_lt 4194304 all then Some (Rule Directives item TooManyPages) else large in
    let end = if breaks_end d file then Some (Rule Directives item Wrap) else many in
    let size = if breaks_size d file then Some (Rule Directives item Length) else end in
    let long = if is_too_long files d then Some (TooLong item) else size in
    ap (λ r. r >>= λ file. added item d file p) (given_is files item (file_of d))
    ∙ then_if (is_missing files d) (is_too_long files d) (Read item) (TooLong item) file (λ file. added item d file p)
    ∙ ap₂ (λ n k. if is_missing files d then Err (Read item) else if is_too_long files d then Err (TooLong item) else
    if breaks_size d file then Err (Rule Directives item Length) else if breaks_end d file then Err (Rule Directives item Wrap) else
    if nat_lt 4194304 n then Err (Rule Directives item TooManyPages) else if nat_lt 1073741824 k then Err (TooLarge item) else Ok q) pages_more bytes_more
    ∙ sym (unless_if (is_missing files d) (Read item) long q
    ∙ ap (λ r. if is_missing files d then Err (Read item) else r) (unless_if (is_too_long files d) (TooLong item) size q
    ∙ ap (λ r. if is_too_long files d then Err (TooLong item) else r) (unless_if (breaks_size d file) (Rule Directives item Length) end q
    ∙ ap (λ r. if breaks_size d file then Err (Rule Directives item Length) else r) (unless_if (breaks_end d file) (Rule Directives item Wrap) many q
    ∙ ap (λ r. if breaks_end d file then Err (Rule Directives item Wrap) else r) (unless_if (nat_lt 4194304 all) (Rule Directives item TooManyPages) large q
    ∙ ap (λ r. if nat_lt 4194304 all then Err (Rule Directives item TooManyPages) else r) (unless_if (nat_lt 1073741824 sum) (TooLarge item) None q))))))

-- ---- step by step

-- a directive at a place, those before it and those behind it
taken : (ds : List Directive) (item : ℕ) (d : Directive) → slice_get ds item ≡ Some d → take (suc item) ds ≡ take item ds ++ d ∷ []
taken [] item d here = cc
taken (c ∷ ds) zero d here = let same : c ≡ d = cc in ap (λ x. x ∷ []) same
taken (c ∷ ds) (suc item) d here = ap (λ xs. c ∷ xs) (taken ds item d here)

left : (ds : List Directive) (item : ℕ) (d : Directive) → slice_get ds item ≡ Some d → drop item ds ≡ d ∷ drop (suc item) ds
left [] item d here = cc
left (c ∷ ds) zero d here = let same : c ≡ d = cc in ap (λ x. x ∷ ds) same
left (c ∷ ds) (suc item) d here = left ds item d here

at_most : (xs : List Directive) (item : ℕ) (d : Directive) → slice_get xs item ≡ Some d → item ≤ length xs
at_most xs item d here = let less = slice_get_within xs item d here in omega arith

module _ (source : Source) (files : Files) where
  abbrev ds : List Directive
  ds = source.directives

  -- one more is added
  added_more : (item : ℕ) (d : Directive) → slice_get ds item ≡ Some d → with_added d (file_in files d) (progress_at source files item) ≡ progress_at source files (suc item)
  added_more item d here =
      let front = (begun source).parts in
      let add = λ (d : Directive). parts_of d (file_in files d) in
      let more = taken ds item d here in
      let parts : parts_up_to source files (take item ds) ++ add d ≡ parts_up_to source files (take (suc item) ds) =
      append_assoc front (flat_map add (take item ds)) (add d)
      ∙ ap (λ ps. front ++ (flat_map add (take item ds) ++ ps)) (sym (append-nil (add d)))
      ∙ ap (λ ps. front ++ ps) (sym (flat_map-append add (take item ds) (d ∷ [])) ∙ ap (flat_map add) (sym more)) in
      let end = λ (k : ℕ). length (parts_up_to source files (take (suc k) ds)) in
      let ends : map end (range_with_len 0 item) ++ length (parts_up_to source files (take item ds) ++ add d) ∷ [] ≡ map end (range_with_len 0 (suc item)) =
      ap (λ ps. map end (range_with_len 0 item) ++ length ps ∷ []) parts
      ∙ sym (map-range_with_len_more end 0 item item (omega arith))
      ∙ ap (λ n. map end (range_with_len 0 n)) (add-one item) in
      let pages = sym (ap (pages_in files) more ∙ sum_by_push (λ d. pages_named d (file_in files d)) (take item ds) d) in
      let bytes = sym (ap (bytes_in files) more ∙ sum_by_push (λ d. content_bytes d (file_in files d)) (take item ds) d) in
      λ i. record { parts = parts i; ends = ends i; pages = pages i; bytes = bytes i }

  -- one step, as a result
  step_at : (item : ℕ) (d : Directive) → slice_get ds item ≡ Some d
      → (given_by files item (file_of d) >>= λ file. added item d file (progress_at source files item)) ≡ unless (refused_at files ds item) (progress_at source files (suc item))
  step_at item d here =
      step_is files (take item ds) item d (progress_at source files item) refl refl
      ∙ ap₂ (λ found p. unless (option_and_then (step_fault files (take item ds) item) found) p) (sym here) (added_more item d here)

  assoc : (r : Result (Option (List ℕ)) ExpandRefusal) (s : Option (List ℕ) → Result Progress ExpandRefusal) (f : Progress → Result Progress ExpandRefusal)
      → (r >>= λ file. s file >>= f) ≡ ((r >>= s) >>= f)
  assoc (Ok file) s f = refl
  assoc (Err e) s f = refl

  abbrev from : ℕ → Result Progress ExpandRefusal
  from item = expanded_from files item (drop item ds) (progress_at source files item)

  next : (item : ℕ) (d : Directive) → slice_get ds item ≡ Some d
      → from item ≡ (unless (refused_at files ds item) (progress_at source files (suc item)) >>= expanded_from files (suc item) (drop (suc item) ds))
  next item d here =
      let others = expanded_from files (suc item) (drop (suc item) ds) in
      let p = progress_at source files item in
      ap (λ xs. expanded_from files item xs p) (left ds item d here)
      ∙ assoc (given_by files item (file_of d)) (λ file. added item d file p) others
      ∙ ap (λ r. r >>= others) (step_at item d here)

  some_at : (xs : List Directive) (item : ℕ) → item < length xs → (d : Directive) × (slice_get xs item ≡ Some d)
  some_at [] item less = absurd (omega arith)
  some_at (x ∷ xs) zero less = (x, refl)
  some_at (x ∷ xs) (suc item) less = some_at xs item (omega arith)

  -- directives that pass are behind
  up_to : (item : ℕ) → item ≤ length ds → ArePassed files ds item → expanded_from files 0 ds (progress_at source files 0) ≡ from item
  up_to zero few passed = refl
  up_to (suc item) few passed =
      let found = some_at ds item (omega arith) in
      up_to item (omega arith) (λ k less. passed k (omega arith))
      ∙ next item found.0 found.1
      ∙ ap (λ r. unless r (progress_at source files (suc item)) >>= expanded_from files (suc item) (drop (suc item) ds)) (passed item (omega arith))

  begins : begun source ≡ progress_at source files 0
  begins = λ i. record { parts = sym (append-nil (begun source).parts) i; ends = []; pages = 0; bytes = 0 }

  whole : ArePassed files ds (length ds) → expanded_from files 0 ds (begun source) ≡ Ok (progress_at source files (length ds))
  whole passed =
      ap (expanded_from files 0 ds) begins
      ∙ up_to (length ds) (omega arith) passed
      ∙ ap (λ xs. expanded_from files (length ds) xs (progress_at source files (length ds))) (drop_all (length ds) ds (omega arith))

  within : (item : ℕ) (e : ExpandRefusal) (found : Option Directive) → slice_get ds item ≡ found
      → option_and_then (step_fault files (take item ds) item) found ≡ Some e → (d : Directive) × (slice_get ds item ≡ Some d)
  within item e None here refused = cc
  within item e (Some d) here refused = (d, here)

  stops : (item : ℕ) (e : ExpandRefusal) → IsRefusedAt files ds item e → expanded_from files 0 ds (begun source) ≡ Err e
  stops item e is =
      let found = within item e (slice_get ds item) refl is.refused in
      ap (expanded_from files 0 ds) begins
      ∙ up_to item (at_most ds item found.0 found.1) is.before
      ∙ next item found.0 found.1
      ∙ ap (λ r. unless r (progress_at source files (suc item)) >>= expanded_from files (suc item) (drop (suc item) ds)) is.refused

  -- ---- the whole

  pub passed_is : ArePassed files ds (length ds) → expand_of source files ≡ judged source (progress_at source files (length ds))
  unfolding expand_of
  passed_is passed = ap (λ r. r >>= judged source) (whole passed)

  pub refused_is : (e : ExpandRefusal) → IsFirstRefusal files ds e → expand_of source files ≡ Err e
  unfolding expand_of
  refused_is e first = ap (λ r. r >>= judged source) (stops first.0 e first.1)

-- all pass, or one is the first that does not
pub passed_or_refused : (files : Files) (ds : List Directive) → ArePassed files ds (length ds) ⊎ ((e : ExpandRefusal) × IsFirstRefusal files ds e)
passed_or_refused files ds = up_to_place (length ds)
  where
    more : (n : ℕ) → ArePassed files ds n ⊎ ((e : ExpandRefusal) × IsFirstRefusal files ds e) → (found : Option ExpandRefusal) → refused_at files ds n ≡ found
        → ArePassed files ds (suc n) ⊎ ((e : ExpandRefusal) × IsFirstRefusal files ds e)
    more n (inr first) found here = inr first
    more n (inl passed) None here = inl (subst (ArePassed files ds) (add-one n) (below_more (λ k. refused_at files ds k ≡ None) n passed here))
    more n (inl passed) (Some e) here = inr (e, (n, record { before = passed; refused = here }))

    up_to_place : (n : ℕ) → ArePassed files ds n ⊎ ((e : ExpandRefusal) × IsFirstRefusal files ds e)
    up_to_place zero = inl (λ k less. absurd (omega arith))
    up_to_place (suc n) = more n (up_to_place n) (refused_at files ds n) refl
