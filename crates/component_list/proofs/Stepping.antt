-- The directives of a list expanded in order.
use Rattle.std.proofs.Common.{◌⊎◌, inl, inr, ◌≡◌, ℕ, suc, ◌+◌, ◌<◌, ◌≤◌, List, [], ◌∷◌, ◌++◌, length, get_or, take, drop, map, length-take-le, refl, sym, ◌∙◌, ap, subst, add-one, drop-cons, length-append, arith, Option, Some, Result, Ok, Err, Bool, true, false}
use Rattle.std.specs.Prelude.{IfSome, IfErr, is_some, ◌||◌, slice_get, option_and_then}
use Rattle.std.specs.List.{AllByRecursion}
use Rattle.std.proofs.lemmas.List.{take_more, take_all, length-map, take-append-drop}
use Rattle.std.proofs.lemmas.Option.{slice_get-get_or}
use Rattle.std.proofs.lemmas.List.Folds.{list_any-append}
use Rattle.igvm_headers.specs.declared.header.Header.{Header}
use Rattle.igvm_headers.specs.FaultCounts.{Rose}
use Rattle.igvm_outside.specs.Files.{Files, State, NeverFalls, IsUnwritten}
use Rattle.component_list.specs.declared.refusal.ExpandRefusal.{ExpandRefusal}
use Rattle.component_list.specs.declared.refusal.ExpandRefusal.TheVariants.{Read, TooLong, TooLarge, Rule, Memory}
use Rattle.component_list.specs.declared.refusal.ListPart.{ListPart}
use Rattle.component_list.specs.declared.source.Directive.{Directive}
use Rattle.component_list.specs.Source.{Source}
use Rattle.component_list.specs.Expansion.{◌>>=◌, Progress, added, begun, expanded_from, file_of, given_by, looked_at, names_file, plain_part, IsGivenRight, IsOfDirective, IsRule, ReadHasCause}
use Rattle.component_list.proofs.Reached.{one_more}
use Rattle.component_list.proofs.Added.{Keeps, IsAtStart, added_is, added_keeps, starts_append, offset_0}

-- What is kept of the shelf as it is now and at entry, and of what is expanded.
pub record Expanding {S : Type 0} (told : S → Option Files) (state : S → State) (given : S → ℕ) (read_faults write_faults : S → List ℕ → ℕ)
    (first now : S) (source : Source) (item : ℕ) (progress : Progress) : Type 0 where
  pub kept : told now ≡ told first
  pub reads : NeverFalls (read_faults first) (read_faults now)
  pub writes : NeverFalls (write_faults first) (write_faults now)
  pub unwritten : IsUnwritten (state first) → IsUnwritten (state now)
  pub keeps : Keeps (length source.platforms + length source.policies + item) progress
  pub ends : length progress.ends ≡ item
  pub short : names_file (take item source.directives) ≡ true → given now ≤ 536870912
  pub no_file : names_file (take item source.directives) ≡ false → given now ≡ given first
  pub same : (files : Files) → told first ≡ Some files
      → expanded_from files item (drop item source.directives) progress ≡ expanded_from files 0 source.directives (begun source)
  pub reached : (files : Files) → told first ≡ Some files
      → expanded_from files 0 (take item source.directives) (begun source) ≡ Ok progress

plain_starts : (hs : List Header) → AllByRecursion IsAtStart (map plain_part hs)
plain_starts [] = tt
plain_starts (h ∷ hs) = (offset_0 h, plain_starts hs)

pub begun_keeps : (source : Source) → Keeps (length source.platforms + length source.policies + 0) (begun source)
begun_keeps source = record {
  starts = starts_append (map plain_part source.platforms) (map plain_part source.policies) (plain_starts source.platforms) (plain_starts source.policies);
  few = (let sum = length-append (map plain_part source.platforms) (map plain_part source.policies) in
      let first = length-map source.platforms plain_part in
      let second = length-map source.policies plain_part in
      omega arith);
  pages = omega arith;
  bytes = omega arith;
}

-- the directive at a place, and those behind it
pub left : (ds : List Directive) (item : ℕ) (d : Directive) → item < length ds → d ≡ get_or ds item d → drop item ds ≡ d ∷ drop (item + 1) ds
left ds item d within is =
    drop-cons ds item d within ∙ ap (λ x. x ∷ drop (suc item) ds) (sym is) ∙ ap (λ n. d ∷ drop n ds) (sym (add-one item))

-- one step, and the others behind it
goes_on : (files : Files) (item : ℕ) (d : Directive) (ds : List Directive) (p q : Progress) (file : Option (List ℕ))
    → given_by files item (file_of d) ≡ Ok file → added item d file p ≡ Ok q → expanded_from files item (d ∷ ds) p ≡ expanded_from files (item + 1) ds q
goes_on files item d ds p q file good fine =
    ap (λ r. r >>= λ file. added item d file p >>= expanded_from files (suc item) ds) good
    ∙ ap (λ r. r >>= expanded_from files (suc item) ds) fine
    ∙ ap (λ n. expanded_from files n ds q) (sym (add-one item))

-- ---- what was given

-- the directive at a place of a list that equals these
pub left_of : (all ds : List Directive) (item : ℕ) (d : Directive) → all ≡ ds → item < length all → d ≡ get_or all item d
    → drop item ds ≡ d ∷ drop (item + 1) ds
left_of all ds item d same within is = subst (λ xs. drop item xs ≡ d ∷ drop (item + 1) xs) same (left all item d within is)

pub taken_of : (all ds : List Directive) (item : ℕ) (d : Directive) → all ≡ ds → item < length all → d ≡ get_or all item d
    → take (item + 1) ds ≡ take item ds ++ d ∷ []
taken_of all ds item d same within is =
    subst (λ xs. take (item + 1) xs ≡ take item xs ++ d ∷ []) same
    (take_more all item d within ∙ ap (λ x. take item all ++ x ∷ []) (sym is))

pub front_of : (all ds : List Directive) (item : ℕ) → all ≡ ds → item < length all → length (take item ds) ≡ item
front_of all ds item same within = subst (λ xs. length (take item xs) ≡ item) same (length-take-le item all (omega arith))

-- the directive at a place, by its place
pub found_of : (all ds : List Directive) (item : ℕ) (d : Directive) → all ≡ ds → item < length all → d ≡ get_or all item d → slice_get ds item ≡ Some d
found_of all ds item d same within is =
    subst (λ xs. slice_get xs item ≡ Some d) same (slice_get-get_or all item d within ∙ ap (λ x. Some x) (sym is))

either_names : (was now named' : Bool) → was || (named' || false) ≡ true → (named' ≡ true) ⊎ ((named' ≡ false) × (was ≡ true))
either_names was now true h = inl refl
either_names true now false h = inr (refl, refl)
either_names false now false h = cc

-- a file that is named up to one more directive was no longer than the limit
pub short_more : (ds : List Directive) (item : ℕ) (d : Directive) (before now : ℕ) → take (item + 1) ds ≡ take item ds ++ d ∷ []
    → (names_file (take item ds) ≡ true → before ≤ 536870912) → (is_some (file_of d) ≡ true → now ≤ 536870912) → (is_some (file_of d) ≡ false → now ≡ before)
    → names_file (take (item + 1) ds) ≡ true → now ≤ 536870912
short_more ds item d before now taken was short same named' =
    let named-more = sym (ap names_file taken ∙ list_any-append (λ (x : Directive). is_some (file_of x)) (take item ds) (d ∷ [])) ∙ named' in
    elim (either_names (names_file (take item ds)) true (is_some (file_of d)) named-more) [
      | inl this ↦ short this
      | inr both ↦ subst (λ n. n ≤ 536870912) (sym (same both.0)) (was both.1)
    ]

neither_names : (was now : Bool) → was || (now || false) ≡ false → (was ≡ false) × (now ≡ false)
neither_names true now h = cc
neither_names false true h = cc
neither_names false false h = (refl, refl)

-- the file of a directive is named by none of those that name no file
unnamed : (ds : List Directive) (item : ℕ) (d : Directive) → take (item + 1) ds ≡ take item ds ++ d ∷ [] → names_file (take (item + 1) ds) ≡ false
    → (names_file (take item ds) ≡ false) × (is_some (file_of d) ≡ false)
unnamed ds item d taken none =
    neither_names (names_file (take item ds)) (is_some (file_of d))
    (sym (ap names_file taken ∙ list_any-append (λ (x : Directive). is_some (file_of x)) (take item ds) (d ∷ [])) ∙ none)

-- where no file is named up to one more directive, what was given stays
pub none_more : (ds : List Directive) (item : ℕ) (d : Directive) (first before now : ℕ) → take (item + 1) ds ≡ take item ds ++ d ∷ []
    → (names_file (take item ds) ≡ false → before ≡ first) → (is_some (file_of d) ≡ false → now ≡ before) → names_file (take (item + 1) ds) ≡ false → now ≡ first
none_more ds item d first before now taken was same none =
    let each = unnamed ds item d taken none in
    same each.1 ∙ was each.0

or_false : (a b : Bool) → a || b ≡ false → a ≡ false
or_false true b h = cc
or_false false b h = refl

-- where no directive names a file, none of the first ones does
pub names_none : (ds : List Directive) (k : ℕ) → names_file ds ≡ false → names_file (take k ds) ≡ false
names_none ds k h =
    or_false (names_file (take k ds)) (names_file (drop k ds))
    (sym (list_any-append (λ (x : Directive). is_some (file_of x)) (take k ds) (drop k ds)) ∙ ap names_file (take-append-drop k ds) ∙ h)

or_true : (a b : Bool) → a ≡ true → a || b ≡ true
or_true true b h = refl
or_true false b h = cc

-- a file that is named by some of the directives is named by all
pub names_all : (ds : List Directive) (k : ℕ) → names_file (take k ds) ≡ true → names_file ds ≡ true
names_all ds k h =
    sym (sym (list_any-append (λ (x : Directive). is_some (file_of x)) (take k ds) (drop k ds)) ∙ ap names_file (take-append-drop k ds))
    ∙ or_true (names_file (take k ds)) (names_file (drop k ds)) h

-- ---- the steps of the loop

pub told_at : {X : Type 0} (t : Option X) (P : X → Type 0) → IfSome t P → (x : X) → t ≡ Some x → P x
told_at {X} t P holds x is = subst (λ (o : Option X). IfSome o P) is holds

module _ {S : Type 0} (told : S → Option Files) (state : S → State) (given : S → ℕ) (read_faults write_faults : S → List ℕ → ℕ) where
  abbrev Loop : S → S → Source → ℕ → Progress → Type 0
  Loop first now source item p = Expanding told state given read_faults write_faults first now source item p

  pub starting : (shelf : S) (source : Source) (p : Progress) → p ≡ begun source → Loop shelf shelf source 0 p
  starting shelf source p same = subst (Loop shelf shelf source 0) (sym same) (record {
    kept = refl;
    reads = λ name. omega arith;
    writes = λ name. omega arith;
    unwritten = λ x. x;
    keeps = begun_keeps source;
    ends = refl;
    short = λ h. cc;
    no_file = λ h. refl;
    same = λ files is. refl;
    reached = λ files is. refl;
  })

  pub stepping : (first before now : S) (source : Source) (item : ℕ) (p q : Progress) (d : Directive) (file : Option (List ℕ)) → Loop first before source item p
      → length (take item source.directives) ≡ item
      → drop item source.directives ≡ d ∷ drop (item + 1) source.directives → take (item + 1) source.directives ≡ take item source.directives ++ d ∷ []
      → told now ≡ told before → NeverFalls (read_faults before) (read_faults now) → NeverFalls (write_faults before) (write_faults now)
      → (IsUnwritten (state before) → IsUnwritten (state now))
      → (is_some (file_of d) ≡ true → given now ≤ 536870912) → (is_some (file_of d) ≡ false → given now ≡ given before)
      → ((files : Files) → told before ≡ Some files → given_by files item (file_of d) ≡ Ok file) → added item d file p ≡ Ok q
      → Loop first now source (item + 1) q
  stepping first before now source item p q d file w front here taken kept reads writes unwritten short same good fine = record {
    kept = kept ∙ w.kept;
    reads = λ name. (let old = w.reads name in let new = reads name in omega arith);
    writes = λ name. (let old = w.writes name in let new = writes name in omega arith);
    unwritten = λ x. unwritten (w.unwritten x);
    keeps = subst (λ n. Keeps n q) (omega arith) (added_keeps item (length source.platforms + length source.policies + item) d file p q w.keeps fine);
    ends = sym (ap (λ (r : Progress). length r.ends) (added_is item d file p q fine)) ∙ length-append p.ends _ ∙ ap (λ n. n + 1) w.ends;
    short = short_more source.directives item d (given before) (given now) taken w.short short same;
    no_file = none_more source.directives item d (given first) (given before) (given now) taken w.no_file same;
    same = λ files is. sym (goes_on files item d (drop (item + 1) source.directives) p q file (good files (w.kept ∙ is)) fine)
        ∙ ap (λ ds. expanded_from files item ds p) (sym here) ∙ w.same files is;
    reached = λ files is. one_more files source.directives item d file (begun source) p q front taken (w.reached files is) (good files (w.kept ∙ is)) fine;
  }

-- a file that was not read is that of its directive
pub file_cause : (ds : List Directive) (item : ℕ) (d : Directive) (first before now : List ℕ → ℕ) (e : ExpandRefusal) → slice_get ds item ≡ Some d
    → NeverFalls first before → (e ≡ Read item) ⊎ ((e ≡ TooLong item) ⊎ (e ≡ Memory))
    → (e ≡ Read item → (name : List ℕ) × (file_of d ≡ Some name) × Rose (before name) (now name)) → ReadHasCause ds first now e
file_cause ds item d first before now e found never which cause =
    elim which [
      | inl read ↦ subst (ReadHasCause ds first now) (sym read) (named (cause read))
      | inr other ↦ elim other [
        | inl long ↦ subst (ReadHasCause ds first now) (sym long) tt
        | inr memory ↦ subst (ReadHasCause ds first now) (sym memory) tt
      ]
    ]
  where
    rose : (old mid new : ℕ) → old ≤ mid → Rose mid new → Rose old new
    rose old mid new rises r = elim r [ inl less ↦ inl (omega arith) | inr last ↦ inr last ]

    named : (name : List ℕ) × (file_of d ≡ Some name) × Rose (before name) (now name) → ReadHasCause ds first now (Read item)
    named n = (n.0, ap (option_and_then file_of) found ∙ n.1, rose (first n.0) (before n.0) (now n.0) (never n.0) n.2)

-- what was given tells that the file of this directive, or of those before, was no longer than the limit
pub given_right : (ds : List Directive) (item given : ℕ) (e : ExpandRefusal) → IsOfDirective item e
    → (names_file (take (item + 1) ds) ≡ true → given ≤ 536870912) → IsGivenRight ds given e
given_right ds item given (Rule part number what) of short =
    subst (λ (p : ListPart). names_file (take (looked_at p number) ds) ≡ true → given ≤ 536870912) (sym of.0)
    (λ h. short (subst (λ n. names_file (take n ds) ≡ true) (ap suc of.1 ∙ sym (add-one item)) h))
given_right ds item given (TooLarge number) of short =
    λ h. short (subst (λ n. names_file (take n ds) ≡ true) (ap suc of ∙ sym (add-one item)) h)
given_right ds item given Memory of short = tt
given_right ds item given (Read number) of short = absurd of
given_right ds item given (TooLong number) of short = absurd of

-- behind the last directive
pub rule_right : {A : Type 0} (ds : List Directive) (given : ℕ) (r : Result A ExpandRefusal) → IfErr r IsRule
    → (names_file ds ≡ true → given ≤ 536870912) → IfErr r (λ e. IsGivenRight ds given e)
rule_right ds given (Ok x) rule short = tt
rule_right ds given (Err (Rule part item what)) rule short = λ h. short (names_all ds (looked_at part item) h)
rule_right ds given (Err (TooLarge item)) rule short = absurd rule
rule_right ds given (Err (Read item)) rule short = absurd rule
rule_right ds given (Err (TooLong item)) rule short = absurd rule
rule_right ds given (Err Memory) rule short = absurd rule

-- all directives are those before the end
pub short_all : (ds : List Directive) (item given : ℕ) → length ds ≤ item → (names_file (take item ds) ≡ true → given ≤ 536870912)
    → names_file ds ≡ true → given ≤ 536870912
short_all ds item given past short named' = short (ap names_file (take_all item ds past) ∙ named')
