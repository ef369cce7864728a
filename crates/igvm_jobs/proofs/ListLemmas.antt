-- How the steps end with which a job reads a component list: its text, and the files that it names.
use Rattle.std.proofs.Common.{◌≡◌, ◌≢◌, ◌∙◌, ℕ, ◌<◌, ◌≤◌, refl, sym, ap, subst, inl, inr, arith, List, [], length, true, false, Option, Some, None, Result, Ok, Err, IfSome}
use Rattle.std.specs.Prelude.{nat_lt, unwrap_or, if◌then◌else◌, slice_get, option_and_then}
use Rattle.std.specs.FinMap as map
use Rattle.igvm_outside.specs.Files.{Files, IsUnwritten, content}
use Rattle.igvm_outside.specs.ShelfCalls.{IsRead, IsLonger, OnlyReads}
use Rattle.igvm_outside.specs.declared.shelf.Shelf as shelves
use Rattle.component_list.specs.Lists.{ImageParts}
use Rattle.component_list.specs.declared.refusal.ListRefusal.{ListRefusal}
use Rattle.component_list.specs.declared.refusal.ListRefusal.TheVariants as reading
use Rattle.component_list.specs.declared.refusal.ExpandRefusal.{ExpandRefusal}
use Rattle.component_list.specs.declared.refusal.ExpandRefusal.TheVariants as expand
use Rattle.component_list.specs.Source.{Source}
use Rattle.component_list.specs.ListForms.{source_of}
use Rattle.component_list.specs.Expansion.{expand_of, file_of, FollowsFiles, IsReached, ReadHasCause, IsGivenRight}
use Rattle.igvm_jobs.specs.declared.status.Status.TheVariants as is
use Rattle.igvm_jobs.specs.declared.refusal.Refusal.{Refusal}
use Rattle.igvm_jobs.specs.declared.refusal.LimitOf.TheVariants as of
use Rattle.igvm_jobs.specs.Texts.{long_list_text}
use Rattle.igvm_jobs.specs.Outcome.{Outcome, refused}
use Rattle.igvm_jobs.specs.ListFiles.{text_outcome, source_outcome, expanded_outcome, list_outcome, list_refused, expand_refused, list_limit, list_part, IsGivenTo, IsNamedIn, IsNamed}
use Rattle.igvm_jobs.specs.Refusals.{Refuses}
use Rattle.igvm_jobs.specs.ListRefusals.{IsOfList, IsOfExpansion}
use Rattle.igvm_jobs.specs.Endings.{IsNotRead, Stops}
use Rattle.igvm_jobs.proofs.EndingLemmas.{rose_after, always, Known, failed_stops, memory_stops, refused_stops, not_read_stops}

-- ---- the text of a list

passes : (a b : ℕ) → a < b → nat_lt a b ≡ true
passes a b h = grind arith

stays : (a b : ℕ) → b ≤ a → nat_lt a b ≡ false
stays a b h = grind (arith, h)

long_list : (files : Files) (next : ImageParts → Outcome) (found : Option (List ℕ)) → list_limit < length (unwrap_or found [])
    → list_outcome files next found ≡ refused is.Limit long_list_text
unfolding text_outcome
long_list files next None h = absurd (omega arith)
long_list files next (Some bytes) h =
    ap (λ b. if b then refused is.Limit long_list_text else source_outcome files next (source_of bytes)) (passes list_limit (length bytes) h)

long_told : (told : Option Files) (list : List ℕ) (next : ImageParts → Outcome) → IfSome told (λ files. list_limit < length (content files list))
    → IfSome told (λ files. refused is.Limit long_list_text ≡ list_outcome files next (map.get files list))
long_told None list next h = tt
long_told (Some files) list next h = sym (long_list files next (map.get files list) h)

-- what becomes of a list that gave more than its limit
long_known : {S : Type 0} {s : shelves.Ghosts S} (list : List ℕ) (next : ImageParts → Outcome) {shelf shelf' : S} → IsLonger s list list_limit shelf shelf'
    → Known s (list_part list next) (refused is.Limit long_list_text) shelf shelf'
long_known {s} list next {shelf} long = record { told = long_told (s.told shelf) list next long.file; can = inl (long.given, refl) }

-- the text of a list was not read
pub list_stops : {S : Type 0} {s : shelves.Ghosts S} (list : List ℕ) (next : ImageParts → Outcome) (r : Refusal) {shelf shelf' : S}
    → IsNotRead s list list_limit of.List r shelf shelf' → OnlyReads s shelf shelf' → IsUnwritten (s.state shelf') → Stops s (list_part list next) r shelf shelf'
list_stops list next r h k unwritten = not_read_stops (list_part list next) list list_limit of.List r (inl refl) (long_known list next) h k unwritten

-- a text within its limit is judged as it is read
pub text_read : (files : Files) (next : ImageParts → Outcome) (bytes : List ℕ) (source : Result Source ListRefusal) → length bytes ≤ list_limit → source_of bytes ≡ source
    → text_outcome files next bytes ≡ source_outcome files next source
unfolding text_outcome
text_read files next bytes source h same =
    ap (λ b. if b then refused is.Limit long_list_text else source_outcome files next (source_of bytes)) (stays list_limit (length bytes) h)
    ∙ ap (source_outcome files next) same

-- the same of a list that is told
list_read : (told : Option Files) (list bytes : List ℕ) (next : ImageParts → Outcome) (source : Result Source ListRefusal) (x : Outcome) → IfSome told (λ files. map.get files list ≡ Some bytes)
    → length bytes ≤ list_limit → source_of bytes ≡ source → IfSome told (λ files. x ≡ source_outcome files next source)
    → IfSome told (λ files. x ≡ list_outcome files next (map.get files list))
list_read None list bytes next source x found h same gives = tt
list_read (Some files) list bytes next source x found h same gives =
    gives ∙ sym (ap (list_outcome files next) found ∙ text_read files next bytes source h same)

unread_known : {S : Type 0} {s : shelves.Ghosts S} (e : ListRefusal) (list bytes : List ℕ) (next : ImageParts → Outcome) {shelf shelf' : S} → IsRead s list list_limit bytes shelf shelf' → source_of bytes ≡ Err e
    → Known s (list_part list next) (list_refused e) shelf shelf'
unread_known {S} {s} e list bytes next {shelf} h same =
    record {
      told = list_read (s.told shelf) list bytes next (Err e) _ h.whole h.within same (always (s.told shelf) _ (λ files. refl));
      can = inr (inl (bytes, sym h.given, subst (λ n. n ≤ list_limit) (sym h.given) h.within, (e, same, refl)));
    }

-- a text that is not read
pub unread_stops : {S : Type 0} {s : shelves.Ghosts S} (e : ListRefusal) (r : Refusal) (list bytes : List ℕ) (next : ImageParts → Outcome) {shelf shelf' : S} → IsRead s list list_limit bytes shelf shelf'
    → (e ≢ reading.Memory → source_of bytes ≡ Err e) → IsOfList e r → Stops s (list_part list next) r shelf shelf'
unread_stops {S} {s} reading.NotJson r list bytes next {shelf} {shelf'} h read gives =
    let same = read (λ e. cc) in
    refused_stops (list_part list next) (list_refused reading.NotJson) r gives
    (unread_known reading.NotJson list bytes next h same) h.only.kept h.unwritten
unread_stops {S} {s} (reading.Field part item) r list bytes next {shelf} {shelf'} h read gives =
    let same = read (λ e. cc) in
    refused_stops (list_part list next) (list_refused (reading.Field part item)) r gives
    (unread_known (reading.Field part item) list bytes next h same) h.only.kept h.unwritten
unread_stops {S} {s} reading.Memory r list bytes next {shelf} {shelf'} h read gives =
    subst (λ (q : Refusal). Stops s (list_part list next) q shelf shelf') (sym gives) (memory_stops (list_part list next) h.only.kept h.unwritten)

-- ---- the files that a list names

named : (told : Option Files) (list bytes name : List ℕ) → IfSome told (λ files. map.get files list ≡ Some bytes) → length bytes ≤ list_limit
    → IfSome told (λ files. IsNamedIn files (source_of bytes) name) → IsNamed told list name
named None list bytes name found h k = tt
named (Some files) list bytes name found h k =
    let same = ap (λ o. unwrap_or o []) found in
    (subst (λ b. length b ≤ list_limit) (sym same) h, subst (λ b. IsNamedIn files (source_of b) name) (sym same) k)

reached : (told : Option Files) (source : Source) (read : Result Source ListRefusal) (item : ℕ) (name : List ℕ) → read ≡ Ok source → option_and_then file_of (slice_get source.directives item) ≡ Some name
    → IfSome told (λ files. IsReached source files (expand.Read item)) → IfSome told (λ files. IsNamedIn files read name)
reached None source read item name same named h = tt
reached (Some files) source read item name same named h = subst (λ (r : Result Source ListRefusal). IsNamedIn files r name) (sym same) (item, named, h)

expansion : (told : Option Files) (next : ImageParts → Outcome) (source : Source) (e : ExpandRefusal) → IfSome told (λ files. expand_of source files ≡ Err e)
    → IfSome told (λ files. expand_refused e ≡ source_outcome files next (Ok source))
expansion None next source e h = tt
expansion (Some files) next source e h = sym (ap (expanded_outcome next) h)

-- a refusal of a list's entries that follows from what their files hold
entries_stop : {S : Type 0} (s : shelves.Ghosts S) (e : ExpandRefusal) (r : Refusal) (list bytes : List ℕ) (next : ImageParts → Outcome) (source : Source) (shelf mid shelf' : S)
    → IsRead s list list_limit bytes shelf mid → source_of bytes ≡ Ok source → OnlyReads s mid shelf'
    → IfSome (s.told mid) (λ files. expand_of source files ≡ Err e) → IsGivenTo e (s.given shelf') → Refuses (expand_refused e) r → Stops s (list_part list next) r shelf shelf'
entries_stop s e r list bytes next source shelf mid shelf' h read k refused given gives =
    refused_stops (list_part list next) (expand_refused e) r gives
    (record {
      told = list_read (s.told shelf) list bytes next (Ok source) _ h.whole h.within read
          (expansion (s.told shelf) next source e (subst (λ told. IfSome told (λ files. expand_of source files ≡ Err e)) h.only.kept refused));
      can = inr (inr (e, given, refl));
    })
    (k.kept ∙ h.only.kept) (k.unwritten h.unwritten)

-- entries that are not expanded
pub unexpanded_stops : {S : Type 0} {s : shelves.Ghosts S} (e : ExpandRefusal) (r : Refusal) (list bytes : List ℕ) (next : ImageParts → Outcome) (source : Source) {shelf mid shelf' : S}
    → IsRead s list list_limit bytes shelf mid → source_of bytes ≡ Ok source → OnlyReads s mid shelf'
    → (FollowsFiles e → IfSome (s.told mid) (λ files. expand_of source files ≡ Err e))
    → ReadHasCause source.directives (s.read_faults mid) (s.read_faults shelf') e → IfSome (s.told mid) (λ files. IsReached source files e)
    → IsGivenRight source.directives (s.given shelf') e → IsOfExpansion e r → Stops s (list_part list next) r shelf shelf'
unexpanded_stops {S} {s} (expand.Read item) r list bytes next source {shelf} {mid} {shelf'} h read k follows cause before given gives =
    let told = subst (λ told. IfSome told (λ files. IsReached source files (expand.Read item))) h.only.kept before in
    let in_list = named (s.told shelf) list bytes cause.0 h.whole h.within (reached (s.told shelf) source (source_of bytes) item cause.0 read cause.1 told) in
    subst (λ (q : Refusal). Stops s (list_part list next) q shelf shelf') (sym gives)
    (failed_stops (list_part list next) cause.0 (inr in_list)
    (rose_after (s.read_faults shelf cause.0) (s.read_faults mid cause.0) (s.read_faults shelf' cause.0) (h.only.reads cause.0) cause.2)
    (k.kept ∙ h.only.kept) (k.unwritten h.unwritten))
unexpanded_stops {S} {s} (expand.TooLong item) r list bytes next source {shelf} {mid} {shelf'} h read k follows cause before given gives =
    entries_stop s (expand.TooLong item) r list bytes next source shelf mid shelf' h read k (follows tt) given gives
unexpanded_stops {S} {s} (expand.TooLarge item) r list bytes next source {shelf} {mid} {shelf'} h read k follows cause before given gives =
    entries_stop s (expand.TooLarge item) r list bytes next source shelf mid shelf' h read k (follows tt) tt gives
unexpanded_stops {S} {s} (expand.Rule part item what) r list bytes next source {shelf} {mid} {shelf'} h read k follows cause before given gives =
    entries_stop s (expand.Rule part item what) r list bytes next source shelf mid shelf' h read k (follows tt) tt gives
unexpanded_stops {S} {s} expand.Memory r list bytes next source {shelf} {mid} {shelf'} h read k follows cause before given gives =
    subst (λ (q : Refusal). Stops s (list_part list next) q shelf shelf') (sym gives) (memory_stops (list_part list next) (k.kept ∙ h.only.kept) (k.unwritten h.unwritten))
