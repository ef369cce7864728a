-- What areas are filled with, where headers say the same: the same values are set in them, and their contents have the
-- same pages as far as the areas reach.
use Rattle.std.proofs.Common.{◌≡◌, ℕ, ◌+◌, ◌*◌, ◌/◌, ◌%◌, ◌<◌, List, [], ◌∷◌, ◌++◌, Bool, true, false, cond, Option, Some, None, refl, sym, ap, ap₂, subst, subst₂, ◌∙◌, arith, find, map, filter_map, option_map, slice_index, unwrap_or, if◌then◌else◌, ◌==◌, append-nil}
use Rattle.std.specs.List.{cons_option, range_with_len}
use Rattle.std.specs.Option.{option_or}
use Rattle.std.proofs.lemmas.List.{same_lists}
use Rattle.std.proofs.lemmas.List.Elements.{filter_map-append}
use Rattle.std.proofs.lemmas.List.Folds.{find-append}
use Rattle.std.proofs.lemmas.List.FromFn.{get_or-map-range_with_len, length-map-range_with_len}
use Rattle.igvm_headers.specs.HeaderFacts.{data_pages, with_offset}
use Rattle.igvm_headers.specs.declared.header.Header.{Header}
use Rattle.igvm_headers.specs.declared.header.Header.TheVariants.{Area, Param}
use Rattle.host_set.specs.Hosts.{HostValues, value_of}
use Rattle.igvm_image.specs.Areas.{area_size, areas_of}
use Rattle.igvm_image.specs.Data.{Data, data_page}
use Rattle.igvm_image.specs.Headers.{PlacedHeader}
use Rattle.igvm_image.specs.declared.area_table.AreaEntry.{AreaEntry}
use Rattle.directive_rules.specs.FirstMisfit.{headers_in}
use Rattle.param_areas.specs.AreaHistory.{Setting, area_byte, byte_or, content_byte, last_over}
use Rattle.param_areas.specs.Calls.{Call, byte_under, content_in, content_of, first_of_contents, setting_in, settings_of}
use Rattle.image_loader.specs.FilledAreas.{calls_of, filled_byte, filled_page, header_call}
use Rattle.list_changes.specs.Changes.{changed, with_digest}
use Rattle.launch_likeness.proofs.Steps.{Change, IsForeign, IsSame, KeepsApart, NamesOwn}

-- ---- lists and options

-- two functions that agree make one list
pub map_agree : {X : Type 0} (f g : ℕ → X) (n : ℕ) → ((k : ℕ) → k < n → f k ≡ g k)
    → map f (range_with_len 0 n) ≡ map g (range_with_len 0 n)
map_agree f g n agree =
    same_lists (map f (range_with_len 0 n)) (map g (range_with_len 0 n))
    (length-map-range_with_len f 0 n ∙ sym (length-map-range_with_len g 0 n))
    (λ k d within.
    let few : k < n = omega (arith, within, length-map-range_with_len f 0 n) in
    get_or-map-range_with_len f 0 n k k d few (omega arith) ∙ agree k few
    ∙ sym (get_or-map-range_with_len g 0 n k k d few (omega arith)))

-- the first content of two lists
first_append : (cs ds : List Data) → first_of_contents (cs ++ ds) ≡ option_or (first_of_contents cs) (first_of_contents ds)
first_append [] ds = refl
first_append (c ∷ cs) ds = refl

content_append : (x : ℕ) (cs ds : List Call) → content_of x (cs ++ ds) ≡ option_or (content_of x cs) (content_of x ds)
content_append x cs ds =
    ap first_of_contents (filter_map-append (content_in x) cs ds)
    ∙ first_append (filter_map (content_in x) cs) (filter_map (content_in x) ds)

bytes_or : (a b : Option AreaEntry)
    → option_map (λ entry. entry.bytes) (option_or a b)
    ≡ option_or (option_map (λ entry. entry.bytes) a) (option_map (λ entry. entry.bytes) b)
bytes_or None b = refl
bytes_or (Some a) b = refl

size_append : (areas more : List AreaEntry) (x : ℕ)
    → area_size (areas ++ more) x ≡ option_or (area_size areas x) (area_size more x)
size_append areas more x =
    ap (option_map (λ entry. entry.bytes)) (find-append (λ entry. entry.area == x) areas more)
    ∙ bytes_or (find (λ entry. entry.area == x) areas) (find (λ entry. entry.area == x) more)

calls_append : (host : HostValues) (ps qs : List PlacedHeader) → calls_of host (ps ++ qs) ≡ calls_of host ps ++ calls_of host qs
calls_append host ps qs = filter_map-append (λ p. header_call host p.header p.content) ps qs

-- ---- contents that agree

-- an area of a size, or of none, has these contents in the first list and in the second
abbrev pub Agree : Option ℕ → Option Data → Option Data → Type 0
Agree None None None = Unit {0}
Agree (Some bytes) (Some first) (Some second) = (k : ℕ) → k < bytes / 4096 → data_page second k ≡ data_page first k
Agree _ _ _ = ⊥

agree_or : (s t : Option ℕ) (a c b d : Option Data) → Agree s a b → Agree t c d
    → Agree (option_or s t) (option_or a c) (option_or b d)
agree_or None t None c None d one other = other
agree_or (Some bytes) t (Some a) c (Some b) d one other = one
agree_or s t a c b d one other = absurd one

-- a byte of a page that an area has
content_alike : (a b : Data) (k j : ℕ) → data_page b k ≡ data_page a k → j < 4096
    → content_byte b (4096 * k + j) ≡ content_byte a (4096 * k + j)
unfolding content_byte
content_alike a b k j same within =
    let page : (4096 * k + j) / 4096 ≡ k = omega arith in
    ap (λ bytes. slice_index bytes ((4096 * k + j) % 4096)) (ap (data_page b) page ∙ same ∙ sym (ap (data_page a) page))

byte_alike : (s t : Option ℕ) (a b : Option Data) (settings : List Setting) (k j : ℕ) → Agree s a b
    → k < unwrap_or (option_or s t) 0 / 4096 → j < 4096
    → byte_under b settings (4096 * k + j) ≡ byte_under a settings (4096 * k + j)
unfolding area_byte
byte_alike None t None None settings k j agree few within = refl
byte_alike (Some bytes) t (Some a) (Some b) settings k j agree few within =
    ap (λ byte. byte_or byte (4096 * k + j) (last_over (4096 * k + j) settings)) (content_alike a b k j (agree k few) within)
byte_alike s t a b settings k j agree few within = absurd agree

-- ---- lists of headers that fill areas alike

-- Headers of the first list, of which all that declare areas declare these, and headers of the second.
pub record FilledAlike (ch : Change) (host : HostValues) (areas : List AreaEntry) (old new : List PlacedHeader) : Type 0 where
  pub settings : (x : ℕ) → ch.own x ≡ true
      → settings_of (ch.area_to x) (calls_of host new) ≡ settings_of x (calls_of host old)
  pub contents : (x : ℕ) → ch.own x ≡ true
      → Agree (area_size areas x) (content_of x (calls_of host old)) (content_of (ch.area_to x) (calls_of host new))

pub filled_none : (ch : Change) (host : HostValues) → FilledAlike ch host [] [] []
filled_none ch host = record { settings = λ x own. refl; contents = λ x own. tt }

filled_join : (ch : Change) (host : HostValues) (areas more : List AreaEntry) (old new ps qs : List PlacedHeader)
    → FilledAlike ch host areas old new → FilledAlike ch host more ps qs
    → FilledAlike ch host (areas ++ more) (old ++ ps) (new ++ qs)
filled_join ch host areas more old new ps qs one other = record {
  settings = λ x own.
      set (ch.area_to x) new qs
      ∙ ap₂ (λ a b. a ++ b) (one.settings x own) (other.settings x own)
      ∙ sym (set x old ps);
  contents = λ x own.
      subst (λ s. Agree s (content_of x (calls_of host (old ++ ps))) (content_of (ch.area_to x) (calls_of host (new ++ qs))))
      (sym (size_append areas more x))
      (subst₂ (λ a b. Agree (option_or (area_size areas x) (area_size more x)) a b)
      (sym (has x old ps)) (sym (has (ch.area_to x) new qs))
      (agree_or (area_size areas x) (area_size more x) (content_of x (calls_of host old)) (content_of x (calls_of host ps))
      (content_of (ch.area_to x) (calls_of host new)) (content_of (ch.area_to x) (calls_of host qs))
      (one.contents x own) (other.contents x own)));
}
  where
    set : (x : ℕ) (us vs : List PlacedHeader)
        → settings_of x (calls_of host (us ++ vs)) ≡ settings_of x (calls_of host us) ++ settings_of x (calls_of host vs)
    set x us vs =
        ap (settings_of x) (calls_append host us vs) ∙ filter_map-append (setting_in x) (calls_of host us) (calls_of host vs)

    has : (x : ℕ) (us vs : List PlacedHeader)
        → content_of x (calls_of host (us ++ vs)) ≡ option_or (content_of x (calls_of host us)) (content_of x (calls_of host vs))
    has x us vs = ap (content_of x) (calls_append host us vs) ∙ content_append x (calls_of host us) (calls_of host vs)

-- ---- one header that says the same

-- how the second list says a header of the first
abbrev pub said : Change → ℕ → ℕ → List ℕ → Header → Header
said ch mask offset wanted h = with_offset offset (changed (λ old. mask) ch.area_to (with_digest wanted h))

settings_said : (ch : Change) → KeepsApart ch → (host : HostValues) (mask offset : ℕ) (wanted : List ℕ) (h : Header) (a b : Data)
    → NamesOwn ch.own h → (x : ℕ) → ch.own x ≡ true
    → settings_of (ch.area_to x) (cons_option (header_call host (said ch mask offset wanted h) b) [])
    ≡ settings_of x (cons_option (header_call host h a) [])
settings_said ch apart host mask offset wanted (Param kind area place) a b named x own =
    ap (λ t. cons_option (if t then Some (record { place = place; value = value_of host kind }) else None) [])
    (apart x area own named)
settings_said ch apart host mask offset wanted h a b named x own = refl

contents_said : (ch : Change) → KeepsApart ch → (host : HostValues) (mask offset : ℕ) (wanted : List ℕ) (h : Header) (a b : Data)
    → NamesOwn ch.own h → ((k : ℕ) → k < data_pages h → data_page b k ≡ data_page a k) → (x : ℕ) → ch.own x ≡ true
    → Agree (area_size (areas_of (h ∷ [])) x) (content_of x (cons_option (header_call host h a) []))
    (content_of (ch.area_to x) (cons_option (header_call host (said ch mask offset wanted h) b) []))
contents_said ch apart host mask offset wanted (Area bytes area at) a b named pages x own =
    subst
    (λ t. Agree (area_size (areas_of (Area bytes area at ∷ [])) x) (content_of x (cons_option (header_call host (Area bytes area at) a) []))
    (first_of_contents (cons_option (if t then Some b else None) [])))
    (sym (apart x area own named)) (choice (area == x))
  where
    choice : (t : Bool)
        → Agree (option_map (λ (entry : AreaEntry). entry.bytes) (cond t (Some (record { area = area; bytes = bytes })) None))
        (first_of_contents (cons_option (if t then Some a else None) []))
        (first_of_contents (cons_option (if t then Some b else None) []))
    choice true = pages
    choice false = tt
contents_said ch apart host mask offset wanted h a b named pages x own = tt

filled_same : (ch : Change) → KeepsApart ch → (host : HostValues) (p q : PlacedHeader) → IsSame ch p q
    → FilledAlike ch host (areas_of (headers_in (p ∷ []))) (p ∷ []) (q ∷ [])
filled_same ch apart host p q same = record {
  settings = λ x own.
      subst (λ g. settings_of (ch.area_to x) (cons_option (header_call host g q.content) []) ≡ settings_of x (calls_of host (p ∷ [])))
      (sym same.header)
      (settings_said ch apart host same.mask same.offset same.wanted p.header p.content q.content same.named x own);
  contents = λ x own.
      subst
      (λ g. Agree (area_size (areas_of (headers_in (p ∷ []))) x) (content_of x (calls_of host (p ∷ [])))
      (content_of (ch.area_to x) (cons_option (header_call host g q.content) [])))
      (sym same.header)
      (contents_said ch apart host same.mask same.offset same.wanted p.header p.content q.content same.named same.pages x own);
}

-- after a header of each list that say the same
pub filled_both : (ch : Change) → KeepsApart ch → (host : HostValues) (areas : List AreaEntry) (old new : List PlacedHeader)
    → (p q : PlacedHeader) → IsSame ch p q → FilledAlike ch host areas old new
    → FilledAlike ch host (areas ++ areas_of (headers_in (p ∷ []))) (old ++ p ∷ []) (new ++ q ∷ [])
filled_both ch apart host areas old new p q same filled =
    filled_join ch host areas (areas_of (headers_in (p ∷ []))) old new (p ∷ []) (q ∷ []) filled (filled_same ch apart host p q same)

-- ---- one header of the second list alone

settings_foreign : (ch : Change) (host : HostValues) (h : Header) (content : Data) → IsForeign ch h → (x : ℕ) → ch.own x ≡ true
    → settings_of (ch.area_to x) (cons_option (header_call host h content) []) ≡ []
settings_foreign ch host (Param kind area place) content foreign x own =
    ap (λ t. cons_option (if t then Some (record { place = place; value = value_of host kind }) else None) []) (foreign x own)
settings_foreign ch host h content foreign x own = refl

content_foreign : (ch : Change) (host : HostValues) (h : Header) (content : Data) → IsForeign ch h → (x : ℕ) → ch.own x ≡ true
    → content_of (ch.area_to x) (cons_option (header_call host h content) []) ≡ None
content_foreign ch host (Area bytes area at) content foreign x own =
    ap (λ t. first_of_contents (cons_option (if t then Some content else None) [])) (foreign x own)
content_foreign ch host h content foreign x own = refl

filled_foreign : (ch : Change) (host : HostValues) (q : PlacedHeader) → IsForeign ch q.header
    → FilledAlike ch host [] [] (q ∷ [])
filled_foreign ch host q foreign = record {
  settings = λ x own. settings_foreign ch host q.header q.content foreign x own;
  contents = λ x own. subst (λ c. Agree None None c) (sym (content_foreign ch host q.header q.content foreign x own)) tt;
}

pub filled_come : (ch : Change) (host : HostValues) (areas : List AreaEntry) (old new : List PlacedHeader) (q : PlacedHeader)
    → IsForeign ch q.header → FilledAlike ch host areas old new → FilledAlike ch host areas old (new ++ q ∷ [])
filled_come ch host areas old new q foreign filled =
    subst₂ (λ a o. FilledAlike ch host a o (new ++ q ∷ [])) (append-nil areas) (append-nil old)
    (filled_join ch host areas [] old new [] (q ∷ []) filled (filled_foreign ch host q foreign))

-- ---- the pages

-- a page of an area, as far as it reaches
pub filled_alike : (ch : Change) (host : HostValues) (areas more : List AreaEntry) (old new : List PlacedHeader)
    → FilledAlike ch host areas old new → (x k : ℕ) → ch.own x ≡ true → k < unwrap_or (area_size (areas ++ more) x) 0 / 4096
    → filled_page host new (ch.area_to x) k ≡ filled_page host old x k
unfolding filled_page
filled_alike ch host areas more old new filled x k own few =
    map_agree (λ j. filled_byte host new (ch.area_to x) (4096 * k + j)) (λ j. filled_byte host old x (4096 * k + j)) 4096
    (λ j within.
    ap (λ settings. byte_under (content_of (ch.area_to x) (calls_of host new)) settings (4096 * k + j)) (filled.settings x own)
    ∙ byte_alike (area_size areas x) (area_size more x) (content_of x (calls_of host old))
    (content_of (ch.area_to x) (calls_of host new)) (settings_of x (calls_of host old)) k j (filled.contents x own)
    (subst (λ s. k < unwrap_or s 0 / 4096) (size_append areas more x) few) within)
