-- How entries and contexts stand in memory: a row of what each has beside its page, and the pages in one region, those
-- of the entries first.
use Rattle.std.specs.Prelude.{ℕ, ◌≡◌, ◌≤◌, ◌+◌, ◌-◌, ◌%◌, List, [], ◌∷◌, length, drop}
use Rattle.std.specs.List.{AllByRecursion}
use Rattle.launch_platform.specs.declared.guest_pages.EntryRow.{EntryRow}
use Rattle.launch_platform.specs.declared.guest_pages.ContextRow.{ContextRow}
use Rattle.launch_platform.specs.Machine.{Entry, Context, Spares}

-- what contracts see: the entries, the contexts, and how many more there is room for
pub record PagesView : Type 0 where
  pub entries : List Entry
  pub contexts : List Context
  pub spares : Spares

-- each row with its page
abbrev pub with_pages : {M E : Type 0} → (M → List ℕ → E) → List M → List (List ℕ) → List E
with_pages join [] pages = []
with_pages join (row ∷ rows) [] = []
with_pages join (row ∷ rows) (page ∷ pages) = join row page ∷ with_pages join rows pages

-- the entry of a row and a page
abbrev pub entry_with : EntryRow → List ℕ → Entry
entry_with row page = record { gpa = row.gpa; page = page; tag = row.tag; extended = row.extended }

-- the context of a row and a page
abbrev pub context_with : ContextRow → List ℕ → Context
context_with row page = record { vp = row.vp; gpa = row.gpa; page = page }

-- what contracts see of these rows and this region, with slots for so many entries and contexts
abbrev pub view_in : ℕ → ℕ → List EntryRow → List ContextRow → List (List ℕ) → PagesView
view_in pages contexts es cs region = record {
  entries = with_pages entry_with es region;
  contexts = with_pages context_with cs (drop pages region);
  spares = record { pages = pages - length es; contexts = contexts - length cs };
}

-- There is a page in the region for each entry and context that may come, and room for its row. Addresses are those of
-- pages.
pub record AreRoomy (pages contexts entry_room context_room : ℕ) (es : List EntryRow) (cs : List ContextRow) (region : List (List ℕ)) : Type 0 where
  pub slots : length region ≡ pages + contexts
  pub few_pages : pages ≤ 524288
  pub few_contexts : contexts ≤ 65536
  pub entries : length es ≤ pages
  pub added : length cs ≤ contexts
  pub room_entries : pages ≤ entry_room
  pub room_contexts : contexts ≤ context_room
  pub aligned : AllByRecursion (λ row. row.gpa % 4096 ≡ 0) es
