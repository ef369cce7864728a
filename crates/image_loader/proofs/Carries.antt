-- A machine on its way through the headers of an image.
use Rattle.std.specs.Prelude.{sum_by}
use Rattle.std.proofs.Common.{◌≡◌, ℕ, ◌+◌, ◌≤◌, List, [], ◌∷◌, ◌++◌, length, map, refl, sym, ap, subst, ◌∙◌, arith, append_assoc, length-append, true, false, None}
use Rattle.std.specs.List.{flat_map, AllByRecursion}
use Rattle.std.proofs.lemmas.List.{append-nil}
use Rattle.std.proofs.lemmas.List.Elements.{filter-append}
use Rattle.igvm_headers.specs.SpellingConditions.{NumbersFit}
use Rattle.igvm_headers.specs.declared.header.Header.{Header}
use Rattle.igvm_headers.specs.declared.header.Header.TheVariants.{Area, Insert}
use Rattle.igvm_image.specs.Headers.{PlacedHeader, IsAccepted, placed_headers}
use Rattle.platform_masks.specs.Masks.{applies}
use Rattle.host_set.specs.declared.range.PlanRange.{PlanRange}
use Rattle.directive_rules.specs.FirstMisfit.{headers_for, misfit_after, setting_of, headers_in}
use Rattle.igvm_image.specs.RulesInWords.{declared_bytes}
use Rattle.image_loader.specs.declared.carrier.Carrier as carriers
use Rattle.launch_platform.specs.Machine as machines
use Rattle.launch_platform.specs.Commands.{Command}
use Rattle.param_areas.specs.AreaBytes.{Space}
use Rattle.image_loader.specs.Loads.{Load, directives}
use Rattle.image_loader.specs.FilledAreas.{filled_page}
use Rattle.image_loader.specs.PlacedPages.{entry_of, header_pages, header_contexts, pages_behind, placed, contexts}
use Rattle.image_loader.specs.LoadCommands.{Did, Stopped, pages_commands, context_commands, header_commands, commands_behind, commands, grown}
use Rattle.image_loader.specs.Fitting.{AreasAreBehind, MachineIsBehind, Fits, IsNext, page_in, space_by, space_after}
use Rattle.image_loader.specs.Preparing.{FitsAPlan}
use Rattle.image_loader.specs.Carrying.{Carries, Ran}
use Rattle.image_loader.proofs.Carried.{did_none, did_more, stopped_after, stopped_before}
use Rattle.image_loader.proofs.Done.{header_done, slot_after}
use Rattle.image_loader.proofs.NextHeaders.{no_later_misfit}

-- ---- the headers that count

-- a header that counts, in front of others
counted : (mask : ℕ) (p : PlacedHeader) (left : List PlacedHeader) → applies p.header mask ≡ true
    → headers_for mask (p ∷ left) ≡ p ∷ headers_for mask left
counted mask p left is = grind arith

-- one that doesn't
passed : (mask : ℕ) (p : PlacedHeader) (left : List PlacedHeader) → applies p.header mask ≡ false
    → headers_for mask (p ∷ left) ≡ headers_for mask left
passed mask p left is = grind arith

-- a header behind others, where it counts
counted_behind : (mask : ℕ) (done : List PlacedHeader) (p : PlacedHeader) → applies p.header mask ≡ true
    → headers_for mask (done ++ p ∷ []) ≡ headers_for mask done ++ p ∷ []
counted_behind mask done p is =
    filter-append (λ q. applies q.header mask) done (p ∷ []) ∙ ap (λ ps. headers_for mask done ++ ps) (counted mask p [] is)

-- and where it doesn't
passed_behind : (mask : ℕ) (done : List PlacedHeader) (p : PlacedHeader) → applies p.header mask ≡ false
    → headers_for mask (done ++ p ∷ []) ≡ headers_for mask done
passed_behind mask done p is =
    filter-append (λ q. applies q.header mask) done (p ∷ []) ∙ ap (λ ps. headers_for mask done ++ ps)
    (passed mask p [] is) ∙ append-nil _

-- ---- the walk

-- before the first header
pub carries_none : {C M : Type 0} (g : carriers.Ghosts C M) (load : Load) (left : List PlacedHeader) (space : Space)
    (fits : FitsAPlan load) (a : M)
    → placed_headers load.file ≡ left → space.areas ≡ []
    → space.total ≡ sum_by declared_bytes (headers_in (directives load))
    → g.state a ≡ machines.started load.platform.kind
    → length (placed load) ≤ (g.spares a).pages → length (contexts load) ≤ (g.spares a).contexts
    → Carries g load left space a a
carries_none g load left space fits a same none total started pages added =
    subst (λ (ps : List PlacedHeader). Carries g load ps space a a) same
    (record {
      done = [];
      whole = refl;
      plan = fits.plan;
      fits = fits.fits;
      areas = record { told = none; order = tt };
      machine = subst (λ (s : machines.State). MachineIsBehind load [] s) (sym started)
          (record { placed = λ gpa. refl; contexts = λ vp. refl });
      room = total;
      before = [];
      used_pages = 0;
      used_contexts = 0;
      did = did_none g a;
      split = ap (λ (s : machines.State). commands_behind load (length s.entries) [] (directives load)) started;
      loading = ap (λ (s : machines.State). s.phase) started;
      kind = ap (λ (s : machines.State). s.kind) started;
      pages = pages;
      contexts = added;
    })

-- what holds of all holds of one among them
among : {A : Type 0} (P : A → Type 0) (done left : List A) (x : A) → AllByRecursion P (done ++ x ∷ left) → P x
among P [] left x all = all.0
among P (y ∷ done) left x all = among P done left x all.1

-- a header that counts, behind those that were gone through
pub next : {C M : Type 0} (g : carriers.Ghosts C M) (load : Load) (all left : List PlacedHeader) (p : PlacedHeader)
    (space : Space) (a b : M)
    (c : Carries g load all space a b) → all ≡ p ∷ left → IsAccepted load.file
    → applies p.header load.platform.mask ≡ true → AllByRecursion (λ q. NumbersFit q.header) (placed_headers load.file)
    → IsNext load c.plan c.done p left
next g load all left p space a b c is accepted counts numbers = record {
  whole = ap (λ ps. c.done ++ ps) (sym is) ∙ c.whole;
  accepted = accepted;
  counts = counts;
  fits = subst (λ ps. misfit_after (setting_of load.file load.platform c.plan load.host) (headers_for load.platform.mask c.done) (headers_for load.platform.mask ps) ≡ None) is c.fits;
  numbers = among (λ q. NumbersFit q.header) c.done left p
      (subst (AllByRecursion (λ q. NumbersFit q.header)) (sym (ap (λ ps. c.done ++ ps) (sym is) ∙ c.whole)) numbers);
}

-- there is room for what it places
pub record HasRoom {C M : Type 0} (g : carriers.Ghosts C M) (load : Load) (space : Space) (p : PlacedHeader)
    (b : M) : Type 0 where
  pub pages : length (header_pages load (page_in space) p) ≤ (g.spares b).pages
  pub contexts : length (header_contexts p) ≤ (g.spares b).contexts

-- what is placed by the headers that are left, the first of which counts
left_pages : (load : Load) (before left : List PlacedHeader) (p : PlacedHeader) → applies p.header load.platform.mask ≡ true
    → pages_behind load before (headers_for load.platform.mask (p ∷ left))
    ≡ header_pages load (filled_page load.host before) p ++ pages_behind load (before ++ p ∷ [])
    (headers_for load.platform.mask left)
left_pages load before left p counts = ap (pages_behind load before) (counted load.platform.mask p left counts)

left_contexts : (load : Load) (left : List PlacedHeader) (p : PlacedHeader) → applies p.header load.platform.mask ≡ true
    → flat_map header_contexts (headers_for load.platform.mask (p ∷ left))
    ≡ header_contexts p ++ flat_map header_contexts (headers_for load.platform.mask left)
left_contexts load left p counts = ap (flat_map header_contexts) (counted load.platform.mask p left counts)

-- there is room for what the headers behind it place, besides its own
record HasRest {C M : Type 0} (g : carriers.Ghosts C M) (load : Load) (before left : List PlacedHeader) (space : Space)
    (p : PlacedHeader) (b : M) : Type 0 where
  pages : length (header_pages load (page_in space) p)
      + length (pages_behind load (before ++ p ∷ []) (headers_for load.platform.mask left)) ≤ (g.spares b).pages
  contexts : length (header_contexts p) + length (flat_map header_contexts (headers_for load.platform.mask left)) ≤
      (g.spares b).contexts

has_rest : {C M : Type 0} (g : carriers.Ghosts C M) (load : Load) (all left : List PlacedHeader) (p : PlacedHeader)
    (space : Space) (a b : M)
    (c : Carries g load all space a b) → all ≡ p ∷ left → applies p.header load.platform.mask ≡ true
    → header_pages load (page_in space) p ≡ header_pages load
    (filled_page load.host (headers_for load.platform.mask c.done)) p
    → HasRest g load (headers_for load.platform.mask c.done) left space p b
has_rest g load all left p space a b c is counts filled =
    let before = headers_for load.platform.mask c.done in
    let here = header_pages load (filled_page load.host before) p in
    let later = pages_behind load (before ++ p ∷ []) (headers_for load.platform.mask left) in
    let pages : length (here ++ later) ≤ (g.spares b).pages =
    subst (λ qs. length qs ≤ (g.spares b).pages) (left_pages load before left p counts)
    (subst (λ ps. length (pages_behind load before (headers_for load.platform.mask ps)) ≤ (g.spares b).pages) is c.pages) in
    let added : length (header_contexts p ++ flat_map header_contexts (headers_for load.platform.mask left)) ≤
    (g.spares b).contexts =
    subst (λ cs. length cs ≤ (g.spares b).contexts) (left_contexts load left p counts)
    (subst (λ ps. length (flat_map header_contexts (headers_for load.platform.mask ps)) ≤ (g.spares b).contexts) is c.contexts) in
    record {
      pages = subst (λ qs. length qs + length later ≤ (g.spares b).pages) (sym filled)
          (omega (arith, pages, length-append here later));
      contexts = omega (arith, added, length-append (header_contexts p) (flat_map header_contexts (headers_for load.platform.mask left)));
    }

pub has_room : {C M : Type 0} (g : carriers.Ghosts C M) (load : Load) (all left : List PlacedHeader) (p : PlacedHeader)
    (space : Space) (a b : M)
    (c : Carries g load all space a b) → all ≡ p ∷ left → applies p.header load.platform.mask ≡ true
    → header_pages load (page_in space) p ≡ header_pages load
    (filled_page load.host (headers_for load.platform.mask c.done)) p
    → HasRoom g load space p b
has_room g load all left p space a b c is counts filled =
    let rest = has_rest g load all left p space a b c is counts filled in
    record { pages = omega (arith, rest.pages); contexts = omega (arith, rest.contexts) }

-- what the laws on the next header say
abbrev pub NextFits : Type 0
NextFits =
    (load : Load) (plan : List PlanRange) (done left : List PlacedHeader) (p : PlacedHeader) (space : Space)
    (s : machines.State)
    → IsNext load plan done p left → space.total ≡ sum_by declared_bytes (headers_in (directives load))
    → AreasAreBehind load (headers_for load.platform.mask done) space → MachineIsBehind load
    (headers_for load.platform.mask done) s
    → Fits load space s.entries s.contexts p

abbrev pub NextIsFilled : Type 0
NextIsFilled =
    (load : Load) (before : List PlacedHeader) (p : PlacedHeader) (space : Space) (s : machines.State)
    → AreasAreBehind load before space → Fits load space s.entries s.contexts p
    → header_pages load (page_in space) p ≡ header_pages load (filled_page load.host before) p

-- a header that counts fits, has the bytes of the rule, and there is room for it
pub record IsAt {C M : Type 0} (g : carriers.Ghosts C M) (load : Load) (done : List PlacedHeader) (space : Space)
    (p : PlacedHeader) (b : M) : Type 0 where
  pub fits : Fits load space (g.state b).entries (g.state b).contexts p
  pub filled : header_pages load (page_in space) p ≡ header_pages load
      (filled_page load.host (headers_for load.platform.mask done)) p
  pub room : HasRoom g load space p b

pub at_header : NextFits → NextIsFilled → {C M : Type 0} (g : carriers.Ghosts C M) (load : Load)
    (all left : List PlacedHeader) (p : PlacedHeader) (space : Space) (a b : M)
    (c : Carries g load all space a b) → all ≡ p ∷ left → IsAccepted load.file
    → applies p.header load.platform.mask ≡ true → AllByRecursion (λ q. NumbersFit q.header) (placed_headers load.file)
    → IsAt g load c.done space p b
at_header next_fits next_is_filled g load all left p space a b c is accepted counts numbers =
    let before = headers_for load.platform.mask c.done in
    let fits = next_fits load c.plan c.done left p space (g.state b)
    (next g load all left p space a b c is accepted counts numbers) c.room c.areas c.machine in
    let filled = next_is_filled load before p space (g.state b) c.areas fits in
    record { fits = fits; filled = filled; room = has_room g load all left p space a b c is counts filled }

-- no header changes how much room there is for areas
pub total_after : (load : Load) (p : PlacedHeader) (space : Space) → (space_after load.host p space).total ≡ space.total
unfolding space_after
total_after load p space = kept p.header
  where
    kept : (header : Header) → (space_by load.host header p.content space).total ≡ space.total
    kept (Area bytes area offset) = refl
    kept (Insert gpa mask area) = refl
    kept _ = refl

-- a header that doesn't count is behind as it is
pub carries_past : {C M : Type 0} (g : carriers.Ghosts C M) (load : Load) (all left : List PlacedHeader)
    (p : PlacedHeader) (space : Space) (a b : M)
    → Carries g load all space a b → all ≡ p ∷ left → applies p.header load.platform.mask ≡ false
    → Carries g load left space a b
carries_past g load all left p space a b c is counts =
    let same = sym (passed_behind load.platform.mask c.done p counts) in
    let rest = ap (headers_for load.platform.mask) is ∙ passed load.platform.mask p left counts in
    let setting = setting_of load.file load.platform c.plan load.host in
    record {
      done = c.done ++ p ∷ [];
      whole = append_assoc c.done (p ∷ []) left ∙ ap (λ ps. c.done ++ ps) (sym is) ∙ c.whole;
      plan = c.plan;
      fits = subst (λ before. misfit_after setting before (headers_for load.platform.mask left) ≡ None) same
          (subst (λ ps. misfit_after setting (headers_for load.platform.mask c.done) ps ≡ None) rest c.fits);
      areas = subst (λ before. AreasAreBehind load before space) same c.areas;
      machine = subst (λ before. MachineIsBehind load before (g.state b)) same c.machine;
      room = c.room;
      before = c.before;
      used_pages = c.used_pages;
      used_contexts = c.used_contexts;
      did = c.did;
      split = subst (λ before. c.before ++ commands_behind load (length (g.state b).entries) before (headers_for load.platform.mask left) ≡ commands load) same
          (subst (λ ps. c.before ++ commands_behind load (length (g.state b).entries) (headers_for load.platform.mask c.done) ps ≡ commands load) rest c.split);
      loading = c.loading;
      kind = c.kind;
      pages = subst (λ before. length (pages_behind load before (headers_for load.platform.mask left)) ≤ (g.spares b).pages) same
          (subst (λ ps. length (pages_behind load (headers_for load.platform.mask c.done) ps) ≤ (g.spares b).pages) rest c.pages);
      contexts = subst (λ ps. length (flat_map header_contexts ps) ≤ (g.spares b).contexts) rest c.contexts;
    }

-- the commands that are left are those of the header and of the others
left_commands : (load : Load) (slot : ℕ) (before left : List PlacedHeader) (p : PlacedHeader) (area_page : ℕ → ℕ → List ℕ)
    → applies p.header load.platform.mask ≡ true → header_pages load area_page p ≡ header_pages load
    (filled_page load.host before) p
    → commands_behind load slot before (headers_for load.platform.mask (p ∷ left))
    ≡ header_commands load area_page slot p
    ++ commands_behind load (slot + length (header_pages load area_page p)) (before ++ p ∷ [])
    (headers_for load.platform.mask left)
left_commands load slot before left p area_page counts filled =
    ap (commands_behind load slot before) (counted load.platform.mask p left counts)
    ∙ ap (λ qs. (pages_commands slot qs ++ context_commands (header_contexts p)) ++ commands_behind load (slot + length qs) (before ++ p ∷ []) (headers_for load.platform.mask left)) (sym filled)

-- a header that counts, and was carried out
pub carries_more : {C M : Type 0} (g : carriers.Ghosts C M) (load : Load) (all left : List PlacedHeader)
    (p : PlacedHeader) (space after : Space) (a b n : M)
    (c : Carries g load all space a b) → all ≡ p ∷ left → applies p.header load.platform.mask ≡ true
    → header_pages load (page_in space) p ≡ header_pages load
    (filled_page load.host (headers_for load.platform.mask c.done)) p
    → AreasAreBehind load (headers_for load.platform.mask c.done ++ p ∷ []) (space_after load.host p space)
    → MachineIsBehind load (headers_for load.platform.mask c.done ++ p ∷ [])
    (grown (g.state b) (map entry_of (header_pages load (page_in space) p)) (header_contexts p))
    → Did g (header_commands load (page_in space) (length (g.state b).entries) p)
    (length (header_pages load (page_in space) p)) (length (header_contexts p)) b n
    → after ≡ space_after load.host p space → Carries g load left after a n
carries_more g load all left p space after a b n c is counts filled areas machine did told =
    let mask = load.platform.mask in
    let before = headers_for mask c.done in
    let same = sym (counted_behind mask c.done p counts) in
    let setting = setting_of load.file load.platform c.plan load.host in
    let qs = header_pages load (page_in space) p in
    let here = header_commands load (page_in space) (length (g.state b).entries) p in
    let state : g.state n ≡ grown (g.state b) (map entry_of qs) (header_contexts p) = did.state ∙ header_done load
    (page_in space) p (g.state b) in
    let slot : length (g.state b).entries + length qs ≡ length (g.state n).entries =
    slot_after (g.state b) qs (header_contexts p) ∙ ap (λ (s : machines.State). length s.entries) (sym state) in
    let none = subst (λ ps. misfit_after setting before ps ≡ None)
    (ap (headers_for mask) is ∙ counted mask p left counts) c.fits in
    let later = commands_behind load (length (g.state n).entries) (before ++ p ∷ []) (headers_for mask left) in
    let split : (c.before ++ here) ++ later ≡ commands load =
    append_assoc c.before here later
    ∙ ap (λ k. c.before ++ (here ++ commands_behind load k (before ++ p ∷ []) (headers_for mask left))) (sym slot)
    ∙ ap (λ cs. c.before ++ cs) (sym (left_commands load (length (g.state b).entries) before left p (page_in space) counts filled))
    ∙ ap (λ ps. c.before ++ commands_behind load (length (g.state b).entries) before (headers_for mask ps)) (sym is)
    ∙ c.split in
    let room = has_rest g load all left p space a b c is counts filled in
    record {
      done = c.done ++ p ∷ [];
      whole = append_assoc c.done (p ∷ []) left ∙ ap (λ ps. c.done ++ ps) (sym is) ∙ c.whole;
      plan = c.plan;
      fits = subst (λ before. misfit_after setting before (headers_for mask left) ≡ None) same
          (no_later_misfit setting before p (headers_for mask left) none);
      areas = subst (λ before. AreasAreBehind load before after) same
          (subst (λ s. AreasAreBehind load (before ++ p ∷ []) s) (sym told) areas);
      machine = subst (λ before. MachineIsBehind load before (g.state n)) same
          (subst (λ s. MachineIsBehind load (before ++ p ∷ []) s) (sym state) machine);
      room = ap (λ (s : Space). s.total) told ∙ total_after load p space ∙ c.room;
      before = c.before ++ here;
      used_pages = c.used_pages + length qs;
      used_contexts = c.used_contexts + length (header_contexts p);
      did = did_more g c.before here c.used_pages c.used_contexts _ _ a b n c.did did;
      split = subst (λ before. (c.before ++ here) ++ commands_behind load (length (g.state n).entries) before (headers_for mask left) ≡ commands load) same split;
      loading = ap (λ (s : machines.State). s.phase) state ∙ c.loading;
      kind = ap (λ (s : machines.State). s.kind) state ∙ c.kind;
      pages = subst (λ before. length (pages_behind load before (headers_for mask left)) ≤ (g.spares n).pages) same
          (omega (arith, room.pages, did.spare_pages));
      contexts = omega (arith, room.contexts, did.spare_contexts);
    }

-- a header at which a fault stopped the machine
pub carries_stopped : {C M : Type 0} (g : carriers.Ghosts C M) (load : Load) (all left : List PlacedHeader)
    (p : PlacedHeader) (space : Space) (a b n : M)
    (c : Carries g load all space a b) → all ≡ p ∷ left → applies p.header load.platform.mask ≡ true
    → header_pages load (page_in space) p ≡ header_pages load
    (filled_page load.host (headers_for load.platform.mask c.done)) p
    → Stopped g (header_commands load (page_in space) (length (g.state b).entries) p) b n
    → Stopped g (commands load) a n
carries_stopped g load all left p space a b n c is counts filled stopped =
    let mask = load.platform.mask in
    let before = headers_for mask c.done in
    let here = header_commands load (page_in space) (length (g.state b).entries) p in
    let later = commands_behind load (length (g.state b).entries + length (header_pages load (page_in space) p))
    (before ++ p ∷ []) (headers_for mask left) in
    let split : c.before ++ (here ++ later) ≡ commands load =
    ap (λ cs. c.before ++ cs) (sym (left_commands load (length (g.state b).entries) before left p (page_in space) counts filled))
    ∙ ap (λ ps. c.before ++ commands_behind load (length (g.state b).entries) before (headers_for mask ps)) (sym is)
    ∙ c.split in
    subst (λ (cs : List Command). Stopped g cs a n) split
    (stopped_after g c.before _ c.used_pages c.used_contexts a b n c.did (stopped_before g here later b n stopped))

-- behind the last header
pub carries_all : {C M : Type 0} (g : carriers.Ghosts C M) (load : Load) (left : List PlacedHeader) (space : Space) (a b : M)
    → Carries g load left space a b → left ≡ [] → Ran g (commands load) a b
carries_all g load left space a b c none =
    let split : c.before ≡ commands load =
    sym (append-nil c.before)
    ∙ ap (λ ps. c.before ++ commands_behind load (length (g.state b).entries) (headers_for load.platform.mask c.done) (headers_for load.platform.mask ps)) (sym none)
    ∙ c.split in
    subst (λ (cs : List Command). Ran g cs a b) split
    (record { state = c.did.state; held = c.did.held; counted = c.did.counted })
