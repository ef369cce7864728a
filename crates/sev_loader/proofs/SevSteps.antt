-- The commands of a SEV machine as the loader sees them.
use Rattle.std.proofs.Common.{◌≡◌, ℕ, suc, zero, List, [], ◌∷◌, ◌++◌, map, refl, sym, ap, subst, ◌∙◌, append-nil, Some, None, Bool, true, false, inl, inr}
use Rattle.std.specs.Prelude.{slice_get, ◌==◌, ◌||◌, OnOk, Result, Ok, Err}
use Rattle.igvm_headers.specs.declared.platform_kind.PlatformKind.{PlatformKind}
use Rattle.igvm_headers.specs.declared.platform_kind.PlatformKind.TheVariants.{Sev, SevEs}
use Rattle.igvm_headers.specs.declared.tag.Tag.{Tag}
use Rattle.igvm_headers.specs.declared.tag.Tag.TheVariants as tag
use Rattle.directive_rules.specs.MisfitRows.{has_contexts}
use Rattle.launch_platform.specs.Machine.{Entry, Spares, LaunchRecord, is_placed}
use Rattle.launch_platform.specs.Commands as launch
use Rattle.sev_chain.specs.SevBytes.{HasSevDigest}
use Rattle.sev_platform.specs.SevMachine.{SevPage, SevState, has_page}
use Rattle.sev_platform.specs.SevCommands as sev
use Rattle.sev_loader.specs.SevAsLaunch.{as_entry, as_state, joined}
use Rattle.sev_loader.proofs.SevAgreement.{StreamsJoin, joined-append}

-- ---- the entries

-- an address is taken where it is
pub same_places : (gpa : ℕ) (es : List SevPage) → is_placed gpa (map as_entry es) ≡ has_page gpa es
same_places gpa [] = refl
same_places gpa (e ∷ es) = ap (λ b. (e.gpa == gpa) || b) (same_places gpa es)

-- an entry that the loader sees is one of the machine's
pub record Seen (es : List SevPage) (slot : ℕ) (entry : Entry) : Type 0 where
  pub page : SevPage
  pub there : slice_get es slot ≡ Some page
  pub same : as_entry page ≡ entry

pub seen : (es : List SevPage) (slot : ℕ) (entry : Entry) → slice_get (map as_entry es) slot ≡ Some entry
    → Seen es slot entry
seen [] slot entry is = cc
seen (e ∷ es) zero entry is = record { page = e; there = refl; same = cc }
seen (e ∷ es) (suc slot) entry is =
    let later = seen es slot entry is in
    record { page = later.page; there = later.there; same = later.same }

-- one without a tag is not measured
unmeasured : (measured : Bool) (gpa : ℕ) (page : List ℕ)
    → (as_entry (record { gpa = gpa; page = page; measured = measured })).tag ≡ None → measured ≡ false
unmeasured true gpa page is = cc
unmeasured false gpa page is = refl

-- what is measured of one is changed where it is
changed : (slot : ℕ) (es : List SevPage)
    → map as_entry (launch.change_at slot sev.measured es) ≡ launch.change_at slot (launch.tagged tag.Normal) (map as_entry es)
changed slot [] = refl
changed zero (e ∷ es) = refl
changed (suc slot) (e ∷ es) = ap (λ rest. as_entry e ∷ rest) (changed slot es)

-- ---- what is asked of a command

-- SEV and SEV-ES take the tag Normal alone
pub only_normal : (kind : PlatformKind) (t : Tag) (page : List ℕ) → HasSevDigest kind → launch.TagFits kind t page
    → t ≡ tag.Normal
only_normal Sev tag.Normal page sev fits = refl
only_normal Sev _ page sev fits = absurd fits
only_normal SevEs tag.Normal page sev fits = refl
only_normal SevEs _ page sev fits = absurd fits
only_normal kind t page (inl is) fits = cc
only_normal kind t page (inr is) fits = cc

-- an entry that can be added can be updated
pub can_update : (slot : ℕ) (t : Tag) (s : SevState) → launch.CanAdd slot t (as_state s) → sev.CanUpdate slot s
can_update slot t s can =
    let page = seen s.entries slot can.entry can.there in
    record {
      entry = page.page;
      there = page.there;
      once = unmeasured page.page.measured page.page.gpa page.page.page
          (ap (λ (e : Entry). e.tag) page.same ∙ can.untagged);
    }

-- of the kinds that are launched so, SEV-ES has contexts
pub only_sev_es : (kind : PlatformKind) → HasSevDigest kind → has_contexts kind ≡ true → kind ≡ SevEs
only_sev_es SevEs sev has = refl
only_sev_es Sev sev has = cc
only_sev_es kind (inl is) has = cc
only_sev_es kind (inr is) has = cc

-- ---- what a command does

-- what a machine may have measured, in records
abbrev pub InRecords : (List ℕ → Type 0) → List LaunchRecord → Type 0
InRecords holds records = holds (joined records)

-- the bytes of a command's records follow
follow : StreamsJoin → (Held Holds : List ℕ → Type 0) (bytes : List ℕ) (more : List LaunchRecord) → joined more ≡ bytes
    → ((before : List ℕ) → Held before → Holds (before ++ bytes))
    → (records : List LaunchRecord) → InRecords Held records → InRecords Holds (records ++ more)
follow join Held Holds bytes more same step records held =
    subst Holds (sym (joined-append join records more ∙ ap (λ bs. joined records ++ bs) same)) (step (joined records) held)

-- what is measured of an entry that is updated
update_given : (kind : PlatformKind) (es : List SevPage) (slot : ℕ) → HasSevDigest kind
    → joined (launch.of_entry (launch.records_of_add kind tag.Normal) (slice_get (map as_entry es) slot))
    ≡ sev.bytes_of_entry (slice_get es slot)
update_given kind [] slot sev = refl
update_given Sev (e ∷ es) zero sev = append-nil e.page
update_given SevEs (e ∷ es) zero sev = append-nil e.page
update_given kind (e ∷ es) zero (inl is) = cc
update_given kind (e ∷ es) zero (inr is) = cc
update_given kind (e ∷ es) (suc slot) sev = update_given kind es slot sev

pub updated : StreamsJoin → (slot : ℕ) (t : Tag) (old new : SevState) (had has : Spares)
    (Held Holds : List ℕ → Type 0) → HasSevDigest old.kind → t ≡ tag.Normal
    → sev.IsSevStep (sev.Update slot) old new had has Held Holds
    → launch.IsStep (launch.Add slot t) (as_state old) (as_state new) had has (InRecords Held) (InRecords Holds)
updated join slot t old new had has Held Holds kind is step =
    subst (λ t. launch.IsStep (launch.Add slot t) (as_state old) (as_state new) had has (InRecords Held) (InRecords Holds))
    (sym is)
    (record {
      state = ap as_state step.state ∙ ap (λ es. record (as_state old) { entries = es }) (changed slot old.entries);
      spares = step.spares;
      held = follow join Held Holds (sev.bytes_of (sev.Update slot) old)
          (launch.records_of (launch.Add slot tag.Normal) (as_state old)) (update_given old.kind old.entries slot kind)
          step.held;
    })

-- what is measured of a context
context_given : (kind : PlatformKind) (gpa : ℕ) (page : List ℕ) → kind ≡ SevEs
    → joined (launch.records_of_context kind gpa page) ≡ page
context_given kind gpa page is = ap (λ kind. joined (launch.records_of_context kind gpa page)) is ∙ append-nil page

pub context_added : StreamsJoin → (vp gpa : ℕ) (page : List ℕ) (old new : SevState) (had has : Spares)
    (Held Holds : List ℕ → Type 0) → old.kind ≡ SevEs
    → sev.IsSevStep (sev.AddContext vp gpa page) old new had has Held Holds
    → launch.IsStep (launch.AddContext vp gpa page) (as_state old) (as_state new) had has (InRecords Held)
    (InRecords Holds)
context_added join vp gpa page old new had has Held Holds kind step = record {
  state = ap as_state step.state;
  spares = step.spares;
  held = follow join Held Holds page (launch.records_of_context old.kind gpa page) (context_given old.kind gpa page kind)
      step.held;
}

-- what follows from what an answer brings
pub on_ok : {T E P Q : Type 0} (r : Result T E) → (P → Q) → OnOk r P → OnOk r Q
on_ok (Ok x) follows p = follows p
on_ok (Err e) follows p = tt
