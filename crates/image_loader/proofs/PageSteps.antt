-- A page that is placed, added to the launch and extended, one command after the other.
use Rattle.std.proofs.Common.{◌≡◌, ℕ, List, [], ◌∷◌, ◌++◌, length, refl, sym, ap, subst, ◌∙◌, Bool, Option, Some, None}
use Rattle.std.specs.Prelude.{IfSome}
use Rattle.igvm_headers.specs.declared.tag.Tag.{Tag}
use Rattle.igvm_headers.specs.declared.tag.Tag.TheVariants as tag
use Rattle.launch_platform.specs.Machine.{State}
use Rattle.launch_platform.specs.Commands.{Place, Add, CanAdd, CanExtend, TagFits, after_command}
use Rattle.image_loader.specs.declared.carrier.Carrier as carriers
use Rattle.image_loader.specs.PlacedPages.{page_with}
use Rattle.image_loader.specs.LoadCommands.{Did, Stopped, add_command, extend_command, page_commands, state_after}
use Rattle.image_loader.proofs.Carried.{did_more, stopped_after, stopped_before}

-- what launch_platform's law `pages_enter` says
abbrev pub CanBeAdded : Type 0
CanBeAdded = (s : State) (gpa : ℕ) (page : List ℕ) (tag : Tag) → TagFits s.kind tag page
    → CanAdd (length s.entries) tag (after_command (Place gpa page) s)

abbrev pub CanBeExtended : Type 0
CanBeExtended = (s : State) (gpa : ℕ) (page : List ℕ) → CanExtend (length s.entries)
    (after_command (Add (length s.entries) tag.Normal) (after_command (Place gpa page) s))

-- what was just placed can be added
pub can_add : CanBeAdded → (old placed : State) (gpa slot : ℕ) (page : List ℕ) (tag : Option Tag)
    → placed ≡ after_command (Place gpa page) old → slot ≡ length old.entries
    → IfSome tag (λ t. TagFits old.kind t page) → IfSome tag (λ t. CanAdd slot t placed)
can_add law old placed gpa slot page None place at fits = tt
can_add law old placed gpa slot page (Some t) place at fits =
    subst (λ n. CanAdd n t placed) (sym at)
    (subst (λ s. CanAdd (length old.entries) t s) (sym place) (law old gpa page t fits))

-- and, where it was added as normal, extended
pub can_extend : CanBeExtended → (old placed added : State) (gpa slot : ℕ) (page : List ℕ) (of : Option Tag)
    → placed ≡ after_command (Place gpa page) old → slot ≡ length old.entries
    → added ≡ state_after (add_command of slot) placed → of ≡ Some tag.Normal → CanExtend slot added
can_extend law old placed added gpa slot page of place at add normal =
    let whole : added ≡ after_command (Add (length old.entries) tag.Normal) (after_command (Place gpa page) old) =
    add
    ∙ ap (λ o. state_after (add_command o slot) placed) normal
    ∙ ap (λ n. after_command (Add n tag.Normal) placed) at
    ∙ ap (after_command (Add (length old.entries) tag.Normal)) place in
    subst (λ n. CanExtend n added) (sym at)
    (subst (λ s. CanExtend (length old.entries) s) (sym whole) (law old gpa page))

-- adding changes neither the phase nor the kind
pub same_phase : (tag : Option Tag) (slot : ℕ) (s : State) → (state_after (add_command tag slot) s).phase ≡ s.phase
same_phase None slot s = refl
same_phase (Some tag) slot s = refl

pub same_kind : (tag : Option Tag) (slot : ℕ) (s : State) → (state_after (add_command tag slot) s).kind ≡ s.kind
same_kind None slot s = refl
same_kind (Some tag) slot s = refl

-- a page that was placed, added and extended
pub did_page : {C M : Type 0} (g : carriers.Ghosts C M) (gpa slot at : ℕ) (page : List ℕ) (tag : Option Tag)
    (extend : Bool) (a b c d : M) → Did g (Place gpa page ∷ []) 1 0 a b → Did g (add_command tag slot) 0 0 b c
    → Did g (extend_command extend slot) 0 0 c d → slot ≡ at
    → Did g (page_commands at (page_with gpa page tag extend)) 1 0 a d
did_page g gpa slot at page tag extend a b c d placed added extended same =
    subst (λ n. Did g (page_commands n (page_with gpa page tag extend)) 1 0 a d) same
    (did_more g (Place gpa page ∷ add_command tag slot) (extend_command extend slot) 1 0 0 0 a c d
    (did_more g (Place gpa page ∷ []) (add_command tag slot) 1 0 0 0 a b c placed added) extended)

-- a fault when it was to be added
pub stopped_adding : {C M : Type 0} (g : carriers.Ghosts C M) (gpa slot at : ℕ) (page : List ℕ) (tag : Option Tag)
    (extend : Bool) (a b c : M) → Did g (Place gpa page ∷ []) 1 0 a b → Stopped g (add_command tag slot) b c
    → slot ≡ at → Stopped g (page_commands at (page_with gpa page tag extend)) a c
stopped_adding g gpa slot at page tag extend a b c placed stopped same =
    subst (λ n. Stopped g (page_commands n (page_with gpa page tag extend)) a c) same
    (stopped_after g (Place gpa page ∷ []) (add_command tag slot ++ extend_command extend slot) 1 0 a b c placed
    (stopped_before g (add_command tag slot) (extend_command extend slot) b c stopped))

-- a fault when it was to be extended
pub stopped_extending : {C M : Type 0} (g : carriers.Ghosts C M) (gpa slot at : ℕ) (page : List ℕ) (tag : Option Tag)
    (extend : Bool) (a b c d : M) → Did g (Place gpa page ∷ []) 1 0 a b → Did g (add_command tag slot) 0 0 b c
    → Stopped g (extend_command extend slot) c d → slot ≡ at
    → Stopped g (page_commands at (page_with gpa page tag extend)) a d
stopped_extending g gpa slot at page tag extend a b c d placed added stopped same =
    subst (λ n. Stopped g (page_commands n (page_with gpa page tag extend)) a d) same
    (stopped_after g (Place gpa page ∷ add_command tag slot) (extend_command extend slot) 1 0 a c d
    (did_more g (Place gpa page ∷ []) (add_command tag slot) 1 0 0 0 a b c placed added) stopped)
