-- Commands carried out one after the other.
use Rattle.std.proofs.Common.{◌≡◌, ℕ, ◌+◌, ◌<◌, ◌≤◌, List, [], ◌∷◌, ◌++◌, refl, sym, ap, subst, ◌∙◌, arith, append_assoc, Result, Ok, Err}
use Rattle.std.specs.Prelude.{OnErr}
use Rattle.std.proofs.lemmas.List.{append-nil}
use Rattle.igvm_headers.specs.FaultCounts.{Rose}
use Rattle.igvm_headers.specs.declared.tag.Tag.{Tag}
use Rattle.image_loader.specs.declared.carrier.Carrier as carriers
use Rattle.launch_platform.specs.Machine.{LaunchRecord}
use Rattle.launch_platform.specs.Commands.{Command, Place, Add, Extend, AddContext, records_of, IsStep, IsAsBefore}
use Rattle.image_loader.specs.LoadCommands.{state_after, records_by, Did, Stopped}
use Rattle.image_loader.proofs.CommandsJoined.{state_after-append, records_by-append}

-- what is held behind more commands
held_more : {C M : Type 0} (g : carriers.Ghosts C M) (cs ds : List Command) (a b c : M)
    → g.state b ≡ state_after cs (g.state a)
    → ((records : List LaunchRecord) → g.holds a records → g.holds b (records ++ records_by cs (g.state a)))
    → ((records : List LaunchRecord) → g.holds b records → g.holds c (records ++ records_by ds (g.state b)))
    → (records : List LaunchRecord) → g.holds a records → g.holds c (records ++ records_by (cs ++ ds) (g.state a))
held_more g cs ds a b c state first second records held =
    let there = second (records ++ records_by cs (g.state a)) (first records held) in
    let same : (records ++ records_by cs (g.state a)) ++ records_by ds (g.state b)
    ≡ records ++ records_by (cs ++ ds) (g.state a) =
    ap (λ s. (records ++ records_by cs (g.state a)) ++ records_by ds s) state
    ∙ append_assoc records (records_by cs (g.state a)) (records_by ds (state_after cs (g.state a)))
    ∙ ap (λ rs. records ++ rs) (sym (records_by-append cs ds (g.state a))) in
    subst (g.holds c) same there

-- ---- commands that were carried out

pub did_none : {C M : Type 0} (g : carriers.Ghosts C M) (a : M) → Did g [] 0 0 a a
did_none g a = record {
  state = refl;
  held = λ records held. subst (g.holds a) (sym (append-nil records)) held;
  spare_pages = omega arith;
  spare_contexts = omega arith;
  counted = refl;
}

pub did_more : {C M : Type 0} (g : carriers.Ghosts C M) (cs ds : List Command) (p q m n : ℕ) (a b c : M)
    → Did g cs p q a b → Did g ds m n b c → Did g (cs ++ ds) (p + m) (q + n) a c
did_more g cs ds p q m n a b c first second = record {
  state = second.state ∙ ap (state_after ds) first.state ∙ sym (state_after-append cs ds (g.state a));
  held = held_more g cs ds a b c first.state first.held second.held;
  spare_pages = omega arith;
  spare_contexts = omega arith;
  counted = second.counted ∙ first.counted;
}

-- one command
did_one : {C M : Type 0} (g : carriers.Ghosts C M) (c : Command) (p q : ℕ) (a b : M)
    → IsStep c (g.state a) (g.state b) (g.spares a) (g.spares b) (g.holds a) (g.holds b)
    → (g.spares b).pages + p ≡ (g.spares a).pages → (g.spares b).contexts + q ≡ (g.spares a).contexts
    → g.faults b ≡ g.faults a → Did g (c ∷ []) p q a b
did_one g c p q a b step pages contexts counted = record {
  state = step.state;
  held = λ records held.
      subst (λ rs. g.holds b (records ++ rs)) (sym (append-nil (records_of c (g.state a)))) (step.held records held);
  spare_pages = pages;
  spare_contexts = contexts;
  counted = counted;
}

pub did_place : {C M : Type 0} (g : carriers.Ghosts C M) (gpa : ℕ) (page : List ℕ) (a b : M)
    → IsStep (Place gpa page) (g.state a) (g.state b) (g.spares a) (g.spares b) (g.holds a) (g.holds b)
    → 0 < (g.spares a).pages → g.faults b ≡ g.faults a → Did g (Place gpa page ∷ []) 1 0 a b
did_place g gpa page a b step some counted =
    let pages = ap (λ s. s.pages) step.spares in
    let contexts = ap (λ s. s.contexts) step.spares in
    did_one g (Place gpa page) 1 0 a b step (omega arith) (omega arith) counted

pub did_add : {C M : Type 0} (g : carriers.Ghosts C M) (slot at : ℕ) (tag : Tag) (a b : M)
    → IsStep (Add slot tag) (g.state a) (g.state b) (g.spares a) (g.spares b) (g.holds a) (g.holds b)
    → slot ≡ at → g.faults b ≡ g.faults a → Did g (Add at tag ∷ []) 0 0 a b
did_add g slot at tag a b step same counted =
    subst (λ n. Did g (Add n tag ∷ []) 0 0 a b) same
    (let pages = ap (λ s. s.pages) step.spares in
    let contexts = ap (λ s. s.contexts) step.spares in
    did_one g (Add slot tag) 0 0 a b step (omega arith) (omega arith) counted)

pub did_extend : {C M : Type 0} (g : carriers.Ghosts C M) (slot at : ℕ) (a b : M)
    → IsStep (Extend slot) (g.state a) (g.state b) (g.spares a) (g.spares b) (g.holds a) (g.holds b)
    → slot ≡ at → g.faults b ≡ g.faults a → Did g (Extend at ∷ []) 0 0 a b
did_extend g slot at a b step same counted =
    subst (λ n. Did g (Extend n ∷ []) 0 0 a b) same
    (let pages = ap (λ s. s.pages) step.spares in
    let contexts = ap (λ s. s.contexts) step.spares in
    did_one g (Extend slot) 0 0 a b step (omega arith) (omega arith) counted)

pub did_add_context : {C M : Type 0} (g : carriers.Ghosts C M) (vp gpa : ℕ) (page : List ℕ) (a b : M)
    → IsStep (AddContext vp gpa page) (g.state a) (g.state b) (g.spares a) (g.spares b) (g.holds a) (g.holds b)
    → 0 < (g.spares a).contexts → g.faults b ≡ g.faults a → Did g (AddContext vp gpa page ∷ []) 0 1 a b
did_add_context g vp gpa page a b step some counted =
    let pages = ap (λ s. s.pages) step.spares in
    let contexts = ap (λ s. s.contexts) step.spares in
    did_one g (AddContext vp gpa page) 0 1 a b step (omega arith) (omega arith) counted

-- ---- commands that a fault has stopped

-- behind commands that were carried out
pub stopped_after : {C M : Type 0} (g : carriers.Ghosts C M) (cs ds : List Command) (p q : ℕ) (a b c : M)
    → Did g cs p q a b → Stopped g ds b c → Stopped g (cs ++ ds) a c
stopped_after g cs ds p q a b c first second = record {
  front = cs ++ second.front;
  back = second.back;
  split = append_assoc cs second.front second.back ∙ ap (λ es. cs ++ es) second.split;
  state =
      second.state ∙ ap (state_after second.front) first.state ∙ sym (state_after-append cs second.front (g.state a));
  held = held_more g cs second.front a b c first.state first.held second.held;
  rose = subst (λ n. Rose n (g.faults c)) first.counted second.rose;
  counted = omega (arith, first.counted, second.counted);
}

-- before commands that were never begun
pub stopped_before : {C M : Type 0} (g : carriers.Ghosts C M) (cs ds : List Command) (a b : M)
    → Stopped g cs a b → Stopped g (cs ++ ds) a b
stopped_before g cs ds a b s = record {
  front = s.front;
  back = s.back ++ ds;
  split = sym (append_assoc s.front s.back ds) ∙ ap (λ es. es ++ ds) s.split;
  state = s.state;
  held = s.held;
  rose = s.rose;
  counted = s.counted;
}

-- at the first of them
pub stopped_here : {C M : Type 0} (g : carriers.Ghosts C M) (cs : List Command) (a b : M)
    → IsAsBefore (g.state a) (g.state b) (g.spares a) (g.spares b) (g.holds a) (g.holds b)
    → Rose (g.faults a) (g.faults b) → g.faults a ≤ g.faults b → Stopped g cs a b
stopped_here g cs a b kept rose counted = record {
  front = [];
  back = cs;
  split = refl;
  state = kept.state;
  held = λ records held. subst (g.holds b) (sym (append-nil records)) (kept.held records held);
  rose = rose;
  counted = counted;
}

-- what holds of any result holds where it is an error
pub on_err : {T E P : Type 0} (r : Result T E) → P → OnErr r P
on_err (Ok x) p = tt
on_err (Err e) p = p
