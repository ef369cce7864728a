-- Bytes that are added to a file one after the other.
use Rattle.std.proofs.Common.{◌≡◌, ◌⊎◌, ℕ, List, [], ◌++◌, length, refl, sym, ◌∙◌, ap, subst, arith, inl, inr, append-nil, append_assoc, length-append}
use Rattle.std.specs.Prelude.{Option, Result, Ok, Err, OnErr}
use Rattle.std.proofs.lemmas.List.{take_all, take-append-le}
use Rattle.igvm_headers.specs.FaultCounts.{Rose, HasCause}
use Rattle.igvm_outside.specs.Files.{Files, Nothing, writing, with_file, NeverFalls}
use Rattle.igvm_outside.specs.JoinedBytes.{HoldsFront}
use Rattle.igvm_outside.specs.ShelfCalls.{OnlyWrites}
use Rattle.igvm_outside.specs.declared.shelf.Shelf as shelves
use Rattle.pages_file.specs.Added.{IsAdded, IsBrokenOff}

-- two calls that only write a file are together one that only writes it
abbrev pub Composes : {S : Type 0} → shelves.Ghosts S → Type 0
Composes {S} s = (name : List ℕ) (first second third : S) → OnlyWrites s name first second → OnlyWrites s name second third → OnlyWrites s name first third

-- what holds a front of a text holds a front of a longer one
longer : (old new : Option Files) (name text more : List ℕ) → HoldsFront old new name text → HoldsFront old new name (text ++ more)
longer old new name text more h =
    (h.0, omega (arith, h.1, length-append text more), h.2 ∙ ap (with_file old name) (sym (take-append-le h.0 text more h.1)))

-- where all is written, a front of it is
pub whole_front : {A E : Type 0} (result : Result A E) (old new : Option Files) (name text : List ℕ) → new ≡ with_file old name text
    → OnErr result ((new ≡ old) ⊎ HoldsFront old new name text)
whole_front (Ok _) old new name text is = tt
whole_front (Err _) old new name text is =
    inr (length text, omega arith, is ∙ ap (with_file old name) (sym (take_all (length text) text (omega arith))))

-- before the first bytes
pub none_added : {S : Type 0} (s : shelves.Ghosts S) (name : List ℕ) (old : S) → s.state old ≡ writing (s.told old) name → IsAdded s name [] old old
none_added s name old is_open = record {
  written = λ told text had. had ∙ ap (with_file told name) (sym (append-nil text));
  open_still = is_open;
  no_fault = refl;
  only = record { others = inl refl; reads = λ file. omega arith; writes = λ file. omega arith; given = refl };
}

pub added_more : {S : Type 0} (s : shelves.Ghosts S) (name first second : List ℕ) (old mid new : S) → Composes s
    → IsAdded s name first old mid → IsAdded s name second mid new → IsAdded s name (first ++ second) old new
added_more s name first second old mid new composes before after = record {
  written = λ told text had. after.written told (text ++ first) (before.written told text had)
      ∙ ap (with_file told name) (append_assoc text first second);
  open_still = after.open_still;
  no_fault = after.no_fault ∙ before.no_fault;
  only = composes name old mid new before.only after.only;
}

pub broken_more : {S : Type 0} (s : shelves.Ghosts S) (name first second : List ℕ) (old mid new : S) → Composes s
    → IsAdded s name first old mid → IsBrokenOff s name second mid new → IsBrokenOff s name (first ++ second) old new
broken_more s name first second old mid new composes before after = record {
  front = λ told text had. subst (λ l. HoldsFront told (s.told new) name l) (append_assoc text first second)
      (after.front told (text ++ first) (before.written told text had));
  dropped = after.dropped;
  cause = subst (λ n. Rose n (s.write_faults new name)) before.no_fault after.cause;
  only = composes name old mid new before.only after.only;
}

-- where bytes are broken off, so are they with more behind them
pub broken_longer : {S : Type 0} (s : shelves.Ghosts S) (name first second : List ℕ) (old new : S)
    → IsBrokenOff s name first old new → IsBrokenOff s name (first ++ second) old new
broken_longer s name first second old new broken = record {
  front = λ told text had. subst (λ l. HoldsFront told (s.told new) name l) (append_assoc text first second)
      (longer told (s.told new) name (text ++ first) second (broken.front told text had));
  dropped = broken.dropped;
  cause = broken.cause;
  only = broken.only;
}

-- a call that fails breaks its bytes off
pub broken_by : {S A E : Type 0} (s : shelves.Ghosts S) (name more : List ℕ) (result : Result A E) (old new : S)
    → ((told : Option Files) (text : List ℕ) → s.told old ≡ with_file told name text → OnErr result (HoldsFront told (s.told new) name (text ++ more)))
    → OnErr result (s.state new ≡ Nothing) → HasCause (s.write_faults old name) (s.write_faults new name) result → OnlyWrites s name old new
    → OnErr result (IsBrokenOff s name more old new)
broken_by s name more (Ok _) old new front dropped cause only = tt
broken_by s name more (Err _) old new front dropped cause only = record { front = front; dropped = dropped; cause = cause; only = only }

-- a file that is begun is the one that changes
pub begun : {S : Type 0} (s : shelves.Ghosts S) (name : List ℕ) (old new : S) → s.told new ≡ with_file (s.told old) name []
    → NeverFalls (s.read_faults old) (s.read_faults new) → NeverFalls (s.write_faults old) (s.write_faults new) → s.given new ≡ s.given old
    → OnlyWrites s name old new
begun s name old new emptied reads writes given = record { others = inr ([], emptied); reads = reads; writes = writes; given = given }

-- a file that is ended stays as it is
pub ended : {S : Type 0} (s : shelves.Ghosts S) (name : List ℕ) (old new : S) → s.told new ≡ s.told old
    → NeverFalls (s.read_faults old) (s.read_faults new) → NeverFalls (s.write_faults old) (s.write_faults new) → s.given new ≡ s.given old
    → OnlyWrites s name old new
ended s name old new kept reads writes given = record { others = inl kept; reads = reads; writes = writes; given = given }
