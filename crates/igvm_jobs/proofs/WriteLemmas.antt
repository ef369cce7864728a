-- How the last step of a job ends that writes a file.
use Rattle.std.proofs.Common.{◌≡◌, ◌∙◌, ℕ, refl, sym, ap, subst, inl, inr, arith, List, length, Option, Some, Result, Ok, Err}
use Rattle.std.specs.Prelude.{IsErrAnd}
use Rattle.std.proofs.lemmas.List.{take_all}
use Rattle.igvm_outside.specs.Files.{Files, IsUnwritten, with_file}
use Rattle.igvm_outside.specs.ShelfCalls.{Writes}
use Rattle.igvm_outside.specs.declared.shelf.Shelf as shelves
use Rattle.igvm_outside.specs.declared.sink.Sink as sinks
use Rattle.igvm_jobs.specs.declared.refusal.Ended.{Ended}
use Rattle.igvm_jobs.specs.declared.refusal.Ended.TheVariants as end
use Rattle.igvm_jobs.specs.declared.refusal.Refusal.{Refusal}
use Rattle.igvm_jobs.specs.declared.refusal.Refusal.TheVariants.{File, Shelf, Output, Machine, Memory, Platform, Json, Limit}
use Rattle.igvm_jobs.specs.Outcome.{Outcome, done_writing}
use Rattle.igvm_jobs.specs.Refusals.{Refuses}
use Rattle.igvm_jobs.specs.Clauses.{HaveFront}
use Rattle.igvm_jobs.specs.Endings.{PutsEnd, WriteEnds}

-- ---- before the file is written

refused_end : {S O : Type 0} (s : shelves.Ghosts S) (o : sinks.Ghosts O) (x : Outcome) (r : Refusal) (shelf : S) (out : O) → Refuses x r → WriteEnds s o x (Err r) shelf shelf out out
refused_end s o x (File text) shelf out h = record { end_is = h; output = refl; files = refl; given = refl; unwritten = λ u. u }
refused_end s o x Shelf shelf out h = absurd h
refused_end s o x Output shelf out h = absurd h
refused_end s o x Machine shelf out h = absurd h
refused_end s o x Memory shelf out h = record { end_is = tt; output = refl; files = refl; given = refl; unwritten = λ u. u }
refused_end s o x (Platform text) shelf out h = record { end_is = h; output = refl; files = refl; given = refl; unwritten = λ u. u }
refused_end s o x (Json text) shelf out h = record { end_is = h; output = refl; files = refl; given = refl; unwritten = λ u. u }
refused_end s o x (Limit limit) shelf out h = record { end_is = h; output = refl; files = refl; given = refl; unwritten = λ u. u }

-- nothing is written, behind `?`: this refusal says the outcome, or memory ran out
pub refused_ends : {S O : Type 0} {s : shelves.Ghosts S} {o : sinks.Ghosts O} (x : Outcome) (r : Refusal) {ending : Result Ended Refusal} {shelf : S} {out : O}
    → IsErrAnd ending (λ q. q ≡ r) → Refuses x r → WriteEnds s o x ending shelf shelf out out
refused_ends x r {ending = Ok ended} same h = absurd same
refused_ends {S} {O} {s} {o} x r {ending = Err q} {shelf} {out} same h =
    subst (λ (p : Refusal). WriteEnds s o x (Err p) shelf shelf out out) (sym same) (refused_end s o x r shelf out h)

-- ---- the file

-- a file that is written whole has a front written
pub whole_front : (told told' : Option Files) (target bytes : List ℕ) → told' ≡ with_file told target bytes → HaveFront told told' (Some (record { name = target; bytes = bytes }))
whole_front told told' target bytes same = (length bytes, (omega arith), same ∙ ap (with_file told target) (sym (take_all (length bytes) bytes (omega arith))))

-- the file was not written
pub not_written : {S O : Type 0} {s : shelves.Ghosts S} {o : sinks.Ghosts O} (A E : Type 0) (target bytes text pieces : List ℕ) (e : E) {shelf shelf' : S} {out : O} → pieces ≡ bytes
    → Writes {A = A} s target pieces (Err e) shelf shelf' → WriteEnds s o (done_writing target bytes text) (Err Shelf) shelf shelf' out out
not_written {S} {O} {s} {o} A E target bytes text pieces e {shelf} {shelf'} {out} same written =
    subst (λ b. WriteEnds s o (done_writing target b text) (Err Shelf) shelf shelf' out out) same
    (record {
      end_is = (record { name = target; bytes = pieces }, refl, refl, written.cause);
      output = refl;
      files = written.front;
      given = written.only.given;
      unwritten = λ _. subst IsUnwritten (sym written.closed) tt;
    })

whole_put : {S O : Type 0} (s : shelves.Ghosts S) (o : sinks.Ghosts O) (A E : Type 0) (target bytes text : List ℕ) (a : A) (ending : Result Ended Refusal) (shelf shelf' : S) (out out' : O)
    → Writes {E = E} s target bytes (Ok a) shelf shelf' → PutsEnd o end.Done text ending out out' → WriteEnds s o (done_writing target bytes text) ending shelf shelf' out out'
whole_put s o A E target bytes text a (Ok e) shelf shelf' out out' written put =
    subst (λ (q : Ended). WriteEnds s o (done_writing target bytes text) (Ok q) shelf shelf' out out') (sym put.put.0)
    (record { end_is = refl; output = put.put.1; files = written.written; given = written.only.given; unwritten = λ _. subst IsUnwritten (sym written.closed) tt })
whole_put s o A E target bytes text a (Err r) shelf shelf' out out' written put =
    subst (λ (q : Refusal). WriteEnds s o (done_writing target bytes text) (Err q) shelf shelf' out out') (sym put.failed.0)
    (record {
      end_is = (put.failed.1, inl refl);
      output = put.failed.2;
      files = inr (whole_front (s.told shelf) (s.told shelf') target bytes written.written);
      given = written.only.given;
      unwritten = λ _. subst IsUnwritten (sym written.closed) tt;
    })

-- the file was written, and the text is put, or a front of it
pub written_put : {S O : Type 0} {s : shelves.Ghosts S} {o : sinks.Ghosts O} (A E : Type 0) (target bytes text pieces line : List ℕ) (a : A) {ending : Result Ended Refusal} {shelf shelf' : S} {out out' : O}
    → pieces ≡ bytes → line ≡ text → Writes {E = E} s target pieces (Ok a) shelf shelf' → PutsEnd o end.Done line ending out out' → WriteEnds s o (done_writing target bytes text) ending shelf shelf' out out'
written_put {S} {O} {s} {o} A E target bytes text pieces line a {ending} {shelf} {shelf'} {out} {out'} same same_text written put =
    whole_put s o A E target bytes text a ending shelf shelf' out out' (subst (λ b. Writes {E = E} s target b (Ok a) shelf shelf') same written) (subst (λ t. PutsEnd o end.Done t ending out out') same_text put)

-- ---- the outcome

-- how a step ends whose outcome is known by another name
pub ends_as : {S O : Type 0} {s : shelves.Ghosts S} {o : sinks.Ghosts O} {x y : Outcome} {ending : Result Ended Refusal} {shelf shelf' : S} {out out' : O}
    → x ≡ y → WriteEnds s o y ending shelf shelf' out out' → WriteEnds s o x ending shelf shelf' out out'
ends_as {S} {O} {s} {o} {x} {y} {ending} {shelf} {shelf'} {out} {out'} same h = subst (λ (z : Outcome). WriteEnds s o z ending shelf shelf' out out') (sym same) h
