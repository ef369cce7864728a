-- A step that refuses: behind `?`, and as what stops a job.
use Rattle.std.proofs.Common.{◌≡◌, ap, sym, subst, Result, Ok, Err}
use Rattle.std.specs.Prelude.{IfErr, IfOk, IsErr, IsErrAnd, OnOk}
use Rattle.igvm_outside.specs.Files.{IsUnwritten}
use Rattle.igvm_outside.specs.declared.shelf.Shelf as shelves
use Rattle.igvm_jobs.specs.declared.status.Status.TheVariants as is
use Rattle.igvm_jobs.specs.declared.refusal.Refusal.{Refusal}
use Rattle.igvm_jobs.specs.declared.refusal.Refusal.TheVariants.{File, Shelf, Output, Machine, Memory, Platform, Json, Limit}
use Rattle.igvm_jobs.specs.Outcome.{Outcome}
use Rattle.igvm_jobs.specs.Tasks.{Task}
use Rattle.igvm_jobs.specs.Refusals.{Refuses, status_of}
use Rattle.igvm_jobs.specs.Endings.{Stops}
use Rattle.igvm_jobs.proofs.EndingLemmas.{Known, memory_stops, refused_stops}

-- ---- behind `?`

pub none_on : {A E : Type 0} (ending : Result A E) (P : A → Type 0) → IsErr ending → IfOk ending P
none_on (Ok a) P h = cc
none_on (Err e) P h = tt

pub none_valid : {A E : Type 0} (ending : Result A E) (P : Type 0) → IsErr ending → OnOk ending P
none_valid (Ok a) P h = cc
none_valid (Err e) P h = tt

pub refuses_on : {A : Type 0} (ending : Result A Refusal) (x : Outcome) (r : Refusal) → IsErrAnd ending (λ q. q ≡ r) → Refuses x r → IfErr ending (Refuses x)
refuses_on (Ok a) x r same h = absurd same
refuses_on (Err q) x r same h = subst (λ (p : Refusal). Refuses x p) (sym same) h

-- memory ran out
pub memory_refuses : (x : Outcome) (r : Refusal) → r ≡ Memory → Refuses x r
memory_refuses x r same = subst (λ (p : Refusal). Refuses x p) (sym same) tt

-- ---- what stops a job

-- no refusal is that of a job that is done
undone : (r : Refusal) (x : Outcome) → x.status ≡ status_of r → x.status ≡ is.Done → ⊥
undone (File text) x same h = cc
undone Shelf x same h = cc
undone Output x same h = cc
undone Machine x same h = cc
undone Memory x same h = cc
undone (Platform text) x same h = cc
undone (Json text) x same h = cc
undone (Limit limit) x same h = cc

status_same : {x y : Outcome} → x ≡ y → x.status ≡ y.status
status_same same = ap (λ (z : Outcome). z.status) same

-- what was read is refused, where the job's outcome is known as one that isn't done
pub stops_undone : {S : Type 0} {s : shelves.Ghosts S} (task : Task) (x : Outcome) (r : Refusal) {shelf shelf' : S} → Refuses x r → ((x.status ≡ is.Done → ⊥) → Known s task x shelf shelf')
    → s.told shelf' ≡ s.told shelf → IsUnwritten (s.state shelf') → Stops s task r shelf shelf'
stops_undone task x (File text) refuses known same unwritten = refused_stops task x (File text) refuses (known (undone (File text) x (status_same refuses))) same unwritten
stops_undone task x Shelf refuses known same unwritten = absurd refuses
stops_undone task x Output refuses known same unwritten = absurd refuses
stops_undone task x Machine refuses known same unwritten = absurd refuses
stops_undone task x Memory refuses known same unwritten = memory_stops task same unwritten
stops_undone task x (Platform text) refuses known same unwritten = refused_stops task x (Platform text) refuses (known (undone (Platform text) x (status_same refuses))) same unwritten
stops_undone task x (Json text) refuses known same unwritten = refused_stops task x (Json text) refuses (known (undone (Json text) x (status_same refuses))) same unwritten
stops_undone task x (Limit limit) refuses known same unwritten = refused_stops task x (Limit limit) refuses (known (undone (Limit limit) x (status_same refuses))) same unwritten
