-- What follows from the promises of the top call for `join`, whatever is told.
use Rattle.std.proofs.Common.{◌≡◌, ℕ, inl, inr, ◌⊎◌, List, Option}
use Rattle.igvm_outside.specs.Files.{Files}
use Rattle.igvm_outside.specs.declared.shelf.Shelf as shelves
use Rattle.igvm_outside.specs.declared.sink.Sink as sinks
use Rattle.launch_platform.specs.declared.launch.Launch as launches
use Rattle.component_list.specs.ImageList.{list_of}
use Rattle.component_list.specs.Lists.{IsList}
use Rattle.further_words.specs.FurtherWords.{JoinWords}
use Rattle.joined_list.specs.Joined.{joined}
use Rattle.igvm_jobs.specs.declared.status.Status.{Status}
use Rattle.igvm_jobs.specs.declared.status.Status.TheVariants as is
use Rattle.igvm_jobs.specs.Outcome.{Outcome}
use Rattle.igvm_jobs.specs.Clauses.{OutputIsKept, ErrorTextIsPut, FilesAreKept, Failures, Gains, IsPut, KeepsPromises}
use Rattle.igvm_jobs.specs.JobAnswers.{IsImage}
use Rattle.igvm_jobs.proofs.EndingLemmas.{late_kept}
use Rattle.operation_jobs.specs.JoinJob.{IsByFirst, IsBySecond, IsJoinable, joined_outcome, join_task}
use Rattle.operation_jobs.specs.OperationAnswers.{JoinAnswers}
use Rattle.operation_jobs.proofs.Outcomes.{status_is, limit_line, written}
use Rattle.operation_jobs.proofs.ImageAnswers.{Refused, bytes_answer, refused_answer}
use Rattle.operation_jobs.proofs.JoinOutcomes.{joinable_is, JoinIs, join_is}

join_of : {O E : Type 0} (o : sinks.Ghosts O) (e : sinks.Ghosts E) (target : List ℕ) (status : Status) (given : ℕ) (told told' : Option Files) (x : Outcome) (out out' : O) (err err' : E) (failed : Failures)
    (first second : List ℕ) → OutputIsKept o x status out out' → ErrorTextIsPut e x status failed err err' → FilesAreKept x status told told' → IsJoinable first → IsImage second given → status ≡ x.status
    → (x.status ≡ is.Done → IsList (list_of first) × IsList (list_of second)) → JoinIs target first second x
    → JoinAnswers target status given told told' (λ text. Gains o text out out') (λ text. IsPut e text err err')
join_of o e target status given told told' x out out' err err' failed first second output error files leads image same lists (inl h) =
    let line = limit_line e x _ status err err' failed error same h.2 in
    inr (inr (inl (line.0, (h.0, h.1, line.1))))
join_of o e target status given told told' x out out' err err' failed first second output error files leads image same lists (inr h) =
    let w = written o target (joined (list_of first) (list_of second)) x status told told' out out' output files same h.within h.outcome in
    let accepted = joinable_is first leads in
    let both = lists (status_is h.outcome) in
    inr (inr (inr (
      w.0,
      record {
        first = first;
        second = second;
        first_within = accepted.0;
        first_accepted = accepted.1;
        second_image = image;
        first_few = h.first_few;
        second_few = h.second_few;
        first_list = both.0;
        second_list = both.1;
        together = h.together;
        written = w.1;
      },
    )))

-- the first file is refused
by_first : {E : Type 0} (e : sinks.Ghosts E) (target : List ℕ) (status : Status) (given : ℕ) (told told' : Option Files) (err err' : E) (gains : List ℕ → Type 0)
    → Refused status given (λ text. IsPut e text err err') → JoinAnswers target status given told told' gains (λ text. IsPut e text err err')
by_first e target status given told told' err err' gains (inl h) = inl h
by_first e target status given told told' err err' gains (inr h) = inr (inl h)

by_second : {O E : Type 0} (o : sinks.Ghosts O) (e : sinks.Ghosts E) (target : List ℕ) (status : Status) (given : ℕ) (told told' : Option Files) (x : Outcome) (out out' : O) (err err' : E) (failed : Failures)
    (first second : List ℕ) → OutputIsKept o x status out out' → ErrorTextIsPut e x status failed err err' → FilesAreKept x status told told' → IsJoinable first → status ≡ x.status
    → (x.status ≡ is.Done → IsList (list_of first) × IsList (list_of second))
    → Refused status given (λ text. IsPut e text err err') ⊎ (IsImage second given × (x ≡ joined_outcome target first second))
    → JoinAnswers target status given told told' (λ text. Gains o text out out') (λ text. IsPut e text err err')
by_second o e target status given told told' x out out' err err' failed first second output error files leads same lists (inl h) =
    by_first e target status given told told' err err' (λ text. Gains o text out out') h
by_second o e target status given told told' x out out' err err' failed first second output error files leads same lists (inr h) =
    join_of o e target status given told told' x out out' err err' failed first second output error files leads h.0 same lists (join_is target first second x h.1)

judged : {O E : Type 0} (o : sinks.Ghosts O) (e : sinks.Ghosts E) (target : List ℕ) (status : Status) (given : ℕ) (told told' : Option Files) (x : Outcome) (out out' : O) (err err' : E) (failed : Failures)
    → OutputIsKept o x status out out' → ErrorTextIsPut e x status failed err err' → FilesAreKept x status told told'
    → ((status ≡ x.status) × (IsByFirst given x ⊎ IsBySecond target given x)) ⊎ (status ≡ is.Outside) ⊎ (status ≡ is.Memory)
    → JoinAnswers target status given told told' (λ text. Gains o text out out') (λ text. IsPut e text err err')
judged o e target status given told told' x out out' err err' failed output error files (inl (same, inl h)) =
    by_first e target status given told told' err err' (λ text. Gains o text out out') (refused_answer e status given x err err' failed h.0 error same h.1 h.2)
judged o e target status given told told' x out out' err err' failed output error files (inl (same, inr h)) =
    by_second o e target status given told told' x out out' err err' failed h.0 h.1 output error files h.2 same h.5
    (bytes_answer e (joined_outcome target h.0) status given x err err' failed h.1 error same h.3 h.4)
judged o e target status given told told' x out out' err err' failed output error files (inr h) = inl h

pub join_answers : {S O E L : Type 0} (s : shelves.Ghosts S) (o : sinks.Ghosts O) (e : sinks.Ghosts E) (l : launches.Ghosts L) (words : JoinWords) (status : Status) (shelf shelf' : S) (out out' : O)
    (err err' : E) (machine machine' : L) → KeepsPromises s o e l (join_task words) status shelf shelf' out out' err err' machine machine'
    → JoinAnswers words.target status (s.given shelf') (s.told shelf) (s.told shelf') (λ text. Gains o text out out') (λ text. IsPut e text err err')
join_answers s o e l words status shelf shelf' out out' err err' machine machine' k =
    judged o e words.target status (s.given shelf') (s.told shelf) (s.told shelf') k.keeps.outcome out out' err err' _ k.keeps.output k.keeps.error
    (late_kept k.keeps.outcome status (s.told shelf) (s.told shelf') k.keeps.files) k.keeps.judged
