-- How the steps of `join` end: its two files, which are read one after the other, and the image.
use Rattle.std.proofs.Common.{◌≡◌, ◌∙◌, ℕ, ◌<◌, refl, sym, ap, subst, inl, inr, List, [], length, replicate, Option, Some, None, Result, IfSome}
use Rattle.std.specs.Prelude.{unwrap_or}
use Rattle.std.specs.FinMap as map
use Rattle.std.proofs.lemmas.List.{length-replicate}
use Rattle.std.proofs.lemmas.Option.{IfSome_then}
use Rattle.igvm_outside.specs.Files.{Files, IsUnwritten}
use Rattle.igvm_outside.specs.ShelfCalls.{IsRead, IsLonger, OnlyReads}
use Rattle.igvm_outside.specs.declared.shelf.Shelf as shelves
use Rattle.igvm_outside.specs.declared.sink.Sink as sinks
use Rattle.component_list.specs.ImageList.{list_of}
use Rattle.component_list.specs.Lists.{ImageParts, IsList}
use Rattle.further_words.specs.FurtherWords.{JoinWords}
use Rattle.igvm_jobs.specs.declared.status.Status.TheVariants as is
use Rattle.igvm_jobs.specs.declared.refusal.Ended.{Ended}
use Rattle.igvm_jobs.specs.declared.refusal.LimitOf.TheVariants as of
use Rattle.igvm_jobs.specs.declared.refusal.Refusal.{Refusal}
use Rattle.igvm_jobs.specs.declared.refusal.Refusal.TheVariants.{File, Shelf, Output, Machine, Memory, Platform as BadPlatform, Json, Limit}
use Rattle.igvm_jobs.specs.Texts.{long_file_text}
use Rattle.igvm_jobs.specs.Outcome.{Outcome, refused}
use Rattle.igvm_jobs.specs.ImageFiles.{bytes_outcome, file_outcome, file_limit}
use Rattle.igvm_jobs.specs.BuildJob.{parts_outcome}
use Rattle.igvm_jobs.specs.Refusals.{Refuses, refusal_outcome}
use Rattle.igvm_jobs.specs.Endings.{Ends, Stops, IsNotRead, WriteEnds}
use Rattle.igvm_jobs.proofs.EndingLemmas.{Known, memory_stops, refused_stops, later_not_read, not_read_stops, write_ends}
use Rattle.igvm_jobs.proofs.BuildLemmas.{parts_named}
use Rattle.igvm_jobs.proofs.ImageFileLemmas.{long_bytes, long_found}
use Rattle.operation_jobs.specs.JoinJob.{joined_outcome, IsJoinable, IsSecond, join_task}
use Rattle.operation_jobs.proofs.Steps.{stops_undone}

-- what the second file is to, where the first has these bytes
abbrev second_outcome : JoinWords → List ℕ → Option (List ℕ) → Outcome
second_outcome words first found = file_outcome (joined_outcome words.target first) found

-- ---- the first file

long_first_known : {S : Type 0} {s : shelves.Ghosts S} (words : JoinWords) {shelf shelf' : S} → IsLonger s words.first file_limit shelf shelf'
    → Known s (join_task words) (refused is.Limit long_file_text) shelf shelf'
long_first_known {S} {s} words {shelf} {shelf'} long =
    let same = length-replicate (s.given shelf') 0 in
    record {
      told = IfSome_then (s.told shelf) long.file (λ files longer. long_found (λ first. second_outcome words first (map.get files words.second)) (map.get files words.first) longer);
      can = inl (replicate (s.given shelf') 0, same, λ next. long_bytes next _ (subst (λ n. file_limit < n) (sym same) long.given));
    }

-- it was not read
pub first_stops : {S : Type 0} {s : shelves.Ghosts S} (words : JoinWords) (r : Refusal) {shelf shelf' : S} → IsNotRead s words.first file_limit of.File r shelf shelf' → OnlyReads s shelf shelf'
    → IsUnwritten (s.state shelf') → Stops s (join_task words) r shelf shelf'
first_stops words r h k unwritten = not_read_stops (join_task words) words.first file_limit of.File r (inl refl) (long_first_known words) h k unwritten

-- its bytes decide, whatever the second is
by_first : {S : Type 0} {s : shelves.Ghosts S} (words : JoinWords) (x : Outcome) (bytes : List ℕ) {shelf shelf' : S} → IsRead s words.first file_limit bytes shelf shelf'
    → ((next : List ℕ → Outcome) → x ≡ bytes_outcome next bytes) → Known s (join_task words) x shelf shelf'
by_first {S} {s} words x bytes {shelf} h decides =
    record {
      told = IfSome_then (s.told shelf) h.whole (λ files found.
          let next = λ (first : List ℕ). second_outcome words first (map.get files words.second) in
          decides next ∙ ap (file_outcome next) (sym found));
      can = inl (bytes, sym h.given, decides);
    }

-- its bytes are refused
pub bytes_stop : {S : Type 0} {s : shelves.Ghosts S} (words : JoinWords) (r : Refusal) (bytes : List ℕ) {shelf shelf' : S} → IsRead s words.first file_limit bytes shelf shelf'
    → ((next : List ℕ → Outcome) → Refuses (bytes_outcome next bytes) r) → Stops s (join_task words) r shelf shelf'
bytes_stop words (File text) bytes h refuses =
    refused_stops (join_task words) (refusal_outcome (File text)) (File text) refl (by_first words _ bytes h (λ next. sym (refuses next))) h.only.kept h.unwritten
bytes_stop words Shelf bytes h refuses = absurd (refuses (λ next. refusal_outcome Memory))
bytes_stop words Output bytes h refuses = absurd (refuses (λ next. refusal_outcome Memory))
bytes_stop words Machine bytes h refuses = absurd (refuses (λ next. refusal_outcome Memory))
bytes_stop words Memory bytes h refuses = memory_stops (join_task words) h.only.kept h.unwritten
bytes_stop words (BadPlatform text) bytes h refuses =
    refused_stops (join_task words) (refusal_outcome (BadPlatform text)) (BadPlatform text) refl (by_first words _ bytes h (λ next. sym (refuses next))) h.only.kept h.unwritten
bytes_stop words (Json text) bytes h refuses =
    refused_stops (join_task words) (refusal_outcome (Json text)) (Json text) refl (by_first words _ bytes h (λ next. sym (refuses next))) h.only.kept h.unwritten
bytes_stop words (Limit limit) bytes h refuses =
    refused_stops (join_task words) (refusal_outcome (Limit limit)) (Limit limit) refl (by_first words _ bytes h (λ next. sym (refuses next))) h.only.kept h.unwritten

-- The first file was read, and its bytes lead on to the second.
pub record IsFirst {S : Type 0} (s : shelves.Ghosts S) (words : JoinWords) (bytes : List ℕ) (shelf shelf' : S) : Type 0 where
  pub read : IsRead s words.first file_limit bytes shelf shelf'
  pub leads : IsJoinable bytes

-- the image, as its view has it
pub is_first : {S : Type 0} {s : shelves.Ghosts S} (words : JoinWords) {bytes image : List ℕ} {shelf shelf' : S} → IsRead s words.first file_limit bytes shelf shelf' → image ≡ bytes → IsJoinable bytes
    → IsFirst s words image shelf shelf'
is_first {S} {s} words {bytes} {image} {shelf} {shelf'} h same leads =
    subst (λ b. IsFirst s words b shelf shelf') (sym same) (record { read = h; leads = leads })

-- ---- the second

second_told : (told : Option Files) (words : JoinWords) (first : List ℕ) (x : Outcome) → IfSome told (λ files. map.get files words.first ≡ Some first) → IsJoinable first
    → IfSome told (λ files. x ≡ second_outcome words first (map.get files words.second)) → IfSome told (λ files. x ≡ (join_task words).outcome files)
second_told None words first x found leads same = tt
second_told (Some files) words first x found leads same =
    let next = λ (bytes : List ℕ). second_outcome words bytes (map.get files words.second) in
    same ∙ sym (leads next) ∙ ap (file_outcome next) (sym found)

-- the second decides: it has these bytes, or as many
by_second : {S : Type 0} {s : shelves.Ghosts S} (words : JoinWords) {first : List ℕ} (x : Outcome) (second : List ℕ) {shelf mid shelf' : S} → IsFirst s words first shelf mid
    → IfSome (s.told mid) (λ files. x ≡ second_outcome words first (map.get files words.second)) → length second ≡ s.given shelf' → x ≡ bytes_outcome (joined_outcome words.target first) second
    → (x.status ≡ is.Done → IsList (list_of first) × IsList (list_of second)) → Known s (join_task words) x shelf shelf'
by_second {S} {s} words {first} x second {shelf} h over size same lists =
    record {
      told = second_told (s.told shelf) words first x h.read.whole h.leads
          (subst (λ told. IfSome told (λ files. x ≡ second_outcome words first (map.get files words.second))) h.read.only.kept over);
      can = inr (first, second, h.leads, size, same, lists);
    }

limit_undone : is.Limit ≡ is.Done → ⊥
limit_undone h = cc

long_second_known : {S : Type 0} {s : shelves.Ghosts S} (words : JoinWords) {first : List ℕ} {shelf mid shelf' : S} → IsFirst s words first shelf mid → IsLonger s words.second file_limit mid shelf'
    → Known s (join_task words) (refused is.Limit long_file_text) shelf shelf'
long_second_known {S} {s} words {first} {shelf} {mid} {shelf'} h long =
    let same = length-replicate (s.given shelf') 0 in
    by_second words _ (replicate (s.given shelf') 0) h
    (IfSome_then (s.told mid) long.file (λ files longer. long_found (joined_outcome words.target first) (map.get files words.second) longer)) same
    (long_bytes (joined_outcome words.target first) _ (subst (λ n. file_limit < n) (sym same) long.given)) (λ done. absurd (limit_undone done))

second_named : (told : Option Files) (words : JoinWords) (first : List ℕ) → IfSome told (λ files. map.get files words.first ≡ Some first) → IsJoinable first → IsSecond words told words.second
second_named told words first found leads =
    (refl, IfSome_then told found (λ files same. subst IsJoinable (sym (ap (λ o. unwrap_or o []) same)) leads))

-- it was not read
pub second_stops : {S : Type 0} {s : shelves.Ghosts S} (words : JoinWords) (r : Refusal) {first : List ℕ} {shelf mid shelf' : S} → IsFirst s words first shelf mid
    → IsNotRead s words.second file_limit of.File r mid shelf' → OnlyReads s mid shelf' → IsUnwritten (s.state shelf') → Stops s (join_task words) r shelf shelf'
second_stops {S} {s} words r {first} {shelf} h not_read k unwritten =
    later_not_read (join_task words) words.second file_limit of.File r (inr (second_named (s.told shelf) words first h.read.whole h.leads)) (long_second_known words h) h.read.only not_read k unwritten

-- what both files give, as they were read
both_known : {S : Type 0} {s : shelves.Ghosts S} (words : JoinWords) {first : List ℕ} (x : Outcome) (second : List ℕ) {shelf mid shelf' : S} → IsFirst s words first shelf mid
    → IsRead s words.second file_limit second mid shelf' → x ≡ bytes_outcome (joined_outcome words.target first) second
    → (x.status ≡ is.Done → IsList (list_of first) × IsList (list_of second)) → Known s (join_task words) x shelf shelf'
both_known {S} {s} words {first} x second {shelf} {mid} h read same lists =
    by_second words x second h (IfSome_then (s.told mid) read.whole (λ files found. same ∙ ap (second_outcome words first) (sym found))) (sym read.given) same lists

-- its bytes are refused, or the lists are not joined
pub both_stop : {S : Type 0} {s : shelves.Ghosts S} (words : JoinWords) (r : Refusal) {first second : List ℕ} {shelf mid shelf' : S} → IsFirst s words first shelf mid
    → IsRead s words.second file_limit second mid shelf' → Refuses (bytes_outcome (joined_outcome words.target first) second) r → Stops s (join_task words) r shelf shelf'
both_stop words r {first} {second} h read refuses =
    let x = bytes_outcome (joined_outcome words.target first) second in
    stops_undone (join_task words) x r refuses (λ undone. both_known words x second h read refl (λ done. absurd (undone done))) (read.only.kept ∙ h.read.only.kept) read.unwritten

-- the image of the joined list was written, or not
pub image_ends : {S O : Type 0} {s : shelves.Ghosts S} {o : sinks.Ghosts O} (words : JoinWords) (list : ImageParts) {first second image : List ℕ} {ending : Result Ended Refusal} {shelf one two shelf' : S} {out out' : O}
    → ((a b c : S) → OnlyReads s a b → OnlyReads s b c → OnlyReads s a c) → IsFirst s words first shelf one → IsRead s words.second file_limit second one two → image ≡ second
    → bytes_outcome (joined_outcome words.target first) second ≡ joined_outcome words.target first second → joined_outcome words.target first image ≡ parts_outcome words.target list
    → IsList (list_of first) × IsList (list_of image) → WriteEnds s o (parts_outcome words.target list) ending two shelf' out out' → Ends s o (join_task words) ending shelf shelf' out out'
image_ends words list {first} {second} {image} {shelf} {one} {two} compose h read lent accepted gives lists wrote =
    write_ends (join_task words) (parts_outcome words.target list)
    (both_known words _ second h read (sym (accepted ∙ ap (joined_outcome words.target first) (sym lent) ∙ gives))
    (λ done. (lists.0, subst (λ b. IsList (list_of b)) lent lists.1)))
    (compose shelf one two h.read.only read.only) read.unwritten (parts_named words.target list) wrote
