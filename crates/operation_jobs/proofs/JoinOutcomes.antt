-- What joining two accepted images gives: something is too large or too many, or the image is written.
use Rattle.std.proofs.Common.{◌≡◌, ◌≢◌, ◌∙◌, ℕ, ◌<◌, ◌≤◌, refl, sym, ap, inl, inr, ◌⊎◌, List, [], length, Option, Some, None, Bool, true, false}
use Rattle.std.specs.Prelude.{nat_le, nat_lt, ◌&&◌, ◌||◌, if◌then◌else◌}
use Rattle.igvm_headers.specs.declared.fault.ReadFault.{ReadFault}
use Rattle.igvm_image.specs.FileFault.{fault_of}
use Rattle.component_list.specs.ImageList.{list_of}
use Rattle.component_list.specs.Lists.{ImageParts}
use Rattle.image_builder.specs.Layout.{layout}
use Rattle.joined_list.specs.JoinRefusals.{IsJoinRefusal}
use Rattle.joined_list.specs.declared.refusal.JoinRefusal.{JoinRefusal}
use Rattle.joined_list.specs.declared.refusal.JoinRefusal.TheVariants.{TooManyPlatforms, TooManyAreas, TooManyPages, Memory}
use Rattle.joined_list.specs.Joined.{FitTogether, all_areas, all_pages, all_platforms, joined}
use Rattle.igvm_jobs.specs.declared.status.Status.TheVariants as is
use Rattle.igvm_jobs.specs.Texts.{built_text, large_data_text, long_file_text, many_areas_text, many_pages_text, many_platforms_text}
use Rattle.igvm_jobs.specs.Outcome.{Outcome, done, refused, done_writing}
use Rattle.igvm_jobs.specs.ImageFiles.{bytes_outcome, file_limit, image_outcome}
use Rattle.igvm_jobs.specs.BuildJob.{image_limit, parts_outcome}
use Rattle.operation_jobs.specs.StoredData.{data_limit, stored_bytes}
use Rattle.operation_jobs.specs.JoinJob.{IsJoinable, joined_outcome, lists_outcome}
use Rattle.operation_jobs.specs.OperationAnswers.{IsJoinLimitText}
use Rattle.operation_jobs.proofs.Outcomes.{passes, past, stays, stayed, status_is, within, PartsAre, parts_are}

-- ---- the first file

-- bytes that lead on are an image
pub joinable_is : (bytes : List ℕ) → IsJoinable bytes → (length bytes ≤ file_limit) × (fault_of bytes ≡ None)
unfolding bytes_outcome
joinable_is bytes leads = by_size (nat_lt file_limit (length bytes)) refl (leads (λ b. done []))
  where
    by_fault : (fault : Option ReadFault) → image_outcome (λ b. done []) bytes fault ≡ done [] → fault ≡ None
    by_fault None same = refl
    by_fault (Some fault) same = let at = status_is same in cc

    by_size : (long : Bool) → nat_lt file_limit (length bytes) ≡ long → (if long then refused is.Limit long_file_text else image_outcome (λ b. done []) bytes (fault_of bytes)) ≡ done []
        → (length bytes ≤ file_limit) × (fault_of bytes ≡ None)
    by_size true long same = let at = status_is same in cc
    by_size false short same = (stayed file_limit (length bytes) short, by_fault (fault_of bytes) same)

-- ---- two lists

abbrev behind_pages : List ℕ → ImageParts → ImageParts → Bool → Outcome
behind_pages target first second many = if many then refused is.Limit many_pages_text else parts_outcome target (joined first second)

abbrev behind_areas : List ℕ → ImageParts → ImageParts → Bool → Outcome
behind_areas target first second many =
    if many then refused is.Limit many_areas_text else behind_pages target first second (nat_lt 4194304 (all_pages first.parts second.parts))

abbrev behind_platforms : List ℕ → ImageParts → ImageParts → Bool → Outcome
behind_platforms target first second many =
    if many then refused is.Limit many_platforms_text else behind_areas target first second (nat_lt 256 (all_areas first.parts second.parts))

-- lists that fit together are joined
pub fitting : (target : List ℕ) (first second : ImageParts) → FitTogether first.parts second.parts → lists_outcome target first second ≡ parts_outcome target (joined first second)
unfolding lists_outcome
fitting target first second h =
    ap (behind_platforms target first second) (stays 32 (all_platforms first.parts second.parts) h.platforms)
    ∙ ap (behind_areas target first second) (stays 256 (all_areas first.parts second.parts) h.areas)
    ∙ ap (behind_pages target first second) (stays 4194304 (all_pages first.parts second.parts) h.pages)

pub many_platforms : (target : List ℕ) (first second : ImageParts) → 32 < all_platforms first.parts second.parts → lists_outcome target first second ≡ refused is.Limit many_platforms_text
unfolding lists_outcome
many_platforms target first second h = ap (behind_platforms target first second) (passes 32 (all_platforms first.parts second.parts) h)

pub many_areas : (target : List ℕ) (first second : ImageParts) → all_platforms first.parts second.parts ≤ 32 → 256 < all_areas first.parts second.parts
    → lists_outcome target first second ≡ refused is.Limit many_areas_text
unfolding lists_outcome
many_areas target first second few h =
    ap (behind_platforms target first second) (stays 32 (all_platforms first.parts second.parts) few)
    ∙ ap (behind_areas target first second) (passes 256 (all_areas first.parts second.parts) h)

pub many_pages : (target : List ℕ) (first second : ImageParts) → all_platforms first.parts second.parts ≤ 32 → all_areas first.parts second.parts ≤ 256
    → 4194304 < all_pages first.parts second.parts → lists_outcome target first second ≡ refused is.Limit many_pages_text
unfolding lists_outcome
many_pages target first second few fewer h =
    ap (behind_platforms target first second) (stays 32 (all_platforms first.parts second.parts) few)
    ∙ ap (behind_areas target first second) (stays 256 (all_areas first.parts second.parts) fewer)
    ∙ ap (behind_pages target first second) (passes 4194304 (all_pages first.parts second.parts) h)

-- ---- two images

abbrev by_data : List ℕ → List ℕ → List ℕ → Bool → Outcome
by_data target first second large = if large then refused is.Limit large_data_text else lists_outcome target (list_of first) (list_of second)

-- whose data are few enough
pub few_of_both : (target first second : List ℕ) → stored_bytes first ≤ data_limit → stored_bytes second ≤ data_limit
    → joined_outcome target first second ≡ lists_outcome target (list_of first) (list_of second)
unfolding joined_outcome
few_of_both target first second h k =
    ap (λ b. by_data target first second (b || nat_lt data_limit (stored_bytes second))) (stays data_limit (stored_bytes first) h)
    ∙ ap (by_data target first second) (stays data_limit (stored_bytes second) k)

-- or not
pub large_first : (target first second : List ℕ) → data_limit < stored_bytes first → joined_outcome target first second ≡ refused is.Limit large_data_text
unfolding joined_outcome
large_first target first second h = ap (λ b. by_data target first second (b || nat_lt data_limit (stored_bytes second))) (passes data_limit (stored_bytes first) h)

pub large_second : (target first second : List ℕ) → stored_bytes first ≤ data_limit → data_limit < stored_bytes second → joined_outcome target first second ≡ refused is.Limit large_data_text
unfolding joined_outcome
large_second target first second h k =
    ap (λ b. by_data target first second (b || nat_lt data_limit (stored_bytes second))) (stays data_limit (stored_bytes first) h)
    ∙ ap (by_data target first second) (passes data_limit (stored_bytes second) k)

-- ---- what becomes of two images

-- The image of two files' lists, joined, is written.
pub record IsWrittenOf (target first second : List ℕ) (x : Outcome) : Type 0 where
  pub first_few : stored_bytes first ≤ data_limit
  pub second_few : stored_bytes second ≤ data_limit
  pub together : FitTogether (list_of first).parts (list_of second).parts
  pub within : length (layout (joined (list_of first) (list_of second))) ≤ image_limit
  pub outcome : x ≡ done_writing target (layout (joined (list_of first) (list_of second))) (built_text (length (layout (joined (list_of first) (list_of second)))))

abbrev pub JoinIs : List ℕ → List ℕ → List ℕ → Outcome → Type 0
JoinIs target first second x = ((text : List ℕ) × IsJoinLimitText text × (x ≡ refused is.Limit text)) ⊎ IsWrittenOf target first second x

by_parts : (target first second : List ℕ) (x : Outcome) → stored_bytes first ≤ data_limit → stored_bytes second ≤ data_limit → FitTogether (list_of first).parts (list_of second).parts
    → PartsAre target (joined (list_of first) (list_of second)) x → JoinIs target first second x
by_parts target first second x few fewer together (inl h) = inl (_, inl (inr refl), h)
by_parts target first second x few fewer together (inr h) = inr (record { first_few = few; second_few = fewer; together = together; within = h.0; outcome = h.1 })

by_counts : (target first second : List ℕ) (x : Outcome) (platforms areas pages : Bool) → stored_bytes first ≤ data_limit → stored_bytes second ≤ data_limit
    → nat_lt 32 (all_platforms (list_of first).parts (list_of second).parts) ≡ platforms → nat_lt 256 (all_areas (list_of first).parts (list_of second).parts) ≡ areas
    → nat_lt 4194304 (all_pages (list_of first).parts (list_of second).parts) ≡ pages
    → x ≡ (if platforms then refused is.Limit many_platforms_text else if areas then refused is.Limit many_areas_text else if pages then refused is.Limit many_pages_text
    else parts_outcome target (joined (list_of first) (list_of second))) → JoinIs target first second x
by_counts target first second x true areas pages few fewer a b c same = inl (_, inr (inl refl), same)
by_counts target first second x false true pages few fewer a b c same = inl (_, inr (inr (inl refl)), same)
by_counts target first second x false false true few fewer a b c same = inl (_, inr (inr (inr refl)), same)
by_counts target first second x false false false few fewer a b c same =
    let together : FitTogether (list_of first).parts (list_of second).parts =
    record { platforms = stayed 32 _ a; areas = stayed 256 _ b; pages = stayed 4194304 _ c } in
    by_parts target first second x few fewer together (parts_are target (joined (list_of first) (list_of second)) x same)

by_lists : (target first second : List ℕ) (x : Outcome) → stored_bytes first ≤ data_limit → stored_bytes second ≤ data_limit → x ≡ lists_outcome target (list_of first) (list_of second)
    → JoinIs target first second x
unfolding lists_outcome
by_lists target first second x few fewer same = by_counts target first second x _ _ _ few fewer refl refl refl same

pub join_is : (target first second : List ℕ) (x : Outcome) → x ≡ joined_outcome target first second → JoinIs target first second x
unfolding joined_outcome
join_is target first second x same = cases (nat_lt data_limit (stored_bytes first)) (nat_lt data_limit (stored_bytes second)) refl refl same
  where
    cases : (a b : Bool) → nat_lt data_limit (stored_bytes first) ≡ a → nat_lt data_limit (stored_bytes second) ≡ b
        → x ≡ (if a || b then refused is.Limit large_data_text else lists_outcome target (list_of first) (list_of second)) → JoinIs target first second x
    cases true b large other same = inl (_, inl (inl refl), same)
    cases false true few large same = inl (_, inl (inl refl), same)
    cases false false few fewer same = by_lists target first second x (stayed data_limit (stored_bytes first) few) (stayed data_limit (stored_bytes second) fewer) same

-- ---- what a call answers

-- a test of both, as it is asked
pub both_asked : (a b asked : Bool) → true ≡ a → asked ≡ b → asked ≡ (a && b)
both_asked true b asked h same = same
both_asked false b asked h same = cc

pub one_asked : (a b asked : Bool) → false ≡ a → asked ≡ a → asked ≡ (a && b)
one_asked true b asked h same = cc
one_asked false b asked h same = same

both_left : (a b : Bool) → (a && b) ≡ true → a ≡ true
both_left true b h = refl
both_left false b h = h

both_right : (a b : Bool) → (a && b) ≡ true → b ≡ true
both_right true b h = h
both_right false b h = cc

-- whether the data of both are few enough
abbrev pub are_few : List ℕ → List ℕ → Bool
are_few first second = nat_le (stored_bytes first) data_limit && nat_le (stored_bytes second) data_limit

not_few : (target first second : List ℕ) (a b : Bool) → nat_le (stored_bytes first) data_limit ≡ a → nat_le (stored_bytes second) data_limit ≡ b → (a && b) ≡ false
    → joined_outcome target first second ≡ refused is.Limit large_data_text
not_few target first second true true one two h = cc
not_few target first second true false one two h = large_second target first second (within (stored_bytes first) data_limit one) (past (stored_bytes second) data_limit two)
not_few target first second false b one two h = large_first target first second (past (stored_bytes first) data_limit one)

-- they are not
pub data_refused : (target first second : List ℕ) (asked : Bool) → asked ≡ are_few first second → asked ≡ false → joined_outcome target first second ≡ refused is.Limit large_data_text
data_refused target first second asked same h = not_few target first second _ _ refl refl (sym same ∙ h)

-- Two accepted images whose data are few enough, and their lists, which are copied.
pub record AreCopied (first second : List ℕ) (a b : ImageParts) : Type 0 where
  pub first_few : stored_bytes first ≤ data_limit
  pub second_few : stored_bytes second ≤ data_limit
  pub first_list : a ≡ list_of first
  pub second_list : b ≡ list_of second

pub are_copied : (first second : List ℕ) (a b : ImageParts) (asked : Bool) → asked ≡ are_few first second → asked ≡ true → a ≡ list_of first → b ≡ list_of second → AreCopied first second a b
are_copied first second a b asked same h one two =
    let both : are_few first second ≡ true = sym same ∙ h in
    record {
      first_few = within (stored_bytes first) data_limit (both_left (nat_le (stored_bytes first) data_limit) _ both);
      second_few = within (stored_bytes second) data_limit (both_right (nat_le (stored_bytes first) data_limit) _ both);
      first_list = one;
      second_list = two;
    }

copied_outcome : (target first second : List ℕ) (a b : ImageParts) → AreCopied first second a b → joined_outcome target first second ≡ lists_outcome target a b
copied_outcome target first second a b h =
    few_of_both target first second h.first_few h.second_few ∙ sym (ap (λ l. lists_outcome target l (list_of second)) h.first_list) ∙ sym (ap (λ l. lists_outcome target a l) h.second_list)

-- they are joined
pub join_done : (target first second : List ℕ) (a b new : ImageParts) → AreCopied first second a b → FitTogether a.parts b.parts → new ≡ joined a b
    → joined_outcome target first second ≡ parts_outcome target new
join_done target first second a b new h together made = copied_outcome target first second a b h ∙ fitting target a b together ∙ ap (parts_outcome target) (sym made)

-- or not
abbrev join_limit : JoinRefusal → List ℕ
join_limit TooManyPlatforms = many_platforms_text
join_limit TooManyAreas = many_areas_text
join_limit TooManyPages = many_pages_text
join_limit Memory = []

refused_by : (target : List ℕ) (a b : ImageParts) (e : JoinRefusal) → e ≢ Memory → IsJoinRefusal a.parts b.parts e → lists_outcome target a b ≡ refused is.Limit (join_limit e)
refused_by target a b TooManyPlatforms other why = many_platforms target a b why
refused_by target a b TooManyAreas other why = many_areas target a b why.0 why.1
refused_by target a b TooManyPages other why = many_pages target a b why.0 why.1 why.2
refused_by target a b Memory other why = absurd (other refl)

no_memory : (e f : JoinRefusal) → e ≡ f → f ≢ Memory → e ≢ Memory
no_memory e f same other memory = other (sym same ∙ memory)

join_refused : (target first second : List ℕ) (a b : ImageParts) (e f : JoinRefusal) → AreCopied first second a b → e ≡ f → f ≢ Memory → IsJoinRefusal a.parts b.parts e
    → joined_outcome target first second ≡ refused is.Limit (join_limit f)
join_refused target first second a b e f h same other why =
    copied_outcome target first second a b h ∙ refused_by target a b e (no_memory e f same other) why ∙ ap (λ (g : JoinRefusal). refused is.Limit (join_limit g)) same

pub refused_platforms : (target first second : List ℕ) (a b : ImageParts) (e : JoinRefusal) → AreCopied first second a b → e ≡ TooManyPlatforms → IsJoinRefusal a.parts b.parts e
    → joined_outcome target first second ≡ refused is.Limit many_platforms_text
refused_platforms target first second a b e h same why = join_refused target first second a b e TooManyPlatforms h same (λ memory. cc) why

pub refused_areas : (target first second : List ℕ) (a b : ImageParts) (e : JoinRefusal) → AreCopied first second a b → e ≡ TooManyAreas → IsJoinRefusal a.parts b.parts e
    → joined_outcome target first second ≡ refused is.Limit many_areas_text
refused_areas target first second a b e h same why = join_refused target first second a b e TooManyAreas h same (λ memory. cc) why

pub refused_pages : (target first second : List ℕ) (a b : ImageParts) (e : JoinRefusal) → AreCopied first second a b → e ≡ TooManyPages → IsJoinRefusal a.parts b.parts e
    → joined_outcome target first second ≡ refused is.Limit many_pages_text
refused_pages target first second a b e h same why = join_refused target first second a b e TooManyPages h same (λ memory. cc) why
