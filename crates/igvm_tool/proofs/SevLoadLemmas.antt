-- How the steps of `sev-load` end: FILE and HOST, which are read one after the other, and the launch.
use Rattle.std.proofs.Common.{◌≡◌, ◌≢◌, ◌∙◌, ℕ, ◌<◌, ◌≤◌, refl, sym, ap, subst, inl, inr, ◌⊎◌, arith, List, [], length, replicate, true, false, Option, Some, None, Result, Ok, Err, IfSome, Bool}
use Rattle.std.specs.Prelude.{nat_lt, unwrap_or, if◌then◌else◌, IsErrAnd}
use Rattle.std.specs.FinMap as map
use Rattle.std.specs.Option.{option_map}
use Rattle.std.proofs.lemmas.List.{length-replicate}
use Rattle.std.proofs.lemmas.Option.{IfSome_then}
use Rattle.igvm_headers.specs.declared.platform_kind.PlatformKind.{PlatformKind}
use Rattle.igvm_headers.specs.declared.platform_kind.PlatformKind.TheVariants as kinds
use Rattle.platform_masks.specs.declared.platform.Platform.{Platform}
use Rattle.host_set.specs.declared.range.PlanRange.{PlanRange}
use Rattle.host_set.specs.declared.refusal.HostRefusal.{HostRefusal}
use Rattle.host_set.specs.Hosts.{HostValues}
use Rattle.host_set.specs.Descriptions.{host_of}
use Rattle.directive_rules.specs.declared.misfit.Misfit.{Misfit}
use Rattle.directive_rules.specs.FirstMisfit.{first_misfit}
use Rattle.image_loader.specs.Loads.{Load, load_of}
use Rattle.sev_chain.specs.SevBytes.{HasSevDigest, sev_digest_of, sev_digest_by}
use Rattle.sev_loader.specs.SevPlaced.{sev_load_of}
use Rattle.sev_platform.specs.declared.sev_launch.SevLaunch as sevs
use Rattle.igvm_outside.specs.Files.{Files, IsUnwritten, content}
use Rattle.igvm_outside.specs.ShelfCalls.{IsRead, IsLonger, OnlyReads}
use Rattle.igvm_outside.specs.declared.shelf.Shelf as shelves
use Rattle.igvm_outside.specs.declared.sink.Sink as sinks
use Rattle.igvm_words.specs.Words.{PlatformChoice, LoadWords}
use Rattle.further_words.specs.FurtherWords.{SevLoadWords}
use Rattle.igvm_jobs.specs.declared.status.Status.{Status}
use Rattle.igvm_jobs.specs.declared.status.Status.TheVariants as is
use Rattle.igvm_jobs.specs.declared.refusal.Ended.{Ended}
use Rattle.igvm_jobs.specs.declared.refusal.Ended.TheVariants as end
use Rattle.igvm_jobs.specs.declared.refusal.LimitOf.TheVariants as of
use Rattle.igvm_jobs.specs.declared.refusal.Refusal.{Refusal}
use Rattle.igvm_jobs.specs.declared.refusal.Refusal.TheVariants.{File, Shelf, Output, Machine, Memory, Platform as BadPlatform, Json, Limit}
use Rattle.igvm_jobs.specs.Texts.{long_file_text, long_host_text, no_digest_text}
use Rattle.igvm_jobs.specs.Outcome.{Outcome, refused}
use Rattle.igvm_jobs.specs.Tasks.{Task}
use Rattle.igvm_jobs.specs.ImageFiles.{bytes_outcome, file_outcome, file_limit}
use Rattle.igvm_jobs.specs.MeasureJob.{wanted_platform, platform_outcome, digest_outcome}
use Rattle.igvm_jobs.specs.LoadJob.{Setting, host_limit, host_outcome, described_outcome, checked_outcome, ended_outcome}
use Rattle.igvm_jobs.specs.Refusals.{Refuses, refusal_outcome, status_of, end_status}
use Rattle.igvm_jobs.specs.Clauses.{Failures, FilesEndAs, with_written}
use Rattle.igvm_jobs.specs.Endings.{EndIsTrue, Stops, IsNotRead}
use Rattle.igvm_jobs.proofs.EndingLemmas.{Known, memory_stops, refused_stops, later_not_read, not_read_stops, stopped_under}
use Rattle.igvm_jobs.proofs.ImageFileLemmas.{long_bytes, long_found}
use Rattle.igvm_tool.specs.SevLoadJob.{sev_checked, sev_described, sev_host_outcome, sev_host_file, sev_set_for, sev_set, SevLeadsOn, IsSevHost, sev_load_task}
use Rattle.igvm_tool.specs.SevClauses.{SevMachineFailed, sev_failures, HoldsSevLaunch, IsSevStoppedIn, SevAfterFault, SevEndsAs}
use Rattle.igvm_tool.specs.SevEndings.{EndsOnSev, SevLaunchIsTrue, SevLaunchLeaves, SevLaunchEnds}

-- ---- a platform without a digest

no_digest : (kind : PlatformKind) (file : List ℕ) (platform : Platform) → kind ≢ kinds.Sev → kind ≢ kinds.SevEs → sev_digest_by kind file platform ≡ None
no_digest kinds.Native file platform a b = refl
no_digest kinds.VsmIsolation file platform a b = refl
no_digest kinds.SevSnp file platform a b = refl
no_digest kinds.Tdx file platform a b = refl
no_digest kinds.Sev file platform a b = absurd (a refl)
no_digest kinds.SevEs file platform a b = absurd (b refl)

-- what becomes of an image whose platform's kind has no such digest
pub no_digest_set : (wanted : PlatformChoice) (next : Setting → Outcome) (image : List ℕ) (platform : Platform) → wanted_platform image wanted ≡ Some platform → platform.kind ≢ kinds.Sev
    → platform.kind ≢ kinds.SevEs → sev_set wanted next image ≡ refused is.Platform (no_digest_text platform.kind)
unfolding sev_set
no_digest_set wanted next image platform found a b =
    ap (platform_outcome wanted (sev_set_for next image)) found
    ∙ ap (digest_outcome platform.kind (λ digest. next (record { file = image; platform = platform; digest = digest }))) (no_digest platform.kind image platform a b)

-- ---- a step that stops the job

-- without a launch the machine is left untouched
no_launch : {M : Type 0} (m : sevs.Ghosts M) (x : Outcome) (r : Refusal) (sev : M) → x ≡ refusal_outcome r → HoldsSevLaunch m x.launched sev sev
no_launch m x r sev same = subst (λ (y : Outcome). HoldsSevLaunch m y.launched sev sev) (sym same) refl

-- a refusal before the launch leaves the machine as it was
untouched : {M : Type 0} (m : sevs.Ghosts M) (task : Task) (given : ℕ) (x : Outcome) (r : Refusal) (failed : Failures) (sev : M) → EndIsTrue task given x (Err r) failed
    → SevEndsAs m x (status_of r) failed sev sev
untouched m task given x (File text) failed sev h = no_launch m x (File text) sev h.0
untouched m task given x Shelf failed sev h = inl refl
untouched m task given x Output failed sev h = inl refl
untouched m task given x Machine failed sev h = inl refl
untouched m task given x Memory failed sev h = refl
untouched m task given x (BadPlatform text) failed sev h = no_launch m x (BadPlatform text) sev h.0
untouched m task given x (Json text) failed sev h = no_launch m x (Json text) sev h.0
untouched m task given x (Limit limit) failed sev h = no_launch m x (Limit limit) sev h.0

-- a step stopped the job, behind `?`
pub stopped_on : {S O M : Type 0} {s : shelves.Ghosts S} {o : sinks.Ghosts O} {m : sevs.Ghosts M} (words : SevLoadWords) {ending : Result Ended Refusal} (r : Refusal) {shelf shelf' : S} {out : O} {sev : M}
    → IsErrAnd ending (λ q. q ≡ r) → Stops s (sev_load_task words) r shelf shelf' → EndsOnSev s o m (sev_load_task words) ending shelf shelf' out out sev sev
stopped_on words {ending = Ok ended} r same h = absurd same
stopped_on {S} {O} {M} {s} {o} {m} words {ending = Err q} r {shelf} {shelf'} {out} {sev} same h =
    let ends = stopped_under {o = o} {ending = Err q} (λ (x : Outcome). SevMachineFailed m (sev_load_task words) (s.given shelf') x sev sev) r {out = out} same h in
    record { ends = ends; launch = untouched m (sev_load_task words) (s.given shelf') ends.outcome q _ sev ends.end_is }

-- ---- FILE

long_file_told : (told : Option Files) (words : SevLoadWords) → IfSome told (λ files. file_limit < length (content files words.file))
    → IfSome told (λ files. refused is.Limit long_file_text ≡ (sev_load_task words).outcome files)
long_file_told told words h =
    IfSome_then told h (λ files long. long_found (sev_set words.wanted (λ setting. sev_host_file setting (map.get files words.host))) (map.get files words.file) long)

long_file_known : {S : Type 0} {s : shelves.Ghosts S} (words : SevLoadWords) {shelf shelf' : S} → IsLonger s words.file file_limit shelf shelf'
    → Known s (sev_load_task words) (refused is.Limit long_file_text) shelf shelf'
long_file_known {S} {s} words {shelf} {shelf'} long =
    let same = length-replicate (s.given shelf') 0 in
    record {
      told = long_file_told (s.told shelf) words long.file;
      can = inl (replicate (s.given shelf') 0, same, λ next. long_bytes (sev_set words.wanted next) _ (subst (λ n. file_limit < n) (sym same) long.given));
    }

-- FILE was not read
pub file_stops : {S : Type 0} {s : shelves.Ghosts S} (words : SevLoadWords) (r : Refusal) {shelf shelf' : S} → IsNotRead s words.file file_limit of.File r shelf shelf' → OnlyReads s shelf shelf'
    → IsUnwritten (s.state shelf') → Stops s (sev_load_task words) r shelf shelf'
file_stops words r h k unwritten = not_read_stops (sev_load_task words) words.file file_limit of.File r (inl refl) (long_file_known words) h k unwritten

-- these bytes of FILE decide, whatever HOST is
by_file : {S : Type 0} {s : shelves.Ghosts S} (words : SevLoadWords) (x : Outcome) (bytes : List ℕ) {shelf shelf' : S} → IsRead s words.file file_limit bytes shelf shelf'
    → ((next : Setting → Outcome) → x ≡ bytes_outcome (sev_set words.wanted next) bytes) → Known s (sev_load_task words) x shelf shelf'
by_file {S} {s} words x bytes {shelf} h decides =
    record {
      told = IfSome_then (s.told shelf) h.whole (λ files found.
          let next = λ (setting : Setting). sev_host_file setting (map.get files words.host) in
          decides next ∙ ap (file_outcome (sev_set words.wanted next)) (sym found));
      can = inl (bytes, sym h.given, decides);
    }

-- the bytes of FILE are refused
pub bytes_stop : {S : Type 0} {s : shelves.Ghosts S} (words : SevLoadWords) (r : Refusal) (bytes : List ℕ) {shelf shelf' : S} → IsRead s words.file file_limit bytes shelf shelf'
    → ((next : Setting → Outcome) → Refuses (bytes_outcome (sev_set words.wanted next) bytes) r) → Stops s (sev_load_task words) r shelf shelf'
bytes_stop words (File text) bytes h refuses =
    refused_stops (sev_load_task words) (refusal_outcome (File text)) (File text) refl (by_file words _ bytes h (λ next. sym (refuses next))) h.only.kept h.unwritten
bytes_stop words Shelf bytes h refuses = absurd (refuses (λ setting. refusal_outcome Memory))
bytes_stop words Output bytes h refuses = absurd (refuses (λ setting. refusal_outcome Memory))
bytes_stop words Machine bytes h refuses = absurd (refuses (λ setting. refusal_outcome Memory))
bytes_stop words Memory bytes h refuses = memory_stops (sev_load_task words) h.only.kept h.unwritten
bytes_stop words (BadPlatform text) bytes h refuses =
    refused_stops (sev_load_task words) (refusal_outcome (BadPlatform text)) (BadPlatform text) refl (by_file words _ bytes h (λ next. sym (refuses next))) h.only.kept h.unwritten
bytes_stop words (Json text) bytes h refuses =
    refused_stops (sev_load_task words) (refusal_outcome (Json text)) (Json text) refl (by_file words _ bytes h (λ next. sym (refuses next))) h.only.kept h.unwritten
bytes_stop words (Limit limit) bytes h refuses =
    refused_stops (sev_load_task words) (refusal_outcome (Limit limit)) (Limit limit) refl (by_file words _ bytes h (λ next. sym (refuses next))) h.only.kept h.unwritten

-- ---- from FILE to HOST

-- the digest of a kind that has one
pub some_digest : (kind : PlatformKind) (file : List ℕ) (platform : Platform) → HasSevDigest kind → (digest : List ℕ) × (sev_digest_by kind file platform ≡ Some digest)
some_digest kind file platform (inl same) = (_, ap (λ k. sev_digest_by k file platform) same)
some_digest kind file platform (inr same) = (_, ap (λ k. sev_digest_by k file platform) same)

set_is : (wanted : PlatformChoice) (next : Setting → Outcome) (image : List ℕ) (platform : Platform) (digest : List ℕ) → wanted_platform image wanted ≡ Some platform
    → sev_digest_of image platform ≡ Some digest → sev_set wanted next image ≡ next (record { file = image; platform = platform; digest = digest })
unfolding sev_set
set_is wanted next image platform digest found given =
    ap (platform_outcome wanted (sev_set_for next image)) found
    ∙ ap (digest_outcome platform.kind (λ digest. next (record { file = image; platform = platform; digest = digest }))) given

-- what an accepted image and its platform come to, whose kind has a digest
abbrev pub setting_of : (image : List ℕ) (platform : Platform) → HasSevDigest platform.kind → Setting
setting_of image platform has = record { file = image; platform = platform; digest = (some_digest platform.kind image platform has).0 }

-- FILE was read, and it leads on to HOST with this.
pub record IsSet {S : Type 0} (s : shelves.Ghosts S) (words : SevLoadWords) (setting : Setting) (shelf shelf' : S) : Type 0 where
  pub read : IsRead s words.file file_limit setting.file shelf shelf'
  pub leads : SevLeadsOn words.wanted setting.file setting
  pub digest : sev_digest_of setting.file setting.platform ≡ Some setting.digest

-- an accepted image that has the platform leads on
pub is_set : {S : Type 0} {s : shelves.Ghosts S} (words : SevLoadWords) {bytes image : List ℕ} {platform : Platform} {shelf shelf' : S} → IsRead s words.file file_limit bytes shelf shelf' → image ≡ bytes
    → ((next : List ℕ → Outcome) → bytes_outcome next bytes ≡ next bytes) → wanted_platform image words.wanted ≡ Some platform → (has : HasSevDigest platform.kind)
    → IsSet s words (setting_of image platform has) shelf shelf'
is_set {S} {s} words {bytes} {image} {platform} {shelf} {shelf'} h same accepted found has =
    let given = some_digest platform.kind image platform has in
    record {
      read = subst (λ b. IsRead s words.file file_limit b shelf shelf') (sym same) h;
      leads = λ next.
          subst (λ b. bytes_outcome (sev_set words.wanted next) b ≡ sev_set words.wanted next b) (sym same) (accepted (sev_set words.wanted next))
          ∙ set_is words.wanted next image platform given.0 found given.1;
      digest = given.1;
    }

-- ---- HOST

passes : (a b : ℕ) → a < b → nat_lt a b ≡ true
passes a b h = grind arith

stays : (a b : ℕ) → b ≤ a → nat_lt a b ≡ false
stays a b h = grind (arith, h)

host_told : (told : Option Files) (words : SevLoadWords) (setting : Setting) (x : Outcome) → IfSome told (λ files. map.get files words.file ≡ Some setting.file)
    → SevLeadsOn words.wanted setting.file setting → IfSome told (λ files. x ≡ sev_host_file setting (map.get files words.host)) → IfSome told (λ files. x ≡ (sev_load_task words).outcome files)
host_told None words setting x found leads same = tt
host_told (Some files) words setting x found leads same =
    let next = λ (setting : Setting). sev_host_file setting (map.get files words.host) in
    same ∙ sym (leads next) ∙ ap (file_outcome (sev_set words.wanted next)) (sym found)

-- HOST decides: it is this text, or one as long
by_host : {S : Type 0} {s : shelves.Ghosts S} (words : SevLoadWords) (setting : Setting) (x : Outcome) (text : List ℕ) {shelf mid shelf' : S} → IsSet s words setting shelf mid
    → IfSome (s.told mid) (λ files. x ≡ sev_host_file setting (map.get files words.host)) → length text ≡ s.given shelf' → x ≡ sev_host_outcome setting text
    → Known s (sev_load_task words) x shelf shelf'
by_host {S} {s} words setting x text {shelf} {mid} h over size same =
    record {
      told = host_told (s.told shelf) words setting x h.read.whole h.leads
          (subst (λ told. IfSome told (λ files. x ≡ sev_host_file setting (map.get files words.host))) h.read.only.kept over);
      can = inr (setting.file, setting, text, h.leads, size, same);
    }

long_text : (setting : Setting) (text : List ℕ) → host_limit < length text → refused is.Limit long_host_text ≡ sev_host_outcome setting text
unfolding sev_host_outcome
long_text setting text h =
    sym (ap (λ b. if b then refused is.Limit long_host_text else sev_described setting (host_of text)) (passes host_limit (length text) h))

long_host : (setting : Setting) (found : Option (List ℕ)) → host_limit < length (unwrap_or found []) → refused is.Limit long_host_text ≡ sev_host_file setting found
long_host setting None h = absurd (omega arith)
long_host setting (Some text) h = long_text setting text h

long_host_known : {S : Type 0} {s : shelves.Ghosts S} (words : SevLoadWords) (setting : Setting) {shelf mid shelf' : S} → IsSet s words setting shelf mid → IsLonger s words.host host_limit mid shelf'
    → Known s (sev_load_task words) (refused is.Limit long_host_text) shelf shelf'
long_host_known {S} {s} words setting {shelf} {mid} {shelf'} h long =
    let same = length-replicate (s.given shelf') 0 in
    by_host words setting _ (replicate (s.given shelf') 0) h (IfSome_then (s.told mid) long.file (λ files longer. long_host setting (map.get files words.host) longer)) same
    (long_text setting _ (subst (λ n. host_limit < n) (sym same) long.given))

host_named : (told : Option Files) (words : SevLoadWords) (setting : Setting) → IfSome told (λ files. map.get files words.file ≡ Some setting.file) → SevLeadsOn words.wanted setting.file setting
    → IsSevHost words told words.host
host_named told words setting found leads =
    (refl, IfSome_then told found (λ files same. (setting, subst (λ b. SevLeadsOn words.wanted b setting) (sym (ap (λ o. unwrap_or o []) same)) leads)))

-- HOST was not read
pub host_stops : {S : Type 0} {s : shelves.Ghosts S} (words : SevLoadWords) (r : Refusal) {setting : Setting} {shelf mid shelf' : S} → IsSet s words setting shelf mid
    → IsNotRead s words.host host_limit of.Host r mid shelf' → OnlyReads s mid shelf' → IsUnwritten (s.state shelf') → Stops s (sev_load_task words) r shelf shelf'
host_stops {S} {s} words r {setting} {shelf} h not_read k unwritten =
    later_not_read (sev_load_task words) words.host host_limit of.Host r (inr (host_named (s.told shelf) words setting h.read.whole h.leads)) (long_host_known words setting h) h.read.only not_read k unwritten

-- what the text of HOST gives, as it was read
text_known : {S : Type 0} {s : shelves.Ghosts S} (words : SevLoadWords) (setting : Setting) (x : Outcome) (text : List ℕ) {shelf mid shelf' : S} → IsSet s words setting shelf mid
    → IsRead s words.host host_limit text mid shelf' → x ≡ sev_host_outcome setting text → Known s (sev_load_task words) x shelf shelf'
text_known {S} {s} words setting x text {shelf} {mid} h read same =
    by_host words setting x text h (IfSome_then (s.told mid) read.whole (λ files found. same ∙ ap (sev_host_file setting) (sym found))) (sym read.given) same

-- the words of a `load` of the same
abbrev pub load_words : SevLoadWords → LoadWords
load_words words = record { file = words.file; host = words.host; wanted = words.wanted; options = record { native_zero = false }; image = None }

-- a job that ends so puts its text
is_put : Status → Bool
is_put is.Done = true
is_put is.NotFit = true
is_put _ = false

refused_put : {A : Type 0} (x z : Outcome) → is_put x.status ≡ true → is_put z.status ≡ false → x ≡ z → A
refused_put x z put none same = let e : true ≡ false = sym put ∙ ap (λ (y : Outcome). is_put y.status) same ∙ none in cc

-- a job that puts its text is refused for want of memory alone
memory_alone : (x y : Outcome) (r : Refusal) → is_put x.status ≡ true → Refuses x r → Refuses y r
unfolding is_put
memory_alone x y (File text) put h = refused_put x (refusal_outcome (File text)) put refl h
memory_alone x y Shelf put h = absurd h
memory_alone x y Output put h = absurd h
memory_alone x y Machine put h = absurd h
memory_alone x y Memory put h = tt
memory_alone x y (BadPlatform text) put h = refused_put x (refusal_outcome (BadPlatform text)) put refl h
memory_alone x y (Json text) put h = refused_put x (refusal_outcome (Json text)) put refl h
memory_alone x y (Limit limit) put h = refused_put x (refusal_outcome (Limit limit)) put refl h

ended_put : (image : Option (List ℕ)) (load : Load) (digest : List ℕ) (bad : Option Misfit) → is_put (ended_outcome image load digest bad).status ≡ true
unfolding is_put
ended_put image load digest None = refl
ended_put image load digest (Some misfit) = refl

checked_put : (image : Option (List ℕ)) (load : Load) (digest : List ℕ) (first : Option Misfit) → is_put (checked_outcome image load digest first).status ≡ true
unfolding is_put
checked_put image load digest None = ended_put image load digest _
checked_put image load digest (Some misfit) = refl

-- a host description is refused as `load` refuses it
described_refuses : (words : LoadWords) (setting : Setting) (read : Result (List PlanRange × HostValues) HostRefusal) (r : Refusal) → Refuses (described_outcome words setting read) r
    → Refuses (sev_described setting read) r
described_refuses words setting (Ok (plan, host)) r h =
    let load = load_of setting.file setting.platform words.options host in
    memory_alone (checked_outcome words.image load setting.digest (first_misfit setting.file setting.platform plan host)) _ r
    (checked_put words.image load setting.digest (first_misfit setting.file setting.platform plan host)) h
described_refuses words setting (Err refusal) r h = h

load_described : (words : LoadWords) (setting : Setting) (text : List ℕ) → length text ≤ host_limit → host_outcome words setting text ≡ described_outcome words setting (host_of text)
unfolding host_outcome
load_described words setting text h =
    ap (λ b. if b then refused is.Limit long_host_text else described_outcome words setting (host_of text)) (stays host_limit (length text) h)

described_is : (setting : Setting) (text : List ℕ) → length text ≤ host_limit → sev_host_outcome setting text ≡ sev_described setting (host_of text)
unfolding sev_host_outcome
described_is setting text h = ap (λ b. if b then refused is.Limit long_host_text else sev_described setting (host_of text)) (stays host_limit (length text) h)

text_refuses : (words : LoadWords) (setting : Setting) (text : List ℕ) (r : Refusal) → length text ≤ host_limit → Refuses (host_outcome words setting text) r → Refuses (sev_host_outcome setting text) r
text_refuses words setting text r within h =
    subst (λ (x : Outcome). Refuses x r) (sym (described_is setting text within))
    (described_refuses words setting (host_of text) r (subst (λ (x : Outcome). Refuses x r) (load_described words setting text within) h))

-- the text of HOST is refused
pub text_stops : {S : Type 0} {s : shelves.Ghosts S} (words : SevLoadWords) (r : Refusal) {setting : Setting} {text : List ℕ} {shelf mid shelf' : S} → IsSet s words setting shelf mid
    → IsRead s words.host host_limit text mid shelf' → Refuses (host_outcome (load_words words) setting text) r → Stops s (sev_load_task words) r shelf shelf'
text_stops words r {setting} {text} h read refuses =
    refused_stops (sev_load_task words) (sev_host_outcome setting text) r (text_refuses (load_words words) setting text r read.within refuses) (text_known words setting _ text h read refl)
    (read.only.kept ∙ h.read.only.kept) read.unwritten

-- ---- the launch

checked_unwritten : (load : Load) (digest : List ℕ) (first : Option Misfit) → (sev_checked load digest first).written ≡ None
checked_unwritten load digest None = refl
checked_unwritten load digest (Some misfit) = refl

kept_files : (told : Option Files) → told ≡ option_map (with_written None) told
kept_files None = refl
kept_files (Some files) = refl

-- a job that writes no file has kept them all
files_kept : (x : Outcome) (status : Status) (told told' : Option Files) → x.written ≡ None → told' ≡ told → FilesEndAs x status false told told'
files_kept x is.Done told told' none same = same ∙ kept_files told ∙ ap (λ written. option_map (with_written written) told) (sym none)
files_kept x is.File told told' none same = same
files_kept x is.Usage told told' none same = same
files_kept x is.NotFit told told' none same = same
files_kept x is.Outside told told' none same = inl same
files_kept x is.Memory told told' none same = same
files_kept x is.Platform told told' none same = same
files_kept x is.Json told told' none same = same
files_kept x is.Limit told told' none same = same

-- why the job ends as its launch does
launched_true : {S O M : Type 0} (s : shelves.Ghosts S) (o : sinks.Ghosts O) (m : sevs.Ghosts M) (task : Task) (x : Outcome) (ending : Result Ended Refusal) (shelf shelf' : S) (out out' : O) (sev sev' : M)
    → task.can_give (s.given shelf') x → SevLaunchIsTrue o m x ending out out' sev sev' → EndIsTrue task (s.given shelf') x ending (sev_failures s o m task shelf shelf' out out' sev sev' x)
launched_true s o m task x (Ok ended) shelf shelf' out out' sev sev' can h = (h, can)
launched_true s o m task x (Err (File text)) shelf shelf' out out' sev sev' can h = absurd h
launched_true s o m task x (Err Shelf) shelf shelf' out out' sev sev' can h = absurd h
launched_true s o m task x (Err Output) shelf shelf' out out' sev sev' can h = (h.0, h.1, can)
launched_true s o m task x (Err Machine) shelf shelf' out out' sev sev' can h = (h.0, h.1, can)
launched_true s o m task x (Err Memory) shelf shelf' out out' sev sev' can h = tt
launched_true s o m task x (Err (BadPlatform text)) shelf shelf' out out' sev sev' can h = absurd h
launched_true s o m task x (Err (Json text)) shelf shelf' out out' sev sev' can h = absurd h
launched_true s o m task x (Err (Limit limit)) shelf shelf' out out' sev sev' can h = absurd h

machine_failed : {M : Type 0} (m : sevs.Ghosts M) (x : Outcome) (failed : Failures) (sev sev' : M) → failed.machine → (m.state sev' ≡ m.state sev) ⊎ IsSevStoppedIn m x.launched sev'
    → SevAfterFault m x failed sev sev'
machine_failed m x failed sev sev' cause (inl same) = inl same
machine_failed m x failed sev sev' cause (inr stopped) = inr (inl (cause, stopped))

-- it is no shelf that failed a launch
shelf_untouched : {O M : Type 0} (o : sinks.Ghosts O) (m : sevs.Ghosts M) (x : Outcome) (ending : Result Ended Refusal) (out out' : O) (sev sev' : M) → SevLaunchIsTrue o m x ending out out' sev sev'
    → ending ≢ Err Shelf
shelf_untouched o m x ending out out' sev sev' h same = subst (λ (e : Result Ended Refusal). SevLaunchIsTrue o m x e out out' sev sev') same h

-- what the job leaves of the machine is what its launch does
launched_leaves : {M : Type 0} (m : sevs.Ghosts M) (task : Task) (given : ℕ) (x : Outcome) (ending : Result Ended Refusal) (failed : Failures) (sev sev' : M) → EndIsTrue task given x ending failed
    → (ending ≢ Err Shelf) → SevLaunchLeaves m x ending sev sev' → SevEndsAs m x (end_status ending) failed sev sev'
launched_leaves m task given x (Ok end.Done) failed sev sev' cause other h = h
launched_leaves m task given x (Ok end.NotFit) failed sev sev' cause other h = h
launched_leaves m task given x (Err (File text)) failed sev sev' cause other h = h
launched_leaves m task given x (Err Shelf) failed sev sev' cause other h = absurd (other refl)
launched_leaves m task given x (Err Output) failed sev sev' cause other h = inr (inr (inr cause, h))
launched_leaves m task given x (Err Machine) failed sev sev' cause other h = machine_failed m x failed sev sev' cause h
launched_leaves m task given x (Err Memory) failed sev sev' cause other h = h
launched_leaves m task given x (Err (BadPlatform text)) failed sev sev' cause other h = h
launched_leaves m task given x (Err (Json text)) failed sev sev' cause other h = h
launched_leaves m task given x (Err (Limit limit)) failed sev sev' cause other h = h

-- the image was launched on the host
pub launch_ends : {S O M : Type 0} {s : shelves.Ghosts S} {o : sinks.Ghosts O} {m : sevs.Ghosts M} (words : SevLoadWords) {setting : Setting} {text : List ℕ} {plan : List PlanRange} {host : HostValues}
    {ending : Result Ended Refusal} {shelf first shelf' : S} {out out' : O} {sev sev' : M} → ((first second third : S) → OnlyReads s first second → OnlyReads s second third → OnlyReads s first third)
    → IsSet s words setting shelf first → IsRead s words.host host_limit text first shelf' → host_of text ≡ Ok (plan, host)
    → SevLaunchEnds o m (sev_checked (sev_load_of setting.file setting.platform host) setting.digest (first_misfit setting.file setting.platform plan host)) ending out out' sev sev'
    → EndsOnSev s o m (sev_load_task words) ending shelf shelf' out out' sev sev'
launch_ends {S} {O} {M} {s} {o} {m} words {setting} {text} {plan} {host} {ending} {shelf} {first} {shelf'} {out} {out'} {sev} {sev'} compose h read same launched =
    let load = sev_load_of setting.file setting.platform host in
    let misfit = first_misfit setting.file setting.platform plan host in
    let x = sev_checked load setting.digest misfit in
    let known : Known s (sev_load_task words) x shelf shelf' = text_known words setting x text h read (sym (described_is setting text read.within ∙ ap (sev_described setting) same)) in
    let only = compose shelf first shelf' h.read.only read.only in
    let end_is = launched_true s o m (sev_load_task words) x ending shelf shelf' out out' sev sev' known.can launched.end_is in
    record {
      ends = record {
        outcome = x;
        told = known.told;
        end_is = end_is;
        output = launched.output;
        files = files_kept x (end_status ending) (s.told shelf) (s.told shelf') (checked_unwritten load setting.digest misfit) only.kept;
        unwritten = λ u. read.unwritten;
      };
      launch = launched_leaves m (sev_load_task words) (s.given shelf') x ending _ sev sev' end_is (shelf_untouched o m x ending out out' sev sev' launched.end_is) launched.leaves;
    }
