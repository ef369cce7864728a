-- How the steps of `load` end: FILE and HOST, which are read one after the other, and the launch.
use Rattle.std.proofs.Common.{◌≡◌, ◌≢◌, ◌∙◌, ℕ, ◌<◌, ◌≤◌, refl, sym, ap, subst, inl, inr, ◌⊎◌, arith, List, [], length, replicate, true, false, Option, Some, None, Result, Ok, Err, IfSome}
use Rattle.std.specs.Prelude.{nat_lt, unwrap_or, if◌then◌else◌, IsErrAnd}
use Rattle.std.specs.FinMap as map
use Rattle.std.specs.Option.{option_map}
use Rattle.std.proofs.lemmas.List.{length-replicate}
use Rattle.std.proofs.lemmas.Option.{IfSome_then}
use Rattle.igvm_headers.specs.declared.options.Options.{Options}
use Rattle.igvm_headers.specs.declared.platform_kind.PlatformKind.{PlatformKind}
use Rattle.igvm_headers.specs.declared.platform_kind.PlatformKind.TheVariants as kinds
use Rattle.platform_masks.specs.declared.platform.Platform.{Platform}
use Rattle.host_set.specs.declared.range.PlanRange.{PlanRange}
use Rattle.host_set.specs.Hosts.{HostValues}
use Rattle.host_set.specs.Descriptions.{host_of}
use Rattle.directive_rules.specs.declared.misfit.Misfit.{Misfit}
use Rattle.directive_rules.specs.FirstMisfit.{first_misfit}
use Rattle.igvm_measure.specs.Digests.{digest_of, digest_by}
use Rattle.launch_platform.specs.Machine.{HasDigest}
use Rattle.launch_platform.specs.declared.launch.Launch as launches
use Rattle.image_loader.specs.Loads.{Load, load_of}
use Rattle.igvm_outside.specs.Files.{Files, IsUnwritten, content}
use Rattle.igvm_outside.specs.ShelfCalls.{IsRead, IsLonger, OnlyReads}
use Rattle.igvm_outside.specs.declared.shelf.Shelf as shelves
use Rattle.igvm_outside.specs.declared.sink.Sink as sinks
use Rattle.igvm_words.specs.Words.{LoadWords}
use Rattle.igvm_jobs.specs.declared.status.Status.TheVariants as is
use Rattle.igvm_jobs.specs.declared.refusal.Ended.{Ended}
use Rattle.igvm_jobs.specs.declared.refusal.Ended.TheVariants as end
use Rattle.igvm_jobs.specs.declared.refusal.LimitOf.TheVariants as of
use Rattle.igvm_jobs.specs.declared.refusal.Refusal.{Refusal}
use Rattle.igvm_jobs.specs.declared.refusal.Refusal.TheVariants.{File, Shelf, Output, Machine, Memory, Platform as BadPlatform, Json, Limit}
use Rattle.igvm_jobs.specs.Texts.{long_file_text, long_host_text, no_digest_text}
use Rattle.igvm_jobs.specs.Outcome.{Outcome, Written, refused}
use Rattle.igvm_jobs.specs.Tasks.{Task}
use Rattle.igvm_jobs.specs.ImageFiles.{bytes_outcome, file_outcome, file_limit}
use Rattle.igvm_jobs.specs.MeasureJob.{wanted_platform, platform_digest, platform_outcome, digest_outcome}
use Rattle.igvm_jobs.specs.LoadJob.{Setting, set, set_for, pages_written, host_outcome, host_file_outcome, described_outcome, checked_outcome, ended_outcome, host_limit, LeadsOn, IsHost, load_task}
use Rattle.igvm_jobs.specs.Refusals.{Refuses, refusal_outcome, status_of}
use Rattle.igvm_jobs.specs.Clauses.{Failures, FilesAreKept, HoldsLaunch, IsStoppedIn, MachineAfterFault, MachineEndsAs}
use Rattle.igvm_jobs.specs.Endings.{EndIsTrue, EndKeepsOutput, EndsOn, Stops, IsNotRead, LaunchEnds}
use Rattle.igvm_jobs.proofs.EndingLemmas.{rose_after, kept_end, Known, memory_stops, refused_stops, later_not_read, not_read_stops}
use Rattle.igvm_jobs.proofs.ImageFileLemmas.{long_bytes, long_found}

-- ---- a platform without a digest

no_digest : (kind : PlatformKind) (options : Options) (file : List ℕ) (mask : ℕ) → kind ≢ kinds.SevSnp → kind ≢ kinds.Tdx → digest_by kind options file mask ≡ None
no_digest kinds.Native options file mask a b = refl
no_digest kinds.VsmIsolation options file mask a b = refl
no_digest kinds.SevSnp options file mask a b = absurd (a refl)
no_digest kinds.Tdx options file mask a b = absurd (b refl)
no_digest kinds.Sev options file mask a b = refl
no_digest kinds.SevEs options file mask a b = refl

-- what becomes of an image whose platform's kind has no digest
pub no_digest_set : (words : LoadWords) (next : Setting → Outcome) (image : List ℕ) (platform : Platform) → wanted_platform image words.wanted ≡ Some platform
    → platform.kind ≢ kinds.SevSnp → platform.kind ≢ kinds.Tdx → set words next image ≡ refused is.Platform (no_digest_text platform.kind)
unfolding set platform_digest
no_digest_set words next image platform found a b =
    ap (platform_outcome words.wanted (set_for words next image)) found
    ∙ ap (digest_outcome platform.kind (λ digest. next (record { file = image; platform = platform; digest = digest }))) (no_digest platform.kind words.options image platform.mask a b)

-- ---- a step that stops the job

-- without a launch the machine is left untouched
no_launch : {L : Type 0} (l : launches.Ghosts L) (x : Outcome) (r : Refusal) (machine : L) → x ≡ refusal_outcome r → HoldsLaunch l x.launched machine machine
no_launch l x r machine same = subst (λ (y : Outcome). HoldsLaunch l y.launched machine machine) (sym same) refl

-- what a step that stopped the job keeps, by its refusal
stop_kept : {O L : Type 0} (o : sinks.Ghosts O) (l : launches.Ghosts L) (task : Task) (given : ℕ) (x : Outcome) (r : Refusal) (a b m : Type 0) (told told' : Option Files) (out : O) (machine : L)
    → EndIsTrue task given x (Err r) (record { shelf = a; output = ⊥; machine = ⊥ }) → told' ≡ told
    → EndIsTrue task given x (Err r) (record { shelf = a; output = b; machine = m }) × EndKeepsOutput o x (Err r) out out × FilesAreKept x (status_of r) told told'
    × MachineEndsAs l true x (status_of r) (record { shelf = a; output = b; machine = m }) machine machine
stop_kept o l task given x (File text) a b m told told' out machine h same = (h, refl, same, no_launch l x (File text) machine h.0)
stop_kept o l task given x Shelf a b m told told' out machine h same = (h, refl, inl same, inl refl)
stop_kept o l task given x Output a b m told told' out machine h same = absurd h
stop_kept o l task given x Machine a b m told told' out machine h same = absurd h
stop_kept o l task given x Memory a b m told told' out machine h same = (h, refl, same, refl)
stop_kept o l task given x (BadPlatform text) a b m told told' out machine h same = (h, refl, same, no_launch l x (BadPlatform text) machine h.0)
stop_kept o l task given x (Json text) a b m told told' out machine h same = (h, refl, same, no_launch l x (Json text) machine h.0)
stop_kept o l task given x (Limit limit) a b m told told' out machine h same = (h, refl, same, no_launch l x (Limit limit) machine h.0)

stop_ends : {S O L : Type 0} (s : shelves.Ghosts S) (o : sinks.Ghosts O) (l : launches.Ghosts L) (words : LoadWords) (r : Refusal) (shelf shelf' : S) (out : O) (machine : L)
    → Stops s (load_task words) r shelf shelf' → EndsOn s o l (load_task words) (Err r) shelf shelf' out out machine machine
stop_ends s o l words r shelf shelf' out machine h =
    let k = stop_kept o l (load_task words) (s.given shelf') h.outcome r _ _ _ (s.told shelf) (s.told shelf') out machine h.stop_is h.files in
    record { ends = record { outcome = h.outcome; told = h.told; end_is = k.0; output = k.1; files = kept_end h.outcome (status_of r) false (s.told shelf) (s.told shelf') k.2; unwritten = λ u. h.unwritten }; launch = k.3 }

-- a step stopped the job, behind `?`
pub stopped_on : {S O L : Type 0} {s : shelves.Ghosts S} {o : sinks.Ghosts O} {l : launches.Ghosts L} (words : LoadWords) {ending : Result Ended Refusal} (r : Refusal) {shelf shelf' : S} {out : O} {machine : L}
    → IsErrAnd ending (λ q. q ≡ r) → Stops s (load_task words) r shelf shelf' → EndsOn s o l (load_task words) ending shelf shelf' out out machine machine
stopped_on words {ending = Ok ended} r same h = absurd same
stopped_on {S} {O} {L} {s} {o} {l} words {ending = Err q} r {shelf} {shelf'} {out} {machine} same h =
    subst (λ (x : Refusal). EndsOn s o l (load_task words) (Err x) shelf shelf' out out machine machine) (sym same) (stop_ends s o l words r shelf shelf' out machine h)

-- ---- FILE

long_file_told : (told : Option Files) (words : LoadWords) → IfSome told (λ files. file_limit < length (content files words.file))
    → IfSome told (λ files. refused is.Limit long_file_text ≡ (load_task words).outcome files)
long_file_told told words h =
    IfSome_then told h (λ files long. long_found (set words (λ setting. host_file_outcome words setting (map.get files words.host))) (map.get files words.file) long)

long_file_known : {S : Type 0} {s : shelves.Ghosts S} (words : LoadWords) {shelf shelf' : S} → IsLonger s words.file file_limit shelf shelf' → Known s (load_task words) (refused is.Limit long_file_text) shelf shelf'
long_file_known {S} {s} words {shelf} {shelf'} long =
    let same = length-replicate (s.given shelf') 0 in
    record {
      told = long_file_told (s.told shelf) words long.file;
      can = inl (replicate (s.given shelf') 0, same, λ next. long_bytes (set words next) _ (subst (λ n. file_limit < n) (sym same) long.given));
    }

-- FILE was not read
pub file_stops : {S : Type 0} {s : shelves.Ghosts S} (words : LoadWords) (r : Refusal) {shelf shelf' : S} → IsNotRead s words.file file_limit of.File r shelf shelf' → OnlyReads s shelf shelf'
    → IsUnwritten (s.state shelf') → Stops s (load_task words) r shelf shelf'
file_stops words r h k unwritten = not_read_stops (load_task words) words.file file_limit of.File r (inl refl) (long_file_known words) h k unwritten

-- these bytes of FILE decide, whatever HOST is
by_file : {S : Type 0} {s : shelves.Ghosts S} (words : LoadWords) (x : Outcome) (bytes : List ℕ) {shelf shelf' : S} → IsRead s words.file file_limit bytes shelf shelf'
    → ((next : Setting → Outcome) → x ≡ bytes_outcome (set words next) bytes) → Known s (load_task words) x shelf shelf'
by_file {S} {s} words x bytes {shelf} h decides =
    record {
      told = IfSome_then (s.told shelf) h.whole (λ files found.
          let next = λ (setting : Setting). host_file_outcome words setting (map.get files words.host) in
          decides next ∙ ap (file_outcome (set words next)) (sym found));
      can = inl (bytes, sym h.given, decides);
    }

-- the bytes of FILE are refused
pub bytes_stop : {S : Type 0} {s : shelves.Ghosts S} (words : LoadWords) (r : Refusal) (bytes : List ℕ) {shelf shelf' : S} → IsRead s words.file file_limit bytes shelf shelf'
    → ((next : Setting → Outcome) → Refuses (bytes_outcome (set words next) bytes) r) → Stops s (load_task words) r shelf shelf'
bytes_stop words (File text) bytes h refuses =
    refused_stops (load_task words) (refusal_outcome (File text)) (File text) refl (by_file words _ bytes h (λ next. sym (refuses next))) h.only.kept h.unwritten
bytes_stop words Shelf bytes h refuses = absurd (refuses (λ setting. refusal_outcome Memory))
bytes_stop words Output bytes h refuses = absurd (refuses (λ setting. refusal_outcome Memory))
bytes_stop words Machine bytes h refuses = absurd (refuses (λ setting. refusal_outcome Memory))
bytes_stop words Memory bytes h refuses = memory_stops (load_task words) h.only.kept h.unwritten
bytes_stop words (BadPlatform text) bytes h refuses =
    refused_stops (load_task words) (refusal_outcome (BadPlatform text)) (BadPlatform text) refl (by_file words _ bytes h (λ next. sym (refuses next))) h.only.kept h.unwritten
bytes_stop words (Json text) bytes h refuses =
    refused_stops (load_task words) (refusal_outcome (Json text)) (Json text) refl (by_file words _ bytes h (λ next. sym (refuses next))) h.only.kept h.unwritten
bytes_stop words (Limit limit) bytes h refuses =
    refused_stops (load_task words) (refusal_outcome (Limit limit)) (Limit limit) refl (by_file words _ bytes h (λ next. sym (refuses next))) h.only.kept h.unwritten

-- ---- from FILE to HOST

-- the digest of a kind that has one
pub some_digest : (kind : PlatformKind) (options : Options) (file : List ℕ) (mask : ℕ) → HasDigest kind → (digest : List ℕ) × (digest_by kind options file mask ≡ Some digest)
some_digest kind options file mask (inl same) = (_, ap (λ k. digest_by k options file mask) same)
some_digest kind options file mask (inr same) = (_, ap (λ k. digest_by k options file mask) same)

set_is : (words : LoadWords) (next : Setting → Outcome) (image : List ℕ) (platform : Platform) (digest : List ℕ) → wanted_platform image words.wanted ≡ Some platform
    → digest_of image platform words.options ≡ Some digest → set words next image ≡ next (record { file = image; platform = platform; digest = digest })
unfolding set platform_digest
set_is words next image platform digest found given =
    ap (platform_outcome words.wanted (set_for words next image)) found
    ∙ ap (digest_outcome platform.kind (λ digest. next (record { file = image; platform = platform; digest = digest }))) given

-- what an accepted image and its platform come to, whose kind has a digest
abbrev pub setting_of : (words : LoadWords) (image : List ℕ) (platform : Platform) → HasDigest platform.kind → Setting
setting_of words image platform has =
    record { file = image; platform = platform; digest = (some_digest platform.kind words.options image platform.mask has).0 }

-- FILE was read, and it leads on to HOST with this.
pub record IsSet {S : Type 0} (s : shelves.Ghosts S) (words : LoadWords) (setting : Setting) (shelf shelf' : S) : Type 0 where
  pub read : IsRead s words.file file_limit setting.file shelf shelf'
  pub leads : LeadsOn words setting.file setting
  pub digest : digest_of setting.file setting.platform words.options ≡ Some setting.digest

-- an accepted image that has the platform leads on
pub is_set : {S : Type 0} {s : shelves.Ghosts S} (words : LoadWords) {bytes image : List ℕ} {platform : Platform} {shelf shelf' : S} → IsRead s words.file file_limit bytes shelf shelf' → image ≡ bytes
    → ((next : List ℕ → Outcome) → bytes_outcome next bytes ≡ next bytes) → wanted_platform image words.wanted ≡ Some platform → (has : HasDigest platform.kind)
    → IsSet s words (setting_of words image platform has) shelf shelf'
is_set {S} {s} words {bytes} {image} {platform} {shelf} {shelf'} h same accepted found has =
    let given = some_digest platform.kind words.options image platform.mask has in
    record {
      read = subst (λ b. IsRead s words.file file_limit b shelf shelf') (sym same) h;
      leads = λ next. subst (λ b. bytes_outcome (set words next) b ≡ set words next b) (sym same) (accepted (set words next)) ∙ set_is words next image platform given.0 found given.1;
      digest = given.1;
    }

-- ---- HOST

passes : (a b : ℕ) → a < b → nat_lt a b ≡ true
passes a b h = grind arith

stays : (a b : ℕ) → b ≤ a → nat_lt a b ≡ false
stays a b h = grind (arith, h)

host_told : (told : Option Files) (words : LoadWords) (setting : Setting) (x : Outcome) → IfSome told (λ files. map.get files words.file ≡ Some setting.file) → LeadsOn words setting.file setting
    → IfSome told (λ files. x ≡ host_file_outcome words setting (map.get files words.host)) → IfSome told (λ files. x ≡ (load_task words).outcome files)
host_told None words setting x found leads same = tt
host_told (Some files) words setting x found leads same =
    let next = λ (setting : Setting). host_file_outcome words setting (map.get files words.host) in
    same ∙ sym (leads next) ∙ ap (file_outcome (set words next)) (sym found)

-- HOST decides: it is this text, or one as long
by_host : {S : Type 0} {s : shelves.Ghosts S} (words : LoadWords) (setting : Setting) (x : Outcome) (text : List ℕ) {shelf mid shelf' : S} → IsSet s words setting shelf mid
    → IfSome (s.told mid) (λ files. x ≡ host_file_outcome words setting (map.get files words.host)) → length text ≡ s.given shelf' → x ≡ host_outcome words setting text
    → Known s (load_task words) x shelf shelf'
by_host {S} {s} words setting x text {shelf} {mid} h over size same =
    record {
      told = host_told (s.told shelf) words setting x h.read.whole h.leads
          (subst (λ told. IfSome told (λ files. x ≡ host_file_outcome words setting (map.get files words.host))) h.read.only.kept over);
      can = inr (setting.file, setting, text, h.leads, size, same);
    }

long_text : (words : LoadWords) (setting : Setting) (text : List ℕ) → host_limit < length text → refused is.Limit long_host_text ≡ host_outcome words setting text
unfolding host_outcome
long_text words setting text h =
    sym (ap (λ b. if b then refused is.Limit long_host_text else described_outcome words setting (host_of text)) (passes host_limit (length text) h))

long_host : (words : LoadWords) (setting : Setting) (found : Option (List ℕ)) → host_limit < length (unwrap_or found []) → refused is.Limit long_host_text ≡ host_file_outcome words setting found
long_host words setting None h = absurd (omega arith)
long_host words setting (Some text) h = long_text words setting text h

long_host_known : {S : Type 0} {s : shelves.Ghosts S} (words : LoadWords) (setting : Setting) {shelf mid shelf' : S} → IsSet s words setting shelf mid → IsLonger s words.host host_limit mid shelf'
    → Known s (load_task words) (refused is.Limit long_host_text) shelf shelf'
long_host_known {S} {s} words setting {shelf} {mid} {shelf'} h long =
    let same = length-replicate (s.given shelf') 0 in
    by_host words setting _ (replicate (s.given shelf') 0) h (IfSome_then (s.told mid) long.file (λ files longer. long_host words setting (map.get files words.host) longer)) same
    (long_text words setting _ (subst (λ n. host_limit < n) (sym same) long.given))

host_named : (told : Option Files) (words : LoadWords) (setting : Setting) → IfSome told (λ files. map.get files words.file ≡ Some setting.file) → LeadsOn words setting.file setting → IsHost words told words.host
host_named told words setting found leads =
    (refl, IfSome_then told found (λ files same. (setting, subst (λ b. LeadsOn words b setting) (sym (ap (λ o. unwrap_or o []) same)) leads)))

-- HOST was not read
pub host_stops : {S : Type 0} {s : shelves.Ghosts S} (words : LoadWords) (r : Refusal) {setting : Setting} {shelf mid shelf' : S} → IsSet s words setting shelf mid
    → IsNotRead s words.host host_limit of.Host r mid shelf' → OnlyReads s mid shelf' → IsUnwritten (s.state shelf') → Stops s (load_task words) r shelf shelf'
host_stops {S} {s} words r {setting} {shelf} h not_read k unwritten =
    later_not_read (load_task words) words.host host_limit of.Host r (inr (host_named (s.told shelf) words setting h.read.whole h.leads)) (long_host_known words setting h) h.read.only not_read k unwritten

-- what the text of HOST gives, as it was read
text_known : {S : Type 0} {s : shelves.Ghosts S} (words : LoadWords) (setting : Setting) (x : Outcome) (text : List ℕ) {shelf mid shelf' : S} → IsSet s words setting shelf mid
    → IsRead s words.host host_limit text mid shelf' → x ≡ host_outcome words setting text → Known s (load_task words) x shelf shelf'
text_known {S} {s} words setting x text {shelf} {mid} h read same =
    by_host words setting x text h (IfSome_then (s.told mid) read.whole (λ files found. same ∙ ap (host_file_outcome words setting) (sym found))) (sym read.given) same

-- the text of HOST is refused
pub text_stops : {S : Type 0} {s : shelves.Ghosts S} (words : LoadWords) (r : Refusal) {setting : Setting} {text : List ℕ} {shelf mid shelf' : S} → IsSet s words setting shelf mid
    → IsRead s words.host host_limit text mid shelf' → Refuses (host_outcome words setting text) r → Stops s (load_task words) r shelf shelf'
text_stops words r {setting} {text} h read refuses =
    refused_stops (load_task words) (host_outcome words setting text) r refuses (text_known words setting _ text h read refl) (read.only.kept ∙ h.read.only.kept) read.unwritten

-- ---- the launch

host_is : (words : LoadWords) (setting : Setting) (text : List ℕ) (plan : List PlanRange) (host : HostValues) → length text ≤ host_limit → host_of text ≡ Ok (plan, host)
    → host_outcome words setting text
    ≡ checked_outcome words.image (load_of setting.file setting.platform words.options host) setting.digest (first_misfit setting.file setting.platform plan host)
unfolding host_outcome
host_is words setting text plan host h same =
    ap (λ b. if b then refused is.Limit long_host_text else described_outcome words setting (host_of text)) (stays host_limit (length text) h)
    ∙ ap (described_outcome words setting) same

-- the file that is written is the pages file that is asked for
pages_named : (image : Option (List ℕ)) (load : Load) (written : Written) → pages_written image load ≡ Some written → Some written.name ≡ image
pages_named None load written same = cc
pages_named (Some name) load written same = ap (option_map (λ (w : Written). w.name)) (sym same)

ended_named : (image : Option (List ℕ)) (load : Load) (digest : List ℕ) (misfit : Option Misfit) (written : Written) → (ended_outcome image load digest misfit).written ≡ Some written → Some written.name ≡ image
ended_named image load digest None written same = pages_named image load written same
ended_named image load digest (Some misfit) written same = cc

checked_named : (image : Option (List ℕ)) (load : Load) (digest : List ℕ) (misfit : Option Misfit) (written : Written) → (checked_outcome image load digest misfit).written ≡ Some written → Some written.name ≡ image
checked_named image load digest None written same = ended_named image load digest _ written same
checked_named image load digest (Some misfit) written same = cc

-- the machine failed, and is as before or stopped between its commands
pub machine_failed : {L : Type 0} (l : launches.Ghosts L) (x : Outcome) (failed : Failures) (machine machine' : L) → failed.machine → (l.state machine' ≡ l.state machine) ⊎ IsStoppedIn l x.launched machine'
    → MachineAfterFault l x failed machine machine'
machine_failed l x failed machine machine' cause (inl same) = inl same
machine_failed l x failed machine machine' cause (inr stopped) = inr (inl (cause, stopped))

-- a launch behind steps that only read ends the job, whose outcome is known
launched_end : {S O L : Type 0} (s : shelves.Ghosts S) (o : sinks.Ghosts O) (l : launches.Ghosts L) (words : LoadWords) (x : Outcome) (ending : Result Ended Refusal) (shelf mid shelf' : S) (out out' : O)
    (machine machine' : L) → Known s (load_task words) x shelf shelf' → OnlyReads s shelf mid → IsUnwritten (s.state mid) → ((written : Written) → x.written ≡ Some written → Some written.name ≡ words.image)
    → LaunchEnds s o l x ending mid shelf' out out' machine machine' → EndsOn s o l (load_task words) ending shelf shelf' out out' machine machine'
launched_end s o l words x (Ok end.Done) shelf mid shelf' out out' machine machine' known k unwritten named h =
    record {
      ends = record {
        outcome = x;
        told = known.told;
        end_is = (h.end_is, known.can);
        output = h.output;
        files = subst (λ told. FilesAreKept x is.Done told (s.told shelf')) k.kept h.files;
        unwritten = λ u. h.unwritten unwritten;
      };
      launch = h.leaves;
    }
launched_end s o l words x (Ok end.NotFit) shelf mid shelf' out out' machine machine' known k unwritten named h =
    record {
      ends = record {
        outcome = x;
        told = known.told;
        end_is = (h.end_is, known.can);
        output = h.output;
        files = h.files ∙ k.kept;
        unwritten = λ u. h.unwritten unwritten;
      };
      launch = h.leaves;
    }
launched_end s o l words x (Err Shelf) shelf mid shelf' out out' machine machine' known k unwritten named h =
    let written = h.end_is.0 in
    let failed = inr (
      written.name,
      named written h.end_is.1,
      rose_after (s.write_faults shelf written.name) (s.write_faults mid written.name) (s.write_faults shelf' written.name) (k.writes written.name) h.end_is.3,
      h.end_is.2,
      known.can,
    ) in
    record {
      ends = record {
        outcome = x;
        told = known.told;
        end_is = failed;
        output = h.output;
        files = subst (λ told. FilesAreKept x is.Outside told (s.told shelf')) k.kept h.files;
        unwritten = λ u. h.unwritten unwritten;
      };
      launch = inr (inr (inl failed, h.leaves));
    }
launched_end s o l words x (Err Output) shelf mid shelf' out out' machine machine' known k unwritten named h =
    record {
      ends = record {
        outcome = x;
        told = known.told;
        end_is = (h.end_is.0, h.end_is.1, known.can);
        output = h.output;
        files = subst (λ told. FilesAreKept x is.Outside told (s.told shelf')) k.kept h.files;
        unwritten = λ u. h.unwritten unwritten;
      };
      launch = inr (inr (inr (h.end_is.0, h.end_is.1, known.can), h.leaves));
    }
launched_end s o l words x (Err Machine) shelf mid shelf' out out' machine machine' known k unwritten named h =
    record {
      ends = record {
        outcome = x;
        told = known.told;
        end_is = (h.end_is.0, h.end_is.1, known.can);
        output = h.output;
        files = subst (λ told. FilesAreKept x is.Outside told (s.told shelf')) k.kept h.files;
        unwritten = λ u. h.unwritten unwritten;
      };
      launch = machine_failed l x _ machine machine' (h.end_is.0, h.end_is.1, known.can) h.leaves;
    }
launched_end s o l words x (Err Memory) shelf mid shelf' out out' machine machine' known k unwritten named h =
    record {
      ends = record { outcome = x; told = known.told; end_is = tt; output = h.output; files = h.files ∙ k.kept; unwritten = λ u. h.unwritten unwritten };
      launch = h.leaves;
    }
launched_end s o l words x (Err (File text)) shelf mid shelf' out out' machine machine' known k unwritten named h = absurd h.end_is
launched_end s o l words x (Err (BadPlatform text)) shelf mid shelf' out out' machine machine' known k unwritten named h = absurd h.end_is
launched_end s o l words x (Err (Json text)) shelf mid shelf' out out' machine machine' known k unwritten named h = absurd h.end_is
launched_end s o l words x (Err (Limit limit)) shelf mid shelf' out out' machine machine' known k unwritten named h = absurd h.end_is

-- the image was launched on the host
pub launch_ends : {S O L : Type 0} {s : shelves.Ghosts S} {o : sinks.Ghosts O} {l : launches.Ghosts L} (words : LoadWords) {setting : Setting} {text : List ℕ} {plan : List PlanRange} {host : HostValues}
    {ending : Result Ended Refusal} {shelf first second shelf' : S} {out out' : O} {machine machine' : L} → ((first second third : S) → OnlyReads s first second → OnlyReads s second third → OnlyReads s first third)
    → IsSet s words setting shelf first → IsRead s words.host host_limit text first second → host_of text ≡ Ok (plan, host)
    → LaunchEnds s o l (checked_outcome words.image (load_of setting.file setting.platform words.options host) setting.digest (first_misfit setting.file setting.platform plan host))
    ending second shelf' out out' machine machine' → EndsOn s o l (load_task words) ending shelf shelf' out out' machine machine'
launch_ends {S} {O} {L} {s} {o} {l} words {setting} {text} {plan} {host} {ending} {shelf} {first} {second} {shelf'} {out} {out'} {machine} {machine'} compose h read same launched =
    let x = checked_outcome words.image (load_of setting.file setting.platform words.options host) setting.digest (first_misfit setting.file setting.platform plan host) in
    let known : Known s (load_task words) x shelf second = text_known words setting x text h read (sym (host_is words setting text plan host read.within same)) in
    launched_end s o l words x ending shelf second shelf' out out' machine machine'
    (record { told = known.told; can = subst (λ n. (load_task words).can_give n x) (sym launched.given) known.can })
    (compose shelf first second h.read.only read.only) read.unwritten
    (checked_named words.image (load_of setting.file setting.platform words.options host) setting.digest (first_misfit setting.file setting.platform plan host)) launched
