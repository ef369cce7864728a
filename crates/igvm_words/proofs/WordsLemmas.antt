-- Words mean a job exactly where they are its words.
use Rattle.std.proofs.Common.{◌≡◌, ℕ, zero, suc, ◌^◌, ◌<◌, ◌≤◌, ◌↔◌, List, [], ◌∷◌, length, get_or, refl, sym, ◌∙◌, ap, subst, arith, Bool, true, false, Option, Some, None}
use Rattle.std.specs.Prelude.{IfSome, nat_lt, nat_le, ◌++◌, codes, ◌&&◌, ◌||◌, ◌==◌, not, if◌then◌else◌}
use Rattle.std.specs.Option.{option_map}
use Rattle.std.specs.Fmt.{decimal}
use Rattle.std.specs.List.{list_all}
use Rattle.std.specs.Char.{is_ascii_digit}
use Rattle.std.specs.Str.{all_ascii_digits}
use Rattle.std.specs.Str.Parse.{digits_value}
use Rattle.std.proofs.lemmas.Fmt.{decimal_digit, first_decimal, decimal_nonempty, digits_decimal, digits_value-decimal, decimal-digits_value}
use Rattle.igvm_headers.specs.declared.platform_kind.PlatformKind.TheVariants.{Native, VsmIsolation, SevSnp, Tdx, Sev, SevEs}
use Rattle.igvm_headers.specs.declared.options.Options.{Options}
use Rattle.igvm_words.specs.declared.job.Job as code
use Rattle.igvm_words.specs.JobView.{job_view}
use Rattle.igvm_words.specs.Words.{Job, Build, Print, Measure, Load, Make, PlatformChoice, First, Numbered, is_text, is_file_name, is_decimal, number_of, choice_of, after_flag, last_options, measure_options, measured_as, image_option, loaded_as, loaded_with, build_job, print_job, measure_job, load_job, make_job, job_of, choice_text, is_count, as_count, count_of}
use Rattle.igvm_words.specs.WordsOfJob.{IsChoice, IsImage, IsJob, options_words, image_words, words_of, Means}
use Rattle.igvm_words.proofs.NumberLemmas.{own, both_left, digits_alone, some_digit, all_digits}

same_number : (a b : ℕ) → (a == b) ≡ true → a ≡ b
same_number a b h = grind (arith, h)

both_right : (a b : Bool) → (a && b) ≡ true → b ≡ true
both_right true b h = h
both_right false b h = cc

text_same : (word text : List ℕ) → is_text word text ≡ true → word ≡ text
text_same [] [] h = refl
text_same [] (b ∷ text) h = cc
text_same (a ∷ word) [] h = cc
text_same (a ∷ word) (b ∷ text) h =
    ap (λ x. x ∷ word) (same_number a b (both_left _ _ h)) ∙ ap (λ xs. b ∷ xs) (text_same word text (both_right (a == b) _ h))

-- a choice that gave something took its first way
taken_if : {T : Type 0} (b : Bool) (o : Option T) (y : T) → (if b then o else None) ≡ Some y → (b ≡ true) × (o ≡ Some y)
taken_if true o y h = (refl, h)
taken_if false o y h = cc

chosen : {T : Type 0} (b : Bool) (x y : T) → (if b then Some x else None) ≡ Some y → (b ≡ true) × (x ≡ y)
chosen b x y h = let t = taken_if b (Some x) y h in (t.0, cc)

mapped : {T U : Type 0} (f : T → U) (o : Option T) (y : U) → option_map f o ≡ Some y → (x : T) × (o ≡ Some x) × (f x ≡ y)
mapped f None y h = cc
mapped f (Some x) y h = (x, refl, cc)

no_lead : (c : ℕ) → c ≡ 48 → (not (c == 48) || false) ≡ true → ⊥
no_lead c h t = let k : (not (48 == 48) || false) ≡ true = subst (λ x. (not (x == 48) || false) ≡ true) h t in cc

some_more : (n : ℕ) → (suc n == 0) ≡ false
some_more n = grind arith

-- a decimal word begins with 0 only where it is `0`
lead_one : (word : List ℕ) → is_decimal word ≡ true → get_or word 0 0 ≡ 48 → length word ≡ 1
lead_one [] d h = cc
lead_one (c ∷ []) d h = refl
lead_one (c ∷ e ∷ cs) d h =
    absurd (no_lead c h (sym (ap (λ b. not (c == 48) || b) (some_more (length cs))) ∙ both_right (list_all is_ascii_digit (c ∷ e ∷ cs)) _ d))

number_text : (word : List ℕ) (n : ℕ) → number_of word ≡ Some n → (word ≡ decimal n) × (n < 2 ^ 32)
unfolding number_of
number_text word n h =
    let c = chosen _ _ _ h in
    let d = both_left (is_decimal word) _ c.0 in
    let small : digits_value 10 word < 2 ^ 32 = grind (arith, both_right (is_decimal word) (nat_lt (digits_value 10 word) (2 ^ 32)) c.0) in (
      sym (decimal-digits_value own word (digits_alone word d) (some_digit word d) (lead_one word d) (omega (arith, small))) ∙ ap decimal c.1,
      subst (λ m. m < 2 ^ 32) c.1 small,
    )

not_same : (c : ℕ) → 48 < c → (c == 48) ≡ false
not_same c h = grind (arith, h)

decimal_led : (word : List ℕ) → all_ascii_digits word ≡ true → 0 < length word → 48 < get_or word 0 0 → is_decimal word ≡ true
decimal_led [] a some lead = absurd (omega arith)
decimal_led (c ∷ cs) a some lead =
    ap (λ b. b && (not (c == 48) || (length cs == 0))) (all_digits (c ∷ cs) ∙ a)
    ∙ ap (λ b. not b || (length cs == 0)) (not_same c lead)

decimal_word : (n : ℕ) → n < 2 ^ 32 → is_decimal (decimal n) ≡ true
decimal_word zero h = ap is_decimal (decimal_digit 0 (omega arith))
decimal_word (suc n) h =
    decimal_led (decimal (suc n)) (digits_decimal own (suc n) (omega (arith, h))) (decimal_nonempty (suc n) (omega (arith, h)))
    (first_decimal (suc n) (omega arith) (omega (arith, h)))

number_back : (n : ℕ) → n < 2 ^ 32 → number_of (decimal n) ≡ Some n
unfolding number_of
number_back n h =
    let v = digits_value-decimal own n (omega (arith, h)) in
    let fits : nat_lt (digits_value 10 (decimal n)) (2 ^ 32) ≡ true = ap (λ m. nat_lt m (2 ^ 32)) v ∙ grind (arith, h) in
    ap (λ b. if b && nat_lt (digits_value 10 (decimal n)) (2 ^ 32) then Some (digits_value 10 (decimal n)) else None) (decimal_word n h)
    ∙ ap (λ b. if b then Some (digits_value 10 (decimal n)) else None) fits ∙ ap (λ m. Some m) v

less_differs : (a c : ℕ) → a < c → (a == c) ≡ false
less_differs a c h = grind (arith, h)

digit_below : (c : ℕ) → is_ascii_digit c ≡ true → c < 58
digit_below c h = grind (arith, h)

-- a word that begins with another byte is no text
other_text : (word : List ℕ) (c : ℕ) (text : List ℕ) → get_or word 0 0 < c → is_text word (c ∷ text) ≡ false
other_text [] c text h = refl
other_text (a ∷ word) c text h = ap (λ b. b && is_text word text) (less_differs a c h)

first_digit : (word : List ℕ) → all_ascii_digits word ≡ true → get_or word 0 0 < 58
first_digit [] h = omega arith
first_digit (c ∷ cs) h = digit_below c (both_left (is_ascii_digit c) (all_ascii_digits cs) h)

-- ---- a number of pages

counted : (number : Option ℕ) (count : ℕ) → as_count number ≡ Some count → (number ≡ Some count) × (is_count count ≡ true)
counted None count h = cc
counted (Some n) count h =
    let c = chosen _ _ _ h in
    (ap (λ m. Some m) c.1, subst (λ m. is_count m ≡ true) c.1 c.0)

count_text : (word : List ℕ) (count : ℕ) → count_of word ≡ Some count → (word ≡ decimal count) × (1 ≤ count) × (count ≤ 100000)
count_text word count h =
    let c = counted (number_of word) count h in
    let some : 1 ≤ count = grind (arith, both_left (nat_le 1 count) (nat_le count 100000) c.1) in
    let few : count ≤ 100000 = grind (arith, both_right (nat_le 1 count) (nat_le count 100000) c.1) in
    ((number_text word count c.0).0, some, few)

is_count_within : (count : ℕ) → 1 ≤ count → count ≤ 100000 → is_count count ≡ true
is_count_within count some few = grind (arith, some, few)

count_back : (count : ℕ) → 1 ≤ count → count ≤ 100000 → count_of (decimal count) ≡ Some count
count_back count some few =
    ap as_count (number_back count (omega (arith, few)))
    ∙ ap (λ b. if b then Some count else None) (is_count_within count some few)

-- ---- a platform

choice_back : (choice : PlatformChoice) → IsChoice choice → choice_of (choice_text choice) ≡ Some choice
unfolding choice_of
choice_back (First Native) h = absurd h
choice_back (First VsmIsolation) h = absurd h
choice_back (First SevSnp) h = refl
choice_back (First Tdx) h = refl
choice_back (First Sev) h = absurd h
choice_back (First SevEs) h = absurd h
choice_back (Numbered n) h =
    let low = first_digit (decimal n) (digits_decimal own n (omega (arith, h))) in
    let no_snp = other_text (decimal n) 115 (110 ∷ 112 ∷ []) (omega (arith, low)) in
    let no_tdx = other_text (decimal n) 116 (100 ∷ 120 ∷ []) (omega (arith, low)) in
    ap (λ b. if b then Some (First SevSnp) else (if is_text (decimal n) (codes "tdx") then Some (First Tdx) else option_map Numbered (number_of (decimal n)))) no_snp
    ∙ ap (λ b. if b then Some (First Tdx) else option_map Numbered (number_of (decimal n))) no_tdx
    ∙ ap (option_map Numbered) (number_back n h)

choice_by : (snp tdx : Bool) (word : List ℕ) (choice : PlatformChoice) → is_text word (codes "snp") ≡ snp → is_text word (codes "tdx") ≡ tdx
    → (if snp then Some (First SevSnp) else (if tdx then Some (First Tdx) else option_map Numbered (number_of word))) ≡ Some choice
    → (word ≡ choice_text choice) × IsChoice choice
choice_by true tdx word (First SevSnp) s t h = (text_same word _ s, tt)
choice_by true tdx word (First Native) s t h = cc
choice_by true tdx word (First VsmIsolation) s t h = cc
choice_by true tdx word (First Tdx) s t h = cc
choice_by true tdx word (First Sev) s t h = cc
choice_by true tdx word (First SevEs) s t h = cc
choice_by true tdx word (Numbered n) s t h = cc
choice_by false true word (First Tdx) s t h = (text_same word _ t, tt)
choice_by false true word (First Native) s t h = cc
choice_by false true word (First VsmIsolation) s t h = cc
choice_by false true word (First SevSnp) s t h = cc
choice_by false true word (First Sev) s t h = cc
choice_by false true word (First SevEs) s t h = cc
choice_by false true word (Numbered n) s t h = cc
choice_by false false word choice s t h =
    let m = mapped Numbered (number_of word) choice h in
    subst (λ w. (word ≡ choice_text w) × IsChoice w) m.2 (number_text word m.0 m.1)

choice_forth : (word : List ℕ) (choice : PlatformChoice) → choice_of word ≡ Some choice → (word ≡ choice_text choice) × IsChoice choice
unfolding choice_of
choice_forth word choice h = choice_by _ _ word choice refl refl h

-- ---- from the words to the job

build_forth : (words : List (List ℕ)) (job : Job) → build_job words ≡ Some job → Means (codes "build" ∷ words) job
build_forth [] job h = cc
build_forth (list ∷ []) job h = cc
build_forth (list ∷ target ∷ []) job h =
    let c = chosen _ _ _ h in
    subst (λ j. Means (codes "build" ∷ list ∷ target ∷ []) j) c.1
    (record { possible = (both_left (is_file_name list) _ c.0, both_right (is_file_name list) _ c.0); same = refl })
build_forth (list ∷ target ∷ word ∷ words) job h = cc

print_forth : (words : List (List ℕ)) (job : Job) → print_job words ≡ Some job → Means (codes "print" ∷ words) job
print_forth [] job h = cc
print_forth (file ∷ []) job h =
    let c = chosen _ _ _ h in
    subst (λ j. Means (codes "print" ∷ file ∷ []) j) c.1 (record { possible = c.0; same = refl })
print_forth (file ∷ word ∷ words) job h = cc

flag_by : (b : Bool) (word : List ℕ) (words : List (List ℕ)) → is_text word (codes "--native-zero") ≡ b
    → let p : Bool × List (List ℕ) = (if b then (true, words) else (false, word ∷ words)) in word ∷ words ≡ options_words (record { native_zero = p.0 }) ++ p.1
flag_by true word words t = ap (λ w. w ∷ words) (text_same word _ t)
flag_by false word words t = refl

-- words are the flag, where it stands first, and the words after it
flag_forth : (words : List (List ℕ)) → let p = after_flag (codes "--native-zero") words in words ≡ options_words (record { native_zero = p.0 }) ++ p.1
flag_forth [] = refl
flag_forth (word ∷ words) = flag_by _ word words refl

last_forth : (p : Bool × List (List ℕ)) (options : Options) → last_options p ≡ Some options → options_words (record { native_zero = p.0 }) ++ p.1 ≡ options_words options
last_forth (true, []) options h =
    let e : record { native_zero = true } ≡ options = cc in
    ap options_words e
last_forth (false, []) options h =
    let e : record { native_zero = false } ≡ options = cc in
    ap options_words e
last_forth (native_zero, word ∷ words) options h = cc

options_forth : (words : List (List ℕ)) (options : Options) → measure_options words ≡ Some options → words ≡ options_words options
options_forth words options h = flag_forth words ∙ last_forth _ options h

measured_from : (file : List ℕ) (choice : Option PlatformChoice) (options : Option Options) (job : Job) → measured_as file choice options ≡ Some job
    → (c : PlatformChoice) × (o : Options) × (choice ≡ Some c) × (options ≡ Some o) × (Measure (record { file = file; wanted = c; options = o }) ≡ job)
measured_from file None options job h = cc
measured_from file (Some c) None job h = cc
measured_from file (Some c) (Some o) job h = (c, o, refl, refl, cc)

measure_forth : (words : List (List ℕ)) (job : Job) → measure_job words ≡ Some job → Means (codes "measure" ∷ words) job
measure_forth [] job h = cc
measure_forth (file ∷ []) job h = cc
measure_forth (file ∷ option ∷ []) job h = cc
measure_forth (file ∷ option ∷ platform ∷ tail) job h =
    let t = taken_if _ _ job h in
    let m = measured_from file (choice_of platform) (measure_options tail) job t.1 in
    let c = choice_forth platform m.0 m.2 in
    subst (λ j. Means (codes "measure" ∷ file ∷ option ∷ platform ∷ tail) j) m.4
    (record {
      possible = (both_left (is_file_name file) _ t.0, c.1);
      same = ap (λ w. codes "measure" ∷ file ∷ w ∷ platform ∷ tail) (text_same option _ (both_right (is_file_name file) _ t.0))
          ∙ ap (λ w. codes "measure" ∷ file ∷ codes "--platform" ∷ w ∷ tail) c.0
          ∙ ap (λ ws. codes "measure" ∷ file ∷ codes "--platform" ∷ choice_text m.0 ∷ ws) (options_forth tail m.1 m.3);
    })

image_forth : (words : List (List ℕ)) (image : Option (List ℕ)) → image_option words ≡ Some image → (words ≡ image_words image) × IsImage image
image_forth [] image h =
    let e : None ≡ image = cc in
    subst (λ i. ([] ≡ image_words i) × IsImage i) e (refl, tt)
image_forth (flag ∷ []) image h = cc
image_forth (flag ∷ target ∷ []) image h =
    let c = chosen _ _ _ h in
    subst (λ i. (flag ∷ target ∷ [] ≡ image_words i) × IsImage i) c.1
    (ap (λ w. w ∷ target ∷ []) (text_same flag _ (both_left _ (is_file_name target) c.0)), both_right (is_text flag (codes "--image")) _ c.0)
image_forth (flag ∷ target ∷ word ∷ words) image h = cc

loaded_by : (file host : List ℕ) (choice : Option PlatformChoice) (options : Options) (image : Option (Option (List ℕ))) (job : Job)
    → loaded_as file host choice options image ≡ Some job
    → (c : PlatformChoice) × (i : Option (List ℕ)) × (choice ≡ Some c) × (image ≡ Some i)
    × (Load (record { file = file; host = host; wanted = c; options = options; image = i }) ≡ job)
loaded_by file host None options image job h = cc
loaded_by file host (Some c) options None job h = cc
loaded_by file host (Some c) options (Some i) job h = (c, i, refl, refl, cc)

loaded_from : (file host : List ℕ) (choice : Option PlatformChoice) (p : Bool × List (List ℕ)) (job : Job) → loaded_with file host choice p ≡ Some job
    → (c : PlatformChoice) × (i : Option (List ℕ)) × (choice ≡ Some c) × (image_option p.1 ≡ Some i)
    × (Load (record { file = file; host = host; wanted = c; options = record { native_zero = p.0 }; image = i }) ≡ job)
loaded_from file host choice (native_zero, words) job h = loaded_by file host choice _ _ job h

load_forth : (words : List (List ℕ)) (job : Job) → load_job words ≡ Some job → Means (codes "load" ∷ words) job
load_forth [] job h = cc
load_forth (file ∷ []) job h = cc
load_forth (file ∷ host ∷ []) job h = cc
load_forth (file ∷ host ∷ option ∷ []) job h = cc
load_forth (file ∷ host ∷ option ∷ platform ∷ tail) job h =
    let t = taken_if _ _ job h in
    let p = after_flag (codes "--native-zero") tail in
    let options : Options = record { native_zero = p.0 } in
    let m = loaded_from file host (choice_of platform) p job t.1 in
    let c = choice_forth platform m.0 m.2 in
    let i = image_forth p.1 m.1 m.3 in
    let names = both_left (is_file_name file && is_file_name host) _ t.0 in
    subst (λ j. Means (codes "load" ∷ file ∷ host ∷ option ∷ platform ∷ tail) j) m.4
    (record {
      possible = (both_left (is_file_name file) _ names, both_right (is_file_name file) _ names, c.1, i.1);
      same = ap (λ w. codes "load" ∷ file ∷ host ∷ w ∷ platform ∷ tail) (text_same option _ (both_right (is_file_name file && is_file_name host) _ t.0))
          ∙ ap (λ w. codes "load" ∷ file ∷ host ∷ codes "--platform" ∷ w ∷ tail) c.0
          ∙ ap (λ ws. codes "load" ∷ file ∷ host ∷ codes "--platform" ∷ choice_text m.0 ∷ ws)
          (flag_forth tail ∙ ap (λ ws. options_words options ++ ws) i.0);
    })

make_forth : (words : List (List ℕ)) (job : Job) → make_job words ≡ Some job → Means (codes "make" ∷ words) job
make_forth [] job h = cc
make_forth (number ∷ []) job h = cc
make_forth (number ∷ target ∷ []) job h =
    let t = taken_if _ _ job h in
    let m = mapped (λ count. Make count target) (count_of number) job t.1 in
    let n = count_text number m.0 m.1 in
    subst (λ j. Means (codes "make" ∷ number ∷ target ∷ []) j) m.2
    (record { possible = (n.1, n.2, t.0); same = ap (λ w. codes "make" ∷ w ∷ target ∷ []) n.0 })
make_forth (number ∷ target ∷ word ∷ words) job h = cc

command_by : (b p m l k : Bool) (command : List ℕ) (words : List (List ℕ)) (job : Job) → is_text command (codes "build") ≡ b → is_text command (codes "print") ≡ p
    → is_text command (codes "measure") ≡ m → is_text command (codes "load") ≡ l → is_text command (codes "make") ≡ k
    → (if b then build_job words else (if p then print_job words else (if m then measure_job words else (if l then load_job words else (if k then make_job words else None))))) ≡ Some job
    → Means (command ∷ words) job
command_by true p m l k command words job build print measure load make h = subst (λ c. Means (c ∷ words) job) (sym (text_same command _ build)) (build_forth words job h)
command_by false true m l k command words job build print measure load make h = subst (λ c. Means (c ∷ words) job) (sym (text_same command _ print)) (print_forth words job h)
command_by false false true l k command words job build print measure load make h = subst (λ c. Means (c ∷ words) job) (sym (text_same command _ measure)) (measure_forth words job h)
command_by false false false true k command words job build print measure load make h = subst (λ c. Means (c ∷ words) job) (sym (text_same command _ load)) (load_forth words job h)
command_by false false false false true command words job build print measure load make h = subst (λ c. Means (c ∷ words) job) (sym (text_same command _ make)) (make_forth words job h)
command_by false false false false false command words job build print measure load make h = cc

forth : (words : List (List ℕ)) (job : Job) → job_of words ≡ Some job → Means words job
unfolding job_of
forth [] job h = cc
forth (command ∷ words) job h = command_by _ _ _ _ _ command words job refl refl refl refl refl h

-- ---- from the job to its words

options_back : (native_zero : Bool) → measure_options (options_words (record { native_zero = native_zero })) ≡ Some (record { native_zero = native_zero })
options_back true = refl
options_back false = refl

flag_back : (native_zero : Bool) (image : Option (List ℕ))
    → after_flag (codes "--native-zero") (options_words (record { native_zero = native_zero }) ++ image_words image) ≡ (native_zero, image_words image)
flag_back true image = refl
flag_back false None = refl
flag_back false (Some name) = refl

image_back : (image : Option (List ℕ)) → IsImage image → image_option (image_words image) ≡ Some image
image_back None h = refl
image_back (Some name) h = ap (λ b. if b then Some (Some name) else None) h

back : (job : Job) → IsJob job → job_of (words_of job) ≡ Some job
unfolding job_of
back (Build list target) h =
    ap (λ b. if b && is_file_name target then Some (Build list target) else None) h.0 ∙ ap (λ b. if b then Some (Build list target) else None) h.1
back (Print file) h = ap (λ b. if b then Some (Print file) else None) h
back (Measure words) h =
    ap (λ b. if b && true then measured_as words.file (choice_of (choice_text words.wanted)) (measure_options (options_words words.options)) else None) h.0
    ∙ ap (λ c. measured_as words.file c (measure_options (options_words words.options))) (choice_back words.wanted h.1)
    ∙ ap (measured_as words.file (Some words.wanted)) (options_back words.options.native_zero)
back (Load words) h =
    let tail = after_flag (codes "--native-zero") (options_words words.options ++ image_words words.image) in
    ap (λ b. if b && is_file_name words.host && true then loaded_with words.file words.host (choice_of (choice_text words.wanted)) tail else None) h.0
    ∙ ap (λ b. if b && true then loaded_with words.file words.host (choice_of (choice_text words.wanted)) tail else None) h.1
    ∙ ap (λ c. loaded_with words.file words.host c tail) (choice_back words.wanted h.2)
    ∙ ap (loaded_with words.file words.host (Some words.wanted)) (flag_back words.options.native_zero words.image)
    ∙ ap (loaded_as words.file words.host (Some words.wanted) words.options) (image_back words.image h.3)
back (Make count target) h =
    ap (λ b. if b then option_map (λ n. Make n target) (count_of (decimal count)) else None) h.2
    ∙ ap (option_map (λ n. Make n target)) (count_back count h.0 h.1)

pub words_mean : (words : List (List ℕ)) (job : Job) → (job_of words ≡ Some job) ↔ Means words job
words_mean words job = (forth words job, λ m. ap job_of m.same ∙ back job m.possible)

-- ---- what words mean can be asked for

asked_for : (words : List (List ℕ)) (meant : Option Job) (job : Option code.Job) → ((j : Job) → meant ≡ Some j → Means words j)
    → option_map job_view job ≡ meant → IfSome job (λ j. IsJob (job_view j))
asked_for words meant None means same = tt
asked_for words meant (Some job) means same = (means (job_view job) (sym same)).possible

pub build_possible : (words : List (List ℕ)) (job : Option code.Job) → option_map job_view job ≡ build_job words → IfSome job (λ j. IsJob (job_view j))
build_possible words job same = asked_for _ _ job (build_forth words) same

pub print_possible : (words : List (List ℕ)) (job : Option code.Job) → option_map job_view job ≡ print_job words → IfSome job (λ j. IsJob (job_view j))
print_possible words job same = asked_for _ _ job (print_forth words) same

pub measure_possible : (words : List (List ℕ)) (job : Option code.Job) → option_map job_view job ≡ measure_job words → IfSome job (λ j. IsJob (job_view j))
measure_possible words job same = asked_for _ _ job (measure_forth words) same

pub load_possible : (words : List (List ℕ)) (job : Option code.Job) → option_map job_view job ≡ load_job words → IfSome job (λ j. IsJob (job_view j))
load_possible words job same = asked_for _ _ job (load_forth words) same

pub make_possible : (words : List (List ℕ)) (job : Option code.Job) → option_map job_view job ≡ make_job words → IfSome job (λ j. IsJob (job_view j))
make_possible words job same = asked_for _ _ job (make_forth words) same

-- command by command
pub ruleset possible = (build_possible, print_possible, measure_possible, load_possible, make_possible)
