-- Texts written key by key.
use Rattle.std.proofs.Common.{◌≡◌, ◌<◌, ℕ, zero, suc, List, [], ◌∷◌, ◌++◌, Option, Some, None, codes, ◌+◌, length, drop, map, get_or, refl, sym, ap, ◌∙◌, arith, append_assoc}
use Rattle.std.proofs.lemmas.List.{drop_more}
use Rattle.json.specs.Token.{Token}
use Rattle.json.specs.Print.{print}
use Rattle.json.specs.Tree.{members_tokens, items_tokens}
use Rattle.serde_json.specs.Data.{Data, Members}
use Rattle.serde_json.specs.Written.{members_outline, items_outline}
use Rattle.serde_json.proofs.Texts.{print-outline}
use Rattle.vmsa_page.specs.Vmsas.{VmsaParts}
use Rattle.vmsa_page.specs.Texts.{part_of, other_data, other_items, member_if, members_of, key_order, vmsa_data, vmsa_json}
use Rattle.vmsa_page.specs.declared.other_byte.OtherByte.{OtherByte}
use Rattle.json.specs.Written.{Written}
use Rattle.vmsa_page.specs.Fields.{Field, segments, numbers, key_name}
use Rattle.vmsa_page.specs.Tokens.{Adds, data_tokens, part_tokens}

member_step : (key : List ℕ) (o : Option Data) (ms : Members) → members_tokens (members_outline (member_if key o ms)) ≡ part_tokens key o ++ members_tokens (members_outline ms)
member_step key None ms = refl
member_step key (Some d) ms = refl

pub key_step : (v : VmsaParts) (k : ℕ) (keys : List ℕ) → members_tokens (members_outline (members_of v (k ∷ keys))) ≡ part_tokens (key_name k) (part_of v k) ++ members_tokens (members_outline (members_of v keys))
key_step v k keys = member_step (key_name k) (part_of v k) (members_of v keys)

-- the text of all tokens
pub text_of : (v : VmsaParts) (text : List ℕ) → text ≡ print (Token.begin_object ∷ members_tokens (members_outline (members_of v key_order))) → text ≡ vmsa_json v
unfolding vmsa_json vmsa_data
text_of v text is = is ∙ print-outline (vmsa_data v)

-- tokens behind tokens
pub add_two : (old mid new : Written) (ts us : List Token) → Adds old mid ts → Adds mid new us → Adds old new (ts ++ us)
add_two old mid new ts us one two = (two.0 ∙ one.0, two.1 ∙ ap (λ l. l ++ us) one.1 ∙ append_assoc old.tokens ts us)

-- what is left leads to the same whole
abbrev pub Leads : Written → Written → List Token → List Token → Type 0
Leads start now left whole = (now.before ≡ start.before) × (now.tokens ++ left ≡ start.tokens ++ whole)

pub leads_on : (start now next : Written) (ts left whole before : List Token) → before ≡ ts ++ left → Leads start now before whole → Adds now next ts → Leads start next left whole
leads_on start now next ts left whole before is so_far more =
    (more.0 ∙ so_far.0, ap (λ l. l ++ left) more.1 ∙ append_assoc now.tokens ts left ∙ ap (λ l. now.tokens ++ l) (sym is) ∙ so_far.1)

pub leads_end : (start now new : Written) (left whole last : List Token) → left ≡ last → Leads start now left whole → Adds now new last → Adds start new whole
leads_end start now new left whole last is so_far more = (more.0 ∙ so_far.0, more.1 ∙ ap (λ l. now.tokens ++ l) (sym is) ∙ so_far.1)

-- the tokens of these items, and of the end of their array
abbrev pub items_left : List OtherByte → List Token
items_left os = items_tokens (items_outline (other_items os))

pub item_step : (os : List OtherByte) (k : ℕ) (o : OtherByte) → k < length os → o ≡ get_or os k o → items_left (drop k os) ≡ data_tokens (other_data o) ++ items_left (drop (k + 1) os)
item_step os k o below is = ap items_left (drop_more os k o below ∙ ap (λ (x : OtherByte). x ∷ drop (k + 1) os) (sym is))

-- the tokens of these members, and of the end of their object
abbrev pub keys_left : VmsaParts → List ℕ → List Token
keys_left v keys = members_tokens (members_outline (members_of v keys))

pub part_step : (v : VmsaParts) (keys : List ℕ) (i key : ℕ) → i < length keys → key ≡ get_or keys i key → keys_left v (drop i keys) ≡ part_tokens (key_name key) (part_of v key) ++ keys_left v (drop (i + 1) keys)
part_step v keys i key below is = ap (keys_left v) (drop_more keys i key below ∙ ap (λ (x : ℕ). x ∷ drop (i + 1) keys) (sym is)) ∙ key_step v key (drop (i + 1) keys)

-- ---- key_names

first_name : (fs : List Field) (rest : List (List ℕ)) (k : ℕ) (d : Field) (e : List ℕ) → k < length fs → get_or (map (λ f. f.name) fs ++ rest) k e ≡ (get_or fs k d).name
first_name [] rest k d e h = absurd (omega (arith, h))
first_name (f ∷ fs) rest zero d e h = refl
first_name (f ∷ fs) rest (suc k) d e h = first_name fs rest k d e (omega (arith, h))

past : (xs ys : List (List ℕ)) (k a : ℕ) (e : List ℕ) → a ≡ length xs + k → get_or (xs ++ ys) a e ≡ get_or ys k e
past [] ys k a e is = let same : a ≡ k = omega (arith, is) in ap (λ (i : ℕ). get_or ys i e) same
past (x ∷ xs) ys k zero e is = absurd (omega (arith, is))
past (x ∷ xs) ys k (suc a) e is = past xs ys k a e (omega (arith, is))

pub segment_named : (k : ℕ) (d : Field) → k < 10 → (get_or segments k d).name ≡ key_name k
segment_named k d h = sym (first_name segments (map (λ f. f.name) numbers ++ codes "other" ∷ []) k d [] h)

pub number_named : (k : ℕ) (d : Field) → k < 13 → (get_or numbers k d).name ≡ key_name (10 + k)
number_named k d h =
    sym (past (map (λ f. f.name) segments) (map (λ f. f.name) numbers ++ codes "other" ∷ []) k (10 + k) [] (omega arith) ∙ first_name numbers (codes "other" ∷ []) k d [] h)
