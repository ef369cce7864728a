-- What is printed is read again.
use Rattle.std.proofs.Common.{◌≡◌, ◌≤◌, ℕ, suc, max, List, [], ◌∷◌, Bool, true, false, Some, IsUtf8, refl, sym, ap, ap₂, ◌∙◌, arith, option_map, option_and_then, append-nil}
use Rattle.std.proofs.lemmas.Fmt.{IsAscii-decimal}
use Rattle.std.proofs.lemmas.Str.{IsUtf8-append, IsUtf8-from_ascii, is_utf8-from_IsUtf8}
use Rattle.json.specs.Token.{Token}
use Rattle.json.specs.Lex.{tokens}
use Rattle.json.specs.Json as json
use Rattle.json.specs.Tree as tree
use Rattle.json.proofs.Printed.Tokens.{tokens-print}
use Rattle.json.proofs.Printed.Trees.{ArePrintable-json_tokens, value-json_tokens}
use Rattle.json.proofs.Printed.Decimals.{IsNumber-decimal}
use Rattle.json.proofs.Printed.Utf8.{are_ascii, IsUtf8-are_ascii, IsUtf8-quoted, IsUtf8-boolean}
use Rattle.serde_json.specs.Data.{Num, unsigned, negative, float, Data, null, boolean, number, string, array, object, Items, no_items, item, Members, no_members, member, put, depth, items_depth, members_depth}
use Rattle.serde_json.specs.Read.{of_json, of_items, of_members, read, max_depth}
use Rattle.serde_json.specs.Written.{number_text, outline, items_outline, members_outline, comma_if, compact_text, items_text, members_text}
use Rattle.serde_json.proofs.Numbers.{number_of-decimal}
use Rattle.serde_json.proofs.Texts.{print-outline}
use Rattle.json_forms.specs.Texts.{json_of}
use Rattle.json_forms.specs.Plain.{AreAbove, AreRising, IsWhole, IsMade, AreMade, HasMade, IsPlain}

-- ---- members that go in at the end

-- members after others
abbrev pub append : Members → Members → Members
append no_members ms = ms
append (member key d rest) ms = member key d (append rest ms)

append_none : (ms : Members) → append ms no_members ≡ ms
append_none no_members = refl
append_none (member key d ms) = ap (member key d) (append_none ms)

append_one : (found ms : Members) (key : List ℕ) (d : Data) → append (append found (member key d no_members)) ms ≡ append found (member key d ms)
append_one no_members ms key d = refl
append_one (member k e found) ms key d = ap (member k e) (append_one found ms key d)

-- the keys of the first stand below those of the second
abbrev Below : Members → Members → Type 0
Below no_members ms = Unit {0}
Below (member key d found) ms = AreAbove key ms × Below found ms

below_rest : (found ms : Members) (key : List ℕ) (d : Data) → Below found (member key d ms) → Below found ms
below_rest no_members ms key d h = tt
below_rest (member k e found) ms key d h = (h.0.1, below_rest found ms key d h.1)

below_more : (found ms : Members) (key : List ℕ) (d : Data) → Below found (member key d ms) → AreAbove key ms → Below (append found (member key d no_members)) ms
below_more no_members ms key d h above = (above, tt)
below_more (member k e found) ms key d h above = (h.0.1, below_more found ms key d h.1 above)

put_above : (found ms : Members) (key : List ℕ) (d : Data) → Below found (member key d ms) → put key d found ≡ append found (member key d no_members)
put_above no_members ms key d h = refl
put_above (member k e found) ms key d h = rw h.0.0 (ap (member k e) (put_above found ms key d h.1))

-- ---- the tree of a value is read as the value

whole_number : (n : Num) → IsWhole n → of_json (json.number (number_text n)) ≡ Some (number n)
whole_number (unsigned n) h = ap (option_map number) (number_of-decimal n h)
whole_number (negative z) h = absurd h
whole_number (float x) h = absurd h

mutual
  of_outline : (d : Data) → IsMade d → of_json (outline d) ≡ Some d
  of_outline null h = refl
  of_outline (boolean b) h = refl
  of_outline (number n) h = whole_number n h
  of_outline (string s) h = refl
  of_outline (array ds) h = ap (option_map array) (of_items_outline ds h)
  of_outline (object ms) h = ap (option_map object) (of_members_outline ms no_members h.0 tt h.1)

  of_items_outline : (ds : Items) → AreMade ds → of_items (items_outline ds) ≡ Some ds
  of_items_outline no_items h = refl
  of_items_outline (item d ds) h = rw (of_outline d h.0, of_items_outline ds h.1) refl

  of_members_outline : (ms found : Members) → AreRising ms → Below found ms → HasMade ms → of_members (members_outline ms) found ≡ Some (append found ms)
  of_members_outline no_members found rising below h = ap Some (sym (append_none found))
  of_members_outline (member key d ms) found rising below h =
      ap (option_and_then (λ e. of_members (members_outline ms) (put key e found))) (of_outline d h.1)
      ∙ ap (of_members (members_outline ms)) (put_above found ms key d below)
      ∙ of_members_outline ms (append found (member key d no_members)) rising.1 (below_more found ms key d below rising.0) h.2
      ∙ ap Some (append_one found ms key d)

-- ---- its depth and its numbers

mutual
  depth_outline : (d : Data) → tree.depth (outline d) ≡ depth d
  depth_outline null = refl
  depth_outline (boolean b) = refl
  depth_outline (number n) = refl
  depth_outline (string s) = refl
  depth_outline (array ds) = ap (λ (n : ℕ). suc n) (items_depth_outline ds)
  depth_outline (object ms) = ap (λ (n : ℕ). suc n) (members_depth_outline ms)

  items_depth_outline : (ds : Items) → tree.items_depth (items_outline ds) ≡ items_depth ds
  items_depth_outline no_items = refl
  items_depth_outline (item d ds) = ap₂ max (depth_outline d) (items_depth_outline ds)

  members_depth_outline : (ms : Members) → tree.members_depth (members_outline ms) ≡ members_depth ms
  members_depth_outline no_members = refl
  members_depth_outline (member key d ms) = ap₂ max (depth_outline d) (members_depth_outline ms)

whole_text : (n : Num) → IsWhole n → tree.HasNumbers (json.number (number_text n))
whole_text (unsigned n) h = IsNumber-decimal n h
whole_text (negative z) h = absurd h
whole_text (float x) h = absurd h

mutual
  numbers_outline : (d : Data) → IsMade d → tree.HasNumbers (outline d)
  numbers_outline null h = tt
  numbers_outline (boolean b) h = tt
  numbers_outline (number n) h = whole_text n h
  numbers_outline (string s) h = tt
  numbers_outline (array ds) h = items_numbers_outline ds h
  numbers_outline (object ms) h = members_numbers_outline ms h.1

  items_numbers_outline : (ds : Items) → AreMade ds → tree.ItemsHaveNumbers (items_outline ds)
  items_numbers_outline no_items h = tt
  items_numbers_outline (item d ds) h = (numbers_outline d h.0, items_numbers_outline ds h.1)

  members_numbers_outline : (ms : Members) → HasMade ms → tree.MembersHaveNumbers (members_outline ms)
  members_numbers_outline no_members h = tt
  members_numbers_outline (member key d ms) h = (numbers_outline d h.1, members_numbers_outline ms h.2)

-- ---- its text is read as the value

pub reads_back : (d : Data) → IsPlain d → read (compact_text d) ≡ Some d
reads_back d h =
    let j = outline d in
    let shallow : tree.depth j ≤ max_depth = omega (arith, depth_outline d, h.1) in
    let same : tokens (compact_text d) ≡ tree.json_tokens j = ap tokens (sym (print-outline d)) ∙ tokens-print (tree.json_tokens j) (ArePrintable-json_tokens j (numbers_outline d h.0)) in
    ap (λ o. option_and_then of_json (option_and_then (λ (p : json.Json × List Token). json.if_last p.0 p.1) o))
    (ap (json.value max_depth) (same ∙ sym (append-nil (tree.json_tokens j))) ∙ value-json_tokens j max_depth [] shallow)
    ∙ of_outline d h.0

-- ---- and is UTF-8

ascii_byte : (x : ℕ) (xs : List ℕ) → are_ascii (x ∷ []) ≡ true → IsUtf8 xs → IsUtf8 (x ∷ xs)
ascii_byte x xs small u = IsUtf8-append (x ∷ []) xs (IsUtf8-are_ascii (x ∷ []) small) u

comma : (later : Bool) → IsUtf8 (comma_if later)
comma true = IsUtf8-are_ascii _ refl
comma false = IsUtf8-are_ascii [] refl

number_utf8 : (n : Num) → IsWhole n → IsUtf8 (number_text n)
number_utf8 (unsigned n) h = IsUtf8-from_ascii _ (IsAscii-decimal n h)
number_utf8 (negative z) h = absurd h
number_utf8 (float x) h = absurd h

mutual
  text_utf8 : (d : Data) → IsMade d → IsUtf8 (compact_text d)
  text_utf8 null h = IsUtf8-are_ascii _ refl
  text_utf8 (boolean b) h = IsUtf8-boolean b
  text_utf8 (number n) h = number_utf8 n h
  text_utf8 (string s) h = IsUtf8-quoted s h
  text_utf8 (array ds) h = ascii_byte 91 _ refl (items_utf8 false ds h)
  text_utf8 (object ms) h = ascii_byte 123 _ refl (members_utf8 false ms h.1)

  items_utf8 : (later : Bool) (ds : Items) → AreMade ds → IsUtf8 (items_text later ds)
  items_utf8 later no_items h = IsUtf8-are_ascii _ refl
  items_utf8 later (item d ds) h = IsUtf8-append (comma_if later) _ (comma later) (IsUtf8-append _ _ (text_utf8 d h.0) (items_utf8 true ds h.1))

  members_utf8 : (later : Bool) (ms : Members) → HasMade ms → IsUtf8 (members_text later ms)
  members_utf8 later no_members h = IsUtf8-are_ascii _ refl
  members_utf8 later (member key d ms) h =
      IsUtf8-append (comma_if later) _ (comma later) (IsUtf8-append _ _ (IsUtf8-quoted key h.0) (ascii_byte 58 _ refl (IsUtf8-append _ _ (text_utf8 d h.1) (members_utf8 true ms h.2))))

pub json_of_text : (d : Data) → IsPlain d → json_of (compact_text d) ≡ Some d
json_of_text d h = rw (is_utf8-from_IsUtf8 _ (text_utf8 d h.0)) (reads_back d h)
