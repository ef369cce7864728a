-- Texts that are JSON, and texts that are none.
use Rattle.std.proofs.Common.{◌≡◌, ℕ, List, refl, cond, true, false, Bool, None, Some, Option, IsUtf8}
use Rattle.std.proofs.lemmas.Str.{IsUtf8-from_is_utf8, is_utf8-from_IsUtf8}
use Rattle.std.specs.Str.{is_utf8}
use Rattle.serde_json.specs.Data.{Data}
use Rattle.serde_json.specs.Read.{read}
use Rattle.json_forms.specs.Texts.{json_of}

none_by : (utf8 : Bool) (found : Option Data) → (utf8 ≡ true → found ≡ None) → cond utf8 found None ≡ None
none_by true found none = none refl
none_by false found none = refl

pub not_json : (bytes : List ℕ) → (IsUtf8 bytes → read bytes ≡ None) → json_of bytes ≡ None
not_json bytes none = none_by (is_utf8 bytes) (read bytes) (λ utf8. none (IsUtf8-from_is_utf8 bytes utf8))

some_by : (utf8 : Bool) (found : Option Data) (json : Data) → utf8 ≡ true → found ≡ Some json → cond utf8 found None ≡ Some json
some_by utf8 found json is some = rw (is, some) refl

pub is_json : (bytes : List ℕ) (json : Data) → IsUtf8 bytes → read bytes ≡ Some json → json_of bytes ≡ Some json
is_json bytes json utf8 some = some_by (is_utf8 bytes) (read bytes) json (is_utf8-from_IsUtf8 bytes utf8) some
