-- The JSON tokens that a VMSA is written as.
use Rattle.std.specs.Prelude.{◌≡◌, List, [], ◌∷◌, ◌++◌, ℕ, Option, Some, None}
use Rattle.json.specs.Token.{Token}
use Rattle.json.specs.Tree.{json_tokens}
use Rattle.json.specs.Written.{Written}
use Rattle.serde_json.specs.Data.{Data}
use Rattle.serde_json.specs.Written.{outline}

-- these tokens are written behind the others
abbrev pub Adds : Written → Written → List Token → Type 0
Adds old new ts = (new.before ≡ old.before) × (new.tokens ≡ old.tokens ++ ts)

-- the tokens of a value
abbrev pub data_tokens : Data → List Token
data_tokens json = json_tokens (outline json)

-- the tokens of a key and what stands there, or none
abbrev pub part_tokens : List ℕ → Option Data → List Token
part_tokens key None = []
part_tokens key (Some json) = Token.key key ∷ data_tokens json
