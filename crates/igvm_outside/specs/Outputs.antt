-- What an output has taken.
use Rattle.std.specs.Prelude.{ℕ, List, ◌++◌, Option}
use Rattle.std.specs.Option.{option_map}

-- where told, these bytes follow those that were put before
abbrev pub gained : Option (List ℕ) → List ℕ → Option (List ℕ)
gained told bytes = option_map (λ before. before ++ bytes) told
