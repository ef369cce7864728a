-- What is read, and then what that leads to.
use Rattle.std.specs.Prelude.{Result, Ok, Err}

-- what is read, and then what that leads to; the first refusal stands
infixl 10 ◌>>=◌
abbrev pub ◌>>=◌ : {A B E : Type 0} → Result A E → (A → Result B E) → Result B E
Ok x >>= f = f x
Err e >>= f = Err e
