-- What contracts see of a shelf in memory.
use Rattle.std.specs.Prelude.{ℕ, ◌≡◌, ◌⊎◌, List, Option, None, Some, refl}
use mathlib.Core.Logic.{inl, inr}
use Rattle.std.specs.Coded.{Coded, code_by, coded×, coded⊎, coded_ℕ, coded_list, coded_option}
use Rattle.std.specs.FinMap as map
use Rattle.igvm_outside.specs.Files.{Files, State, Nothing, Reading, Writing}
use Rattle.igvm_outside.specs.Script.{Script}

pub record MemShelfView : Type 0 where
  pub files : Files
  pub state : State
  pub given : ℕ
  pub script : Script

-- the code of each part, by which proofs tell two values apart
abbrev parts_of_state : State → Option (Option (List ℕ × ℕ) ⊎ Option (List ℕ))
parts_of_state Nothing = None
parts_of_state (Reading at) = Some (inl at)
parts_of_state (Writing to) = Some (inr to)

abbrev state_of_parts : Option (Option (List ℕ × ℕ) ⊎ Option (List ℕ)) → State
state_of_parts None = Nothing
state_of_parts (Some (inl at)) = Reading at
state_of_parts (Some (inr to)) = Writing to

pub same_state : (state : State) → state_of_parts (parts_of_state state) ≡ state
same_state Nothing = refl
same_state (Reading at) = refl
same_state (Writing to) = refl

abbrev bytes_code : Coded (List ℕ)
bytes_code = coded_list coded_ℕ

abbrev state_code : Coded State
state_code =
    code_by (Option (Option (List ℕ × ℕ) ⊎ Option (List ℕ)))
    (coded_option (coded⊎ (coded_option (coded× bytes_code coded_ℕ)) (coded_option bytes_code)))
    parts_of_state state_of_parts same_state

abbrev script_code : Coded Script
script_code =
    code_by (ℕ × (List ℕ × (ℕ × Option ℕ)))
    (coded× coded_ℕ (coded× bytes_code (coded× coded_ℕ (coded_option coded_ℕ))))
    (λ s. (s.calls, (s.failing, (s.others, s.piece))))
    (λ p. record { calls = p.0; failing = p.1.0; others = p.1.1.0; piece = p.1.1.1 })
    (λ _. refl)

abbrev pub mem_shelf_code : Coded MemShelfView
mem_shelf_code =
    code_by (Files × (State × (ℕ × Script)))
    (coded× (map.code bytes_code bytes_code) (coded× state_code (coded× coded_ℕ script_code)))
    (λ s. (s.files, (s.state, (s.given, s.script))))
    (λ p. record { files = p.0; state = p.1.0; given = p.1.1.0; script = p.1.1.1 })
    (λ _. refl)
