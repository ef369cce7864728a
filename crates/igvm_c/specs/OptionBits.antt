-- The options of a measurement as a number.
use Rattle.std.specs.Prelude.{ℕ, ◌==◌, true, false, Result, Ok, Err, cond}
use Rattle.igvm_headers.specs.declared.options.Options.{Options}
use Rattle.igvm_c.specs.declared.refusal.Refusal.{Refusal}
use Rattle.igvm_c.specs.declared.refusal.Refusal.TheVariants.{Unknown}

-- Bit 0 is `native_zero`; there is no other.
abbrev pub options_of : ℕ → Result Options Refusal
options_of number =
    cond (number == 0) (Ok (record { native_zero = false }))
    (cond (number == 1) (Ok (record { native_zero = true })) (Err Unknown))
