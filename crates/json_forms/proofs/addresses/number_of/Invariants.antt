use Rattle.std.proofs.Common.{◌≡◌, take}
use Rattle.std.specs.Str.Parse.{AllDigits, digits_value}
use Rattle.json_forms.proofs.addresses.number_of.Given as goal

abbrev pub invariant-steps : goal.invariant-steps
invariant-steps l =
    record {
      digits : AllDigits 16 (take l.digit-index l.digits);
      number : l.number ≡ digits_value 16 (take l.digit-index l.digits);
    }
