-- The status of a call: 0 where it gives an answer, and else why it gives none.
use Rattle.std.specs.Prelude.{ℕ, Option, Some, None, Result, Ok, Err}
use Rattle.igvm_c.specs.declared.refusal.Refusal.{Refusal}
use Rattle.igvm_c.specs.declared.refusal.Refusal.TheVariants.{Rule, TooLong, NoPlatform, NoDigest, OtherKind, NoHeader, NoPages, Unknown}

-- why there is no answer, as a number
abbrev pub refusal_status : Refusal → ℕ
refusal_status Rule = 1
refusal_status TooLong = 2
refusal_status NoPlatform = 3
refusal_status NoDigest = 4
refusal_status OtherKind = 5
refusal_status NoHeader = 6
refusal_status NoPages = 7
refusal_status Unknown = 8

abbrev pub status_of : {T : Type 0} → Result T Refusal → ℕ
status_of (Ok answer) = 0
status_of (Err refusal) = refusal_status refusal

-- an answer that is made of another, where there is that
abbrev pub and_then : {T U : Type 0} → Result T Refusal → (T → Result U Refusal) → Result U Refusal
and_then (Ok answer) next = next answer
and_then (Err refusal) next = Err refusal

-- an answer, unless this refuses it
abbrev pub unless : {T : Type 0} → Option Refusal → Result T Refusal → Result T Refusal
unless None answer = answer
unless (Some refusal) answer = Err refusal

-- what a place holds then: what is made of the answer, or what it held
abbrev pub held : {T U : Type 0} → (T → U) → Result T Refusal → U → U
held made (Ok answer) old = made answer
held made (Err refusal) old = old
