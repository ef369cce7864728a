-- The launch digests of a file as C gets them.
use Rattle.std.specs.Prelude.{ℕ, List, Result}
use Rattle.std.specs.Option.{ok_or}
use Rattle.igvm_measure.specs.Digests.{digest_of}
use Rattle.sev_chain.specs.SevBytes.{sev_digest_of}
use Rattle.igvm_c.specs.declared.refusal.Refusal.{Refusal}
use Rattle.igvm_c.specs.declared.refusal.Refusal.TheVariants.{NoDigest}
use Rattle.igvm_c.specs.OptionBits.{options_of}
use Rattle.igvm_c.specs.Platforms.{platform_of}
use Rattle.igvm_c.specs.Refusals.{and_then}

-- the launch digest of a file for its platform of a number, by the options of a number
abbrev pub digest_in : List ℕ → ℕ → ℕ → Result (List ℕ) Refusal
digest_in file number options =
    and_then (options_of options) (λ o. and_then (platform_of file number) (λ p. ok_or (digest_of file p o) NoDigest))

-- the launch digest of a file for its SEV or SEV-ES platform of a number
abbrev pub sev_digest_in : List ℕ → ℕ → Result (List ℕ) Refusal
sev_digest_in file number = and_then (platform_of file number) (λ p. ok_or (sev_digest_of file p) NoDigest)
