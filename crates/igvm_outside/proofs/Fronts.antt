-- The front of a text grows by the front of what follows it.
use Rattle.std.proofs.Common.{◌≡◌, ℕ, ◌+◌, ◌-◌, List, ◌++◌, length, take, drop, refl, sym, ◌∙◌, ap, append_assoc}
use Rattle.std.specs.Prelude.{Option, Some, None}
use Rattle.std.proofs.Math.Seq.{take-add}
use Rattle.std.proofs.lemmas.List.{take_rest}
use Rattle.igvm_outside.specs.Outputs.{gained}

pub gained-gained : (told : Option (List ℕ)) (first second : List ℕ) → gained (gained told first) second ≡ gained told (first ++ second)
gained-gained None first second = refl
gained-gained (Some bytes) first second = ap Some (append_assoc bytes first second)

-- the rest of a text is written with a range to its end
pub take_on : (text : List ℕ) (at n : ℕ) → take at text ++ take n (take (length text - at) (drop at text)) ≡ take (at + n) text
take_on text at n = ap (λ (l : List ℕ). take at text ++ take n l) (take_rest text at) ∙ sym (take-add at n text)

pub put_more : (old mid new : Option (List ℕ)) (text : List ℕ) (at n : ℕ) → mid ≡ gained old (take at text)
    → new ≡ gained mid (take n (take (length text - at) (drop at text))) → new ≡ gained old (take (at + n) text)
put_more old mid new text at n before put =
    put ∙ ap (λ (told : Option (List ℕ)). gained told (take n (take (length text - at) (drop at text)))) before
    ∙ gained-gained old (take at text) (take n (take (length text - at) (drop at text)))
    ∙ ap (gained old) (take_on text at n)
