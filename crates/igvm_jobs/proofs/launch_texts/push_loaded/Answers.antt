use Rattle.std.proofs.Common.{◌≡◌, ℕ, List, [], ◌∷◌, ◌++◌, append_assoc}
use Rattle.std.specs.Prelude.{codes}
use Rattle.std.specs.Fmt.{decimal}
use Rattle.hex.specs.Hex.{encode_lower}
use Rattle.line_buffer.specs.Fields.{byte_digits}
use Rattle.igvm_jobs.proofs.launch_texts.push_loaded.Goals as goal

-- two lines, part by part and joined
lines : (text a b c d e x y : List ℕ)
    → text ++ a ++ b ++ c ++ d ++ (e ++ 10 ∷ []) ++ x ++ y ++ 10 ∷ [] ≡ text ++ ((a ++ b ++ c ++ d ++ e) ++ 10 ∷ [] ++ ((x ++ y) ++ 10 ∷ []))
lines text a b c d e x y = simp append_assoc

pub returns : goal.returns
unfolding byte_digits
returns c =
    rw (
      c.push-2.ensures,
      c.digits.ensures.text,
      c.push.ensures,
      c.number-2.ensures.text,
      c.from-2.ensures,
      c.number.ensures.text,
      c.from.ensures,
    ) (lines c.args.text.now (codes "loaded ") (decimal c.args.pages) (codes " pages, ") (decimal c.args.contexts) (codes " contexts") (codes "digest ") (encode_lower c.args.digest.now))
