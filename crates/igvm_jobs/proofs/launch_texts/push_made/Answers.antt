use Rattle.std.proofs.Common.{◌≡◌, ℕ, List, [], ◌∷◌, ◌++◌, append_assoc}
use Rattle.std.specs.Prelude.{codes}
use Rattle.std.specs.Fmt.{decimal}
use Rattle.hex.specs.Hex.{encode_lower}
use Rattle.line_buffer.specs.Fields.{byte_digits}
use Rattle.igvm_jobs.proofs.launch_texts.push_made.Goals as goal

-- three lines, part by part and joined
lines : (text a b c d e f g h i j k l x y : List ℕ)
    → text ++ a ++ b ++ c ++ d ++ (e ++ 10 ∷ []) ++ f ++ g ++ h ++ i ++ j ++ k ++ (l ++ 10 ∷ []) ++ x ++ y ++ 10 ∷ []
    ≡ text ++ (((a ++ b ++ c ++ d ++ e) ++ 10 ∷ []) ++ ((f ++ g ++ h ++ i ++ j ++ k ++ l) ++ 10 ∷ []) ++ ((x ++ y) ++ 10 ∷ []))
lines text a b c d e f g h i j k l x y = simp append_assoc

pub returns : goal.returns
unfolding byte_digits
returns c =
    let made = c.args.made.now in
    rw (
      c.push-3.ensures,
      c.digits-2.ensures.text,
      c.bytes-2.ensures.value,
      c.push-2.ensures,
      c.number-4.ensures.text,
      c.from-3.ensures,
      c.number-3.ensures.text,
      c.from-2.ensures,
      c.digits.ensures.text,
      c.bytes.ensures.value,
      c.push.ensures,
      c.number-2.ensures.text,
      c.number.ensures.text,
      c.from.ensures,
    )
    (lines c.args.text.now (codes "made ") (decimal made.count) (codes " pages, ") (decimal made.bytes) (codes " bytes") (codes "snp ") (encode_lower made.snp) (codes " loaded ") (decimal made.pages)
    (codes " pages, ") (decimal made.contexts) (codes " contexts") (codes "tdx ") (encode_lower made.tdx))
