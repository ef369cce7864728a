use Rattle.std.proofs.Common.{[], ◌∷◌}
use Rattle.std.proofs.lemmas.Result.{on_ok_weaker}
use Rattle.json.specs.Token.{Token}
use Rattle.vmsa_page.specs.Tokens.{Adds}
use Rattle.vmsa_page.proofs.WrittenTokens.{add_two}
use Rattle.vmsa_page.proofs.segment_text.write_keyed.Goals as goal

pub returns : goal.returns
returns c =
    let one : Adds c.args.out.now c.key.new.self (Token.key c.args.key.now ∷ []) = (c.key.ensures.room.0, c.in_ok-key.ensures.ok) in
    on_ok_weaker c.write_object.result (λ e. add_two c.args.out.now c.key.new.self c.write_object.new.out (Token.key c.args.key.now ∷ []) _ one e) c.write_object.ensures
