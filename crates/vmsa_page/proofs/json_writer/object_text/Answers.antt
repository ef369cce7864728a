use Rattle.std.proofs.Common.{◌≡◌, ℕ, List, [], ◌∷◌, ◌++◌, ap, ap₂, ◌∙◌}
use Rattle.json.specs.Token.{Token}
use Rattle.json.specs.Print.{print}
use Rattle.vmsa_page.specs.Vmsas.{VmsaParts}
use Rattle.vmsa_page.specs.Texts.{key_order}
use Rattle.vmsa_page.proofs.WrittenTokens.{keys_left, text_of}
use Rattle.vmsa_page.proofs.json_writer.object_text.Goals as goal

pub returns : goal.returns
returns c =
    let v : VmsaParts = c.args.vmsa.now in
    let start : c.new-out.result.before ≡ [] = c.new-out.ensures.before ∙ c.new.ensures.items in
    let opened : c.begin_object.new.self.tokens ≡ Token.begin_object ∷ [] = c.in_ok-begin_object.ensures.ok ∙ ap (λ ts. ts ++ Token.begin_object ∷ []) c.new-out.ensures.tokens in
    let before : c.write_members.new.out.before ≡ [] = c.in_ok-write_members.ensures.0 ∙ c.begin_object.ensures.room.0 ∙ start in
    let whole : c.write_members.new.out.tokens ≡ Token.begin_object ∷ keys_left v key_order = c.in_ok-write_members.ensures.1 ∙ ap (λ ts. ts ++ keys_left v key_order) opened in
    text_of v c.into_inner.result.items (c.into_inner.ensures.items ∙ ap₂ (λ (x : List ℕ) ts. x ++ print ts) before whole)
