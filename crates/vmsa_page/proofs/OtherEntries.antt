-- Other bytes that are read one after another.
use Rattle.std.proofs.Common.{◌≡◌, ◌<◌, ◌≤◌, ◌+◌, ℕ, List, [], ◌∷◌, ◌++◌, length, get_or, drop, refl, sym, ap, ◌∙◌, Option, Some, None, option_and_then, append-nil, append_assoc}
use Rattle.std.proofs.lemmas.List.{drop_all, drop_more}
use Rattle.serde_json.specs.View.{view, items_view}
use Rattle.serde_json.specs.declared.value.Value.{Value}
use Rattle.vmsa_page.specs.declared.other_byte.OtherByte.{OtherByte}
use Rattle.vmsa_page.specs.Sources.{other_from, and_rest, others_in}

-- those before, and those of the rest
abbrev pub with_others : List OtherByte → Option (List OtherByte) → Option (List OtherByte)
with_others front None = None
with_others front (Some rest) = Some (front ++ rest)

twice : (front : List OtherByte) (o : OtherByte) (rest : Option (List OtherByte)) → with_others front (and_rest o rest) ≡ with_others (front ++ o ∷ []) rest
twice front o None = refl
twice front o (Some os) = ap (λ l. Some l) (sym (append_assoc front (o ∷ []) os))

pub starts : (rest : Option (List OtherByte)) → with_others [] rest ≡ rest
starts None = refl
starts (Some os) = refl

pub other_more : (entries : List Value) (i low : ℕ) (v : Value) (front : List OtherByte) (o : OtherByte) (whole : Option (List OtherByte)) → i < length entries → v ≡ get_or entries i v → other_from low (view v) ≡ Some o
    → with_others front (others_in low (items_view (drop i entries))) ≡ whole → with_others (front ++ o ∷ []) (others_in (o.at + 1) (items_view (drop (i + 1) entries))) ≡ whole
other_more entries i low v front o whole below is found same =
    let rest = others_in (o.at + 1) (items_view (drop (i + 1) entries)) in
    let here : drop i entries ≡ v ∷ drop (i + 1) entries = drop_more entries i v below ∙ ap (λ (x : Value). x ∷ drop (i + 1) entries) (sym is) in
    let step : others_in low (items_view (drop i entries)) ≡ and_rest o rest = ap (λ l. others_in low (items_view l)) here ∙ ap (option_and_then (λ (x : OtherByte). and_rest x (others_in (x.at + 1) (items_view (drop (i + 1) entries))))) found in
    sym (twice front o rest) ∙ ap (with_others front) (sym step) ∙ same

pub other_refused : (entries : List Value) (i low : ℕ) (v : Value) (front : List OtherByte) (whole : Option (List OtherByte)) → i < length entries → v ≡ get_or entries i v → other_from low (view v) ≡ None
    → with_others front (others_in low (items_view (drop i entries))) ≡ whole → whole ≡ None
other_refused entries i low v front whole below is found same =
    let here : drop i entries ≡ v ∷ drop (i + 1) entries = drop_more entries i v below ∙ ap (λ (x : Value). x ∷ drop (i + 1) entries) (sym is) in
    let step : others_in low (items_view (drop i entries)) ≡ None = ap (λ l. others_in low (items_view l)) here ∙ ap (option_and_then (λ (x : OtherByte). and_rest x (others_in (x.at + 1) (items_view (drop (i + 1) entries))))) found in
    sym same ∙ ap (with_others front) step

pub others_end : (entries : List Value) (i low : ℕ) (front : List OtherByte) (whole : Option (List OtherByte)) → length entries ≤ i → with_others front (others_in low (items_view (drop i entries))) ≡ whole → whole ≡ Some front
others_end entries i low front whole past same =
    sym same ∙ ap (λ l. with_others front (others_in low (items_view l))) (drop_all i entries past) ∙ ap (λ l. Some l) (append-nil front)
