-- A row that is copied byte by byte: the first of the new bytes, and then the old ones.
use Rattle.std.proofs.Common.{◌≡◌, ℕ, suc, ◌<◌, ◌≤◌, List, [], ◌∷◌, ◌++◌, length, get_or, set, take, drop, sym, ap, ◌∙◌, arith, append_assoc, length-append, length-take, length-drop, length-take-le}
use Rattle.std.proofs.Math.Seq.{take-suc, drop-cons}
use Rattle.std.proofs.lemmas.List.{set_at, take_all, drop_all, append-nil}

-- i bytes are new
abbrev pub copied : List ℕ → List ℕ → ℕ → List ℕ
copied new old i = take i new ++ drop i old

pub length-copied : (new old : List ℕ) (i : ℕ) → length new ≡ length old → i ≤ length old → length (copied new old i) ≡ length old
length-copied new old i same le = omega (arith, length-append (take i new) (drop i old), length-take i new, length-drop i old)

pub copied_more : (new old : List ℕ) (i : ℕ) → length new ≡ length old → i < length old
    → set (copied new old i) i (get_or new i 0) ≡ copied new old (suc i)
copied_more new old i same lt =
    let front : length (take i new) ≡ i = length-take-le i new (omega arith) in
    ap (λ rest. set (take i new ++ rest) i (get_or new i 0)) (drop-cons old i 0 lt)
    ∙ set_at (take i new) (get_or old i 0) (drop (suc i) old) (get_or new i 0) i front
    ∙ sym (append_assoc (take i new) (get_or new i 0 ∷ []) (drop (suc i) old))
    ∙ ap (λ all. all ++ drop (suc i) old) (sym (take-suc new i 0 (omega arith)))

pub copied_all : (new old : List ℕ) (i : ℕ) → length new ≡ length old → i ≡ length old → copied new old i ≡ new
copied_all new old i same all =
    ap (λ rest. take i new ++ rest) (drop_all i old (omega arith)) ∙ append-nil (take i new) ∙ take_all i new (omega arith)
