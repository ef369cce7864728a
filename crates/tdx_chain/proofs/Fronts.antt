-- A record's front, after its address is written over.
use Rattle.std.proofs.Common.{◌≡◌, ℕ, List, ◌++◌, length, take, drop, replicate, refl, ap, ap₂, sym, ◌∙◌, append_assoc}
use Rattle.std.proofs.lemmas.List.{take_at}
use Rattle.std.proofs.Math.Seq.{drop-append_seam}
use Rattle.igvm_headers.specs.Endian.{little_bytes}
use Rattle.tdx_chain.specs.Stream.{record_front}
use borrow.Rule.Slice.PartMut.{put_mid}

put_between : (front name before new end : List ℕ) → length name ≡ 16 → front ≡ name ++ before ++ end → length before ≡ 8
    → put_mid 16 8 front new ≡ name ++ new ++ end
put_between front name before new end size is eight =
    let parts : front ≡ name ++ (before ++ end) = is ∙ append_assoc name before end in
    let kept : take 16 front ≡ name = ap (take 16) parts ∙ take_at name (before ++ end) 16 size in
    let behind : drop 16 front ≡ before ++ end = ap (drop 16) parts ∙ ap (λ n. drop n (name ++ (before ++ end))) (sym size) ∙ drop-append_seam name (before ++ end) in
    let last : drop 8 (drop 16 front) ≡ end = ap (drop 8) behind ∙ ap (λ n. drop n (before ++ end)) (sym eight) ∙ drop-append_seam before end in
    ap₂ (λ xs ys. xs ++ (new ++ ys)) kept last ∙ sym (append_assoc name new end)

pub put_address : (front name new : List ℕ) (before gpa : ℕ) → length name ≡ 16 → front ≡ record_front name before → new ≡ little_bytes 8 gpa
    → put_mid 16 8 front new ≡ record_front name gpa
unfolding record_front
put_address front name new before gpa size is written =
    put_between front name (little_bytes 8 before) new (replicate 104 0) size is refl ∙ ap (λ middle. name ++ middle ++ replicate 104 0) written

-- a name, and zeros
pub front_at_zero : (name : List ℕ) → name ++ drop 16 (replicate 128 0) ≡ record_front name 0
unfolding record_front
front_at_zero name = sym (append_assoc name (replicate 8 0) (replicate 104 0))
