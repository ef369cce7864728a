-- An ID block: what is spelled is read again, and what is read can be spelled.
use Rattle.std.proofs.Common.{◌≡◌, ℕ, ◌+◌, List, ◌++◌, length, take, drop, Ok, refl, sym, ap, ◌∙◌, append_assoc, arith, subst}
use Rattle.std.proofs.lemmas.List.{length-append, take_at, length-take, length-drop}
use Rattle.std.proofs.Math.Seq.{drop-append-add}
use Rattle.byteorder.specs.Endian.{little_bytes}
use Rattle.igvm_headers.specs.Numbers.{number_at, slice}
use Rattle.igvm_headers.specs.Records.IdBlock.{id_block_fields, id_block_form}
use Rattle.igvm_headers.specs.Spelling.{header_fields, header_content}
use Rattle.igvm_headers.specs.Records.Fields.{reserved}
use Rattle.igvm_headers.specs.SpellingConditions.{NumbersFit}
use Rattle.igvm_headers.specs.declared.header.Header.{Header}
use Rattle.igvm_headers.specs.declared.header.Header.TheVariants.{IdBlock}
use Rattle.igvm_headers.proofs.RecordFields.{number_again, Reads, number_fits, of_length_ok}

-- what stands behind a front of known length
past : (front rest : List ℕ) (n k at : ℕ) → length front ≡ n → at ≡ n + k → drop at (front ++ rest) ≡ drop k rest
past front rest n k at size place =
    ap (λ (m : ℕ). drop m (front ++ rest)) (place ∙ ap (λ (m : ℕ). m + k) (sym size)) ∙ drop-append-add front rest k

-- the digest and the two ids of an ID block in a row, and what stands behind them
abbrev ids : List ℕ → List ℕ → List ℕ → List ℕ → List ℕ
ids ld family_id image_id rest = ld ++ (family_id ++ (image_id ++ rest))

record IdsAgain (ld family_id image_id rest : List ℕ) : Type 0 where
  ld_again : take 48 (ids ld family_id image_id rest) ≡ ld
  family_again : take 16 (drop 48 (ids ld family_id image_id rest)) ≡ family_id
  image_again : take 16 (drop 64 (ids ld family_id image_id rest)) ≡ image_id
  behind : (k at : ℕ) → at ≡ 80 + k → drop at (ids ld family_id image_id rest) ≡ drop k rest

ids_again : (ld family_id image_id rest : List ℕ) → length ld ≡ 48 → length family_id ≡ 16 → length image_id ≡ 16 → IdsAgain ld family_id image_id rest
ids_again ld family_id image_id rest l f i =
    let image_rest = image_id ++ rest in
    let family_rest = family_id ++ image_rest in
    record {
      ld_again = take_at ld family_rest 48 l;
      family_again = ap (take 16) (past ld family_rest 48 0 48 l refl) ∙ take_at family_id image_rest 16 f;
      image_again = ap (take 16) (past ld family_rest 48 16 64 l refl ∙ past family_id image_rest 16 0 16 f refl) ∙ take_at image_id rest 16 i;
      behind = λ k at place. past ld family_rest 48 (32 + k) at l (omega arith) ∙ past family_id image_rest 16 (16 + k) (32 + k) f (omega arith) ∙ past image_id rest 16 k (16 + k) i refl;
    }

pub id_block_again : (mask author_enabled : ℕ) (ld family_id image_id : List ℕ) (version guest_svn id_algorithm author_algorithm : ℕ) (tail : List ℕ)
    → NumbersFit (IdBlock mask author_enabled ld family_id image_id version guest_svn id_algorithm author_algorithm) → length tail ≡ 592
    → id_block_form (header_content (IdBlock mask author_enabled ld family_id image_id version guest_svn id_algorithm author_algorithm) tail)
    ≡ Ok (IdBlock mask author_enabled ld family_id image_id version guest_svn id_algorithm author_algorithm)
unfolding header_fields id_block_fields id_block_form
id_block_again mask author_enabled ld family_id image_id version guest_svn id_algorithm author_algorithm tail fit size =
    let author_rest = little_bytes 4 author_algorithm ++ tail in
    let id_rest = little_bytes 4 id_algorithm ++ author_rest in
    let svn_rest = little_bytes 4 guest_svn ++ id_rest in
    let rest = little_bytes 4 version ++ svn_rest in
    let row = ids ld family_id image_id rest in
    let content = little_bytes 4 mask ++ (little_bytes 1 author_enabled ++ (reserved 3 ++ row)) in
    let whole : header_content (IdBlock mask author_enabled ld family_id image_id version guest_svn id_algorithm author_algorithm) tail ≡ content = simp append_assoc in
    let count : length content ≡ 696 = simp length-append (omega (arith, fit.2, fit.3, fit.4, size)) in
    let again = ids_again ld family_id image_id rest fit.2 fit.3 fit.4 in
    let m = number_again 4 mask (little_bytes 1 author_enabled ++ (reserved 3 ++ row)) fit.0 in
    let a = number_again 1 author_enabled (reserved 3 ++ row) fit.1 in
    let v : number_at 4 88 content ≡ version = ap (number_at 4 0) (again.behind 0 80 refl) ∙ number_again 4 version svn_rest fit.5 in
    let s : number_at 4 92 content ≡ guest_svn = ap (number_at 4 0) (again.behind 4 84 refl) ∙ number_again 4 guest_svn id_rest fit.6 in
    let i : number_at 4 96 content ≡ id_algorithm = ap (number_at 4 0) (again.behind 8 88 refl) ∙ number_again 4 id_algorithm author_rest fit.7 in
    let w : number_at 4 100 content ≡ author_algorithm = ap (number_at 4 0) (again.behind 12 92 refl) ∙ number_again 4 author_algorithm tail fit.8 in
    ap id_block_form whole ∙ rw (count, m, a, again.ld_again, again.family_again, again.image_again, v, s, i, w) refl

-- what an ID block carries is found again after its fields
pub id_block_tail : (mask author_enabled : ℕ) (ld family_id image_id : List ℕ) (version guest_svn id_algorithm author_algorithm : ℕ) (tail : List ℕ)
    → NumbersFit (IdBlock mask author_enabled ld family_id image_id version guest_svn id_algorithm author_algorithm)
    → drop 104 (header_content (IdBlock mask author_enabled ld family_id image_id version guest_svn id_algorithm author_algorithm) tail) ≡ tail
unfolding header_fields id_block_fields
id_block_tail mask author_enabled ld family_id image_id version guest_svn id_algorithm author_algorithm tail fit =
    let rest = little_bytes 4 version ++ (little_bytes 4 guest_svn ++ (little_bytes 4 id_algorithm ++ (little_bytes 4 author_algorithm ++ tail))) in
    let content = little_bytes 4 mask ++ (little_bytes 1 author_enabled ++ (reserved 3 ++ ids ld family_id image_id rest)) in
    let whole : header_content (IdBlock mask author_enabled ld family_id image_id version guest_svn id_algorithm author_algorithm) tail ≡ content = simp append_assoc in
    ap (drop 104) whole ∙ (ids_again ld family_id image_id rest fit.2 fit.3 fit.4).behind 16 96 refl

pub id_block_read : (content : List ℕ) (h : Header) → id_block_form content ≡ Ok h → Reads 0x30B content h
unfolding id_block_form
id_block_read content h e =
    let p = of_length_ok 696 content (IdBlock (number_at 4 0 content) (number_at 1 4 content) (slice content 8 48) (slice content 56 16) (slice content 72 16) (number_at 4 88 content) (number_at 4 92 content) (number_at 4 96 content) (number_at 4 100 content)) h e in
    let ld : length (slice content 8 48) ≡ 48 = omega (arith, p.0, length-take 48 (drop 8 content), length-drop 8 content) in
    let family : length (slice content 56 16) ≡ 16 = omega (arith, p.0, length-take 16 (drop 56 content), length-drop 56 content) in
    let image : length (slice content 72 16) ≡ 16 = omega (arith, p.0, length-take 16 (drop 72 content), length-drop 72 content) in
    let rest : length (drop 104 content) ≡ 592 = omega (arith, p.0, length-drop 104 content) in
    subst (Reads 0x30B content) p.1 (record {
      type = refl;
      numbers = λ is. (number_fits 4 0 content is.bytes, number_fits 1 4 content is.bytes, ld, family, image, number_fits 4 88 content is.bytes, number_fits 4 92 content is.bytes, number_fits 4 96 content is.bytes, number_fits 4 100 content is.bytes);
      tail_fits = rest;
      large_is_normal = tt;
      kind_is_carried = tt;
    })
