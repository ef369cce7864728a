-- Records in a row, joined.
use Rattle.std.proofs.Common.{◌≡◌, ℕ, ◌+◌, ◌*◌, List, [], ◌∷◌, ◌++◌, ap, ap₂, sym, ◌∙◌, append_assoc, arith}
use Rattle.std.specs.List.{concat}
use Rattle.std.proofs.lemmas.List.{append-nil}
use Rattle.std.proofs.lemmas.List.Folds.{concat-append}
use Rattle.std.proofs.lemmas.List.FromFn.{map-range_with_len_more}
use Rattle.igvm_headers.specs.Numbers.{slice}
use Rattle.tdx_chain.specs.Stream.{chunk_records, extend_record, mr_extend, record_front}

pub concat_one : (records : List (List ℕ)) (r : List ℕ) → concat (records ++ r ∷ []) ≡ concat records ++ r
concat_one records r = concat-append records (r ∷ []) ∙ ap (λ end. concat records ++ end) (append-nil r)

-- one chunk more
pub chunk_more : (records : List (List ℕ)) (gpa k : ℕ) (page front chunk : List ℕ) → front ≡ record_front mr_extend (gpa + 256 * k) → chunk ≡ slice page (256 * k) 256
    → concat (records ++ chunk_records gpa page k) ++ front ++ chunk ≡ concat (records ++ chunk_records gpa page (k + 1))
chunk_more records gpa k page front chunk is_front is_chunk =
    let record_at = λ (n : ℕ). extend_record (gpa + 256 * n) (slice page (256 * n) 256) in
    let more : chunk_records gpa page (k + 1) ≡ chunk_records gpa page k ++ record_at k ∷ [] = map-range_with_len_more record_at 0 k k (omega arith) in
    append_assoc (concat (records ++ chunk_records gpa page k)) front chunk
    ∙ ap (λ bytes. concat (records ++ chunk_records gpa page k) ++ bytes) (ap₂ (λ xs ys. xs ++ ys) is_front is_chunk)
    ∙ sym (concat_one (records ++ chunk_records gpa page k) (record_at k))
    ∙ ap concat (append_assoc records (chunk_records gpa page k) (record_at k ∷ []) ∙ ap (λ rs. records ++ rs) (sym more))
