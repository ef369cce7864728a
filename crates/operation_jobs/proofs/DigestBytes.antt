-- The launch digest of a SEV-SNP platform is 48 bytes.
use Rattle.std.proofs.Common.{◌≡◌, ℕ, zero, suc, ◌^◌, ◌<◌, List, [], ◌∷◌, length, map, refl, ap, arith, Some}
use Rattle.std.specs.Prelude.{fold, replicate, slice_index, take}
use Rattle.std.specs.Int.{byte_at, bytes_high_first, to_be_bytes, w64}
use Rattle.sha2.specs.Sha512.{digest_bytes, final_hash, initial_hash_384, sha384}
use Rattle.sha2.proofs.Facts512.{length-sha384}
use Rattle.igvm_headers.specs.SpellingConditions.{AreBytes}
use Rattle.igvm_headers.specs.declared.options.Options.{Options}
use Rattle.igvm_headers.specs.declared.platform_kind.PlatformKind.{PlatformKind}
use Rattle.igvm_headers.specs.declared.platform_kind.PlatformKind.TheVariants.{SevSnp}
use Rattle.igvm_headers.proofs.Bytes.{joined, zero_bytes}
use Rattle.snp_chain.specs.Chain.{PageRecord, digest_after, page_info, snp}
use Rattle.platform_masks.specs.declared.platform.Platform.{Platform}
use Rattle.igvm_measure.specs.Digests.{digest_by, digest_of, snp_digest}
use Rattle.igvm_measure.specs.Measured.{snp_measured}
use Rattle.igvm_measure.specs.Records.{snp_record}

-- ---- a digest of SHA-384

high_byte : (k x : ℕ) → byte_at k x < 2 ^ 8
high_byte zero x = omega arith
high_byte (suc k) x = omega arith

high_bytes : (n x : ℕ) → AreBytes (bytes_high_first n x)
high_bytes zero x = tt
high_bytes (suc n) x = (high_byte n x, high_bytes n x)

words_bytes : (h : List ℕ) (n : ℕ) → AreBytes (digest_bytes h n)
unfolding digest_bytes
words_bytes h zero = tt
words_bytes h (suc n) = joined (digest_bytes h n) (to_be_bytes w64 (slice_index h n)) (words_bytes h n) (high_bytes 8 (slice_index h n))

front_bytes : (n : ℕ) (xs : List ℕ) → AreBytes xs → AreBytes (take n xs)
front_bytes zero xs all = tt
front_bytes (suc n) [] all = tt
front_bytes (suc n) (x ∷ xs) all = (all.0, front_bytes n xs all.1)

hash_bytes : (m : List ℕ) → AreBytes (sha384 m)
unfolding sha384
hash_bytes m = front_bytes 48 (digest_bytes (final_hash initial_hash_384 m) 8) (words_bytes (final_hash initial_hash_384 m) 8)

-- ---- a launch digest

-- 48 bytes
pub record IsDigest (digest : List ℕ) : Type 0 where
  pub size : length digest ≡ 48
  pub bytes : AreBytes digest

one_more : (pages : List PageRecord) (digest : List ℕ) → IsDigest digest → IsDigest (fold digest_after digest pages)
one_more [] digest is = is
one_more (page ∷ pages) digest is =
    one_more pages (digest_after digest page) (record { size = length-sha384 (page_info digest page); bytes = hash_bytes (page_info digest page) })

chain_digest : (pages : List PageRecord) → IsDigest (snp pages)
unfolding snp
chain_digest pages = one_more pages (replicate 48 0) (record { size = refl; bytes = zero_bytes 48 })

snp_is : (options : Options) (file : List ℕ) (mask : ℕ) → IsDigest (snp_digest options file mask)
unfolding snp_digest
snp_is options file mask = chain_digest (map snp_record (snp_measured options file mask))

-- the digest of a platform that is one
pub record HasDigest (file : List ℕ) (options : Options) (p : Platform) : Type 0 where
  pub digest : List ℕ
  pub found : digest_of file p options ≡ Some digest
  pub is_digest : IsDigest digest

pub snp_has_digest : (file : List ℕ) (options : Options) (p : Platform) → p.kind ≡ SevSnp → HasDigest file options p
snp_has_digest file options p same =
    record {
      digest = snp_digest options file p.mask;
      found = ap (λ (k : PlatformKind). digest_by k options file p.mask) same;
      is_digest = snp_is options file p.mask;
    }
