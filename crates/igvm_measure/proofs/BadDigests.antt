-- Whether the digest that an ID block wants is another than the file's.
use Rattle.std.proofs.Common.{◌≡◌, ℕ, List, Bool, true, false, Decides, refl, sym, ap, ap₂, ◌∙◌, Option, Some, None}
use Rattle.std.specs.Prelude.{bytes_eq, if◌then◌else◌}
use Rattle.std.proofs.lemmas.Slice.Eq.{bytes_eq-Decides}
use Rattle.igvm_headers.specs.declared.options.Options.{Options}
use Rattle.platform_masks.specs.declared.platform.Platform.{Platform}
use Rattle.directive_rules.specs.declared.misfit.IdWanted.{IdWanted}
use Rattle.directive_rules.specs.declared.misfit.Misfit.{Misfit}
use Rattle.directive_rules.specs.declared.misfit.Why.TheVariants.{BadDigest}
use Rattle.igvm_measure.specs.Digests.{digest_of}
use Rattle.igvm_measure.specs.WantedDigest.{IsBadDigest, wanted_id, bad_digest_by, bad_digest}

-- the misfit that names this ID block and both digests
abbrev named : IdWanted → List ℕ → Misfit
named id digest = record { index = id.index; why = BadDigest id.wanted digest }

-- ---- a bad digest

-- by the ID block that counts, and the file's digest
bad_by : (file : List ℕ) (platform : Platform) (options : Options) (misfit : Misfit)
    (id : Option IdWanted) (digest : Option (List ℕ))
    → wanted_id file platform ≡ id → digest_of file platform options ≡ digest → bad_digest_by id digest ≡ Some misfit
    → IsBadDigest file platform options misfit
bad_by file platform options misfit (Some id) (Some digest) wanted found bad =
    by (bytes_eq id.wanted digest) (bytes_eq-Decides id.wanted digest) bad
  where
    by : (same : Bool) → Decides same (id.wanted ≡ digest)
        → (if same then None else Some (named id digest)) ≡ Some misfit → IsBadDigest file platform options misfit
    by true decides bad = cc
    by false decides bad =
        let is : named id digest ≡ misfit = cc in
        record {
          id = id;
          digest = digest;
          wanted = wanted;
          found = found;
          other = λ same. cc (decides.1 same);
          index = ap (λ (m : Misfit). m.index) (sym is);
          why = ap (λ (m : Misfit). m.why) (sym is);
        }
bad_by file platform options misfit (Some id) None wanted found bad = cc
bad_by file platform options misfit None digest wanted found bad = cc

pub bad_from : (file : List ℕ) (platform : Platform) (options : Options) (misfit : Misfit)
    → bad_digest file platform options ≡ Some misfit → IsBadDigest file platform options misfit
bad_from file platform options misfit =
    bad_by file platform options misfit (wanted_id file platform) (digest_of file platform options) refl refl

-- a test of what doesn't hold
test_false : {P : Type 0} (same : Bool) → Decides same P → (P → ⊥) → same ≡ false
test_false true decides other = absurd (other (decides.0 refl))
test_false false decides other = refl

pub bad_back : (file : List ℕ) (platform : Platform) (options : Options) (misfit : Misfit)
    → IsBadDigest file platform options misfit → bad_digest file platform options ≡ Some misfit
bad_back file platform options misfit bad =
    ap₂ bad_digest_by bad.wanted bad.found
    ∙ ap (λ same. if same then None else Some (named bad.id bad.digest))
    (test_false (bytes_eq bad.id.wanted bad.digest) (bytes_eq-Decides bad.id.wanted bad.digest) bad.other)
    ∙ ap₂ (λ index why. Some (record { index = index; why = why })) (sym bad.index) (sym bad.why)

-- ---- none

pub good_from : (file : List ℕ) (platform : Platform) (options : Options) → bad_digest file platform options ≡ None
    → (id : IdWanted) (digest : List ℕ) → wanted_id file platform ≡ Some id
    → digest_of file platform options ≡ Some digest → id.wanted ≡ digest
good_from file platform options good id digest wanted found =
    by (bytes_eq id.wanted digest) (bytes_eq-Decides id.wanted digest) (ap₂ bad_digest_by (sym wanted) (sym found) ∙ good)
  where
    by : (same : Bool) → Decides same (id.wanted ≡ digest) → (if same then None else Some (named id digest)) ≡ None
        → id.wanted ≡ digest
    by true decides good = decides.0 refl
    by false decides good = cc

-- by the ID block that counts, and the file's digest
good_by : (id : Option IdWanted) (digest : Option (List ℕ))
    → ((i : IdWanted) (d : List ℕ) → id ≡ Some i → digest ≡ Some d → i.wanted ≡ d) → bad_digest_by id digest ≡ None
good_by (Some id) (Some digest) same =
    ap (λ same. if same then None else Some (named id digest))
    ((bytes_eq-Decides id.wanted digest).1 (same id digest refl refl))
good_by (Some id) None same = refl
good_by None digest same = refl

pub good_back : (file : List ℕ) (platform : Platform) (options : Options)
    → ((id : IdWanted) (digest : List ℕ) → wanted_id file platform ≡ Some id
    → digest_of file platform options ≡ Some digest → id.wanted ≡ digest)
    → bad_digest file platform options ≡ None
good_back file platform options = good_by (wanted_id file platform) (digest_of file platform options)
