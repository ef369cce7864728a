-- One more header at the end of a list declares at most one more platform, under the next number.
use Rattle.std.proofs.Common.{◌≡◌, ℕ, ◌+◌, List, [], ◌∷◌, ◌++◌, length, refl, add_assoc, add-zero, zero-add, append_assoc, append-nil, length-append}
use Rattle.igvm_headers.specs.declared.header.Header.{Header}
use Rattle.platform_masks.specs.Platforms.{platform_of, platforms_from, platforms_of}

pub platforms_from-push : (n : ℕ) (hs : List Header) (h : Header) → platforms_from n (hs ++ h ∷ []) ≡ platforms_from n hs ++ platform_of (n + length (platforms_from n hs)) h
unfolding platforms_from
platforms_from-push n [] h = simp (add-zero, append-nil)
platforms_from-push n (x ∷ hs) h =
    let tail = platforms_from-push (n + length (platform_of n x)) hs h in
    rw tail (simp (length-append, add_assoc, append_assoc))

pub platforms_of-push : (hs : List Header) (h : Header) → platforms_of (hs ++ h ∷ []) ≡ platforms_of hs ++ platform_of (length (platforms_of hs)) h
platforms_of-push hs h = rw (platforms_from-push 0 hs h, zero-add) refl

pub platforms_of_none : platforms_of [] ≡ []
unfolding platforms_from
platforms_of_none = refl
