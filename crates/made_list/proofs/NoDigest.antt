-- A made list's image has no ID block, and so wants no digest.
use Rattle.std.proofs.Common.{◌≡◌, ℕ, zero, suc, ◌+◌, ◌≤◌, List, [], ◌∷◌, ◌++◌, refl, sym, ◌∙◌, ap, ap₂, Bool, true, false, ◌||◌, None}
use Rattle.std.specs.List.{list_any, filter_map, cons_option}
use Rattle.igvm_headers.specs.declared.header.Header.{Header}
use Rattle.igvm_headers.specs.declared.header.Header.TheVariants.{IdBlock}
use Rattle.igvm_headers.specs.declared.options.Options.{Options}
use Rattle.igvm_image.specs.Headers.{PlacedHeader, placed_headers}
use Rattle.directive_rules.specs.DirectiveFacts.{is_id_block, wanted_by}
use Rattle.directive_rules.specs.FirstMisfit.{headers_for, headers_in}
use Rattle.directive_rules.specs.LoadCounts.{wanted_of}
use Rattle.igvm_measure.specs.Digests.{digest_of}
use Rattle.igvm_measure.specs.WantedDigest.{bad_digest, bad_digest_by, first_wanted, wanted_id}
use Rattle.image_builder.specs.Layout.{layout}
use Rattle.made_list.specs.MadeList.{made_list}
use Rattle.made_list.specs.MadeImage.{snp_platform}
use Rattle.made_list.proofs.Headers.{last_headers, page_headers}
use Rattle.made_list.proofs.MadeFits.{headers_that_count}
use Rattle.made_list.proofs.ReadHeaders.{Laws}
use Rattle.made_list.proofs.SameRows.{any_same, id_block_same}
use Rattle.made_list.proofs.SnpHeaders.{snp_head}

-- ---- what is no ID block wants none

first_is_none : (b c : Bool) → (b || c) ≡ false → b ≡ false
first_is_none true c h = h
first_is_none false c h = refl

others_are_none : (b c : Bool) → (b || c) ≡ false → c ≡ false
others_are_none true c h = cc
others_are_none false c h = h

wants_none : (index : ℕ) (h : Header) → is_id_block h ≡ false → wanted_by index h ≡ None
wants_none index (IdBlock mask author_enabled ld family_id image_id version guest_svn id_algorithm author_algorithm) none = cc
wants_none index h none = refl

want_none : (placed : List PlacedHeader) → list_any is_id_block (headers_in placed) ≡ false → filter_map wanted_of placed ≡ []
want_none [] none = refl
want_none (p ∷ ps) none =
    let here = first_is_none (is_id_block p.header) (list_any is_id_block (headers_in ps)) none in
    let later = others_are_none (is_id_block p.header) (list_any is_id_block (headers_in ps)) none in
    ap₂ (λ wanted others. cons_option wanted others) (wants_none p.index p.header here) (want_none ps later)

-- ---- none of the headers is one

no_page_or_later : (first n : ℕ) → list_any is_id_block (page_headers first n ++ last_headers) ≡ false
no_page_or_later first zero = refl
no_page_or_later first (suc n) = no_page_or_later (first + 1) n

no_id_block : (n : ℕ) → list_any is_id_block (snp_head n ++ (page_headers 0 n ++ last_headers)) ≡ false
no_id_block n = no_page_or_later 0 n

-- ---- all

pub none_wanted : Laws → (n : ℕ) → n ≤ 100000 → wanted_id (layout (made_list n)) snp_platform ≡ None
none_wanted laws n few =
    let counted = headers_for 1 (placed_headers (layout (made_list n))) in
    let none = sym (any_same is_id_block is_id_block id_block_same (headers_in counted))
    ∙ ap (list_any is_id_block) (headers_that_count laws n few)
    ∙ no_id_block n in
    ap first_wanted (want_none counted none)

pub none_bad : Laws → (n : ℕ) (options : Options) → n ≤ 100000 → bad_digest (layout (made_list n)) snp_platform options ≡ None
none_bad laws n options few =
    ap (λ id. bad_digest_by id (digest_of (layout (made_list n)) snp_platform options)) (none_wanted laws n few)
