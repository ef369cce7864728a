-- Headers are equal exactly where they are one.
use Rattle.std.proofs.Common.{◌≡◌, Bool, true, true≢false, sym, subst, ℕ, rules, ◌&&◌, ◌==◌, Decides}
use Rattle.std.specs.Cmp.{first_so, second_so, booleans_Decides}
use Rattle.std.proofs.lemmas.Bool.Decides.{Decides-eqb}
use Rattle.igvm_headers.specs.declared.page_kind.PageKind.{PageKind}
use Rattle.igvm_headers.specs.declared.header.Header.{Header}
use Rattle.igvm_headers.specs.declared.header.Header.TheVariants.{Platform, Policy, Area, Page, Insert, Param, Context, Required, ErrorRange, IdBlock, Carried}
use Rattle.igvm_headers.specs.contracts.page_kind.PageKindPartialEq.TheImpl as kind_equality
use Rattle.igvm_headers.specs.contracts.header.HeaderPartialEq.TheImpl as header_equality
use Rattle.igvm_headers.specs.contracts.header.HeaderEq.TheImpl.Laws.{laws-law}

-- what each of two tests tells
both : {s t : Bool} {P Q : Type 0} → (s ≡ true → P) → (t ≡ true → Q) → (s && t) ≡ true → P × Q
both {s} {t} p q h = (p (first_so s t h), q (second_so s t h))

number : (x y : ℕ) → (x == y) ≡ true → x ≡ y
number x y = (Decides-eqb x y).0

kind_same : (x y : PageKind) → (kind_equality.ghosts).eq x y ≡ true → x ≡ y
kind_same x y h = search rules

-- headers of one variant field by field; those of two variants are not equal
header_same : (x y : Header) → (header_equality.ghosts).eq x y ≡ true → x ≡ y
header_same (Platform mask vtl kind version gpa) (Platform mask' vtl' kind' version' gpa') h = search rules
header_same (Policy policy mask) (Policy policy' mask') h = search rules
header_same (Area bytes area offset) (Area bytes' area' offset') h = search rules
header_same (Page gpa mask offset large unmeasured kind) (Page gpa' mask' offset' large' unmeasured' kind') h =
    let flags = both (booleans_Decides large large').0 (both (booleans_Decides unmeasured unmeasured').0 (kind_same kind kind')) in
    let same = both (number gpa gpa') (both (number mask mask') (both (number offset offset') flags)) h in
    cc
header_same (Insert gpa mask area) (Insert gpa' mask' area') h = search rules
header_same (Param kind area at) (Param kind' area' at') h = search rules
header_same (Context gpa mask offset vp) (Context gpa' mask' offset' vp') h = search rules
header_same (Required gpa mask bytes flags) (Required gpa' mask' bytes' flags') h = search rules
header_same (ErrorRange gpa mask bytes) (ErrorRange gpa' mask' bytes') h = search rules
header_same (IdBlock mask enabled ld family image version svn id author) (IdBlock mask' enabled' ld' family' image' version' svn' id' author') h = search rules
header_same (Carried kind length) (Carried kind' length') h = search rules
header_same x y h = absurd (true≢false (sym h))

pub headers_exact : (x y : Header) → Decides ((header_equality.ghosts).eq x y) (x ≡ y)
headers_exact x y = (header_same x y, λ same. subst (λ z. (header_equality.ghosts).eq x z ≡ true) same (laws-law.refl x))
