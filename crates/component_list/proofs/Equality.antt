-- Two lists, and two components, are equal exactly where they are one, since headers are.
use Rattle.std.proofs.Common.{◌≡◌, Bool, true, true≢false, refl, sym, subst, ℕ, List, ◌&&◌, ◌==◌, Decides}
use Rattle.std.specs.Cmp.{first_so, second_so}
use Rattle.std.specs.Cmp.Lexicographic.{bytes_decides}
use Rattle.std.proofs.lemmas.Bool.Decides.{Decides-eqb}
use Rattle.std.proofs.lemmas.Slice.Eq.{slice_eq-Decides}
use Rattle.igvm_headers.specs.declared.header.Header.{Header}
use Rattle.igvm_headers.specs.contracts.header.HeaderPartialEq.TheImpl as header_equality
use Rattle.component_list.specs.declared.component.Component.{Component}
use Rattle.component_list.specs.declared.component.Content.{Content}
use Rattle.component_list.specs.declared.component.Content.TheVariants.{Nothing, Zero, Bytes}
use Rattle.component_list.specs.contracts.blob.BlobPartialEq.TheImpl as blob_equality
use Rattle.component_list.specs.contracts.component.ContentPartialEq.TheImpl as content_equality
use Rattle.component_list.specs.contracts.component.ComponentPartialEq.TheImpl as component_equality
use Rattle.component_list.specs.contracts.component.ComponentEq.TheImpl.Laws.{laws-law}
use Rattle.component_list.specs.contracts.list.ComponentListPartialEq.TheImpl as list_equality
use Rattle.component_list.specs.contracts.list.ComponentListEq.TheImpl.Laws as lists_laws
use Rattle.component_list.specs.Lists.{ImageParts}

-- what each of two tests tells
both : {s t : Bool} {P Q : Type 0} → (s ≡ true → P) → (t ≡ true → Q) → (s && t) ≡ true → P × Q
both {s} {t} p q h = (p (first_so s t h), q (second_so s t h))

number : (x y : ℕ) → (x == y) ≡ true → x ≡ y
number x y = (Decides-eqb x y).0

-- headers are equal exactly where they are one
abbrev pub HeadersAreExact : Type 0
HeadersAreExact = (x y : Header) → Decides ((header_equality.ghosts).eq x y) (x ≡ y)

blob_same : (x y : List ℕ) → (blob_equality.ghosts).eq x y ≡ true → x ≡ y
blob_same x y = (bytes_decides x y).0

content_same : (x y : Content) → (content_equality.ghosts).eq x y ≡ true → x ≡ y
content_same (Bytes x) (Bytes y) h = let same = blob_same x y h in cc
content_same Nothing Nothing h = cc
content_same Zero Zero h = cc
content_same x y h = absurd (true≢false (sym h))

component_same : HeadersAreExact → (x y : Component) → (component_equality.ghosts).eq x y ≡ true → x ≡ y
component_same headers x y h =
    let same = both (headers x.header y.header).0 (both (blob_same x.tail y.tail) (content_same x.content y.content)) h in
    λ i. record { header = same.0 i; tail = same.1.0 i; content = same.1.1 i }

pub components_exact : HeadersAreExact → (x y : Component) → Decides ((component_equality.ghosts).eq x y) (x ≡ y)
components_exact headers x y = (component_same headers x y, λ same. subst (λ z. (component_equality.ghosts).eq x z ≡ true) same (laws-law.refl x))

-- lists of one version are as long, and each two components are one
pub lists_exact : HeadersAreExact → (x y : ImageParts) → Decides ((list_equality.ghosts).eq x y) (x ≡ y)
lists_exact headers x y = (same, λ is. subst (λ z. (list_equality.ghosts).eq x z ≡ true) is (lists_laws.laws-law.refl x))
  where
    same : (list_equality.ghosts).eq x y ≡ true → x ≡ y
    same h =
        let versions = both (number x.version y.version) ((slice_eq-Decides (components_exact headers) x.parts y.parts _ refl).0) h in
        λ i. record { version = versions.0 i; parts = versions.1 i }

-- so a test that says as much decides it too
pub lists_decided : HeadersAreExact → (x y : ImageParts) (test : Bool) → test ≡ (list_equality.ghosts).eq x y → Decides test (x ≡ y)
lists_decided headers x y test same = subst (λ b. Decides b (x ≡ y)) (sym same) (lists_exact headers x y)
