-- What the proofs of records share: a number that was put is read, and what a form that passed says.
use Rattle.std.proofs.Common.{◌≡◌, ℕ, ◌+◌, List, ◌++◌, length, drop, true, false, Ok, refl, ◌^◌, ◌<◌, Bool, cond, Result, Err}
use Rattle.std.specs.Prelude.{◌==◌, slice_index}
use Rattle.std.proofs.lemmas.Bool.{eqb-true}
use Rattle.std.proofs.lemmas.List.{get_or-drop}
use Rattle.byteorder.specs.Endian.{little_bytes}
use Rattle.igvm_headers.specs.Numbers.{number_at}
use Rattle.igvm_headers.specs.HeaderFacts.{header_type, header_tail}
use Rattle.igvm_headers.specs.Records.Fields.{of_length}
use Rattle.igvm_headers.specs.SpellingConditions.{NumbersFit, TailFits, LargeIsNormal, KindIsCarried}
use Rattle.igvm_headers.specs.declared.header.Header.{Header}
use Rattle.byteorder.specs.Numbers.{little_number-reads_back, little_from-lt}
use Rattle.igvm_headers.specs.declared.fault.HeaderFault.{HeaderFault}

-- a number that was put is read
pub number_again : (n x : ℕ) (rest : List ℕ) → x < 256 ^ n → number_at n 0 (little_bytes n x ++ rest) ≡ x
number_again n x rest h = little_number-reads_back n x rest h

-- a type of 32 bits and a content, of bytes as many as such a number can say
pub record IsSmall (kind : ℕ) (content : List ℕ) : Type 0 where
  pub kind_fits : kind < 2 ^ 32
  pub size_fits : length content < 2 ^ 32
  pub bytes : (k : ℕ) → slice_index content k < 2 ^ 8

-- what a header keeps that was read from a type and a content; its numbers fit where those do
pub record Reads (kind : ℕ) (content : List ℕ) (h : Header) : Type 0 where
  pub type : header_type h ≡ kind
  pub numbers : IsSmall kind content → NumbersFit h
  pub tail_fits : TailFits h (header_tail h content)
  pub large_is_normal : LargeIsNormal h
  pub kind_is_carried : KindIsCarried h

-- a number is of its field's size
pub number_fits : (n at : ℕ) (content : List ℕ) → ((k : ℕ) → slice_index content k < 2 ^ 8) → number_at n at content < 256 ^ n
number_fits n at content bytes = little_from-lt 0 n (drop at content) (λ k. rw get_or-drop (bytes (at + k)))

-- a test that passed
pub passed : (b : Bool) (r : Result Header HeaderFault) (fault : HeaderFault) (h : Header) → cond b r (Err fault) ≡ Ok h → (b ≡ true) × (r ≡ Ok h)
passed true r fault h e = (refl, e)
passed false r fault h e = absurd cc

unfoldable pub ok : Header → Result Header HeaderFault
ok h = Ok h

pub ok_is : (x y : Header) → ok x ≡ ok y → x ≡ y
unfolding ok
ok_is x y e = cc

pub of_length_ok : (n : ℕ) (content : List ℕ) (x h : Header) → of_length n content x ≡ Ok h → (length content ≡ n) × (x ≡ h)
unfolding ok
of_length_ok n content x h e =
    let p = passed (length content == n) (Ok x) _ h e in
    (eqb-true (length content) n p.0, ok_is x h p.1)
