-- Lists of bytes, put together of numbers and of other such lists.
use Rattle.std.proofs.Common.{ℕ, zero, suc, ◌^◌, ◌<◌, List, [], ◌∷◌, ◌++◌, replicate, arith, lit<}
use Rattle.std.specs.Int.{byte_at, bytes_low_first}
use Rattle.byteorder.specs.Endian.{little_bytes}
use Rattle.igvm_headers.specs.SpellingConditions.{AreBytes}

pub joined : (xs ys : List ℕ) → AreBytes xs → AreBytes ys → AreBytes (xs ++ ys)
joined [] ys all more = more
joined (x ∷ xs) ys all more = (all.0, joined xs ys all.1 more)

a_byte : (k x : ℕ) → byte_at k x < 2 ^ 8
a_byte zero x = omega arith
a_byte (suc k) x = omega arith

low_bytes : (i n x : ℕ) → AreBytes (bytes_low_first i n x)
low_bytes i zero x = tt
low_bytes i (suc n) x = (a_byte i x, low_bytes (suc i) n x)

pub number_bytes : (n x : ℕ) → AreBytes (little_bytes n x)
number_bytes n x = low_bytes 0 n x

pub zero_bytes : (n : ℕ) → AreBytes (replicate n 0)
zero_bytes zero = tt
zero_bytes (suc n) = (lit< tt, zero_bytes n)

-- a number behind others
pub behind : (xs : List ℕ) (n x : ℕ) → AreBytes xs → AreBytes (xs ++ little_bytes n x)
behind xs n x all = joined xs (little_bytes n x) all (number_bytes n x)
