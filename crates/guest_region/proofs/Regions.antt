-- A region's pages, as its block of bytes has them.
use Rattle.std.proofs.Common.{◌≡◌, ℕ, ◌+◌, ◌*◌, ◌<◌, ◌≤◌, List, length, set, Some, sym, ap, subst, ◌∙◌, arith, length-append}
use Rattle.std.specs.List.{slice_get, All}
use Rattle.std.proofs.lemmas.List.{length-take, length-take-le, length-drop}
use Rattle.std.specs.declared.alloc.Global.{Global}
use Rattle.guest_region.specs.declared.block.RawBlock.{RawBlock}
use Rattle.guest_region.specs.declared.block.Lease.{Lease}
use Rattle.guest_region.specs.LendsPart.{with_bytes}
use Rattle.guest_region.specs.RegionInvariant.{IsWhole}
use Rattle.guest_region.specs.ByteSlices.{part, with_part}
use Rattle.guest_region.specs.PagesOf.{pages_of}
use Rattle.guest_region.proofs.PagesOf.{piece_within, length-piece, length-pieces, get-pieces, set-pieces}

-- a region has as many pages as slots
pub length-pages : (n : ℕ) (bytes : List ℕ) (pages : List (List ℕ)) → pages_of n bytes ≡ pages → n ≡ length pages
length-pages n bytes pages shows = sym (length-pieces 4096 n bytes) ∙ ap length shows

-- a slot's page lies within the block
pub page_within : (n slot : ℕ) (bytes : List ℕ) (pages : List (List ℕ)) → pages_of n bytes ≡ pages
    → length bytes ≡ n * 4096 → slot < length pages → slot * 4096 + 4096 ≤ length bytes
page_within n slot bytes pages shows long within =
    omega (arith, long, piece_within 4096 n slot (omega (arith, length-pages n bytes pages shows)))

-- the page of a slot
pub page_at : (n slot : ℕ) (bytes : List ℕ) (pages : List (List ℕ)) → pages_of n bytes ≡ pages
    → slot < length pages → slice_get pages slot ≡ Some (part bytes (slot * 4096) 4096)
page_at n slot bytes pages shows within =
    ap (λ all. slice_get all slot) (sym shows)
    ∙ get-pieces 4096 n slot bytes (omega (arith, length-pages n bytes pages shows))

-- a part has the length that was asked for
pub length-part : (bytes : List ℕ) (at n : ℕ) → at + n ≤ length bytes → length (part bytes at n) ≡ n
length-part bytes at n h = length-take-le n _ (omega (arith, length-drop at bytes))

-- a write leaves the block as long as it was
pub length-with_part : (bytes new : List ℕ) (at : ℕ) → at + length new ≤ length bytes
    → length (with_part bytes at new) ≡ length bytes
length-with_part bytes new at h =
    omega (arith, length-append {A = ℕ}, length-take {A = ℕ}, length-drop {A = ℕ})

-- the pages after a write to one slot
pub pages_after : (n slot : ℕ) (bytes new : List ℕ) (pages : List (List ℕ)) → pages_of n bytes ≡ pages
    → length bytes ≡ n * 4096 → slot < length pages → length new ≡ 4096
    → pages_of n (with_part bytes (slot * 4096) new) ≡ set pages slot new
pages_after n slot bytes new pages shows long within exact =
    set-pieces 4096 n slot bytes new (omega (arith, length-pages n bytes pages shows)) long exact
    ∙ ap (λ all. set all slot new) shows

-- a region whose slot was written is whole
pub whole_after : (alloc : Global) (lease : Lease Global) (block : RawBlock) (slots at : ℕ) (new : List ℕ) → IsWhole alloc lease block slots
    → at + length new ≤ length block.bytes → IsWhole alloc lease (with_bytes block (with_part block.bytes at new)) slots
whole_after alloc lease block slots at new whole within =
    record { bytes = length-with_part block.bytes new at within ∙ whole.bytes; few = whole.few; leased = whole.leased }

-- each page of a region has 4,096 bytes
pub pages_whole : (n : ℕ) (bytes : List ℕ) (pages : List (List ℕ)) → pages_of n bytes ≡ pages → length bytes ≡ n * 4096
    → All (λ page. length page ≡ 4096) pages
pages_whole n bytes pages shows long =
    subst (λ all. All (λ page. length page ≡ 4096) all) shows (λ k d h. length-piece 4096 n k bytes d (omega (arith, long)) h)
