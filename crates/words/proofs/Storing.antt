-- Words one after the other: what the code reads and stores eight bytes at a time is what the definitions say.
-- Assumes nothing.
use mathlib.Core.Path.{◌≡◌, sym, ap, ap₂, ◌∙◌}
use mathlib.Core.List.{List, [], ◌∷◌, ◌++◌, append-nil, append_assoc}
use Prim.Native.Nat.{ℕ, zero, suc, ◌+◌, ◌-◌, ◌*◌, ◌/◌, ◌%◌, ◌≤◌, ◌<◌}
use native.Mathlib.Nat.{add-zero, add-suc, div-one, mul-zero, mul-suc, not-suc-le-zero, le_of_suc-le-suc}
use native.Mathlib.Omega.{arith}
use mir.Syntax.{w64}
use lib.ListN.{length, get_or, take, drop}
use lib.Seq.{get_or-take, drop-drop, drop_at}
use borrow.Rule.Slice.PartMut.{put_mid}
use Rattle.std.specs.Int.{from_le_bytes, to_le_bytes}
use Rattle.std.specs.Simd.{first_chunks}
use Rattle.std.proofs.lemmas.List.{get_or-drop}
use Rattle.lists.specs.Sums.{sum_to, at}
use Rattle.lists.specs.Entries.{listed, put}
use Rattle.lists.proofs.Entries.{put_listed, take_put, length_listed, listed_eq}
use Rattle.words.specs.Words.{number_from, numbers, byte_of, bytes_of}
use Rattle.words.specs.Steps.{number_in, byte_at}

-- the words of a slice of bytes: the number that std makes of one
chunk_at : (n k : ℕ) (xs : List ℕ) (i : ℕ) (d : List ℕ) → i < k → get_or (first_chunks n k xs) i d ≡ take n (drop (n * i) xs)
chunk_at n zero xs i d h = absurd (not-suc-le-zero h)
chunk_at n (suc k) xs zero d h = rw mul-zero
chunk_at n (suc k) xs (suc i) d h =
    chunk_at n k (drop n xs) i d (le_of_suc-le-suc h)
    ∙ ap (take n) (drop-drop (n * i) n xs ∙ ap (λ m. drop m xs) (let e : n + n * i ≡ n * suc i = omega (arith, mul-suc n i) in e))

pub word_number : (bs : List ℕ) (words : List (List ℕ)) (i : ℕ) (d : List ℕ) → words ≡ first_chunks 8 (length bs / 8) bs → i < length bs / 8
    → from_le_bytes w64 (get_or words i d) ≡ number_in bs i
unfolding number_from sum_to
word_number bs words i d are h =
    let word : (k : ℕ) → k < 8 → at (get_or words i d) k ≡ at bs (8 * i + k) =
    λ k b.
    ap (λ ws. at (get_or ws i d) k) are
    ∙ ap (λ w. at w k) (chunk_at 8 (length bs / 8) bs i d h)
    ∙ get_or-take 8 (drop (8 * i) bs) k 0 b
    ∙ get_or-drop (8 * i) bs k 0 in
    omega (
      arith,
      word 0 (omega arith),
      word 1 (omega arith),
      word 2 (omega arith),
      word 3 (omega arith),
      word 4 (omega arith),
      word 5 (omega arith),
      word 6 (omega arith),
      word 7 (omega arith),
    )

-- entries listed on from a position
listed_on : (m n : ℕ) (f : ℕ → ℕ) → listed (m + n) f ≡ listed m f ++ listed n (λ k. f (m + k))
unfolding listed
listed_on m zero f = simp (add-zero, append-nil)
listed_on m (suc n) f = rw add-suc (ap (λ l. l ++ (f (m + n) ∷ [])) (listed_on m n f) ∙ append_assoc (listed m f) (listed n (λ k. f (m + k))) (f (m + n) ∷ []))

-- byte k of number i stands k bytes behind the first of its word
pub byte_at_lem : (ns : List ℕ) (i k : ℕ) → k < 8 → byte_at ns (8 * i + k) ≡ byte_of (at ns i) k
byte_at_lem ns i k b =
    let word : (8 * i + k) / 8 ≡ i = omega arith in
    let byte : (8 * i + k) % 8 ≡ k = omega arith in
    ap₂ (λ w j. byte_of (at ns w) j) word byte

-- a number's bytes as std gives them
number_bytes : (v : ℕ) → to_le_bytes w64 v ≡ listed 8 (byte_of v)
unfolding listed byte_of
number_bytes v = rw div-one

-- .. stored behind what was stored
pub word_stored : (ns bs : List ℕ) (i : ℕ) → i < length ns → 8 * length ns ≤ length bs
    → put_mid (8 * i) (8 * (i + 1) - 8 * i) (put (8 * i) (byte_at ns) bs) (to_le_bytes w64 (at ns i)) ≡ put (8 * (i + 1)) (byte_at ns) bs
word_stored ns bs i h room =
    let from = 8 * i in
    let bytes = byte_at ns in
    let size : 8 * (i + 1) - 8 * i ≡ 8 = omega arith in
    let next : 8 * i + 8 ≡ 8 * (i + 1) = omega arith in
    let inside : 8 * i + 8 ≤ length bs = omega arith in
    let begun : 8 * i ≤ length bs = omega arith in
    let word : to_le_bytes w64 (at ns i) ≡ listed 8 (λ k. bytes (from + k)) =
    number_bytes (at ns i) ∙ listed_eq 8 (byte_of (at ns i)) (λ k. bytes (from + k)) (λ k b. sym (byte_at_lem ns i k b)) in
    let behind : drop 8 (drop from (put from bytes bs)) ≡ drop (from + 8) bs =
    ap (λ l. drop 8 (drop from l)) (put_listed from bytes bs begun)
    ∙ ap (drop 8) (drop_at (listed from bytes) (drop from bs) from (length_listed from bytes))
    ∙ drop-drop 8 from bs in
    ap₂ ◌++◌ (take_put from bytes bs begun) (ap₂ ◌++◌ word (ap (λ k. drop k (drop from (put from bytes bs))) size ∙ behind))
    ∙ sym (append_assoc (listed from bytes) (listed 8 (λ k. bytes (from + k))) (drop (from + 8) bs))
    ∙ ap (λ l. l ++ drop (from + 8) bs) (sym (listed_on from 8 bytes))
    ∙ sym (put_listed (from + 8) bytes bs inside)
    ∙ ap (λ n. put n bytes bs) next

-- all numbers stored in turn are the numbers and the entries behind them ..
pub stored_numbers : (bs ns : List ℕ) → length bs / 8 ≤ length ns
    → put (length bs / 8) (number_in bs) ns ≡ numbers bs ++ drop (length bs / 8) ns
unfolding numbers
stored_numbers bs ns room = put_listed (length bs / 8) (number_in bs) ns room

-- .. and all bytes stored in turn are the bytes and those behind them
pub stored_bytes : (ns bs : List ℕ) → 8 * length ns ≤ length bs → put (8 * length ns) (byte_at ns) bs ≡ bytes_of ns ++ drop (8 * length ns) bs
unfolding bytes_of
stored_bytes ns bs room = put_listed (8 * length ns) (byte_at ns) bs room
