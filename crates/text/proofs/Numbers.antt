-- A number's decimal reads as that number, and what reads as a number is its decimal. Both go digit by digit: the decimal of a
-- number above 9 is that of its tenth with one digit behind it.
-- Assumes nothing.
use mathlib.Core.Path.{◌≡◌, refl, sym, ap, ap₂, ◌∙◌, subst}
use mathlib.Core.Logic.{⊎_elim, ◌≢◌}
use mathlib.Core.Bool.{Bool, true, false, ◌&&◌, true≢false}
use mathlib.Core.List.{List, [], ◌∷◌, ◌++◌, append_assoc}
use Prim.Native.Nat.{ℕ, zero, suc, ◌+◌, ◌*◌, ◌/◌, ◌%◌, ◌^◌, ◌≤◌, ◌<◌}
use native.Mathlib.Nat.{pow-suc, div-lt_iff_lt-mul, lt_of_lt_of_le}
use native.Mathlib.Omega.{arith}
use lib.Dec.{leb, ltb, lit<, lit≤}
use lib.ListN.{length, length-append}
use borrow.Author.Tests.{lt-ltb, le-ltb, le-leb, lt-leb, ne_eqb, ltb-true, leb-true}
use Rattle.lists.proofs.Ranks.{true_or_false, lt_or_le}
use Rattle.text.specs.Numbers.{Found, found, missing, zero_byte, digit_byte, digit_of, is_digit, bound, digits_on, first_number, digits, most_digits, decimal}

-- nothing is both found and missing
pub never : {A : Type 0} {o : Found A} {a : A} {s : List ℕ} → o ≡ missing → o ≡ found a s → ⊥
never p q = let z : ◌≡◌ {A = ℕ} 0 1 = cc in omega arith

-- a byte is a digit's, or lies outside
pub digit_is : (byte : ℕ) → zero_byte ≤ byte → byte < 58 → is_digit byte ≡ true
unfolding is_digit
digit_is byte h k = rw (le-leb 48 byte h, lt-ltb byte 58 k)

pub digit_low : (byte : ℕ) → byte < zero_byte → is_digit byte ≡ false
unfolding is_digit
digit_low byte h = rw (lt-leb 48 byte h)

pub digit_range : (byte : ℕ) → is_digit byte ≡ true → (zero_byte ≤ byte) × (byte < 58)
unfolding is_digit
digit_range byte e = both (leb 48 byte) (ltb byte 58) refl refl e
  where
    both : (s t : Bool) → leb 48 byte ≡ s → ltb byte 58 ≡ t → (s && t) ≡ true → (48 ≤ byte) × (byte < 58)
    both true t p q e = (leb-true 48 byte p, ltb-true byte 58 (q ∙ e))
    both false t p q e = absurd (true≢false (sym e))

-- one more digit, and the places where a decimal ends
pub on_digit : (n byte : ℕ) (s : List ℕ) → is_digit byte ≡ true → n * 10 + digit_of byte < bound
    → digits_on n (byte ∷ s) ≡ digits_on (n * 10 + digit_of byte) s
unfolding digits_on
on_digit n byte s e h = rw (e, lt-ltb (n * 10 + digit_of byte) bound h)

pub on_big : (n byte : ℕ) (s : List ℕ) → is_digit byte ≡ true → bound ≤ n * 10 + digit_of byte → digits_on n (byte ∷ s) ≡ missing
unfolding digits_on
on_big n byte s e h = rw (e, le-ltb (n * 10 + digit_of byte) bound h)

pub on_other : (n byte : ℕ) (s : List ℕ) → is_digit byte ≡ false → digits_on n (byte ∷ s) ≡ found n (byte ∷ s)
unfolding digits_on
on_other n byte s e = rw e

pub on_end : (n : ℕ) → digits_on n [] ≡ found n []
unfolding digits_on
on_end n = refl

pub number_zero : (byte : ℕ) (s : List ℕ) → byte ≡ zero_byte → first_number (byte ∷ s) ≡ found 0 s
unfolding first_number is_digit
number_zero byte s e = rw e

pub number_first : (byte : ℕ) (s : List ℕ) → is_digit byte ≡ true → byte ≢ zero_byte → first_number (byte ∷ s) ≡ digits_on (digit_of byte) s
unfolding first_number
number_first byte s e d = rw (e, ne_eqb byte 48 d)

pub number_other : (byte : ℕ) (s : List ℕ) → is_digit byte ≡ false → first_number (byte ∷ s) ≡ missing
unfolding first_number
number_other byte s e = rw e

pub number_end : first_number [] ≡ missing
unfolding first_number
number_end = refl

-- a number below 10 has one digit, any other those of its tenth and its last one
pub digits_one : (most n : ℕ) → n < 10 → digits (suc most) n ≡ digit_byte n ∷ []
unfolding digits
digits_one most n h = rw (lt-ltb n 10 h)

pub digits_more : (most n : ℕ) → 10 ≤ n → digits (suc most) n ≡ digits most (n / 10) ++ (digit_byte (n % 10) ∷ [])
unfolding digits
digits_more most n h = rw (le-ltb n 10 h)

tenth : (most n : ℕ) → n < 10 ^ suc (suc most) → n / 10 < 10 ^ suc most
tenth most n h = (div-lt_iff_lt-mul (lit< tt)).1 (rw pow-suc at h)

-- a larger room for digits changes nothing
pub digits_room : (most n : ℕ) → n < 10 ^ suc most → digits (suc most) n ≡ digits (suc (suc most)) n
digits_room zero n h =
    let low : n < 10 = h in
    digits_one zero n low ∙ sym (digits_one 1 n low)
digits_room (suc most) n h =
    ⊎_elim
    (λ (low : n < 10). digits_one (suc most) n low ∙ sym (digits_one (suc (suc most)) n low))
    (λ (high : 10 ≤ n).
    digits_more (suc most) n high
    ∙ ap (λ front. front ++ (digit_byte (n % 10) ∷ [])) (digits_room most (n / 10) (tenth most n h))
    ∙ sym (digits_more (suc (suc most)) n high))
    (lt_or_le n 10)

-- the digits of a number above 0 in front of a text
one_read : (n : ℕ) (t : List ℕ) → n < 10 → 0 < n → first_number (digit_byte n ∷ t) ≡ digits_on n t
one_read n t h p =
    let back : digit_of (digit_byte n) ≡ n = omega arith in
    number_first (digit_byte n) t (digit_is (digit_byte n) (omega arith) (omega arith)) (λ e. let z : 48 + n ≡ 48 = e in omega arith)
    ∙ ap (λ k. digits_on k t) back

digits_read : (most n : ℕ) (t : List ℕ) → n < 10 ^ suc most → 0 < n → n < bound → first_number (digits (suc most) n ++ t) ≡ digits_on n t
digits_read zero n t h p b =
    let low : n < 10 = h in
    ap (λ ds. first_number (ds ++ t)) (digits_one zero n low) ∙ one_read n t low p
digits_read (suc most) n t h p b =
    ⊎_elim
    (λ (low : n < 10). ap (λ ds. first_number (ds ++ t)) (digits_one (suc most) n low) ∙ one_read n t low p)
    (λ (high : 10 ≤ n).
    let last : ℕ = digit_byte (n % 10) in
    let whole : n / 10 * 10 + digit_of last ≡ n = omega arith in
    let fits : n / 10 * 10 + digit_of last < bound = omega arith in
    ap (λ ds. first_number (ds ++ t)) (digits_more (suc most) n high)
    ∙ ap first_number (append_assoc (digits (suc most) (n / 10)) (last ∷ []) t)
    ∙ digits_read most (n / 10) (last ∷ t) (tenth most n h) (omega arith) (omega arith)
    ∙ on_digit (n / 10) last t (digit_is last (omega arith) (omega arith)) fits
    ∙ ap (λ k. digits_on k t) whole)
    (lt_or_le n 10)

room : {n : ℕ} → n < bound → n < 10 ^ most_digits
room h = lt_of_lt_of_le h (lit≤ tt)

-- the decimal of a number, followed by what is no digit, reads as that number
pub number_decimal : (n : ℕ) (byte : ℕ) (s : List ℕ) → n < bound → is_digit byte ≡ false → first_number (decimal n ++ (byte ∷ s)) ≡ found n (byte ∷ s)
unfolding decimal
number_decimal n byte s h e =
    ⊎_elim
    (λ (z : n < 1).
    let none : n ≡ 0 = omega arith in
    ap (λ k. first_number (digits most_digits k ++ (byte ∷ s))) none
    ∙ ap (λ ds. first_number (ds ++ (byte ∷ s))) (digits_one 19 0 (lit< tt))
    ∙ number_zero (digit_byte 0) (byte ∷ s) refl
    ∙ ap (λ k. found k (byte ∷ s)) (sym none))
    (λ (p : 1 ≤ n). digits_read 19 n (byte ∷ s) (room h) p h ∙ on_other n byte s e)
    (lt_or_le n 1)

-- a digit behind a number above 0
pub decimal_on : (n d : ℕ) → 0 < n → d < 10 → n * 10 + d < bound → decimal (n * 10 + d) ≡ decimal n ++ (digit_byte d ∷ [])
unfolding decimal
decimal_on n d p h b =
    let front : (n * 10 + d) / 10 ≡ n = omega arith in
    let last : (n * 10 + d) % 10 ≡ d = omega arith in
    let small : n < 10 ^ 19 = omega arith in
    digits_more 19 (n * 10 + d) (omega arith)
    ∙ ap₂ (λ k m. digits 19 k ++ (digit_byte m ∷ [])) front last
    ∙ ap (λ ds. ds ++ (digit_byte d ∷ [])) (digits_room 18 n small)

pub decimal_one : (n : ℕ) → n < 10 → decimal n ≡ digit_byte n ∷ []
unfolding decimal
decimal_one n h = digits_one 19 n h

-- what is read behind the digits of a number is the rest of a larger number's decimal
pub record Decimal (n : ℕ) (s rest : List ℕ) : Type 0 where
  pub written : s ≡ decimal n ++ rest
  pub small : n < bound

on_back : (n : ℕ) (s : List ℕ) (m : ℕ) (rest : List ℕ) → 0 < n → n < bound → digits_on n s ≡ found m rest
    → Decimal m (decimal n ++ s) rest
on_back n [] m rest p h e =
    let same : found n [] ≡ found m rest = sym (on_end n) ∙ e in
    let value : n ≡ m = cc in
    let left : ◌≡◌ {A = List ℕ} [] rest = cc in
    record { written = ap₂ (λ k t. decimal k ++ t) value left; small = subst (λ k. k < bound) value h }
on_back n (byte ∷ s) m rest p h e =
    ⊎_elim
    (λ (d : is_digit byte ≡ true).
    ⊎_elim
    (λ (fits : n * 10 + digit_of byte < bound).
    let range : (48 ≤ byte) × (byte < 58) = digit_range byte d in
    let back : digit_byte (digit_of byte) ≡ byte = omega arith in
    let more : Decimal m (decimal (n * 10 + digit_of byte) ++ s) rest =
    on_back (n * 10 + digit_of byte) s m rest (omega arith) fits (sym (on_digit n byte s d fits) ∙ e) in
    let moved : decimal (n * 10 + digit_of byte) ++ s ≡ decimal n ++ (byte ∷ s) =
    ap (λ ds. ds ++ s) (decimal_on n (digit_of byte) p (omega arith) fits)
    ∙ append_assoc (decimal n) (digit_byte (digit_of byte) ∷ []) s
    ∙ ap (λ k. decimal n ++ (k ∷ s)) back in
    record { written = sym moved ∙ more.written; small = more.small })
    (λ (big : bound ≤ n * 10 + digit_of byte). absurd (never (on_big n byte s d big) e))
    (lt_or_le (n * 10 + digit_of byte) bound))
    (λ (d : is_digit byte ≡ false).
    let same : found n (byte ∷ s) ≡ found m rest = sym (on_other n byte s d) ∙ e in
    let value : n ≡ m = cc in
    let left : byte ∷ s ≡ rest = cc in
    record { written = ap₂ (λ k t. decimal k ++ t) value left; small = subst (λ k. k < bound) value h })
    (true_or_false (is_digit byte))

-- what reads as a number is its decimal
pub decimal_number : (s : List ℕ) (n : ℕ) (rest : List ℕ) → first_number s ≡ found n rest → Decimal n s rest
decimal_number [] n rest e = absurd (never number_end e)
decimal_number (byte ∷ s) n rest e =
    ⊎_elim
    (λ (d : is_digit byte ≡ true).
    let range : (48 ≤ byte) × (byte < 58) = digit_range byte d in
    ⊎_elim
    (λ (low : byte < 49).
    let zero_is : byte ≡ 48 = omega arith in
    let same : found 0 s ≡ found n rest = sym (number_zero byte s zero_is) ∙ e in
    let value : 0 ≡ n = cc in
    let left : s ≡ rest = cc in
    record {
      written =
          ap₂ ◌∷◌ zero_is left
          ∙ ap (λ ds. ds ++ rest) (sym (decimal_one 0 (lit< tt)))
          ∙ ap (λ k. decimal k ++ rest) value;
      small = subst (λ k. k < bound) value (lit< tt);
    })
    (λ (high : 49 ≤ byte).
    let back : digit_byte (digit_of byte) ≡ byte = omega arith in
    let more : Decimal n (decimal (digit_of byte) ++ s) rest =
    on_back (digit_of byte) s n rest (omega arith) (omega arith)
    (sym (number_first byte s d (λ q. let z : byte ≡ 48 = q in omega arith)) ∙ e) in
    record {
      written =
          ap (λ k. k ∷ s) (sym back) ∙ ap (λ ds. ds ++ s) (sym (decimal_one (digit_of byte) (omega arith))) ∙ more.written;
      small = more.small;
    })
    (lt_or_le byte 49))
    (λ (d : is_digit byte ≡ false). absurd (never (number_other byte s d) e))
    (true_or_false (is_digit byte))

-- how long a decimal is
none : (n : ℕ) → digits 0 n ≡ []
unfolding digits
none n = refl

length_digits : (most n : ℕ) → (1 ≤ length (digits (suc most) n)) × (length (digits (suc most) n) ≤ suc most)
length_digits zero n =
    ⊎_elim
    (λ (low : n < 10). rw (digits_one zero n low) (omega arith))
    (λ (high : 10 ≤ n). rw (digits_more zero n high, none) (omega arith))
    (lt_or_le n 10)
length_digits (suc most) n =
    ⊎_elim
    (λ (low : n < 10). rw (digits_one (suc most) n low) (omega arith))
    (λ (high : 10 ≤ n).
    let front = length_digits most (n / 10) in
    rw (digits_more (suc most) n high, length-append) (omega arith))
    (lt_or_le n 10)

pub length_decimal : (n : ℕ) → (1 ≤ length (decimal n)) × (length (decimal n) ≤ most_digits)
unfolding decimal
length_decimal n = length_digits 19 n

-- the decimal of a number above 9 is that of its tenth and one digit more
pub decimal_tenth : (n : ℕ) → 10 ≤ n → n < bound → decimal n ≡ decimal (n / 10) ++ (digit_byte (n % 10) ∷ [])
decimal_tenth n h b =
    let whole : n / 10 * 10 + n % 10 ≡ n = omega arith in
    ap decimal (sym whole) ∙ decimal_on (n / 10) (n % 10) (omega arith) (omega arith) (omega arith)

pub length_tenth : (n : ℕ) → 10 ≤ n → n < bound → length (decimal n) ≡ length (decimal (n / 10)) + 1
length_tenth n h b = ap length (decimal_tenth n h b) ∙ length-append (decimal (n / 10)) (digit_byte (n % 10) ∷ [])

-- one digit or more
pub one_digit : (n : ℕ) → n < bound → length (decimal n) ≤ 1 → n < 10
one_digit n b h =
    ⊎_elim (λ (low : n < 10). low)
    (λ (high : 10 ≤ n). let tenth = length_tenth n high b in absurd (omega (arith, length_decimal (n / 10))))
    (lt_or_le n 10)

pub more_digits : (n : ℕ) → 2 ≤ length (decimal n) → 10 ≤ n
more_digits n h =
    ⊎_elim (λ (low : n < 10). absurd (omega (arith, ap length (decimal_one n low)))) (λ (high : 10 ≤ n). high) (lt_or_le n 10)
