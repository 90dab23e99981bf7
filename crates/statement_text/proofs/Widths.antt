-- How long lines are, by how many digits each of their fields may have.
-- Assumes nothing.
use mathlib.Core.Path.{◌≡◌, sym, ap, subst, ◌∙◌}
use mathlib.Core.Logic.{⊎_elim}
use mathlib.Core.List.{List, [], ◌∷◌, ◌++◌}
use Prim.Native.Nat.{ℕ, zero, suc, ◌+◌, ◌*◌, ◌/◌, ◌%◌, ◌^◌, ◌≤◌, ◌<◌}
use native.Mathlib.Nat.{le_refl, zero-lt-suc, suc-mul, div-lt_iff_lt-mul, pow-suc}
use native.Mathlib.Omega.{arith}
use lib.ListN.{length, take, drop, length-append, length-drop}
use lib.Seq.{length-take-le, get_or-take, get_or-drop}
use borrow.Author.Tests.{lt-ltb, le-ltb}
use Rattle.lists.specs.Sums.{sum_to, at}
use Rattle.lists.proofs.Sums.{sum_first}
use Rattle.lists.proofs.Ranks.{lt_or_le}
use Rattle.text.specs.Numbers.{digit_byte, digits, decimal}
use Rattle.text.specs.Lines.{equals, separator, fields_text, line_text}
use Rattle.fileform.specs.Writing.{rows_text}

-- a number has no more digits than are asked for ..
digits_short : (most n : ℕ) → length (digits most n) ≤ most
unfolding digits
digits_short zero n = le_refl 0
digits_short (suc most) n =
    ⊎_elim
    (λ (l : n < 10). rw (lt-ltb n 10 l) (omega arith))
    (λ (l : 10 ≤ n).
    rw (le-ltb n 10 l) (omega (arith, length-append (digits most (n / 10)) (digit_byte (n % 10) ∷ []), digits_short most (n / 10))))
    (lt_or_le n 10)

pub decimal_short : (n : ℕ) → length (decimal n) ≤ 20
unfolding decimal
decimal_short n = digits_short 20 n

-- .. and one below a power of ten no more than that has zeros
digits_below : (most d n : ℕ) → n < 10 ^ suc d → length (digits most n) ≤ suc d
unfolding digits
digits_below zero d n h = omega arith
digits_below (suc most) zero n h = rw (lt-ltb n 10 h) (omega arith)
digits_below (suc most) (suc d) n h =
    ⊎_elim
    (λ (l : n < 10). rw (lt-ltb n 10 l) (omega arith))
    (λ (l : 10 ≤ n).
    let fewer : n / 10 < 10 ^ suc d = (div-lt_iff_lt-mul (zero-lt-suc 9)).1 (subst (λ k. n < k) (pow-suc 10 (suc d)) h) in
    rw (le-ltb n 10 l) (omega (arith, length-append (digits most (n / 10)) (digit_byte (n % 10) ∷ []), digits_below most d (n / 10) fewer)))
    (lt_or_le n 10)

pub decimal_below : (d n : ℕ) → n < 10 ^ suc d → length (decimal n) ≤ suc d
unfolding decimal
decimal_below d n = digits_below 20 d n

-- fields of at most so many digits each
fields_within : (ns : List ℕ) (d : ℕ → ℕ) → ((c : ℕ) → c < length ns → length (decimal (at ns c)) ≤ d c)
    → length (fields_text ns) ≤ sum_to (length ns) (λ c. d c + 1)
unfolding fields_text
fields_within [] d within = omega arith
fields_within (n ∷ ns) d within =
    omega (
      arith,
      length-append (decimal n) (separator (length ns) ∷ fields_text ns),
      within 0 (zero-lt-suc (length ns)),
      fields_within ns (λ c. d (suc c)) (λ c h. within (suc c) (omega (arith, h))),
      sum_first (length ns) (λ c. d c + 1),
    )

-- the length of a line with that key and fields so narrow
abbrev pub line_size : List ℕ → ℕ → (ℕ → ℕ) → ℕ
line_size key width d = length key + 1 + sum_to width (λ c. d c + 1)

pub line_within : (key ns : List ℕ) (d : ℕ → ℕ) → ((c : ℕ) → c < length ns → length (decimal (at ns c)) ≤ d c)
    → length (line_text key ns) ≤ line_size key (length ns) d
unfolding line_text
line_within key ns d within =
    omega (
      arith,
      length-append (key ++ (equals ∷ [])) (fields_text ns),
      length-append key (equals ∷ []),
      fields_within ns d within,
    )

-- .. and of n rows
module _ (key : List ℕ) (width : ℕ) (d : ℕ → ℕ) where
  -- n rows whose entries have at most so many digits
  abbrev pub Narrow : List ℕ → ℕ → Type 0
  Narrow words n = (i c : ℕ) → i < n → c < width → length (decimal (at words (i * width + c))) ≤ d c

  row_within : (words : List ℕ) (n : ℕ) → width ≤ length words → Narrow words (suc n) → length (line_text key (take width words)) ≤ line_size key width d
  row_within words n room narrow =
      let whole : length (take width words) ≡ width = length-take-le width words room in
      subst (λ k. length (line_text key (take width words)) ≤ line_size key k d) whole
      (line_within key (take width words) d
      (λ c h.
      let below : c < width = omega (arith, h, whole) in
      subst (λ x. length (decimal x) ≤ d c)
      (ap (at words) (let e : 0 * width + c ≡ c = omega arith in e) ∙ sym (get_or-take width words c 0 below)) (narrow 0 c (zero-lt-suc n) below)))

  behind : (words : List ℕ) (n : ℕ) → Narrow words (suc n) → Narrow (drop width words) n
  behind words n narrow i c b h =
      subst (λ x. length (decimal x) ≤ d c)
      (ap (at words) (let e : suc i * width + c ≡ width + (i * width + c) = omega (arith, suc-mul i width) in e) ∙ sym (get_or-drop width words (i * width + c) 0))
      (narrow (suc i) c (omega (arith, b)) h)

  pub rows_within : (n : ℕ) (words : List ℕ) → n * width ≤ length words → Narrow words n
      → length (rows_text (line_text key) width n words) ≤ n * line_size key width d
  unfolding rows_text
  rows_within zero words long narrow = omega arith
  rows_within (suc n) words long narrow =
      omega (
        arith,
        length-append (line_text key (take width words)) (rows_text (line_text key) width n (drop width words)),
        row_within words n (omega (arith, long, suc-mul n width)) narrow,
        rows_within n (drop width words) (omega (arith, length-drop width words, long, suc-mul n width)) (behind words n narrow),
        suc-mul n (line_size key width d),
      )
