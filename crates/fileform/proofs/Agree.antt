-- What reads a line and what writes it agree: what is written is read again, and what is read was written. So it is for every kind of
-- line, and a line with another key is not read. A further shape of line or sort of number is a case more here.
-- Assumes nothing.
use mathlib.Core.Path.{◌≡◌, sym, ap, ◌∙◌}
use mathlib.Core.Bool.{Bool, true}
use mathlib.Core.List.{List, [], ◌∷◌, ◌++◌}
use Prim.Native.Nat.{ℕ}
use lib.ListN.{length}
use Rattle.text.specs.Numbers.{Found, found, missing, Below}
use Rattle.text.specs.Lines.{equals, unlike, line, line_text}
use Rattle.text.proofs.Lines.{line_text_lem, line_back, Line, line_apart}
use Rattle.fileform.specs.Form.{Sort, plain, Shape, fixed, Kind, line_by, line_text_by, line_of, line_text_of}

-- a line that was read stood there, as wide as it was to be, of small numbers
pub record Back (write : List ℕ → List ℕ) (width : ℕ) (s ns rest : List ℕ) : Type 0 where
  pub written : s ≡ write ns ++ rest
  pub width_is : length ns ≡ width
  pub below : Below ns

pub record Agree (read : List ℕ → Found (List ℕ)) (write : List ℕ → List ℕ) (width : ℕ) : Type 0 where
  pub forth : (ns rest : List ℕ) → length ns ≡ width → Below ns → read (write ns ++ rest) ≡ found ns rest
  pub back : (s ns rest : List ℕ) → read s ≡ found ns rest → Back write width s ns rest

pub line_agrees : (key : List ℕ) (width : ℕ) → Agree (line key width) (line_text key) width
line_agrees key width =
    record {
      forth = λ ns rest wide below. ap (λ w. line key w (line_text key ns ++ rest)) (sym wide) ∙ line_text_lem key ns rest below;
      back = λ s ns rest e.
          let one : Line key width s ns rest = line_back key width s ns rest e in
          record { written = one.written; width_is = one.width_is; below = one.below };
    }

-- the keys of two lines differ, as far as both go
abbrev pub differ : List ℕ → List ℕ → Bool
differ key other = unlike (key ++ (equals ∷ [])) (other ++ (equals ∷ []))

by_agrees : (shape : Shape) (sort : Sort) (key : List ℕ) (width : ℕ) → Agree (line_by shape sort key width) (line_text_by shape sort key) width
by_agrees fixed plain key width = line_agrees key width

by_apart : (shape : Shape) (sort : Sort) (key : List ℕ) (width : ℕ) (its : Shape) (of : Sort) (other ns rest : List ℕ) → differ key other ≡ true
    → line_by shape sort key width (line_text_by its of other ns ++ rest) ≡ missing
by_apart fixed plain key width fixed plain other ns rest d = line_apart key other width ns rest d

pub kind_agrees : (kind : Kind) → Agree (line_of kind) (line_text_of kind) kind.width
kind_agrees kind = by_agrees kind.shape kind.sort kind.key kind.width

pub kind_apart : (kind other : Kind) (ns rest : List ℕ) → differ kind.key other.key ≡ true → line_of kind (line_text_of other ns ++ rest) ≡ missing
kind_apart kind other ns rest d =
    by_apart kind.shape kind.sort kind.key kind.width other.shape other.sort other.key ns rest d

pub kind_apart_last : (kind : Kind) (last ns rest : List ℕ) → differ kind.key last ≡ true → line_of kind (line_text last ns ++ rest) ≡ missing
kind_apart_last kind last ns rest d = by_apart kind.shape kind.sort kind.key kind.width fixed plain last ns rest d
