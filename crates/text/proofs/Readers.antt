-- Steps of a reader: a line ends behind its beginning, and what a step reaches is what the scanner answers.
-- Assumes nothing.
use mathlib.Core.Path.{◌≡◌, refl, ap, ◌∙◌}
use mathlib.Core.List.{List}
use Prim.Native.Nat.{ℕ, ◌+◌, ◌-◌, ◌≤◌, ◌<◌}
use Rattle.std.specs.Prelude.{Option, None, Some}
use Rattle.std.specs.Option.{unwrap_or}
use native.Mathlib.Omega.{arith}
use lib.ListN.{length, drop, length-drop, length-append}
use Rattle.text.specs.Numbers.{found}
use Rattle.text.specs.Lines.{line, line_text, fields_text}
use Rattle.text.specs.Places.{LineAt, EndAt}
use Rattle.text.proofs.Lines.{Line, line_back}
use Rattle.text.proofs.Pieces.{length_key}

-- a line has bytes, so that it ends behind its beginning
pub line_onward : (key : List ℕ) (width : ℕ) (s : List ℕ) (i n : ℕ) (ns : List ℕ) → n ≤ length s
    → line key width (drop i s) ≡ found ns (drop n s) → i < n
line_onward key width s i n ns h e =
    let back : Line key width (drop i s) ns (drop n s) = line_back key width (drop i s) ns (drop n s) e in
    let whole : length (drop i s) ≡ length (line_text key ns) + length (drop n s) =
    ap length back.written ∙ length-append (line_text key ns) (drop n s) in
    let size : length (line_text key ns) ≡ length key + 1 + length (fields_text ns) = length_key key ns in
    let from : length (drop i s) ≡ length s - i = length-drop i s in
    let rest : length (drop n s) ≡ length s - n = length-drop n s in
    omega arith

-- the end of a line is the scanner's answer, or where the line was looked for
pub end_is : (key : List ℕ) (width : ℕ) (s : List ℕ) (i : ℕ) (r : Option ℕ) → LineAt s (line key width (drop i s)) r
    → EndAt s i (line key width (drop i s)) (unwrap_or r i)
end_is key width s i None a =
    record { onward = omega arith; inside = λ d. absurd (d refl); fits = λ d. absurd (d refl); unfit = λ e. a }
end_is key width s i (Some n) (h, (ns, e)) =
    let behind : i < n = line_onward key width s i n ns h e in
    record {
      onward = omega arith;
      inside = λ d. h;
      fits = λ d. (ns, e);
      unfit = λ q. absurd (let q : n ≡ i = q in omega arith);
    }
