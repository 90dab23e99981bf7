-- `text::line::key_at` meets its contract.
-- Assumes nothing.
use mathlib.Core.Path.{◌≡◌, sym, ap, ◌∙◌}
use mathlib.Core.Bool.{true}
use mathlib.Core.List.{List, ◌++◌}
use Prim.Native.Nat.{ℕ, ◌+◌}
use native.Mathlib.Omega.{arith}
use denote.Ref.{Bor}
use lib.Dec.{eqb}
use lib.ListN.{length, take, drop, length-drop}
use lib.Seq.{take-length}
use Rattle.std.specs.Prelude.{None, Some}
use Rattle.std.specs.List.{slice_range}
use Rattle.std.specs.Cmp.Lexicographic.{pointwise}
use Rattle.std.proofs.lemmas.Slice.Eq.{strip_prefix_is}
use Rattle.std.proofs.lemmas.Bool.Decides.{Decides-eqb}
use Rattle.text.proofs.Places.{drop_end, key_nothing, key_other, key_cut, key_open, key_there, behind_key}
use Rattle.text.proofs.line.key_at.Goals as goal

-- the rest of a text, cut to its end
rest_is : (s got : List ℕ) (i : ℕ) → got ≡ slice_range s i (length s) → got ≡ drop i s
rest_is s got i e = e ∙ ap (λ k. take k (drop i s)) (sym (length-drop i s)) ∙ take-length (drop i s)

front_is : (key s got : List ℕ) (i : ℕ) (behind : Bor (List ℕ)) → got ≡ slice_range s i (length s)
    → (pointwise eqb (take (length key) got) key ≡ true) × (behind.now ≡ drop (length key) got) × (length behind.now + length key ≡ length got)
    → drop i s ≡ key ++ behind.now
front_is key s got i behind e h = sym (rest_is s got i e) ∙ strip_prefix_is Decides-eqb got key (Some behind) h

pub returns-in_err-get : goal.returns-in_err-get
returns-in_err-get c =
    let a = c.args in
    rw (c.from_residual.ensures, drop_end a.text.now a.at (omega (arith, c.in_err-get.ensures))) (key_nothing a.key.now)

pub returns-in_err-behind : goal.returns-in_err-behind
returns-in_err-behind c =
    let a = c.args in
    rw (c.from_residual-in_err-behind.ensures, sym (rest_is a.text.now _ a.at c.in_ok-get.ensures.lookup.0.2))
    (λ go. key_other a.key.now _ go (strip_prefix_is Decides-eqb _ a.key.now None c.in_err-behind.ensures.cases))

pub returns-in_err-first : goal.returns-in_err-first
returns-in_err-first c =
    let a = c.args in
    let b = c.in_ok-behind.behind in
    rw c.from_residual-in_err-first.ensures
    (λ go. key_cut a.key.now go _ b.now (front_is a.key.now a.text.now _ a.at b c.in_ok-get.ensures.lookup.0.2 c.in_ok-behind.ensures.cases)
    (drop_end b.now 0 c.in_err-first.ensures.item.3))

pub returns-then-branch-ne-EQUALS : goal.returns-then-branch-ne-EQUALS
returns-then-branch-ne-EQUALS c go =
    let a = c.args in
    let b = c.in_ok-behind.behind in
    let byte = c.in_ok-first.ensures.item.3 in
    key_open a.key.now go _ b.now (front_is a.key.now a.text.now _ a.at b c.in_ok-get.ensures.lookup.0.2 c.in_ok-behind.ensures.cases)
    byte.0 (λ e. c.if-branch-ne-EQUALS.true (byte.1 0 ∙ e))

pub returns : goal.returns
returns c =
    let a = c.args in
    let b = c.in_ok-behind.behind in
    let byte = c.in_ok-first.ensures.item.3 in
    let front = front_is a.key.now a.text.now _ a.at b c.in_ok-get.ensures.lookup.0.2 c.in_ok-behind.ensures.cases in (
      omega (arith, byte.0, c.in_ok-behind.ensures.cases.2, c.in_ok-get.ensures.lookup.0.3),
      (λ go. key_there a.key.now go _ b.now front byte.0 (sym (byte.1 0) ∙ c.if-branch-ne-EQUALS.false)
          ∙ ap go (sym (behind_key a.key.now a.text.now b.now a.at front))),
    )
