-- `host::check` meets its contract: lengths that a call does not take are COUNT, and so are unlike numbers; else the numbers loaded
-- are checked.
-- Assumes nothing.
use mathlib.Core.Path.{◌≡◌, sym, ap, ap₂, ◌∙◌}
use mathlib.Core.List.{List, ◌++◌}
use Prim.Native.Nat.{ℕ, ◌/◌}
use lib.ListN.{length, take}
use Rattle.std.specs.Prelude.{Bool, Result}
use Rattle.std.proofs.lemmas.Result.{err_from_is_err_and}
use Rattle.answer.specs.declared.Refusal.{Refusal}
use Rattle.verdict.specs.Check.{verdict, verdict_of, Checked}
use Rattle.words.specs.Words.{numbers}
use Rattle.host.proofs.Calls.{loaded_numbers, said, check_count, check_unlike}
use Rattle.host.proofs.check.Goals as goal

-- the verdict on what was loaded is that on the numbers
on_numbers : (pot : ℕ) (weights amounts behind behind' : List ℕ) {loaded handed : List ℕ} (count : ℕ) (r : Result Bool Refusal)
    → loaded ≡ numbers weights ++ behind → handed ≡ numbers amounts ++ behind' → count ≡ length weights / 8 → length amounts ≡ length weights
    → Checked pot (take count loaded) (take count handed) r → verdict_of r ≡ verdict pot (numbers weights) (numbers amounts)
on_numbers pot weights amounts behind behind' count r e f counted alike judged =
    judged
    ∙ ap₂ (verdict pot) (loaded_numbers weights behind count e (sym counted))
    (loaded_numbers amounts behind' count f (ap (λ n. n / 8) alike ∙ sym counted))

pub returns-in_err-count : goal.returns-in_err-count
returns-in_err-count c =
    let p = err_from_is_err_and c.from_residual.result c.from_residual.ensures.1 in
    rw (p.1, p.2, c.in_err-count.ensures.0)
    (check_count c.args.pot c.args.weights.now c.args.amounts.now c.in_err-count.ensures.1)

pub returns-then-amounts-weights : goal.returns-then-amounts-weights
returns-then-amounts-weights c =
    check_unlike c.args.pot c.args.weights.now c.args.amounts.now c.in_ok-count.ensures.0 c.in_ok-count.ensures.2 c.if-amounts-weights.true

pub returns : goal.returns
returns c =
    said c.args.pot c.args.weights.now c.args.amounts.now c.in_ok-count.ensures.0 (verdict_of c.check.result)
    (on_numbers c.args.pot c.args.weights.now c.args.amounts.now _ _ c.in_ok-count.count c.check.result c.load.ensures c.load-2.ensures
    c.in_ok-count.ensures.1 c.if-amounts-weights.false c.check.ensures)
