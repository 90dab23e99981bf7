-- Two results that the contract of `judge` allows are equal: each answer is one result's.
-- Assumes nothing.
use mathlib.Core.Path.{◌≡◌, sym, ap, ◌∙◌}
use Prim.Native.Nat.{ℕ}
use native.Mathlib.Omega.{arith}
use Rattle.std.specs.Prelude.{Result, Ok, Err}
use Rattle.answer.specs.declared.Answer.{Answer}
use Rattle.answer.specs.declared.Refused as refused
use Rattle.answer.specs.Results.{refused_answer}
use Rattle.answer.proofs.Results.{refused_by_answer}
use Rattle.month.specs.declared.Month.{Month}
use Rattle.tables.specs.declared.Head.{Head}
use Rattle.tables.specs.Shape.{Tables}
use Rattle.judgement.specs.Judgement.{Good, Refused, judged_from, Judges}

judged_apart : (m : Month) (a : Answer) → ¬ (Good m ≡ Refused a)
judged_apart m a e = let never : ◌≡◌ {A = ℕ} 0 1 = cc in omega arith

pub judged_by_result : (r s : Result Month refused.Refused) → judged_from r ≡ judged_from s → r ≡ s
judged_by_result (Ok m) (Ok n) e = let same : m ≡ n = cc in ap Ok same
judged_by_result (Ok m) (Err s) e = absurd (judged_apart m (refused_answer s) e)
judged_by_result (Err r) (Ok n) e = absurd (judged_apart n (refused_answer r) (sym e))
judged_by_result (Err r) (Err s) e = let same : refused_answer r ≡ refused_answer s = cc in ap Err (refused_by_answer r s same)

pub judge_unique : (head : Head) (t : Tables) (charges credits : ℕ) (r s : Result Month refused.Refused) → Judges head t charges credits r → Judges head t charges credits s → r ≡ s
judge_unique head t charges credits r s p q = judged_by_result r s (p ∙ sym q)
