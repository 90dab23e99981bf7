-- The contracts determine the answers: two answers, and two final memories, that a call's contract allows are equal.
-- Assumes nothing.
use mathlib.Core.Path.{◌≡◌, sym, ◌∙◌}
use mathlib.Core.List.{List}
use Prim.Native.Nat.{ℕ}
use Rattle.host.specs.Calls.{HostDivided, host_verdict, HostStated}

pub noketualo_divide_unique : (pot : ℕ) (weights before after after' : List ℕ) (r r' : ℕ)
    → HostDivided pot weights before after r → HostDivided pot weights before after' r' → (r ≡ r') × (after ≡ after')
noketualo_divide_unique pot weights before after after' r r' d d' = (d.answer ∙ sym d'.answer, d.lent ∙ sym d'.lent)

pub noketualo_check_unique : (pot : ℕ) (weights amounts : List ℕ) (r r' : ℕ)
    → r ≡ host_verdict pot weights amounts → r' ≡ host_verdict pot weights amounts → r ≡ r'
noketualo_check_unique pot weights amounts r r' e e' = e ∙ sym e'

pub noketualo_statement_unique : (text before after after' : List ℕ) (r r' : ℕ)
    → HostStated text before after r → HostStated text before after' r' → (r ≡ r') × (after ≡ after')
noketualo_statement_unique text before after after' r r' s s' = (s.answer ∙ sym s'.answer, s.lent ∙ sym s'.lent)
