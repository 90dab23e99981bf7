-- The contract determines the answer: two answers, and two final columns, that the contract of `charge` allows are equal.
-- Assumes nothing.
use mathlib.Core.Path.{◌≡◌}
use mathlib.Core.List.{List}
use Prim.Native.Nat.{ℕ}
use Rattle.answer.specs.declared.Answer.{Answer}
use Rattle.groups.proofs.Unique.{column_written_unique}
use Rattle.service.specs.Service.{Service, account_charge}
use Rattle.service.specs.Turn.{service_in_turn, Served}

pub charge_unique : (s : Service) (place : ℕ) (before after after' : List ℕ) (r r' : Answer)
    → Served s place before after r → Served s place before after' r' → (r ≡ r') × (after ≡ after')
charge_unique s place = column_written_unique s.accounts (account_charge s) (service_in_turn s place)
