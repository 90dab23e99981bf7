-- The paper's answer that a result stands for: "The answer is number, table, row", and "acceptance answers 0, 0, 0".
-- Assumes nothing.
use Rattle.std.specs.Prelude.{◌≡◌, ℕ, Result, Ok, Err}
use Rattle.answer.specs.declared.Refusal.{Refusal}
use Rattle.answer.specs.declared.Refused.{Refused}
use Rattle.answer.specs.declared.Answer.{Answer}
use Rattle.answer.specs.declared.Part.{Part}
use Rattle.answer.specs.Numbers.{refusal_number, part_number}
use Rattle.answer.specs.Turns.{accepted, refusal}

-- of a refused call
abbrev pub refused_answer : Refused → Answer
refused_answer r = refusal (refusal_number r.refusal) (part_number r.part) r.row

-- of any call
abbrev pub result_answer : {A : Type 0} → Result A Refused → Answer
result_answer (Ok x) = accepted
result_answer (Err r) = refused_answer r

-- the number alone, of a call whose refusals have no place: 0 where it is accepted
abbrev pub result_number : {A : Type 0} → Result A Refusal → ℕ
result_number (Ok x) = 0
result_number (Err r) = refusal_number r

-- a result says this number, or answers this
abbrev pub Says : {A : Type 0} → Result A Refusal → ℕ → Type 0
Says r number = result_number r ≡ number

abbrev pub Answers : {A : Type 0} → Result A Refused → Answer → Type 0
Answers r answer = result_answer r ≡ answer

-- an answer made of a refused call, and of any
abbrev pub GivesRefused : Refused → Answer → Type 0
GivesRefused r answer = answer ≡ refused_answer r

abbrev pub GivesAnswer : {A : Type 0} → Result A Refused → Answer → Type 0
GivesAnswer r answer = answer ≡ result_answer r

-- an outcome with a place for its refusal: what was found stays, and a refusal has its number there
abbrev pub place_result : {A : Type 0} → Result A Refusal → Part → ℕ → Result A Refused
place_result (Ok x) part row = Ok x
place_result (Err r) part row = Err (record { refusal = r; part = part; row = row })

abbrev pub Placed : {A : Type 0} → Result A Refusal → Part → ℕ → Result A Refused → Type 0
Placed outcome part row r = r ≡ place_result outcome part row
