-- What a result stands for leaves no choice of the result: an answer is one result's alone, and acceptance is no refusal's.
-- Assumes nothing.
use Rattle.std.specs.Prelude.{◌≡◌, ◌≢◌, ℕ, zero, suc, Result, Ok, Err}
use Rattle.std.proofs.Common.{refl, sym, ap, ◌∙◌, arith}
use Rattle.answer.specs.declared.Refusal.{Refusal}
use Rattle.answer.specs.declared.Refusal.TheVariants.{Count, Room, Month, Range, Order, Link, Pair, Big, Base, Text}
use Rattle.answer.specs.declared.Part.{Part}
use Rattle.answer.specs.declared.Part.TheVariants.{Head, Zones, Owners, Units, Accounts, Loads, Reservations, Charges, Credits, Divisions, Firm}
use Rattle.answer.specs.declared.Refused.{Refused}
use Rattle.answer.specs.declared.Answer.{Answer}
use Rattle.answer.specs.Numbers.{refusal_number, part_number}
use Rattle.answer.specs.Turns.{refuse}
use Rattle.answer.specs.Results.{refused_answer, result_answer, result_number, Says, Answers, place_result, Placed}
use Rattle.answer.proofs.Turns.{refuse_none, refuse_some}

-- no refusal has the number of acceptance
pub refusal_number_some : (r : Refusal) → refusal_number r ≢ 0
refusal_number_some Count = λ e. omega (arith, e)
refusal_number_some Room = λ e. omega (arith, e)
refusal_number_some Month = λ e. omega (arith, e)
refusal_number_some Range = λ e. omega (arith, e)
refusal_number_some Order = λ e. omega (arith, e)
refusal_number_some Link = λ e. omega (arith, e)
refusal_number_some Pair = λ e. omega (arith, e)
refusal_number_some Big = λ e. omega (arith, e)
refusal_number_some Base = λ e. omega (arith, e)
refusal_number_some Text = λ e. omega (arith, e)

-- the refusal and the part that a number stands for; any other number stands for the last
refusal_of : ℕ → Refusal
refusal_of (suc zero) = Count
refusal_of (suc (suc zero)) = Room
refusal_of (suc (suc (suc zero))) = Month
refusal_of (suc (suc (suc (suc zero)))) = Range
refusal_of (suc (suc (suc (suc (suc zero))))) = Order
refusal_of (suc (suc (suc (suc (suc (suc zero)))))) = Link
refusal_of (suc (suc (suc (suc (suc (suc (suc zero))))))) = Pair
refusal_of (suc (suc (suc (suc (suc (suc (suc (suc zero)))))))) = Big
refusal_of (suc (suc (suc (suc (suc (suc (suc (suc (suc zero))))))))) = Base
refusal_of _ = Text

part_of : ℕ → Part
part_of zero = Head
part_of (suc zero) = Zones
part_of (suc (suc zero)) = Owners
part_of (suc (suc (suc zero))) = Units
part_of (suc (suc (suc (suc zero)))) = Accounts
part_of (suc (suc (suc (suc (suc zero))))) = Loads
part_of (suc (suc (suc (suc (suc (suc zero)))))) = Reservations
part_of (suc (suc (suc (suc (suc (suc (suc zero))))))) = Charges
part_of (suc (suc (suc (suc (suc (suc (suc (suc zero)))))))) = Credits
part_of (suc (suc (suc (suc (suc (suc (suc (suc (suc zero))))))))) = Divisions
part_of _ = Firm

refusal_back : (r : Refusal) → refusal_of (refusal_number r) ≡ r
unfolding refusal_of
refusal_back Count = refl
refusal_back Room = refl
refusal_back Month = refl
refusal_back Range = refl
refusal_back Order = refl
refusal_back Link = refl
refusal_back Pair = refl
refusal_back Big = refl
refusal_back Base = refl
refusal_back Text = refl

part_back : (p : Part) → part_of (part_number p) ≡ p
unfolding part_of
part_back Head = refl
part_back Zones = refl
part_back Owners = refl
part_back Units = refl
part_back Accounts = refl
part_back Loads = refl
part_back Reservations = refl
part_back Charges = refl
part_back Credits = refl
part_back Divisions = refl
part_back Firm = refl

pub refusal_by_number : (r s : Refusal) → refusal_number r ≡ refusal_number s → r ≡ s
refusal_by_number r s e = sym (refusal_back r) ∙ ap refusal_of e ∙ refusal_back s

pub part_by_number : (p q : Part) → part_number p ≡ part_number q → p ≡ q
part_by_number p q e = sym (part_back p) ∙ ap part_of e ∙ part_back q

pub refused_by_answer : (r s : Refused) → refused_answer r ≡ refused_answer s → r ≡ s
refused_by_answer r s e =
    let one : r.refusal ≡ s.refusal = refusal_by_number r.refusal s.refusal (ap (λ (a : Answer). a.number) e) in
    let two : r.part ≡ s.part = part_by_number r.part s.part (ap (λ (a : Answer). a.table) e) in
    let three : r.row ≡ s.row = ap (λ (a : Answer). a.row) e in
    let by_refusal : Refusal → Refused = λ x. record { refusal = x; part = r.part; row = r.row } in
    let by_part : Part → Refused = λ x. record { refusal = s.refusal; part = x; row = r.row } in
    let by_row : ℕ → Refused = λ x. record { refusal = s.refusal; part = s.part; row = x } in
    ap by_refusal one ∙ ap by_part two ∙ ap by_row three

-- one number, one result, of calls that hand over nothing
pub result_number_unique : (r s : Result (Unit {0}) Refusal) → result_number r ≡ result_number s → r ≡ s
result_number_unique (Ok x) (Ok y) e = refl
result_number_unique (Ok x) (Err s) e = absurd (refusal_number_some s (sym e))
result_number_unique (Err r) (Ok y) e = absurd (refusal_number_some r e)
result_number_unique (Err r) (Err s) e = ap Err (refusal_by_number r s e)

-- .. and one answer
pub result_answer_unique : (r s : Result (Unit {0}) Refused) → result_answer r ≡ result_answer s → r ≡ s
result_answer_unique (Ok x) (Ok y) e = refl
result_answer_unique (Ok x) (Err s) e = absurd (refusal_number_some s.refusal (ap (λ (a : Answer). a.number) (sym e)))
result_answer_unique (Err r) (Ok y) e = absurd (refusal_number_some r.refusal (ap (λ (a : Answer). a.number) e))
result_answer_unique (Err r) (Err s) e = ap Err (refused_by_answer r s e)

pub says_unique : (r s : Result (Unit {0}) Refusal) (n : ℕ) → Says r n → Says s n → r ≡ s
says_unique r s n e f = result_number_unique r s (e ∙ sym f)

pub answers_unique : (r s : Result (Unit {0}) Refused) (a : Answer) → Answers r a → Answers s a → r ≡ s
answers_unique r s a e f = result_answer_unique r s (e ∙ sym f)

-- a refusal at a place is the refused answer there
pub refuse_refused : (r : Refused) → refuse (refusal_number r.refusal) (part_number r.part) r.row ≡ refused_answer r
refuse_refused r = refuse_some (refusal_number r.refusal) (part_number r.part) r.row (refusal_number_some r.refusal)

-- the number of an answer is 0 where the call is accepted alone
pub refused_some : (r : Refused) → (refused_answer r).number ≢ 0
refused_some r = refusal_number_some r.refusal

-- an outcome with a place answers with its number at that place
pub placed_answer : {A : Type 0} → (outcome : Result A Refusal) (part : Part) (row : ℕ)
    → result_answer (place_result outcome part row) ≡ refuse (result_number outcome) (part_number part) row
placed_answer (Ok x) part row = sym (refuse_none 0 (part_number part) row refl)
placed_answer (Err r) part row = sym (refuse_some (refusal_number r) (part_number part) row (refusal_number_some r))

pub placed_unique : {A : Type 0} → (outcome : Result A Refusal) (part : Part) (row : ℕ) (r s : Result A Refused)
    → Placed outcome part row r → Placed outcome part row s → r ≡ s
placed_unique outcome part row r s e f = e ∙ sym f
