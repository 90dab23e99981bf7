-- `host::divide` meets its contract: lengths that a call does not take are COUNT; else the numbers loaded are the weights', and what
-- is stored is the bytes of the shares.
-- Assumes nothing.
use Rattle.std.proofs.lemmas.Result.{err_from_is_err_and}
use mathlib.Core.Path.{◌≡◌, refl, sym, ap, ◌∙◌, subst}
use mathlib.Core.List.{List, ◌++◌}
use Prim.Native.Nat.{ℕ, ◌*◌, ◌/◌, min}
use native.Mathlib.Omega.{arith}
use lib.Seq.{length-take-le}
use native.Mathlib.Nat.{le_of_eq, le_trans}
use lib.ListN.{length, take, drop}
use Rattle.division.specs.Shares.{shares, Divided}
use Rattle.division.proofs.Laws.{length_shares}
use Rattle.answer.proofs.Results.{refusal_number_some}
use Rattle.words.specs.Words.{numbers, bytes_of}
use Rattle.words.proofs.Digits.{length_numbers}
use Rattle.host.proofs.Calls.{loaded_numbers, refused, number_is, fits, shares_first, divided, divide_count}
use Rattle.host.proofs.divide.Goals as goal

-- the division of what was loaded is that of the weights' numbers
made : (pot : ℕ) (weights behind : List ℕ) {loaded : List ℕ} (count : ℕ) (room out : List ℕ) (r : ℕ) → loaded ≡ numbers weights ++ behind
    → count ≡ length weights / 8 → Divided pot (take count loaded) room out r → Divided pot (numbers weights) room out r
made pot weights behind count room out r e counted division =
    subst (λ l. Divided pot l room out r) (loaded_numbers weights behind count e (sym counted)) division

-- the room is no longer than the words that are lent for it
room_long : (pot : ℕ) (l words out : List ℕ) (r room places : ℕ) → room ≡ min places 64 → Divided pot l (take room words) out r → length words ≡ 64
    → length (take room words) ≡ room
room_long pot l words out r room places e division lent = length-take-le room words (omega arith)

-- the first of what was divided are the shares
first_are : (weights l : List ℕ) {shared : List ℕ} (count : ℕ) → count ≡ length weights / 8 → take (length weights / 8) l ≡ shared
    → take count l ≡ shared
first_are weights l count counted e = ap (λ n. take n l) counted ∙ e

-- there are as many shares as weights
shares_long : (pot : ℕ) (weights : List ℕ) {l : List ℕ} → l ≡ shares pot (numbers weights) → length l ≡ length weights / 8
shares_long pot weights e = ap length e ∙ length_shares pot (numbers weights) ∙ length_numbers weights

pub returns-in_err-count : goal.returns-in_err-count
returns-in_err-count c =
    let p = err_from_is_err_and c.from_residual.result c.from_residual.ensures.1 in
    rw (p.1, p.2, c.in_err-count.ensures.0)
    (divide_count c.args.pot c.args.weights.now c.args.amounts.now c.in_err-count.ensures.1)

pub returns-in_err-divide : goal.returns-in_err-divide
returns-in_err-divide c =
    let division = made _ _ _ _ _ _ _ c.load.ensures c.in_ok-count.ensures.1 c.in_err-divide.ensures in
    let long = room_long _ _ _ _ _ _ _ c.min-room.ensures division refl in
    let p = err_from_is_err_and c.from_residual-in_err-divide.result c.from_residual-in_err-divide.ensures.1 in
    rw (p.1, p.2)
    (refused c.args.pot c.args.weights.now c.args.amounts.now _
    (number_is _ _ _ c.in_ok-count.ensures.0 c.in_ok-count.ensures.2 _ c.min-room.ensures _ _ long _ division)
    (refusal_number_some _))

pub store-requires : goal.store-requires
store-requires c =
    let division = made _ _ _ _ _ _ _ c.load.ensures c.in_ok-count.ensures.1 c.in_ok-divide.ensures in
    let long = room_long _ _ _ _ _ _ _ c.min-room.ensures division refl in
    let first = first_are c.args.weights.now _ _ c.in_ok-count.ensures.1 (shares_first _ _ _ c.in_ok-count.ensures.0 c.in_ok-count.ensures.2 _ c.min-room.ensures _ _ long _ division refl _) in
    le_trans
    (le_of_eq (ap (λ n. 8 * n) (shares_long c.args.pot c.args.weights.now first)))
    (fits _ _ _ c.in_ok-count.ensures.0 c.in_ok-count.ensures.2 _ c.min-room.ensures _ _ long _ division refl)

pub returns : goal.returns
returns c =
    let division = made _ _ _ _ _ _ _ c.load.ensures c.in_ok-count.ensures.1 c.in_ok-divide.ensures in
    let long = room_long _ _ _ _ _ _ _ c.min-room.ensures division refl in
    let first = first_are c.args.weights.now _ _ c.in_ok-count.ensures.1 (shares_first _ _ _ c.in_ok-count.ensures.0 c.in_ok-count.ensures.2 _ c.min-room.ensures _ _ long _ division refl _) in
    divided _ _ _ c.in_ok-count.ensures.0 c.in_ok-count.ensures.2 _ c.min-room.ensures _ _ long _ division refl
    c.store.new.lent
    (c.store.ensures
    ∙ ap (λ l. bytes_of l ++ drop (8 * length l) c.args.amounts.now) first)
