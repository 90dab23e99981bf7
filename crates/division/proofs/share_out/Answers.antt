-- `division::share_out` meets its contract: what is dealt out of the sum, or of 1 where it is 0, is the shares.
-- Assumes nothing.
use mathlib.Core.Path.{◌≡◌, ap, ◌∙◌, subst}
use Prim.Native.Nat.{ℕ, max}
use Rattle.division.specs.Limits.{size_refusal}
use Rattle.division.specs.Refused.{FineSize}
use Rattle.division.proofs.Handed.{sized, base_of, shared_out}
use Rattle.division.proofs.share_out.Goals as goal

-- the sizes are fine, of the sum and so of all weights
size_is : (pot : ℕ) {sum all : ℕ} → sum ≡ all → size_refusal pot sum ≡ 0 → FineSize pot all
size_is pot {all = all} e fine = sized pot all (subst (λ w. size_refusal pot w ≡ 0) e fine)

pub deal-requires-clause-base : goal.deal-requires-clause-base
deal-requires-clause-base c =
    base_of c.args.pot c.args.weights.now _ (size_is c.args.pot c.requires.sum_value.0 c.requires.sum_value.1) (c.max.ensures ∙ ap (λ w. max w 1) c.requires.sum_value.0)

pub returns : goal.returns
returns c =
    shared_out c.args.pot c.args.weights.now _
    (size_is c.args.pot c.requires.sum_value.0 c.requires.sum_value.1) (c.max.ensures ∙ ap (λ w. max w 1) c.requires.sum_value.0)
    c.requires.weights_len_bound.0 c.args.out.now _ c.deal.ensures
