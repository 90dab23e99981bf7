-- The starred figures of the paper, one row each: what the definitions must give.
-- Assumes nothing.
use Rattle.std.specs.Prelude.{◌≡◌, [], ◌∷◌}
use Rattle.answer.specs.Numbers.{BASE}
use Rattle.division.specs.Limits.{divide_refusal}
use Rattle.division.specs.Shares.{memory}
use Rattle.verdict.specs.Check.{verdict, yes, no, meaning}
use Rattle.month.specs.Quantities.{charge_at_rate}
use Rattle.month.specs.Months.{twelfth}
use Rattle.text.specs.Bytes.{bytes}
use Rattle.statement_text.specs.Statement.{statement_of}

pub record Starred : Type 0 where
  -- what a division leaves in lent words that were all 7, one more than it needs: a refusal would leave them
  -- 100 by 1, 1, 1 and by 1, 2, 4
  pub D1 : memory 100 (1 ∷ 1 ∷ 1 ∷ []) (7 ∷ 7 ∷ 7 ∷ 7 ∷ []) ≡ 34 ∷ 33 ∷ 33 ∷ 7 ∷ []
  pub D2 : memory 100 (1 ∷ 2 ∷ 4 ∷ []) (7 ∷ 7 ∷ 7 ∷ 7 ∷ []) ≡ 14 ∷ 29 ∷ 57 ∷ 7 ∷ []
  -- 2 by 1, 1, 1, 1: the tie goes to the lower positions
  pub D3 : memory 2 (1 ∷ 1 ∷ 1 ∷ 1 ∷ []) (7 ∷ 7 ∷ 7 ∷ 7 ∷ 7 ∷ []) ≡ 1 ∷ 1 ∷ 0 ∷ 0 ∷ 7 ∷ []
  pub D4 : memory 5 (0 ∷ 7 ∷ []) (7 ∷ 7 ∷ 7 ∷ []) ≡ 0 ∷ 5 ∷ 7 ∷ []
  -- 1 by 0, 0 has no base; 0 by 0, 0 is divided
  pub D5 : divide_refusal 1 (0 ∷ 0 ∷ []) 2 ≡ BASE
  pub D6 : memory 0 (0 ∷ 0 ∷ []) (7 ∷ 7 ∷ 7 ∷ []) ≡ 0 ∷ 0 ∷ 7 ∷ []
  -- 0 by nothing is accepted, 1 by nothing has no base
  pub D7 : divide_refusal 0 [] 0 ≡ 0
  pub D7_baseless : divide_refusal 1 [] 0 ≡ BASE
  -- of 2 by 1, 1, 1, 1 a closest list that ties with ours passes, and one that is further off does not; nor does 15, 28, 57 of 100 by 1, 2, 4
  pub C1 : (meaning (verdict 2 (1 ∷ 1 ∷ 1 ∷ 1 ∷ []) (0 ∷ 1 ∷ 0 ∷ 1 ∷ []))).says ≡ yes
  pub C1_other : (meaning (verdict 2 (1 ∷ 1 ∷ 1 ∷ 1 ∷ []) (2 ∷ 0 ∷ 0 ∷ 0 ∷ []))).says ≡ no
  pub C2 : (meaning (verdict 100 (1 ∷ 2 ∷ 4 ∷ []) (15 ∷ 28 ∷ 57 ∷ []))).says ≡ no
  -- 3,000 tenths in the month at 1,471,400
  pub N1 : charge_at_rate 3_000 1_471_400 ≡ 1_209_370
  -- annual 100: months 1, 2, 3
  pub M1 : twelfth 1 100 ∷ twelfth 2 100 ∷ twelfth 3 100 ∷ [] ≡ 8 ∷ 8 ∷ 9 ∷ []
  -- case S whole, bytes in and bytes out
  pub S :
      statement_of (bytes "month=4\ndays=30\nnonzone=0\ndaily=0\nweekly=0\nmonthly=0\nweekday=1\nzone=1,365000\nowner=1,1,200\nowner=2,1,100\nunit=1,2,1,1,12000,0\naccount=1,70,1\naccount=2,71,0\nload=1,1,10\nload=1,2,10\nptp=2,480,0\nend=9\n")
      ≡ bytes "charge=1,2000,500,0,0\ncharge=2,0,500,0,0\ncredit=1,1333,0,0,0,0\ncredit=2,667,0,1000,0,0\ntotal=3000,3000\n"
