-- Case S of the paper whole: the file's bytes, and the statement's, computed from the definitions.
-- Assumes nothing.
use mathlib.Core.Path.{◌≡◌, refl}
use mathlib.Core.List.{List}
use Prim.Native.Nat.{ℕ}
use Rattle.lists.specs.Sums.{sum_to, sum_where, largest_first, every, any}
use Rattle.lists.specs.Entries.{listed, put}
use Rattle.answer.specs.Turns.{◌then◌, refuse, turns, first}
use Rattle.division.specs.Limits.{size_refusal}
use Rattle.division.specs.Shares.{quotient, remainder, leftover, comes_before, gets_cent, share, shares}
use Rattle.groups.specs.Groups as groups
use Rattle.service.specs.Service as service
use Rattle.service.specs.Turn as turn
use Rattle.month.specs.Months.{is_month, through, twelfth}
use Rattle.month.specs.Quantities as month
use Rattle.rows.specs.Rows as rows
use Rattle.tables.specs.Counts as counts
use Rattle.judgement.specs.Judgement as judgement
use Rattle.text.specs.Bytes.{bytes}
use Rattle.text.specs.Numbers.{is_digit, digits_on, first_number, digits, decimal}
use Rattle.text.specs.Lines.{past, field, fields, line, fields_text, line_text}
use Rattle.fileform.specs.Reading as reading
use Rattle.fileform.specs.Writing.{rows_text}
use Rattle.pool.specs.Accounts.{contributions, network_use, energy_use}
use Rattle.pool.specs.Network as network
use Rattle.pool.specs.Services as services
use Rattle.firm.specs.Weeks.{week_of, highest}
use Rattle.firm.specs.Firm as firm
use Rattle.settlement.specs.Settled.{network_in_turn, divisions_in_turn, answer_of, charge_of, credit_of, charge_words, credit_words}
use Rattle.statement_lines.specs.Lines.{rows_with, lines_text, refuse_line}
use Rattle.statement_text.specs.Statement.{all_charges, all_credits, statement_lines, settled_answer, settled_text, statement_of}

abbrev pub case_file : List ℕ
case_file = bytes "month=4\ndays=30\nnonzone=0\ndaily=0\nweekly=0\nmonthly=0\nweekday=1\nzone=1,365000\nowner=1,1,200\nowner=2,1,100\nunit=1,2,1,1,12000,0\naccount=1,70,1\naccount=2,71,0\nload=1,1,10\nload=1,2,10\nptp=2,480,0\nend=9\n"

abbrev pub case_statement : List ℕ
case_statement = bytes "charge=1,2000,500,0,0\ncharge=2,0,500,0,0\ncredit=1,1333,0,0,0,0\ncredit=2,667,0,1000,0,0\ntotal=3000,3000\n"

pub case_s_lem : statement_of case_file ≡ case_statement
unfolding sum_to sum_where largest_first every listed put refuse ◌then◌ first size_refusal quotient remainder leftover comes_before gets_cent share shares turns groups.among groups.weights_in groups.amount groups.amount_in_all groups.group_refusal groups.groups_in_turn service.zone_use service.nonzone_use service.both_uses service.zone_side service.nonzone_side service.zone_share service.nonzone_pot service.nonzone_parts service.nonzone_share service.account_charge turn.split_refusal turn.share_refusal turn.nonzone_refusal turn.zone_turn turn.service_in_turn is_month through twelfth month.use_of month.nearest month.charge_at_rate any rows.row_number rows.not_above rows.above rows.unknown rows.taken rows.zone_outside rows.row_of rows.owner_outside rows.unit_outside rows.account_outside rows.load_outside rows.reservation_outside rows.firm_outside week_of highest firm.cost_at firm.cost_of_week firm.is_in_week firm.is_alone firm.added_in firm.highest_in firm.week_cost firm.row_cost firm.firm_cost firm.firm_charge firm.firm_pot firm.firm_credit firm.firm_refusal counts.tables_in_turn counts.counted counts.counts_in_turn counts.room_for judgement.head_outside judgement.head_looked judgement.rows_judged judgement.judged contributions network_use energy_use network.rate_of network.rate network.network_charge network.charges_in network.requirements network.network_credit network.nonzone_credit network.network_nonzone_refusal services.unit_credit services.credit_in services.service_credit services.zone_credits services.zone_part services.nonzone_part services.service_charge network_in_turn divisions_in_turn answer_of charge_of credit_of charge_words credit_words is_digit digits_on first_number past field fields line digits decimal fields_text line_text reading.row_lines reading.head_lines reading.table_lines reading.rows_in_all reading.ending reading.reading rows_text rows_with lines_text all_charges all_credits statement_lines settled_answer refuse_line settled_text statement_of
case_s_lem = refl
