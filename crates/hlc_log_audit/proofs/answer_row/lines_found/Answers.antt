use Rattle.hlc_log_audit.proofs.answer_row.lines_found.Goals as goal

pub returns-then-is_set : goal.returns-then-is_set
returns-then-is_set c = rw c.if-is_set.true c.rising_lines_of.ensures

pub returns : goal.returns
returns c = rw c.if-is_set.false c.lines_of.ensures
