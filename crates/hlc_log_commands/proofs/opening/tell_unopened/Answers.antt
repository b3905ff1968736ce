use Rattle.hlc_log_commands.proofs.opening.tell_unopened.Goals as goal

pub returns-in-Ok-clause-told : goal.returns-in-Ok-clause-told
returns-in-Ok-clause-told g c = λ rules input explained _. (c.in-Bad.bad, rw c.in-Bad.is at explained, c.in-Ok.ensures)
