use Rattle.hlc_log_commands.proofs.drawn_log.draw_part.Goals as goal

pub returns-in-Rows-clause-done : goal.returns-in-Rows-clause-done
returns-in-Rows-clause-done g c = rw c.in-Rows.is c.draw_rows.ensures.done

pub returns-in-Rows-clause-without : goal.returns-in-Rows-clause-without
returns-in-Rows-clause-without g c = rw c.in-Rows.is c.draw_rows.ensures.without

pub returns-in-Chain-clause-done : goal.returns-in-Chain-clause-done
returns-in-Chain-clause-done g c = rw c.in-Chain.is c.draw_chain_of.ensures.done

pub returns-in-Chain-clause-without : goal.returns-in-Chain-clause-without
returns-in-Chain-clause-without g c = rw c.in-Chain.is c.draw_chain_of.ensures.without
