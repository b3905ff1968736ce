use Rattle.hlc_script_commands.proofs.drawn_script.draw_part.Goals as goal

pub returns-in-Rows-clause-drawn : goal.returns-in-Rows-clause-drawn
returns-in-Rows-clause-drawn g c = rw c.in-Rows.is c.draw_rows.ensures.drawn

pub returns-in-Rows-clause-there : goal.returns-in-Rows-clause-there
returns-in-Rows-clause-there g c = rw c.in-Rows.is c.draw_rows.ensures.there

pub returns-in-Rows-clause-told : goal.returns-in-Rows-clause-told
returns-in-Rows-clause-told g c = rw c.in-Rows.is c.draw_rows.ensures.told

pub returns-in-Chain-clause-drawn : goal.returns-in-Chain-clause-drawn
returns-in-Chain-clause-drawn g c = rw c.in-Chain.is c.draw_chain_of.ensures.drawn

pub returns-in-Chain-clause-there : goal.returns-in-Chain-clause-there
returns-in-Chain-clause-there g c = rw c.in-Chain.is c.draw_chain_of.ensures.there

pub returns-in-Chain-clause-told : goal.returns-in-Chain-clause-told
returns-in-Chain-clause-told g c = rw c.in-Chain.is c.draw_chain_of.ensures.told
