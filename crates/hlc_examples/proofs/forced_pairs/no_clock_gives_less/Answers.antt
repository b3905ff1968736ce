use Rattle.hlc_causality.specs.Assignment.{pair_at}
use Rattle.hlc_examples.proofs.forced_pairs.no_clock_gives_less.Goals as goal

-- the event's own chain is a chain for its least pair, and so forces it
pub returns : goal.returns
returns c s least others f exists is_least allowed =
    let own = c.forced_chain.ensures.exists s least f exists in
    let chain = c.forced_chain.ensures.chain s least f own.0 is_least own.1 in
    (own.0, chain, c.chains_force.ensures s (pair_at least f) f own.0 chain others allowed)
