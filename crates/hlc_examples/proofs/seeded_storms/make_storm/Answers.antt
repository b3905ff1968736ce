use Rattle.std.proofs.Common.{◌*◌, ◌≤◌, ◌∙◌, ℕ, None, ap, arith}
use Rattle.hlc_core.specs.State.{new_state}
use Rattle.hlc_seeded.specs.Storm.{generator_of, word_at}
use Rattle.hlc_examples.proofs.seeded_storms.make_storm.Goals as goal

pub returns-clause-room : goal.returns-clause-room
returns-clause-room c = c.in_ok-cluster.ensures.1 ∙ ap (λ (nodes : ℕ). new_state c.args.nodes (nodes * c.args.steps) None) c.from.ensures

-- the cluster has room for all steps, and no limit
pub returns-clause-never_refused : goal.returns-clause-never_refused
returns-clause-never_refused c = λ before after node reading request s interleaved along.
    let made = c.in_ok-cluster.ensures in
    let room : c.args.nodes * c.args.steps ≤ c.from.result * c.args.steps = rw c.from.ensures (omega arith) in
    c.seeded_scripts_are_never_refused.ensures (word_at (generator_of c.args.seed)) c.args.nodes c.args.steps (c.from.result * c.args.steps)
    before after node reading request s made.0 room (rw c.in_ok-lists.ensures.scripts at interleaved) (rw made.1 at along)
