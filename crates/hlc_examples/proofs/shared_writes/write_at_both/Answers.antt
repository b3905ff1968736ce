use Rattle.std.proofs.Common.{◌≡◌, ◌∷◌, [], ℕ, List, arith, rules, subst, sym}
use Rattle.std.proofs.lemmas.Grind.{common_steps}
use Rattle.hlc_arena.specs.History.{StampedEvent, Written, event_at}
use Rattle.hlc_held.specs.Agreement.{Agrees, places_of_node}
use Rattle.hlc_held.specs.LogEntry.{LogEntry}
use Rattle.hlc_examples.proofs.OneEntry.{below_two, one_write}
use Rattle.hlc_examples.proofs.shared_writes.write_at_both.Goals as goal

-- the group has two nodes, and the logs that are given back are those of the seats
pub returns-clause-agree : goal.returns-clause-agree
returns-clause-agree g c = λ node lt.
    let closed = c.in_ok-close.ensures in
    let both = c.requires.nodes.1 in
    let two = c.requires.nodes.2 in
    subst (λ (log : List LogEntry). Agrees c.in_ok-close.field-0.history.events node log) (sym (closed.logs node))
    (closed.agree node (omega arith))

-- each seat's log is of its write
pub returns-clause-written : goal.returns-clause-written
returns-clause-written g c =
    let events : List StampedEvent = c.in_ok-close.field-0.history.events in
    let closed = c.in_ok-close.ensures in
    let both = c.requires.nodes.1 in
    let two = c.requires.nodes.2 in
    let key = c.args.key.now in
    let value = c.args.value.now in
    let first = c.in_ok-act.field-0 in
    let second = c.in_ok-act-2.field-0 in
    below_two (λ n. (e : ℕ) × (places_of_node events n ≡ e ∷ []) × ((event_at events e).kind ≡ Written key value))
    (one_write events 0 10 key value first.event.0 first.stamp _ (first_of (search rules, grind (arith, common_steps))) (closed.agree 0 (omega arith)))
    (one_write events 1 10 key value second.event.0 second.stamp _ (first_of (search rules, grind (arith, common_steps))) (closed.agree 1 (omega arith)))
