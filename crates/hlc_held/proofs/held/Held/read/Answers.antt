use Rattle.std.proofs.Common.{◌∙◌, List, ap, arith, sym, subst, rules}
use Rattle.std.specs.Prelude.{option_map}
use Rattle.hlc_held.specs.declared.logged.Logged.{Logged}
use Rattle.hlc_held.specs.LogEntry.{DidLook, LogEntry, log_of, sight_of}
use Rattle.hlc_held.specs.Seats.{IsSeat, NodeLog, act_count, node_log, with_entry}
use Rattle.hlc_held.proofs.LogFacts.{act_count-more}
use Rattle.hlc_held.proofs.held.Held.read.Goals as goal

pub invariant_of-seat-2 : goal.invariant_of-seat-2
invariant_of-seat-2 g c =
    let entry = DidLook c.args.key.now (option_map sight_of c.in_ok-answer.answer) in
    let more =
    ap (λ (log : List LogEntry). act_count log) c.in_ok-log_look.ensures.logged ∙ act_count-more (log_of c.seat.inside.log.items) entry in
    record { node = c.seat.invariant.node; part = c.seat.invariant.part; counted = omega (arith, more, c.seat.invariant.counted) }

pub invariant_of-seat : goal.invariant_of-seat
invariant_of-seat g c =
    let share = c.seat.inside.share in
    subst (λ (log : List Logged). IsSeat g.L.Group.nodes share.parts share.amount (node_log c.seat.inside.node.0 (log_of log)))
    (sym {A = List Logged} c.in_err-log_look.ensures.unchanged)
    c.seat.invariant

pub returns-clause-logged : goal.returns-clause-logged
returns-clause-logged g c =
    ap (λ (log : List LogEntry). node_log c.seat.inside.node.0 log) c.in_ok-log_look.ensures.logged
    ∙ ap (λ (seat : NodeLog). with_entry seat (DidLook c.args.key.now (option_map sight_of c.in_ok-answer.answer))) c.seat.view_is

pub returns-clause-answer : goal.returns-clause-answer
returns-clause-answer g c = search rules
