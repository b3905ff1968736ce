use Rattle.std.proofs.Common.{◌≡◌, ◌∙◌, List, [], ap, arith, refl, sym}
use Rattle.std.proofs.lemmas.List.FromFn.{map-range_with_len_more}
use Rattle.std.proofs.lemmas.Result.{err_from_is_err_and}
use Rattle.hlc_held.specs.LogEntry.{log_of}
use Rattle.hlc_held.specs.declared.logged.Logged.{Logged}
use Rattle.hlc_held.specs.Seats.{act_count, fresh_seats, node_log}
use Rattle.hlc_held.proofs.seat.seats_for.Goals as goal

pub loop-node-preserved : goal.loop-node-preserved
loop-node-preserved g c = (
  omega arith,
  omega arith,
  c.push_reserved.ensures.items
      ∙ (rw (c.new.ensures.items, c.loop-node.invariant.2) (sym (map-range_with_len_more (λ n. node_log n []) 0 c.loop-node.node c.loop-node.node (omega arith)))),
  omega arith,
  c.push_reserved.ensures.capacity ∙ c.loop-node.invariant.4,
)

pub loop-node-init : goal.loop-node-init
loop-node-init g c = (omega (arith, c.requires.parts), c.requires.nothing_counted, c.in_ok-seats.ensures.items, c.in_ok-seats.ensures.len, c.in_ok-seats.ensures.exact)

pub split_off-share-requires : goal.split_off-share-requires
split_off-share-requires g c =
    let h = c.loop-node.invariant in
    record { has_parts = omega (arith, h.0, c.loop-node-test.true); has_amount = omega arith; left_backed = λ last. sym h.1; given_backed = λ none. refl }

pub invariant_of-push_reserved : goal.invariant_of-push_reserved
invariant_of-push_reserved g c =
    let share = c.split_off-share.ensures in
    record {
      node = omega (arith, c.loop-node-test.true, c.requires.nodes);
      part = share.parts;
      counted = share.amount ∙ sym (ap (λ (log : List Logged). act_count (log_of log)) c.new.ensures.items);
    }

pub returns-clause-seats : goal.returns-clause-seats
returns-clause-seats g c =
    let all : c.loop-node.node ≡ c.args.nodes = omega (arith, c.loop-node-test.false, c.loop-node.auto.node-end) in
    c.loop-node.invariant.2 ∙ ap fresh_seats all

pub returns-clause-parts : goal.returns-clause-parts
returns-clause-parts g c = let parts = c.loop-node.invariant.0 in omega (arith, parts, c.loop-node-test.false, c.loop-node.auto.node-end)

pub returns-in_err-seats : goal.returns-in_err-seats
returns-in_err-seats g c = rw (err_from_is_err_and c.from_residual.result c.from_residual.ensures.1).1 record { seats = tt; parts = tt; nothing_counted = tt }
