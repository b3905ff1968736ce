use Rattle.std.proofs.Common.{◌≡◌, ◌<◌, length, arith}
use Rattle.hlc_explain.proofs.KeptCounts.{all_kept, row_within}
use Rattle.hlc_explain.proofs.counting.vectors.Goals as goal

pub push_vector-requires-clause-room : goal.push_vector-requires-clause-room
push_vector-requires-clause-room c =
    let x = c.args.execution.now in
    let exists : c.loop-place.place < length x.events = omega (arith, c.loop-place-test.true, c.len-events.ensures.value) in
    let row = row_within c.loop-place.place (length x.events) x.nodes exists in
    let room = c.loop-place.invariant.capacity in
    omega arith

pub returns : goal.returns
returns c =
    let h = c.loop-place.invariant in
    let s = c.args.execution.now.events in
    let end : c.loop-place.place ≡ length s = omega (arith, c.loop-place-test.false, c.loop-place.auto.place-end, c.len-events.ensures.value) in
    all_kept s c.args.execution.now.nodes c.nodes-nodes.result c.len-events.result c.loop-place.place c.loop-place.counts.items
    c.nodes-nodes.ensures c.len-events.ensures.value end h.len h.counts
