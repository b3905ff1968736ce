use Rattle.std.proofs.Common.{◌≡◌, ℕ, arith, subst, ◌∙◌}
use Rattle.std.specs.Prelude.{slice_index_or, slice_set}
use Rattle.std.proofs.lemmas.List.{length-map, length-set}
use Rattle.hlc_stamp.specs.Ids.{places_of}
use Rattle.hlc_stamp.specs.declared.id.EventId.{EventId}
use Rattle.hlc_log.specs.CausalOrder.{place_at}
use Rattle.hlc_ordered_log.proofs.Ordering.{place_here, positions_push}
use Rattle.hlc_ordered_log.proofs.ordered_log.positions_in.Goals as goal

pub index_mut-requires : goal.index_mut-requires
index_mut-requires c =
    let order = c.args.order.now in
    let k = c.loop-position.position in
    let size = length-map order (λ (id : EventId). id.0) in
    let within = c.loop-position-test.true in
    let small = c.requires.exist k (omega arith) in
    let here = place_here order k within in
    let len = c.loop-position.invariant.one_each in
    omega arith

pub loop-position-preserved : goal.loop-position-preserved
loop-position-preserved c =
    let order = c.args.order.now in
    let k = c.loop-position.position in
    let h = c.loop-position.invariant in
    let size = length-map order (λ (id : EventId). id.0) in
    let within = c.loop-position-test.true in
    let here = place_here order k within in
    let small = c.requires.exist k (omega arith) in
    let len = h.one_each in
    let more = positions_push (places_of order) c.loop-position.positions.items k c.requires.differ (omega arith) (omega arith) h.each in
    let place = (slice_index_or order k (record { 0 = 0 })).0 in
    record {
      one_each = length-set c.loop-position.positions.items place (record { 0 = k }) ∙ len;
      each = λ j lt.
          subst (λ (e : ℕ). (slice_index_or (slice_set c.loop-position.positions.items e (record { 0 = k })) (place_at (places_of order) j) (record { 0 = 0 })).0 ≡ j)
          here (more j lt);
    }

pub returns : goal.returns
returns c =
    let order = c.args.order.now in
    let size = length-map order (λ (id : EventId). id.0) in
    let last = c.loop-position-test.false in
    record {
      one_each = c.loop-position.invariant.one_each;
      each = λ k lt. c.loop-position.invariant.each k (omega arith);
    }
