use Rattle.std.proofs.Common.{◌∙◌, ◌<◌, ◌++◌, List, None, ap, append-nil, arith, length, sym}
use Rattle.std.proofs.Math.ListN.{drop_of_length-le}
use Rattle.std.proofs.lemmas.Result.{err_from_is_err_and}
use Rattle.hlc_stamp.specs.Ids.{places_of}
use Rattle.hlc_stamp.specs.declared.id.EventId.{EventId}
use Rattle.hlc_figures.specs.ChainRows.{rows_from}
use Rattle.hlc_figures.specs.declared.rows.Row.{Row}
use Rattle.hlc_figures.proofs.Chains.{next_rises, next_rows, next_stands}
use Rattle.hlc_figures.proofs.chain_rows.put_rows.Goals as goal

abbrev no_event : EventId
no_event = record { 0 = 0 }

pub loop-event-init : goal.loop-event-init
loop-event-init c = record {
  rises = c.requires.rising;
  rows = ap (λ (rows : List Row). rows ++ rows_from None (places_of c.args.chain.now)) c.requires.none;
}

pub put_gap-requires : goal.put_gap-requires
put_gap-requires c = next_stands c.loop-event.before c.args.chain.now c.loop-event.event-index no_event (omega arith) c.loop-event.invariant.rises

pub stand_after-at-requires : goal.stand_after-at-requires
stand_after-at-requires c =
    next_stands c.loop-event.before c.args.chain.now c.loop-event.event-index no_event (omega arith) c.loop-event.invariant.rises

pub loop-event-preserved : goal.loop-event-preserved
loop-event-preserved c =
    let lt : c.loop-event.event-index < length c.args.chain.now = omega arith in
    let at = c.stand_after-at.result in
    record {
      rises = next_rises c.loop-event.before c.args.chain.now c.loop-event.event-index no_event lt at c.stand_after-at.ensures.stands
          c.stand_after-at.ensures.early c.loop-event.invariant.rises;
      rows = next_rows c.loop-event.before c.args.chain.now c.loop-event.event-index no_event lt at c.loop-event.rows.items _ _ _
          c.stand_after-at.ensures.stands c.in_ok-put_gap.ensures c.in_ok-push.ensures.items c.loop-event.invariant.rows;
    }

pub returns : goal.returns
returns c =
    let before = c.loop-event.before in
    let rows = c.loop-event.rows.items in
    let none_left = drop_of_length-le c.args.chain.now c.loop-event-test.false in
    sym (append-nil rows) ∙ ap (λ (left : List EventId). rows ++ rows_from before (places_of left)) (sym none_left) ∙ c.loop-event.invariant.rows

pub returns-in_err-put_gap : goal.returns-in_err-put_gap
returns-in_err-put_gap c = rw (err_from_is_err_and c.from_residual.result c.from_residual.ensures.1).1 tt

pub returns-in_err-push : goal.returns-in_err-push
returns-in_err-push c = rw (err_from_is_err_and c.from_residual-in_err-push.result c.from_residual-in_err-push.ensures.1).1 tt
