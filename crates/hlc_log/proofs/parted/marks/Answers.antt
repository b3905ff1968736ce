use Rattle.std.proofs.Common.{get_or, ◌∙◌, ◌≡◌, List, Bool, false, arith, ap, [], length, replicate, subst, sym, take, true}
use Rattle.std.proofs.lemmas.List.{length-replicate, length-set, take_all}
use Rattle.hlc_stamp.specs.declared.id.EventId.{EventId}
use Rattle.hlc_log.proofs.KeptEvents.{AreMarks, no_marks, one_more_mark}
use Rattle.hlc_log.proofs.parted.marks.Goals as goal

pub loop-place-init : goal.loop-place-init
loop-place-init c =
    let n = c.args.events in
    let items : c.in_ok-marks.marks.items ≡ replicate n false = c.in_ok-marks.ensures.items_if_clones_equal (λ y h. h) in
    record {
      len = rw items (length-replicate n false);
      marks = subst (AreMarks []) (sym items) (no_marks n);
    }

pub loop-place-preserved : goal.loop-place-preserved
loop-place-preserved c =
    let order = c.args.order.now in
    let k = c.loop-place.place-index in
    let none : EventId = record { 0 = 0 } in
    let place = (get_or order k none).0 in
    let marks = c.loop-place.marks.items in
    let before = c.loop-place.invariant in
    let lt = c.loop-place-test.true in
    let exists = c.requires k none lt in
    record {
      len = length-set marks place true ∙ before.len;
      marks = one_more_mark order k none marks lt (omega (arith, exists, before.len)) before.marks;
    }

pub returns-clause-marks : goal.returns-clause-marks
returns-clause-marks c =
    let end = c.loop-place-test.false in
    let within = c.loop-place.auto.place-index-end in
    subst (λ (ids : List EventId). AreMarks ids c.loop-place.marks.items) (take_all c.loop-place.place-index c.args.order.now (omega arith))
    c.loop-place.invariant.marks
