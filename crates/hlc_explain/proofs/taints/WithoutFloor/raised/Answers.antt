use Rattle.std.proofs.Common.{rules, ◌≡◌, ◌++◌, ◌∙◌, true, false, List, [], ◌∷◌, ap, subst, sym}
use Rattle.std.specs.Prelude.{filter, ◌+◌}
use Rattle.hlc_stamp.specs.Ids.{places_of}
use Rattle.hlc_stamp.specs.declared.id.EventId.{EventId}
use Rattle.hlc_causality.specs.Places.{places_below}
use Rattle.hlc_execution.specs.Execution.{clock_of}
use Rattle.hlc_explain.specs.Taints.{is_raised}
use Rattle.hlc_explain.proofs.LeastWithout.{listed_on, listed_over, none_listed}
use Rattle.hlc_explain.proofs.taints.WithoutFloor.raised.Goals as goal
use Rattle.hlc_explain.proofs.taints.WithoutFloor.raised.Goals.{then-is_below+in_ok-reserve, else-is_below}

pub loop-place-init : goal.loop-place-init
loop-place-init c =
    none_listed c.args.execution.now c.len-place-end.ensures.execution c.args.self.now.event.0 c.requires.first c.requires.least
    c.new-raised.result.items c.new-raised.ensures.items

pub loop-place-preserved : goal.loop-place-preserved
loop-place-preserved c =
    let x = c.args.execution.now in
    let sound = c.len-place-end.ensures.execution in
    let e = c.args.self.now.event.0 in
    let place = c.loop-place.place in
    let list : List EventId = c.loop-place.raised.items in
    elim c.if-is_below.branch [
      | then-is_below+in_ok-reserve w ↦
          let more : w.push_reserved.new.self.items ≡ w.reserve.new.self.items ++ record { 0 = place } ∷ [] = search rules in
          let pushed = more ∙ ap (λ (ids : List EventId). ids ++ record { 0 = place } ∷ []) w.reserve.ensures.items in
          subst (λ v. places_of v.items ≡ filter (is_raised (clock_of x) x.stamps e) (places_below (place + 1))) (sym w.raised-is)
          (listed_on x sound e c.requires.first list w.push_reserved.new.self.items place c.stamp.result c.stamp-in-loop-place.result
          c.stamp.ensures c.stamp-in-loop-place.ensures (c.is_below.ensures.0 w.if-is_below.true) c.loop-place.invariant pushed)
      | else-is_below w ↦
          subst (λ v. places_of v.items ≡ filter (is_raised (clock_of x) x.stamps e) (places_below (place + 1))) (sym w.raised-is)
          (listed_over x sound e c.requires.first list place c.stamp.result c.stamp-in-loop-place.result c.stamp.ensures
          c.stamp-in-loop-place.ensures
          (λ below. let both : true ≡ false = sym (c.is_below.ensures.1 below) ∙ w.if-is_below.false in cc) c.loop-place.invariant)
    ]
