use Rattle.std.proofs.Common.{rules, ◌≡◌, ◌↔◌, ◌++◌, ◌<◌, ◌≤◌, ◌+◌, ◌-◌, ℕ, inl, inr, Bool, true, false, List, [], ◌∷◌, length, arith, subst, sym, ap, ◌∙◌}
use Rattle.std.proofs.Math.ListN.{replicate}
use Rattle.std.proofs.lemmas.Grind.{common_steps}
use Rattle.std.proofs.lemmas.List.{length-replicate, map_push}
use Rattle.hlc_stamp.specs.declared.id.EventId.{EventId}
use Rattle.hlc_causality.specs.Causality.{HappenedBefore}
use Rattle.hlc_causality.specs.Past.{IsInPast}
use Rattle.hlc_stamp.specs.Ids.{places_of}
use Rattle.hlc_explain.specs.Marks.{IsMarked}
use Rattle.hlc_explain.proofs.InfluenceSteps.{IsListed, IsReachedOn, all_listed, influenced_is_reached, listed_more, listed_over, nothing_listed, reached_first, reached_is_influenced, reached_on, reached_over}
use Rattle.hlc_explain.proofs.Reaching.{marked_tells, past_happened_before, unmarked}
use Rattle.hlc_explain.proofs.influence.influenced.Goals as goal
use Rattle.hlc_explain.proofs.influence.influenced.Goals.{then-index+in_ok-reserve, else-index}

pub loop-place-init : goal.loop-place-init
loop-place-init c =
    let s = c.args.execution.now.events in
    let event = c.args.event.0 in
    let exists : event < c.len-len.result = c.if-event-len.false in
    let n : ℕ = c.len-len.result - event in
    let zeros : c.in_ok-reached.reached.items ≡ replicate n false = c.in_ok-reached.ensures.items_if_clones_equal (λ y h. h) in
    let first : (e : ℕ) → IsMarked event c.mark_successors.new.marks.items e ↔ IsReachedOn s (event + 1) event e = λ e. (
      λ marked. (reached_first s event e).1 (elim ((c.mark_successors.ensures.marked e).0 marked) [
        | inl before ↦ absurd (unmarked event n e (subst (λ (xs : List Bool). IsMarked event xs e) zeros before))
        | inr direct ↦ direct
      ]),
      λ reached. (c.mark_successors.ensures.marked e).1 (inr ((reached_first s event e).0 reached)),
    ) in
    record {
      len =
          let size : length c.in_ok-reached.reached.items ≡ n = ap (λ (xs : List Bool). length xs) zeros ∙ length-replicate n false in
          let same = c.mark_successors.ensures.len in
          omega arith;
      reached = first;
      listed =
          subst (λ (ids : List EventId). IsListed s event (event + 1) (places_of ids)) (sym c.new-influenced.ensures.items)
          (nothing_listed s event (event + 1) (omega arith));
    }

pub loop-place-preserved : goal.loop-place-preserved
loop-place-preserved c =
    let s = c.args.execution.now.events in
    let event = c.args.event.0 in
    let place = c.loop-place.place in
    let h = c.loop-place.invariant in
    let from = c.loop-place.auto.place in
    let to = c.loop-place-test.true in
    let len = h.len in
    let listed : List EventId = c.loop-place.influenced.items in
    let tells = marked_tells event c.loop-place.reached.items place c.index.result.now (omega arith) (omega arith) c.index.ensures in
    elim c.if-index.branch [
      | then-index+in_ok-reserve w ↦
          let reached = (h.reached place).0 (tells.0 w.if-index.true) in
          let here : HappenedBefore s event place = reached_is_influenced s event place place reached in
          let past : IsInPast s event place = inr here in
          let more : w.push_reserved.new.self.items ≡ w.reserve.new.self.items ++ record { 0 = place } ∷ [] = search rules in
          let pushed = more ∙ ap (λ (ids : List EventId). ids ++ record { 0 = place } ∷ []) w.reserve.ensures.items in
          record {
            len =
                let marks = w.mark_successors-then-index.new.marks.items in
                let same : length c.if-index.reached.items ≡ length marks = ap (λ v. length v.items) w.reached-is in
                let more = w.mark_successors-then-index.ensures.len in
                omega arith;
            reached = λ e.
                subst (λ v. IsMarked event v.items e ↔ IsReachedOn s (place + 1) event e) (sym w.reached-is) (
                  λ marked. (reached_on s event place e past).0 (elim ((w.mark_successors-then-index.ensures.marked e).0 marked) [
                    | inl before ↦ inl ((h.reached e).0 before)
                    | inr direct ↦ inr direct
                  ]),
                  λ reached. (w.mark_successors-then-index.ensures.marked e).1 (elim ((reached_on s event place e past).1 reached) [
                    | inl before ↦ inl ((h.reached e).1 before)
                    | inr direct ↦ inr direct
                  ]),
                );
            listed =
                subst (λ v. IsListed s event (place + 1) (places_of v.items)) (sym w.influenced-is)
                (subst (λ (ids : List EventId). IsListed s event (place + 1) (places_of ids)) (sym pushed)
                (subst (IsListed s event (place + 1)) (sym (map_push (λ (id : EventId). id.0) listed (record { 0 = place })))
                (listed_more s event place (places_of listed) here h.listed)));
          }
      | else-index w ↦
          let other : ¬ HappenedBefore s event place = λ before.
          let marked = tells.1 ((h.reached place).1 (influenced_is_reached s event place place (omega arith) before)) in
          let both : true ≡ false = sym marked ∙ w.if-index.false in
          cc in
          let not_past : ¬ IsInPast s event place = λ past. other (past_happened_before s event place (omega arith) past) in
          record {
            len = ap (λ v. event + length v.items) w.reached-is ∙ len;
            reached = λ e.
                let over = reached_over s event place e not_past in
                subst (λ v. IsMarked event v.items e ↔ IsReachedOn s (place + 1) event e) (sym w.reached-is)
                (λ marked. over.0 ((h.reached e).0 marked), λ reached. (h.reached e).1 (over.1 reached));
            listed =
                subst (λ v. IsListed s event (place + 1) (places_of v.items)) (sym w.influenced-is)
                (listed_over s event place (places_of listed) other h.listed);
          }
    ]

pub returns-clause-all : goal.returns-clause-all
returns-clause-all c = λ f.
    let s = c.args.execution.now.events in
    let end : length s ≤ c.loop-place.place = omega arith in
    all_listed s c.args.event.0 c.loop-place.place _ end (grind (arith, common_steps)) f
