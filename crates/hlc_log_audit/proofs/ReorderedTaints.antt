-- A reordering keeps what the floor of an event raised.
use Rattle.std.proofs.Common.{◌≡◌, ◌≢◌, ◌∙◌, ℕ, ◌<◌, inl, inr, length, arith, subst, sym, ap}
use Rattle.std.specs.Ordering.{is_lt}
use Rattle.std.proofs.lemmas.Bool.{cases_eq}
use Rattle.hlc_stamp.specs.Order.{Pair, stamp_cmp}
use Rattle.hlc_causality.specs.Assignment.{pair_at}
use Rattle.hlc_causality.specs.Causality.{SkeletonEvent}
use Rattle.hlc_causality.specs.ClockEvents.{ClockEvent, ClockEvents, clock_event_at, clock_skeleton}
use Rattle.hlc_causality.specs.LeastFeasible.{least_feasible}
use Rattle.hlc_causality.proofs.ClockEvents.{clock_skeleton_at, skeleton_size}
use Rattle.hlc_causality.proofs.LeastFeasible.{least_feasible_is_computed}
use Rattle.hlc_causality.proofs.SameLinks.{earlier_kept, same_links_back, send_kept}
use Rattle.hlc_explain.specs.Taints.{least_without, without_floor}
use Rattle.hlc_explain.proofs.Raising.{floor_there, links_without, same_elsewhere, size_without, ticks_kept}
use Rattle.hlc_log.specs.Reordering.{IsClockReordering, KeepsEvents}
use Rattle.hlc_log.proofs.ClockReorderings.{clock_reordering_keeps_least, clocks_turned}
use Rattle.hlc_log_audit.specs.Laws.{ReorderingKeepsTaints}

module _ (t u : ClockEvents) (to back : ℕ → ℕ) (h : IsClockReordering t u to back) (e : ℕ) (here : e < length t) where
  abbrev t_without : ClockEvents
  t_without = without_floor t e

  abbrev u_without : ClockEvents
  u_without = without_floor u (to e)

  seen : (f : ℕ) → f < length t → f < length (clock_skeleton t)
  seen f lt = omega (arith, lt, skeleton_size t)

  pub moved_exists : (f : ℕ) → f < length t → to f < length u
  moved_exists f lt = let exists = h.links.there.exists f (seen f lt) in omega (arith, exists, skeleton_size u)

  there : to e < length u
  there = moved_exists e here

  floor_moved : (f : ℕ) → f < length t → (clock_event_at u_without (to f)).floor ≡ (clock_event_at t_without f).floor
  floor_moved f lt = elim (cases_eq f e) [
    | inl is ↦
        subst (λ (x : ℕ). (clock_event_at u_without (to x)).floor ≡ (clock_event_at t_without x).floor) (sym is)
        (floor_there u (to e) there ∙ sym (floor_there t e here))
    | inr ne ↦
        let differ : to f ≢ to e = λ same. ne (sym (h.links.back_here f (seen f lt)) ∙ ap back same ∙ h.links.back_here e (seen e here)) in
        ap (λ (x : ClockEvent). x.floor) (same_elsewhere u (to e) there (to f) differ)
        ∙ h.floor f lt ∙ sym (ap (λ (x : ClockEvent). x.floor) (same_elsewhere t e here f ne))
  ]

  ticks_moved : (f : ℕ) → f < length t → (clock_event_at u_without (to f)).ticks ≡ (clock_event_at t_without f).ticks
  ticks_moved f lt = sym (ticks_kept u (to e) there (to f)) ∙ h.ticks f lt ∙ ticks_kept t e here f

  pub kept_without : KeepsEvents (clock_skeleton t_without) (clock_skeleton u_without) to
  kept_without =
      let links = links_without t e here in
      let other_links = links_without u (to e) there in
      let first = same_links_back (clock_skeleton t) (clock_skeleton t_without) links in
      record {
        exists = λ f lt. let exists = h.links.there.exists f (omega (arith, lt, links.size)) in omega (arith, exists, other_links.size);
        reading = λ f lt.
            ap (λ (x : SkeletonEvent). x.reading) (clock_skeleton_at u_without (to f))
            ∙ ap (λ (p : Pair). p.l) (floor_moved f (omega (arith, lt, links.size, skeleton_size t)))
            ∙ sym (ap (λ (x : SkeletonEvent). x.reading) (clock_skeleton_at t_without f));
        at_node = λ d f k.
            earlier_kept (clock_skeleton u) (clock_skeleton u_without) other_links (to d) (to f)
            (h.links.there.at_node d f (earlier_kept (clock_skeleton t_without) (clock_skeleton t) first d f k));
        send = λ d f k.
            send_kept (clock_skeleton u) (clock_skeleton u_without) other_links (to d) (to f)
            (h.links.there.send d f (send_kept (clock_skeleton t_without) (clock_skeleton t) first d f k));
      }

module _ (t u : ClockEvents) (to back : ℕ → ℕ) (h : IsClockReordering t u to back) (e : ℕ) (here : e < length t) where
  -- the events without the floor are reordered as well
  pub reordered_without : IsClockReordering (without_floor t e) (without_floor u (to e)) to back
  reordered_without =
      let far = moved_exists t u to back h e here (e) here in
      let size = (links_without t e here).size in
      let other_size = (links_without u (to e) far).size in
      record {
        links = record {
          there = kept_without t u to back h e here;
          here = subst (λ (x : ℕ). KeepsEvents (clock_skeleton (without_floor u (to e))) (clock_skeleton (without_floor t x)) back)
              (h.links.back_here e (omega (arith, here, skeleton_size t)))
              (kept_without u t back to (clocks_turned t u to back h) (to e) far);
          back_here = λ f lt. h.links.back_here f (omega (arith, lt, size));
          back_there = λ f lt. h.links.back_there f (omega (arith, lt, other_size));
        };
        floor = λ f lt. floor_moved t u to back h e here f (omega (arith, lt, size_without t e here));
        ticks = λ f lt. ticks_moved t u to back h e here f (omega (arith, lt, size_without t e here));
      }

pub reordering_keeps_taints : ReorderingKeepsTaints
reordering_keeps_taints t u pairs others to back h equal e f here exists =
    let seen : f < length (clock_skeleton t) = omega (arith, exists, skeleton_size t) in
    let without = without_floor t e in
    let other = without_floor u (to e) in
    let least : pair_at (least_without t e) f ≡ pair_at (least_without u (to e)) (to f) =
    clock_reordering_keeps_least without other to back (reordered_without t u to back h e here) (least_feasible without) (least_feasible other)
    (least_feasible_is_computed without) (least_feasible_is_computed other) f (omega (arith, exists, skeleton_size without, size_without t e here)) in
    sym (λ i. is_lt (stamp_cmp (least i) (equal f seen i)))
