use Rattle.std.proofs.Common.{◌≡◌, ◌<◌, ◌≤◌, ℕ, count_by, length, take}
use Rattle.hlc_log.specs.Events.{event_at}
use Rattle.hlc_log.specs.Slots.{stored_events}
use Rattle.hlc_log.specs.Unsent.{is_outside, is_untold, taken_event}
use Rattle.hlc_log.proofs.unsent.take_unmarked.Given as goal

-- the events so far are taken, and the others are as they were
abbrev pub invariant-loop-place : goal.invariant-loop-place
invariant-loop-place l =
    let events = stored_events l.asides l.initial.slots.items in
    record {
      len : length l.slots.items ≡ length l.initial.slots.items;
      taken : (k : ℕ) → k < l.place → event_at (stored_events l.asides l.slots.items) k ≡ taken_event l.as_local events (event_at events k);
      left : (k : ℕ) → l.place ≤ k → event_at (stored_events l.asides l.slots.items) k ≡ event_at events k;
      outside : l.outside ≡ count_by (is_outside events) (take l.place events);
      unsent : l.unsent ≡ count_by (is_untold events) (take l.place events);
    }
