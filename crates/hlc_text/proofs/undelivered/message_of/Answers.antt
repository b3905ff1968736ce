use Rattle.std.proofs.Common.{◌≡◌, ◌∙◌, ◌≤◌, ◌<◌, Option, Some, ℕ, ap, arith, length, sym}
use Rattle.std.specs.Prelude.{option_map}
use Rattle.std.specs.Option.{option_and_then}
use Rattle.std.proofs.lemmas.Option.{slice_get-get_or}
use Rattle.hlc_arena.specs.History.{History, StampedEvent, target_of}
use Rattle.hlc_text.specs.Undelivered.{target_in, undelivered_at}
use Rattle.hlc_text.specs.declared.undelivered.Undelivered.{Undelivered}
use Rattle.hlc_text.proofs.undelivered.message_of.Goals as goal

pub returns : goal.returns
returns c =
    let sent = c.args.sent.0 in
    let events = c.history.result.now.events in
    let there : ¬ (length events ≤ sent) = λ beyond. let bad = c.in_ok-get.ensures.none.1 beyond in cc bad in
    let within : sent < length events = omega arith in
    let target : target_in c.args.cluster.now.history.events sent ≡ Some c.in_ok-to.to.0 =
    ap (λ (h : History). target_in h.events sent) (sym c.history.ensures.history)
    ∙ ap (λ (x : Option StampedEvent). option_and_then (λ x. target_of x.event.kind) x) (slice_get-get_or events sent _ within)
    ∙ ap (λ (x : StampedEvent). target_of x.event.kind) (sym c.in_ok-get.ensures.event)
    ∙ sym c.in_ok-to.ensures in
    ap (λ (it : Undelivered). Some it) c.message_to.ensures
    ∙ sym (ap (λ (to : Option ℕ). option_map (undelivered_at c.args.cluster.now sent) to) target)
