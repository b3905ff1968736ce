use Rattle.std.proofs.Common.{◌≡◌, ◌<◌, ◌++◌, ◌∷◌, ◌∙◌, [], ℕ, List, Result, Ok, Err, arith, inl, inr, subst, ap}
use Rattle.std.specs.Prelude.{IfOk}
use Rattle.std.specs.declared.alloc.Global.{Global}
use Rattle.std.specs.declared.vec.Vec.{Vec}
use Rattle.std.proofs.lemmas.Bool.{cases_eq}
use Rattle.hlc_stamp.specs.declared.id.EventId.{EventId}
use Rattle.hlc_stamp.specs.Ids.{places_of}
use Rattle.hlc_log.specs.declared.log_event.LogEvent.{LogEvent}
use Rattle.hlc_log.specs.declared.log_event.LogKind.TheVariants.{Receive, Send}
use Rattle.hlc_log.specs.declared.order_fault.OrderFault.{OrderFault}
use Rattle.hlc_log.specs.CausalOrder.{IsCausalOrder, MayComeNext, Needs, place_at}
use Rattle.hlc_log_examples.proofs.ordered_messages.order_message.Goals as goal

module _ (receive send : LogEvent) (receives : receive.kind ≡ Receive (record { 0 = 0 })) (sends : send.kind ≡ Send (record { 0 = 0 })) where
  -- the receive needs the send
  needs_send : Needs (receive ∷ send ∷ []) 0 1
  needs_send = inr (0, record { exists = omega arith; kind = sends }, record { exists = omega arith; kind = receives })

  send_is_first : (order : List ℕ) → IsCausalOrder (receive ∷ send ∷ []) order → place_at order 0 ≡ 1
  send_is_first order whole =
      let some = whole.all 0 (omega arith) in
      let lt = some.1 in
      let first = whole.causal 0 (omega arith) in
      let exists : place_at order 0 < 2 = first.exists in
      elim (cases_eq (place_at order 0) 0) [
        | inl received_first ↦
            let needed = (subst (MayComeNext (receive ∷ send ∷ []) []) received_first first).needed 1 needs_send in
            absurd (let none = needed.1 in omega arith)
        | inr ne ↦ omega arith
      ]

  send_comes_first : (events : List LogEvent) → events ≡ receive ∷ send ∷ [] → (answer : Result (Vec EventId Global) OrderFault)
      → IfOk answer (λ order. IsCausalOrder events (places_of order.items)) → IfOk answer (λ order. place_at (places_of order.items) 0 ≡ 1)
  send_comes_first events are (Ok order) whole =
      send_is_first (places_of order.items) (subst (λ (x : List LogEvent). IsCausalOrder x (places_of order.items)) are whole)
  send_comes_first events are (Err fault) whole = tt

pub returns : goal.returns
returns c =
    let receive = c.args.receive in
    let send = c.args.send in
    let first : c.push.new.self.events ≡ receive ∷ [] =
    c.in_ok-push.ensures.events ∙ ap (λ (x : List LogEvent). x ++ receive ∷ []) c.new-log.ensures in
    let events : c.push-2.new.self.events ≡ receive ∷ send ∷ [] =
    c.in_ok-push-2.ensures.events ∙ ap (λ (x : List LogEvent). x ++ send ∷ []) first in
    send_comes_first receive send c.requires.receive.1 c.requires.send.1 c.push-2.new.self.events events c.causal_order.result
    c.causal_order.ensures.order
