-- Turns that nodes have while events get their places.
use Rattle.std.proofs.Common.{◌≡◌, ◌≢◌, ◌↔◌, ℕ, ◌<◌, ◌⊎◌, inl, inr, List, [], ◌∷◌, ◌++◌, length, Option, Some, None, arith, refl, subst, sym, ap, ◌∙◌}
use Rattle.std.proofs.lemmas.Bool.{cases_eq}
use Rattle.std.proofs.lemmas.List.Elements.{Contains-push_cases}
use Rattle.hlc_stamp.specs.declared.id.EventId.{EventId}
use Rattle.hlc_stamp.specs.declared.id.NodeId.{NodeId}
use Rattle.hlc_log.specs.declared.log_event.LogEvent.{LogEvent}
use Rattle.hlc_log.specs.declared.turns.Turns.{Turns}
use Rattle.hlc_log.specs.Events.{event_at}
use Rattle.hlc_log.specs.Messages.{SendsTo}
use Rattle.hlc_log.specs.Placing.{AreAllBlocked, ArePlaced, AreTurns, AreTurnsBeside, HasTurnOrWaits, IsBlocked, IsFrontOf, IsNodeBlocked, IsPassed, IsWoken, LinksToFront}
use Rattle.hlc_log.specs.SendLinks.{link_at}
use Rattle.hlc_log.specs.Turns.{HasTurn}

pub same_node : (a b : NodeId) → a.0 ≡ b.0 → a ≡ b
same_node a b is = ap (λ (n : ℕ). let node : NodeId = record { 0 = n } in node) is

module _ (events : List LogEvent) (fronts : List (Option EventId)) where
  module _ (old new : Turns) (h : AreTurns events fronts old) where
    -- the turn of a node was taken
    pub turn_taken : (taken : NodeId) → ((node : NodeId) → HasTurn old node ↔ ((taken ≡ node) ⊎ HasTurn new node))
        → (taken.0 < length fronts) × AreTurnsBeside events fronts new taken
    turn_taken taken is = (
      h.below taken ((is taken).1 (inl refl)),
      record {
        below = λ node has. h.below node ((is node).1 (inr has));
        each = λ node within other. elim (h.each node within) [
          | inl had ↦ elim ((is node).0 had) [ inl same ↦ absurd (other (sym same)) | inr has ↦ inl has ]
          | inr blocked ↦ inr blocked
        ];
      },
    )

  -- none is left
  pub no_turn_left : (turns : Turns) → AreTurns events fronts turns → ((node : NodeId) → ¬ HasTurn turns node) → AreAllBlocked events fronts
  no_turn_left turns h none node within =
      let id : NodeId = record { 0 = node } in
      elim (h.each id within) [ inl has ↦ absurd (none id has) | inr blocked ↦ blocked ]

  -- the node that had its turn can't go on
  pub turn_over : (turns : Turns) (this : NodeId) → AreTurnsBeside events fronts turns this
      → IsNodeBlocked events fronts (link_at fronts this.0) → AreTurns events fronts turns
  turn_over turns this h blocked = record {
    below = h.below;
    each = λ node within. elim (cases_eq node.0 this.0) [
      | inl same ↦ inr (subst (λ (n : ℕ). IsNodeBlocked events fronts (link_at fronts n)) (sym same) blocked)
      | inr ne ↦ h.each node within (λ is. ne (ap (λ (n : NodeId). n.0) is))
    ];
  }

-- an event got its place
module _ (events : List LogEvent) (next fronts after : List (Option EventId)) (order : List ℕ) (e : ℕ)
    (was : ArePlaced events next fronts order) (is : ArePlaced events next after (order ++ e ∷ [])) where
  still_unplaced : (d : ℕ) → d < length events → d ≢ e → ¬ IsPassed events fronts d → ¬ IsPassed events after d
  still_unplaced d exists other unplaced passed = elim (Contains-push_cases order e d ((is.placed d exists).1 passed)) [
    | inl old ↦ unplaced ((was.placed d exists).0 old)
    | inr new ↦ other (sym new)
  ]

  waited_or_waits : (f : ℕ) → IsBlocked events fronts f → SendsTo events e f ⊎ IsBlocked events after f
  waited_or_waits f blocked = elim (cases_eq blocked.send e) [
    | inl same ↦ inl (subst (λ (d : ℕ). SendsTo events d f) same blocked.sends)
    | inr ne ↦
        let still = still_unplaced blocked.send blocked.sends.1.exists ne blocked.unplaced in
        inr (record { send = blocked.send; sends = blocked.sends; unplaced = still })
  ]

  module _ (old new : Turns) (this : NodeId) (h : AreTurnsBeside events fronts old this)
      (woken : (f : ℕ) → SendsTo events e f → IsWoken events fronts new f) (kept : (node : NodeId) → HasTurn old node → HasTurn new node)
      (below : (node : NodeId) → HasTurn new node → HasTurn old node ⊎ (node.0 < length fronts)) (size : length after ≡ length fronts)
      (others : (node : NodeId) → node ≢ this → link_at after node.0 ≡ link_at fronts node.0) where
    by_front : (node : NodeId) → node ≢ this → node.0 < length fronts → (link : Option EventId) → link_at fronts node.0 ≡ link
        → IsNodeBlocked events fronts link → HasTurnOrWaits events after new node
    by_front node other within None front blocked = inr (subst (IsNodeBlocked events after) (sym (others node other ∙ front)) tt)
    by_front node other within (Some f) front blocked = elim (waited_or_waits f.0 blocked) [
      | inl sends ↦
          let of_node : IsFrontOf events node.0 f.0 = subst (LinksToFront events node.0) front (was.each_front node.0 within) in
          let there = ap (link_at fronts) of_node.at_node ∙ front in
          inl (subst (HasTurn new) (same_node (event_at events f.0).node node of_node.at_node) (woken f.0 sends there))
      | inr still ↦ inr (subst (IsNodeBlocked events after) (sym (others node other ∙ front)) still)
    ]

    -- the nodes beside the one whose turn it is still wait, or have turns
    pub turns_beside : AreTurnsBeside events after new this
    turns_beside = record {
      below = λ node has. elim (below node has) [ inl had ↦ let lt = h.below node had in omega arith | inr lt ↦ omega arith ];
      each = λ node there other.
          let within : node.0 < length fronts = omega (arith, there, size) in
          elim (h.each node within other) [
            | inl had ↦ inl (kept node had)
            | inr blocked ↦ by_front node other within (link_at fronts node.0) refl blocked
          ];
    }
