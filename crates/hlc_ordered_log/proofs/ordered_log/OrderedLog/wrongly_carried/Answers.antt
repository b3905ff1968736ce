use Rattle.std.proofs.Common.{◌≡◌, ◌∙◌, Bool, ℕ, List, ap, refl, sym, Option, Some, None}
use Rattle.std.specs.Prelude.{if◌then◌else◌}
use Rattle.hlc_stamp.specs.declared.id.EventId.{EventId}
use Rattle.hlc_stamp.specs.Order.{Pair}
use Rattle.hlc_causality.specs.ClockEvents.{clock_skeleton}
use Rattle.hlc_causality.specs.FollowedClockChains.{is_same_pair}
use Rattle.hlc_causality.specs.Neighbours.{place_of}
use Rattle.hlc_causality.specs.Predecessors.{send_of}
use Rattle.hlc_causes.specs.Seen.{wrong_among}
use Rattle.hlc_ordered_log.specs.InOrder.{carried_of, claimed_of, clocks_of, wrong_of}
use Rattle.hlc_ordered_log.proofs.ordered_log.OrderedLog.wrongly_carried.Goals as goal

none_sent : (claimed : List Pair) (carried : Option Pair) → wrong_among claimed None carried ≡ None
none_sent claimed None = refl
none_sent claimed (Some p) = refl

none_carried : (claimed : List Pair) (send : Option ℕ) → wrong_among claimed send None ≡ None
none_carried claimed None = refl
none_carried claimed (Some d) = refl

pub returns-in_err-carried : goal.returns-in_err-carried
returns-in_err-carried c =
    let log = c.args.self.now in
    let k = c.args.position.0 in
    let claimed = claimed_of log in
    ap (λ (o : Option EventId). place_of o) c.from_residual.ensures
    ∙ sym (none_carried claimed (send_of (clock_skeleton (clocks_of log)) k))
    ∙ ap (wrong_among claimed (send_of (clock_skeleton (clocks_of log)) k)) (sym c.in_err-carried.was ∙ c.carried.ensures)

pub returns-in_err-send : goal.returns-in_err-send
returns-in_err-send c =
    let log = c.args.self.now in
    let k = c.args.position.0 in
    let claimed = claimed_of log in
    ap (λ (o : Option EventId). place_of o) c.from_residual-in_err-send.ensures
    ∙ sym (none_sent claimed (carried_of log k))
    ∙ ap (λ (o : Option ℕ). wrong_among claimed o (carried_of log k)) c.in_err-send.ensures.value

-- what is found is what the messages that are carried tell
module _ (c : goal.Then-eq) where
  parts : wrong_among (claimed_of c.args.self.now) (Some c.in_ok-send.send.0) (Some c.in_ok-carried.carried) ≡ wrong_of c.args.self.now c.args.position.0
  parts =
      let log = c.args.self.now in
      let k = c.args.position.0 in
      let claimed = claimed_of log in
      ap (λ (o : Option ℕ). wrong_among claimed o (Some c.in_ok-carried.carried)) c.in_ok-send.ensures.value
      ∙ ap (wrong_among claimed (send_of (clock_skeleton (clocks_of log)) k))
      (sym c.in_ok-carried.was ∙ c.carried.ensures)

pub returns-then-eq : goal.returns-then-eq
returns-then-eq c =
    let claimed = claimed_of c.args.self.now in
    let d = c.in_ok-send.send.0 in
    let p = c.in_ok-carried.carried in
    let answer : Bool → Option ℕ = λ b. if b then None else Some d in
    ap answer (c.if-eq.ensures ∙ ap (is_same_pair p) c.stamp.ensures) ∙ parts c

pub returns-else-eq : goal.returns-else-eq
returns-else-eq c =
    let log = c.args.self.now in
    let k = c.args.position.0 in
    let claimed = claimed_of log in
    let d = c.in_ok-send.send.0 in
    let p = c.in_ok-carried.carried in
    let answer : Bool → Option ℕ = λ b. if b then None else Some d in
    ap answer (c.if-eq.ensures ∙ ap (is_same_pair p) c.stamp.ensures)
    ∙ ap (λ (o : Option ℕ). wrong_among claimed o (Some p)) c.in_ok-send.ensures.value
    ∙ ap (wrong_among claimed (send_of (clock_skeleton (clocks_of log)) k)) (sym c.in_ok-carried.was ∙ c.carried.ensures)
