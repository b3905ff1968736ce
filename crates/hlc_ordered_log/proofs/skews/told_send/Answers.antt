use Rattle.std.proofs.Common.{ℕ, length, arith, subst, sym, ap}
use Rattle.hlc_causality.specs.Causality.{IsSendOf, Skeleton}
use Rattle.hlc_ordered_log.specs.InOrder.{reading_told, skeleton_of}
use Rattle.hlc_ordered_log.specs.Skew.{IsToldSend, NamesToldSend}
use Rattle.hlc_ordered_log.proofs.EventsInOrder.{length-skeleton_of}
use Rattle.hlc_ordered_log.proofs.skews.told_send.Goals as goal

pub send-requires : goal.send-requires
send-requires c =
    let size = length-skeleton_of c.args.log.now c.requires.ordered in
    let same = ap (λ (s : Skeleton). length s) c.execution.ensures.events in
    let exists = c.requires.exists in
    omega arith

pub returns-in_err-send : goal.returns-in_err-send
returns-in_err-send c =
    let s = skeleton_of c.args.log.now in
    let told = reading_told c.args.log.now in
    let f = c.args.event.0 in
    let none : (e : ℕ) → ¬ IsToldSend s told e f =
    λ e is. c.in_err-send.ensures e (subst (λ (t : Skeleton). IsSendOf t e f) (sym c.execution.ensures.events) is.send) in
    subst (NamesToldSend s told f) (sym c.from_residual.ensures) none
