use Rattle.std.proofs.Common.{◌≡◌, Option, refl, subst, sym}
use Rattle.std.proofs.lemmas.Result.{IfOk-weaker}
use Rattle.hlc_stamp.specs.Order.{Pair}
use Rattle.hlc_log.specs.Events.{event_at}
use Rattle.hlc_log.specs.Resent.{claimed_in, claimed_send}
use Rattle.hlc_log.proofs.ResentSends.{claimed_is}
use Rattle.hlc_log.proofs.resent.claimed_sends.Goals as goal

pub returns-then-not-tells_carried : goal.returns-then-not-tells_carried
returns-then-not-tells_carried c place message =
    subst (λ (o : Option Pair). claimed_in c.new.result.entries message o ≡ claimed_send c.args.log.now.events message.0 o)
    (sym (c.tells_carried.ensures c.if-not-tells_carried.true place)) refl

pub returns : goal.returns
returns c =
    IfOk-weaker c.sends_with_stamps.result _ _ (λ sent is place message.
    claimed_is c.args.log.now.events sent.entries is message (event_at c.args.log.now.events place).carried) c.sends_with_stamps.ensures
