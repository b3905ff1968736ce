use Rattle.std.proofs.Common.{◌≤◌, subst, sym}
use Rattle.hlc_stamp.specs.Order.{IsAtMost, IsBelow, Pair}
use Rattle.hlc_packed.specs.Packed.{packed, unpacked}
use Rattle.hlc_packed.specs.Steps.{IsAbove, IsNotBehind}
use Rattle.hlc_packed.proofs.StepFacts.{unpacked_packed}
use Rattle.hlc_packed.proofs.laws.steps_are_least_pairs.Goals as goal

pub returns-clause-ticks : goal.returns-clause-ticks
returns-clause-ticks c bits old reading new tick p counted above ahead =
    let same = unpacked_packed bits p counted in
    let its_above : IsAbove bits old (packed bits p) = subst (λ (q : Pair). IsBelow (unpacked bits old) q) (sym same) above in
    let its_ahead : IsNotBehind bits reading (packed bits p) = subst (λ (q : Pair). reading ≤ q.l) (sym same) ahead in
    subst (λ (q : Pair). IsAtMost (unpacked bits new) q) same (tick.least (packed bits p) its_above its_ahead)

pub returns-clause-merges : goal.returns-clause-merges
returns-clause-merges c bits old message reading new merge p counted above above_message ahead =
    let same = unpacked_packed bits p counted in
    let its_above : IsAbove bits old (packed bits p) = subst (λ (q : Pair). IsBelow (unpacked bits old) q) (sym same) above in
    let its_above_message : IsAbove bits message (packed bits p) =
    subst (λ (q : Pair). IsBelow (unpacked bits message) q) (sym same) above_message in
    let its_ahead : IsNotBehind bits reading (packed bits p) = subst (λ (q : Pair). reading ≤ q.l) (sym same) ahead in
    subst (λ (q : Pair). IsAtMost (unpacked bits new) q) same (merge.least (packed bits p) its_above its_above_message its_ahead)
