use Rattle.std.proofs.Common.{ℕ, ◌-◌, ◌^◌, List, Option, arith, below_more, subst}
use Rattle.hlc_stamp.specs.Order.{Pair}
use Rattle.hlc_causality.specs.ClockEvents.{ClockEvents}
use Rattle.hlc_execution.specs.Execution.{clock_of}
use Rattle.hlc_causes.specs.declared.answers.Cause.{Cause}
use Rattle.hlc_causes.specs.declared.answers.Causes.{Causes}
use Rattle.hlc_causes.specs.Causes.{BreaksRule, HasCause, IsFirstOf, NamesCauses, NamesFirst}
use Rattle.hlc_log_examples.proofs.first_causes.first_cause.Goals as goal

-- the first of the causes that are named is the first rule that is broken
first_broken : (s : ClockEvents) (claimed : List Pair) (full f : ℕ) (causes : Causes) (cause : Cause) → NamesCauses s claimed full f causes
    → IsFirstOf (HasCause causes) cause → IsFirstOf (BreaksRule s claimed full f) cause
first_broken s claimed full f causes cause names first = record {
  is = (names cause).0 first.is;
  none_before = λ other broken. first.none_before other ((names other).1 broken);
}

pub loop-place-preserved : goal.loop-place-preserved
loop-place-preserved c =
    let none = subst (λ (first : Option Cause). NamesFirst (HasCause c.causes_at.result) first) c.in_default.is c.first.ensures in
    below_more _ _ c.loop-place.invariant (λ broken. none broken.0 ((c.causes_at.ensures broken.0).1 broken.1))

pub returns-in-Some-clause-cause : goal.returns-in-Some-clause-cause
returns-in-Some-clause-cause c =
    let s = clock_of c.args.execution.now in
    let first = subst (λ (first : Option Cause). NamesFirst (HasCause c.causes_at.result) first) c.in-Some.is c.first.ensures in
    first_broken s c.args.stamps.now.items (2 ^ 32 - 1) c.loop-place.place c.causes_at.result c.in-Some.cause c.causes_at.ensures first

pub returns-clause-none : goal.returns-clause-none
returns-clause-none c = λ f exists. c.loop-place.invariant f (omega (arith, c.len-place-end.ensures.value))
