-- What is found of an event, and the rules that it breaks, where the log tells its stamp, and where not.
use Rattle.std.proofs.Common.{◌≡◌, ◌∙◌, Bool, true, false, ℕ, List, Option, Some, None, refl, subst, sym, ap}
use Rattle.hlc_stamp.specs.Order.{Pair}
use Rattle.hlc_causality.specs.ClockEvents.{ClockEvents}
use Rattle.hlc_verdict.specs.declared.verdict.Verdict.{Verdict}
use Rattle.hlc_causes.specs.Causes.{HasCause, NamesCauses, NamesFinding, no_causes}
use Rattle.hlc_causes.specs.declared.answers.Cause.{Cause}
use Rattle.hlc_causes.specs.declared.answers.Cause.TheVariants.{Ahead, Behind, NotAbovePrevious, NotAboveSend}
use Rattle.hlc_causes.specs.declared.answers.Causes.{Causes}
use Rattle.hlc_causes.specs.declared.answers.Finding.{Finding}
use Rattle.hlc_causes.specs.declared.answers.Finding.TheVariants.{Judged, RolledOver}
use Rattle.hlc_ordered_log.specs.Found.{FindsAt, NamesCausesIn}
use Rattle.hlc_ordered_log.specs.InOrder.{LogInOrder, clocks_of, seen_of, stamp_told}

none_is_had : (cause : Cause) → ¬ HasCause no_causes cause
none_is_had Behind has = cc
none_is_had (NotAbovePrevious d) has = cc
none_is_had (NotAboveSend d) has = cc
none_is_had (Ahead p) has = cc

-- one thing is found of a stamp
pub one_finding : (t : ClockEvents) (claimed least : List Pair) (full f : ℕ) (a b : Finding) → NamesFinding t claimed least full f a
    → NamesFinding t claimed least full f b → a ≡ b
one_finding t claimed least full f RolledOver RolledOver p q = refl
one_finding t claimed least full f RolledOver (Judged w) p q = absurd (q.1 p)
one_finding t claimed least full f (Judged v) RolledOver p q = absurd (p.1 q)
one_finding t claimed least full f (Judged v) (Judged w) p q = ap (λ (x : Verdict). Judged x) (p.0 ∙ sym q.0)

-- what has none is none
same_as_none : (causes : Causes) → ((cause : Cause) → ¬ HasCause causes cause) → causes ≡ no_causes
same_as_none causes none =
    let behind = no_test causes.behind (none Behind) in
    let previous = no_answer causes.not_above_previous (λ d. none (NotAbovePrevious d)) in
    let send = no_answer causes.not_above_send (λ d. none (NotAboveSend d)) in
    let ahead = no_answer causes.ahead (λ p. none (Ahead p)) in
    λ i. record { behind = behind i; not_above_previous = previous i; not_above_send = send i; ahead = ahead i }
  where
    no_test : (test : Bool) → ¬ (test ≡ true) → test ≡ false
    no_test true none = absurd (none refl)
    no_test false none = refl

    no_answer : {X : Type 0} (o : Option X) → ((x : X) → ¬ (o ≡ Some x)) → o ≡ None
    no_answer None none = refl
    no_answer (Some x) none = absurd (none x refl)

module _ (log : LogInOrder) (full k : ℕ) where
  -- not both
  pub told_or_not : {X : Type 0} → stamp_told log k ≡ true → stamp_told log k ≡ false → X
  told_or_not told untold = absurd (let both : true ≡ false = sym told ∙ untold in cc)

  -- what isn't told breaks no rule
  pub untold_has_none : (causes : Causes) → causes ≡ no_causes → stamp_told log k ≡ false → NamesCausesIn log full k causes
  untold_has_none causes none untold cause = (
    λ has. absurd (none_is_had cause (subst (λ (x : Causes). HasCause x cause) none has)),
    λ broken. told_or_not broken.0 untold,
  )

  -- where the stamp is told, the causes are those of hlc_causes
  pub told_has_all : (causes : Causes) → stamp_told log k ≡ true → NamesCauses (clocks_of log) (seen_of log k) full k causes → NamesCausesIn log full k causes
  told_has_all causes told names cause = (λ has. (told, (names cause).0 has), λ broken. (names cause).1 broken.1)

  pub all_if_told : (causes : Causes) → stamp_told log k ≡ true → NamesCausesIn log full k causes → NamesCauses (clocks_of log) (seen_of log k) full k causes
  all_if_told causes told names cause = (λ has. ((names cause).0 has).1, λ broken. (names cause).1 (told, broken))

  -- where it isn't, there is none
  pub none_if_untold : (causes : Causes) → stamp_told log k ≡ false → NamesCausesIn log full k causes → causes ≡ no_causes
  none_if_untold causes untold names = same_as_none causes (λ cause has. told_or_not ((names cause).0 has).0 untold)

  -- one thing is found
  pub one_found : (a b : Option Finding) → FindsAt log full k a → FindsAt log full k b → a ≡ b
  one_found None None p q = refl
  one_found None (Some g) p q = told_or_not q.0 p
  one_found (Some f) None p q = told_or_not p.0 q
  one_found (Some f) (Some g) p q = ap (λ (x : Finding). Some x) (one_finding (clocks_of log) (seen_of log k) log.least full k f g p.1 q.1)
