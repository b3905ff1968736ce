-- What can be said of an answer without the state.
use Rattle.std.proofs.Common.{◌≡◌, ◌∙◌, ◌⊎◌, ℕ, ◌<◌, Bool, true, false, List, [], ◌∷◌, ◌++◌, length, arith, refl, subst, sym, Option, Some, None, inl, inr, Ok}
use Rattle.std.specs.Prelude.{◌==◌, IsSome, is_none, nat_le, nat_lt, not}
use Rattle.std.proofs.lemmas.Bool.Decides.{nat_tests}
use Rattle.hlc_stamp.specs.declared.limits.TheConstants.{MAX_READING}
use Rattle.hlc_core.specs.declared.refusal.Refusal.{Refusal}
use Rattle.hlc_core.specs.declared.refusal.Refusal.TheVariants.{Full, NoEntry, NoMessage, NoNode, ReadingTooLarge, TooFarAhead, WrongNode, ZeroReading}
use Rattle.hlc_core.specs.Limit.{drift_if_next, exceeds}
use Rattle.hlc_core.specs.Request.{Request, ToDeliver, ToErase, ToPull, ToSend, ToSync, ToWrite}
use Rattle.hlc_core.specs.State.{State, is_live, sends_to}
use Rattle.hlc_core.specs.declared.accepted.Accepted.{Accepted}
use Rattle.hlc_core.specs.Step.{Accepts, Refuses, drift_refusals, entries_in, entry_and_message_refusals, entry_in, event_for, first_refusal, own_refusals, refusal_of, refused_or, size_and_target_refusals}
use Rattle.hlc_core.proofs.Passed.{passes}
use Rattle.hlc_held.specs.StatelessRefusals.{IsDue, IsOnState, reading_refusals, stateless_refusals}

abbrev Conditions : Type 0
Conditions = List (Bool × Refusal)

-- the first that holds of some conditions or, if none of them holds, of others
abbrev IsFirstOfBoth : Conditions → Conditions → Refusal → Type 0
IsFirstOfBoth rs more e = (first_refusal rs ≡ Some e) ⊎ ((first_refusal rs ≡ None) × (first_refusal more ≡ Some e))

first_of_both : (rs more : Conditions) (e : Refusal) → first_refusal (rs ++ more) ≡ Some e → IsFirstOfBoth rs more e
first_of_both [] more e is = inr (refl, is)
first_of_both ((true, r) ∷ rs) more e is = inl is
first_of_both ((false, r) ∷ rs) more e is = first_of_both rs more e is

stays_first : (rs more : Conditions) (e : Refusal) → first_refusal rs ≡ Some e → first_refusal (rs ++ more) ≡ Some e
stays_first [] more e is = absurd (cc is)
stays_first ((true, r) ∷ rs) more e is = is
stays_first ((false, r) ∷ rs) more e is = stays_first rs more e is

passed_over : (rs more : Conditions) → first_refusal rs ≡ None → first_refusal (rs ++ more) ≡ first_refusal more
passed_over [] more none = refl
passed_over ((true, r) ∷ rs) more none = absurd (cc none)
passed_over ((false, r) ∷ rs) more none = passed_over rs more none

-- if none of some conditions and of some others holds, none of the former does, and none of the latter
none_of_both : (rs more : Conditions) → first_refusal (rs ++ more) ≡ None → (first_refusal rs ≡ None) × (first_refusal more ≡ None)
none_of_both [] more none = (refl, none)
none_of_both ((true, r) ∷ rs) more none = absurd (cc none)
none_of_both ((false, r) ∷ rs) more none = none_of_both rs more none

only : (b : Bool) (r e : Refusal) → first_refusal ((b, r) ∷ []) ≡ Some e → (b ≡ true) × (r ≡ e)
only true r e is = (refl, cc is)
only false r e is = absurd (cc is)

-- what is asked of an entry or a message is on the state
message_on_state : (limit : Option ℕ) (missing other : Bool) (e : Refusal) (sent : ℕ)
    → first_refusal ((missing, NoMessage) ∷ (other, WrongNode) ∷ []) ≡ Some e
    → IsOnState limit e (ToDeliver sent)
message_on_state limit true other e sent is =
    let same : NoMessage ≡ e = cc is in
    subst (λ (r : Refusal). IsOnState limit r (ToDeliver sent)) same tt
message_on_state limit false other e sent is = subst (λ (r : Refusal). IsOnState limit r (ToDeliver sent)) (only other WrongNode e is).1 tt

entry_or_message_on_state : (limit : Option ℕ) (s : State) (node : ℕ) (e : Refusal) (request : Request)
    → first_refusal (entry_and_message_refusals s node request) ≡ Some e
    → IsOnState limit e request
entry_or_message_on_state limit s node e (ToWrite key value) is = absurd (cc is)
entry_or_message_on_state limit s node e (ToErase key) is = absurd (cc is)
entry_or_message_on_state limit s node e (ToSend to key) is =
    subst (λ (r : Refusal). IsOnState limit r (ToSend to key)) (only (is_none (entry_in s node key)) NoEntry e is).1 tt
entry_or_message_on_state limit s node e (ToSync to) is =
    subst (λ (r : Refusal). IsOnState limit r (ToSync to)) (only (length (entries_in s node) == 0) NoEntry e is).1 tt
entry_or_message_on_state limit s node e (ToDeliver sent) is =
    message_on_state limit (not (is_live s sent)) (not (sends_to s.history.events node sent)) e sent is
entry_or_message_on_state limit s node e (ToPull key value) is = absurd (cc is)

-- and so is what is asked of the drift, if there is a limit
limited : (limit : Option ℕ) (drift : ℕ) → exceeds limit drift ≡ true → IsSome limit
limited None drift is = absurd (cc is)
limited (Some limit) drift is = refl

drift_on_state : (limit : Option ℕ) (drift : ℕ) (e : Refusal) (request : Request)
    → first_refusal ((exceeds limit drift, TooFarAhead) ∷ []) ≡ Some e
    → IsOnState limit e request
drift_on_state limit drift e request is =
    let o = only (exceeds limit drift) TooFarAhead e is in
    subst (λ (r : Refusal). IsOnState limit r request) o.1 (limited limit drift o.0)

-- the node exists, so that isn't why
node_exists : (b : Bool) (more : Conditions) (e : Refusal) → b ≡ false → first_refusal ((b, NoNode) ∷ more) ≡ Some e
    → first_refusal more ≡ Some e
node_exists true more e not_missing is = absurd (cc not_missing)
node_exists false more e not_missing is = is

-- each refusal comes in order, by what is asked first, next, and so on
module _ (s : State) (node reading : ℕ) (request : Request) (e : Refusal) where
  abbrev sizes : Conditions
  sizes = size_and_target_refusals s.history.nodes node request

  abbrev later : Conditions
  later = entry_and_message_refusals s node request

  abbrev drifts : Conditions
  drifts = drift_refusals s (event_for s node reading request)

  abbrev full : Conditions
  full = (nat_le s.history.capacity (length s.history.events), Full) ∷ []

  abbrev Due : Type 0
  Due = IsDue s.history.nodes s.limit node reading request e

  own_due : first_refusal (reading_refusals reading) ≡ None → IsFirstOfBoth sizes later e → Due
  own_due readable (inl is) = inl (passed_over (reading_refusals reading) sizes readable ∙ is)
  own_due readable (inr more) = inr (inr (inl (
    entry_or_message_on_state s.limit s node e request more.1,
    passed_over (reading_refusals reading) sizes readable ∙ more.0,
  )))

  drift_due : first_refusal (reading_refusals reading) ≡ None → IsFirstOfBoth (own_refusals s node request) drifts e → Due
  drift_due readable (inl is) = own_due readable (first_of_both sizes later e is)
  drift_due readable (inr more) = inr (inr (inl (
    drift_on_state s.limit (drift_if_next s.history.events (event_for s node reading request)) e request more.1,
    passed_over (reading_refusals reading) sizes readable ∙ (none_of_both sizes later more.0).0,
  )))

  full_due : first_refusal (reading_refusals reading) ≡ None → IsFirstOfBoth full (own_refusals s node request ++ drifts) e → Due
  full_due readable (inl is) = inr (inl (sym (only (nat_le s.history.capacity (length s.history.events)) Full e is).1, readable))
  full_due readable (inr more) = drift_due readable (first_of_both (own_refusals s node request) drifts e more.1)

  reading_due : IsFirstOfBoth (reading_refusals reading) (full ++ own_refusals s node request ++ drifts) e → Due
  reading_due (inl is) = inl (stays_first (reading_refusals reading) sizes e is)
  reading_due (inr more) = full_due more.0 (first_of_both full (own_refusals s node request ++ drifts) e more.1)

  -- a refusal at a node that exists is due
  refusal_due : node < s.history.nodes → refusal_of s node reading request ≡ Some e → Due
  refusal_due here is =
      let test : nat_le s.history.nodes node ≡ false = grind (arith, nat_tests, here) in
      let more : Conditions = full ++ own_refusals s node request ++ drifts in
      reading_due (first_of_both (reading_refusals reading) more e (node_exists (nat_le s.history.nodes node) (reading_refusals reading ++ more) e test is))

-- and so is one of the cluster, `Memory` among them
pub refused_due : (s : State) (node reading : ℕ) (request : Request) (e : Refusal) → node < s.history.nodes
    → Refuses s node reading request e
    → IsDue s.history.nodes s.limit node reading request e
refused_due s node reading request e here (inl is) = refusal_due s node reading request e here is
refused_due s node reading request e here (inr memory) = inr (inr (inr memory.0))

none_of_own : (s : State) (node : ℕ) (request : Request) → first_refusal (own_refusals s node request) ≡ None
    → first_refusal (size_and_target_refusals s.history.nodes node request) ≡ None
none_of_own s node request none =
    (none_of_both (size_and_target_refusals s.history.nodes node request) (entry_and_message_refusals s node request) none).0

-- no condition that needs no state holds of a request that isn't refused
pub none_stateless : (s : State) (node reading : ℕ) (request : Request) → refusal_of s node reading request ≡ None
    → first_refusal (stateless_refusals s.history.nodes node reading request) ≡ None
none_stateless s node reading request none =
    let last : Conditions = (exceeds s.limit (drift_if_next s.history.events (event_for s node reading request)), TooFarAhead) ∷ [] in
    let full : Conditions = (nat_le s.history.capacity (length s.history.events), Full) ∷ own_refusals s node request ++ last in
    let large : Conditions = (nat_lt MAX_READING reading, ReadingTooLarge) ∷ full in
    let a = passes (nat_le s.history.nodes node) NoNode ((reading == 0, ZeroReading) ∷ large) none in
    let b = passes (reading == 0) ZeroReading large a.1 in
    let c = passes (nat_lt MAX_READING reading) ReadingTooLarge full b.1 in
    let d = passes (nat_le s.history.capacity (length s.history.events)) Full (own_refusals s node request ++ last) c.1 in
    rw (b.0, c.0) (none_of_own s node request (none_of_both (own_refusals s node request) last d.1).0)

not_refused : (o : Option Refusal) (made new : State) → refused_or o made ≡ Ok new → o ≡ None
not_refused None made new is = refl
not_refused (Some refusal) made new is = absurd (cc is)

pub accepted_none_stateless : (old new : State) (node reading : ℕ) (request : Request) (a : Accepted)
    → Accepts old node reading request a new
    → first_refusal (stateless_refusals old.history.nodes node reading request) ≡ None
accepted_none_stateless old new node reading request a accepts =
    none_stateless old node reading request (not_refused (refusal_of old node reading request) _ new accepts.step)
