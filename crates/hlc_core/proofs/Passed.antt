-- What a request that isn't refused has passed, and so what it may make happen.
use Rattle.std.proofs.Common.{◌≡◌, ◌≢◌, ℕ, ◌<◌, ◌≤◌, Bool, true, false, List, [], ◌∷◌, ◌++◌, length, arith, refl, ap, Ok, Option, Some, None}
use Rattle.std.specs.Prelude.{◌==◌, nat_lt, nat_le, IsSome}
use Rattle.std.proofs.lemmas.List.Elements.{All-contains}
use Rattle.std.proofs.lemmas.Map.Views.{Contains-from_any}
use Rattle.std.proofs.lemmas.Bool.{eqb-true}
use Rattle.std.proofs.lemmas.Bool.Decides.{nat_tests}
use Rattle.hlc_stamp.specs.declared.limits.TheConstants.{MAX_READING}
use Rattle.hlc_arena.specs.Arena.{IsKey, IsValue}
use Rattle.hlc_arena.specs.History.{event_at, target_of}
use Rattle.hlc_core.specs.declared.refusal.Refusal.{Refusal}
use Rattle.hlc_core.specs.declared.refusal.Refusal.TheVariants.{Full, KeySize, NoNode, NoTarget, ReadingTooLarge, SelfSend, ValueSize, ZeroReading}
use Rattle.hlc_core.specs.State.{IsLawfulState, State, is_live, is_target, sends_to}
use Rattle.hlc_core.specs.Step.{common_refusals, first_refusal, is_bad_key, is_bad_value, refused_or, size_refusals, target_refusals}

-- the state that a request leaves that isn't refused
pub made_is : (o : Option Refusal) (made new : State) → refused_or o made ≡ Ok new → new ≡ made
made_is None made new is = cc is
made_is (Some refusal) made new is = cc is

pub passes : (b : Bool) (r : Refusal) (rest : List (Bool × Refusal)) → first_refusal ((b, r) ∷ rest) ≡ None →
    (b ≡ false) × (first_refusal rest ≡ None)
passes true r rest h = absurd (cc)
passes false r rest h = (refl, h)

-- what was asked of every accepted request
pub record IsPassed (s : State) (node reading : ℕ) : Type 0 where
  pub exists : node < s.history.nodes
  pub positive : 1 ≤ reading
  pub in_range : reading ≤ MAX_READING
  pub room : length s.history.events < s.history.capacity

pub common_passed : (s : State) (node reading : ℕ) → first_refusal (common_refusals s node reading) ≡ None → IsPassed s node reading
common_passed s node reading h =
    let full = (nat_le s.history.capacity (length s.history.events), Full) ∷ [] in
    let large = (nat_lt MAX_READING reading, ReadingTooLarge) ∷ full in
    let a = passes (nat_le s.history.nodes node) NoNode ((reading == 0, ZeroReading) ∷ large) h in
    let b = passes (reading == 0) ZeroReading large a.1 in
    let c = passes (nat_lt MAX_READING reading) ReadingTooLarge full b.1 in
    let d = passes (nat_le s.history.capacity (length s.history.events)) Full [] c.1 in
    record {
      exists = grind (arith, nat_tests, a.0);
      positive = grind (arith, nat_tests, b.0);
      in_range = grind (arith, nat_tests, c.0);
      room = grind (arith, nat_tests, d.0);
    }

-- sizes that nothing is wrong with
pub good_sizes : (key value : List ℕ) → first_refusal (size_refusals key value) ≡ None
    → (is_bad_key key ≡ false) × (is_bad_value value ≡ false)
good_sizes key value h =
    let a = passes (is_bad_key key) KeySize ((is_bad_value value, ValueSize) ∷ []) h in
    let b = passes (is_bad_value value) ValueSize [] a.1 in
    (a.0, b.0)

pub good_key : (key : List ℕ) → is_bad_key key ≡ false → IsKey key
good_key key h = grind (arith, nat_tests, h)

pub good_value : (value : List ℕ) → is_bad_value value ≡ false → IsValue value
good_value value h = grind (arith, nat_tests, h)

target_is : (node : ℕ) (o : Option ℕ) → is_target node o ≡ true → o ≡ Some node
target_is node None h = absurd (cc)
target_is node (Some to) h = ap (λ n. Some n) (eqb-true to node h)

-- a live message that is addressed to the node was sent to it
pub live_is_sent : (s : State) (node sent : ℕ) → IsLawfulState s → is_live s sent ≡ true → sends_to s.history.events node sent ≡ true →
    (sent < length s.history.events) × (target_of (event_at s.history.events sent).kind ≡ Some node)
live_is_sent s node sent lawful live to =
    let IsSendThere : ℕ → Type 0 = λ m. (m < length s.history.events) × IsSome (target_of (event_at s.history.events m).kind) in
    let among = Contains-from_any (λ x y e. eqb-true x y e) sent s.live live in
    let send = All-contains IsSendThere s.live sent lawful.sent among in
    (send.0, target_is node (target_of (event_at s.history.events sent).kind) to)

differs : (to node : ℕ) → (to == node) ≡ false → to ≢ node
differs to node h = λ same. grind (arith, nat_tests, h, same)

-- a target that nothing is wrong with, and what is asked after it
pub good_target : (s : State) (node to : ℕ) (b : Bool) (refusal : Refusal) →
    first_refusal (target_refusals s.history.nodes node to ++ (b, refusal) ∷ []) ≡ None →
    (to < s.history.nodes) × (to ≢ node) × (b ≡ false)
good_target s node to b refusal none =
    let last = (b, refusal) ∷ [] in
    let other = (to == node, SelfSend) ∷ last in
    let x = passes (nat_le s.history.nodes to) NoTarget other none in
    let y = passes (to == node) SelfSend last x.1 in
    let z = passes b refusal [] y.1 in
    (grind (arith, nat_tests, x.0), differs to node y.0, z.0)
