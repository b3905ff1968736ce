-- What is asked of a step of a seeded script, it passes.
use Rattle.std.proofs.Common.{◌≡◌, ◌≢◌, ◌∙◌, ℕ, inl, inr, zero, suc, ◌+◌, ◌-◌, ◌*◌, ◌/◌, ◌%◌, ◌^◌, ◌<◌, ◌≤◌, Bool, true, false, List, ◌++◌, length, arith, refl, ap, subst, None, length-append}
use Rattle.std.specs.Prelude.{◌==◌, codes, cond, decimal, nat_le, nat_lt}
use Rattle.std.proofs.Math.Nat.{mod-eq_of_lt, mod-lt}
use Rattle.std.proofs.lemmas.Bool.{cases_lt}
use Rattle.std.proofs.lemmas.Bool.Decides.{nat_tests}
use Rattle.std.proofs.lemmas.Fmt.{length-decimal-le}
use Rattle.std.proofs.lemmas.Nat.{mod-mul-add}
use Rattle.hlc_stamp.specs.declared.limits.TheConstants.{MAX_KEY_LEN, MAX_READING, MAX_VALUE_LEN}
use Rattle.hlc_core.specs.State.{State}
use Rattle.hlc_core.specs.Step.{PassesCommon, first_refusal, is_bad_key, is_bad_value, own_refusals}
use Rattle.hlc_core.specs.Request.{ToPull}
use Rattle.hlc_core.proofs.Answering.{may_be_sent, may_be_written, target_passes}
use Rattle.hlc_seeded.specs.declared.draw.Choice.{Choice}
use Rattle.hlc_seeded.specs.declared.draw.Choice.TheVariants.{Erase, Pull, Send, Write}
use Rattle.hlc_seeded.specs.declared.draw.Draw.{Draw}
use Rattle.hlc_seeded.specs.Storm.{choice_for, is_update, key_for, latest_key, request_of_choice, step_of, target_for, value_for}
use Rattle.hlc_seeded.proofs.EntriesStay.{HasEntry}

good_key : (key : List ℕ) → 1 ≤ length key → length key ≤ MAX_KEY_LEN → is_bad_key key ≡ false
good_key key some few = grind (arith, nat_tests, some, few)

good_value : (value : List ℕ) → length value ≤ MAX_VALUE_LEN → is_bad_value value ≡ false
good_value value few = grind (arith, nat_tests, few)

key_is_good : (a : ℕ) → is_bad_key (key_for a) ≡ false
key_is_good a =
    let n = a / 64 % 4 in
    let one : length (decimal n) ≤ 1 = length-decimal-le 1 n (omega arith) (omega arith) (omega arith) in
    let size = length-append (codes "k") (decimal n) in
    good_key (key_for a) (omega arith) (omega arith)

value_is_good : (node step : ℕ) → node < 2 ^ 64 → step < 2 ^ 64 → is_bad_value (value_for node step) ≡ false
value_is_good node step small_node small_step =
    let node_len : length (decimal node) ≤ 20 = length-decimal-le 20 node (omega arith) (omega arith) small_node in
    let step_len : length (decimal step) ≤ 20 = length-decimal-le 20 step (omega arith) (omega arith) small_step in
    let both = length-append (decimal node ++ codes ".") (decimal step) in
    let first = length-append (decimal node) (codes ".") in
    good_value (value_for node step) (omega arith)

-- a target is another node
target_exists : (nodes node a : ℕ) → 2 ≤ nodes → target_for nodes node a < nodes
target_exists nodes node a enough = mod-lt (node + 1 + a / 256 % (nodes - 1)) (omega arith)

wraps : (nodes node ahead : ℕ) → node < nodes → 1 ≤ ahead → ahead < nodes → (node + ahead) % nodes ≢ node
wraps nodes node ahead exists some few = elim (cases_lt (node + ahead) nodes) [
  | inl below ↦ (λ same. let is = mod-eq_of_lt below in absurd (omega arith))
  | inr past ↦ (λ same.
      let over : 1 * nodes + (node + ahead - nodes) ≡ node + ahead = omega arith in
      let is = mod-mul-add 1 nodes (node + ahead - nodes) (omega arith) in
      let same_over = ap (λ (n : ℕ). n % nodes) over in
      absurd (omega arith))
]

target_is_other : (nodes node a : ℕ) → 2 ≤ nodes → node < nodes → target_for nodes node a ≢ node
target_is_other nodes node a enough exists =
    let t = a / 256 % (nodes - 1) in
    let few : t < nodes - 1 = mod-lt (a / 256) (omega arith) in
    let sum : node + (1 + t) ≡ node + 1 + t = omega arith in
    subst (λ (n : ℕ). n % nodes ≢ node) sum (wraps nodes node (1 + t) exists (omega arith) (omega arith))

-- the latest key is a key, once there is one
picked : (a b : ℕ) (latest : List ℕ) (t : Bool) → latest ≡ key_for b → (c : ℕ) × (cond t (key_for a) latest ≡ key_for c)
picked a b latest true is = (a, refl)
picked a b latest false is = (b, is)

latest_is_key : (draws : ℕ → Draw) (step : ℕ) → (a : ℕ) × (latest_key draws (suc step) ≡ key_for a)
latest_is_key draws zero = ((draws zero).a, refl)
latest_is_key draws (suc step) =
    let before = latest_is_key draws step in
    picked (draws (suc step)).a before.0 (latest_key draws (suc step)) (is_update (choice_for (suc step) (draws (suc step)).b)) before.1

latest_is_good : (draws : ℕ → Draw) (step : ℕ) → 0 < step → is_bad_key (latest_key draws step) ≡ false
latest_is_good draws zero some = absurd (omega arith)
latest_is_good draws (suc step) some =
    let is = latest_is_key draws step in
    ap is_bad_key is.1 ∙ key_is_good is.0

sends_later : (step b : ℕ) → choice_for step b ≡ Send → 0 < step
sends_later zero b sends = absurd (cc)
sends_later (suc step) b sends = omega arith

-- what is asked of every request
pub passes_common : (s : State) (node reading : ℕ) → node < s.history.nodes → 1 ≤ reading → reading ≤ MAX_READING →
    length s.history.events < s.history.capacity → PassesCommon s node reading
passes_common s node reading exists some few room =
    let a : nat_le s.history.nodes node ≡ false = grind (arith, nat_tests, exists) in
    let b : (reading == 0) ≡ false = grind (arith, nat_tests, some) in
    let c : nat_lt MAX_READING reading ≡ false = grind (arith, nat_tests, few) in
    let d : nat_le s.history.capacity (length s.history.events) ≡ false = grind (arith, nat_tests, room) in
    rw (a, b, c, d) refl

-- what is asked of the request of a step
module _ (s : State) (draws : ℕ → Draw) (node step : ℕ) (enough : 2 ≤ s.history.nodes) (exists : node < s.history.nodes)
    (small_node : node < 2 ^ 64) (small_step : step < 2 ^ 64) (entry : 0 < step → HasEntry s.history.events node (latest_key draws step)) where
  -- a pull, and a write too, of the step's value is let through
  value_passes : (a : ℕ) → first_refusal (own_refusals s node (ToPull (key_for a) (value_for node step))) ≡ None
  value_passes a = may_be_written s node (key_for a) (value_for node step) (key_is_good a) (value_is_good node step small_node small_step)

  passes : (a b : ℕ) (c : Choice) → choice_for step b ≡ c →
      first_refusal (own_refusals s node (request_of_choice c s.history.nodes node step a (latest_key draws step))) ≡ None
  passes a b Write is = value_passes a
  passes a b Erase is = rw (key_is_good a) refl
  passes a b Send is =
      let later = sends_later step b is in
      let had = entry later in
      let to = target_for s.history.nodes node a in
      let to_exists = target_exists s.history.nodes node a enough in
      let to_other = target_is_other s.history.nodes node a enough exists in
      may_be_sent s node to had.0 (latest_key draws step) (latest_is_good draws step later)
      (target_passes s node to (grind (arith, nat_tests, to_exists)) (grind (arith, nat_tests, to_other))) had.1
  passes a b Pull is = value_passes a

  pub passes_own : first_refusal (own_refusals s node (step_of draws s.history.nodes node step).request) ≡ None
  passes_own = passes (draws step).a (draws step).b (choice_for step (draws step).b) refl
