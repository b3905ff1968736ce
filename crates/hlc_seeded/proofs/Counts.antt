-- How many steps were asked, in all and of each node.
use Rattle.std.proofs.Common.{◌≡◌, ◌≢◌, ◌∙◌, ℕ, inl, inr, zero, suc, ◌+◌, ◌*◌, ◌<◌, ◌≤◌, Bool, true, false, List, [], ◌∷◌, length, arith, refl, ap, sym, subst}
use Rattle.std.specs.Prelude.{◌==◌, cond}
use Rattle.std.proofs.lemmas.Bool.{cases_lt, eqb-true}
use Rattle.std.proofs.lemmas.Bool.Decides.{nat_tests}
use Rattle.hlc_core.specs.Asked.{Asked, ToAct, ToLose}
use Rattle.hlc_core.specs.Timed.{TimedRequest}
use Rattle.hlc_seeded.specs.Interleavings.{asked_at}

-- how many requests were made
abbrev pub acts_in : List Asked → ℕ
acts_in [] = 0
acts_in (ToAct node reading request ∷ more) = suc (acts_in more)
acts_in (ToLose sent ∷ more) = acts_in more

-- the sum over the numbers below n
abbrev pub total : (ℕ → ℕ) → ℕ → ℕ
total f zero = 0
total f (suc n) = total f n + f n

pub total_le : (f : ℕ → ℕ) (most n : ℕ) → ((m : ℕ) → m < n → f m ≤ most) → total f n ≤ n * most
total_le f most zero each = omega arith
total_le f most (suc n) each =
    let rest = total_le f most n (λ m lt. each m (omega arith)) in
    let last = each n (omega arith) in
    omega arith

total_same : (f g : ℕ → ℕ) (n : ℕ) → ((m : ℕ) → m < n → g m ≡ f m) → total g n ≡ total f n
total_same f g zero same = refl
total_same f g (suc n) same =
    let rest = total_same f g n (λ m lt. same m (omega arith)) in
    let last = same n (omega arith) in
    omega arith

total_none : (n : ℕ) → 0 ≡ total (λ m. 0) n
total_none zero = refl
total_none (suc n) =
    let rest = total_none n in
    omega arith

-- one more at one of the numbers
module _ (f g : ℕ → ℕ) (at : ℕ) (more : g at ≡ suc (f at)) (same : (m : ℕ) → m ≢ at → g m ≡ f m) where
  total_more_at : (n : ℕ) → at < suc n → (at < n → total g n ≡ suc (total f n)) → (t : Bool) → (n == at) ≡ t
      → total g (suc n) ≡ suc (total f (suc n))
  total_more_at n lt before true is =
      let here : n ≡ at = eqb-true n at is in
      let rest = total_same f g n (λ m below. same m (λ e. omega arith)) in
      let last : g n ≡ suc (f n) = subst (λ (k : ℕ). g k ≡ suc (f k)) (sym here) more in
      omega arith
  total_more_at n lt before false is =
      let other : n ≢ at = λ e. grind (arith, nat_tests, is, e) in
      let rest = before (omega arith) in
      let last = same n other in
      omega arith

  total_more : (n : ℕ) → at < n → total g n ≡ suc (total f n)
  total_more zero lt = absurd (omega arith)
  total_more (suc n) lt = total_more_at n lt (total_more n) (n == at) refl

-- each request is made of a node below n
abbrev pub AsksBelow : ℕ → List Asked → Type 0
AsksBelow n [] = Unit {0}
AsksBelow n (ToAct node reading request ∷ more) = (node < n) × AsksBelow n more
AsksBelow n (ToLose sent ∷ more) = AsksBelow n more

one_more : (x : TimedRequest) (xs : List TimedRequest) (t : Bool) → t ≡ true → length (cond t (x ∷ xs) xs) ≡ suc (length xs)
one_more x xs true is = refl
one_more x xs false is = absurd (cc)

none_more : (x : TimedRequest) (xs : List TimedRequest) (t : Bool) → t ≡ false → length (cond t (x ∷ xs) xs) ≡ length xs
none_more x xs true is = absurd (cc)
none_more x xs false is = refl

length_before : (x : TimedRequest) (xs : List TimedRequest) (t : Bool) → length (cond t (x ∷ xs) xs) ≡ 0 → length xs ≡ 0
length_before x xs true none = absurd (omega arith)
length_before x xs false none = none

-- the requests are those of all nodes together
pub acts_are_total : (n : ℕ) (asked : List Asked) → AsksBelow n asked → acts_in asked ≡ total (λ m. length (asked_at m asked)) n
acts_are_total n [] below = total_none n
acts_are_total n (ToAct node reading request ∷ more) below =
    let rest = acts_are_total n more below.1 in
    let x : TimedRequest = record { reading = reading; request = request } in
    let here : (node == node) ≡ true = grind (arith, nat_tests) in
    let bumped = total_more (λ m. length (asked_at m more)) (λ m. length (asked_at m (ToAct node reading request ∷ more))) node
    (one_more x (asked_at node more) (node == node) here)
    (λ m differs. none_more x (asked_at m more) (node == m) (grind (arith, nat_tests, differs))) n below.0 in
    ap suc rest ∙ sym bumped
acts_are_total n (ToLose sent ∷ more) below = acts_are_total n more below

-- if no node from n on is asked anything, each request is made of a node below n
pub asks_below : (n : ℕ) (asked : List Asked) → ((node : ℕ) → n ≤ node → length (asked_at node asked) ≡ 0) → AsksBelow n asked
asks_below n [] none = tt
asks_below n (ToLose sent ∷ more) none = asks_below n more none
asks_below n (ToAct node reading request ∷ more) none =
    let x : TimedRequest = record { reading = reading; request = request } in
    let here : (node == node) ≡ true = grind (arith, nat_tests) in
    let below : node < n = elim (cases_lt node n) [
      | inl lt ↦ lt
      | inr le ↦ (let some = one_more x (asked_at node more) (node == node) here in let no = none node le in absurd (omega arith))
    ] in
    (below, asks_below n more (λ m le. length_before x (asked_at m more) (node == m) (none m le)))
