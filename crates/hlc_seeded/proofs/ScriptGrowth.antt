-- Scripts grow step by step, and lists of scripts node by node.
use Rattle.std.proofs.Common.{◌≡◌, ◌∙◌, ℕ, zero, suc, ◌+◌, ◌*◌, ◌<◌, Bool, true, false, List, [], ◌∷◌, ◌++◌, arith, refl, ap, sym, add-one, add-zero, map, zero-add}
use Rattle.std.specs.Prelude.{cond}
use Rattle.std.specs.List.{range_with_len}
use Rattle.std.proofs.lemmas.List.FromFn.{map-range_with_len_more}
use Rattle.rand_pcg.specs.Lcg.{Lcg}
use Rattle.hlc_core.specs.Request.{Request}
use Rattle.hlc_core.specs.Timed.{TimedRequest}
use Rattle.hlc_seeded.specs.declared.draw.Draw.{Draw}
use Rattle.hlc_seeded.specs.Storm.{choice_for, draw_of, is_update, key_for, latest_key, reading_for, request_of_choice, script_of, step_of, word_at}
use Rattle.hlc_seeded.proofs.Words.{draw_of-on, on, on-on}

-- what is kept of the latest write or erasure: its key, once there is one
abbrev pub IsLatest : (ℕ → Draw) → ℕ → List ℕ → Type 0
IsLatest draws step latest = 0 < step → latest ≡ latest_key draws step

-- only a Send takes the latest key, and the first step is none
latest_serves : (draws : ℕ → Draw) (nodes node step a b : ℕ) (latest : List ℕ) → IsLatest draws step latest →
    let request = request_of_choice (choice_for step b) nodes node step a in request latest ≡ request (latest_key draws step)
latest_serves draws nodes node zero a b latest kept = refl
latest_serves draws nodes node (suc step) a b latest kept =
    ap (request_of_choice (choice_for (suc step) b) nodes node (suc step) a) (kept (omega arith))

-- one more step
pub script-more :
    (draws : ℕ → Draw) (nodes node step : ℕ) (list : List TimedRequest) (latest : List ℕ) (d : Draw) (reading : ℕ) (request : Request) →
    list ≡ script_of draws nodes step node → IsLatest draws step latest → d ≡ draws step → reading ≡ reading_for step d.a →
    request ≡ request_of_choice (choice_for step d.b) nodes node step d.a latest →
    list ++ record { reading = reading; request = request } ∷ [] ≡ script_of draws nodes (step + 1) node
script-more draws nodes node step list latest d reading request so_far kept drawn is_reading is_request =
    let one : ℕ → Request → TimedRequest = λ r q. record { reading = r; request = q } in
    let read : reading ≡ reading_for step (draws step).a = is_reading ∙ ap (λ (x : Draw). reading_for step x.a) drawn in
    let request_for : Draw → Request = λ x. request_of_choice (choice_for step x.b) nodes node step x.a (latest_key draws step) in
    let asked : request ≡ request_for (draws step) =
    is_request ∙ latest_serves draws nodes node step d.a d.b latest kept ∙ ap request_for drawn in
    ap (λ (xs : List TimedRequest). xs ++ one reading request ∷ []) so_far
    ∙ ap (λ (r : ℕ). script_of draws nodes step node ++ one r request ∷ []) read
    ∙ ap (λ (q : Request). script_of draws nodes step node ++ one (reading_for step (draws step).a) q ∷ []) asked
    ∙ sym (map-range_with_len_more (step_of draws nodes node) 0 step step (zero-add step))

-- if a step updates, its key is the latest; the first step does
pub updates_first : (step b : ℕ) → is_update (choice_for step b) ≡ false → 0 < step
updates_first zero b other = absurd (cc)
updates_first (suc step) b other = omega arith

pub after_step : (draws : ℕ → Draw) (step : ℕ) (d : Draw) (t : Bool) → d ≡ draws step → is_update (choice_for step d.b) ≡ t
    → latest_key draws (step + 1) ≡ cond t (key_for d.a) (latest_key draws step)
after_step draws step d t drawn is =
    let test : is_update (choice_for step (draws step).b) ≡ t = ap (λ (x : Draw). is_update (choice_for step x.b)) (sym drawn) ∙ is in
    ap (latest_key draws) (add-one step)
    ∙ ap (λ (u : Bool). cond u (key_for (draws step).a) (latest_key draws step)) test
    ∙ ap (λ (x : Draw). cond t (key_for x.a) (latest_key draws step)) (sym drawn)

pub latest-update :
    (draws : ℕ → Draw) (step : ℕ) (d : Draw) (latest : List ℕ) → d ≡ draws step → is_update (choice_for step d.b) ≡ true →
    latest ≡ key_for d.a → IsLatest draws (step + 1) latest
latest-update draws step d latest drawn updates is = λ _. is ∙ sym (after_step draws step d true drawn updates)

pub latest-stays :
    (draws : ℕ → Draw) (step : ℕ) (d : Draw) (latest : List ℕ) → d ≡ draws step → is_update (choice_for step d.b) ≡ false →
    IsLatest draws step latest → IsLatest draws (step + 1) latest
latest-stays draws step d latest drawn other kept =
    λ _. kept (updates_first step d.b other) ∙ sym (after_step draws step d false drawn other)

-- a generator from which two words were drawn for each step so far
module _ (g h : Lcg) (step : ℕ) (so_far : h ≡ on (2 * step) g) where
  pub drawn_at : (d : Draw) → d ≡ draw_of (word_at h) 0 → d ≡ draw_of (word_at g) step
  drawn_at d is = is ∙ ap (λ (x : Lcg). draw_of (word_at x) 0) so_far ∙ draw_of-on step 0 g ∙ ap (draw_of (word_at g)) (add-zero step)

  pub on-more : (k : Lcg) → k ≡ on 2 h → k ≡ on (2 * (step + 1)) g
  on-more k is =
      let more : 2 * step + 2 ≡ 2 * (step + 1) = omega arith in
      is ∙ ap (on 2) so_far ∙ on-on (2 * step) 2 g ∙ ap (λ (n : ℕ). on n g) more

-- the script of a node
abbrev pub script_at : (ℕ → ℕ) → (nodes steps node : ℕ) → List TimedRequest
script_at words nodes steps node = script_of (λ step. draw_of words (node * steps + step)) nodes steps node

-- the scripts of the first n nodes
abbrev pub first_scripts : (ℕ → ℕ) → (nodes steps n : ℕ) → List (List TimedRequest)
first_scripts words nodes steps n = map (script_at words nodes steps) (range_with_len 0 n)

same_draws : (f g : ℕ → Draw) → ((k : ℕ) → f k ≡ g k) → f ≡ g
same_draws f g same = λ i k. same k i

-- a generator from which two words were drawn for each step of the nodes so far
module _ (g h : Lcg) (nodes steps node : ℕ) (so_far : h ≡ on (2 * (node * steps)) g) where
  pub scripts-more :
      (scripts : List (List TimedRequest)) (script : List TimedRequest) → scripts ≡ first_scripts (word_at g) nodes steps node →
      script ≡ script_of (draw_of (word_at h)) nodes steps node → scripts ++ script ∷ [] ≡ first_scripts (word_at g) nodes steps (node + 1)
  scripts-more scripts script before is =
      let draws : ℕ → Draw = λ step. draw_of (word_at g) (node * steps + step) in
      let same : draw_of (word_at h) ≡ draws =
      same_draws (draw_of (word_at h)) draws (λ k. ap (λ (x : Lcg). draw_of (word_at x) k) so_far ∙ draw_of-on (node * steps) k g) in
      let mine : script ≡ script_at (word_at g) nodes steps node = is ∙ ap (λ (d : ℕ → Draw). script_of d nodes steps node) same in
      ap (λ (xs : List (List TimedRequest)). xs ++ script ∷ []) before
      ∙ ap (λ (x : List TimedRequest). first_scripts (word_at g) nodes steps node ++ x ∷ []) mine
      ∙ sym (map-range_with_len_more (script_at (word_at g) nodes steps) 0 node node (zero-add node))

  pub on-script : (k : Lcg) → k ≡ on (2 * steps) h → k ≡ on (2 * ((node + 1) * steps)) g
  on-script k is =
      let more : 2 * (node * steps) + 2 * steps ≡ 2 * ((node + 1) * steps) = omega arith in
      is ∙ ap (on (2 * steps)) so_far ∙ on-on (2 * (node * steps)) (2 * steps) g ∙ ap (λ (n : ℕ). on n g) more
