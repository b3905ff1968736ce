-- What an interleaving of seeded scripts asks next.
use Rattle.std.proofs.Common.{◌≡◌, ◌∙◌, ℕ, inl, inr, ◌+◌, ◌*◌, ◌<◌, ◌≤◌, Bool, true, false, List, [], ◌∷◌, ◌++◌, length, arith, refl, ap, sym, append_assoc, get_or, length-append, zero-add}
use Rattle.std.specs.Prelude.{◌==◌, cond, slice_index_or}
use Rattle.std.proofs.Math.Seq.{get_or-append_seam}
use Rattle.std.proofs.lemmas.Bool.{cases_lt}
use Rattle.std.proofs.lemmas.Bool.Decides.{nat_tests}
use Rattle.std.proofs.lemmas.List.{get_or_past}
use Rattle.std.proofs.lemmas.List.FromFn.{get_or-map-range_with_len, length-map-range_with_len}
use Rattle.hlc_core.specs.Asked.{Asked, ToAct, ToLose}
use Rattle.hlc_core.specs.Request.{Request}
use Rattle.hlc_core.specs.Timed.{TimedRequest}
use Rattle.hlc_seeded.specs.declared.draw.Draw.{Draw}
use Rattle.hlc_seeded.specs.Interleavings.{IsInterleaving, asked_at}
use Rattle.hlc_seeded.specs.Storm.{draw_of, script_of, scripts_of, step_of}
use Rattle.hlc_seeded.proofs.Counts.{acts_are_total, acts_in, asks_below, total_le}

cond-append : (x : TimedRequest) (xs ys : List TimedRequest) (t : Bool) → cond t (x ∷ (xs ++ ys)) (xs ++ ys) ≡ cond t (x ∷ xs) xs ++ ys
cond-append x xs ys true = refl
cond-append x xs ys false = refl

pub asked_at-append : (node : ℕ) (xs ys : List Asked) → asked_at node (xs ++ ys) ≡ asked_at node xs ++ asked_at node ys
asked_at-append node [] ys = refl
asked_at-append node (ToAct other reading request ∷ more) ys =
    let x : TimedRequest = record { reading = reading; request = request } in
    ap (λ (l : List TimedRequest). cond (other == node) (x ∷ l) l) (asked_at-append node more ys)
    ∙ cond-append x (asked_at node more) (asked_at node ys) (other == node)
asked_at-append node (ToLose sent ∷ more) ys = asked_at-append node more ys

-- what comes first of an interleaving is one
pub interleaving_before : (lists : List (List TimedRequest)) (xs ys : List Asked) → IsInterleaving lists (xs ++ ys)
    → IsInterleaving lists xs
interleaving_before lists xs ys interleaving = λ node. (
  asked_at node ys ++ (interleaving node).0,
  sym (append_assoc (asked_at node xs) (asked_at node ys) (interleaving node).0)
      ∙ ap (λ (l : List TimedRequest). l ++ (interleaving node).0) (sym (asked_at-append node xs ys))
      ∙ (interleaving node).1,
)

-- the draws of a node's steps
abbrev pub draws_at : (ℕ → ℕ) → ℕ → ℕ → ℕ → Draw
draws_at words steps node step = draw_of words (node * steps + step)

module _ (words : ℕ → ℕ) (nodes steps : ℕ) where
  abbrev script_at : ℕ → List TimedRequest
  script_at node = script_of (draws_at words steps node) nodes steps node

  script_is : (node : ℕ) → node < nodes → slice_index_or (scripts_of words nodes steps) node [] ≡ script_at node
  script_is node lt = get_or-map-range_with_len script_at 0 nodes node node [] lt (zero-add node)

  no_script : (node : ℕ) → nodes ≤ node → slice_index_or (scripts_of words nodes steps) node [] ≡ []
  no_script node le =
      let size = length-map-range_with_len script_at 0 nodes in
      get_or_past (scripts_of words nodes steps) node [] (omega arith)

  -- an interleaving asks as many requests as there are steps, at most
  module _ (asked : List Asked) (interleaving : IsInterleaving (scripts_of words nodes steps) asked) where
    few_at : (node : ℕ) → node < nodes → length (asked_at node asked) ≤ steps
    few_at node lt =
        let size = length-append (asked_at node asked) (interleaving node).0 in
        let all = ap length ((interleaving node).1 ∙ script_is node lt) in
        let given = length-map-range_with_len (step_of (draws_at words steps node) nodes node) 0 steps in
        omega arith

    none_at : (node : ℕ) → nodes ≤ node → length (asked_at node asked) ≡ 0
    none_at node le =
        let size = length-append (asked_at node asked) (interleaving node).0 in
        let all : length (asked_at node asked ++ (interleaving node).0) ≡ 0 = ap length ((interleaving node).1 ∙ no_script node le) in
        omega arith

    pub few_acts : acts_in asked ≤ nodes * steps
    few_acts =
        let all = acts_are_total nodes asked (asks_below nodes asked none_at) in
        let most = total_le (λ m. length (asked_at m asked)) steps nodes few_at in
        omega arith

  -- the request that an interleaving makes next is the next step of its node's script
  pub record IsNextStep (done : List Asked) (node reading : ℕ) (request : Request) : Type 0 where
    pub exists : node < nodes
    pub within : length (asked_at node done) < steps
    pub reads : reading ≡ (step_of (draws_at words steps node) nodes node (length (asked_at node done))).reading
    pub asks : request ≡ (step_of (draws_at words steps node) nodes node (length (asked_at node done))).request

  module _ (done more : List Asked) (node reading : ℕ) (request : Request)
      (interleaving : IsInterleaving (scripts_of words nodes steps) (done ++ ToAct node reading request ∷ more)) where
    abbrev asked : TimedRequest
    asked = record { reading = reading; request = request }

    -- what the node is asked later
    abbrev rest : List TimedRequest
    rest = asked_at node more ++ (interleaving node).0

    here : asked_at node (done ++ ToAct node reading request ∷ more) ≡ asked_at node done ++ asked ∷ asked_at node more
    here =
        let same : (node == node) ≡ true = grind (arith, nat_tests) in
        asked_at-append node done (ToAct node reading request ∷ more)
        ∙ ap (λ (t : Bool). asked_at node done ++ cond t (asked ∷ asked_at node more) (asked_at node more)) same

    script_has : asked_at node done ++ asked ∷ rest ≡ slice_index_or (scripts_of words nodes steps) node []
    script_has =
        sym (append_assoc (asked_at node done) (asked ∷ asked_at node more) (interleaving node).0)
        ∙ ap (λ (l : List TimedRequest). l ++ (interleaving node).0) (sym here)
        ∙ (interleaving node).1

    node_exists : node < nodes
    node_exists = elim (cases_lt node nodes) [
      | inl lt ↦ lt
      | inr le ↦ (
          let size = length-append (asked_at node done) (asked ∷ rest) in
          let none : length (asked_at node done ++ asked ∷ rest) ≡ 0 = ap length (script_has ∙ no_script node le) in
          absurd (omega arith))
    ]

    pub next_step : IsNextStep done node reading request
    next_step =
        let k = length (asked_at node done) in
        let f = step_of (draws_at words steps node) nodes node in
        let is = script_has ∙ script_is node node_exists in
        let size = length-append (asked_at node done) (asked ∷ rest) in
        let all = ap length is in
        let given = length-map-range_with_len f 0 steps in
        let within : k < steps = omega arith in
        let at : asked ≡ f k =
        sym (get_or-append_seam (asked_at node done) asked rest asked)
        ∙ ap (λ (l : List TimedRequest). get_or l k asked) is
        ∙ get_or-map-range_with_len f 0 steps k k asked within (zero-add k) in
        record {
          exists = node_exists;
          within = within;
          reads = ap (λ (x : TimedRequest). x.reading) at;
          asks = ap (λ (x : TimedRequest). x.request) at;
        }
