-- The rows of a node, place by place.
use Rattle.std.proofs.Common.{◌≡◌, ◌≢◌, ◌∙◌, ℕ, zero, suc, ◌+◌, ◌-◌, ◌<◌, ◌≤◌, Bool, cond, List, [], length, map, arith, sym, ap, eq-eqb}
use Rattle.std.proofs.lemmas.Bool.{ne_eqb}
use Rattle.hlc_arena.specs.History.{StampedEvent, event_at}
use Rattle.hlc_arena.specs.Known.{everywhere, learnt_at, writes_learnt}
use Rattle.hlc_arena.specs.KnownSteps.{rows_from}
use Rattle.hlc_arena.proofs.TableSteps.{rows_grow_lem}
use Rattle.hlc_arena.specs.NodeEvents.{IsEventOf}
use Rattle.hlc_table.specs.Tables.{rows_before, rows_with, table_row}
use Rattle.hlc_table.proofs.RowsLearnt.{rows_learnt-with}

module _ (events : List StampedEvent) (node : ℕ) where
  one_more : (n : ℕ) → n < length events
      → rows_before events node (n + 1) ≡ rows_with events (rows_before events node n) (learnt_at events everywhere node n)
  one_more n lt =
      ap (map (table_row events)) (rows_grow_lem events everywhere node n lt)
      ∙ rows_learnt-with events (rows_from events everywhere node n) (learnt_at events everywhere node n)

  -- another node's event makes nothing known here
  none_elsewhere : (e : ℕ) → (event_at events e).node ≢ node → learnt_at events everywhere node e ≡ []
  none_elsewhere e other =
      ap (λ (b : Bool). cond b (writes_learnt events e (event_at events e).kind) []) (ne_eqb (event_at events e).node node other)

  pub all_here : (e : ℕ) → (event_at events e).node ≡ node
      → learnt_at events everywhere node e ≡ writes_learnt events e (event_at events e).kind
  all_here e here =
      ap (λ (b : Bool). cond b (writes_learnt events e (event_at events e).kind) []) (eq-eqb (event_at events e).node node here)

  rows_pass : (low n : ℕ) → low + n ≤ length events → ((d : ℕ) → IsEventOf events node d → low ≤ d → low + n ≤ d)
      → rows_before events node (low + n) ≡ rows_before events node low
  rows_pass low zero within none = let same : low + 0 ≡ low = omega arith in ap (rows_before events node) same
  rows_pass low (suc n) within none =
      let here : (event_at events (low + n)).node ≢ node = λ at_node.
      let le = none (low + n) (record { exists = omega arith; at_node = at_node }) (omega arith) in
      omega arith in
      let next : low + suc n ≡ (low + n) + 1 = omega arith in
      ap (rows_before events node) next
      ∙ one_more (low + n) (omega arith)
      ∙ ap (rows_with events (rows_before events node (low + n))) (none_elsewhere (low + n) here)
      ∙ rows_pass low n (omega arith) (λ d event from. let le = none d event from in omega arith)

  -- the rows stay between two places if the node has no event there
  pub rows_stay : (low high : ℕ) → low ≤ high → high ≤ length events → ((d : ℕ) → IsEventOf events node d → low ≤ d → high ≤ d)
      → rows_before events node high ≡ rows_before events node low
  rows_stay low high le within none =
      let n : ℕ = high - low in
      let is : low + n ≡ high = omega arith in
      ap (rows_before events node) (sym is) ∙ rows_pass low n (omega arith) (λ d event from. let past = none d event from in omega arith)

  -- an event of the node adds what it makes known
  pub rows_after_event : (e : ℕ) → IsEventOf events node e
      → rows_before events node (e + 1) ≡ rows_with events (rows_before events node e) (writes_learnt events e (event_at events e).kind)
  rows_after_event e event = one_more e event.exists ∙ ap (rows_with events (rows_before events node e)) (all_here e event.at_node)
