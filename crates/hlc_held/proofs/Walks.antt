-- Walks along a node's events.
use Rattle.std.proofs.Common.{◌≡◌, ◌∙◌, ℕ, zero, suc, ◌+◌, ◌-◌, ◌<◌, ◌≤◌, inl, inr, Bool, true, false, cond, List, [], ◌∷◌, ◌++◌, length, length-append, map, arith, refl, sym, ap, subst, Option, Some, None, eq-eqb}
use Rattle.std.specs.Prelude.{◌==◌, ◌||◌, ◌↔◌, IfSome, filter, option_map}
use Rattle.std.specs.List.{flat_map}
use Rattle.std.proofs.lemmas.Bool.{cases_eq, ne_eqb}
use Rattle.std.proofs.lemmas.List.{append-nil, append_assoc, append_cancel_left}
use Rattle.std.proofs.lemmas.Option.{same_Some}
use Rattle.std.proofs.lemmas.List.Folds.{list_any-append}
use Rattle.hlc_stamp.specs.Ids.{is_among}
use Rattle.hlc_stamp.specs.declared.id.EventId.{EventId}
use Rattle.hlc_arena.specs.History.{StampedEvent, event_at}
use Rattle.hlc_arena.specs.Known.{entry_of, everywhere, known_writes, learnt_at, rows_of_writes, table_of, value_of, writes_learnt}
use Rattle.hlc_causality.specs.Places.{places_below}
use Rattle.hlc_causality.proofs.PlacesBelow.{filter-places_more}
use Rattle.hlc_arena.proofs.TableRows.{tables_show_entries_lem}
use Rattle.hlc_table.specs.declared.entry.Entry.{Entry}
use Rattle.hlc_table.specs.Rows.{Row, entry_at}
use Rattle.hlc_table.specs.Tables.{entry_for, rows_before, table_row}
use Rattle.hlc_table.proofs.TableRows.{entry_at-rows}
use Rattle.hlc_arena.specs.NodeEvents.{IsEventOf}
use Rattle.hlc_table.specs.NodeEvents.{NamesNextFrom}
use Rattle.hlc_table.specs.NodeWalk.{StandsAt, place_of_next, walk_of}
use Rattle.hlc_table.proofs.PlacesGiven.{given_below}
use Rattle.hlc_held.specs.Agreement.{places_of_node}
use Rattle.hlc_held.specs.declared.seen.Seen.{Seen}
use Rattle.hlc_held.specs.LogEntry.{Sight, sight_of}
use Rattle.hlc_held.specs.Sights.{sight_of_key, sight_of_write}
use Rattle.hlc_held.specs.Walks.{places_passed}

module _ (p : ℕ → Bool) where
  -- places that don't pass change nothing
  filter_stays_by : (low n : ℕ) → ((d : ℕ) → low ≤ d → d < low + n → p d ≡ false)
      → filter p (places_below (low + n)) ≡ filter p (places_below low)
  filter_stays_by low zero none = let same : low + 0 ≡ low = omega arith in ap (λ (n : ℕ). filter p (places_below n)) same
  filter_stays_by low (suc n) none =
      let next : low + suc n ≡ suc (low + n) = omega arith in
      let here : p (low + n) ≡ false = none (low + n) (omega arith) (omega arith) in
      ap (λ (n : ℕ). filter p (places_below n)) next
      ∙ filter-places_more p (low + n)
      ∙ ap (λ (b : Bool). filter p (places_below (low + n)) ++ cond b ((low + n) ∷ []) []) here
      ∙ append-nil (filter p (places_below (low + n)))
      ∙ filter_stays_by low n (λ d from lt. none d from (omega arith))

  filter_stays : (low high : ℕ) → low ≤ high → ((d : ℕ) → low ≤ d → d < high → p d ≡ false)
      → filter p (places_below high) ≡ filter p (places_below low)
  filter_stays low high le none =
      let n : ℕ = high - low in
      let is : low + n ≡ high = omega arith in
      ap (λ (n : ℕ). filter p (places_below n)) (sym is) ∙ filter_stays_by low n (λ d from lt. none d from (omega arith))

  -- a place that passes comes next
  filter_passes : (e : ℕ) → p e ≡ true → filter p (places_below (suc e)) ≡ filter p (places_below e) ++ e ∷ []
  filter_passes e here = filter-places_more p e ∙ ap (λ (b : Bool). filter p (places_below e) ++ cond b (e ∷ []) []) here

  -- and after it others
  filter_splits : (e n : ℕ) → p e ≡ true → (more : List ℕ) × (filter p (places_below (suc e + n)) ≡ filter p (places_below e) ++ e ∷ more)
  filter_splits e zero here =
      ([], let same : suc e + 0 ≡ suc e = omega arith in ap (λ (n : ℕ). filter p (places_below n)) same ∙ filter_passes e here)
  filter_splits e (suc n) here =
      let before = filter_splits e n here in
      let m : ℕ = suc e + n in
      let next : suc e + suc n ≡ suc m = omega arith in (
        before.0 ++ cond (p m) (m ∷ []) [],
        ap (λ (n : ℕ). filter p (places_below n)) next
            ∙ filter-places_more p m
            ∙ ap (λ (xs : List ℕ). xs ++ cond (p m) (m ∷ []) []) before.1
            ∙ append_assoc (filter p (places_below e)) (e ∷ before.0) (cond (p m) (m ∷ []) []),
      )

  -- whether a place is among those below n that pass
  abbrev among : ℕ → ℕ → Bool
  among n e = is_among (filter p (places_below n)) e

  among_last : (n e : ℕ) (b : Bool) → is_among (cond b (n ∷ []) []) e ≡ cond b ((e == n) || false) false
  among_last n e true = refl
  among_last n e false = refl

  among_more : (n e : ℕ) → among (suc n) e ≡ (among n e || cond (p n) ((e == n) || false) false)
  among_more n e =
      ap (λ (xs : List ℕ). is_among xs e) (filter-places_more p n)
      ∙ list_any-append (λ place. e == place) (filter p (places_below n)) (cond (p n) (n ∷ []) [])
      ∙ ap (λ (b : Bool). among n e || b) (among_last n e (p n))

  not_last : (b : Bool) → cond b (false || false) false ≡ false
  not_last true = refl
  not_last false = refl

  is_last : (b : Bool) → cond b (true || false) false ≡ b
  is_last true = refl
  is_last false = refl

  or_not : (b : Bool) → (b || false) ≡ b
  or_not true = refl
  or_not false = refl

  among_past : (n e : ℕ) → n ≤ e → among n e ≡ false
  among_past zero e le = refl
  among_past (suc n) e le =
      let other : (e == n) ≡ false = ne_eqb e n (λ same. absurd (omega arith)) in
      among_more n e
      ∙ ap (λ (b : Bool). b || cond (p n) ((e == n) || false) false) (among_past n e (omega arith))
      ∙ ap (λ (b : Bool). cond (p n) (b || false) false) other
      ∙ not_last (p n)

  among_below : (n e : ℕ) → e < n → among n e ≡ p e
  among_below zero e lt = absurd (omega arith)
  among_below (suc n) e lt = elim (cases_eq e n) [
    | inl same ↦
        among_more n e
        ∙ ap (λ (b : Bool). b || cond (p n) ((e == n) || false) false) (among_past n e (omega arith))
        ∙ ap (λ (b : Bool). cond (p n) (b || false) false) (eq-eqb e n same)
        ∙ is_last (p n)
        ∙ ap p (sym same)
    | inr ne ↦
        among_more n e
        ∙ ap (λ (b : Bool). b || cond (p n) ((e == n) || false) false) (among_below n e (omega arith))
        ∙ ap (λ (b : Bool). p e || cond (p n) (b || false) false) (ne_eqb e n ne)
        ∙ ap (λ (b : Bool). p e || b) (not_last (p n))
        ∙ or_not (p e)
  ]

-- what a look at an entry shows
abbrev pub sight_with : List StampedEvent → Entry → Sight
sight_with events entry = record { entry = entry; value = value_of (event_at events entry.write.0).kind }

module _ (events : List StampedEvent) (node : ℕ) where
  abbrev at_node : ℕ → Bool
  at_node e = (event_at events e).node == node

  abbrev passed_below : ℕ → List ℕ
  passed_below n = filter at_node (places_below n)

  is_here : (e : ℕ) → IsEventOf events node e → at_node e ≡ true
  is_here e event = eq-eqb (event_at events e).node node event.at_node

  isn't_here : (e : ℕ) → e < length events → (IsEventOf events node e → ⊥) → at_node e ≡ false
  isn't_here e exists none = ne_eqb (event_at events e).node node (λ same. none (record { exists = exists; at_node = same }))

  -- up to the next event from a place on no more were passed
  pub passed_from : (low : ℕ) (next : Option EventId) → NamesNextFrom events node low next → low ≤ length events
      → places_passed events node next ≡ passed_below low
  passed_from low None names le =
      filter_stays at_node low (length events) le (λ d from lt. isn't_here d lt (λ event. let before = names d event in absurd (omega arith)))
  passed_from low (Some e) names le =
      let exists = names.event.exists in
      filter_stays at_node low e.0 names.from
      (λ d from lt. isn't_here d (omega arith) (λ event. let later = names.first d event from in absurd (omega arith)))

  -- the next event is passed
  pub passed_more : (e : ℕ) → IsEventOf events node e → passed_below (e + 1) ≡ passed_below e ++ e ∷ []
  passed_more e event = let next : e + 1 ≡ suc e = omega arith in ap passed_below next ∙ filter_passes at_node e (is_here e event)

  -- the node's events are those that were passed, the next, and others
  passed_then : (e : ℕ) → IsEventOf events node e → (more : List ℕ) × (places_of_node events node ≡ passed_below e ++ e ∷ more)
  passed_then e event =
      let exists = event.exists in
      let n : ℕ = length events - suc e in
      let all : suc e + n ≡ length events = omega arith in
      let split = filter_splits at_node e n (is_here e event) in
      (split.0, ap passed_below (sym all) ∙ split.1)

  -- the next event is passed
  pub next_passed : (next then : Option EventId) (event : EventId) → IfSome next (λ e. IsEventOf events node e.0) → next ≡ Some event
      → NamesNextFrom events node (place_of_next events next + 1) then
      → places_passed events node then ≡ places_passed events node next ++ event.0 ∷ []
  next_passed next then event stands is names =
      let there : IsEventOf events node event.0 = subst (λ (o : Option EventId). IfSome o (λ e. IsEventOf events node e.0)) is stands in
      let exists = there.exists in
      let from : NamesNextFrom events node (event.0 + 1) then =
      subst (λ (o : Option EventId). NamesNextFrom events node (place_of_next events o + 1) then) is names in
      passed_from (event.0 + 1) then from (omega arith) ∙ passed_more event.0 there
      ∙ ap (λ (o : Option EventId). places_passed events node o ++ event.0 ∷ []) (sym is)

  -- an event that a log names after those that were passed is the next
  pub named_is_next : (known : List Row) (next : Option EventId) (event : EventId) (rest : List ℕ)
      → StandsAt events (walk_of node known next)
      → (places_passed events node next ++ event.0 ∷ []) ++ rest ≡ places_of_node events node → next ≡ Some event
  named_is_next known None event rest stands is =
      let all = places_of_node events node in
      let longer : length ((all ++ event.0 ∷ []) ++ rest) ≡ length all + 1 + length rest =
      length-append (all ++ event.0 ∷ []) rest ∙ ap (λ (n : ℕ). n + length rest) (length-append all (event.0 ∷ [])) in
      let same : length ((all ++ event.0 ∷ []) ++ rest) ≡ length all = ap (λ (xs : List ℕ). length xs) is in
      absurd (omega arith)
  named_is_next known (Some e) event rest stands is =
      let then = passed_then e.0 stands.next_is in
      let both : event.0 ∷ rest ≡ e.0 ∷ then.0 =
      append_cancel_left (passed_below e.0) (event.0 ∷ rest) (e.0 ∷ then.0)
      (sym (append_assoc (passed_below e.0) (event.0 ∷ []) rest) ∙ is ∙ then.1) in
      let same : e.0 ≡ event.0 = cc both in
      ap (λ (n : ℕ). let id : EventId = record { 0 = n } in Some id) same

  -- if all of the node's events were passed, there is no next one
  pub none_is_next : (known : List Row) (next : Option EventId) → StandsAt events (walk_of node known next)
      → places_passed events node next ≡ places_of_node events node → next ≡ None
  none_is_next known None stands is = refl
  none_is_next known (Some e) stands is =
      let then = passed_then e.0 stands.next_is in
      let longer : length (passed_below e.0 ++ e.0 ∷ then.0) ≡ length (passed_below e.0) + length (e.0 ∷ then.0) =
      length-append (passed_below e.0) (e.0 ∷ then.0) in
      let same : length (passed_below e.0) ≡ length (passed_below e.0 ++ e.0 ∷ then.0) = ap (λ (xs : List ℕ). length xs) (is ∙ then.1) in
      absurd (omega arith)

  learnt_inside : (b : Bool) (ws : List ℕ) → cond b (cond b ws []) [] ≡ cond b ws []
  learnt_inside true ws = refl
  learnt_inside false ws = refl

  -- the writes known from the events below a place
  known_below : (n : ℕ) → n ≤ length events
      → known_writes events (is_among (passed_below n)) node ≡ flat_map (learnt_at events everywhere node) (places_below n)
  known_below n le =
      let k : ℕ = length events - n in
      let all : n + k ≡ length events = omega arith in
      let there : ℕ → List ℕ = λ e. writes_learnt events e (event_at events e).kind in
      let f : ℕ → List ℕ = learnt_at events (is_among (passed_below n)) node in
      ap (λ (m : ℕ). flat_map f (places_below m)) (sym all)
      ∙ given_below f (learnt_at events everywhere node) n k
      (λ e lt. ap (λ (b : Bool). cond b (cond (at_node e) (there e) []) []) (among_below at_node n e lt) ∙ learnt_inside (at_node e) (there e))
      (λ e from lt. ap (λ (b : Bool). cond b (cond (at_node e) (there e) []) []) (among_past at_node n e from))

  -- so the table shows the entries from the events that were passed
  entries_below : (n : ℕ) (known : List Row) (key : List ℕ) → n ≤ length events → known ≡ rows_before events node n
      → entry_at known key ≡ option_map (entry_for events) (entry_of events (is_among (passed_below n)) node key)
  entries_below n known key le is =
      let places = is_among (passed_below n) in
      let rows : known ≡ map (table_row events) (table_of events places node) =
      is ∙ ap (λ (ws : List ℕ). map (table_row events) (rows_of_writes events ws)) (sym (known_below n le)) in
      ap (λ (t : List Row). entry_at t key) rows
      ∙ entry_at-rows events (table_of events places node) key
      ∙ ap (option_map (entry_for events)) (tables_show_entries_lem events places node key)

  shown_by : (o : Option ℕ) (r : Option Entry) → r ≡ option_map (entry_for events) o
      → option_map (sight_of_write events) o ≡ option_map (sight_with events) r
  shown_by None r is = ap (option_map (sight_with events)) (sym is)
  shown_by (Some w) r is = ap (option_map (sight_with events)) (sym is)

  place_exists : (known : List Row) (next : Option EventId) → StandsAt events (walk_of node known next)
      → place_of_next events next ≤ length events
  place_exists known None stands = omega arith
  place_exists known (Some e) stands = let exists = stands.next_is.exists in omega arith

  -- what a look at a key shows
  pub sight_from_table : (known : List Row) (next : Option EventId) (key : List ℕ) → StandsAt events (walk_of node known next)
      → sight_of_key events (is_among (places_passed events node next)) node key ≡ option_map (sight_with events) (entry_at known key)
  sight_from_table known next key stands =
      let n = place_of_next events next in
      shown_by (entry_of events (is_among (passed_below n)) node key) (entry_at known key)
      (entries_below n known key (place_exists known next stands) stands.known_is)

-- both sides of a comparison by what they are
pub compared : {A : Type 0} (a b x y : A) (P : Type 0) → a ≡ x → b ≡ y → (P ↔ (x ≡ y)) → P ↔ (a ≡ b)
compared a b x y P is_x is_y h = (λ p. is_x ∙ h.0 p ∙ sym is_y, λ same. h.1 (sym is_x ∙ same ∙ is_y))

-- what was seen is what an entry shows, if it has the entry and its value
pub same_sight : (events : List StampedEvent) (seen : Seen) (entry : Entry) (P : Type 0)
    → (P ↔ ((seen.entry ≡ entry) × (option_map (λ v. v.items) seen.value ≡ value_of (event_at events entry.write.0).kind)))
    → P ↔ (Some (sight_of seen) ≡ Some (sight_with events entry))
same_sight events seen entry P h = (
  λ p.
      let same = h.0 p in
      ap (λ (e : Entry). let s : Sight = record { entry = e; value = option_map (λ v. v.items) seen.value } in Some s) same.0
      ∙ ap (λ (v : Option (List ℕ)). let s : Sight = record { entry = entry; value = v } in Some s) same.1,
  λ is. let same = same_Some (sight_of seen) (sight_with events entry) is in h.1 (ap (λ (s : Sight). s.entry) same, ap (λ (s : Sight). s.value) same),
)
