-- Chains and their rows.
use Rattle.std.proofs.Common.{◌≡◌, ◌∙◌, ℕ, suc, ◌+◌, ◌<◌, ◌≤◌, inl, inr, All, List, [], ◌∷◌, ◌++◌, Option, Some, None, arith, ap, append_assoc, drop, drop-cons, get_or, length, subst, sym}
use Rattle.std.specs.Prelude.{IfSome, nat_lt}
use Rattle.std.proofs.lemmas.Bool.{cases_Bool}
use Rattle.std.proofs.lemmas.Bool.Decides.{nat_tests}
use Rattle.std.proofs.lemmas.List.Elements.{All-append, All-cons, All-head, All-nil, All-tail, Contains-get_or}
use Rattle.hlc_stamp.specs.Ids.{places_of}
use Rattle.hlc_stamp.specs.declared.id.EventId.{EventId}
use Rattle.hlc_stamp.specs.Order.{Pair}
use Rattle.hlc_causality.specs.ClockChain.{ClockForcesAlong, IsClockChainOf}
use Rattle.hlc_causality.specs.ClockEvents.{ClockEvents}
use Rattle.hlc_causality.specs.FollowedClockChains.{clock_chain_of}
use Rattle.hlc_causality.proofs.ClockChains.{clock_chain_of_exists}
use Rattle.hlc_causality.proofs.ClockForcing.{clock_forcing_is_earlier}
use Rattle.hlc_causality.proofs.FollowedClockChains.{clock_chain_is_followed}
use Rattle.hlc_figures.specs.ChainRows.{IsRising, RisesAfter, StandsBefore, between, gap_rows, next_row, rows_from, rows_of, standing}
use Rattle.hlc_figures.specs.Chosen.{chosen}
use Rattle.hlc_figures.specs.Content.{Content, clock_events_of}
use Rattle.hlc_figures.specs.Scene.{IsRowOf}
use Rattle.hlc_figures.specs.declared.scene.Scene.{Scene}
use Rattle.hlc_figures.specs.declared.rows.Row.{Row}
use Rattle.hlc_figures.specs.declared.rows.Row.TheVariants.{Between, Chained}
use Rattle.hlc_figures.specs.declared.standing.Standing.{Standing}
use Rattle.hlc_figures.proofs.Links.{chosen_exists}

-- each event of a chain is later than the one before it
rises_along : (t : ClockEvents) (pairs : List Pair) (d : ℕ) (rest : List ℕ) (f : ℕ) → ClockForcesAlong t pairs d rest f → RisesAfter d rest
rises_along t pairs d [] f h = tt
rises_along t pairs d (m ∷ rest) f h = (clock_forcing_is_earlier t pairs d m h.0, rises_along t pairs m rest f h.1)

pub chain_rises : (t : ClockEvents) (pairs : List Pair) (f : ℕ) (chain : List ℕ) → IsClockChainOf t pairs f chain → IsRising chain
chain_rises t pairs f [] h = tt
chain_rises t pairs f (e ∷ rest) h = rises_along t pairs e rest f h.forces

pub chosen_rises : (c : Content) (explained : Option EventId) → IsRising (chosen (clock_events_of c) c.stamps explained)
chosen_rises c None = tt
chosen_rises c (Some e) =
    let t = clock_events_of c in
    elim (cases_Bool (nat_lt e.0 (length (clock_events_of c)))) [
      | inl is ↦
          let exists : e.0 < length (clock_events_of c) = grind (arith, nat_tests, is) in
          let found = clock_chain_of_exists t c.stamps e.0 exists in
          let same : found.0 ≡ clock_chain_of t c.stamps e.0 = clock_chain_is_followed t c.stamps e.0 found.0 exists found.1 in
          rw is (subst (λ (chain : List ℕ). IsRising chain) same (chain_rises t c.stamps e.0 found.0 found.1))
      | inr isnt ↦ rw isnt tt
    ]

pub listed_rises :
    (c : Content) (explained : Option EventId) (list : List EventId) → places_of list ≡ chosen (clock_events_of c) c.stamps explained →
    IsRising (places_of list)
listed_rises c explained list is = subst (λ (chain : List ℕ). IsRising chain) (sym is) (chosen_rises c explained)

-- the events of a chain exist
pub chosen_all_exist : (c : Content) (explained : Option EventId) → All (λ e. e < length c.events) (chosen (clock_events_of c) c.stamps explained)
chosen_all_exist c explained k d lt =
    let list = chosen (clock_events_of c) c.stamps explained in chosen_exists c explained (get_or list k d) (Contains-get_or list k d lt)

-- a chain has no more rows after an event than there are events after that
rows_fit :
    (d : Standing) (chain : List ℕ) (n : ℕ) → RisesAfter d.event.0 chain → All (λ e. e < n) chain → d.event.0 < n →
    length (rows_from (Some d) chain) + d.event.0 < n
rows_fit d [] n rises all lt = omega arith
rows_fit d (e ∷ chain) n rises all lt =
    let earlier : d.event.0 < e = rises.0 in
    let there : e < n = All-head (λ (e : ℕ). e < n) e chain all in
    let later : length (rows_from (Some (standing (Some d) e)) chain) + e < n =
    rows_fit (standing (Some d) e) chain n rises.1 (All-tail (λ (e : ℕ). e < n) e chain all) there in
    elim (cases_Bool (nat_lt 0 (between d.event.0 e))) [
      | inl some ↦
          let apart : 0 < between d.event.0 e = grind (arith, nat_tests, some) in
          let fits = rw some at later in rw some (omega (arith, fits))
      | inr none ↦ let fits = rw none at later in rw none (omega (arith, fits))
    ]

first_rows_fit : (chain : List ℕ) (n : ℕ) → IsRising chain → All (λ e. e < n) chain → length (rows_of chain) ≤ n
first_rows_fit [] n rises all = omega arith
first_rows_fit (e ∷ chain) n rises all =
    let there : e < n = All-head (λ (e : ℕ). e < n) e chain all in
    let later = rows_fit (standing None e) chain n rises (All-tail (λ (e : ℕ). e < n) e chain all) there in
    omega (arith, later)

-- so all have numbers
pub chosen_rows_fit : (c : Content) (explained : Option EventId) → length (rows_of (chosen (clock_events_of c) c.stamps explained)) ≤ length c.events
chosen_rows_fit c explained =
    first_rows_fit (chosen (clock_events_of c) c.stamps explained) (length c.events) (chosen_rises c explained) (chosen_all_exist c explained)

pub listed_rows_fit :
    (c : Content) (explained : Option EventId) (list : List EventId) (rows : List Row) →
    places_of list ≡ chosen (clock_events_of c) c.stamps explained → rows ≡ rows_of (places_of list) → length rows ≤ length c.events
listed_rows_fit c explained list rows is are =
    subst (λ (rows : List Row). length rows ≤ length c.events) (sym (are ∙ ap rows_of is)) (chosen_rows_fit c explained)

-- and the events of the rows exist
gap_exists : (c : Content) (s : Scene) (before : Option Standing) (e : ℕ) → All (IsRowOf c s) (gap_rows before e)
gap_exists c s None e = All-nil (IsRowOf c s)
gap_exists c s (Some d) e =
    elim (cases_Bool (nat_lt 0 (between d.event.0 e))) [
      | inl some ↦ rw some (All-cons (IsRowOf c s) (Between (record { count = between d.event.0 e; row = d.row + 1 })) [] tt (All-nil (IsRowOf c s)))
      | inr none ↦ rw none (All-nil (IsRowOf c s))
    ]

rows_exist :
    (c : Content) (s : Scene) (before : Option Standing) (chain : List ℕ) → IfSome before (λ d. d.event.0 < length c.events) →
    All (λ e. e < length c.events) chain → All (IsRowOf c s) (rows_from before chain)
rows_exist c s before [] there all = All-nil (IsRowOf c s)
rows_exist c s before (e ∷ chain) there all =
    let exists : e < length c.events = All-head (λ (e : ℕ). e < length c.events) e chain all in
    let at = standing before e in
    let rest = rows_exist c s (Some (standing before e)) chain exists (All-tail (λ (e : ℕ). e < length c.events) e chain all) in
    All-append (IsRowOf c s) (gap_rows before e) (Chained (record { at = standing before e; before = before }) ∷ rows_from (Some (standing before e)) chain)
    (gap_exists c s before e)
    (All-cons (IsRowOf c s) (Chained (record { at = standing before e; before = before })) (rows_from (Some (standing before e)) chain) (exists, there) rest)

pub listed_rows_exist :
    (c : Content) (s : Scene) (explained : Option EventId) (list : List EventId) (rows : List Row) →
    places_of list ≡ chosen (clock_events_of c) c.stamps explained → rows ≡ rows_of (places_of list) → All (IsRowOf c s) rows
listed_rows_exist c s explained list rows is are =
    subst (λ (rows : List Row). All (IsRowOf c s) rows) (sym (are ∙ ap rows_of is))
    (rows_exist c s None (chosen (clock_events_of c) c.stamps explained) tt (chosen_all_exist c explained))

-- what is left of a chain rises, after the event that came last, which stands in no later row than there were events
abbrev pub RisesFrom : Option Standing → List ℕ → Type 0
RisesFrom None chain = IsRising chain
RisesFrom (Some d) chain = (d.row ≤ d.event.0) × RisesAfter d.event.0 chain

pub stands_before : (before : Option Standing) (e : ℕ) (chain : List ℕ) → RisesFrom before (e ∷ chain) → StandsBefore before e
stands_before None e chain rises = tt
stands_before (Some d) e chain rises = (rises.1.0, rises.0)

pub rises_on : (before : Option Standing) (at : Standing) (chain : List ℕ) → RisesFrom before (at.event.0 ∷ chain) → at.row ≤ at.event.0 →
    RisesFrom (Some at) chain
rises_on None at chain rises early = (early, rises)
rises_on (Some d) at chain rises early = (early, rises.1.1)

-- the events of a list from a place on
listed_from : (list : List EventId) (i : ℕ) (d : EventId) → i < length list →
    places_of (drop i list) ≡ (get_or list i d).0 ∷ places_of (drop (i + 1) list)
listed_from list i d lt =
    let next : suc i ≡ i + 1 = omega arith in
    let e : EventId = get_or list i d in
    ap (λ (xs : List EventId). places_of xs) (drop-cons list i d lt ∙ ap (λ (n : ℕ). get_or list i d ∷ drop n list) next)

-- the rows of an event go before those of the rest
rows_go_on :
    (before : Option Standing) (e : ℕ) (chain : List ℕ) (rows : List Row) →
    ((rows ++ gap_rows before e) ++ Chained (record { at = standing before e; before = before }) ∷ []) ++ rows_from (Some (standing before e)) chain
    ≡ rows ++ rows_from before (e ∷ chain)
rows_go_on before e chain rows =
    let stop : Row = Chained (record { at = standing before e; before = before }) in
    append_assoc (rows ++ gap_rows before e) (stop ∷ []) (rows_from (Some (standing before e)) chain)
    ∙ append_assoc rows (gap_rows before e) (stop ∷ rows_from (Some (standing before e)) chain)

-- so it is at each place of a list
module _ (before : Option Standing) (list : List EventId) (i : ℕ) (d : EventId) (lt : i < length list) where
  from_here : RisesFrom before (places_of (drop i list)) → RisesFrom before ((get_or list i d).0 ∷ places_of (drop (i + 1) list))
  from_here rises = subst (λ (chain : List ℕ). RisesFrom before chain) (listed_from list i d lt) rises

  pub next_stands : RisesFrom before (places_of (drop i list)) → StandsBefore before (get_or list i d).0
  next_stands rises = stands_before before (get_or list i d).0 (places_of (drop (i + 1) list)) (from_here rises)

  pub next_rises : (at : Standing) → at ≡ standing before (get_or list i d).0 → at.row ≤ (get_or list i d).0 →
      RisesFrom before (places_of (drop i list)) → RisesFrom (Some at) (places_of (drop (i + 1) list))
  next_rises at is early rises =
      let stands : next_row before (get_or list i d).0 ≤ (get_or list i d).0 =
      subst (λ (s : Standing). s.row ≤ (get_or list i d).0) is early in
      subst (λ (s : Standing). RisesFrom (Some s) (places_of (drop (i + 1) list))) (sym is)
      (rises_on before (standing before (get_or list i d).0) (places_of (drop (i + 1) list)) (from_here rises) stands)

  pub next_rows : (at : Standing) (rows grown new all : List Row) → at ≡ standing before (get_or list i d).0 →
      grown ≡ rows ++ gap_rows before (get_or list i d).0 → new ≡ grown ++ Chained (record { at = at; before = before }) ∷ [] →
      rows ++ rows_from before (places_of (drop i list)) ≡ all →
      new ++ rows_from (Some at) (places_of (drop (i + 1) list)) ≡ all
  next_rows at rows grown new all is gap added whole =
      let e : ℕ = (get_or list i d).0 in
      let chain = places_of (drop (i + 1) list) in
      let here = ap (λ (xs : List ℕ). rows ++ rows_from before xs) (listed_from list i d lt) in
      let stop = λ (s : Standing) (g : List Row). (g ++ Chained (record { at = s; before = before }) ∷ []) ++ rows_from (Some s) chain in
      ap (λ (r : List Row). r ++ rows_from (Some at) chain) added ∙ ap (λ (s : Standing). stop s grown) is
      ∙ ap (λ (g : List Row). stop (standing before (get_or list i d).0) g) gap
      ∙ rows_go_on before (get_or list i d).0 chain rows ∙ sym here ∙ whole
