-- An arena's events are those of its execution, and stay so when one more is pushed.
use Rattle.std.proofs.Common.{◌≡◌, ℕ, ◌+◌, ◌<◌, ◌≤◌, Option, Some, None, List, [], ◌∷◌, ◌++◌, length, length-append, map, arith, refl, sym, ap, subst, ◌∙◌}
use Rattle.std.specs.Prelude.{IfSome, slice_index_or}
use Rattle.std.specs.List.{All}
use Rattle.std.proofs.lemmas.List.{append-nil, get_or-map, length-map, length_push, map_push}
use Rattle.std.proofs.lemmas.List.Elements.{All-push}
use Rattle.hlc_stamp.specs.Order.{Pair}
use Rattle.hlc_causality.specs.Assignment.{pair_at}
use Rattle.hlc_causality.specs.Causality.{Skeleton, SkeletonEvent, skeleton_at}
use Rattle.hlc_execution.specs.Execution.{IsSource, StoredExecution}
use Rattle.hlc_pages.specs.Log.{Extends, Log}
use Rattle.hlc_pages.specs.Pages.{PagedItems}
use Rattle.std.specs.declared.alloc.Global.{Global}
use Rattle.std.specs.declared.sync.ArcSlice.{ArcSlice}
use Rattle.hlc_stamp.specs.declared.id.EventId.{EventId}
use Rattle.hlc_stamp.specs.declared.id.NodeId.{NodeId}
use Rattle.hlc_stamp.specs.Ids.{places_of}
use Rattle.std.specs.Arc.{arc_slice_items}
use Rattle.hlc_arena.specs.declared.stored_kind.StoredKind.TheVariants.{Deliver, Sync}
use Rattle.hlc_arena.specs.Arena.{MayFollow, StoredHistory, history_of}
use Rattle.hlc_arena.specs.declared.stored_kind.StoredKind.{StoredKind}
use Rattle.hlc_arena.specs.History.{Delivered, Erased, Event, EventKind, History, Sent, StampedEvent, Synced, Written, causality_of, delivered_send, event_at, stamped_at, stamps_of, target_of}
use Rattle.hlc_arena.specs.Stored.{AreKept, IsArena, IsStored, events_in, kind_in, places_in, stamped_events, stored_history}
use Rattle.hlc_arena.proofs.Following.{delivers_at_target, delivers_earlier}
use Rattle.hlc_arena.proofs.Histories.{length_skeleton, length_stamps, skeleton_at_place, skeleton_push, stamps_push}
use Rattle.hlc_arena.proofs.StampedEvents.{length-stamped_events, stamped_event, stamped_events-at, stamped_events-push}
use Rattle.hlc_arena.proofs.StoredKinds.{all_stay_stored, kinds_stay}

-- what the lists of syncs are kept in
abbrev pub StoredLists : Type 0
StoredLists = PagedItems (ArcSlice EventId Global)

module _ {x : StoredExecution} {kinds : List StoredKind} {pages lists : List (List ℕ)} (kept : AreKept x kinds pages lists) where
  abbrev before : List StampedEvent
  before = events_in x kinds pages lists

  abbrev happened : List EventKind
  happened = map (kind_in pages lists) kinds

  stamped : length x.stamps ≡ length x.events
  stamped = ap length (sym kept.stamps) ∙ length_stamps before ∙ sym (length_skeleton before) ∙ ap length kept.events

  many : length happened ≡ length x.events
  many = length-map kinds (kind_in pages lists) ∙ kept.one_each

  pub length-events_in : length before ≡ length x.events
  length-events_in = length-stamped_events x.events x.stamps happened stamped many

  module _ (i : ℕ) (lt : i < length x.events) where
    abbrev with_kind : EventKind → StampedEvent
    with_kind kind = stamped_event (skeleton_at x.events i) (pair_at x.stamps i) kind

    -- the event at a place is that of the execution, with its stamp and its kind
    pub event_there : (kind : StoredKind) → stamped_at before i ≡ with_kind (kind_in pages lists (slice_index_or kinds i kind))
    event_there kind =
        let exists : i < length kinds = omega (arith, kept.one_each) in
        stamped_events-at x.events x.stamps happened (kind_in pages lists kind) i stamped many lt
        ∙ ap with_kind (get_or-map (kind_in pages lists) kinds i kind (kind_in pages lists kind) exists)

    -- what happened there is what the kind that is kept stands for
    pub kind_there : {kind : StoredKind} → kind ≡ slice_index_or kinds i kind → kind_in pages lists kind ≡ (event_at before i).kind
    kind_there {kind} is = ap (kind_in pages lists) is ∙ sym (ap (λ (y : StampedEvent). y.event.kind) (event_there kind))

    pub stored_there : {kind : StoredKind} → kind ≡ slice_index_or kinds i kind → IsStored pages lists kind
    stored_there {kind} is = subst (IsStored pages lists) (sym is) (kept.stored i kind (omega (arith, kept.one_each)))

  -- one more event, whose kind is stored
  module _
      (new : StoredExecution) (more_pages more : List (List ℕ)) (e : SkeletonEvent) (p : Pair) (stored : StoredKind) (kind : EventKind)
      (extends : Extends pages more_pages) (events : new.events ≡ x.events ++ e ∷ []) (stamps : new.stamps ≡ x.stamps ++ p ∷ [])
      (there : IsStored more_pages (lists ++ more) stored) (is : kind_in more_pages (lists ++ more) stored ≡ kind) where
    abbrev after : List StampedEvent
    after = events_in new (kinds ++ stored ∷ []) more_pages (lists ++ more)

    pub events_in-push : after ≡ before ++ stamped_event e p kind ∷ []
    events_in-push =
        let stands_for = kind_in more_pages (lists ++ more) in
        let stay = kinds_stay pages more_pages lists more extends kinds kept.stored in
        let kinds_after : map stands_for (kinds ++ stored ∷ []) ≡ happened ++ kind ∷ [] =
        map_push stands_for kinds stored
        ∙ ap (λ (ks : List EventKind). ks ++ stands_for stored ∷ []) stay
        ∙ ap (λ (k : EventKind). happened ++ k ∷ []) is in
        ap (λ (ks : List EventKind). stamped_events new.events new.stamps ks) kinds_after
        ∙ ap (λ (es : Skeleton). stamped_events es new.stamps (happened ++ kind ∷ [])) events
        ∙ ap (λ (ps : List Pair). stamped_events (x.events ++ e ∷ []) ps (happened ++ kind ∷ [])) stamps
        ∙ stamped_events-push x.events x.stamps happened e p kind stamped many

    pub kept-push : e.send ≡ delivered_send kind → length more ≤ 1 → AreKept new (kinds ++ stored ∷ []) more_pages (lists ++ more)
    kept-push send few =
        let y = stamped_event e p kind in
        let sending : Option ℕ → SkeletonEvent = λ s. record { node = e.node; reading = e.reading; send = s } in
        let longer : length new.events ≡ length x.events + 1 = ap length events ∙ length_push x.events e in
        let stay = all_stay_stored pages more_pages lists more extends kinds kept.stored in
        record {
          events = ap causality_of events_in-push ∙ skeleton_push before y
              ∙ ap (λ (es : Skeleton). es ++ sending (delivered_send kind) ∷ []) kept.events
              ∙ ap (λ (s : Option ℕ). x.events ++ sending s ∷ []) (sym send) ∙ sym events;
          stamps = ap stamps_of events_in-push ∙ stamps_push before y ∙ ap (λ (ps : List Pair). ps ++ p ∷ []) kept.stamps ∙ sym stamps;
          one_each = omega (arith, length_push kinds stored, kept.one_each);
          stored = All-push (IsStored more_pages (lists ++ more)) kinds stored stay there;
          few_lists = omega (arith, length-append lists more, kept.few_lists);
        }

-- what is shown of an arena is what it keeps
module _
    {shown : StoredHistory} {capacity : ℕ} {x : StoredExecution} {kinds : PagedItems StoredKind} {log : Log} {lists : StoredLists}
    (arena : IsArena capacity x kinds log lists) (view : stored_history capacity x kinds log lists ≡ shown) where
  pub length-shown : length shown.events ≡ length x.events
  length-shown = ap (λ (a : StoredHistory). length a.events) (sym view) ∙ length-events_in arena.kept

  module _ (i : ℕ) (lt : i < length shown.events) where
    within : i < length x.events
    within = omega (arith, length-shown)

    -- what the kind that is kept there stands for
    pub kind_shown : {kept kind : StoredKind} → kept ≡ slice_index_or kinds.items i kept → kept ≡ kind →
        kind_in log.pages (places_in lists.items) kind ≡ (event_at shown.events i).kind
    kind_shown at is =
        sym (ap (kind_in log.pages (places_in lists.items)) is)
        ∙ kind_there arena.kept i within at ∙ ap (λ (a : StoredHistory). (event_at a.events i).kind) view

    -- it is kept, and so is what it names
    pub kind_exists : i < length kinds.items
    kind_exists = omega (arith, arena.kept.one_each, within)

    pub stored_shown : {kept kind : StoredKind} → kept ≡ slice_index_or kinds.items i kept → kept ≡ kind →
        IsStored log.pages (places_in lists.items) kind
    stored_shown at is = subst (IsStored log.pages (places_in lists.items)) is (stored_there arena.kept i within at)

    pub list_exists : {to : NodeId} {list : ℕ} {kept : StoredKind} → kept ≡ slice_index_or kinds.items i kept → kept ≡ Sync to list →
        list < length lists.items
    list_exists at is =
        let exists = stored_shown at is in
        let size = length-map lists.items (λ (l : ArcSlice EventId Global). places_of (arc_slice_items l)) in
        omega (arith, exists, size)

    pub event_shown : stamped_at shown.events i ≡ stamped_event (skeleton_at x.events i) (pair_at x.stamps i) (event_at shown.events i).kind
    event_shown =
        let here = event_there arena.kept i within (Deliver (record { 0 = 0 })) in
        let kind = sym (ap (λ (y : StampedEvent). y.event.kind) here) ∙ ap (λ (a : StoredHistory). (event_at a.events i).kind) view in
        ap (λ (a : StoredHistory). stamped_at a.events i) (sym view) ∙ here
        ∙ ap (stamped_event (skeleton_at x.events i) (pair_at x.stamps i)) kind

    -- the list of a sync
    pub list_shown : {to : NodeId} {list : ℕ} {kept : StoredKind} {writes : ArcSlice EventId Global} →
        kept ≡ slice_index_or kinds.items i kept → kept ≡ Sync to list → writes ≡ slice_index_or lists.items list writes →
        places_of (arc_slice_items writes) ≡ slice_index_or (places_in lists.items) list []
    list_shown {list = list} {writes = writes} at is there =
        let places : ArcSlice EventId Global → List ℕ = λ l. places_of (arc_slice_items l) in
        let stored = stored_there arena.kept i within at in
        let exists : list < length (places_in lists.items) = subst (IsStored log.pages (places_in lists.items)) is stored in
        let size = length-map lists.items places in
        ap places there ∙ sym (get_or-map places lists.items list writes [] (omega (arith, size)))

-- the arena with no event
pub kept_empty : (x : StoredExecution) (pages : List (List ℕ)) → x.events ≡ [] → x.stamps ≡ [] → AreKept x [] pages []
kept_empty x pages events stamps =
    let none : events_in x [] pages [] ≡ [] = ap (λ (es : Skeleton). stamped_events es x.stamps []) events in
    record {
      events = ap causality_of none ∙ sym events;
      stamps = ap stamps_of none ∙ sym stamps;
      one_each = omega (arith, ap length events);
      stored = λ k kind lt. absurd (omega arith);
      few_lists = omega arith;
    }

-- more room in the pages changes no event
module _
    {x : StoredExecution} {kinds : List StoredKind} {pages lists more_pages : List (List ℕ)}
    (kept : AreKept x kinds pages lists) (extends : Extends pages more_pages) where
  pub events_in-extended : events_in x kinds more_pages lists ≡ events_in x kinds pages lists
  events_in-extended =
      let same = ap (λ (ls : List (List ℕ)). map (kind_in more_pages ls) kinds) (sym (append-nil lists)) in
      ap (stamped_events x.events x.stamps) (same ∙ kinds_stay pages more_pages lists [] extends kinds kept.stored)

  pub kept-extended : AreKept x kinds more_pages lists
  kept-extended =
      let stored = all_stay_stored pages more_pages lists [] extends kinds kept.stored in
      record {
        events = ap causality_of events_in-extended ∙ kept.events;
        stamps = ap stamps_of events_in-extended ∙ kept.stamps;
        one_each = kept.one_each;
        stored = subst (λ (ls : List (List ℕ)). All (IsStored more_pages ls) kinds) (append-nil lists) stored;
        few_lists = kept.few_lists;
      }

-- a send delivers nothing
send_delivers_nothing : (kind : EventKind) (node : ℕ) → target_of kind ≡ Some node → delivered_send kind ≡ None
send_delivers_nothing (Written key value) node is = refl
send_delivers_nothing (Erased key) node is = refl
send_delivers_nothing (Sent to write) node is = refl
send_delivers_nothing (Synced to writes) node is = refl
send_delivers_nothing (Delivered sent) node is = absurd (cc)

-- what an event that may follow delivers is an event of the execution, and no delivery
pub delivers_source :
    (x : StoredExecution) (nodes : ℕ) (events : List StampedEvent) (e : Event) → causality_of events ≡ x.events → MayFollow nodes events e →
    (send : Option ℕ) → delivered_send e.kind ≡ send → IfSome send (IsSource x.events)
delivers_source x nodes events e same follows None is = tt
delivers_source x nodes events e same follows (Some sent) is =
    let earlier : sent < length events = delivers_earlier nodes events e sent follows is in
    let target = delivers_at_target nodes events e sent follows is in
    subst (λ (s : Skeleton). IsSource s sent) same (
      omega (arith, length_skeleton events),
      ap (λ (y : SkeletonEvent). y.send) (skeleton_at_place events sent) ∙ send_delivers_nothing (event_at events sent).kind e.node target,
    )

-- with more room the fields of an arena stand for the same events
pub record HoldsTheSame
    (x y : StoredExecution) (kinds more_kinds : PagedItems StoredKind) (log more_log : Log) (lists more_lists : StoredLists) : Type 0 where
  pub rules : y.rules ≡ x.rules
  pub nodes : y.nodes ≡ x.nodes
  pub events : y.events ≡ x.events
  pub stamps : y.stamps ≡ x.stamps
  pub kinds_are : more_kinds.items ≡ kinds.items
  pub extends : Extends log.pages more_log.pages
  pub lists_are : places_in more_lists.items ≡ places_in lists.items

module _
    {capacity : ℕ} {x y : StoredExecution} {kinds more_kinds : PagedItems StoredKind} {log more_log : Log} {lists more_lists : StoredLists}
    (same : HoldsTheSame x y kinds more_kinds log more_log lists more_lists) (arena : IsArena capacity x kinds log lists) where
  abbrev events_now : List StampedEvent
  events_now = events_in y more_kinds.items more_log.pages (places_in more_lists.items)

  pub same_events : events_now ≡ events_in x kinds.items log.pages (places_in lists.items)
  same_events = rw (same.events, same.stamps, same.kinds_are, same.lists_are) (events_in-extended arena.kept same.extends)

  pub arena-extended : IsArena capacity y more_kinds more_log more_lists
  arena-extended =
      let kept = kept-extended arena.kept same.extends in
      record {
        ticking = same.rules ∙ arena.ticking;
        well_formed = rw (same.nodes, same_events) arena.well_formed;
        kept = record {
          events = ap causality_of same_events ∙ arena.kept.events ∙ sym same.events;
          stamps = ap stamps_of same_events ∙ arena.kept.stamps ∙ sym same.stamps;
          one_each = rw (same.events, same.kinds_are) kept.one_each;
          stored = rw (same.kinds_are, same.lists_are) kept.stored;
          few_lists = rw (same.events, same.lists_are) kept.few_lists;
        };
      }

  pub history-extended :
      history_of (stored_history capacity y more_kinds more_log more_lists) ≡ history_of (stored_history capacity x kinds log lists)
  history-extended =
      let h = λ (n : ℕ) (xs : List StampedEvent). (let shown : History = record { nodes = n; capacity = capacity; events = xs } in shown) in
      ap (λ (n : ℕ). h n events_now) same.nodes ∙ ap (h x.nodes) same_events
