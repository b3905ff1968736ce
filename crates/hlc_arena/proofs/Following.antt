-- Events that may follow: what they name, and a history with one more.
use Rattle.std.proofs.Common.{◌≡◌, ◌≢◌, ℕ, ◌<◌, ◌∙◌, List, [], ◌∷◌, ap, arith, length, Some, subst, sym, take}
use Rattle.std.proofs.lemmas.List.{get_or-take, length-take, length_push}
use Rattle.std.proofs.lemmas.Option.{MatchOption-at_some}
use Rattle.hlc_arena.specs.Arena.{IsWellFormed, MayFollow, with_event}
use Rattle.hlc_arena.specs.EntryLaws.{AllNamesFit}
use Rattle.hlc_arena.specs.History.{AreWrites, Delivered, Event, EventKind, History, IsWrite, Sent, StampedEvent, causality_of, delivered_send, event_at, stamped_at, target_of}
use Rattle.hlc_causality.specs.Causality.{IsSendOf, SkeletonEvent}
use Rattle.hlc_arena.specs.Known.{carried_by}
use Rattle.hlc_arena.proofs.KnownWrites.{send_carries_writes}
use Rattle.hlc_arena.proofs.Histories.{each_after_others_push, length_skeleton, skeleton_at_place}

-- what each event of a well-formed history names fits it
pub well_formed_names_fit : (h : History) → IsWellFormed h → AllNamesFit h.events
well_formed_names_fit h well e lt = (well.each e lt).names

-- what is delivered is earlier
pub delivers_earlier : (nodes : ℕ) (others : List StampedEvent) (e : Event) (sent : ℕ) → MayFollow nodes others e →
    delivered_send e.kind ≡ Some sent → sent < length others
delivers_earlier nodes others e sent follows is =
    MatchOption-at_some (Unit {0}) (λ m. m < length others) sent is follows.names.earlier.delivered

-- and was sent to the node
pub delivers_at_target : (nodes : ℕ) (others : List StampedEvent) (e : Event) (sent : ℕ) → MayFollow nodes others e →
    delivered_send e.kind ≡ Some sent → target_of (event_at others sent).kind ≡ Some e.node
delivers_at_target nodes others e sent follows is =
    MatchOption-at_some (Unit {0}) (λ m. target_of (event_at others m).kind ≡ Some e.node) sent is follows.addressed

-- a message goes to another node, which there is
pub sends_elsewhere : (nodes : ℕ) (others : List StampedEvent) (e : Event) (to : ℕ) → MayFollow nodes others e →
    target_of e.kind ≡ Some to → (to < nodes) × (to ≢ e.node)
sends_elsewhere nodes others e to follows is = MatchOption-at_some (Unit {0}) (λ n. (n < nodes) × (n ≢ e.node)) to is follows.target

-- the send of a delivery is there
pub delivered_exists : (h : History) → IsWellFormed h → (e sent : ℕ) → e < length h.events →
    (event_at h.events e).kind ≡ Delivered sent → sent < length h.events
delivered_exists h well e sent lt is =
    let earlier = delivers_earlier h.nodes (take e h.events) (event_at h.events e) sent (well.each e lt) (ap delivered_send is) in
    omega (arith, length-take e h.events)

-- one more event that may follow keeps a history well-formed
pub well_formed-push : (h : History) (x : StampedEvent) → IsWellFormed h → length h.events < h.capacity →
    MayFollow h.nodes h.events x.event → IsWellFormed (with_event h x)
well_formed-push h x well_formed room follows =
    let size = length_push h.events x in
    record {
      enough_nodes = well_formed.enough_nodes;
      few_nodes = well_formed.few_nodes;
      some_capacity = well_formed.some_capacity;
      small_capacity = well_formed.small_capacity;
      within_capacity = omega arith;
      each = each_after_others_push (λ others y. MayFollow h.nodes others y.event) h.events x well_formed.each follows;
    }

-- what is delivered was sent to the node
pub delivered_is_sent : (h : History) → IsWellFormed h → (e f : ℕ) → IsSendOf (causality_of h.events) e f →
    target_of (event_at h.events e).kind ≡ Some (event_at h.events f).node
delivered_is_sent h well_formed e f send =
    let exists : f < length h.events = omega (arith, send.exists, length_skeleton h.events) in
    let kind : delivered_send (event_at h.events f).kind ≡ Some e =
    sym (ap (λ (x : SkeletonEvent). x.send) (skeleton_at_place h.events f)) ∙ send.delivers in
    let before : stamped_at (take f h.events) e ≡ stamped_at h.events e = get_or-take f h.events e _ send.earlier in
    ap (λ (x : StampedEvent). target_of x.event.kind) (sym before)
    ∙ delivers_at_target h.nodes (take f h.events) (event_at h.events f) e (well_formed.each f exists) kind

-- what is sent is a write
pub sent_is_write : (h : History) → IsWellFormed h → (e to write : ℕ) → e < length h.events →
    (event_at h.events e).kind ≡ Sent to write → IsWrite (event_at h.events write).kind
sent_is_write h well e to write lt is =
    let carried = send_carries_writes h.events (well_formed_names_fit h well) e lt in
    let writes : AreWrites h.events (write ∷ []) = subst (λ (k : EventKind). AreWrites h.events (carried_by k)) is carried in
    (writes 0 write (omega arith)).1
