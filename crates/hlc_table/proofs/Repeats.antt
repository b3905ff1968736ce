-- A message that is delivered again makes nothing known.
use Rattle.std.proofs.Common.{◌≡◌, ◌∙◌, ℕ, zero, suc, ◌<◌, ◌≤◌, ◌↔◌, List, [], ◌∷◌, ◌++◌, length, arith, refl, get_or, take, subst, sym, ap, Bool, Option, Some, None}
use Rattle.std.specs.Prelude.{All, Contains, option_map}
use Rattle.std.specs.List.{flat_map}
use Rattle.std.specs.List.Sorted.{IsStrictlyIncreasing}
use Rattle.std.specs.Str.{bytes_eq}
use Rattle.std.proofs.lemmas.List.{length-take-le}
use Rattle.std.proofs.lemmas.List.Elements.{All-contains, All-contains_itself, All-head, All-tail}
use Rattle.std.proofs.lemmas.List.Kept.{AllPairs-from_increasing}
use Rattle.std.proofs.lemmas.Slice.Eq.{bytes_eq-Decides}
use Rattle.hlc_arena.specs.Arena.{IsWellFormed, MayFollow}
use Rattle.hlc_causality.specs.Causality.{IsSendOf, SkeletonEvent}
use Rattle.hlc_arena.specs.History.{Delivered, Erased, EventKind, History, Sent, StampedEvent, Synced, Written, causality_of, event_at, delivered_send, target_of}
use Rattle.hlc_arena.specs.Known.{carried_by, everywhere, greatest_of_key, key_at, learnt_at, rank_at, rows_of_writes, writes_learnt}
use Rattle.hlc_causality.specs.Places.{places_below}
use Rattle.hlc_arena.proofs.Following.{delivers_at_target, delivers_earlier, well_formed_names_fit}
use Rattle.hlc_arena.proofs.Greatest.{greatest_not_lower, none_passes}
use Rattle.hlc_arena.proofs.Histories.{length_skeleton, skeleton_at_place}
use Rattle.hlc_arena.proofs.KnownWrites.{among_from_place, send_carries_writes, stamped_at-take}
use Rattle.hlc_arena.proofs.TableRows.{rows_show_greatest}
use Rattle.hlc_table.specs.Rows.{Row, learn_entry}
use Rattle.hlc_table.proofs.Learning.{learnt_same}
use Rattle.hlc_table.specs.Repeats.{IsRepeat}
use Rattle.hlc_table.specs.Tables.{entry_for, rows_before, rows_with, table_rows}
use Rattle.hlc_table.proofs.NextWrites.{rows_with-before}
use Rattle.hlc_table.proofs.RowsBefore.{all_here}
use Rattle.hlc_table.proofs.TableRows.{entry_at-rows}

module _ (events : List StampedEvent) (node n : ℕ) where
  abbrev pub known : List ℕ
  known = flat_map (learnt_at events everywhere node) (places_below n)

  abbrev pub rows : List Row
  rows = rows_before events node n

  -- a known write is no news
  module _ (w : ℕ) (among : Contains known w) where
    abbrev key : List ℕ
    key = key_at events w

    abbrev of_key : ℕ → Bool
    of_key v = bytes_eq key (key_at events v)

    no_news : (o : Option ℕ) → greatest_of_key events known key ≡ o → learn_entry rows key (entry_for events w) ≡ rows
    no_news None is = absurd (none_passes (rank_at events) of_key known is w among ((bytes_eq-Decides key key).1 refl))
    no_news (Some v) is =
        learnt_same rows key (entry_for events v) (entry_for events w)
        (entry_at-rows events (rows_of_writes events known) key
        ∙ ap (option_map (entry_for events)) (rows_show_greatest events known key ∙ is))
        (greatest_not_lower (rank_at events) of_key known v is w among ((bytes_eq-Decides key key).1 refl))

  known_again : (w : ℕ) → Contains known w → learn_entry rows (key_at events w) (entry_for events w) ≡ rows
  known_again w among = no_news w among (greatest_of_key events known (key_at events w)) refl

  -- so known writes leave the rows
  all_known_again : (writes : List ℕ) → All (Contains known) writes → rows_with events rows writes ≡ rows
  all_known_again [] all = refl
  all_known_again (w ∷ writes) all =
      ap (λ (before : List Row). rows_with events before writes) (known_again w (All-head (Contains known) w writes all))
      ∙ all_known_again writes (All-tail (Contains known) w writes all)

delivery_of : (k : EventKind) (sent : ℕ) → delivered_send k ≡ Some sent → k ≡ Delivered sent
delivery_of (Written key value) sent is = absurd (cc)
delivery_of (Erased key) sent is = absurd (cc)
delivery_of (Sent to write) sent is = absurd (cc)
delivery_of (Synced to writes) sent is = absurd (cc)
delivery_of (Delivered s) sent is = let same : s ≡ sent = cc in ap Delivered same

-- a delivery is at the target of its send
pub delivered_at_target : (h : History) → IsWellFormed h → (e sent : ℕ) → e < length h.events
    → (event_at h.events e).kind ≡ Delivered sent → target_of (event_at h.events sent).kind ≡ Some (event_at h.events e).node
delivered_at_target h well e sent exists is =
    let follows = well.each e exists in
    let earlier = delivers_earlier h.nodes (take e h.events) (event_at h.events e) sent follows (ap delivered_send is) in
    let size : length (take e h.events) ≡ e = length-take-le e h.events (omega arith) in
    sym (ap (λ (x : StampedEvent). target_of x.event.kind) (stamped_at-take h.events e sent (omega arith)))
    ∙ delivers_at_target h.nodes (take e h.events) (event_at h.events e) sent follows (ap delivered_send is)

-- of a send and an event that delivers it
module _ (h : History) (sent d : ℕ) (delivered : IsSendOf (causality_of h.events) sent d) where
  delivery_exists : d < length h.events
  delivery_exists = let within = delivered.exists in let size = length_skeleton h.events in omega arith

  kind_is : (event_at h.events d).kind ≡ Delivered sent
  kind_is =
      let same_send = ap (λ (x : SkeletonEvent). x.send) (skeleton_at_place h.events d) in
      delivery_of (event_at h.events d).kind sent (sym same_send ∙ delivered.delivers)

  -- it made known what the message carries
  made_known : (n w : ℕ) → d < n → Contains (carried_by (event_at h.events sent).kind) w
      → Contains (known h.events (event_at h.events d).node n) w
  made_known n w earlier among =
      let node = (event_at h.events d).node in
      let learnt : learnt_at h.events everywhere node d ≡ carried_by (event_at h.events sent).kind =
      all_here h.events node d refl ∙ ap (writes_learnt h.events d) kind_is in
      among_from_place (learnt_at h.events everywhere node) n w d earlier (subst (λ (ws : List ℕ). Contains ws w) (sym learnt) among)

-- a repeat leaves the rows of its node
pub repeat_leaves_rows : (h : History) (node e : ℕ) (kind : EventKind) → IsWellFormed h → IsRepeat h.events e kind
    → ((sent : ℕ) → kind ≡ Delivered sent → target_of (event_at h.events sent).kind ≡ Some node)
    → rows_with h.events (rows_before h.events node e) (writes_learnt h.events e kind) ≡ rows_before h.events node e
repeat_leaves_rows h node e kind well repeat to_node =
    let sent = repeat.sent in
    let d = repeat.first in
    let is = delivery_of kind sent repeat.delivers in
    let carried = carried_by (event_at h.events sent).kind in
    let target = delivered_at_target h well d sent (delivery_exists h sent d repeat.delivered) (kind_is h sent d repeat.delivered) in
    let same : Some (event_at h.events d).node ≡ Some node = sym target ∙ to_node sent is in
    let at_node : (event_at h.events d).node ≡ node = cc in
    ap (λ (k : EventKind). rows_with h.events (rows_before h.events node e) (writes_learnt h.events e k)) is
    ∙ all_known_again h.events node e carried
    (λ k w within. subst (λ (m : ℕ). Contains (known h.events m e) (get_or carried k w)) at_node
    (made_known h sent d repeat.delivered e (get_or carried k w) repeat.earlier (All-contains_itself carried k w within)))

least_of_rising : (first : ℕ) (rest : List ℕ) → IsStrictlyIncreasing (first ∷ rest) → All (λ d. first ≤ d) (first ∷ rest)
least_of_rising first rest rising zero d within = omega arith
least_of_rising first rest rising (suc k) d within =
    let lt = AllPairs-from_increasing (first ∷ rest) rising zero (suc k) d (omega arith) within in
    omega arith

-- if one of some rising events is before a place, so is the first of them
pub first_is_before : (first : ℕ) (rest : List ℕ) (e d : ℕ) → IsStrictlyIncreasing (first ∷ rest) → Contains (first ∷ rest) d → d < e
    → first < e
first_is_before first rest e d rising among earlier =
    let least : first ≤ d = All-contains (λ k. first ≤ k) (first ∷ rest) d (least_of_rising first rest rising) among in
    omega arith

-- so a delivery is a repeat exactly if the first delivery of its message is before it
pub repeat_by_first : (events : List StampedEvent) (e sent first : ℕ) (rest deliveries : List ℕ) (kind : EventKind)
    → kind ≡ Delivered sent → deliveries ≡ first ∷ rest
    → ((d : ℕ) → Contains deliveries d ↔ IsSendOf (causality_of events) sent d) → IsStrictlyIncreasing deliveries
    → (first < e) ↔ IsRepeat events e kind
repeat_by_first events e sent first rest deliveries kind is all complete rising =
    let listed = subst (λ (ds : List ℕ). (d : ℕ) → Contains ds d ↔ IsSendOf (causality_of events) sent d) all complete in
    let up = subst IsStrictlyIncreasing all rising in (
      λ lt. record {
        sent = sent;
        first = first;
        delivers = ap delivered_send is;
        delivered = (listed first).0 (All-contains_itself (first ∷ rest) 0 first (omega arith));
        earlier = lt;
      },
      λ repeat.
          let same : Some repeat.sent ≡ Some sent = sym repeat.delivers ∙ ap delivered_send is in
          let of_sent : IsSendOf (causality_of events) sent repeat.first =
          subst (λ (m : ℕ). IsSendOf (causality_of events) m repeat.first) (cc) repeat.delivered in
          first_is_before first rest e repeat.first up ((listed repeat.first).1 of_sent) repeat.earlier,
    )

-- and a repeat that comes next leaves the table of its node
pub repeat_leaves_table : (h : History) (x : StampedEvent) → IsWellFormed h → IsRepeat h.events (length h.events) x.event.kind
    → MayFollow h.nodes h.events x.event
    → rows_with (h.events ++ x ∷ []) (table_rows h.events x.event.node) (writes_learnt h.events (length h.events) x.event.kind)
    ≡ table_rows h.events x.event.node
repeat_leaves_table h x well repeat follows =
    let kind = x.event.kind in
    let node = x.event.node in
    let is = delivery_of kind repeat.sent repeat.delivers in
    let earlier = delivers_earlier h.nodes h.events x.event repeat.sent follows repeat.delivers in
    let fit = well_formed_names_fit h well in
    let carried = carried_by (event_at h.events repeat.sent).kind in
    let below : All (λ w. w < length h.events) carried =
    λ k w within. (send_carries_writes h.events fit repeat.sent earlier k w within).0 in
    let to_node : (sent : ℕ) → kind ≡ Delivered sent → target_of (event_at h.events sent).kind ≡ Some node =
    λ sent same. delivers_at_target h.nodes h.events x.event sent follows (ap delivered_send same) in
    sym (rows_with-before h.events x (table_rows h.events node) (writes_learnt h.events (length h.events) kind)
    (subst (λ (k : EventKind). All (λ w. w < length h.events) (writes_learnt h.events (length h.events) k)) (sym is) below))
    ∙ repeat_leaves_rows h node (length h.events) kind well repeat to_node
