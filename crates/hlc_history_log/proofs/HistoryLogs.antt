-- A log that was read from the rows of a history has the history's events.
use Rattle.std.proofs.Common.{◌≡◌, ◌≢◌, ◌∙◌, true, ℕ, ◌^◌, ◌<◌, List, [], Option, Some, None, arith, decimal, length, refl, sym, ap, subst, take}
use Rattle.std.specs.Prelude.{All, IfSome, option_map, slice_index_or}
use Rattle.std.proofs.lemmas.Fmt.{decimal_injective, decimal_nonempty}
use Rattle.std.proofs.lemmas.List.{get_or-map, length-map, length-take}
use Rattle.hlc_causality.specs.Causality.{IsEarlierAtNode, IsSendOf, SkeletonEvent, skeleton_at}
use Rattle.hlc_causality.specs.declared.receives.Receives.{Receives}
use Rattle.hlc_arena.specs.Arena.{IsWellFormed}
use Rattle.hlc_arena.specs.History.{Delivered, Erased, EventKind, History, Sent, StampedEvent, Synced, Written, causality_of, delivered_send, event_at as history_event_at, stamp_at, target_of}
use Rattle.hlc_arena.proofs.Following.{delivered_exists, delivered_is_sent, delivers_earlier}
use Rattle.hlc_arena.proofs.Histories.{length_skeleton, skeleton_at_place}
use Rattle.hlc_log.specs.declared.log_event.LogEvent.{LogEvent}
use Rattle.hlc_log.specs.declared.message_id.MessageId.{MessageId}
use Rattle.hlc_log.specs.declared.log_event.LogKind.{LogKind}
use Rattle.hlc_log.specs.declared.log_event.LogKind.TheVariants as kind
use Rattle.hlc_log.specs.CausalOrder.{IsEarlierOf}
use Rattle.hlc_log.specs.Standing.{SeqsRise, seq_at}
use Rattle.hlc_log.proofs.StandingEvents.{no_seqs_rise, place_stands, stands_by_place}
use Rattle.hlc_log.specs.Events.{IsMessageBelow, event_at, no_event, own_rule, rule_by}
use Rattle.hlc_log.specs.Messages.{AreMessagesSound, EachIsSentOnce, Receives as ReceivesMessage, ReceivesUnsent, Sends, SendsTo}
use Rattle.hlc_log_text.specs.Laws.{HasNamedMessage}
use Rattle.hlc_log_text.specs.LogText.{IsLogOf, IsNamed, IsRawLogOf, kind_message, kind_word, message_names, name_of, with_names}
use Rattle.hlc_log_text.specs.ReadText.{ReadText}
use Rattle.hlc_log_text.specs.Names.{EachNameOnce}
use Rattle.hlc_log_text.specs.NamedEvent.{NamedEvent, without_asides}
use Rattle.hlc_log_text.proofs.NamedLogs.{is_as_read}
use Rattle.hlc_history_log.specs.Laws.{TellHistory, log_kind}
use Rattle.hlc_history_log.specs.LogRows.{message_of}
use Rattle.hlc_history_log.proofs.Names.{mentions_once, same_number}

-- a log has the events of a history, at their places; nodes and messages may have other numbers
pub record IsHistoryLog (events : List StampedEvent) (log : List LogEvent) : Type 0 where
  pub size : length log ≡ length events
  pub reading : (e : ℕ) → e < length events → (event_at log e).reading ≡ (history_event_at events e).reading
  pub has_reading : (e : ℕ) → e < length events → (event_at log e).has_reading ≡ true
  pub stamp : (e : ℕ) → e < length events → (event_at log e).stamp ≡ stamp_at events e
  pub has_stamp : (e : ℕ) → e < length events → (event_at log e).has_stamp ≡ true
  pub carried : (e : ℕ) → e < length events → (event_at log e).carried ≡ None
  pub seq : (e : ℕ) → e < length events → seq_at log e ≡ 0
  pub no_rule : (receives : Receives) (e : ℕ) → e < length events → own_rule receives (event_at log e) ≡ None
  pub to_earlier : (d e : ℕ) → IsEarlierOf log d e → IsEarlierAtNode (causality_of events) d e
  pub from_earlier : (d e : ℕ) → IsEarlierAtNode (causality_of events) d e → IsEarlierOf log d e
  pub to_send : (d e : ℕ) → SendsTo log d e → IsSendOf (causality_of events) d e
  pub from_send : (d e : ℕ) → IsSendOf (causality_of events) d e → SendsTo log d e
  pub sound : AreMessagesSound log

-- what sends has another word than the others, and so has what receives
send_is_no_local : (m : MessageId) → kind_word (kind.Send m) ≡ kind_word kind.Local → ⊥
send_is_no_local m is = cc is

send_is_no_receive : (m n : MessageId) → kind_word (kind.Send m) ≡ kind_word (kind.Receive n) → ⊥
send_is_no_receive m n is = cc is

receive_is_no_local : (m : MessageId) → kind_word (kind.Receive m) ≡ kind_word kind.Local → ⊥
receive_is_no_local m is = cc is

restart_is_no_local : kind_word kind.Restart ≡ kind_word kind.Local → ⊥
restart_is_no_local is = cc is

restart_is_no_send : (m : MessageId) → kind_word kind.Restart ≡ kind_word (kind.Send m) → ⊥
restart_is_no_send m is = cc is

restart_is_no_receive : (m : MessageId) → kind_word kind.Restart ≡ kind_word (kind.Receive m) → ⊥
restart_is_no_receive m is = cc is

-- the event at e is told of so, but for what is kept aside
record HasTold (events : List StampedEvent) (e : ℕ) (told : NamedEvent) : Type 0 where
  word : told.head.word ≡ kind_word (log_kind e (history_event_at events e).kind)
  reading : told.head.reading ≡ (history_event_at events e).reading
  has_reading : told.head.has_reading ≡ true
  stamp : told.head.stamp ≡ stamp_at events e
  has_stamp : told.head.has_stamp ≡ true
  node : told.node ≡ decimal (history_event_at events e).node
  message : told.message ≡ option_map decimal (message_of e (history_event_at events e).kind)
  carried : told.carried ≡ None
  seq : told.seq ≡ 0

some_is : (a b : List ℕ) → ◌≡◌ {A = Option (List ℕ)} (Some a) (Some b) → a ≡ b
some_is a b same = cc same

-- whoever sends by the log, sends in the history, with its own number
sent_here : (d m : ℕ) (k : EventKind) (name : List ℕ) → kind_word (kind.Send (record { 0 = m })) ≡ kind_word (log_kind d k)
    → Some name ≡ option_map decimal (message_of d k) → name ≡ decimal d
sent_here d m (Written key value) name is message = absurd (send_is_no_local (record { 0 = m }) is)
sent_here d m (Erased key) name is message = absurd (send_is_no_local (record { 0 = m }) is)
sent_here d m (Sent to write) name is message = some_is name (decimal d) message
sent_here d m (Synced to writes) name is message = some_is name (decimal d) message
sent_here d m (Delivered sent) name is message = absurd (send_is_no_receive (record { 0 = m }) (record { 0 = sent }) is)

-- and whoever receives, delivers
received_here : (e m : ℕ) (k : EventKind) (name : List ℕ) → kind_word (kind.Receive (record { 0 = m })) ≡ kind_word (log_kind e k)
    → Some name ≡ option_map decimal (message_of e k) → (sent : ℕ) × (k ≡ Delivered sent) × (name ≡ decimal sent)
received_here e m (Written key value) name is message = absurd (receive_is_no_local (record { 0 = m }) is)
received_here e m (Erased key) name is message = absurd (receive_is_no_local (record { 0 = m }) is)
received_here e m (Sent to write) name is message = absurd (send_is_no_receive (record { 0 = e }) (record { 0 = m }) (sym is))
received_here e m (Synced to writes) name is message = absurd (send_is_no_receive (record { 0 = e }) (record { 0 = m }) (sym is))
received_here e m (Delivered sent) name is message = (sent, refl, some_is name (decimal sent) message)

-- a send of the log by its word
send_by : (messages : List (List ℕ)) (d n : ℕ) (k : LogKind) → kind_word k ≡ kind_word (kind.Send (record { 0 = n }))
    → kind_message messages k ≡ Some (decimal d) → (m : ℕ) × (k ≡ kind.Send (record { 0 = m })) × (name_of messages m ≡ decimal d)
send_by messages d n kind.Local is message = absurd (send_is_no_local (record { 0 = n }) (sym is))
send_by messages d n (kind.Receive m) is message = absurd (send_is_no_receive (record { 0 = n }) m (sym is))
send_by messages d n kind.Restart is message = absurd (restart_is_no_send (record { 0 = n }) is)
send_by messages d n kind.Outside is message = absurd (send_is_no_receive (record { 0 = n }) (record { 0 = n }) (sym is))
send_by messages d n (kind.Send m) is message = (m.0, refl, some_is (name_of messages m.0) (decimal d) message)

-- a send of the history is one of the log
send_told : (messages : List (List ℕ)) (d to : ℕ) (k : LogKind) (there : EventKind) → kind_word k ≡ kind_word (log_kind d there)
    → kind_message messages k ≡ option_map decimal (message_of d there) → target_of there ≡ Some to
    → (m : ℕ) × (k ≡ kind.Send (record { 0 = m })) × (name_of messages m ≡ decimal d)
send_told messages d to k (Written key value) is message target = absurd (let bad : ◌≡◌ {A = Option ℕ} None (Some to) = target in cc bad)
send_told messages d to k (Erased key) is message target = absurd (let bad : ◌≡◌ {A = Option ℕ} None (Some to) = target in cc bad)
send_told messages d to k (Delivered sent) is message target = absurd (let bad : ◌≡◌ {A = Option ℕ} None (Some to) = target in cc bad)
send_told messages d to k (Sent other write) is message target = send_by messages d d k is message
send_told messages d to k (Synced other writes) is message target = send_by messages d d k is message

-- and a delivery of the history is a receive of the log
receive_told : (messages : List (List ℕ)) (sent : ℕ) (k : LogKind) → kind_word k ≡ kind_word (kind.Receive (record { 0 = sent }))
    → kind_message messages k ≡ Some (decimal sent)
    → (m : ℕ) × (k ≡ kind.Receive (record { 0 = m })) × (name_of messages m ≡ decimal sent)
receive_told messages sent kind.Local is message = absurd (receive_is_no_local (record { 0 = sent }) (sym is))
receive_told messages sent (kind.Send m) is message = absurd (send_is_no_receive m (record { 0 = sent }) is)
receive_told messages sent kind.Restart is message = absurd (restart_is_no_receive (record { 0 = sent }) is)
receive_told messages sent kind.Outside is message = absurd (cc message)
receive_told messages sent (kind.Receive m) is message = (m.0, refl, some_is (name_of messages m.0) (decimal sent) message)

-- a history has no restart, so no event has a rule of its own
no_restart_told : (k : EventKind) (d : ℕ) → kind_word kind.Restart ≡ kind_word (log_kind d k) → ⊥
no_restart_told (Written key value) d is = restart_is_no_local is
no_restart_told (Erased key) d is = restart_is_no_local is
no_restart_told (Sent to write) d is = restart_is_no_send (record { 0 = d }) is
no_restart_told (Synced to writes) d is = restart_is_no_send (record { 0 = d }) is
no_restart_told (Delivered sent) d is = restart_is_no_receive (record { 0 = sent }) is

-- nor does it tell of what came in from outside: each message has a name
none_outside_told : (k : EventKind) (d : ℕ) → kind_word kind.Outside ≡ kind_word (log_kind d k) → None ≡ option_map decimal (message_of d k) → ⊥
none_outside_told (Written key value) d is message = receive_is_no_local (record { 0 = d }) is
none_outside_told (Erased key) d is message = receive_is_no_local (record { 0 = d }) is
none_outside_told (Sent to write) d is message = cc message
none_outside_told (Synced to writes) d is message = cc message
none_outside_told (Delivered sent) d is message = cc message

no_rule_told : (messages : List (List ℕ)) (receives : Receives) (event : LogEvent) (k : LogKind) (there : EventKind) (d : ℕ)
    → kind_word k ≡ kind_word (log_kind d there) → kind_message messages k ≡ option_map decimal (message_of d there) → rule_by receives event k ≡ None
no_rule_told messages receives event kind.Local there d is message = refl
no_rule_told messages receives event (kind.Send m) there d is message = refl
no_rule_told messages receives event (kind.Receive m) there d is message = refl
no_rule_told messages receives event kind.Restart there d is message = absurd (no_restart_told there d is)
no_rule_told messages receives event kind.Outside there d is message = absurd (none_outside_told there d is message)

delivery_is : (k : EventKind) (sent : ℕ) → delivered_send k ≡ Some sent → k ≡ Delivered sent
delivery_is (Written key value) sent is = absurd (let bad : ◌≡◌ {A = Option ℕ} None (Some sent) = is in cc bad)
delivery_is (Erased key) sent is = absurd (let bad : ◌≡◌ {A = Option ℕ} None (Some sent) = is in cc bad)
delivery_is (Sent to write) sent is = absurd (let bad : ◌≡◌ {A = Option ℕ} None (Some sent) = is in cc bad)
delivery_is (Synced to writes) sent is = absurd (let bad : ◌≡◌ {A = Option ℕ} None (Some sent) = is in cc bad)
delivery_is (Delivered d) sent is = let same : d ≡ sent = cc is in ap Delivered same

module _ (h : History) (well : IsWellFormed h) (told : List NamedEvent) (text : ReadText) (is_log : IsLogOf told text) (tells : TellHistory h.events told) where
  abbrev log : List LogEvent
  log = text.log.events

  abbrev messages : List (List ℕ)
  messages = message_names told

  abbrev no_name : NamedEvent
  no_name = with_names text.details.nodes messages no_event

  small : (e : ℕ) → e < length h.events → e < 2 ^ 64
  small e lt = let a = well.within_capacity in let b = well.small_capacity in omega arith

  -- each message has a name, so none had to be told apart
  number_named : (e m : ℕ) (k : EventKind) → e < length h.events → (history_event_at h.events e).kind ≡ k → message_of e k ≡ Some m → m < 2 ^ 64
  number_named e m (Written key value) lt is message = absurd (cc message)
  number_named e m (Erased key) lt is message = absurd (cc message)
  number_named e m (Sent to write) lt is message = let same : e ≡ m = cc message in let here = small e lt in omega arith
  number_named e m (Synced to writes) lt is message = let same : e ≡ m = cc message in let here = small e lt in omega arith
  number_named e m (Delivered sent) lt is message =
      let same : sent ≡ m = cc message in
      let here = small sent (delivered_exists h well e sent lt is) in
      omega arith

  some_number : (o : Option ℕ) → ((m : ℕ) → o ≡ Some m → m < 2 ^ 64) → IfSome (option_map decimal o) (λ name. name ≢ [])
  some_number None few = tt
  some_number (Some m) few =
      let some = decimal_nonempty m (few m refl) in
      λ (empty : decimal m ≡ []). (let none = ap length empty in omega arith)

  all_named : All HasNamedMessage told
  all_named e other exists =
      let lt : e < length h.events = (let same = tells.one_each in omega arith) in
      let k = (history_event_at h.events e).kind in
      subst (λ (name : Option (List ℕ)). IfSome name (λ text. text ≢ [])) (sym (tells.each e other lt).message)
      (some_number (message_of e k) (λ m. number_named e m k lt refl))

  as_read : IsRawLogOf told text
  as_read = is_as_read told text is_log all_named

  size : length log ≡ length h.events
  size = sym (length-map log (with_names text.details.nodes messages)) ∙ ap length as_read.told ∙ length-map told without_asides ∙ tells.one_each

  exists : (e : ℕ) → e < length h.events → e < length log
  exists e lt = let same = size in omega arith

  exists_back : (e : ℕ) → e < length log → e < length h.events
  exists_back e lt = let same = size in omega arith

  -- what is told of the event at a place
  named_as : (e : ℕ) → e < length h.events → with_names text.details.nodes messages (event_at log e) ≡ without_asides (slice_index_or told e no_name)
  named_as e lt =
      sym (get_or-map (with_names text.details.nodes messages) log e no_event no_name (exists e lt))
      ∙ ap (λ (events : List NamedEvent). slice_index_or events e no_name) as_read.told
      ∙ get_or-map without_asides told e no_name no_name (let same = tells.one_each in omega arith)

  tells_of : (e : ℕ) → e < length h.events → HasTold h.events e (with_names text.details.nodes messages (event_at log e))
  tells_of e lt =
      let is = named_as e lt in
      let t = tells.each e no_name lt in
      record {
        word = ap (λ (n : NamedEvent). n.head.word) is ∙ t.word;
        reading = ap (λ (n : NamedEvent). n.head.reading) is ∙ t.reading;
        has_reading = ap (λ (n : NamedEvent). n.head.has_reading) is ∙ t.has_reading;
        stamp = ap (λ (n : NamedEvent). n.head.stamp) is ∙ t.stamp;
        has_stamp = ap (λ (n : NamedEvent). n.head.has_stamp) is ∙ t.has_stamp;
        node = ap (λ (n : NamedEvent). n.node) is ∙ t.node;
        message = ap (λ (n : NamedEvent). n.message) is ∙ t.message;
        carried = ap (λ (n : NamedEvent). n.carried) is ∙ t.carried;
        seq = ap (λ (n : NamedEvent). n.seq) is ∙ t.seq;
      }

  named : (e : ℕ) → e < length h.events → IsNamed text.details.nodes messages (event_at log e)
  named e lt = as_read.named e no_event (exists e lt)

  nodes_once : EachNameOnce text.details.nodes
  nodes_once = subst EachNameOnce (sym is_log.nodes) (mentions_once _)

  messages_once : EachNameOnce messages
  messages_once = mentions_once _

  node_small : (e : ℕ) → e < length h.events → (history_event_at h.events e).node < 2 ^ 64
  node_small e lt = let a = (well.each e lt).node in let b = well.few_nodes in omega arith

  skeleton_node : (e : ℕ) → (skeleton_at (causality_of h.events) e).node ≡ (history_event_at h.events e).node
  skeleton_node e = ap (λ (x : SkeletonEvent). x.node) (skeleton_at_place h.events e)

  -- its events stand by their lines
  seqs_rise : SeqsRise log
  seqs_rise = no_seqs_rise log (λ e lt. (tells_of e (exists_back e lt)).seq)

  to_earlier : (d e : ℕ) → IsEarlierOf log d e → IsEarlierAtNode (causality_of h.events) d e
  to_earlier d e is =
      let later = exists_back e is.exists in
      let first = exists_back d is.first_exists in
      let names : decimal (history_event_at h.events d).node ≡ decimal (history_event_at h.events e).node =
      sym (tells_of d first).node ∙ ap (name_of text.details.nodes) is.same_node ∙ (tells_of e later).node in
      let same = decimal_injective _ _ (node_small d first) (node_small e later) names in
      record {
        earlier = stands_by_place log seqs_rise d e is.first_exists is.before;
        exists = let whole = length_skeleton h.events in omega arith;
        same_node = skeleton_node d ∙ same ∙ sym (skeleton_node e);
      }

  from_earlier : (d e : ℕ) → IsEarlierAtNode (causality_of h.events) d e → IsEarlierOf log d e
  from_earlier d e is =
      let whole = length_skeleton h.events in
      let there = is.exists in
      let before = is.earlier in
      let later : e < length h.events = omega arith in
      let first : d < length h.events = omega arith in
      let same : (history_event_at h.events d).node ≡ (history_event_at h.events e).node = sym (skeleton_node d) ∙ is.same_node ∙ skeleton_node e in
      let names : name_of text.details.nodes (event_at log d).node.0 ≡ name_of text.details.nodes (event_at log e).node.0 =
      (tells_of d first).node ∙ ap decimal same ∙ sym (tells_of e later).node in
      record {
        before = place_stands log seqs_rise d e before (exists e later);
        first_exists = exists d first;
        exists = exists e later;
        same_node = same_number text.details.nodes _ _ nodes_once (named d first).0 (named e later).0 names;
      }

  -- a send of the log has the name of its number
  name_sent : (d m : ℕ) → Sends log d m → name_of messages m ≡ decimal d
  name_sent d m sends =
      let lt = exists_back d sends.exists in
      let t = tells_of d lt in
      sent_here d m (history_event_at h.events d).kind (name_of messages m) (sym (ap kind_word sends.kind) ∙ t.word)
      (sym (ap (kind_message messages) sends.kind) ∙ t.message)

  -- a receive of the log is a delivery of what has its name
  name_received : (e m : ℕ) → ReceivesMessage log e m
      → (sent : ℕ) × ((history_event_at h.events e).kind ≡ Delivered sent) × (name_of messages m ≡ decimal sent)
  name_received e m receives =
      let lt = exists_back e receives.exists in
      let t = tells_of e lt in
      received_here e m (history_event_at h.events e).kind (name_of messages m) (sym (ap kind_word receives.kind) ∙ t.word)
      (sym (ap (kind_message messages) receives.kind) ∙ t.message)

  skeleton_send : (e : ℕ) → (skeleton_at (causality_of h.events) e).send ≡ delivered_send (history_event_at h.events e).kind
  skeleton_send e = ap (λ (x : SkeletonEvent). x.send) (skeleton_at_place h.events e)

  delivers : (sent e : ℕ) → e < length h.events → (history_event_at h.events e).kind ≡ Delivered sent → IsSendOf (causality_of h.events) sent e
  delivers sent e lt is =
      let earlier = delivers_earlier h.nodes (take e h.events) (history_event_at h.events e) sent (well.each e lt) (ap delivered_send is) in
      record {
        earlier = omega (arith, length-take e h.events);
        exists = let whole = length_skeleton h.events in omega arith;
        delivers = skeleton_send e ∙ ap delivered_send is;
      }

  to_send : (d e : ℕ) → SendsTo log d e → IsSendOf (causality_of h.events) d e
  to_send d e (m, sends, receives) =
      let from = name_received e m receives in
      let lt = exists_back e receives.exists in
      let there = delivered_exists h well e from.0 lt from.1 in
      let same : d ≡ from.0 =
      decimal_injective d from.0 (small d (exists_back d sends.exists)) (small from.0 there) (sym (name_sent d m sends) ∙ from.2) in
      delivers d e lt (from.1 ∙ ap Delivered (sym same))

  -- the message of a send, and that of a receive, by the number of the send
  send_at : (d to : ℕ) → d < length h.events → target_of (history_event_at h.events d).kind ≡ Some to
      → (m : ℕ) × Sends log d m × (name_of messages m ≡ decimal d)
  send_at d to lt target =
      let t = tells_of d lt in
      let is = send_told messages d to (event_at log d).kind (history_event_at h.events d).kind t.word t.message target in
      (is.0, record { exists = exists d lt; kind = is.1 }, is.2)

  receive_at : (sent e : ℕ) → e < length h.events → (history_event_at h.events e).kind ≡ Delivered sent
      → (m : ℕ) × ReceivesMessage log e m × (name_of messages m ≡ decimal sent)
  receive_at sent e lt delivery =
      let t = tells_of e lt in
      let is = receive_told messages sent (event_at log e).kind (t.word ∙ ap (λ (k : EventKind). kind_word (log_kind e k)) delivery)
      (t.message ∙ ap (λ (k : EventKind). option_map decimal (message_of e k)) delivery) in
      (is.0, record { exists = exists e lt; kind = is.1 }, is.2)

  below_sent : (d m : ℕ) → Sends log d m → m < length messages
  below_sent d m sends = subst (IsMessageBelow (length messages)) sends.kind (named d (exists_back d sends.exists)).1

  below_received : (e m : ℕ) → ReceivesMessage log e m → m < length messages
  below_received e m receives = subst (IsMessageBelow (length messages)) receives.kind (named e (exists_back e receives.exists)).1

  -- what a receive receives, the send of its name sends
  same_message : (d e m n : ℕ) → Sends log d m → ReceivesMessage log e n → name_of messages m ≡ name_of messages n → m ≡ n
  same_message d e m n sends receives names =
      same_number messages m n messages_once (below_sent d m sends) (below_received e n receives) names

  from_send : (d e : ℕ) → IsSendOf (causality_of h.events) d e → SendsTo log d e
  from_send d e is =
      let whole = length_skeleton h.events in
      let there = is.exists in
      let before = is.earlier in
      let later : e < length h.events = omega arith in
      let first : d < length h.events = omega arith in
      let delivery = delivery_is (history_event_at h.events e).kind d (sym (skeleton_send e) ∙ is.delivers) in
      let sends = send_at d (history_event_at h.events e).node first (delivered_is_sent h well d e is) in
      let receives = receive_at d e later delivery in
      let same = same_message d e sends.0 receives.0 sends.1 receives.1 (sends.2 ∙ sym receives.2) in
      (sends.0, sends.1, subst (ReceivesMessage log e) (sym same) receives.1)

  sent_once : EachIsSentOnce log
  sent_once e (d, m, both) =
      let same = decimal_injective d e (small d (exists_back d both.first.exists)) (small e (exists_back e both.second.exists))
      (sym (name_sent d m both.first) ∙ name_sent e m both.second) in
      let before = both.earlier in
      omega arith

  none_unsent : (f : ℕ) → ¬ ReceivesUnsent log f
  none_unsent f (m, receives, unsent) =
      let from = name_received f m receives in
      let lt = exists_back f receives.exists in
      let sends = from_send from.0 f (delivers from.0 f lt from.1) in
      let same = same_message from.0 f sends.0 m sends.1 receives (name_sent from.0 sends.0 sends.1 ∙ sym from.2) in
      unsent from.0 (subst (Sends log from.0) same sends.1)

  pub is_history_log : IsHistoryLog h.events text.log.events
  is_history_log = record {
    size = size;
    reading = λ e lt. (tells_of e lt).reading;
    has_reading = λ e lt. (tells_of e lt).has_reading;
    stamp = λ e lt. (tells_of e lt).stamp;
    has_stamp = λ e lt. (tells_of e lt).has_stamp;
    carried = λ e lt. (tells_of e lt).carried;
    seq = λ e lt. (tells_of e lt).seq;
    no_rule = λ receives e lt.
        let t = tells_of e lt in
        no_rule_told messages receives (event_at log e) (event_at log e).kind (history_event_at h.events e).kind e t.word t.message;
    to_earlier = to_earlier;
    from_earlier = from_earlier;
    to_send = to_send;
    from_send = from_send;
    sound = record { once = sent_once; sent = none_unsent };
  }
