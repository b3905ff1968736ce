-- What is kept is of events that came, and what is told is of events whose records have come.
use Rattle.std.proofs.Common.{◌≡◌, ◌≢◌, ◌∙◌, ℕ, zero, suc, ◌-◌, ◌<◌, ◌≤◌, Bool, true, false, List, [], ◌∷◌, ◌++◌, Option, Some, None, IsSome, length, map, Contains, arith, inl, inr, refl, sym, ap, subst}
use Rattle.std.specs.Prelude.{if◌then◌else◌, ◌==◌, bytes_eq, nat_lt, option_map, slice_set}
use Rattle.std.specs.Map.{lookup, remove_entry}
use Rattle.std.proofs.lemmas.Bool.{cases_Bool, eqb-true, eq-eqb}
use Rattle.std.proofs.lemmas.List.{get_or-replicate, get_or-set_other, get_or-set_same, length-replicate, length-set}
use Rattle.std.proofs.lemmas.List.Elements.{Contains-push_cases}
use Rattle.indexmap.specs.IndexMap.{insert_entry}
use Rattle.lru.proofs.CallerLemmas.{Contains-lookup, Contains-remove_entry, Contains-take}
use Rattle.lru.proofs.Splits.{Contains-cons, Contains-head, Contains-nil}
use Rattle.hlc_causality.specs.declared.receives.Receives.{Receives}
use Rattle.hlc_log.specs.declared.log_event.LogEvent.{LogEvent}
use Rattle.hlc_log.specs.declared.log_event.LogKind.{LogKind}
use Rattle.hlc_log.specs.declared.log_event.LogKind.TheVariants.{Local, Outside, Receive, Restart, Send}
use Rattle.hlc_log.specs.declared.message_id.MessageId.{MessageId}
use Rattle.hlc_log.specs.Events.{event_at}
use Rattle.hlc_log.specs.Messages.{EachIsSentOnce, Receives as ReceivesMessage, Sends}
use Rattle.hlc_log.proofs.OrderSkeletons.{one_send}
use Rattle.hlc_watch.specs.declared.records.Claimed.{Claimed}
use Rattle.hlc_watch.specs.declared.records.Records.{Records}
use Rattle.hlc_watch.specs.Coming.{NamesSender, TellApart, claimed_at, latest_of, records_at, ruled_at}
use Rattle.hlc_watch.specs.Kept.{KeptMessages, received_from, records_with, send_of, waited_for, waiting_for, with_latest, with_receive, with_sent, without_last, receive_count}
use Rattle.hlc_watch.specs.Laws.{AreFewNodes, AreRecordsOf, TellsRecords, if_any, kept_after, told_as}
use Rattle.hlc_watch.specs.Records.{role_of, with_send}
use Rattle.hlc_watch.specs.Watching.{KeptLog, after_event, after_role, event_told, last_at, no_log, records_of, waited_told}
use Rattle.hlc_watch.proofs.Entries.{contains-latest, contains-put, same_name}

contains_mapped : {X Y : Type 0} (f : X → Y) (xs : List X) (y : Y) → Contains (map f xs) y → (x : X) × Contains xs x × (f x ≡ y)
contains_mapped f [] y there = absurd (Contains-nil y there)
contains_mapped f (x ∷ xs) y there = elim (Contains-cons (f x) (map f xs) y there) [
  | inl same ↦ (x, (0, omega arith, refl), same)
  | inr later ↦ let found = contains_mapped f xs y later in (found.0, (suc found.1.0, (let within = found.1.1 in omega arith), found.1.2), found.2)
]

-- what waits for a message is in its list
pub in_waiting : (awaited : List (List ℕ × List Records)) (m : List ℕ) (w : Records) → Contains (waiting_for awaited m) w
    → (ws : List Records) × Contains awaited (m, ws) × Contains ws w
in_waiting awaited m w there = by_found (lookup (bytes_eq m) awaited) refl there
  where
    by_found : (o : Option (List Records)) → lookup (bytes_eq m) awaited ≡ o → Contains (waiting_for awaited m) w
        → (ws : List Records) × Contains awaited (m, ws) × Contains ws w
    by_found None is h = absurd (Contains-nil w (rw is at h))
    by_found (Some ws) is h =
        let found = Contains-lookup (bytes_eq m) awaited ws is in
        let same : found.0 ≡ m = sym (same_name m found.0 found.2) in
        (ws, subst (λ k. Contains awaited (k, ws)) same found.1, rw is at h)

module _ (receives : Receives) (files : ℕ → ℕ) (names : ℕ → List ℕ) (events : List LogEvent) where
  -- what is kept of sent messages is what sends claim among the first n
  pub record IsSent (n : ℕ) (x : List ℕ × Claimed) : Type 0 where
    pub place : ℕ
    pub message : ℕ
    pub before : place < n
    pub sends : Sends events place message
    pub name : x.0 ≡ names place
    pub claims : x.1 ≡ claimed_at files events place

  abbrev pub AreSent : ℕ → List (List ℕ × Claimed) → Type 0
  AreSent n sent = (x : List ℕ × Claimed) → Contains sent x → IsSent n x

  -- what waits for the message of a name are receives among the first n
  pub record IsWaiting (n : ℕ) (m : List ℕ) (w : Records) : Type 0 where
    pub place : ℕ
    pub message : ℕ
    pub before : place < n
    pub received : ReceivesMessage events place message
    pub name : m ≡ names place
    pub are : w ≡ records_at receives files events place None

  abbrev pub AreWaiting : ℕ → List (List ℕ × List Records) → Type 0
  AreWaiting n awaited = (x : List ℕ × List Records) → Contains awaited x → (w : Records) → Contains x.1 w → IsWaiting n x.0 w

  -- what is known of what is kept once the first n events have come
  pub record IsKnown (n : ℕ) (kept : KeptLog) : Type 0 where
    pub nodes : length kept.last ≡ 65536
    pub last : (node : ℕ) → node < 65536 → last_at kept.last node ≡ option_map (claimed_at files events) (latest_of events node n)
    pub sent : AreSent n kept.messages.sent.sends
    pub awaited : AreWaiting n kept.messages.awaited

  sent_later : (n : ℕ) (x : List ℕ × Claimed) → IsSent n x → IsSent (suc n) x
  sent_later n x known = record {
    place = known.place;
    message = known.message;
    before = let before = known.before in omega arith;
    sends = known.sends;
    name = known.name;
    claims = known.claims;
  }

  waiting_later : (n : ℕ) (m : List ℕ) (w : Records) → IsWaiting n m w → IsWaiting (suc n) m w
  waiting_later n m w known = record {
    place = known.place;
    message = known.message;
    before = let before = known.before in omega arith;
    received = known.received;
    name = known.name;
    are = known.are;
  }

  none_known : (keep : ℕ) → IsKnown 0 (no_log keep)
  none_known keep = record {
    nodes = length-replicate {A = Option Claimed} 65536 None;
    last = λ node few. get_or-replicate {A = Option Claimed} 65536 node None None few;
    sent = λ x there. absurd (Contains-nil x there);
    awaited = λ x there. absurd (Contains-nil x there);
  }

  -- one event more
  module _ (n : ℕ) (exists : n < length events) (few : (event_at events n).node.0 < 65536) (kept : KeptLog) (known : IsKnown n kept) where
    abbrev node : ℕ
    node = (event_at events n).node.0

    last_next : (other : ℕ) → other < 65536
        → last_at (slice_set kept.last node (Some (claimed_at files events n))) other ≡ option_map (claimed_at files events) (latest_of events other (suc n))
    last_next other other_few = elim (cases_Bool (node == other)) [
      | inl test ↦ rw (test, sym (eqb-true node other test)) (get_or-set_same kept.last node (Some (claimed_at files events n)) None (let size = known.nodes in omega arith))
      | inr test ↦
          let differ : other ≢ node = λ same. (let bad : true ≡ false = sym (eq-eqb node other (sym same)) ∙ test in cc) in
          rw test (get_or-set_other kept.last node other (Some (claimed_at files events n)) None differ ∙ known.last other other_few)
    ]

    abbrev pub own : Records
    own = records_of kept.last (ruled_at receives files events n)

    pub own_is : own ≡ records_at receives files events n None
    own_is = λ i. record { event = ruled_at receives files events n; previous = known.last node few i; send = None }

    sends_now : (message : MessageId) → (event_at events n).kind ≡ Send message → Sends events n message.0
    sends_now message is = record { exists = exists; kind = is }

    receives_now : (message : MessageId) → (event_at events n).kind ≡ Receive message → ReceivesMessage events n message.0
    receives_now message is = record { exists = exists; kind = is }

    -- sent
    sent_put : (message : MessageId) → (event_at events n).kind ≡ Send message
        → AreSent (suc n) (with_sent kept.messages.sent (names n) (claimed_at files events n)).sends
    sent_put message is x there =
        let put = insert_entry bytes_eq kept.messages.sent.sends (names n) (claimed_at files events n) in
        elim (contains-put (names n) (claimed_at files events n) kept.messages.sent.sends x (contains-latest kept.messages.sent.keep put x there)) [
          | inl before ↦ sent_later n x (known.sent x before)
          | inr new ↦ record {
            place = n;
            message = message.0;
            before = omega arith;
            sends = sends_now message is;
            name = sym new.0;
            claims = sym new.1;
          }
        ]

    sent_kept : AreSent (suc n) kept.messages.sent.sends
    sent_kept x there = sent_later n x (known.sent x there)

    -- waiting
    waiting_kept : AreWaiting (suc n) kept.messages.awaited
    waiting_kept x there w within = waiting_later n x.0 w (known.awaited x there w within)

    waiting_others : (m : List ℕ) → AreWaiting (suc n) (remove_entry (bytes_eq m) kept.messages.awaited)
    waiting_others m x there = waiting_kept x (Contains-remove_entry (bytes_eq m) kept.messages.awaited x there)

    waiting_more : (message : MessageId) → (event_at events n).kind ≡ Receive message
        → AreWaiting (suc n) (with_receive kept.messages.awaited (names n) own)
    waiting_more message is x there w within = elim (Contains-cons _ _ x there) [
      | inl same ↦
          let m_is : names n ≡ x.0 = ap (λ (y : List ℕ × List Records). y.0) same in
          let within_list : Contains (waiting_for kept.messages.awaited (names n) ++ own ∷ []) w =
          subst (λ ws. Contains ws w) (sym (ap (λ (y : List ℕ × List Records). y.1) same)) within in
          subst (λ m. IsWaiting (suc n) m w) m_is (elim (Contains-push_cases (waiting_for kept.messages.awaited (names n)) own w within_list) [
            | inl before ↦
                let found = in_waiting kept.messages.awaited (names n) w before in
                waiting_kept (names n, found.0) found.1 w found.2
            | inr new ↦ record {
              place = n;
              message = message.0;
              before = omega arith;
              received = receives_now message is;
              name = refl;
              are = sym new ∙ own_is;
            }
          ])
      | inr later ↦ waiting_others (names n) x later w within
    ]

    waiting_latest : (message : MessageId) → (event_at events n).kind ≡ Receive message
        → AreWaiting (suc n) (with_latest kept.messages.sent.keep kept.messages.awaited (names n) own)
    waiting_latest message is = by_test (nat_lt (receive_count kept.messages.awaited) kept.messages.sent.keep)
      where
        by_test : (test : Bool) → AreWaiting (suc n) (if test then with_receive kept.messages.awaited (names n) own else without_last (with_receive kept.messages.awaited (names n) own))
        by_test true = waiting_more message is
        by_test false = λ x there. waiting_more message is x (Contains-take (length (with_receive kept.messages.awaited (names n) own) - 1) (with_receive kept.messages.awaited (names n) own) x there)

    abbrev AreKnown : KeptMessages → Type 0
    AreKnown messages = AreSent (suc n) messages.sent.sends × AreWaiting (suc n) messages.awaited

    after_found : (message : MessageId) → (event_at events n).kind ≡ Receive message → (o : Option Claimed)
        → AreKnown (received_from kept.messages (names n) own o)
    after_found message is None = (sent_kept, waiting_latest message is)
    after_found message is (Some c) = (sent_kept, waiting_kept)

    messages_next : (kind : LogKind) → (event_at events n).kind ≡ kind → AreKnown (after_role kept.messages own (role_of kind) (names n))
    messages_next Local is = (sent_kept, waiting_kept)
    messages_next Restart is = (sent_kept, waiting_kept)
    messages_next Outside is = (sent_kept, waiting_kept)
    messages_next (Send message) is = (sent_put message is, waiting_others (names n))
    messages_next (Receive message) is = after_found message is (send_of kept.messages.sent (names n))

    pub known_next : IsKnown (suc n) (after_event kept (ruled_at receives files events n) (names n))
    known_next =
        let messages = messages_next (event_at events n).kind refl in
        record {
          nodes = length-set kept.last node (Some (claimed_at files events n)) ∙ known.nodes;
          last = last_next;
          sent = messages.0;
          awaited = messages.1;
        }

    -- what is told, where names tell messages apart
    module _ (apart : TellApart names events) where
      own_records : NamesSender events n None → AreRecordsOf receives files events n own
      own_records names = record { place = n; send = None; names = names; are = own_is; last = refl }

      abbrev AreTold : List Records → Type 0
      AreTold told = (records : Records) → Contains told records → AreRecordsOf receives files events n records

      told_alone : NamesSender events n None → AreTold (own ∷ [])
      told_alone names records there = elim (Contains-cons own [] records there) [
        | inl same ↦ subst (λ r. AreRecordsOf receives files events n r) same (own_records names)
        | inr later ↦ absurd (Contains-nil records later)
      ]

      told_waited : (message : MessageId) → (event_at events n).kind ≡ Send message → AreTold (waited_for kept.messages (names n) (claimed_at files events n))
      told_waited message is records there =
          let w = contains_mapped (with_send (claimed_at files events n)) (waiting_for kept.messages.awaited (names n)) records there in
          let found = in_waiting kept.messages.awaited (names n) w.0 w.1 in
          let wait = known.awaited (names n, found.0) found.1 w.0 found.2 in
          let before = wait.before in
          let same : wait.message ≡ message.0 = sym ((apart n wait.place message.0 wait.message (inl (sends_now message is)) (inr wait.received)).0 wait.name) in
          record {
            place = wait.place;
            send = Some n;
            names = (message.0, sends_now message is, subst (λ m. ReceivesMessage events wait.place m) same wait.received);
            are = sym w.2 ∙ ap (with_send (claimed_at files events n)) wait.are;
            last = omega arith;
          }

      told_received : (message : MessageId) → (event_at events n).kind ≡ Receive message → (o : Option Claimed)
          → send_of kept.messages.sent (names n) ≡ o → AreTold (if_any (records_with own o) ++ [])
      told_received message is None found records there = absurd (Contains-nil records there)
      told_received message is (Some c) found records there = elim (Contains-cons (with_send c own) [] records there) [
        | inr later ↦ absurd (Contains-nil records later)
        | inl same ↦
            let at = Contains-lookup (bytes_eq (names n)) kept.messages.sent.sends c found in
            let sent = known.sent (at.0, c) at.1 in
            let before = sent.before in
            let name : names sent.place ≡ names n = sym (same_name (names n) at.0 at.2 ∙ sent.name) in
            let key : sent.message ≡ message.0 = (apart sent.place n sent.message message.0 (inl sent.sends) (inr (receives_now message is))).0 name in
            record {
              place = n;
              send = Some sent.place;
              names = (message.0, subst (λ m. Sends events sent.place m) key sent.sends, receives_now message is);
              are = sym same ∙ ap (with_send c) own_is ∙ ap (λ (x : Claimed). with_send x (records_at receives files events n None)) sent.claims;
              last = omega arith;
            }
      ]

      not_received : (kind : LogKind) → (event_at events n).kind ≡ kind → ((message : MessageId) → kind ≢ Receive message) → NamesSender events n None
      not_received kind is other m received = other (record { 0 = m }) (sym is ∙ received.kind)

      told_by_kind : (kind : LogKind) → (event_at events n).kind ≡ kind
          → AreTold (if_any (event_told kept.messages own (role_of kind) (names n)) ++ waited_told kept.messages own (role_of kind) (names n))
      told_by_kind Local is = told_alone (not_received Local is (λ m same. cc))
      told_by_kind Restart is = told_alone (not_received Restart is (λ m same. cc))
      told_by_kind Outside is = told_alone (not_received Outside is (λ m same. cc))
      told_by_kind (Send message) is = λ records there. elim (Contains-cons own (waited_for kept.messages (names n) (claimed_at files events n)) records there) [
        | inl same ↦ subst (λ r. AreRecordsOf receives files events n r) same (own_records (not_received (Send message) is (λ m other. cc)))
        | inr waited ↦ told_waited message is records waited
      ]
      told_by_kind (Receive message) is = told_received message is (send_of kept.messages.sent (names n)) refl

      pub told_next : AreTold (told_as kept (ruled_at receives files events n) (names n))
      told_next = told_by_kind (event_at events n).kind refl

      -- of a receive whose send is remembered, where each message is sent once
      module _ (once : EachIsSentOnce events) (m d : ℕ) (sends : Sends events d m) (received : ReceivesMessage events n m) where
        tells_received : (o : Option Claimed) → send_of kept.messages.sent (names n) ≡ o → IsSome o
            → Contains (if_any (records_with own o) ++ []) (records_at receives files events n (Some d))
        tells_received None found some = absurd cc
        tells_received (Some c) found some =
            let entry = Contains-lookup (bytes_eq (names n)) kept.messages.sent.sends c found in
            let sent = known.sent (entry.0, c) entry.1 in
            let name : names sent.place ≡ names n = sym (same_name (names n) entry.0 entry.2 ∙ sent.name) in
            let key : sent.message ≡ m = (apart sent.place n sent.message m (inl sent.sends) (inr received)).0 name in
            let same : sent.place ≡ d = one_send events once sent.place d m (subst (λ x. Sends events sent.place x) key sent.sends) sends in
            let told : with_send c own ≡ records_at receives files events n (Some d) =
            ap (with_send c) own_is ∙ ap (λ (x : Claimed). with_send x (records_at receives files events n None)) (sent.claims ∙ ap (claimed_at files events) same) in
            subst (λ w. Contains (with_send c own ∷ []) w) told (Contains-head (with_send c own) [])

        abbrev Tells : LogKind → Type 0
        Tells kind =
            Contains (if_any (event_told kept.messages own (role_of kind) (names n)) ++ waited_told kept.messages own (role_of kind) (names n))
            (records_at receives files events n (Some d))

        pub told_remembered : IsSome (send_of kept.messages.sent (names n))
            → Contains (told_as kept (ruled_at receives files events n) (names n)) (records_at receives files events n (Some d))
        told_remembered some = subst Tells (sym received.kind) (tells_received (send_of kept.messages.sent (names n)) refl some)

  pub known_after : (keep : ℕ) → AreFewNodes events → (n : ℕ) → n ≤ length events → IsKnown n (kept_after receives keep files names events n)
  known_after keep few zero within = none_known keep
  known_after keep few (suc n) within =
      known_next n (omega arith) (few n (omega arith)) (kept_after receives keep files names events n) (known_after keep few n (omega arith))

pub tells_records : TellsRecords
tells_records receives keep files names events n records few apart exists told =
    told_next receives files names events n exists (few n exists) (kept_after receives keep files names events n)
    (known_after receives files names events keep few n (omega arith)) apart records told
