-- Where no more events come than messages are kept, nothing is forgotten.
use Rattle.std.proofs.Common.{◌≡◌, ◌≢◌, ◌∙◌, ℕ, zero, suc, ◌<◌, ◌≤◌, ◌⊎◌, List, [], ◌∷◌, ◌++◌, Option, Some, None, IsSome, length, map, Contains, arith, inl, inr, refl, sym, ap, subst}
use Rattle.std.specs.Prelude.{if◌then◌else◌, bytes_eq, max, unwrap_or}
use Rattle.std.specs.Map.{lookup, remove_entry}
use Rattle.std.proofs.lemmas.Bool.{cases_Bool, cases_order, lt-ltb}
use Rattle.std.proofs.lemmas.List.Elements.{Contains-append_left, Contains-append_right, Contains-push}
use Rattle.indexmap.specs.IndexMap.{insert_entry}
use Rattle.lru.proofs.CallerLemmas.{Contains-lookup}
use Rattle.lru.proofs.Splits.{Contains-head}
use Rattle.hlc_causality.specs.declared.receives.Receives.{Receives}
use Rattle.hlc_log.specs.declared.log_event.LogEvent.{LogEvent}
use Rattle.hlc_log.specs.declared.log_event.LogKind.{LogKind}
use Rattle.hlc_log.specs.declared.log_event.LogKind.TheVariants.{Local, Outside, Receive, Restart, Send}
use Rattle.hlc_log.specs.declared.message_id.MessageId.{MessageId}
use Rattle.hlc_log.specs.Events.{event_at}
use Rattle.hlc_log.specs.Messages.{EachIsSentOnce, Receives as ReceivesMessage, Sends}
use Rattle.hlc_log.proofs.OrderSkeletons.{one_send}
use Rattle.hlc_watch.specs.declared.message_role.MessageRole.TheVariants as role
use Rattle.hlc_watch.specs.declared.records.Claimed.{Claimed}
use Rattle.hlc_watch.specs.declared.records.Records.{Records}
use Rattle.hlc_watch.specs.Coming.{NamesSender, TellApart, claimed_at, last_needed, records_at, ruled_at}
use Rattle.hlc_watch.specs.Kept.{KeptMessages, KeptSends, received_from, receive_count, send_of, waited_for, waiting_for, with_latest, with_receive, with_sent, without_last}
use Rattle.hlc_watch.specs.Laws.{AreFewNodes, IsToldAt, TellsAll, if_any, kept_after, told_as}
use Rattle.hlc_watch.specs.Records.{role_of, with_send}
use Rattle.hlc_watch.specs.Watching.{KeptLog, after_event, after_role, event_told, no_log, waited_told}
use Rattle.hlc_watch.proofs.Bounds.{count-with_receive, count-remove}
use Rattle.hlc_watch.proofs.Entries.{differ_by_test, latest_all, same_name, length-put, lookup-others, lookup-put, lookup-put_others}
use Rattle.hlc_watch.proofs.Knowledge.{IsKnown, known_after, own, own_is, told_remembered}

mapped_there : {X Y : Type 0} (f : X → Y) (xs : List X) (x : X) → Contains xs x → Contains (map f xs) (f x)
mapped_there f [] x there = let within = there.1 in absurd (omega arith)
mapped_there f (y ∷ xs) x (zero, within, is) = (0, omega arith, ap f is)
mapped_there f (y ∷ xs) x (suc k, within, is) =
    let later = mapped_there f xs x (k, omega arith, is) in (suc later.0, (let less = later.1 in omega arith), later.2)

-- what waits for another message still does
waiting_others : (awaited : List (List ℕ × List Records)) (m k : List ℕ) → m ≢ k → waiting_for (remove_entry (bytes_eq k) awaited) m ≡ waiting_for awaited m
waiting_others awaited m k differ = ap (λ (o : Option (List Records)). unwrap_or o []) (lookup-others m k differ awaited)

some_of : {X : Type 0} (o : Option X) (x : X) → o ≡ Some x → IsSome o
some_of o x is = rw is refl

get_some : {X : Type 0} (o : Option X) → IsSome o → (x : X) × (o ≡ Some x)
get_some None some = absurd cc
get_some (Some x) some = (x, refl)

module _ (receives : Receives) (keep : ℕ) (files : ℕ → ℕ) (names : ℕ → List ℕ) (events : List LogEvent) (nodes : AreFewNodes events)
    (apart : TellApart names events) (once : EachIsSentOnce events) (room : length events ≤ keep) where
  -- nothing is forgotten of the first n events
  record IsWhole (n : ℕ) (messages : KeptMessages) : Type 0 where
    pub keep_is : messages.sent.keep ≡ keep
    pub few_sent : length messages.sent.sends ≤ n
    pub few_waiting : receive_count messages.awaited ≤ n
    pub sent : (d m : ℕ) → d < n → Sends events d m → IsSome (send_of messages.sent (names d))
    pub waits : (e m : ℕ) → e < n → ReceivesMessage events e m → ((d : ℕ) → d < n → ¬ Sends events d m)
        → Contains (waiting_for messages.awaited (names e)) (records_at receives files events e None)

  none_whole : IsWhole 0 (no_log keep).messages
  none_whole = record {
    keep_is = refl;
    few_sent = omega arith;
    few_waiting = omega arith;
    sent = λ d m before. absurd (omega arith);
    waits = λ e m before. absurd (omega arith);
  }

  module _ (n : ℕ) (exists : n < length events) (kept : KeptLog) (known : IsKnown receives files names events n kept) (whole : IsWhole n kept.messages) where
    abbrev messages : KeptMessages
    messages = kept.messages

    abbrev mine : Records
    mine = own receives files names events n exists (nodes n exists) kept known

    mine_is : mine ≡ records_at receives files events n None
    mine_is = own_is receives files names events n exists (nodes n exists) kept known

    -- before n, or at n
    earlier : (d : ℕ) → d < suc n → (d < n) ⊎ (d ≡ n)
    earlier d less = elim (cases_order d n) [
      | inl same ↦ inr same
      | inr differ ↦ elim differ [ inl lt ↦ inl lt | inr gt ↦ absurd (omega arith) ]
    ]

    no_send_before : (m : ℕ) → ((d : ℕ) → d < suc n → ¬ Sends events d m) → (d : ℕ) → d < n → ¬ Sends events d m
    no_send_before m none d before = none d (omega arith)

    -- where an event sends nothing, nothing more was sent
    sent_kept : ((m : ℕ) → ¬ Sends events n m) → (d m : ℕ) → d < suc n → Sends events d m → IsSome (send_of messages.sent (names d))
    sent_kept sends_none d m before sends = elim (earlier d before) [
      | inl less ↦ whole.sent d m less sends
      | inr at ↦ absurd (sends_none m (subst (λ x. Sends events x m) at sends))
    ]

    -- one that receives nothing adds none that waits
    waits_kept : ((m : ℕ) → ¬ ReceivesMessage events n m) → (e m : ℕ) → e < suc n → ReceivesMessage events e m
        → ((d : ℕ) → d < suc n → ¬ Sends events d m) → Contains (waiting_for messages.awaited (names e)) (records_at receives files events e None)
    waits_kept receives_none e m before received none = elim (earlier e before) [
      | inl less ↦ whole.waits e m less received (no_send_before m none)
      | inr at ↦ absurd (receives_none m (subst (λ x. ReceivesMessage events x m) at received))
    ]

    nothing_more : ((m : ℕ) → ¬ Sends events n m) → ((m : ℕ) → ¬ ReceivesMessage events n m) → IsWhole (suc n) messages
    nothing_more no_send no_receive = record {
      keep_is = whole.keep_is;
      few_sent = let few = whole.few_sent in omega arith;
      few_waiting = let few = whole.few_waiting in omega arith;
      sent = sent_kept no_send;
      waits = waits_kept no_receive;
    }

    no_send_if : (kind : LogKind) → (event_at events n).kind ≡ kind → ((message : MessageId) → kind ≢ Send message) → (m : ℕ) → ¬ Sends events n m
    no_send_if kind is other m sends = other (record { 0 = m }) (sym is ∙ sends.kind)

    no_receive_if : (kind : LogKind) → (event_at events n).kind ≡ kind → ((message : MessageId) → kind ≢ Receive message) → (m : ℕ) → ¬ ReceivesMessage events n m
    no_receive_if kind is other m received = other (record { 0 = m }) (sym is ∙ received.kind)

    -- a send
    module _ (message : MessageId) (is : (event_at events n).kind ≡ Send message) where
      abbrev k : List ℕ
      k = names n

      sends_now : Sends events n message.0
      sends_now = record { exists = exists; kind = is }

      abbrev put : List (List ℕ × Claimed)
      put = insert_entry bytes_eq messages.sent.sends k (claimed_at files events n)

      few_put : length put ≤ suc n
      few_put = let few = whole.few_sent in let more = length-put k (claimed_at files events n) messages.sent.sends in omega arith

      abbrev sent_next : KeptSends
      sent_next = with_sent messages.sent k (claimed_at files events n)

      -- nothing that was sent is forgotten
      all_put : sent_next.sends ≡ put
      all_put = let is_keep = whole.keep_is in let few = few_put in latest_all messages.sent.keep put (omega arith)

      sent_now : (d m : ℕ) → d < suc n → Sends events d m → IsSome (send_of sent_next (names d))
      sent_now d m before sends = subst (λ es. IsSome (lookup (bytes_eq (names d)) es)) (sym all_put) (elim (cases_Bool (bytes_eq (names d) k)) [
        | inl test ↦
            some_of (lookup (bytes_eq (names d)) put) (claimed_at files events n)
            (ap (λ (x : List ℕ). lookup (bytes_eq x) put) (same_name (names d) k test) ∙ lookup-put k (claimed_at files events n) messages.sent.sends)
        | inr test ↦ elim (earlier d before) [
          | inl less ↦ rw (lookup-put_others k (claimed_at files events n) (names d) (differ_by_test (names d) k test) messages.sent.sends) (whole.sent d m less sends)
          | inr at ↦ absurd (differ_by_test (names d) k test (ap names at))
        ]
      ])

      waits_now : (e m : ℕ) → e < suc n → ReceivesMessage events e m → ((d : ℕ) → d < suc n → ¬ Sends events d m)
          → Contains (waiting_for (remove_entry (bytes_eq k) messages.awaited) (names e)) (records_at receives files events e None)
      waits_now e m before received none =
          let differ : names e ≢ k = λ same.
          let m_is : m ≡ message.0 = (apart e n m message.0 (inr received) (inl sends_now)).0 same in
          none n (omega arith) (subst (λ x. Sends events n x) (sym m_is) sends_now) in
          subst (λ ws. Contains ws (records_at receives files events e None)) (sym (waiting_others messages.awaited (names e) k differ))
          (waits_kept (no_receive_if (Send message) is (λ x same. cc)) e m before received none)

      whole_send : IsWhole (suc n) (after_role messages mine role.Send k)
      whole_send = record {
        keep_is = whole.keep_is;
        few_sent = let few = few_put in let all = ap length all_put in omega arith;
        few_waiting = let few = whole.few_waiting in let less = count-remove k messages.awaited in omega arith;
        sent = sent_now;
        waits = waits_now;
      }

    -- a receive
    module _ (message : MessageId) (is : (event_at events n).kind ≡ Receive message) where
      abbrev r : List ℕ
      r = names n

      no_send : (m : ℕ) → ¬ Sends events n m
      no_send = no_send_if (Receive message) is (λ x same. cc)

      received_whole : (c : Claimed) → send_of messages.sent r ≡ Some c → IsWhole (suc n) (received_from messages r mine (Some c))
      received_whole c found = record {
        keep_is = whole.keep_is;
        few_sent = let few = whole.few_sent in omega arith;
        few_waiting = let few = whole.few_waiting in omega arith;
        sent = sent_kept no_send;
        waits = λ e m before received none. elim (earlier e before) [
          | inl less ↦ whole.waits e m less received (no_send_before m none)
          | inr at ↦
              let entry = Contains-lookup (bytes_eq r) messages.sent.sends c found in
              let sent = known.sent (entry.0, c) entry.1 in
              let sent_before = sent.before in
              let name : names sent.place ≡ names e = sym (ap names at ∙ same_name r entry.0 entry.2 ∙ sent.name) in
              let key : sent.message ≡ m = (apart sent.place e sent.message m (inl sent.sends) (inr received)).0 name in
              absurd (none sent.place (omega arith) (subst (λ x. Sends events sent.place x) key sent.sends))
        ];
      }

      more_waits : (e m : ℕ) → e < suc n → ReceivesMessage events e m → ((d : ℕ) → d < suc n → ¬ Sends events d m)
          → Contains (waiting_for (with_receive messages.awaited r mine) (names e)) (records_at receives files events e None)
      more_waits e m before received none = elim (cases_Bool (bytes_eq (names e) r)) [
        | inr test ↦
            let differ = differ_by_test (names e) r test in
            rw test (subst (λ ws. Contains ws (records_at receives files events e None)) (sym (waiting_others messages.awaited (names e) r differ)) (elim (earlier e before) [
              | inl less ↦ whole.waits e m less received (no_send_before m none)
              | inr at ↦ absurd (differ (ap names at))
            ]))
        | inl test ↦ rw test (elim (earlier e before) [
          | inl less ↦
              Contains-append_left (waiting_for messages.awaited r) (mine ∷ []) (records_at receives files events e None)
              (subst (λ x. Contains (waiting_for messages.awaited x) (records_at receives files events e None)) (same_name (names e) r test)
              (whole.waits e m less received (no_send_before m none)))
          | inr at ↦
              subst (λ w. Contains (waiting_for messages.awaited r ++ mine ∷ []) w) (mine_is ∙ ap (λ (x : ℕ). records_at receives files events x None) (sym at))
              (Contains-push (waiting_for messages.awaited r) mine)
        ])
      ]

      wait_whole : IsWhole (suc n) (received_from messages r mine None)
      wait_whole =
          let few = whole.few_waiting in
          let is_keep = whole.keep_is in
          let there : receive_count messages.awaited < messages.sent.keep = omega arith in
          let test = lt-ltb (receive_count messages.awaited) messages.sent.keep there in
          let latest : with_latest messages.sent.keep messages.awaited r mine ≡ with_receive messages.awaited r mine =
          ap (λ b. if b then with_receive messages.awaited r mine else without_last (with_receive messages.awaited r mine)) test in
          record {
            keep_is = whole.keep_is;
            few_sent = let few = whole.few_sent in omega arith;
            few_waiting = let more = ap (λ ws. receive_count ws) latest in let count = count-with_receive messages.awaited r mine in omega arith;
            sent = sent_kept no_send;
            waits = λ e m before received none.
                subst (λ ws. Contains (waiting_for ws (names e)) (records_at receives files events e None)) (sym latest) (more_waits e m before received none);
          }

      whole_by : (o : Option Claimed) → send_of messages.sent r ≡ o → IsWhole (suc n) (received_from messages r mine o)
      whole_by None found = wait_whole
      whole_by (Some c) found = received_whole c found

    whole_by_kind : (kind : LogKind) → (event_at events n).kind ≡ kind → IsWhole (suc n) (after_role messages mine (role_of kind) (names n))
    whole_by_kind Local is = nothing_more (no_send_if Local is (λ x same. cc)) (no_receive_if Local is (λ x same. cc))
    whole_by_kind Restart is = nothing_more (no_send_if Restart is (λ x same. cc)) (no_receive_if Restart is (λ x same. cc))
    whole_by_kind Outside is = nothing_more (no_send_if Outside is (λ x same. cc)) (no_receive_if Outside is (λ x same. cc))
    whole_by_kind (Send message) is = whole_send message is
    whole_by_kind (Receive message) is = whole_by message is (send_of messages.sent (names n)) refl

    whole_next : IsWhole (suc n) (after_event kept (ruled_at receives files events n) (names n)).messages
    whole_next = whole_by_kind (event_at events n).kind refl

    -- what is told
    abbrev Tells : LogKind → Records → Type 0
    Tells kind records =
        Contains (if_any (event_told messages mine (role_of kind) (names n)) ++ waited_told messages mine (role_of kind) (names n)) records

    told_now : (kind : LogKind) → ((message : MessageId) → kind ≢ Receive message) → Tells kind (records_at receives files events n None)
    told_now Local other = subst (λ w. Tells Local w) mine_is (Contains-head mine [])
    told_now Restart other = subst (λ w. Tells Restart w) mine_is (Contains-head mine [])
    told_now Outside other = subst (λ w. Tells Outside w) mine_is (Contains-head mine [])
    told_now (Send message) other = subst (λ w. Tells (Send message) w) mine_is (Contains-head mine (waited_told messages mine role.Send (names n)))
    told_now (Receive message) other = absurd (other message refl)

    told_from : (m d : ℕ) → d < n → Sends events d m → ReceivesMessage events n m
        → Contains (told_as kept (ruled_at receives files events n) (names n)) (records_at receives files events n (Some d))
    told_from m d before sends received =
        let name : names d ≡ names n = (apart d n m m (inl sends) (inr received)).1 refl in
        told_remembered receives files names events n exists (nodes n exists) kept known apart once m d sends received
        (subst (λ x. IsSome (send_of messages.sent x)) name (whole.sent d m before sends))

    told_waited : (e m : ℕ) → e < n → Sends events n m → ReceivesMessage events e m
        → Contains (told_as kept (ruled_at receives files events n) (names n)) (records_at receives files events e (Some n))
    told_waited e m before sends received =
        let name : names e ≡ names n = (apart e n m m (inr received) (inl sends)).1 refl in
        let none : (d : ℕ) → d < n → ¬ Sends events d m = λ d less other. (let same = one_send events once d n m other sends in omega arith) in
        subst (λ kind. Tells kind (records_at receives files events e (Some n))) (sym sends.kind)
        (Contains-append_right (mine ∷ []) (waited_for messages (names n) (claimed_at files events n)) (records_at receives files events e (Some n))
        (mapped_there (with_send (claimed_at files events n)) (waiting_for messages.awaited (names n)) (records_at receives files events e None)
        (subst (λ x. Contains (waiting_for messages.awaited x) (records_at receives files events e None)) name (whole.waits e m before received none))))

  whole_after : (n : ℕ) → n ≤ length events → IsWhole n (kept_after receives keep files names events n).messages
  whole_after zero within = none_whole
  whole_after (suc n) within =
      whole_next n (omega arith) (kept_after receives keep files names events n) (known_after receives files names events keep nodes n (omega arith)) (whole_after n (omega arith))

  module _ (n : ℕ) (exists : n < length events) where
    abbrev before_n : KeptLog
    before_n = kept_after receives keep files names events n

    known_n : IsKnown receives files names events n before_n
    known_n = known_after receives files names events keep nodes n (omega arith)

    whole_n : IsWhole n before_n.messages
    whole_n = whole_after n (omega arith)

  all_told : (e : ℕ) (send : Option ℕ) → e < length events → NamesSender events e send
      → IsToldAt receives keep files names events (last_needed e send) (records_at receives files events e send)
  all_told e None exists sender =
      told_now e exists (before_n e exists) (known_n e exists) (whole_n e exists) (event_at events e).kind
      (λ message is. sender message.0 (record { exists = exists; kind = is }))
  all_told e (Some d) exists (m, sends, received) = elim (cases_order d e) [
    | inl same ↦
        let both : Send (record { 0 = m }) ≡ Receive (record { 0 = m }) = sym sends.kind ∙ ap (λ (x : ℕ). (event_at events x).kind) same ∙ received.kind in
        absurd cc
    | inr differ ↦ elim differ [
      | inl less ↦
          let at : e ≡ max e d = omega arith in
          subst (λ n. IsToldAt receives keep files names events n (records_at receives files events e (Some d))) at
          (told_from e exists (before_n e exists) (known_n e exists) (whole_n e exists) m d less sends received)
      | inr more ↦
          let at : d ≡ max e d = omega arith in
          subst (λ n. IsToldAt receives keep files names events n (records_at receives files events e (Some d))) at
          (told_waited d sends.exists (before_n d sends.exists) (known_n d sends.exists) (whole_n d sends.exists) e m more sends received)
    ]
  ]

pub tells_all : TellsAll
tells_all receives keep files names events e send nodes apart once room exists sender =
    all_told receives keep files names events nodes apart once room e send exists sender
