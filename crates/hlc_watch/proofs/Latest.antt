-- The messages that were sent last are remembered.
use Rattle.std.proofs.Common.{◌≡◌, ◌∙◌, ℕ, zero, suc, ◌+◌, ◌-◌, ◌<◌, ◌≤◌, List, [], ◌∷◌, ◌++◌, Option, Some, None, IsSome, length, drop, arith, inl, inr, refl, sym, ap, subst}
use Rattle.std.specs.Prelude.{bytes_eq}
use Rattle.std.specs.Map.{lookup}
use Rattle.std.proofs.lemmas.Bool.{cases_Bool, cases_order}
use Rattle.std.proofs.lemmas.List.{append_assoc, drop-append-le, length-append}
use Rattle.lru.proofs.CallerLemmas.{Contains-lookup}
use Rattle.hlc_causality.specs.declared.receives.Receives.{Receives}
use Rattle.hlc_log.specs.declared.log_event.LogEvent.{LogEvent}
use Rattle.hlc_log.specs.declared.log_event.LogKind.{LogKind}
use Rattle.hlc_log.specs.declared.log_event.LogKind.TheVariants.{Local, Outside, Receive, Restart, Send}
use Rattle.hlc_log.specs.Events.{event_at}
use Rattle.hlc_log.specs.Messages.{EachIsSentOnce, Receives as ReceivesMessage, Sends}
use Rattle.hlc_log.proofs.OrderSkeletons.{one_send}
use Rattle.hlc_watch.specs.declared.message_role.MessageRole.{MessageRole}
use Rattle.hlc_watch.specs.declared.message_role.MessageRole.TheVariants as role
use Rattle.hlc_watch.specs.declared.records.Claimed.{Claimed}
use Rattle.hlc_watch.specs.declared.records.Records.{Records}
use Rattle.hlc_watch.specs.Coming.{TellApart, claimed_at, records_at, ruled_at, sends_in, sent_count}
use Rattle.hlc_watch.specs.Kept.{KeptMessages, KeptSends, latest, received_from, send_of}
use Rattle.hlc_watch.specs.Laws.{AreFewNodes, IsToldAt, TellsLatest, kept_after}
use Rattle.hlc_watch.specs.Records.{role_of}
use Rattle.hlc_watch.specs.Watching.{KeptLog, after_role, records_of}
use Rattle.hlc_watch.proofs.Entries.{is_name, same_name}
use Rattle.hlc_watch.proofs.Knowledge.{IsKnown, known_after, told_remembered}
use Rattle.hlc_watch.proofs.Rings.{put_new}

module _ {Y : Type 0} where
  -- so many of the end of a list stay
  latest_end : (keep : ℕ) (xs ys : List Y) → length ys ≤ keep → latest keep (xs ++ ys) ≡ drop (length (xs ++ ys) - keep) xs ++ ys
  latest_end keep xs ys few = let all = length-append xs ys in drop-append-le (length (xs ++ ys) - keep) xs ys (omega arith)

-- a name that stands in a list is found
found_there : {X : Type 0} (k : List ℕ) (v : X) (xs ys : List (List ℕ × X)) → IsSome (lookup (bytes_eq k) (xs ++ (k, v) ∷ ys))
found_there k v [] ys = rw (is_name k k refl) refl
found_there k v (x ∷ xs) ys = elim (cases_Bool (bytes_eq k x.0)) [
  | inl test ↦ rw test refl
  | inr test ↦ rw test (found_there k v xs ys)
]

-- what isn't a send leaves what was sent
not_sent : (messages : KeptMessages) (records : Records) (m : List ℕ) (o : Option Claimed) → (received_from messages m records o).sent ≡ messages.sent
not_sent messages records m None = refl
not_sent messages records m (Some c) = refl

sent_more : (events : List LogEvent) (n e : ℕ) → n ≤ e → sent_count events n ≤ sent_count events e
sent_more events n zero within = let is : n ≡ 0 = omega arith in subst (λ k. sent_count events k ≤ sent_count events 0) (sym is) (omega arith)
sent_more events n (suc e) within = elim (cases_order n (suc e)) [
  | inl same ↦ subst (λ k. sent_count events n ≤ sent_count events k) same (omega arith)
  | inr differ ↦ elim differ [
    | inl less ↦ let rest = sent_more events n e (omega arith) in omega arith
    | inr more ↦ absurd (omega arith)
  ]
]

module _ (receives : Receives) (keep : ℕ) (files : ℕ → ℕ) (names : ℕ → List ℕ) (events : List LogEvent) (nodes : AreFewNodes events)
    (apart : TellApart names events) (once : EachIsSentOnce events) where
  abbrev kept : ℕ → KeptLog
  kept n = kept_after receives keep files names events n

  known : (n : ℕ) → n ≤ length events → IsKnown receives files names events n (kept n)
  known n within = known_after receives files names events keep nodes n within

  -- a message that is sent has a name that isn't remembered
  is_new : (n m : ℕ) → Sends events n m → send_of (kept n).messages.sent (names n) ≡ None
  is_new n m sends = by_found (send_of (kept n).messages.sent (names n)) refl
    where
      by_found : (o : Option Claimed) → send_of (kept n).messages.sent (names n) ≡ o → o ≡ None
      by_found None found = refl
      by_found (Some c) found =
          let exists = sends.exists in
          let entry = Contains-lookup (bytes_eq (names n)) (kept n).messages.sent.sends c found in
          let sent = (known n (omega arith)).sent (entry.0, c) entry.1 in
          let name : names sent.place ≡ names n = sym (same_name (names n) entry.0 entry.2 ∙ sent.name) in
          let key : sent.message ≡ m = (apart sent.place n sent.message m (inl sent.sends) (inl sends)).0 name in
          let same : sent.place ≡ n = one_send events once sent.place n m (subst (λ x. Sends events sent.place x) key sent.sends) sends in
          let before = sent.before in
          absurd (omega arith)

  role_keeps : (messages : KeptMessages) (records : Records) (does : MessageRole) (m : List ℕ) → (after_role messages records does m).sent.keep ≡ messages.sent.keep
  role_keeps messages records role.Local m = refl
  role_keeps messages records role.Send m = refl
  role_keeps messages records role.Receive m = ap (λ (sent : KeptSends). sent.keep) (not_sent messages records m (send_of messages.sent m))

  abbrev mine : ℕ → Records
  mine n = records_of (kept n).last (ruled_at receives files events n)

  keep_is : (n : ℕ) → (kept n).messages.sent.keep ≡ keep
  keep_is zero = refl
  keep_is (suc n) = role_keeps (kept n).messages (mine n) (mine n).event.role (names n) ∙ keep_is n

  -- what is remembered once one more event has come
  abbrev sent_by : (n : ℕ) → LogKind → KeptSends
  sent_by n kind = (after_role (kept n).messages (mine n) (role_of kind) (names n)).sent

  abbrev more_sent : (n : ℕ) → List (List ℕ × Claimed)
  more_sent n = (kept n).messages.sent.sends ++ (names n, claimed_at files events n) ∷ []

  sent_next : (n m : ℕ) → Sends events n m → (kept (suc n)).messages.sent.sends ≡ latest keep (more_sent n)
  sent_next n m sends =
      ap (λ (kind : LogKind). (sent_by n kind).sends) sends.kind
      ∙ ap (latest (kept n).messages.sent.keep) (put_new (names n) (claimed_at files events n) (kept n).messages.sent.sends (is_new n m sends))
      ∙ ap (λ k. latest k (more_sent n)) (keep_is n)

  same_by : (n : ℕ) (kind : LogKind) → sends_in kind ≡ 0 → sent_by n kind ≡ (kept n).messages.sent
  same_by n Local none = refl
  same_by n Restart none = refl
  same_by n Outside none = refl
  same_by n (Receive message) none = not_sent (kept n).messages (mine n) (names n) (send_of (kept n).messages.sent (names n))
  same_by n (Send message) none = absurd (omega arith)

  module _ (d m : ℕ) (sends : Sends events d m) where
    abbrev claim : List ℕ × Claimed
    claim = (names d, claimed_at files events d)

    -- the message of d is remembered once the first n events have come, and so are those that were sent after it
    record IsRemembered (n : ℕ) : Type 0 where
      pub before : List (List ℕ × Claimed)
      pub after : List (List ℕ × Claimed)
      pub are : (kept n).messages.sent.sends ≡ before ++ claim ∷ after
      pub count : length after + suc (sent_count events d) ≡ sent_count events n

    one_sent : (n k : ℕ) → Sends events n k → sent_count events (suc n) ≡ suc (sent_count events n)
    one_sent n k now = let weight = ap sends_in now.kind in omega arith

    begins : sent_count events (suc d) ≤ sent_count events d + keep → IsRemembered (suc d)
    begins few =
        let sent = (kept d).messages.sent.sends in
        let one = one_sent d m sends in
        record {
          before = drop (length (sent ++ claim ∷ []) - keep) sent;
          after = [];
          are = sent_next d m sends ∙ latest_end keep sent (claim ∷ []) (omega arith);
          count = omega arith;
        }

    module _ (n : ℕ) (exists : n < length events) (few : sent_count events (suc n) ≤ sent_count events d + keep) (remembered : IsRemembered n) where
      one_more : (k : ℕ) → Sends events n k → IsRemembered (suc n)
      one_more k now =
          let x : List ℕ × Claimed = (names n, claimed_at files events n) in
          let before = remembered.before in
          let after = remembered.after in
          let count = remembered.count in
          let one = one_sent n k now in
          let longer = length-append after (x ∷ []) in
          let all : more_sent n ≡ before ++ claim ∷ (after ++ x ∷ []) = ap (λ xs. xs ++ x ∷ []) remembered.are ∙ append_assoc before (claim ∷ after) (x ∷ []) in
          record {
            before = drop (length (before ++ claim ∷ (after ++ x ∷ [])) - keep) before;
            after = after ++ x ∷ [];
            are = sent_next n k now ∙ ap (latest keep) all ∙ latest_end keep before (claim ∷ (after ++ x ∷ [])) (omega arith);
            count = omega arith;
          }

      no_more : (kind : LogKind) → (event_at events n).kind ≡ kind → sends_in kind ≡ 0 → IsRemembered (suc n)
      no_more kind is none =
          let weight = ap sends_in is in
          let count = remembered.count in
          record {
            before = remembered.before;
            after = remembered.after;
            are = ap (λ k. (sent_by n k).sends) is ∙ ap (λ (sent : KeptSends). sent.sends) (same_by n kind none) ∙ remembered.are;
            count = omega arith;
          }

      next_by : (kind : LogKind) → (event_at events n).kind ≡ kind → IsRemembered (suc n)
      next_by Local is = no_more Local is refl
      next_by Restart is = no_more Restart is refl
      next_by Outside is = no_more Outside is refl
      next_by (Receive message) is = no_more (Receive message) is refl
      next_by (Send message) is = one_more message.0 (record { exists = exists; kind = is })

      next : IsRemembered (suc n)
      next = next_by (event_at events n).kind refl

    remembered_after : (n : ℕ) → d < n → n ≤ length events → sent_count events n ≤ sent_count events d + keep → IsRemembered n
    remembered_after zero later within few = absurd (omega arith)
    remembered_after (suc n) later within few = elim (cases_order d n) [
      | inl same ↦
          let few_d : sent_count events (suc d) ≤ sent_count events d + keep = subst (λ k. sent_count events (suc k) ≤ sent_count events d + keep) (sym same) few in
          subst (λ k. IsRemembered (suc k)) same (begins few_d)
      | inr differ ↦ elim differ [
        | inl less ↦
            let rises = sent_more events n (suc n) (omega arith) in
            next n (omega arith) few (remembered_after n less (omega arith) (omega arith))
        | inr more ↦ absurd (omega arith)
      ]
    ]

    told : (e : ℕ) → d < e → ReceivesMessage events e m → sent_count events e ≤ sent_count events d + keep
        → IsToldAt receives keep files names events e (records_at receives files events e (Some d))
    told e later received few =
        let exists = received.exists in
        let there = remembered_after e later (omega arith) few in
        let name : names d ≡ names e = (apart d e m m (inl sends) (inr received)).1 refl in
        let some : IsSome (send_of (kept e).messages.sent (names d)) =
        subst (λ xs. IsSome (lookup (bytes_eq (names d)) xs)) (sym there.are) (found_there (names d) (claimed_at files events d) there.before there.after) in
        told_remembered receives files names events e exists (nodes e exists) (kept e) (known e (omega arith)) apart once m d sends received
        (subst (λ x. IsSome (send_of (kept e).messages.sent x)) name some)

pub tells_latest : TellsLatest
tells_latest receives keep files names events d e nodes apart once later (m, sends, received) few =
    told receives keep files names events nodes apart once d m sends e later received few
