-- How much is kept.
use Rattle.std.proofs.Common.{◌≡◌, ◌∙◌, ℕ, zero, suc, ◌+◌, ◌-◌, ◌^◌, ◌<◌, ◌≤◌, List, [], ◌∷◌, ◌++◌, Option, Some, None, length, take, Contains, arith, inl, inr, refl, sym, ap, subst}
use Rattle.std.specs.Prelude.{bytes_eq, nat_lt, option_map, unwrap_or}
use Rattle.std.specs.Map.{lookup, remove_entry, values_of}
use Rattle.std.proofs.lemmas.Bool.{cases_Bool}
use Rattle.std.proofs.lemmas.Bool.Decides.{nat_tests}
use Rattle.std.proofs.lemmas.List.{length-append, length-replicate, length-set}
use Rattle.std.proofs.lemmas.List.Sums.{sum_by-cons}
use Rattle.std.proofs.lemmas.Map.Entries.{sum_by-remove_entry}
use Rattle.lru.proofs.CallerLemmas.{Contains-remove_entry, Contains-take}
use Rattle.lru.proofs.Splits.{Contains-cons, Contains-head, Contains-nil, Contains-tail}
use Rattle.hlc_causality.specs.declared.receives.Receives.{Receives}
use Rattle.hlc_log.specs.declared.log_event.LogEvent.{LogEvent}
use Rattle.hlc_watch.specs.declared.message_role.MessageRole.{MessageRole}
use Rattle.hlc_watch.specs.declared.message_role.MessageRole.TheVariants.{Local, Receive, Send}
use Rattle.hlc_watch.specs.declared.records.Claimed.{Claimed}
use Rattle.hlc_watch.specs.declared.records.Records.{Records}
use Rattle.hlc_watch.specs.Coming.{ruled_at}
use Rattle.hlc_watch.specs.Kept.{IsBounded, KeptMessages, received_from, receive_count, waiting_for, send_of, with_latest, with_receive, without_last}
use Rattle.hlc_watch.specs.Laws.{StaysSmall, kept_after}
use Rattle.hlc_watch.specs.Records.{claimed_by}
use Rattle.hlc_watch.specs.Watching.{after_role, records_of}
use Rattle.indexmap.specs.IndexMap.{insert_entry}
use Rattle.hlc_watch.proofs.Entries.{length-latest}

pub waiting_length : (o : Option (List Records)) → length (unwrap_or o []) ≡ unwrap_or (option_map length o) 0
waiting_length None = refl
waiting_length (Some ws) = refl

-- those of the first message, and the others
pub count-first : (x : List ℕ × List Records) (xs : List (List ℕ × List Records)) → receive_count (x ∷ xs) ≡ length x.1 + receive_count xs
count-first x xs = sum_by-cons length x.1 (values_of xs)

pub count-remove : (m : List ℕ) (awaited : List (List ℕ × List Records)) → receive_count (remove_entry (bytes_eq m) awaited) ≤ receive_count awaited
count-remove m awaited = let is = sum_by-remove_entry length (bytes_eq m) awaited in omega arith

-- one more waits
pub count-with_receive : (awaited : List (List ℕ × List Records)) (m : List ℕ) (records : Records) → receive_count (with_receive awaited m records) ≡ receive_count awaited + 1
count-with_receive awaited m records =
    let is = sum_by-remove_entry length (bytes_eq m) awaited in
    let own = waiting_length (lookup (bytes_eq m) awaited) in
    let more = length-append (waiting_for awaited m) (records ∷ []) in
    let first = count-first (m, waiting_for awaited m ++ records ∷ []) (remove_entry (bytes_eq m) awaited) in
    omega arith

-- each message that is awaited is by some receive
abbrev pub AreSome : List (List ℕ × List Records) → Type 0
AreSome awaited = (x : List ℕ × List Records) → Contains awaited x → 0 < length x.1

-- so the last of them is awaited by one or more
fewer : (es : List (List ℕ × List Records)) (n : ℕ) → length es ≡ n + 1 → AreSome es → receive_count (take n es) + 1 ≤ receive_count es
fewer [] n len some = absurd (omega arith)
fewer (e ∷ es) zero len some =
    let one = some e (Contains-head e es) in
    let all = count-first e es in
    let none : receive_count [] ≡ 0 = refl in
    omega arith
fewer (e ∷ es) (suc n) len some =
    let rest = fewer es n (omega arith) (λ x there. some x (Contains-tail e es x there)) in
    let all = count-first e es in
    let less = count-first e (take n es) in
    omega arith

more_some : (awaited : List (List ℕ × List Records)) (m : List ℕ) (records : Records) → AreSome awaited → AreSome (with_receive awaited m records)
more_some awaited m records some x there = elim (Contains-cons _ _ x there) [
  | inl same ↦
      let len : length (waiting_for awaited m ++ records ∷ []) ≡ length x.1 = ap (λ (y : List ℕ × List Records). length y.1) same in
      let more = length-append (waiting_for awaited m) (records ∷ []) in
      omega arith
  | inr later ↦ some x (Contains-remove_entry (bytes_eq m) awaited x later)
]

pub bounded_remove : (keep : ℕ) (m : List ℕ) (awaited : List (List ℕ × List Records)) → IsBounded keep awaited → IsBounded keep (remove_entry (bytes_eq m) awaited)
bounded_remove keep m awaited bounded = record {
  few = let few = bounded.few in let less = count-remove m awaited in omega arith;
  fits = bounded.fits;
  some = λ x there. bounded.some x (Contains-remove_entry (bytes_eq m) awaited x there);
}

module _ (keep : ℕ) (m : List ℕ) (awaited : List (List ℕ × List Records)) (records : Records) (bounded : IsBounded keep awaited) where
  abbrev more : List (List ℕ × List Records)
  more = with_receive awaited m records

  pub bounded_more : receive_count awaited < keep → IsBounded keep more
  bounded_more room = record {
    few = let count = count-with_receive awaited m records in omega arith;
    fits = bounded.fits;
    some = more_some awaited m records bounded.some;
  }

  pub bounded_without : IsBounded keep (without_last more)
  bounded_without = record {
    few =
        let few = bounded.few in
        let count = count-with_receive awaited m records in
        let less = fewer more (length more - 1) (omega arith) (more_some awaited m records bounded.some) in
        omega arith;
    fits = bounded.fits;
    some = λ x there. more_some awaited m records bounded.some x (Contains-take (length more - 1) more x there);
  }

  pub bounded_latest : IsBounded keep (with_latest keep awaited m records)
  bounded_latest = elim (cases_Bool (nat_lt (receive_count awaited) keep)) [
    | inl test ↦ rw test (bounded_more (grind (arith, nat_tests, test)))
    | inr test ↦ rw test bounded_without
  ]

-- what is kept is bounded
record AreBounded (keep : ℕ) (messages : KeptMessages) : Type 0 where
  pub keep_is : messages.sent.keep ≡ keep
  pub sent : length messages.sent.sends ≤ keep
  pub awaited : IsBounded keep messages.awaited

module _ (keep : ℕ) (some : 0 < keep) (messages : KeptMessages) (bounded : AreBounded keep messages) (records : Records) where
  after_found : (m : List ℕ) (o : Option Claimed) → AreBounded keep (received_from messages m records o)
  after_found m None = record {
    keep_is = bounded.keep_is;
    sent = bounded.sent;
    awaited = subst (λ k. IsBounded keep (with_latest k messages.awaited m records)) (sym bounded.keep_is) (bounded_latest keep m messages.awaited records bounded.awaited);
  }
  after_found m (Some c) = record {
    keep_is = bounded.keep_is;
    sent = bounded.sent;
    awaited = bounded.awaited;
  }

  after_any : (role : MessageRole) (m : List ℕ) → AreBounded keep (after_role messages records role m)
  after_any Local m = bounded
  after_any Send m = record {
    keep_is = bounded.keep_is;
    sent =
        let is = bounded.keep_is in
        let few = length-latest messages.sent.keep (insert_entry bytes_eq messages.sent.sends m (claimed_by records.event)) in
        omega arith;
    awaited = bounded_remove keep m messages.awaited bounded.awaited;
  }
  after_any Receive m = after_found m (send_of messages.sent m)

module _ (receives : Receives) (keep : ℕ) (files : ℕ → ℕ) (names : ℕ → List ℕ) (events : List LogEvent) (some : 0 < keep) (fits : keep < 2 ^ 32) where
  messages_bounded : (n : ℕ) → AreBounded keep (kept_after receives keep files names events n).messages
  messages_bounded zero = record {
    keep_is = refl;
    sent = omega arith;
    awaited = record { few = omega arith; fits = fits; some = λ x there. absurd (Contains-nil x there) };
  }
  messages_bounded (suc n) =
      let kept = kept_after receives keep files names events n in
      let event = ruled_at receives files events n in
      after_any keep some kept.messages (messages_bounded n) (records_of kept.last event) event.role (names n)

  nodes_bounded : (n : ℕ) → length (kept_after receives keep files names events n).last ≡ 65536
  nodes_bounded zero = length-replicate {A = Option Claimed} 65536 None
  nodes_bounded (suc n) =
      let event = ruled_at receives files events n in
      length-set (kept_after receives keep files names events n).last event.node.0 (Some (claimed_by event)) ∙ nodes_bounded n

pub stays_small : StaysSmall
stays_small receives keep files names events n some fits =
    let bounded = messages_bounded receives keep files names events some fits n in
    record { nodes = nodes_bounded receives keep files names events some fits n; sent = bounded.sent; waiting = bounded.awaited.few }
