-- Links from messages to their sends, event by event.
use Rattle.std.proofs.Common.{◌≡◌, ℕ, ◌+◌, ◌<◌, inl, inr, List, length, set, get_or, replicate, true, false, Option, Some, None, arith, refl, subst, sym, ap, ◌∙◌}
use Rattle.std.specs.Prelude.{All, is_some}
use Rattle.std.proofs.lemmas.Bool.{cases_eq}
use Rattle.std.proofs.lemmas.List.{get_or-replicate, get_or-set_other, get_or-set_same, get_or_read, length-replicate, length-set}
use Rattle.hlc_stamp.specs.declared.id.EventId.{EventId}
use Rattle.hlc_log.specs.declared.log_event.LogEvent.{LogEvent}
use Rattle.hlc_log.specs.declared.log_event.LogKind.{LogKind}
use Rattle.hlc_log.specs.declared.log_event.LogKind.TheVariants.{Receive, Send}
use Rattle.hlc_log.specs.declared.message_id.MessageId.{MessageId}
use Rattle.hlc_log.specs.Events.{IsNumbered}
use Rattle.hlc_log.specs.Faults.{IsFirst}
use Rattle.hlc_log.specs.Messages.{EachIsSentOnce, HasNoSend, Receives, ReceivesUnsent, Sends, SendsAgain}
use Rattle.hlc_log.specs.SendLinks.{AreSendLinks, IsOnlySend, LinksToSend, link_at}
use Rattle.hlc_log.proofs.Numbered.{receive_below, send_below}

same_message : (m k : MessageId) → ◌≡◌ {A = LogKind} (Send m) (Send k) → m ≡ k
same_message m k is = cc

same_received : (m k : MessageId) → ◌≡◌ {A = LogKind} (Receive m) (Receive k) → m ≡ k
same_received m k is = cc

pub receive_is_no_send : (kind : LogKind) (m k : MessageId) → kind ≡ Receive m → kind ≡ Send k → ⊥
receive_is_no_send kind m k receive send = let bad : ◌≡◌ {A = LogKind} (Receive m) (Send k) = sym receive ∙ send in cc

-- a link leads somewhere, or doesn't
pub linked_somewhere : (link : Option EventId) → is_some link ≡ true → (e : EventId) × (link ≡ Some e)
linked_somewhere None is = absurd (cc)
linked_somewhere (Some e) is = (e, refl)

pub linked_nowhere : (link : Option EventId) → is_some link ≡ false → link ≡ None
linked_nowhere None is = refl
linked_nowhere (Some e) is = absurd (cc)

module _ (events : List LogEvent) where
  -- an event sends one message, and receives one
  pub sends_one : (e m k : ℕ) → Sends events e m → Sends events e k → m ≡ k
  sends_one e m k a b = ap (λ (x : MessageId). x.0) (same_message _ _ (sym a.kind ∙ b.kind))

  pub receives_one : (f m k : ℕ) → Receives events f m → Receives events f k → m ≡ k
  receives_one f m k a b = ap (λ (x : MessageId). x.0) (same_received _ _ (sym a.kind ∙ b.kind))

  -- before the first event no message has a send
  pub no_links : (n : ℕ) → AreSendLinks events 0 (replicate n None)
  no_links n m lt =
      let none : link_at (replicate n None) m ≡ None = get_or-replicate n m None None (rw length-replicate at lt) in
      subst (LinksToSend events 0 m) (sym none) (λ e lt. absurd (omega arith))

  module _ (n : ℕ) where
    -- one more event, which doesn't send this message
    other_send : (m : ℕ) (link : Option EventId) → ¬ Sends events n m → LinksToSend events n m link → LinksToSend events (n + 1) m link
    other_send m None other h = λ e lt sends. elim (cases_eq e n) [
      | inl last ↦ other (subst (λ (x : ℕ). Sends events x m) last sends)
      | inr ne ↦ h e (omega arith) sends
    ]
    other_send m (Some e) other h = record {
      before = let before = h.before in omega arith;
      sends = h.sends;
      only = λ d lt sends. elim (cases_eq d n) [
        | inl last ↦ absurd (other (subst (λ (x : ℕ). Sends events x m) last sends))
        | inr ne ↦ h.only d (omega arith) sends
      ];
    }

    pub links_over : (links : List (Option EventId)) → ((m : ℕ) → ¬ Sends events n m) → AreSendLinks events n links
        → AreSendLinks events (n + 1) links
    links_over links other h m lt = other_send m (link_at links m) (other m) (h m lt)

    first_send : (m : ℕ) → Sends events n m → LinksToSend events n m None → IsOnlySend events (n + 1) m n
    first_send m sends none = record {
      before = omega arith;
      sends = sends;
      only = λ d lt too. elim (cases_eq d n) [ inl last ↦ last | inr ne ↦ absurd (none d (omega arith) too) ];
    }

    -- one more event, the first to send this message
    pub links_with : (links : List (Option EventId)) (k : ℕ) (event : EventId) → event.0 ≡ n → Sends events n k → link_at links k ≡ None
        → AreSendLinks events n links → AreSendLinks events (n + 1) (set links k (Some event))
    links_with links k event is sends none h m lt =
        let within : m < length links = rw length-set at lt in
        elim (cases_eq m k) [
          | inl same ↦
              let there : link_at (set links k (Some event)) m ≡ Some event =
              ap (λ (i : ℕ). link_at (set links k (Some event)) i) same
              ∙ get_or-set_same links k (Some event) None (subst (λ (i : ℕ). i < length links) same within) in
              let before : LinksToSend events n m None =
              subst (LinksToSend events n m) (ap (link_at links) same ∙ none) (h m within) in
              let first = first_send m (subst (Sends events n) (sym same) sends) before in
              subst (LinksToSend events (n + 1) m) (sym there) (subst (IsOnlySend events (n + 1) m) (sym is) first)
          | inr ne ↦
              let there : link_at (set links k (Some event)) m ≡ link_at links m = get_or-set_other links k m (Some event) None ne in
              subst (LinksToSend events (n + 1) m) (sym there)
              (other_send m (link_at links m) (λ too. ne (sends_one n m k too sends)) (h m within))
        ]

    sends_before : (m e : ℕ) (link : Option EventId) → e < n → Sends events e m → LinksToSend events n m link
        → (only : EventId) × (link ≡ Some only) × IsOnlySend events n m only.0
    sends_before m e None lt sends h = absurd (h e lt sends)
    sends_before m e (Some only) lt sends h = (only, refl, h)

    -- if messages have links, no event so far sends one again
    pub none_again : (messages : ℕ) (links : List (Option EventId)) → length links ≡ messages → All (IsNumbered messages) events
        → AreSendLinks events n links → (e : ℕ) → e < n → ¬ SendsAgain events e
    none_again messages links len numbered h e lt (d, m, both) =
        let below = send_below messages events numbered e m both.second in
        let only = sends_before m e (link_at links m) lt both.second (h m (omega arith)) in
        let first = only.2.only d (let earlier = both.earlier in omega arith) both.first in
        let second = only.2.only e lt both.second in
        let earlier = both.earlier in
        omega arith

    -- an event sends again what has a link already
    pub sends_again : (messages : ℕ) (links : List (Option EventId)) → length links ≡ messages → All (IsNumbered messages) events
        → AreSendLinks events n links → (m : ℕ) (first : EventId) → Sends events n m → link_at links m ≡ Some first
        → IsFirst (SendsAgain events) n
    sends_again messages links len numbered h m first sends is =
        let below = send_below messages events numbered n m sends in
        let only : IsOnlySend events n m first.0 = subst (LinksToSend events n m) is (h m (omega arith)) in
        record {
          has = (first.0, m, record { earlier = only.before; first = only.sends; second = sends });
          first = none_again messages links len numbered h;
        }

  module _ (links : List (Option EventId)) (numbered : All (IsNumbered (length links)) events) (h : AreSendLinks events (length events) links) where
    pub each_once : EachIsSentOnce events
    each_once e (d, m, both) = none_again (length events) (length links) links refl numbered h e both.second.exists (d, m, both)

    module _ (f m : ℕ) (receives : Receives events f m) where
      below : m < length links
      below = receive_below (length links) events numbered f m receives

      pub has_no_send : link_at links m ≡ None → HasNoSend events m
      has_no_send none e sends = subst (LinksToSend events (length events) m) none (h m below) e sends.exists sends

      pub only_send : (e : EventId) → link_at links m ≡ Some e → IsOnlySend events (length events) m e.0
      only_send e is = subst (LinksToSend events (length events) m) is (h m below)

      -- an event that receives what has a link receives nothing unsent
      pub not_unsent : (e : EventId) → link_at links m ≡ Some e → ¬ ReceivesUnsent events f
      not_unsent e is (k, too, none) = none e.0 (subst (Sends events e.0) (receives_one f m k receives too) (only_send e is).sends)

      -- the link that is read
      pub link_read : (link : Option EventId) → link ≡ get_or links m link → link_at links m ≡ link
      link_read link is = sym (get_or_read links m link below is None)

-- one event more that receives nothing unsent
pub one_more_is_sent : (events : List LogEvent) (n : ℕ) → ((f : ℕ) → f < n → ¬ ReceivesUnsent events f) → ¬ ReceivesUnsent events n
    → (f : ℕ) → f < n + 1 → ¬ ReceivesUnsent events f
one_more_is_sent events n before here f lt = elim (cases_eq f n) [
  | inl last ↦ λ unsent. here (subst (ReceivesUnsent events) last unsent)
  | inr ne ↦ before f (omega arith)
]
