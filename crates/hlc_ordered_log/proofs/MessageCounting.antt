-- Counts of the messages of one event more.
use Rattle.std.proofs.Common.{◌≡◌, ◌≢◌, ℕ, inl, inr, ◌+◌, ◌≤◌, Bool, true, cond, [], ◌∷◌, add-one, arith, refl, ap, ◌∙◌, sym}
use Rattle.std.specs.Prelude.{◌==◌, ◌&&◌, count_by, min, nat_le}
use Rattle.std.proofs.lemmas.Bool.{cases_lt, le-leb, ne_eqb}
use Rattle.std.proofs.lemmas.List.Sums.{count_by-le-length, fold-append}
use Rattle.hlc_causality.specs.Places.{places_below}
use Rattle.hlc_causality.proofs.PlacesBelow.{length-places_below}
use Rattle.hlc_log.specs.declared.log_event.LogKind.{LogKind}
use Rattle.hlc_log.specs.declared.log_event.LogKind.TheVariants as kind
use Rattle.hlc_ordered_log.specs.declared.messages.MessageCounts.{MessageCounts}
use Rattle.hlc_ordered_log.specs.InOrder.{LogInOrder}
use Rattle.hlc_ordered_log.specs.Messages.{CanCountEvent, counts_before, if_so, is_received, is_sent, kind_in, receives_in, with_event}

-- how many places pass a test, with one place more
count_more : (p : ℕ → Bool) (n : ℕ) → count_by p (places_below (n + 1)) ≡ count_by p (places_below n) + if_so (p n)
count_more p n =
    ap (λ (k : ℕ). count_by p (places_below k)) (add-one n)
    ∙ fold-append (λ (k : ℕ) (x : ℕ). k + cond (p x) 1 0) 0 (places_below n) (n ∷ [])

count_few : (p : ℕ → Bool) (n : ℕ) → count_by p (places_below n) ≤ n
count_few p n =
    let most = count_by-le-length p (places_below n) in
    let size = length-places_below n in
    omega arith

module _ (log : LogInOrder) (n : ℕ) where
  abbrev sends : ℕ → Bool
  sends k = is_sent (kind_in log k)

  abbrev receives : ℕ → Bool
  receives k = is_received (kind_in log k)

  abbrev repeats : ℕ → Bool
  repeats k = is_sent (kind_in log k) && nat_le 2 (receives_in log k)

  abbrev is_unreceived : ℕ → Bool
  is_unreceived k = is_sent (kind_in log k) && (receives_in log k == 0)

  pub event_can_be_counted : n ≤ 16777216 → CanCountEvent (counts_before log n)
  event_can_be_counted few =
      let sent = count_few sends n in
      let received = count_few receives n in
      let repeated = count_few repeats n in
      let unreceived = count_few is_unreceived n in
      record { sent = omega arith; received = omega arith; repeated = omega arith; unreceived = omega arith }

  pub counts_more : counts_before log (n + 1) ≡ with_event (counts_before log n) (kind_in log n) (receives_in log n)
  counts_more =
      let sent = count_more sends n in
      let received = count_more receives n in
      let repeated = count_more repeats n in
      let unreceived = count_more is_unreceived n in
      λ i. record { sent = sent i; received = received i; repeated = repeated i; unreceived = unreceived i }

-- two receives tell as much as all
at_least_two : (d : ℕ) → nat_le 2 (min d 2) ≡ nat_le 2 d
at_least_two d = elim (cases_lt d 2) [
  | inl few ↦ let same : min d 2 ≡ d = omega arith in ap (λ (n : ℕ). nat_le 2 n) same
  | inr many ↦ let two : min d 2 ≡ 2 = omega arith in ap (λ (n : ℕ). nat_le 2 n) two ∙ sym (le-leb 2 d many)
]

are_none : (d : ℕ) → (min d 2 == 0) ≡ (d == 0)
are_none d = elim (cases_lt d 2) [
  | inl few ↦ let same : min d 2 ≡ d = omega arith in ap (λ (n : ℕ). n == 0) same
  | inr many ↦
      let two : min d 2 ≡ 2 = omega arith in
      let some : d ≢ 0 = omega arith in
      ap (λ (n : ℕ). n == 0) two ∙ sym (ne_eqb d 0 some)
]

pub two_are_enough : (counts : MessageCounts) (what : LogKind) (d : ℕ) → with_event counts what (min d 2) ≡ with_event counts what d
two_are_enough counts what d = rw (at_least_two d, are_none d) refl

-- of an event that sends nothing it is all the same how often it was received
pub received_if_sent : (counts : MessageCounts) (what : LogKind) (d e : ℕ) → (is_sent what ≡ true → d ≡ e)
    → with_event counts what d ≡ with_event counts what e
received_if_sent counts kind.Local d e same = refl
received_if_sent counts (kind.Send m) d e same = ap (λ (n : ℕ). with_event counts (kind.Send m) n) (same refl)
received_if_sent counts (kind.Receive m) d e same = refl
received_if_sent counts kind.Restart d e same = refl
received_if_sent counts kind.Outside d e same = refl
