-- What the status of a call that has an answer says.
use Rattle.std.proofs.Common.{◌≡◌, ◌↔◌, ◌⊎◌, ◌≤◌, ◌<◌, ℕ, List, arith, inl, inr, length, subst, sym, take}
use Rattle.std.proofs.lemmas.Bool.{cases_eq}
use Rattle.hlc_page.specs.declared.status.TheConstants.{PAGE_BAD_LOG, PAGE_OVER_LIMIT, PAGE_ROOM}
use Rattle.hlc_page.specs.Status.{IsStatusOf}

-- there is an answer, which was put into the room, or which the room is too small for
module _ (IsAnswer : (status : ℕ) → (answer : List ℕ) → Type 0) (before after answer : List ℕ) (was told found status : ℕ)
    (is_answer : IsAnswer found answer) (has : (found ≤ PAGE_BAD_LOG) ⊎ (found ≡ PAGE_OVER_LIMIT)) (told_is : told ≡ length answer)
    (put : ¬ (status ≡ PAGE_ROOM) → (status ≡ found) × (take told after ≡ answer))
    (room : status ≡ PAGE_ROOM ↔ length before < told) (unchanged : status ≡ PAGE_ROOM → after ≡ before) where
  status_if_longer : status ≡ PAGE_ROOM → IsStatusOf IsAnswer before after was told status
  status_if_longer full = record {
    known = omega arith;
    answered = λ answered. absurd (omega arith);
    answered_over = λ over. absurd (omega arith);
    longer = λ _. (answer, found, is_answer, sym told_is);
    room = λ _. room;
    room_over = λ over. absurd (omega arith);
    unchanged = λ _ _. unchanged full;
    untold = λ above _. absurd (omega arith);
  }

  status_if_put : ¬ (status ≡ PAGE_ROOM) → IsStatusOf IsAnswer before after was told status
  status_if_put fits =
      let same : status ≡ found = (put fits).0 in
      let here : IsAnswer status (take told after) =
      subst (λ (s : ℕ). IsAnswer s (take told after)) (sym same)
      (subst (λ (bytes : List ℕ). IsAnswer found bytes) (sym (put fits).1) is_answer) in
      record {
        known = elim has [ inl low ↦ omega arith | inr over ↦ omega arith ];
        answered = λ _. here;
        answered_over = λ _. here;
        longer = λ full. absurd (fits full);
        room = λ _. room;
        room_over = λ _ shorter. fits (room.1 shorter);
        unchanged = λ above below. elim has [ inl low ↦ absurd (omega arith) | inr over ↦ absurd (omega arith) ];
        untold = λ above below. elim has [ inl low ↦ absurd (omega arith) | inr over ↦ absurd (omega arith) ];
      }

  pub status_of_answer : IsStatusOf IsAnswer before after was told status
  status_of_answer = elim (cases_eq status PAGE_ROOM) [ inl full ↦ status_if_longer full | inr fits ↦ status_if_put fits ]
