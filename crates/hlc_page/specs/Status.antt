-- What the status of a call says.
use Rattle.std.specs.Prelude.{◌≡◌, ◌↔◌, ℕ, ◌<◌, ◌≤◌, List, length, take}
use Rattle.hlc_page.specs.declared.status.TheConstants.{PAGE_BAD_LOG, PAGE_OVER_LIMIT, PAGE_ROOM}

-- a status says what the room holds after a call, and what length was told, given which answers there are and with which statuses
pub record IsStatusOf (IsAnswer : (status : ℕ) → (answer : List ℕ) → Type 0) (before after : List ℕ) (was told status : ℕ) : Type 0 where
  -- it is one of the statuses
  pub known : status ≤ PAGE_OVER_LIMIT
  -- up to BAD_LOG the answer stands at the front of the room
  pub answered : status ≤ PAGE_BAD_LOG → IsAnswer status (take told after)
  -- so it does with OVER_LIMIT
  pub answered_over : status ≡ PAGE_OVER_LIMIT → IsAnswer status (take told after)
  -- with ROOM there is an answer of the length that is told
  pub longer : status ≡ PAGE_ROOM → (answer : List ℕ) × (found : ℕ) × IsAnswer found answer × (length answer ≡ told)
  -- of an answer it is ROOM exactly if the room has fewer places than that
  pub room : status ≤ PAGE_ROOM → (status ≡ PAGE_ROOM ↔ length before < told)
  pub room_over : status ≡ PAGE_OVER_LIMIT → ¬ (length before < told)
  -- with no answer in it the room is as it was
  pub unchanged : PAGE_BAD_LOG < status → status < PAGE_OVER_LIMIT → after ≡ before
  -- with no answer no length is told
  pub untold : PAGE_ROOM < status → status < PAGE_OVER_LIMIT → told ≡ was
