-- The first digits that the stamps and the readings of a log share.
use Rattle.std.specs.Prelude.{◌≡◌, ℕ, zero, suc, ◌+◌, ◌-◌, ◌==◌, ◌++◌, ◌<◌, ◌≤◌, List, [], ◌∷◌, decimal, if◌then◌else◌, length, min, nat_lt}
use Rattle.hlc_diagram.specs.Numbers.{digits_of, head_digits, rest_digits}
use Rattle.hlc_svg.specs.declared.numbers.FirstDigits.{FirstDigits}
use Rattle.hlc_log.specs.declared.log_event.LogEvent.{LogEvent}
use Rattle.hlc_ordered_log.specs.InOrder.{LogInOrder, event_in_order}
use Rattle.hlc_log_picture.specs.declared.shared_digits.TheConstants.{LEAST_HEAD, LEAST_REST}

-- how many first bytes two texts share
abbrev pub shared_bytes : (one other : List ℕ) → ℕ
shared_bytes [] other = 0
shared_bytes (x ∷ one) [] = 0
shared_bytes (x ∷ one) (y ∷ other) = if x == y then shared_bytes one other + 1 else 0

-- how many first digits two numbers share, if they have the same number of digits
abbrev pub shared_digits : (one other : ℕ) → ℕ
shared_digits one other = if digits_of one == digits_of other then shared_bytes (decimal one) (decimal other) else 0

-- how many both numbers of an event share with one number
abbrev pub shared_with : (number : ℕ) → LogEvent → ℕ
shared_with number event = min (shared_digits number event.stamp.l) (shared_digits number event.reading)

-- how many all numbers of the first k events do
abbrev pub shared_by : LogInOrder → (number k : ℕ) → ℕ
shared_by log number zero = digits_of number
shared_by log number (suc k) = min (shared_by log number k) (shared_with number (event_in_order log.events log.order k))

-- how many of a number's digits stand in the headings, of so many that are shared: rows keep some, and a few aren't worth it
abbrev pub head_count : (number shared : ℕ) → ℕ
head_count number shared =
    let count = min shared (digits_of number - LEAST_REST) in if nat_lt count LEAST_HEAD then 0 else count

-- the l of the first event
abbrev pub first_l : LogInOrder → ℕ
first_l log = (event_in_order log.events log.order 0).stamp.l

-- the digits that stand in the headings
abbrev pub first_digits_of : LogInOrder → FirstDigits
first_digits_of log = record { of = first_l log; count = head_count (first_l log) (shared_by log (first_l log) (length log.events)) }

-- a number begins with the digits of the headings: with those of its row they are all its digits. If there are any, it has as many digits as each other
-- number, and its row has enough of them.
pub record IsJoined (first : FirstDigits) (number : ℕ) : Type 0 where
  pub all : head_digits first ++ rest_digits first number ≡ decimal number
  pub as_long : 0 < first.count → digits_of number ≡ digits_of first.of
  pub left : 0 < first.count → LEAST_REST ≤ length (rest_digits first number)
