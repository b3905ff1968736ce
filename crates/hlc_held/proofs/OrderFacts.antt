-- Seats in order.
use Rattle.std.proofs.Common.{◌≡◌, ◌∙◌, ℕ, zero, suc, ◌+◌, ◌<◌, Bool, true, false, List, [], ◌∷◌, length, map, refl, sym, ap, subst, arith, Some}
use Rattle.std.specs.Prelude.{◌==◌, if◌then◌else◌, slice_get}
use Rattle.std.specs.List.{range_with_len}
use Rattle.std.proofs.lemmas.Bool.Decides.{nat_tests}
use Rattle.std.proofs.lemmas.List.{length-map}
use Rattle.std.proofs.lemmas.List.FromFn.{length-map-range_with_len, length-range_with_len}
use Rattle.hlc_held.specs.Laws.{FreshSeatsAreInOrder, LogsAreThoseOfSeatsInOrder}
use Rattle.hlc_held.specs.LogEntry.{LogEntry}
use Rattle.hlc_held.specs.Seats.{NodeLog, fresh_seats, log_of_last, node_log}

abbrev fresh_seat : ℕ → NodeLog
fresh_seat node = node_log node []

abbrev node_of : NodeLog → ℕ
node_of seat = seat.node

nodes_of_fresh : (nodes : List ℕ) → map node_of (map fresh_seat nodes) ≡ nodes
nodes_of_fresh [] = refl
nodes_of_fresh (n ∷ nodes) = ap (λ (rest : List ℕ). n ∷ rest) (nodes_of_fresh nodes)

fresh_at : (a n k : ℕ) → k < n → slice_get (map fresh_seat (range_with_len a n)) k ≡ Some (node_log (a + k) [])
fresh_at a zero k within = absurd (omega arith)
fresh_at a (suc n) zero within = ap (λ (m : ℕ). Some (node_log m [])) (omega arith)
fresh_at a (suc n) (suc k) within = fresh_at (a + 1) n k (omega arith) ∙ ap (λ (m : ℕ). Some (node_log m [])) (omega arith)

pub fresh_seats_are_in_order : FreshSeatsAreInOrder
fresh_seats_are_in_order nodes = record {
  count = length-map-range_with_len fresh_seat 0 nodes;
  order = nodes_of_fresh (range_with_len 0 nodes);
  each = λ node within.
      let at : 0 + node ≡ node = omega arith in
      subst (λ (m : ℕ). slice_get (fresh_seats nodes) node ≡ Some (node_log m [])) at (fresh_at 0 nodes node within);
}

abbrev AreFrom : ℕ → ℕ → List NodeLog → Type 0
AreFrom a n seats = map node_of seats ≡ range_with_len a n

head_is : (a b : ℕ) (xs ys : List ℕ) → (a ∷ xs) ≡ (b ∷ ys) → (a ≡ b) × (xs ≡ ys)
head_is a b xs ys is = (cc is, cc is)

-- a later seat is of another node
not_of_later : (node a n : ℕ) (seats : List NodeLog) (log : List LogEntry) → node < a → AreFrom a n seats → log_of_last node seats log ≡ log
not_of_later node a n [] log below are = refl
not_of_later node a zero (seat ∷ seats) log below are = absurd (cc are)
not_of_later node a (suc n) (seat ∷ seats) log below are =
    let h = head_is seat.node a (map node_of seats) (range_with_len (a + 1) n) are in
    let at : seat.node ≡ a = h.0 in
    let test : (seat.node == node) ≡ false = grind (arith, nat_tests, at, below) in
    ap (λ (b : Bool). log_of_last node seats (if b then seat.log else log)) test ∙ not_of_later node (a + 1) n seats log (omega arith) h.1

log_in_order : (a n k : ℕ) (seats : List NodeLog) (seat : NodeLog) (log : List LogEntry) → AreFrom a n seats → slice_get seats k ≡ Some seat
    → log_of_last (a + k) seats log ≡ seat.log
log_in_order a n k [] seat log are found = absurd (cc found)
log_in_order a zero k (first ∷ seats) seat log are found = absurd (cc are)
log_in_order a (suc n) zero (first ∷ seats) seat log are found =
    let h = head_is first.node a (map node_of seats) (range_with_len (a + 1) n) are in
    let at : first.node ≡ a = h.0 in
    let test : (first.node == (a + 0)) ≡ true = grind (arith, nat_tests, at) in
    let same : first ≡ seat = cc found in
    ap (λ (b : Bool). log_of_last (a + 0) seats (if b then first.log else log)) test
    ∙ not_of_later (a + 0) (a + 1) n seats first.log (omega arith) h.1
    ∙ ap (λ (s : NodeLog). s.log) same
log_in_order a (suc n) (suc k) (first ∷ seats) seat log are found =
    let h = head_is first.node a (map node_of seats) (range_with_len (a + 1) n) are in
    let place : a + suc k ≡ (a + 1) + k = omega arith in
    subst (λ (m : ℕ). log_of_last m (first ∷ seats) log ≡ seat.log) (sym place)
    (log_in_order (a + 1) n k seats seat (if first.node == ((a + 1) + k) then first.log else log) h.1 found)

pub logs_are_those_of_seats_in_order : LogsAreThoseOfSeatsInOrder
logs_are_those_of_seats_in_order nodes seats are = (
  sym (length-map seats node_of) ∙ ap (λ (xs : List ℕ). length xs) are ∙ length-range_with_len 0 nodes,
  λ node seat found.
      let at : 0 + node ≡ node = omega arith in
      subst (λ (m : ℕ). log_of_last m seats [] ≡ seat.log) at (log_in_order 0 nodes node seats seat [] are found),
)
