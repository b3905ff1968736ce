-- What comes of jobs that are replicas.
use Rattle.std.proofs.Common.{Option, ◌≡◌, ◌∙◌, ℕ, zero, suc, ◌+◌, ◌<◌, Bool, true, List, [], ◌∷◌, length, map, refl, sym, ap, subst, arith, Some}
use Rattle.std.specs.Prelude.{All, Any, Vec, slice_get}
use Rattle.std.specs.List.{AllZip, range_with_len}
use Rattle.std.specs.declared.alloc.Global.{Global}
use Rattle.std.proofs.lemmas.List.Elements.{All-cons, All-head, All-nil, All-tail}
use mathlib.Core.Logic.{inl, inr}
use Rattle.hlc_core.specs.declared.step.Step.{Step}
use Rattle.hlc_core.specs.Timed.{TimedRequest, requests_in, timed_request_of}
use Rattle.hlc_held.specs.LogEntry.{LogEntry}
use Rattle.hlc_held.specs.Seats.{AreInOrder, NodeLog, fresh_seats, log_of_node}
use Rattle.hlc_held.proofs.OrderFacts.{fresh_seats_are_in_order, logs_are_those_of_seats_in_order}
use Rattle.hlc_shared.specs.declared.log_fault.LogFault.{LogFault}
use Rattle.hlc_shared.specs.declared.log_fault.LogFault.TheVariants.{Memory, Mismatch}
use Rattle.hlc_shared.specs.Faults.{fault_of_fate, fault_of_logs}
use Rattle.hlc_shared.specs.declared.fate.Fate.{Fate}
use Rattle.hlc_shared.specs.declared.fate.Fate.TheVariants as fate
use Rattle.hlc_shared.specs.Close.{IsFaultOfClose}
use Rattle.hlc_shared.specs.Endings.{IsDoneOrShutFrom, IsFateOf}
use Rattle.hlc_shared.specs.Replicas.{EachHasFollowed, HasFollowed, HasRun, IsShutOut}
use Rattle.hlc_shared.specs.Runs.{IsFaultOfRun, IsFirstShut, LetsAllIn}

head_is : (a b : ℕ) (xs ys : List ℕ) → (a ∷ xs) ≡ (b ∷ ys) → (a ≡ b) × (xs ≡ ys)
head_is a b xs ys is = (cc is, cc is)

abbrev node_of : NodeLog → ℕ
node_of seat = seat.node

abbrev AreFrom : ℕ → ℕ → List NodeLog → Type 0
AreFrom a n seats = map node_of seats ≡ range_with_len a n

-- an item of which one thing is true, and another too, since that is true of all
record Found {A : Type 0} (P Q : A → Type 0) : Type 0 where
  pub item : A
  pub has : P item
  pub too : Q item

found_in : {A : Type 0} (P Q : A → Type 0) (xs : List A) → Any P xs → All Q xs → Found P Q
found_in P Q xs p all = record { item = p.1; has = p.4; too = subst Q p.3 (all p.0 p.1 p.2) }

module _ {J : Type 0} (seat_of : J → NodeLog) (steps_of : J → Vec Step Global) (may_answer : ℕ → Bool → Type 0) where
  abbrev Done : J → NodeLog → Type 0
  Done job seat = HasRun may_answer (map timed_request_of (steps_of job).items) (seat_of job) seat

  abbrev Shut : J → ℕ → Type 0
  Shut job node = IsShutOut may_answer (seat_of job) node

  -- the seats keep their nodes
  same_nodes : (jobs : List J) (after : List NodeLog) → AllZip Done jobs after → map node_of after ≡ map node_of (map seat_of jobs)
  same_nodes [] [] z = refl
  same_nodes [] (s ∷ after) z = absurd z
  same_nodes (job ∷ jobs) [] z = absurd z
  same_nodes (job ∷ jobs) (s ∷ after) z = λ i. z.0.same_node i ∷ same_nodes jobs after z.1 i

  -- the seat at a place followed the list at that place
  followed_at : (k : ℕ) (jobs : List J) (after : List NodeLog) → AllZip Done jobs after
      → (list : List TimedRequest) (seat : NodeLog) → slice_get (requests_in (map steps_of jobs)) k ≡ Some list
      → slice_get (map seat_of jobs) k ≡ Some seat
      → (s : NodeLog) × (slice_get after k ≡ Some s) × HasFollowed list seat.log s.log
  followed_at k [] after z list seat p q = absurd (cc p)
  followed_at k (job ∷ jobs) [] z list seat p q = absurd z
  followed_at zero (job ∷ jobs) (s ∷ after) z list seat p q =
      let is_list : map timed_request_of (steps_of job).items ≡ list = cc p in
      let is_seat : seat_of job ≡ seat = cc q in
      (s, refl, subst (λ (l : List TimedRequest). HasFollowed l seat.log s.log) is_list (subst (λ (d : NodeLog). HasFollowed (map timed_request_of (steps_of job).items) d.log s.log) is_seat z.0.followed))
  followed_at (suc k) (job ∷ jobs) (s ∷ after) z list seat p q = followed_at k jobs after z.1 list seat p q

  pub in_order : (nodes : ℕ) (jobs : List J) (seats after : List NodeLog) → map seat_of jobs ≡ seats → AreInOrder nodes seats
      → AllZip Done jobs after
      → AreInOrder nodes after
  in_order nodes jobs seats after is order z = same_nodes jobs after z ∙ ap (λ (ss : List NodeLog). map node_of ss) is ∙ order

  pub each_followed : (nodes : ℕ) (jobs : List J) (seats after : List NodeLog) (lists : List (Vec Step Global)) → map seat_of jobs ≡ seats
      → map steps_of jobs ≡ lists
      → AreInOrder nodes seats → AllZip Done jobs after → EachHasFollowed (requests_in lists) seats (log_of_node after)
  each_followed nodes jobs seats after lists is_seats is_lists order z node list seat p q =
      let at = followed_at node jobs after z list seat (ap (λ (ls : List (Vec Step Global)). slice_get (requests_in ls) node) is_lists ∙ p)
      (ap (λ (ss : List NodeLog). slice_get ss node) is_seats ∙ q) in
      let log : log_of_node after node ≡ at.0.log =
      (logs_are_those_of_seats_in_order nodes after (in_order nodes jobs seats after is_seats order z)).1 node at.0 at.1 in
      subst (λ (l : List LogEntry). HasFollowed list seat.log l) (sym log) at.2

  -- the job at a place is of the node of that number
  job_at : (Q : J → Type 0) (a n : ℕ) (jobs : List J) → AreFrom a n (map seat_of jobs) → All Q jobs → (k : ℕ) → k < n
      → (job : J) × ((seat_of job).node ≡ a + k) × Q job
  job_at Q a zero jobs are all k within = absurd (omega arith)
  job_at Q a (suc n) [] are all k within = absurd (cc are)
  job_at Q a (suc n) (job ∷ jobs) are all zero within =
      let h = head_is (seat_of job).node a (map node_of (map seat_of jobs)) (range_with_len (a + 1) n) are in
      (job, omega (arith, h.0), All-head Q job jobs all)
  job_at Q a (suc n) (job ∷ jobs) are all (suc k) within =
      let h = head_is (seat_of job).node a (map node_of (map seat_of jobs)) (range_with_len (a + 1) n) are in
      let r = job_at Q (a + 1) n jobs h.1 (All-tail Q job jobs all) k (omega arith) in
      (r.0, omega (arith, r.1), r.2)

  nodes_below : (a n : ℕ) (jobs : List J) → AreFrom a n (map seat_of jobs) → All (λ job. (seat_of job).node < a + n) jobs
  nodes_below a n [] are = All-nil (λ job. (seat_of job).node < a + n)
  nodes_below a zero (job ∷ jobs) are = absurd (cc are)
  nodes_below a (suc n) (job ∷ jobs) are =
      let h = head_is (seat_of job).node a (map node_of (map seat_of jobs)) (range_with_len (a + 1) n) are in
      let sum : (a + 1) + n ≡ a + suc n = omega arith in
      All-cons (λ (j : J). (seat_of j).node < a + suc n) job jobs (omega (arith, h.0))
      (subst (λ (m : ℕ). All (λ (j : J). (seat_of j).node < m) jobs) sum (nodes_below (a + 1) n jobs h.1))

  each_let_in : (jobs : List J) (after : List NodeLog) → AllZip Done jobs after → All (λ job. may_answer (seat_of job).node true) jobs
  each_let_in [] [] z = All-nil (λ job. may_answer (seat_of job).node true)
  each_let_in [] (s ∷ after) z = absurd z
  each_let_in (job ∷ jobs) [] z = absurd z
  each_let_in (job ∷ jobs) (s ∷ after) z =
      All-cons (λ (j : J). may_answer (seat_of j).node true) job jobs z.0.let_in (each_let_in jobs after z.1)

  order_of_jobs : (nodes : ℕ) (jobs : List J) (seats : List NodeLog) → map seat_of jobs ≡ seats → AreInOrder nodes seats
      → AreFrom 0 nodes (map seat_of jobs)
  order_of_jobs nodes jobs seats is order = ap (λ (ss : List NodeLog). map node_of ss) is ∙ order

  pub all_let_in : (nodes : ℕ) (jobs : List J) (seats after : List NodeLog) → map seat_of jobs ≡ seats → AreInOrder nodes seats
      → AllZip Done jobs after
      → LetsAllIn may_answer nodes
  all_let_in nodes jobs seats after is order z node within =
      let at =
      job_at (λ (j : J). may_answer (seat_of j).node true) 0 nodes jobs (order_of_jobs nodes jobs seats is order)
      (each_let_in jobs after z) node within in
      let same : (seat_of at.0).node ≡ node = omega (arith, at.1) in
      subst (λ (m : ℕ). may_answer m true) same at.2

  tried_is_in : (node earlier : ℕ) (job : J) → (seat_of job).node ≡ earlier → earlier < node → IsDoneOrShutFrom Done Shut node job
      → may_answer earlier true
  tried_is_in node earlier job is less (inl done) = subst (λ (m : ℕ). may_answer m true) is done.1.let_in
  tried_is_in node earlier job is less (inr shut) = absurd (omega (arith, is, less, shut.1, shut.2))

  pub first_shut : (nodes : ℕ) (jobs : List J) (seats : List NodeLog) (node : ℕ) → map seat_of jobs ≡ seats → AreInOrder nodes seats
      → Any (λ job. Shut job node) jobs → All (IsDoneOrShutFrom Done Shut node) jobs → IsFirstShut may_answer nodes node
  first_shut nodes jobs seats node is order some all =
      let from = order_of_jobs nodes jobs seats is order in
      let found = found_in (λ (j : J). Shut j node) (λ (j : J). (seat_of j).node < 0 + nodes) jobs some (nodes_below 0 nodes jobs from) in
      let exists : node < nodes = omega (arith, found.has.0, found.too) in
      record {
        exists = exists;
        shut = found.has.1;
        first = λ earlier less.
            let at = job_at (IsDoneOrShutFrom Done Shut node) 0 nodes jobs from all earlier (omega arith) in
            tried_is_in node earlier at.0 (omega (arith, at.1)) less at.2;
      }

  pub logs_followed : (nodes : ℕ) (jobs : List J) (seats after : List NodeLog) (lists : List (Vec Step Global)) (log : ℕ → List LogEntry)
      → map seat_of jobs ≡ seats → map steps_of jobs ≡ lists → AreInOrder nodes seats → AllZip Done jobs after
      → ((node : ℕ) → log node ≡ log_of_node after node) → EachHasFollowed (requests_in lists) seats log
  logs_followed nodes jobs seats after lists log is_seats is_lists order z is_log node list seat p q =
      subst (λ (l : List LogEntry). HasFollowed list seat.log l) (sym (is_log node))
      (each_followed nodes jobs seats after lists is_seats is_lists order z node list seat p q)

  -- the fault of closing is that of the run, if each replica was let in and followed its list
  pub fault_of_closing : (nodes capacity : ℕ) (limit : Option ℕ) (jobs : List J) (seats after : List NodeLog) (lists : List (Vec Step Global)) (fault : LogFault)
      → map seat_of jobs ≡ seats → map steps_of jobs ≡ lists → AreInOrder nodes seats → AllZip Done jobs after
      → IsFaultOfClose nodes capacity limit after fault
      → IsFaultOfRun may_answer nodes capacity limit (requests_in lists) seats (fault_of_logs fault)
  fault_of_closing nodes capacity limit jobs seats after lists (Mismatch node) is_seats is_lists order z p = (
    after,
    all_let_in nodes jobs seats after is_seats order z,
    each_followed nodes jobs seats after lists is_seats is_lists order z,
    p,
  )
  fault_of_closing nodes capacity limit jobs seats after lists Memory is_seats is_lists order z p = tt

  -- the fate of the jobs is the fault of the run
  pub fate_is_fault_of_run : (nodes capacity : ℕ) (limit : Option ℕ) (jobs : List J) (seats : List NodeLog) (lists : List (List TimedRequest)) (f : Fate)
      → map seat_of jobs ≡ seats → AreInOrder nodes seats → IsFateOf Done Shut jobs f
      → IsFaultOfRun may_answer nodes capacity limit lists seats (fault_of_fate f)
  fate_is_fault_of_run nodes capacity limit jobs seats lists (fate.Shut node) is order p =
      first_shut nodes jobs seats node.0 is order p.0 p.1
  fate_is_fault_of_run nodes capacity limit jobs seats lists fate.Memory is order p = tt

-- the seats of a new cluster are one for each node, in order
pub new_seats_are_in_order : (nodes n : ℕ) (seats : List NodeLog) → n ≡ nodes → seats ≡ fresh_seats n
    → AreInOrder nodes seats × (length seats ≡ n)
new_seats_are_in_order nodes n seats same is =
    let fresh = fresh_seats_are_in_order n in
    let order : AreInOrder n seats = subst (λ (ss : List NodeLog). AreInOrder n ss) (sym is) fresh.order in
    (subst (λ (m : ℕ). AreInOrder m seats) same order, ap (λ (ss : List NodeLog). length ss) is ∙ fresh.count)
