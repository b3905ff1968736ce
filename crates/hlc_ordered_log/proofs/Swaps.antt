-- The same events stand swapped in logs that tell the same.
use Rattle.std.proofs.Common.{◌≡◌, ◌∙◌, Bool, ℕ, ◌<◌, List, length, Option, Some, None, arith, refl, sym, ap}
use Rattle.std.specs.Prelude.{◌&&◌, if◌then◌else◌, max, nat_le, option_map}
use Rattle.std.specs.Option.{option_cmp}
use Rattle.std.specs.Ordering.{ord_max}
use Rattle.hlc_stamp.specs.Order.{Pair, stamp_cmp}
use Rattle.hlc_causality.specs.Assignment.{pair_at}
use Rattle.hlc_causality.specs.Causality.{Skeleton}
use Rattle.hlc_causality.specs.ClockEvents.{ClockEvents, clock_skeleton}
use Rattle.hlc_causality.specs.FollowedClockChains.{is_same_pair}
use Rattle.hlc_causality.specs.Predecessors.{previous_of, send_of}
use Rattle.hlc_causality.proofs.ClockEvents.{skeleton_size}
use Rattle.hlc_causes.specs.Rule.{greatest_of, next_l, rule_pair}
use Rattle.hlc_causes.specs.Swapped.{keeps_after, stand_swapped}
use Rattle.hlc_log.specs.Reordering.{IsReordering}
use Rattle.hlc_log.proofs.OrderSkeletons.{length-skeleton_in}
use Rattle.hlc_ordered_log.specs.Found.{swapped_with}
use Rattle.hlc_ordered_log.specs.InOrder.{LogInOrder, clocks_of, seen_of}
use Rattle.hlc_ordered_log.specs.Laws.{SwapsAgree}
use Rattle.hlc_ordered_log.specs.Reordered.{IsReorderedTrace, TellTheSame, moved_position}
use Rattle.hlc_ordered_log.proofs.EventsInOrder.{length-clocks_of}
use Rattle.hlc_ordered_log.proofs.ReorderedTraces.{clocks_moved, previous_exists, previous_moved, read, same_told, send_exists, send_moved}
use Rattle.hlc_ordered_log.proofs.SeenTraces.{seen_traces}

module _ (t u : ClockEvents) (claimed others : List Pair) (to back : ℕ → ℕ) (h : IsReorderedTrace t u claimed others to back)
    (f : ℕ) (exists : f < length t) where
  abbrev s : Skeleton
  s = clock_skeleton t

  abbrev r : Skeleton
  r = clock_skeleton u

  -- events that are named exist
  abbrev pub Exist : Option ℕ → Type 0
  Exist o = (d : ℕ) → o ≡ Some d → d < length s

  shown : f < length s
  shown = omega (arith, exists, skeleton_size t)

  pair_moved : (o : Option ℕ) → Exist o → option_map (pair_at others) (option_map to o) ≡ option_map (pair_at claimed) o
  pair_moved None exist = refl
  pair_moved (Some d) exist = ap (λ (p : Pair). Some p) (sym (h.claims d (exist d refl)))

  greatest_moved : (a b : Option ℕ) → Exist a → Exist b → greatest_of others (option_map to a) (option_map to b) ≡ greatest_of claimed a b
  greatest_moved a b of_a of_b = λ i. ord_max (option_cmp stamp_cmp) (pair_moved a of_a i) (pair_moved b of_b i)

  -- whether a stamp is the least that can be written, by what the rule looks at
  abbrev is_least_by : (full : ℕ) (own : Pair) (ticks : Bool) (before : Option Pair) (floor : Pair) → Bool
  is_least_by full own ticks before floor =
      let p = rule_pair ticks before floor in is_same_pair own (if nat_le p.c (max full own.c) then p else next_l p)

  pub keeps_moved : (full : ℕ) (previous : Option ℕ) → Exist previous
      → keeps_after u others full (to f) (option_map to previous) ≡ keeps_after t claimed full f previous
  keeps_moved full previous exist =
      let own : pair_at others (to f) ≡ pair_at claimed f = sym (h.claims f shown) in
      let ticks = h.events.ticks f exists in
      let floor = h.events.floor f exists in
      let before : greatest_of others (option_map to previous) (send_of r (to f)) ≡ greatest_of claimed previous (send_of s f) =
      ap (greatest_of others (option_map to previous)) (send_moved s r to back h.events.links f shown)
      ∙ greatest_moved previous (send_of s f) exist (send_exists s r to back h.events.links f shown) in
      λ i. is_least_by full (own i) (ticks i) (before i) (floor i)

-- of logs in order
module _ (log other : LogInOrder) (to back : ℕ → ℕ) (h : TellTheSame log other to back) (full : ℕ) where
  abbrev moved : ℕ → ℕ
  moved = moved_position log other to

  abbrev moved_back : ℕ → ℕ
  moved_back = moved_position other log back

  abbrev here : Skeleton
  here = clock_skeleton (clocks_of log)

  abbrev there : Skeleton
  there = clock_skeleton (clocks_of other)

  links : IsReordering here there moved moved_back
  links = (clocks_moved log other to back h).links

  -- the events of the order are those that clock rules read
  placed : (k : ℕ) → k < length log.order → k < length here
  placed k lt = omega (arith, read log other to back h k lt, skeleton_size (clocks_of log))

  in_order : (k : ℕ) → k < length here → k < length log.order
  in_order k lt =
      omega (arith, lt, skeleton_size (clocks_of log), length-clocks_of log, length-skeleton_in log.events log.order h.ordered.causal)

  keeps_there : (k : ℕ) → k < length log.order → (previous : Option ℕ) → ((d : ℕ) → previous ≡ Some d → d < length here)
      → keeps_after (clocks_of other) (seen_of other (moved k)) full (moved k) (option_map moved previous) ≡ keeps_after (clocks_of log) (seen_of log k) full k previous
  keeps_there k lt =
      keeps_moved (clocks_of log) (clocks_of other) (seen_of log k) (seen_of other (moved k)) moved moved_back (seen_traces log other to back h k lt) k
      (read log other to back h k lt) full

  stand_there : (k d : ℕ) → k < length log.order → d < length log.order
      → stand_swapped (clocks_of other) (seen_of other) full (moved k) (moved d) ≡ stand_swapped (clocks_of log) (seen_of log) full k d
  stand_there k d lt d_lt =
      let before =
      ap (keeps_after (clocks_of other) (seen_of other (moved k)) full (moved k)) (previous_moved here there moved moved_back links d (placed d d_lt))
      ∙ keeps_there k lt (previous_of here d) (previous_exists here there moved moved_back links d (placed d d_lt)) in
      let after = keeps_there d d_lt (Some k) (λ e is. (let same : k ≡ e = cc in omega (arith, same, placed k lt))) in
      λ i. before i && after i

  with_there : (k : ℕ) → k < length log.order → (previous : Option ℕ) → ((d : ℕ) → previous ≡ Some d → d < length here)
      → swapped_with other full (moved k) (option_map moved previous) ≡ swapped_with log full k previous
  with_there k lt None exist = refl
  with_there k lt (Some d) exist =
      let d_lt = in_order d (exist d refl) in
      let told = same_told log other to back h k lt in
      let told_before = same_told log other to back h d d_lt in
      let stand = stand_there k d lt d_lt in
      λ i. told i && (told_before i && stand i)

pub swaps_agree : SwapsAgree
swaps_agree log other to back h full k lt =
    let s = clock_skeleton (clocks_of log) in
    let r = clock_skeleton (clocks_of other) in
    let there = moved_position log other to in
    let here = moved_position other log back in
    let links = (clocks_moved log other to back h).links in
    let shown = placed log other to back h full k lt in
    ap (swapped_with other full (there k)) (previous_moved s r there here links k shown)
    ∙ with_there log other to back h full k lt (previous_of s k) (previous_exists s r there here links k shown)
