-- The first event of a node that breaks a rule is one, and the same in each order.
use Rattle.std.proofs.Common.{◌≡◌, ◌∙◌, ◌↔◌, true, ℕ, ◌+◌, ◌<◌, ◌≤◌, inl, inr, length, Option, Some, None, arith, refl, subst, sym, ap}
use Rattle.std.specs.Prelude.{◌||◌, is_some, option_map}
use Rattle.std.proofs.lemmas.Bool.{cases_eq, cases_order}
use Rattle.hlc_causality.specs.Causality.{Skeleton, SkeletonEvent, skeleton_at}
use Rattle.hlc_causality.specs.NodeEvents.{IsEventOf}
use Rattle.hlc_causes.specs.declared.answers.Causes.{Causes}
use Rattle.hlc_log.specs.Reordering.{IsReordering, IsSameNode}
use Rattle.hlc_log.proofs.OrderSkeletons.{length-skeleton_in, skeleton_in_at}
use Rattle.hlc_log.proofs.Reorderings.{earlier_returned, same_node_turned}
use Rattle.hlc_ordered_log.specs.Found.{NamesCausesIn}
use Rattle.hlc_ordered_log.specs.InOrder.{IsInOrder, LogInOrder, clocks_of, event_in_order, skeleton_of, wrong_of}
use Rattle.hlc_ordered_log.specs.Moved.{moved_causes, moved_event}
use Rattle.hlc_ordered_log.specs.Reordered.{TellTheSame, moved_position}
use Rattle.hlc_ordered_log.proofs.EventsInOrder.{length-skeleton_of}
use Rattle.hlc_ordered_log.proofs.Ordering.{order_len}
use Rattle.hlc_ordered_log.proofs.ReorderedTraces.{skeletons_moved, turned_log}
use Rattle.hlc_ordered_log.proofs.SeenTraces.{causes_agree, wrong_agrees}
use Rattle.hlc_log_text.specs.declared.cause_word.CauseWord.{CauseWord}
use Rattle.hlc_log_text.specs.declared.cause_word.CauseWord.TheVariants as word
use Rattle.hlc_log_audit.specs.FirstToBreak.{BreaksBy, IsFirstToBreak, NamesFirstToBreak, is_told_by}
use Rattle.hlc_log_audit.proofs.EventsInOrder.{same_causes}

module _ (log : LogInOrder) (full : ℕ) (rule : CauseWord) where
  -- whatever answer tells the causes of an event, the test is the same
  pub breaks_told : (k : ℕ) → k < length (clocks_of log) → (causes : Causes) → NamesCausesIn log full k causes
      → (is_told_by rule causes (wrong_of log k) ≡ true) ↔ BreaksBy log full rule k
  breaks_told k exists causes names = (
    λ is. (causes, names, is),
    λ h. subst (λ (c : Causes). is_told_by rule c (wrong_of log k) ≡ true) (same_causes log full k exists h.0 causes h.1 names) h.2,
  )

  module _ (node : ℕ) where
    none_before : (j k : ℕ) → IsFirstToBreak log full rule node j → IsFirstToBreak log full rule node k → ¬ (j < k)
    none_before j k a b lt =
        b.first j (record { earlier = lt; exists = b.event.exists; same_node = a.event.at_node ∙ sym b.event.at_node }) a.breaks

    pub one_first : (a b : Option ℕ) → NamesFirstToBreak log full rule node a → NamesFirstToBreak log full rule node b → a ≡ b
    one_first None None p q = refl
    one_first None (Some k) p q = absurd (p k q.event q.breaks)
    one_first (Some j) None p q = absurd (q j p.event p.breaks)
    one_first (Some j) (Some k) p q = elim (cases_order j k) [
      | inl same ↦ ap (λ (x : ℕ). Some x) same
      | inr differ ↦ elim differ [ inl lt ↦ absurd (none_before j k p q lt) | inr gt ↦ absurd (none_before k j q p gt) ]
    ]

-- other orders
still_some : {A B : Type 0} (f : A → B) (o : Option A) → is_some (option_map f o) ≡ is_some o
still_some f None = refl
still_some f (Some x) = refl

told_moved : (to : ℕ → ℕ) (rule : CauseWord) (causes : Causes) (wrong : Option ℕ)
    → is_told_by rule (moved_causes to causes) (option_map to wrong) ≡ is_told_by rule causes wrong
told_moved to word.Behind causes wrong = refl
told_moved to word.NotAbove causes wrong =
    λ i. still_some (moved_event to) causes.not_above_previous i || still_some (moved_event to) causes.not_above_send i
told_moved to word.Ahead causes wrong = refl
told_moved to word.Carried causes wrong = still_some to wrong

module _ (log other : LogInOrder) (to back : ℕ → ℕ) (h : TellTheSame log other to back) (full : ℕ) (rule : CauseWord) where
  in_order : (k : ℕ) → k < length (skeleton_of log) → k < length log.order
  in_order k lt = let size = length-skeleton_in log.events log.order h.ordered.causal in omega arith

  breaks_moved : (k : ℕ) → k < length (skeleton_of log) → BreaksBy log full rule k → BreaksBy other full rule (moved_position log other to k)
  breaks_moved k lt (causes, names, is) =
      let there = moved_position log other to in (
        moved_causes there causes,
        causes_agree log other to back h full k causes (in_order k lt) names,
        ap (is_told_by rule (moved_causes there causes)) (wrong_agrees log other to back h k (in_order k lt))
            ∙ told_moved there rule causes (wrong_of log k) ∙ is,
      )

module _ (log other : LogInOrder) (to back : ℕ → ℕ) (h : TellTheSame log other to back) (full : ℕ) (rule : CauseWord) (a b : ℕ)
    (same : IsSameNode (skeleton_of log) (skeleton_of other) (moved_position log other to) a b) where
  abbrev s : Skeleton
  s = skeleton_of log

  abbrev t : Skeleton
  t = skeleton_of other

  abbrev there : ℕ → ℕ
  there = moved_position log other to

  abbrev here : ℕ → ℕ
  here = moved_position other log back

  links : IsReordering s t there here
  links = skeletons_moved log other to back h

  breaks_returned : (k : ℕ) → k < length t → BreaksBy other full rule k → BreaksBy log full rule (here k)
  breaks_returned k lt breaks = breaks_moved other log back to (turned_log log other to back h) full rule k lt breaks

  pub first_moved : (found : Option ℕ) → NamesFirstToBreak log full rule a found → NamesFirstToBreak other full rule b (option_map there found)
  first_moved None none = λ k event breaks.
      let returned : IsEventOf s a (here k) = record {
        exists = links.here.exists k event.exists;
        at_node = (same_node_turned s t there here links a b same k event.exists).0 event.at_node;
      } in
      none (here k) returned (breaks_returned k event.exists breaks)
  first_moved (Some k) is = record {
    event = record { exists = links.there.exists k is.event.exists; at_node = (same k is.event.exists).0 is.event.at_node };
    breaks = breaks_moved log other to back h full rule k is.event.exists is.breaks;
    first = λ j earlier breaks.
        is.first (here j) (earlier_returned s t there here links j k is.event.exists earlier)
        (breaks_returned j (omega (arith, earlier.earlier, earlier.exists)) breaks);
  }

-- one event after another
module _ (log : LogInOrder) (ordered : IsInOrder log) (full : ℕ) (rule : CauseWord) (node : ℕ) where
  -- none of the node's events before a position breaks the rule
  abbrev pub NoneBefore : ℕ → Type 0
  NoneBefore n = (k : ℕ) → k < n → (skeleton_at (skeleton_of log) k).node ≡ node → ¬ BreaksBy log full rule k

  -- the node of an event
  pub node_there : (k : ℕ) → k < length log.events → (skeleton_at (skeleton_of log) k).node ≡ (event_in_order log.events log.order k).node.0
  node_there k lt =
      let within : k < length log.order = omega (arith, order_len log.events log.order ordered.causal) in
      ap (λ (event : SkeletonEvent). event.node) (skeleton_in_at log.events log.order ordered.causal k within)

  pub found_first : (k : ℕ) → k < length log.events → NoneBefore k → (skeleton_at (skeleton_of log) k).node ≡ node → BreaksBy log full rule k
      → IsFirstToBreak log full rule node k
  found_first k lt none at_node breaks = record {
    event = record { exists = omega (arith, length-skeleton_of log ordered); at_node = at_node };
    breaks = breaks;
    first = λ j earlier. none j earlier.earlier (earlier.same_node ∙ at_node);
  }

  pub none_after : (k : ℕ) → NoneBefore k → ((skeleton_at (skeleton_of log) k).node ≡ node → ¬ BreaksBy log full rule k) → NoneBefore (k + 1)
  none_after k none here j lt at_node = elim (cases_eq j k) [
    | inl is ↦ subst (λ (x : ℕ). (skeleton_at (skeleton_of log) x).node ≡ node → ¬ BreaksBy log full rule x) (sym is) here at_node
    | inr differ ↦ none j (omega arith) at_node
  ]

  pub none_breaks : (n : ℕ) → length log.events ≤ n → NoneBefore n → NamesFirstToBreak log full rule node None
  none_breaks n all none = λ k event. none k (omega (arith, event.exists, length-skeleton_of log ordered)) event.at_node
