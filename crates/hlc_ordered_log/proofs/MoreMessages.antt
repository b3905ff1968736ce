-- Skews of more and more messages.
use Rattle.std.proofs.Common.{◌≡◌, ◌≢◌, ◌⊎◌, ℕ, ◌+◌, ◌<◌, ◌≤◌, inl, inr, Bool, true, false, [], Option, Some, None, arith, refl, subst, sym, ap, ◌∙◌}
use Rattle.std.specs.Prelude.{nat_lt}
use Rattle.std.specs.List.Sorted.{IsStrictlySortedBy}
use Rattle.std.specs.Map.{keys_of}
use Rattle.std.proofs.lemmas.Bool.{cases_Bool, cases_eq, ltb-false, ltb-true}
use Rattle.hlc_causality.specs.Causality.{IsSendOf, Skeleton, skeleton_at}
use Rattle.hlc_causality.proofs.Predecessors.{send_is_unique}
use Rattle.hlc_ordered_log.specs.declared.skew.Skew.{Skew}
use Rattle.hlc_ordered_log.specs.declared.skew_nodes.SkewNodes.{SkewNodes}
use Rattle.hlc_ordered_log.specs.Skew.{AreSkewsBefore, IsBelowSkew, IsMessage, IsSkewBefore, IsToldSend, NamesSkewBefore, Skews, TakesSkew, by_nodes, is_greater, skew_between}

-- nodes are the same, or not
same_nodes : (a b : SkewNodes) → (a ≡ b) ⊎ (a ≢ b)
same_nodes a b = elim (cases_eq a.to.0 b.to.0) [
  | inl to_is ↦ elim (cases_eq a.from.0 b.from.0) [
    | inl from_is ↦ inl (λ i. record { to = record { 0 = to_is i }; from = record { 0 = from_is i } })
    | inr ne ↦ inr (λ same. ne (ap (λ (x : SkewNodes). x.from.0) same))
  ]
  | inr ne ↦ inr (λ same. ne (ap (λ (x : SkewNodes). x.to.0) same))
]

-- one more event
module _ (s : Skeleton) (told : ℕ → Bool) (n : ℕ) where
  -- it delivers nothing from the one node to the other
  skew_without : (from to : ℕ) (o : Option Skew) → ((e : ℕ) → ¬ IsMessage s told from to e n)
      → NamesSkewBefore s told n from to o → NamesSkewBefore s told (n + 1) from to o
  skew_without from to None none before = λ e f within message. elim (cases_eq f n) [
    | inl same ↦ none e (subst (IsMessage s told from to e) same message)
    | inr other ↦ before e f (omega arith) message
  ]
  skew_without from to (Some skew) none is =
      let earlier = is.before in
      record {
        before = omega arith;
        message = is.message;
        sent_at = is.sent_at;
        delivered_at = is.delivered_at;
        none_greater = λ e f within message. elim (cases_eq f n) [
          | inl same ↦ absurd (none e (subst (IsMessage s told from to e) same message))
          | inr other ↦ is.none_greater e f (omega arith) message
        ];
        first = is.first;
      }

  -- it delivers a message, which shows a skew
  module _ (from to : ℕ) (shown : Skew) (at : shown.delivery.0 ≡ n) (message : IsMessage s told from to shown.send.0 shown.delivery.0)
      (sent_at : shown.sent_at ≡ (skeleton_at s shown.send.0).reading) (delivered_at : shown.delivered_at ≡ (skeleton_at s shown.delivery.0).reading) where
    -- every message that is delivered there is this one
    this_one : (e f : ℕ) → f ≡ n → IsMessage s told from to e f → (skeleton_at s e).reading ≡ shown.sent_at
    this_one e f here other =
        let same : e ≡ shown.send.0 = send_is_unique s e shown.send.0 shown.delivery.0
        (subst (IsSendOf s e) (here ∙ sym at) other.sent.send) message.sent.send in
        ap (λ (x : ℕ). (skeleton_at s x).reading) same ∙ sym sent_at

    read_there : (f : ℕ) → f ≡ n → (skeleton_at s f).reading ≡ shown.delivered_at
    read_there f here = ap (λ (x : ℕ). (skeleton_at s x).reading) (here ∙ sym at) ∙ sym delivered_at

    shown_skew : ((e f : ℕ) → f < n → IsMessage s told from to e f → IsBelowSkew s e f shown) → IsSkewBefore s told (n + 1) from to shown
    shown_skew below = record {
      before = omega arith;
      message = message;
      sent_at = sent_at;
      delivered_at = delivered_at;
      none_greater = λ e f within other. elim (cases_eq f n) [
        | inl here ↦
            let sent = this_one e f here other in
            let read = read_there f here in
            omega arith
        | inr before ↦
            let less = below e f (omega arith) other in
            omega arith
      ];
      first = λ e f earlier other. below e f (omega arith) other;
    }

    kept_skew : (first : Skew) → IsSkewBefore s told n from to first → shown.sent_at + first.delivered_at ≤ first.sent_at + shown.delivered_at
        → IsSkewBefore s told (n + 1) from to first
    kept_skew first is less =
        let earlier = is.before in
        record {
          before = omega arith;
          message = is.message;
          sent_at = is.sent_at;
          delivered_at = is.delivered_at;
          none_greater = λ e f within other. elim (cases_eq f n) [
            | inl here ↦
                let sent = this_one e f here other in
                let read = read_there f here in
                omega arith
            | inr before ↦ is.none_greater e f (omega arith) other
          ];
          first = is.first;
        }

    is_greater_than : (first : Skew) → IsSkewBefore s told n from to first → first.sent_at + shown.delivered_at < shown.sent_at + first.delivered_at
        → (e f : ℕ) → f < n → IsMessage s told from to e f → IsBelowSkew s e f shown
    is_greater_than first is more e f before other =
        let at_most = is.none_greater e f before other in
        omega arith

    -- the greater one stands, the first if they are equal
    skew_with : (o p : Option Skew) → NamesSkewBefore s told n from to o → (is_greater shown o ≡ true → p ≡ Some shown) → (is_greater shown o ≡ false → p ≡ o)
        → NamesSkewBefore s told (n + 1) from to p
    skew_with None p none more same =
        subst (NamesSkewBefore s told (n + 1) from to) (sym (more refl)) (shown_skew (λ e f before other. absurd (none e f before other)))
    skew_with (Some first) p is more same =
        let theirs = first.sent_at + shown.delivered_at in
        let mine = shown.sent_at + first.delivered_at in
        elim (cases_Bool (nat_lt theirs mine)) [
          | inl holds ↦
              subst (NamesSkewBefore s told (n + 1) from to) (sym (more holds)) (shown_skew (is_greater_than first is (ltb-true theirs mine holds)))
          | inr fails ↦
              subst (NamesSkewBefore s told (n + 1) from to) (sym (same fails)) (kept_skew first is (ltb-false theirs mine fails))
        ]

    -- no other message is delivered there
    abbrev between : SkewNodes
    between = record { to = record { 0 = to }; from = record { 0 = from } }

    nodes_are_these : (other : SkewNodes) (e : ℕ) → IsMessage s told other.from.0 other.to.0 e n → other ≡ between
    nodes_are_these other e found =
        let same : e ≡ shown.send.0 = send_is_unique s e shown.send.0 shown.delivery.0
        (subst (IsSendOf s e) (sym at) found.sent.send) message.sent.send in
        let from_is = sym found.from_node ∙ ap (λ (x : ℕ). (skeleton_at s x).node) same ∙ message.from_node in
        let to_is = sym found.to_node ∙ ap (λ (x : ℕ). (skeleton_at s x).node) (sym at) ∙ message.to_node in
        λ i. record { to = record { 0 = to_is i }; from = record { 0 = from_is i } }

    -- the skews with what it shows
    pub skews_with : (before after : Skews) → AreSkewsBefore s told n before → TakesSkew before after between shown
        → AreSkewsBefore s told (n + 1) after
    skews_with before after are takes = record {
      sorted = takes.sorted are.sorted;
      each = λ nodes. elim (same_nodes nodes between) [
        | inl same ↦
            subst (λ (x : SkewNodes). NamesSkewBefore s told (n + 1) x.from.0 x.to.0 (skew_between after x)) (sym same)
            (skew_with (skew_between before between) (skew_between after between) (are.each between) takes.greater takes.first)
        | inr ne ↦
            subst (NamesSkewBefore s told (n + 1) nodes.from.0 nodes.to.0) (sym (takes.others nodes ne))
            (skew_without nodes.from.0 nodes.to.0 (skew_between before nodes) (λ e found. ne (nodes_are_these nodes e found)) (are.each nodes))
      ];
    }

  -- nothing is delivered there
  pub skews_without : (skews : Skews) → ((e : ℕ) → ¬ IsToldSend s told e n) → AreSkewsBefore s told n skews
      → AreSkewsBefore s told (n + 1) skews
  skews_without skews none are = record {
    sorted = are.sorted;
    each = λ nodes. skew_without nodes.from.0 nodes.to.0 (skew_between skews nodes) (λ e found. none e found.sent) (are.each nodes);
  }

-- before the first event there is none
pub skews_begin : (s : Skeleton) (told : ℕ → Bool) (skews : Skews) → skews ≡ [] → IsStrictlySortedBy by_nodes (keys_of skews) → AreSkewsBefore s told 0 skews
skews_begin s told skews empty sorted = record {
  sorted = sorted;
  each = λ nodes.
      subst (λ (none : Skews). NamesSkewBefore s told 0 nodes.from.0 nodes.to.0 (skew_between none nodes)) (sym empty)
      (λ e f before message. absurd (omega arith));
}
