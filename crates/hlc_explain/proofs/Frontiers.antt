-- How a frontier goes back through a past.
use Rattle.std.proofs.Common.{◌≡◌, ◌≢◌, ◌↔◌, ◌⊎◌, ℕ, zero, suc, ◌+◌, ◌<◌, ◌≤◌, inl, inr, List, [], ◌∷◌, length, take, get_or, get_or-set_other, get_or-set_same, length-set, max, Option, Some, arith, refl, subst, sym, ap, ◌∙◌}
use Rattle.std.proofs.Math.Nat.{le-max_left, le-max_right}
use Rattle.std.proofs.lemmas.Bool.{cases_eq, cases_lt}
use Rattle.std.specs.Prelude.{All}
use Rattle.std.proofs.lemmas.List.{get_or_past}
use Rattle.std.proofs.lemmas.List.Elements.{All-get_or}
use Rattle.hlc_stamp.specs.declared.id.EventId.{EventId}
use Rattle.hlc_causality.specs.Causality.{Skeleton, skeleton_at}
use Rattle.hlc_causality.specs.Neighbours.{NamesPrevious, NamesSend}
use Rattle.hlc_causality.specs.Past.{IsInPast}
use Rattle.hlc_causality.proofs.Past.{direct_happened_before, last_step_is_direct, past_then, past_trans}
use Rattle.hlc_explain.specs.Frontier.{AreEnds, IsBeforeEnd, IsBehind, IsFrontier, IsInRest, ends_with, frontier_with, last_of}
use Rattle.hlc_explain.specs.declared.frontier.Frontier.{Frontier}
use Rattle.hlc_explain.specs.Marks.{IsNamed}
use Rattle.hlc_explain.proofs.Reaching.{direct_is_named, named_is_direct, past_is_earlier}

pub end_is_no_later : (ends : List ℕ) (k : ℕ) → get_or ends k 0 ≤ last_of ends
end_is_no_later [] k = omega arith
end_is_no_later (end ∷ ends) zero = le-max_left end (last_of ends)
end_is_no_later (end ∷ ends) (suc k) = let a = end_is_no_later ends k in let b = le-max_right end (last_of ends) in omega arith

pub last_of_among : (ends : List ℕ) (n : ℕ) → last_of ends ≡ n + 1 → (k : ℕ) × (get_or ends k 0 ≡ n + 1)
last_of_among [] n is = absurd (omega arith)
last_of_among (end ∷ ends) n is = elim (cases_eq end (n + 1)) [
  | inl here ↦ (zero, here)
  | inr other ↦ let rest = last_of_among ends n (grind (arith, is, other)) in (suc rest.0, rest.1)
]

pub last_of_bounded : (ends : List ℕ) (n : ℕ) → ((k : ℕ) → get_or ends k 0 ≤ n) → last_of ends ≤ n
last_of_bounded [] n each = omega arith
last_of_bounded (end ∷ ends) n each =
    let here : end ≤ n = each zero in
    let rest : last_of ends ≤ n = last_of_bounded ends n (λ k. each (suc k)) in
    grind (arith, here, rest)

pub last_of_more : (ends : List ℕ) (i : ℕ) → i < length ends → last_of (take (suc i) ends) ≡ max (last_of (take i ends)) (get_or ends i 0)
last_of_more [] i lt = absurd (omega arith)
last_of_more (end ∷ ends) zero lt = grind arith
last_of_more (end ∷ ends) (suc i) lt = let more = last_of_more ends i (omega arith) in grind (arith, more)

-- ends that are all 0
module _ (ends : List ℕ) (clear : All (λ (end : ℕ). end ≡ 0) ends) where
  pub no_end : (k : ℕ) → ◌≡◌ {A = ℕ} (get_or ends k 0) 0
  no_end k = elim (cases_lt k (length ends)) [
    | inl lt ↦ All-get_or (λ (end : ℕ). end ≡ 0) ends k 0 lt clear
    | inr le ↦ get_or_past ends k 0 le
  ]

  pub last_of_none : 0 ≡ last_of ends
  last_of_none = let le = last_of_bounded ends 0 (λ k. let none = no_end k in omega arith) in omega arith

module _ (s : Skeleton) where
  -- an event's past has the events before it at its node
  pub up_to : (x d : ℕ) → x ≤ d → d < length s → (skeleton_at s x).node ≡ (skeleton_at s d).node → IsInPast s x d
  up_to x d le exists same = elim (cases_eq x d) [
    | inl is ↦ inl is
    | inr other ↦ inr ([], inl (record { earlier = omega arith; exists = exists; same_node = same }))
  ]

  -- if all ends are 0, no event is within
  pub none_behind : (ends : List ℕ) (e : ℕ) → ((k : ℕ) → get_or ends k 0 ≡ 0) → ¬ IsBehind s ends e
  none_behind ends e zeros (x, within, past) = let no = zeros (skeleton_at s x).node in let lt = within.before_end in absurd (omega arith)

  pub no_ends : (ends : List ℕ) → ((k : ℕ) → get_or ends k 0 ≡ 0) → AreEnds s ends
  no_ends ends zeros node d is = let no = zeros node in absurd (omega arith)

  -- what is in the rest comes before the last end
  pub behind_is_earlier : (ends : List ℕ) (e : ℕ) → IsBehind s ends e → e < last_of ends
  behind_is_earlier ends e (x, within, past) =
      let le = past_is_earlier s e x past in
      let lt = within.before_end in
      let bound = end_is_no_later ends (skeleton_at s x).node in
      omega arith

  pub within_is_behind : (ends : List ℕ) (e : ℕ) → e < length s → e < get_or ends (skeleton_at s e).node 0 → IsBehind s ends e
  within_is_behind ends e exists lt = (e, record { exists = exists; before_end = lt }, inl refl)

  -- one node's end is changed
  module _ (ends new : List ℕ) (n : ℕ) (others : (k : ℕ) → k ≢ n → get_or new k 0 ≡ get_or ends k 0) where
    -- an event of another node
    elsewhere : (x : ℕ) → (skeleton_at s x).node ≢ n → IsBeforeEnd s ends x → IsBeforeEnd s new x
    elsewhere x other within = record {
      exists = within.exists;
      before_end = let same = others (skeleton_at s x).node other in let lt = within.before_end in omega arith;
    }

    elsewhere_before : (x : ℕ) → (skeleton_at s x).node ≢ n → IsBeforeEnd s new x → IsBeforeEnd s ends x
    elsewhere_before x other within = record {
      exists = within.exists;
      before_end = let same = others (skeleton_at s x).node other in let lt = within.before_end in omega arith;
    }

    here_within : (x : ℕ) → (skeleton_at s x).node ≡ n → x < length s → x < get_or new n 0 → IsBeforeEnd s new x
    here_within x here exists lt = record { exists = exists; before_end = let same = ap (λ (k : ℕ). get_or new k 0) here in omega arith }

    here_before : (x : ℕ) → (skeleton_at s x).node ≡ n → IsBeforeEnd s ends x → x < get_or ends n 0
    here_before x here within = let same = ap (λ (k : ℕ). get_or ends k 0) here in let lt = within.before_end in omega arith

    here_after : (x : ℕ) → (skeleton_at s x).node ≡ n → IsBeforeEnd s new x → x < get_or new n 0
    here_after x here within = let same = ap (λ (k : ℕ). get_or new k 0) here in let lt = within.before_end in omega arith

    -- the end is moved to right after an event d, unless it comes later already
    module _ (d : ℕ) (exists : d < length s) (at_node : (skeleton_at s d).node ≡ n) (is : get_or new n 0 ≡ max (get_or ends n 0) (d + 1))
      where
        no_less : get_or ends n 0 ≤ get_or new n 0
        no_less = let le = le-max_left (get_or ends n 0) (d + 1) in omega arith

        d_within : d < get_or new n 0
        d_within = let le = le-max_right (get_or ends n 0) (d + 1) in omega arith

        up_to_d : (x : ℕ) → get_or ends n 0 ≤ x → x < get_or new n 0 → x ≤ d
        up_to_d x from to = grind (arith, is, from, to)

        pub behind_extended : (e : ℕ) → IsBehind s new e ↔ (IsBehind s ends e ⊎ IsInPast s e d)
        behind_extended e = (
          λ h. elim (cases_eq (skeleton_at s h.0).node n) [
            | inl here ↦ elim (cases_lt h.0 (get_or ends n 0)) [
              | inl lt ↦ inl (h.0, record { exists = h.1.exists; before_end = let same = ap (λ (k : ℕ). get_or ends k 0) here in omega arith }, h.2)
              | inr from ↦ inr (past_trans s e h.0 d h.2 (up_to h.0 d (up_to_d h.0 from (here_after h.0 here h.1)) exists (here ∙ sym at_node)))
            ]
            | inr other ↦ inl (h.0, elsewhere_before h.0 other h.1, h.2)
          ],
          λ h. elim h [
            | inl rest ↦ elim (cases_eq (skeleton_at s rest.0).node n) [
              | inl here ↦
                  (rest.0, here_within rest.0 here rest.1.exists (let lt = here_before rest.0 here rest.1 in let le = no_less in omega arith), rest.2)
              | inr other ↦ (rest.0, elsewhere rest.0 other rest.1, rest.2)
            ]
            | inr past ↦ (d, here_within d at_node exists d_within, past)
          ],
        )

        pub ends_extended : AreEnds s ends → AreEnds s new
        ends_extended ends_are node x right = elim (cases_eq node n) [
          | inl here ↦
              let at : get_or new n 0 ≡ x + 1 = ap (λ (k : ℕ). get_or new k 0) (sym here) ∙ right in
              elim (cases_eq x d) [
                | inl same ↦ (omega arith, ap (λ (y : ℕ). (skeleton_at s y).node) same ∙ at_node ∙ sym here)
                | inr ne ↦
                    let old : get_or ends n 0 ≡ x + 1 = grind (arith, is, at, ne) in
                    let there = ends_are n x old in
                    (there.0, there.1 ∙ sym here)
              ]
          | inr other ↦ ends_are node x (sym (others node other) ∙ right)
        ]

        no_later_extended : (m : ℕ) → last_of ends ≤ m → d < m → last_of new ≤ m
        no_later_extended m le lt = last_of_bounded new m (λ k. let bound = end_is_no_later ends k in elim (cases_eq k n) [
          | inl here ↦
              let same : get_or new k 0 ≡ get_or new n 0 = ap (λ (j : ℕ). get_or new j 0) here in
              let old : get_or ends k 0 ≡ get_or ends n 0 = ap (λ (j : ℕ). get_or ends j 0) here in
              grind (arith, is, same, old, bound, le, lt)
          | inr other ↦ let same = others k other in omega arith
        ])

        pub last_of_extended : last_of new ≡ max (last_of ends) (d + 1)
        last_of_extended =
            let a : last_of ends ≤ last_of new = last_of_bounded ends (last_of new) (λ k.
            let bound = end_is_no_later new k in elim (cases_eq k n) [
              | inl here ↦
                  let same : get_or new k 0 ≡ get_or new n 0 = ap (λ (j : ℕ). get_or new j 0) here in
                  let old : get_or ends k 0 ≡ get_or ends n 0 = ap (λ (j : ℕ). get_or ends j 0) here in
                  let le = no_less in
                  omega arith
              | inr other ↦ let same = others k other in omega arith
            ]) in
            let b : d + 1 ≤ last_of new = let lt = d_within in let bound = end_is_no_later new n in omega arith in
            let m : ℕ = max (last_of ends) (d + 1) in
            let right = le-max_right (last_of ends) (d + 1) in
            let c : last_of new ≤ m = no_later_extended m (le-max_left (last_of ends) (d + 1)) (omega arith) in
            grind (arith, a, b, c)

    -- the end was right after m, the last event within, and no event of the node is left
    module _ (m : ℕ) (ends_are : AreEnds s ends) (last : last_of ends ≡ m + 1) (at_node : (skeleton_at s m).node ≡ n)
        (is : get_or new n 0 ≡ 0) where
      m_exists : m < length s
      m_exists = let found = last_of_among ends m last in (ends_are found.0 m found.1).0

      m_was : get_or ends n 0 ≡ m + 1
      m_was =
          let found = last_of_among ends m last in
          let node : found.0 ≡ n = sym (ends_are found.0 m found.1).1 ∙ at_node in
          ap (λ (k : ℕ). get_or ends k 0) (sym node) ∙ found.1

      m_within : IsBeforeEnd s ends m
      m_within =
          let same = ap (λ (k : ℕ). get_or ends k 0) at_node in
          let was = m_was in
          record { exists = m_exists; before_end = omega arith }

      pub behind_taken : (e : ℕ) → IsBehind s ends e ↔ (IsInPast s e m ⊎ IsBehind s new e)
      behind_taken e = (
        λ h. elim (cases_eq (skeleton_at s h.0).node n) [
          | inl here ↦
              let lt = here_before h.0 here h.1 in
              let was = m_was in
              inl (past_trans s e h.0 m h.2 (up_to h.0 m (omega arith) m_exists (here ∙ sym at_node)))
          | inr other ↦ inr (h.0, elsewhere h.0 other h.1, h.2)
        ],
        λ h. elim h [
          | inl past ↦ (m, m_within, past)
          | inr behind ↦ elim (cases_eq (skeleton_at s behind.0).node n) [
            | inl here ↦ let lt = here_after behind.0 here behind.1 in absurd (omega arith)
            | inr other ↦ (behind.0, elsewhere_before behind.0 other behind.1, behind.2)
          ]
        ],
      )

      pub ends_taken : AreEnds s new
      ends_taken node x right = elim (cases_eq node n) [
        | inl here ↦ let at : get_or new n 0 ≡ x + 1 = ap (λ (k : ℕ). get_or new k 0) (sym here) ∙ right in absurd (omega arith)
        | inr other ↦ ends_are node x (sym (others node other) ∙ right)
      ]

      pub taken_is_latest : last_of new ≤ m
      taken_is_latest = last_of_bounded new m (λ k. elim (cases_eq k n) [
        | inl here ↦ let same : get_or new k 0 ≡ get_or new n 0 = ap (λ (j : ℕ). get_or new j 0) here in omega arith
        | inr other ↦
            let same = others k other in
            let bound = end_is_no_later ends k in
            elim (cases_eq (get_or ends k 0) (m + 1)) [
              | inl right ↦ absurd (other (sym (ends_are k m right).1 ∙ at_node))
              | inr ne ↦ omega arith
            ]
      ])

-- the rest of a past, once its latest event m is looked at: what m names is taken in
pub looked_at :
    (s : Skeleton) (ends with_sent : List ℕ) (IsLeft : ℕ → Type 0) (m : ℕ) (previous send : Option EventId) →
    NamesPrevious s m previous → NamesSend s m send →
    ((e : ℕ) → IsBehind s with_sent e ↔ (IsBehind s ends e ⊎ ((d : ℕ) × IsNamed send d × IsInPast s e d))) →
    ((e : ℕ) → IsLeft e ↔ (IsBehind s with_sent e ⊎ ((d : ℕ) × IsNamed previous d × IsInPast s e d))) →
    (e : ℕ) → e ≢ m → (IsInPast s e m ⊎ IsBehind s ends e) ↔ IsLeft e
looked_at s ends with_sent IsLeft m previous send p q sent left e other =
    let later : (d : ℕ) → IsNamed previous d ⊎ IsNamed send d → IsInPast s e d → IsInPast s e m =
    λ d named past. inr (past_then s e d m past (direct_happened_before s d m (named_is_direct s m previous send p q d named))) in (
      λ h. elim h [
        | inr behind ↦ (left e).1 (inl ((sent e).1 (inl behind)))
        | inl past ↦ elim past [
          | inl same ↦ absurd (other same)
          | inr before ↦
              let step = (last_step_is_direct s e m).0 before in
              elim (direct_is_named s m previous send p q step.0 step.2) [
                | inl named ↦ (left e).1 (inr (step.0, named, step.1))
                | inr named ↦ (left e).1 (inl ((sent e).1 (inr (step.0, named, step.1))))
              ]
        ]
      ],
      λ h. elim ((left e).0 h) [
        | inr (d, named, past) ↦ inl (later d (inl named) past)
        | inl behind ↦ elim ((sent e).0 behind) [ inl old ↦ inr old | inr (d, named, past) ↦ inl (later d (inr named) past) ]
      ],
    )

-- the past of what a link names is the past of its event
pub named_past :
    (s : Skeleton) (link : Option EventId) (event : EventId) (e : ℕ) → link ≡ Some event →
    ((d : ℕ) × IsNamed link d × IsInPast s e d) ↔ IsInPast s e event.0
named_past s link event e is = (
  λ (d, named, past). subst (λ (x : ℕ). IsInPast s e x) (sym (subst (λ (o : Option EventId). IsNamed o d) is named)) past,
  λ past. (event.0, subst (λ (o : Option EventId). IsNamed o event.0) (sym is) refl, past),
)

-- if the latest event isn't after e, and e is in the rest, e is the latest
pub rest_is_latest : (s : Skeleton) (ends : List ℕ) (f : Frontier) (e : ℕ) → IsFrontier s ends f → f.latest.0 ≤ e → IsInRest s ends f e → f.latest.0 ≡ e
rest_is_latest s ends f e frontier le rest = elim rest [
  | inl past ↦ let from = past_is_earlier s e f.latest.0 past in omega arith
  | inr behind ↦
      let lt = behind_is_earlier s ends e behind in
      let last = frontier.last_end in
      let latest = frontier.latest in
      absurd (omega arith)
]

no_later : (end d latest : ℕ) → end ≤ latest → d < latest → max end (d + 1) ≤ latest
no_later end d latest le lt = grind (arith, le, lt)

-- an event before the latest is taken in
module _ (s : Skeleton) (ends : List ℕ) (f : Frontier) (n d : ℕ) (frontier : IsFrontier s ends f) (earlier : d < f.latest.0)
    (at_node : (skeleton_at s d).node ≡ n) where
  exists : d < length s
  exists = let there = frontier.exists in omega arith

  has_end : n < length ends
  has_end = subst (λ (node : ℕ). node < length ends) at_node (frontier.has_end d exists)

  abbrev end : ℕ
  end = max (get_or ends n 0) (d + 1)

  abbrev new : List ℕ
  new = ends_with ends n d

  others : (k : ℕ) → k ≢ n → get_or new k 0 ≡ get_or ends k 0
  others k other = get_or-set_other ends n k end 0 other

  at_end : get_or new n 0 ≡ end
  at_end = get_or-set_same ends n end 0 has_end

  pub behind_with_event : (e : ℕ) → IsBehind s new e ↔ (IsBehind s ends e ⊎ IsInPast s e d)
  behind_with_event = behind_extended s ends new n others d exists at_node at_end

  pub frontier_with_event : IsFrontier s new (frontier_with f d)
  frontier_with_event =
      let size = length-set ends n end in
      record {
        has_end = λ e there. let lt = frontier.has_end e there in omega arith;
        exists = frontier.exists;
        at_node = frontier.at_node;
        are_ends = ends_extended s ends new n others d exists at_node at_end frontier.are_ends;
        last_end = ap (λ (m : ℕ). max m (d + 1)) frontier.last_end ∙ sym (last_of_extended s ends new n others d exists at_node at_end);
        latest = no_later f.last_end d f.latest.0 frontier.latest earlier;
      }
