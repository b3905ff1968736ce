-- What an event happened before, by direct predecessors, in rising order.
use Rattle.std.proofs.Common.{◌≡◌, ◌↔◌, ◌⊎◌, ℕ, ◌+◌, ◌<◌, ◌≤◌, inl, inr, List, [], ◌∷◌, ◌++◌, length, get_or, Option, Some, None, arith, refl, subst, sym, ap, ◌∙◌}
use Rattle.std.specs.List.{Contains}
use Rattle.std.specs.List.Sorted.{IsStrictlyIncreasing}
use Rattle.std.proofs.lemmas.Bool.{cases_eq, cases_lt}
use Rattle.std.proofs.lemmas.List.{append_assoc, append-nil, get_or_append_left, get_or_push, length_push, map_push}
use Rattle.std.proofs.lemmas.List.Elements.{Contains-append_left, Contains-get_or, Contains-push, Contains-push_cases}
use Rattle.hlc_stamp.specs.declared.id.EventId.{EventId}
use Rattle.hlc_causality.specs.Causality.{HappenedBefore, IsDirectPredecessor, IsPrevious, IsSendOf, Skeleton}
use Rattle.hlc_causality.specs.Neighbours.{NamesNext}
use Rattle.hlc_causality.specs.Past.{IsInPast}
use Rattle.hlc_causality.proofs.Past.{happened_before_earlier, last_step_is_direct}
use Rattle.hlc_causality.proofs.Predecessors.{direct_earlier}
use Rattle.hlc_stamp.specs.Ids.{places_of}
use Rattle.hlc_explain.specs.Marks.{IsMarkable, IsNamed}
use Rattle.hlc_explain.proofs.Reaching.{past_is_earlier}

-- e has a direct predecessor before a place that is first, or that first happened before
abbrev pub IsReachedOn : Skeleton → ℕ → ℕ → ℕ → Type 0
IsReachedOn s place first e = (m : ℕ) × (m < place) × IsInPast s first m × IsDirectPredecessor s m e

module _ (s : Skeleton) (first : ℕ) where
  pub reached_is_influenced : (place e : ℕ) → IsReachedOn s place first e → HappenedBefore s first e
  reached_is_influenced place e h = (last_step_is_direct s first e).1 (h.0, h.2, h.3)

  pub influenced_is_reached : (place e : ℕ) → e ≤ place → HappenedBefore s first e → IsReachedOn s place first e
  influenced_is_reached place e le h =
      let step = (last_step_is_direct s first e).0 h in
      let lt = direct_earlier s step.0 e step.2 in
      (step.0, omega arith, step.1, step.2)

  -- first reaches the events of which it is a direct predecessor
  pub reached_first : (e : ℕ) → IsReachedOn s (first + 1) first e ↔ IsDirectPredecessor s first e
  reached_first e = (
    λ h.
        let from = past_is_earlier s first h.0 h.2 in
        let lt = h.1 in
        let same : h.0 ≡ first = omega arith in
        subst (λ m. IsDirectPredecessor s m e) same h.3,
    λ direct. (first, omega arith, inl refl, direct),
  )

  -- an event that first happened before reaches more, and any other no more
  pub reached_on :
      (place e : ℕ) → IsInPast s first place
      → (IsReachedOn s place first e ⊎ IsDirectPredecessor s place e) ↔ IsReachedOn s (place + 1) first e
  reached_on place e past = (
    λ h. elim h [
      | inl before ↦ let lt = before.1 in (before.0, omega arith, before.2, before.3)
      | inr direct ↦ (place, omega arith, past, direct)
    ],
    λ h. let lt = h.1 in elim (cases_eq h.0 place) [
      | inl same ↦ inr (subst (λ m. IsDirectPredecessor s m e) same h.3)
      | inr other ↦ inl (h.0, omega arith, h.2, h.3)
    ],
  )

  pub reached_over : (place e : ℕ) → ¬ IsInPast s first place → IsReachedOn s place first e ↔ IsReachedOn s (place + 1) first e
  reached_over place e other = (
    λ before. let lt = before.1 in (before.0, omega arith, before.2, before.3),
    λ h. let lt = h.1 in elim (cases_eq h.0 place) [
      | inl same ↦ absurd (other (subst (λ m. IsInPast s first m) same h.2))
      | inr ne ↦ (h.0, omega arith, h.2, h.3)
    ],
  )

  -- a list of exactly the influenced events before a place, rising
  pub record IsListed (place : ℕ) (list : List ℕ) : Type 0 where
    pub all : (f : ℕ) → Contains list f ↔ ((f < place) × HappenedBefore s first f)
    pub rising : IsStrictlyIncreasing list

  pub nothing_listed : (place : ℕ) → place ≤ first + 1 → IsListed place []
  nothing_listed place le = record {
    all = λ f. (
      λ h. let lt = h.1 in absurd (omega arith),
      λ h. let lt = (happened_before_earlier s first f h.1).0 in let below = h.0 in absurd (omega arith),
    );
    rising = λ k lt. absurd (omega arith);
  }

  rises_push :
      (list : List ℕ) (place : ℕ) → ((f : ℕ) → Contains list f → f < place) → IsStrictlyIncreasing list
      → IsStrictlyIncreasing (list ++ place ∷ [])
  rises_push list place below rising k lt =
      let size = length_push list place in
      let at : get_or (list ++ place ∷ []) k 0 ≡ get_or list k 0 = get_or_append_left list (place ∷ []) 0 k (omega arith) in
      elim (cases_eq (k + 1) (length list)) [
        | inl last ↦
            let next : get_or (list ++ place ∷ []) (k + 1) 0 ≡ place = get_or_push list place 0 (k + 1) (sym last) in
            let less = below (get_or list k 0) (Contains-get_or list k 0 (omega arith)) in
            omega arith
        | inr other ↦
            let next : get_or (list ++ place ∷ []) (k + 1) 0 ≡ get_or list (k + 1) 0 =
            get_or_append_left list (place ∷ []) 0 (k + 1) (omega arith) in
            let less : get_or list k 0 < get_or list (k + 1) 0 = rising k (omega arith) in
            omega arith
      ]

  pub listed_more : (place : ℕ) (list : List ℕ) → HappenedBefore s first place → IsListed place list
      → IsListed (place + 1) (list ++ place ∷ [])
  listed_more place list here h = record {
    all = λ f. (
      λ among. elim (Contains-push_cases list place f among) [
        | inl before ↦ let is = (h.all f).0 before in let lt = is.0 in (omega arith, is.1)
        | inr last ↦ (omega arith, subst (λ m. HappenedBefore s first m) last here)
      ],
      λ is. let lt = is.0 in elim (cases_eq place f) [
        | inl last ↦ subst (λ m. Contains (list ++ place ∷ []) m) last (Contains-push list place)
        | inr other ↦ Contains-append_left list (place ∷ []) f ((h.all f).1 (omega arith, is.1))
      ],
    );
    rising = rises_push list place (λ f among. ((h.all f).0 among).0) h.rising;
  }

  pub listed_over : (place : ℕ) (list : List ℕ) → ¬ HappenedBefore s first place → IsListed place list → IsListed (place + 1) list
  listed_over place list other h = record {
    all = λ f. (
      λ among. let is = (h.all f).0 among in let lt = is.0 in (omega arith, is.1),
      λ is. let lt = is.0 in elim (cases_eq f place) [
        | inl last ↦ absurd (other (subst (λ m. HappenedBefore s first m) last is.1))
        | inr ne ↦ (h.all f).1 (omega arith, is.1)
      ],
    );
    rising = h.rising;
  }

  -- at the end all are listed
  pub all_listed : (place : ℕ) (list : List ℕ) → length s ≤ place → IsListed place list → (f : ℕ)
      → Contains list f ↔ HappenedBefore s first f
  all_listed place list end h f = (
    λ among. ((h.all f).0 among).1,
    λ before. let within = (happened_before_earlier s first f before).1 in (h.all f).1 (omega arith, before),
  )

-- the successors that an event marks: the next of its node, and of its deliveries those so far
abbrev pub IsSuccessorSoFar : Skeleton → ℕ → List EventId → ℕ → Type 0
IsSuccessorSoFar s event yielded e = IsPrevious s event e ⊎ (Contains (places_of yielded) e × IsSendOf s event e)

next_is_previous : (s : Skeleton) (event : ℕ) (next : Option EventId) (e : ℕ) → NamesNext s event next → IsNamed next e
    → IsPrevious s event e
next_is_previous s event None e names h = absurd h
next_is_previous s event (Some f) e names h = subst (λ m. IsPrevious s event m) h names

previous_is_next : (s : Skeleton) (event : ℕ) (next : Option EventId) (e : ℕ) → NamesNext s event next → IsPrevious s event e
    → IsNamed next e
previous_is_next s event None e names h = absurd (names e h.at_node)
previous_is_next s event (Some f) e names h = elim (cases_eq f.0 e) [
  | inl same ↦ same
  | inr other ↦ elim (cases_lt f.0 e) [
    | inl lt ↦
        let same_node = sym names.at_node.same_node ∙ h.at_node.same_node in
        let le = h.latest f.0 (record { earlier = lt; exists = h.at_node.exists; same_node = same_node }) in
        let later = names.at_node.earlier in
        absurd (omega arith)
    | inr le ↦
        let within = names.at_node.exists in
        let same_node = sym h.at_node.same_node ∙ names.at_node.same_node in
        let early = names.latest e (record { earlier = omega arith; exists = within; same_node = same_node }) in
        let later = h.at_node.earlier in
        absurd (omega arith)
  ]
]

module _ (s : Skeleton) (first event : ℕ) (from : first ≤ event) where
  pub next_marked :
      (next : Option EventId) → NamesNext s event next → (A : ℕ → Type 0) (B : ℕ → Type 0)
      → ((e : ℕ) → B e ↔ (A e ⊎ IsMarkable first next e)) →
      (e : ℕ) → B e ↔ (A e ⊎ IsSuccessorSoFar s event [] e)
  next_marked next names A B step e = (
    λ h. elim ((step e).0 h) [ inl before ↦ inl before | inr named ↦ inr (inl (next_is_previous s event next e names named.named)) ],
    λ h. elim h [
      | inl before ↦ (step e).1 (inl before)
      | inr is ↦ elim is [
        | inl previous ↦
            let lt = previous.at_node.earlier in
            let named = previous_is_next s event next e names previous in
            (step e).1 (inr (record { from = omega arith; named = named }))
        | inr none ↦ let lt = none.0.1 in absurd (omega arith)
      ]
    ],
  )

  pub delivery_marked :
      (yielded : List EventId) (delivery : EventId) → IsSendOf s event delivery.0 → (A B C : ℕ → Type 0) →
      ((e : ℕ) → B e ↔ (A e ⊎ IsSuccessorSoFar s event yielded e)) →
      ((e : ℕ) → C e ↔ (B e ⊎ IsMarkable first (Some delivery) e)) →
      (e : ℕ) → C e ↔ (A e ⊎ IsSuccessorSoFar s event (yielded ++ delivery ∷ []) e)
  delivery_marked yielded delivery sends A B C before step e =
      let more : places_of (yielded ++ delivery ∷ []) ≡ places_of yielded ++ delivery.0 ∷ [] =
      map_push (λ (d : EventId). d.0) yielded delivery in
      let has : Contains (places_of yielded) e ⊎ (delivery.0 ≡ e) → Contains (places_of (yielded ++ delivery ∷ [])) e = λ h.
      subst (λ (xs : List ℕ). Contains xs e) (sym more) (elim h [
        | inl among ↦ Contains-append_left (places_of yielded) (delivery.0 ∷ []) e among
        | inr same ↦ subst (λ m. Contains (places_of yielded ++ delivery.0 ∷ []) m) same (Contains-push (places_of yielded) delivery.0)
      ]) in (
        λ h. elim ((step e).0 h) [
          | inl old ↦ elim ((before e).0 old) [
            | inl a ↦ inl a
            | inr is ↦ elim is [ inl previous ↦ inr (inl previous) | inr sent ↦ inr (inr (has (inl sent.0), sent.1)) ]
          ]
          | inr named ↦ inr (inr (has (inr named.named), subst (λ m. IsSendOf s event m) named.named sends))
        ],
        λ h. elim h [
          | inl a ↦ (step e).1 (inl ((before e).1 (inl a)))
          | inr is ↦ elim is [
            | inl previous ↦ (step e).1 (inl ((before e).1 (inr (inl previous))))
            | inr sent ↦ elim (Contains-push_cases (places_of yielded) delivery.0 e (subst (λ (xs : List ℕ). Contains xs e) more sent.0)) [
              | inl among ↦ (step e).1 (inl ((before e).1 (inr (inr (among, sent.1)))))
              | inr same ↦ let lt = sent.1.earlier in (step e).1 (inr (record { from = omega arith; named = same }))
            ]
          ]
        ],
      )

-- a loop over an iterator that is seen as the list of what is left
pub left_more :
    (all left more : List ℕ) (yielded : List EventId) (item : EventId) → places_of yielded ++ left ≡ all → left ≡ item.0 ∷ more →
    places_of (yielded ++ item ∷ []) ++ more ≡ all
left_more all left more yielded item h step =
    ap (λ (xs : List ℕ). xs ++ more) (map_push (λ (d : EventId). d.0) yielded item)
    ∙ append_assoc (places_of yielded) (item.0 ∷ []) more
    ∙ ap (λ (xs : List ℕ). places_of yielded ++ xs) (sym step)
    ∙ h

pub item_is_among :
    (all left more : List ℕ) (yielded : List EventId) (item : EventId) → places_of yielded ++ left ≡ all → left ≡ item.0 ∷ more →
    Contains all item.0
item_is_among all left more yielded item h step =
    subst (λ (xs : List ℕ). Contains xs item.0) (left_more all left more yielded item h step)
    (Contains-append_left (places_of (yielded ++ item ∷ [])) more item.0
    (subst (λ (xs : List ℕ). Contains xs item.0) (sym (map_push (λ (d : EventId). d.0) yielded item)) (Contains-push (places_of yielded) item.0)))

-- what a loop over the deliveries of an event comes to is one
pub comes_to_delivery :
    (s : Skeleton) (event : ℕ) (all found left more : List ℕ) (yielded : List EventId) (delivery : EventId) → found ≡ all →
    ((d : ℕ) → Contains found d ↔ IsSendOf s event d) → places_of yielded ++ left ≡ all → left ≡ delivery.0 ∷ more →
    IsSendOf s event delivery.0
comes_to_delivery s event all found left more yielded delivery is complete h step =
    let among = item_is_among all left more yielded delivery h step in
    (complete delivery.0).0 (subst (λ (xs : List ℕ). Contains xs delivery.0) (sym is) among)

pub all_yielded : (all left : List ℕ) (yielded : List EventId) → places_of yielded ++ left ≡ all → left ≡ [] → places_of yielded ≡ all
all_yielded all left yielded h none = sym (append-nil (places_of yielded)) ∙ ap (λ (xs : List ℕ). places_of yielded ++ xs) (sym none) ∙ h
