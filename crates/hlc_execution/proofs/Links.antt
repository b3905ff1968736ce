-- Links stay exact when a place with a label is added.
use Rattle.std.proofs.Common.{◌≡◌, ◌≢◌, ℕ, ◌+◌, ◌<◌, ◌≤◌, ◌⊎◌, inl, inr, List, [], ◌∷◌, ◌++◌, length, Option, Some, None, arith, refl, subst, sym, ap, ◌∙◌}
use Rattle.std.specs.Prelude.{slice_set, unwrap_or}
use Rattle.std.proofs.lemmas.Bool.{cases_eq, cases_lt}
use Rattle.std.proofs.lemmas.List.{get_or_append_left, get_or_past, get_or_push, get_or-set_other, get_or-set_same, length-set, length_push}
use Rattle.hlc_stamp.specs.declared.id.EventId.{EventId}
use Rattle.hlc_execution.specs.Links.{AreFollowed, AreLasts, AreNexts, ArePrevious, IsLastBelow, LinksToFirst, LinksToLast, label_after, label_at, link_at}

pub some≢none : (a : ℕ) → ◌≡◌ {A = Option ℕ} None (Some a) → ⊥
some≢none a is = cc

pub labelled_within : (labels : List (Option ℕ)) (k a : ℕ) → label_at labels k ≡ Some a → k < length labels
labelled_within labels k a is = elim (cases_lt k (length labels)) [
  | inl lt ↦ lt
  | inr past ↦ absurd (some≢none a (sym (get_or_past labels k None past) ∙ is))
]

-- what is read of links when one is added or set
module _ (links : List (Option EventId)) (o : Option EventId) where
  link_stays : (k : ℕ) → k < length links → link_at links k ≡ link_at (links ++ o ∷ []) k
  link_stays k lt = sym (get_or_append_left links (o ∷ []) None k lt)

  link_added : (k : ℕ) → length links ≡ k → o ≡ link_at (links ++ o ∷ []) k
  link_added k is = sym (get_or_push links o None k is)

  link_set : (i k : ℕ) → i < length links → k ≡ i → o ≡ link_at (slice_set links i o) k
  link_set i k lt same = sym (ap (link_at (slice_set links i o)) same ∙ get_or-set_same links i o None lt)

  link_not_set : (i k : ℕ) → k ≢ i → link_at links k ≡ link_at (slice_set links i o) k
  link_not_set i k ne = sym (get_or-set_other links i k o None ne)

-- the same for the same label and link
first_along : (labels : List (Option ℕ)) (low : ℕ) {a b : ℕ} {o p : Option EventId} → a ≡ b → o ≡ p
    → LinksToFirst labels a low o → LinksToFirst labels b low p
first_along labels low {a} {b} {o} {p} same is h =
    subst (LinksToFirst labels b low) is (subst (λ (c : ℕ). LinksToFirst labels c low o) same h)

last_along : (labels : List (Option ℕ)) (o : Option EventId) {a b high below : ℕ} → a ≡ b → high ≡ below
    → LinksToLast labels a high o → LinksToLast labels b below o
last_along labels o {a} {b} {high} {below} same is h =
    subst (λ (n : ℕ). LinksToLast labels b n o) is (subst (λ (c : ℕ). LinksToLast labels c high o) same h)

-- a link to the last place of a label
abbrev pub LinksToLastOf : List (Option ℕ) → ℕ → Option EventId → Type 0
LinksToLastOf labels a o = LinksToLast labels a (length labels) o

module _ (labels : List (Option ℕ)) (l : Option ℕ) where
  pub label_stays : (k a : ℕ) → label_at labels k ≡ Some a → label_at (labels ++ l ∷ []) k ≡ Some a
  label_stays k a is = get_or_append_left labels (l ∷ []) None k (labelled_within labels k a is) ∙ is

  -- what has a label had it before, or is new
  pub label_cases : (k a : ℕ) → label_at (labels ++ l ∷ []) k ≡ Some a
      → ((k < length labels) × (label_at labels k ≡ Some a)) ⊎ ((k ≡ length labels) × (l ≡ Some a))
  label_cases k a is =
      let within : k < length (labels ++ l ∷ []) = labelled_within (labels ++ l ∷ []) k a is in
      let size : length (labels ++ l ∷ []) ≡ length labels + 1 = length_push labels l in
      elim (cases_eq k (length labels)) [
        | inl new ↦ inr (new, sym (get_or_push labels l None k (sym new)) ∙ is)
        | inr ne ↦
            let old : k < length labels = omega arith in
            inl (old, sym (get_or_append_left labels (l ∷ []) None k old) ∙ is)
      ]

  pub first_stays : (a low : ℕ) (g : EventId) → LinksToFirst labels a low (Some g) → LinksToFirst (labels ++ l ∷ []) a low (Some g)
  first_stays a low g h =
      let within : g.0 < length labels = labelled_within labels g.0 a h.labelled in
      record {
        from = h.from;
        labelled = label_stays g.0 a h.labelled;
        first = λ k le lt is. elim (label_cases k a is) [ inl old ↦ h.first k le lt old.1 | inr new ↦ absurd (omega (arith, new.0)) ];
      }

  pub first_of_others : (a low : ℕ) (o : Option EventId) → l ≢ Some a → LinksToFirst labels a low o
      → LinksToFirst (labels ++ l ∷ []) a low o
  first_of_others a low None other h = λ k le is. elim (label_cases k a is) [ inl old ↦ h k le old.1 | inr new ↦ other new.1 ]
  first_of_others a low (Some g) other h = first_stays a low g h

  pub last_of_others : (a : ℕ) (o : Option EventId) → l ≢ Some a → LinksToLastOf labels a o
      → LinksToLastOf (labels ++ l ∷ []) a o
  last_of_others a None other h = λ k lt is. elim (label_cases k a is) [ inl old ↦ h k old.0 old.1 | inr new ↦ other new.1 ]
  last_of_others a (Some g) other h =
      let within : g.0 < length labels = h.below in
      let size : length (labels ++ l ∷ []) ≡ length labels + 1 = length_push labels l in
      record {
        below = omega arith;
        labelled = label_stays g.0 a h.labelled;
        last = λ k above lt is. elim (label_cases k a is) [ inl old ↦ h.last k above old.0 old.1 | inr new ↦ other new.1 ];
      }

  -- what is below a place of the old list stays as it is
  pub last_below_stays : (a high : ℕ) (o : Option EventId) → high ≤ length labels → LinksToLast labels a high o
      → LinksToLast (labels ++ l ∷ []) a high o
  last_below_stays a high None le h = λ k lt is. elim (label_cases k a is) [
    | inl old ↦ h k lt old.1
    | inr new ↦ absurd (omega (arith, new.0))
  ]
  last_below_stays a high (Some g) le h = record {
    below = h.below;
    labelled = label_stays g.0 a h.labelled;
    last = λ k above lt is. elim (label_cases k a is) [
      | inl old ↦ h.last k above lt old.1
      | inr new ↦ absurd (omega (arith, new.0))
    ];
  }

-- the new place, if it has the label
module _ (labels : List (Option ℕ)) (a : ℕ) (place : EventId) (at : place.0 ≡ length labels) where
  pub label_of_new : label_at (labels ++ Some a ∷ []) place.0 ≡ Some a
  label_of_new = get_or_push labels (Some a) None place.0 (sym at)

  pub first_is_new : (low : ℕ) → low ≤ length labels → ((k : ℕ) → low ≤ k → label_at labels k ≢ Some a)
      → LinksToFirst (labels ++ Some a ∷ []) a low (Some place)
  first_is_new low le none = record {
    from = omega arith;
    labelled = label_of_new;
    first = λ k above lt is. elim (label_cases labels (Some a) k a is) [
      | inl old ↦ none k above old.1
      | inr new ↦ absurd (omega (arith, new.0))
    ];
  }

  pub last_is_new : LinksToLastOf (labels ++ Some a ∷ []) a (Some place)
  last_is_new =
      let size : length (labels ++ Some a ∷ []) ≡ length labels + 1 = length_push labels (Some a) in
      record { below = omega arith; labelled = label_of_new; last = λ k above lt is. absurd (omega arith) }

different_label : (a b : ℕ) → (b ≡ a → ⊥) → ◌≡◌ {A = Option ℕ} (Some a) (Some b) → ⊥
different_label a b ne is = ne (let e : b ≡ a = cc in e)

-- links with one to the new place from the last
abbrev pub with_link : List (Option EventId) → Option EventId → EventId → List (Option EventId)
with_link links None place = links
with_link links (Some last) place = slice_set links last.0 (Some place)

-- a place without a label
module _ (labels : List (Option ℕ)) (links : List (Option EventId)) where
  pub lasts-push_none : AreLasts labels links → AreLasts (labels ++ None ∷ []) links
  lasts-push_none h a lt = last_of_others labels None a (link_at links a) (some≢none a) (h a lt)

  -- a label that no place has yet
  pub lasts-more : ((k : ℕ) → label_at labels k ≢ Some (length links)) → AreLasts labels links → AreLasts labels (links ++ None ∷ [])
  lasts-more unused h a lt =
      let size : length (links ++ None ∷ []) ≡ length links + 1 = length_push links None in
      elim (cases_eq a (length links)) [
        | inl new ↦
            let none = link_added links None a (sym new) in
            subst (LinksToLastOf labels a) none (λ k le is. unused k (is ∙ ap (λ (n : ℕ). Some n) new))
        | inr ne ↦
            let old : a < length links = omega arith in
            subst (LinksToLastOf labels a) (link_stays links None a old) (h a old)
      ]

-- a place with a label, whose last place before it is known
module _ (labels : List (Option ℕ)) (links : List (Option EventId)) (a : ℕ) (place : EventId) (at : place.0 ≡ length labels) where
  abbrev longer : List (Option ℕ)
  longer = labels ++ Some a ∷ []

  pub lasts-push : a < length links → AreLasts labels links → AreLasts longer (slice_set links a (Some place))
  lasts-push exists h b lt =
      let size = length-set links a (Some place) in
      elim (cases_eq b a) [
        | inl same ↦
            let here = link_set links (Some place) a b exists same in
            subst (LinksToLastOf longer b) here
            (subst (λ (c : ℕ). LinksToLastOf longer c (Some place)) (sym same) (last_is_new labels a place at))
        | inr ne ↦
            let other = link_not_set links (Some place) a b ne in
            subst (LinksToLastOf longer b) other
            (last_of_others labels (Some a) b (link_at links b) (different_label a b ne) (h b (omega arith)))
      ]

  -- a place before the last one of its label has its next place already
  pub next_again : (l f : ℕ) (o : Option EventId) → IsLastBelow labels a (length labels) l → f < l
      → LinksToFirst labels a (f + 1) o → LinksToFirst longer a (f + 1) o
  next_again l f None last lt h = absurd (h l (omega arith) last.labelled)
  next_again l f (Some g) last lt h = first_stays labels (Some a) a (f + 1) g h

  -- the next place of one that was there before
  old_next : (last : Option EventId) → LinksToLastOf labels a last → length links ≡ length labels → AreNexts labels links
      → (f b : ℕ) → label_at labels f ≡ Some b → LinksToFirst longer b (f + 1) (link_at (with_link links last place) f)
  old_next None last size h f b is =
      let ne : b ≡ a → ⊥ = λ e. last f (labelled_within labels f b is) (is ∙ ap (λ (n : ℕ). Some n) e) in
      first_of_others labels (Some a) b (f + 1) (link_at links f) (different_label a b ne) (h f b is)
  old_next (Some l) last size h f b is =
      let within : f < length labels = labelled_within labels f b is in
      elim (cases_eq f l.0) [
        | inl same ↦
            let here = link_set links (Some place) l.0 f (omega (arith, last.below)) same in
            let both : ◌≡◌ {A = Option ℕ} (Some a) (Some b) = sym last.labelled ∙ sym (ap (label_at labels) same) ∙ is in
            let label : a ≡ b = cc in
            let none_later = λ (k : ℕ) (le : f + 1 ≤ k) (labelled : label_at labels k ≡ Some a).
            last.last k (omega arith) (labelled_within labels k a labelled) labelled in
            first_along longer (f + 1) label here (first_is_new labels a place at (f + 1) (omega arith) none_later)
        | inr ne ↦
            let other = link_not_set links (Some place) l.0 f ne in
            subst (LinksToFirst longer b (f + 1)) other (elim (cases_eq b a) [
              | inl same ↦
                  let label : label_at labels f ≡ Some a = is ∙ ap (λ (n : ℕ). Some n) same in
                  let lt : f < l.0 = elim (cases_lt l.0 f) [ inl above ↦ absurd (last.last f above within label) | inr le ↦ omega arith ] in
                  first_along longer (f + 1) (sym same) refl (next_again l.0 f (link_at links f) last lt (h f a label))
              | inr different ↦ first_of_others labels (Some a) b (f + 1) (link_at links f) (different_label a b different) (h f b is)
            ])
      ]

  length-with_link : (last : Option EventId) → length (with_link links last place) ≡ length links
  length-with_link None = refl
  length-with_link (Some l) = length-set links l.0 (Some place)

  pub nexts-push : (last : Option EventId) → LinksToLastOf labels a last → length links ≡ length labels → AreNexts labels links
      → AreNexts longer (with_link links last place ++ None ∷ [])
  nexts-push last is_last size h f b is =
      let linked = with_link links last place in
      let long : length linked ≡ length labels = length-with_link last ∙ size in
      elim (label_cases labels (Some a) f b is) [
        | inl old ↦
            let same = link_stays linked None f (omega (arith, old.0)) in
            subst (LinksToFirst longer b (f + 1)) same (old_next last is_last size h f b old.1)
        | inr new ↦
            let none = link_added linked None f (long ∙ sym new.0) in
            let grown : length longer ≡ length labels + 1 = length_push labels (Some a) in
            subst (LinksToFirst longer b (f + 1)) none
            (λ k le labelled.
            let within = labelled_within longer k b labelled in
            absurd (omega (arith, new.0)))
      ]

  pub previous-push : (last : Option EventId) → LinksToLastOf labels a last → length links ≡ length labels → ArePrevious labels links
      → ArePrevious longer (links ++ last ∷ [])
  previous-push last is_last size h f b is = elim (label_cases labels (Some a) f b is) [
    | inl old ↦
        let within : f ≤ length labels = omega (arith, old.0) in
        let same = link_stays links last f (omega (arith, old.0)) in
        subst (LinksToLast longer b f) same (last_below_stays labels (Some a) b f (link_at links f) within (h f b old.1))
    | inr new ↦
        let here = link_added links last f (size ∙ sym new.0) in
        let label : a ≡ b = (let both : ◌≡◌ {A = Option ℕ} (Some a) (Some b) = new.1 in cc) in
        let within : f ≤ length labels = omega (arith, new.0) in
        let known : LinksToLast labels b f last = last_along labels last label (sym new.0) is_last in
        subst (LinksToLast longer b f) here (last_below_stays labels (Some a) b f last within known)
  ]

-- the label of what follows a place, by its own
label_after_by : (labels : List (Option ℕ)) (k : ℕ) (l : Option ℕ) → label_at labels k ≡ l → label_after labels k ≡ unwrap_or l k
label_after_by labels k l is = ap (λ (o : Option ℕ). unwrap_or o k) is

-- a place has no label, or one
pub label_after_cases : (labels : List (Option ℕ)) (k : ℕ)
    → ((label_at labels k ≡ None) × (label_after labels k ≡ k)) ⊎ (label_at labels k ≡ Some (label_after labels k))
label_after_cases labels k = cases_of (label_at labels k) refl
  where
    cases_of : (l : Option ℕ) → label_at labels k ≡ l
        → ((label_at labels k ≡ None) × (label_after labels k ≡ k)) ⊎ (label_at labels k ≡ Some (label_after labels k))
    cases_of None is = inl (is, label_after_by labels k None is)
    cases_of (Some d) is = inr (is ∙ ap (λ (n : ℕ). Some n) (sym (label_after_by labels k (Some d) is)))

-- links of the places before a new one are enough
followed-more : (labels : List (Option ℕ)) (links : List (Option EventId)) (l : Option ℕ) → length links ≡ length labels
    → ((k : ℕ) → k < length labels → LinksToFirst (labels ++ l ∷ []) (label_after labels k) (k + 1) (link_at links k))
    → AreFollowed (labels ++ l ∷ []) (links ++ None ∷ [])
followed-more labels links l size h k lt =
    let after = labels ++ l ∷ [] in
    let grown : length after ≡ length labels + 1 = length_push labels l in
    let target = label_after after k in
    elim (cases_eq k (length labels)) [
      | inl new ↦
          let none = link_added links None k (size ∙ sym new) in
          subst (LinksToFirst after target (k + 1)) none
          (λ j le labelled.
          let within = labelled_within after j target labelled in
          absurd (omega arith))
      | inr ne ↦
          let old : k < length labels = omega arith in
          let same = link_stays links None k (omega arith) in
          let stays : label_at labels k ≡ label_at after k = sym (get_or_append_left labels (l ∷ []) None k old) in
          first_along after (k + 1) (label_after_by labels k (label_at after k) stays) same (h k old)
    ]

pub followed-push_none : (labels : List (Option ℕ)) (links : List (Option EventId)) → length links ≡ length labels
    → AreFollowed labels links
    → AreFollowed (labels ++ None ∷ []) (links ++ None ∷ [])
followed-push_none labels links size h =
    followed-more labels links None size (λ k lt.
    let a = label_after labels k in
    first_of_others labels None a (k + 1) (link_at links k) (some≢none a) (h k lt))

-- a place whose label is an unlabelled place before
module _ (labels : List (Option ℕ)) (sent : EventId) (place : EventId) (at : place.0 ≡ length labels)
    (earlier : (k d : ℕ) → label_at labels k ≡ Some d → d < k) (exists : sent.0 < length labels)
    (unlabelled : label_at labels sent.0 ≡ None) where
  -- the new place follows the last one of its label, or else that label
  follows_last : (last : Option EventId) → LinksToLastOf labels sent.0 last → label_after labels (unwrap_or last sent).0 ≡ sent.0
  follows_last None h = label_after_by labels sent.0 None unlabelled
  follows_last (Some g) h = label_after_by labels g.0 (Some sent.0) h.labelled

  last_exists : (last : Option EventId) → LinksToLastOf labels sent.0 last → (unwrap_or last sent).0 < length labels
  last_exists None h = exists
  last_exists (Some g) h = h.below

  none_after_last : (last : Option EventId) → LinksToLastOf labels sent.0 last
      → (j : ℕ) → (unwrap_or last sent).0 + 1 ≤ j → label_at labels j ≢ Some sent.0
  none_after_last None h j le labelled = h j (labelled_within labels j sent.0 labelled) labelled
  none_after_last (Some g) h j le labelled = h.last j (omega arith) (labelled_within labels j sent.0 labelled) labelled

  -- another place that it could follow is before the last one
  before_last : (g k : ℕ) → IsLastBelow labels sent.0 (length labels) g → k < length labels → k ≢ g
      → label_after labels k ≡ sent.0 → k < g
  before_last g k last lt ne follows = elim (label_after_cases labels k) [
    | inl own ↦
        let above : sent.0 < g = earlier g sent.0 last.labelled in
        let same : k ≡ sent.0 = sym own.1 ∙ follows in
        omega arith
    | inr labelled ↦ elim (cases_lt g k) [
      | inl above ↦ absurd (last.last k above lt (labelled ∙ ap (λ (n : ℕ). Some n) follows))
      | inr le ↦ omega arith
    ]
  ]

  still_followed : (last : Option EventId) → LinksToLastOf labels sent.0 last
      → (k : ℕ) → k < length labels → k ≢ (unwrap_or last sent).0 → label_after labels k ≡ sent.0
      → (o : Option EventId) → LinksToFirst labels sent.0 (k + 1) o → LinksToFirst (labels ++ Some sent.0 ∷ []) sent.0 (k + 1) o
  still_followed None h k lt ne follows o found = elim (label_after_cases labels k) [
    | inl own ↦ absurd (ne (sym own.1 ∙ follows))
    | inr labelled ↦ absurd (h k lt (labelled ∙ ap (λ (n : ℕ). Some n) follows))
  ]
  still_followed (Some g) h k lt ne follows o found =
      next_again labels (None ∷ []) sent.0 place at g.0 k o h (before_last g.0 k h lt ne follows) found

  pub followed-push : (links : List (Option EventId)) (last : Option EventId) → LinksToLastOf labels sent.0 last
      → length links ≡ length labels → AreFollowed labels links
      → AreFollowed (labels ++ Some sent.0 ∷ []) (slice_set links (unwrap_or last sent).0 (Some place) ++ None ∷ [])
  followed-push links last is_last size h =
      let b = (unwrap_or last sent).0 in
      let after = labels ++ Some sent.0 ∷ [] in
      followed-more labels (slice_set links b (Some place)) (Some sent.0) (length-set links b (Some place) ∙ size)
      (λ k lt. elim (cases_eq k b) [
        | inl same ↦
            let there : b < length links = omega (arith, last_exists last is_last) in
            let here = link_set links (Some place) b k there same in
            let follows : sent.0 ≡ label_after labels k = sym (ap (label_after labels) same ∙ follows_last last is_last) in
            first_along after (k + 1) follows here
            (first_is_new labels sent.0 place at (k + 1) (omega arith) (λ j le. none_after_last last is_last j (omega arith)))
        | inr ne ↦
            let other = link_not_set links (Some place) b k ne in
            let target = label_after labels k in
            let link = link_at links k in
            subst (LinksToFirst after target (k + 1)) other (elim (cases_eq target sent.0) [
              | inl same ↦
                  let found : LinksToFirst labels sent.0 (k + 1) link = first_along labels (k + 1) same refl (h k lt) in
                  first_along after (k + 1) (sym same) refl (still_followed last is_last k lt ne same link found)
              | inr different ↦
                  first_of_others labels (Some sent.0) target (k + 1) link (different_label sent.0 target different) (h k lt)
            ])
      ])

-- what follows a place that has a label is the next that has it
pub nexts_from_followed : (labels : List (Option ℕ)) (links : List (Option EventId)) → AreFollowed labels links → AreNexts labels links
nexts_from_followed labels links h f a is =
    first_along labels (f + 1) (label_after_by labels f (Some a) is) refl (h f (labelled_within labels f a is))

-- what follows a place that has none is the first that has the place for its label
pub first_from_followed : (labels : List (Option ℕ)) (links : List (Option EventId)) (k : ℕ)
    → ((j : ℕ) → label_at labels j ≡ Some k → k < j) → AreFollowed labels links → k < length labels → label_at labels k ≡ None
    → LinksToFirst labels k 0 (link_at links k)
first_from_followed labels links k later h lt is =
    from_start (link_at links k) (first_along labels (k + 1) (label_after_by labels k None is) refl (h k lt))
  where
    from_start : (o : Option EventId) → LinksToFirst labels k (k + 1) o → LinksToFirst labels k 0 o
    from_start None found = λ j le labelled. found j (let above = later j labelled in omega arith) labelled
    from_start (Some g) found = record {
      from = omega arith;
      labelled = found.labelled;
      first = λ j le below labelled. found.first j (let above = later j labelled in omega arith) below labelled;
    }
