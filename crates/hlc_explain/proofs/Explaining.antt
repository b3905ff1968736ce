-- Summaries range by range.
use Rattle.std.proofs.Common.{◌≡◌, ℕ, ◌+◌, ◌<◌, inl, inr, List, length, get_or, slice_set, take, arith, ap, sym, ◌∙◌}
use Rattle.std.proofs.lemmas.Bool.{cases_eq}
use Rattle.std.proofs.lemmas.Grind.{get_or-set_at}
use Rattle.std.proofs.lemmas.List.{ext_get_or, get_or-set_other, get_or-take, length-take}
use Rattle.hlc_stamp.specs.Order.{Pair, zero_pair}
use Rattle.hlc_causality.specs.Causality.{Skeleton}
use Rattle.hlc_explain.specs.declared.answers.Summary.{Summary}
use Rattle.hlc_explain.specs.Summaries.{AreSummariesFrom, summaries_of, summary_of}
use Rattle.hlc_explain.proofs.Origins.{at_place, length_by_place}

-- the summary of the next event joins those that are finished
pub one_more_finished :
    (s : Skeleton) (pairs : List Pair) (first place : ℕ) (range : List Summary) (next : Summary) → place < length range →
    AreSummariesFrom s pairs first (take place range) → next ≡ summary_of s pairs (first + place) →
    AreSummariesFrom s pairs first (take (place + 1) (slice_set range place next))
one_more_finished s pairs first place range next within finished is = λ k other lt.
    let size = length-take (place + 1) (slice_set range place next) in
    let taken = length-take place range in
    let at = get_or-take (place + 1) (slice_set range place next) k other (omega arith) in
    elim (cases_eq k place) [
      | inl last ↦ at ∙ get_or-set_at range place k next other last within ∙ is ∙ ap (λ n. summary_of s pairs (first + n)) (sym last)
      | inr before ↦
          at ∙ get_or-set_other range place k next other before ∙ sym (get_or-take place range k other (omega arith))
          ∙ finished k other (omega arith)
    ]

-- a list with the summary of each event at its place is that of all summaries
pub all_finished :
    (s : Skeleton) (pairs : List Pair) (list : List Summary) → length list ≡ length s →
    ((i : ℕ) (other : Summary) → i < length s → get_or list i other ≡ summary_of s pairs i) → list ≡ summaries_of s pairs
all_finished s pairs list size each =
    let other : Summary = record { origin = record { 0 = 0 }; stamp = zero_pair; ahead = 0 } in
    ext_get_or other list (summaries_of s pairs) (size ∙ sym (length_by_place (summary_of s pairs) (length s)))
    (λ i lt. each i other (omega arith) ∙ sym (at_place (summary_of s pairs) (length s) i other (omega arith)))
