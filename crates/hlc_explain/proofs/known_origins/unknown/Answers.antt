use Rattle.std.proofs.Common.{◌≡◌, ◌∙◌, ℕ, List, [], ◌∷◌, ◌++◌, length, inl, inr, arith, ap, subst, sym}
use Rattle.std.proofs.lemmas.Bool.{cases_eq, cases_lt}
use Rattle.std.proofs.lemmas.List.{get_or_append_left, get_or_past, get_or_push, length_push}
use Rattle.hlc_stamp.specs.declared.id.EventId.{EventId}
use Rattle.hlc_explain.specs.KnownOrigins.{known_at}
use Rattle.hlc_explain.proofs.known_origins.unknown.Goals as goal

pub push_reserved-requires : goal.push_reserved-requires
push_reserved-requires c = let h = c.loop-place.invariant in omega (arith, h.filled, h.room, c.loop-place-test.true)

-- one mark more, of the event that comes next
own_more : (xs : List EventId) (id : EventId) → length xs ≡ id.0 → ((e : ℕ) → known_at xs e ≡ e) → (e : ℕ) → known_at (xs ++ id ∷ []) e ≡ e
own_more xs id len own e =
    let place : EventId → ℕ = λ x. x.0 in
    let other : EventId = record { 0 = e } in
    elim (cases_eq e id.0) [
      | inl same ↦ ap place (get_or_push xs id other e (len ∙ sym same)) ∙ sym same
      | inr ne ↦ elim (cases_lt e id.0) [
        | inl lt ↦ ap place (get_or_append_left xs (id ∷ []) other e (omega arith)) ∙ own e
        | inr le ↦ let longer = length_push xs id in ap place (get_or_past (xs ++ id ∷ []) e other (omega arith))
      ]
    ]

pub loop-place-preserved : goal.loop-place-preserved
loop-place-preserved c =
    let h = c.loop-place.invariant in
    let pushed = c.push_reserved.ensures.items in
    let xs = c.loop-place.origins.items in
    let id : EventId = record { 0 = c.loop-place.place } in
    record {
      own = subst (λ (ys : List EventId). (e : ℕ) → known_at ys e ≡ e) (sym pushed) (own_more xs id h.filled h.own);
      filled =
          let longer = length_push xs id in
          let all = ap (λ (ys : List EventId). length ys) pushed in
          let filled = h.filled in
          omega arith;
      room = c.push_reserved.ensures.capacity ∙ h.room;
    }

pub returns : goal.returns
returns c = λ s pairs e. inl (c.loop-place.invariant.own e)
