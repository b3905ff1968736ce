-- The deliveries of a send are the events that deliver it.
use Rattle.std.proofs.Common.{◌≡◌, ◌≢◌, ◌∙◌, ℕ, ◌<◌, ◌↔◌, true, false, length, Option, Some, None, refl, ap, eqb-true, eq-eqb}
use Rattle.std.specs.List.{Contains}
use Rattle.std.specs.Prelude.{is_some}
use Rattle.hlc_stamp.specs.declared.id.EventId.{EventId}
use Rattle.std.proofs.lemmas.Bool.{false_from_ne_true}
use Rattle.hlc_causality.specs.Causality.{IsSendOf, Skeleton, skeleton_at}
use Rattle.hlc_causality.specs.Neighbours.{deliveries_of, is_of_send, place_of}
use Rattle.hlc_causality.proofs.PlacesBelow.{contains_passing, passing_from_contains}

pub send_from_test : (a : ℕ) (l : Option ℕ) → is_of_send a l ≡ true → l ≡ Some a
send_from_test a None is = cc
send_from_test a (Some b) is = ap (λ (n : ℕ). Some n) (eqb-true b a is)

pub test_of_send : (a : ℕ) (l : Option ℕ) → l ≡ Some a → is_of_send a l ≡ true
test_of_send a l is = ap (is_of_send a) is ∙ eq-eqb a a refl

pub test_of_other : (a : ℕ) (l : Option ℕ) → l ≢ Some a → is_of_send a l ≡ false
test_of_other a l other = false_from_ne_true (is_of_send a l) (λ is. other (send_from_test a l is))

-- if each send is earlier, the deliveries of e are just the events that deliver it
pub deliveries_of-complete : (s : Skeleton) (e : ℕ)
    → ((f d : ℕ) → f < length s → (skeleton_at s f).send ≡ Some d → d < f)
    → (f : ℕ) → Contains (deliveries_of s e) f ↔ IsSendOf s e f
deliveries_of-complete s e earlier f =
    let p = λ (k : ℕ). is_of_send e (skeleton_at s k).send in (
      λ among.
          let h = passing_from_contains p (length s) f among in
          let delivers = send_from_test e (skeleton_at s f).send h.1 in
          record { earlier = earlier f e h.0 delivers; exists = h.0; delivers = delivers },
      λ send. contains_passing p (length s) f send.exists (test_of_send e (skeleton_at s f).send send.delivers),
    )

-- there is a place where there is an event
pub is_some_place : (o : Option EventId) → is_some (place_of o) ≡ is_some o
is_some_place None = refl
is_some_place (Some d) = refl
