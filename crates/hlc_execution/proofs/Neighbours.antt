-- Exact links name the neighbours of an event.
use Rattle.std.proofs.Common.{◌≡◌, ℕ, ◌+◌, ◌<◌, ◌≤◌, inl, inr, List, length, Option, Some, None, arith, sym, ap, ◌∙◌}
use Rattle.std.proofs.lemmas.Bool.{cases_lt}
use Rattle.hlc_stamp.specs.declared.id.EventId.{EventId}
use Rattle.hlc_causality.specs.Causality.{Skeleton, skeleton_at}
use Rattle.hlc_execution.specs.Links.{LinksToFirst, LinksToLast, label_at}
use Rattle.hlc_causality.specs.Neighbours.{NamesLast, NamesNext, NamesPrevious, NamesSend, place_of}
use Rattle.hlc_execution.proofs.Links.{labelled_within}

-- the labels are the events' nodes
pub record AreNodes (s : Skeleton) (labels : List (Option ℕ)) : Type 0 where
  pub size : length labels ≡ length s
  pub each : (k : ℕ) → k < length s → label_at labels k ≡ Some (skeleton_at s k).node

module _ (s : Skeleton) (labels : List (Option ℕ)) (nodes : AreNodes s labels) where
  label_of : (k a : ℕ) → k < length s → (skeleton_at s k).node ≡ a → label_at labels k ≡ Some a
  label_of k a lt is = nodes.each k lt ∙ ap (λ (n : ℕ). Some n) is

  node_of : (k a : ℕ) → label_at labels k ≡ Some a → (k < length s) × ((skeleton_at s k).node ≡ a)
  node_of k a is =
      let within : k < length s = omega (arith, labelled_within labels k a is, nodes.size) in
      let both : ◌≡◌ {A = Option ℕ} (Some (skeleton_at s k).node) (Some a) = sym (nodes.each k within) ∙ is in
      (within, cc)

  pub names_last : (a : ℕ) (o : Option EventId) → LinksToLast labels a (length labels) o → NamesLast s a o
  names_last a None h = λ d lt is. h d (omega (arith, nodes.size)) (label_of d a lt is)
  names_last a (Some d) h =
      let at = node_of d.0 a h.labelled in
      record {
        exists = at.0;
        at_node = at.1;
        latest = λ m lt is. elim (cases_lt d.0 m) [
          | inl later ↦ absurd (h.last m later (omega (arith, nodes.size)) (label_of m a lt is))
          | inr le ↦ le
        ];
      }

  pub names_previous : (f : ℕ) (o : Option EventId) → f < length s → LinksToLast labels (skeleton_at s f).node f o → NamesPrevious s f o
  names_previous f None exists h = λ d earlier.
      let lt : d < f = earlier.earlier in
      h d lt (label_of d _ (omega arith) earlier.same_node)
  names_previous f (Some d) exists h = record {
    at_node = record { earlier = h.below; exists = exists; same_node = (node_of d.0 _ h.labelled).1 };
    latest = λ m earlier.
        let lt : m < f = earlier.earlier in
        elim (cases_lt d.0 m) [ inl later ↦ absurd (h.last m later lt (label_of m _ (omega arith) earlier.same_node)) | inr le ↦ le ];
  }

  pub names_next : (e : ℕ) (o : Option EventId) → LinksToFirst labels (skeleton_at s e).node (e + 1) o → NamesNext s e o
  names_next e None h = λ f earlier.
      let lt : e < f = earlier.earlier in
      h f (omega arith) (label_of f _ earlier.exists (sym earlier.same_node))
  names_next e (Some f) h =
      let at = node_of f.0 _ h.labelled in
      let from : e + 1 ≤ f.0 = h.from in
      record {
        at_node = record { earlier = omega arith; exists = at.0; same_node = sym at.1 };
        latest = λ m earlier.
            let lt : m < f.0 = earlier.earlier in
            elim (cases_lt e m) [
              | inl later ↦ absurd (h.first m (omega arith) lt (label_of m _ (omega (arith, at.0)) (earlier.same_node ∙ at.1)))
              | inr le ↦ le
            ];
      }

pub names_send : (s : Skeleton) (f : ℕ) (o : Option EventId) → f < length s → place_of o ≡ (skeleton_at s f).send
    → ((d : ℕ) → (skeleton_at s f).send ≡ Some d → d < f) → NamesSend s f o
names_send s f None exists is earlier = λ e send. (let bad : ◌≡◌ {A = Option ℕ} None (Some e) = is ∙ send.delivers in cc)
names_send s f (Some d) exists is earlier = record { earlier = earlier d.0 (sym is); exists = exists; delivers = sym is }
