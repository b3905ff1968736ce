-- The links among events depend on their nodes and sends alone.
use Rattle.std.proofs.Common.{◌≡◌, ℕ, ◌∙◌, inl, inr, List, [], ◌∷◌, length, arith, sym}
use Rattle.hlc_causality.specs.Causality.{IsDirectPredecessor, IsEarlierAtNode, IsPrevious, IsSendOf, Skeleton, skeleton_at}
use Rattle.hlc_causality.specs.Past.{LeadsTo}

-- two skeletons have the same nodes and sends
pub record IsSameLinks (s t : Skeleton) : Type 0 where
  pub size : length s ≡ length t
  pub node : (e : ℕ) → (skeleton_at s e).node ≡ (skeleton_at t e).node
  pub send : (e : ℕ) → (skeleton_at s e).send ≡ (skeleton_at t e).send

pub same_links_back : (s t : Skeleton) → IsSameLinks s t → IsSameLinks t s
same_links_back s t same = record { size = sym same.size; node = λ e. sym (same.node e); send = λ e. sym (same.send e) }

pub earlier_kept : (s t : Skeleton) → IsSameLinks s t → (e f : ℕ) → IsEarlierAtNode s e f → IsEarlierAtNode t e f
earlier_kept s t same e f h = record {
  earlier = h.earlier;
  exists = omega (arith, h.exists, same.size);
  same_node = sym (same.node e) ∙ h.same_node ∙ same.node f;
}

pub previous_kept : (s t : Skeleton) → IsSameLinks s t → (e f : ℕ) → IsPrevious s e f → IsPrevious t e f
previous_kept s t same e f h = record {
  at_node = earlier_kept s t same e f h.at_node;
  latest = λ m k. h.latest m (earlier_kept t s (same_links_back s t same) m f k);
}

pub send_kept : (s t : Skeleton) → IsSameLinks s t → (e f : ℕ) → IsSendOf s e f → IsSendOf t e f
send_kept s t same e f h = record {
  earlier = h.earlier;
  exists = omega (arith, h.exists, same.size);
  delivers = sym (same.send f) ∙ h.delivers;
}

pub direct_kept : (s t : Skeleton) → IsSameLinks s t → (e f : ℕ) → IsDirectPredecessor s e f → IsDirectPredecessor t e f
direct_kept s t same e f (inl h) = inl (previous_kept s t same e f h)
direct_kept s t same e f (inr h) = inr (send_kept s t same e f h)

pub leads_kept : (s t : Skeleton) → IsSameLinks s t → (e : ℕ) (rest : List ℕ) (f : ℕ) → LeadsTo s e rest f → LeadsTo t e rest f
leads_kept s t same e [] f h = h
leads_kept s t same e (m ∷ rest) f h = (direct_kept s t same e m h.0, leads_kept s t same m rest f h.1)
