-- A text is added after another.
use Rattle.std.proofs.Common.{◌≡◌, ◌∙◌, ℕ, List, ◌++◌, ap, append_assoc}

-- a text is added, and then the rest
pub then_added : (old mid new first rest : List ℕ) → mid ≡ old ++ first → new ≡ mid ++ rest → new ≡ old ++ (first ++ rest)
then_added old mid new first rest h e = e ∙ ap (λ (t : List ℕ). t ++ rest) h ∙ append_assoc old first rest
