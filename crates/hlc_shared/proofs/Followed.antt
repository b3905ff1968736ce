-- Logs that follow lists of steps.
use Rattle.std.proofs.Common.{◌≡◌, ◌∙◌, List, [], ◌∷◌, ◌++◌, map, refl, sym, ap, subst, append_assoc, Some}
use Rattle.std.proofs.lemmas.List.{map-append}
use mathlib.Core.Logic.{inl, inr}
use Rattle.std.specs.Prelude.{ℕ, Option}
use Rattle.hlc_stamp.specs.Order.{Pair}
use Rattle.hlc_core.specs.Request.{Request}
use Rattle.hlc_core.specs.Timed.{TimedRequest}
use Rattle.hlc_held.specs.LogEntry.{DidAct, LogEntry}
use Rattle.hlc_shared.specs.Replicas.{HasFollowed, IsSubsequence, request_logged}

subsequence_of_more : {A : Type 0} (xs : List A) (y : A) (ys : List A) → IsSubsequence xs ys → IsSubsequence xs (y ∷ ys)
subsequence_of_more [] y ys p = tt
subsequence_of_more (x ∷ xs) y ys p = inr p

subsequence-append : {A : Type 0} (xs ys us vs : List A) → IsSubsequence xs us → IsSubsequence ys vs → IsSubsequence (xs ++ ys) (us ++ vs)
subsequence-append [] ys [] vs p q = q
subsequence-append [] ys (u ∷ us) vs p q = subsequence_of_more ys u (us ++ vs) (subsequence-append [] ys us vs tt q)
subsequence-append (x ∷ xs) ys [] vs p q = absurd p
subsequence-append (x ∷ xs) ys (u ∷ us) vs (inl p) q = inl (p.0, subsequence-append xs ys us vs p.1 q)
subsequence-append (x ∷ xs) ys (u ∷ us) vs (inr p) q = inr (subsequence-append (x ∷ xs) ys us vs p q)

-- an accepted step is one more entry
pub followed_one : (old new : List LogEntry) (reading : ℕ) (request : Request) (event : ℕ) (stamp : Pair)
    → new ≡ old ++ DidAct reading request event stamp ∷ []
    → HasFollowed (record { reading = reading; request = request } ∷ []) old new
followed_one old new reading request event stamp is =
    record { gained = DidAct reading request event stamp ∷ []; log = is; asked = inl (refl, tt) }

-- what follows one list and then another follows both
pub followed_then : (one two : List TimedRequest) (old mid new : List LogEntry) → HasFollowed one old mid → HasFollowed two mid new
    → HasFollowed (one ++ two) old new
followed_then one two old mid new p q =
    let both : IsSubsequence (map request_logged p.gained ++ map request_logged q.gained) (map Some one ++ map Some two) =
    subsequence-append (map request_logged p.gained) (map request_logged q.gained) (map Some one) (map Some two) p.asked q.asked in
    record {
      gained = p.gained ++ q.gained;
      log = q.log ∙ ap (λ (l : List LogEntry). l ++ q.gained) p.log ∙ append_assoc old p.gained q.gained;
      asked = subst (λ (xs : List (Option TimedRequest)). IsSubsequence xs (map Some (one ++ two))) (sym (map-append request_logged p.gained q.gained))
          (subst (λ (ys : List (Option TimedRequest)). IsSubsequence (map request_logged p.gained ++ map request_logged q.gained) ys) (sym (map-append Some one two)) both);
    }
