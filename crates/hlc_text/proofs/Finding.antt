-- The first element of a list that passes a test.
use Rattle.std.proofs.Common.{Bool, true, false, List, [], ◌∷◌, Option, Some, map, refl, ◌≡◌}
use Rattle.std.specs.Prelude.{cond, option_map}
use Rattle.std.specs.List.{find}

found_here : {A B : Type 0} (h : A → B) (b : Bool) (x : A) (rest : Option A) (others : Option B) → option_map h rest ≡ others
    → option_map h (cond b (Some x) rest) ≡ cond b (Some (h x)) others
found_here h true x rest others is = refl
found_here h false x rest others is = is

pub find-map : {A B : Type 0} (h : A → B) (test : B → Bool) (xs : List A) → option_map h (find (λ a. test (h a)) xs) ≡ find test (map h xs)
find-map h test [] = refl
find-map h test (x ∷ xs) = found_here h (test (h x)) x (find (λ a. test (h a)) xs) (find test (map h xs)) (find-map h test xs)
