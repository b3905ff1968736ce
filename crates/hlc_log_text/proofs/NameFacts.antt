-- Names and their numbers.
use Rattle.std.proofs.Common.{◌≡◌, ℕ, zero, suc, Bool, true, false, cond, not, ◌&&◌, ◌<◌, ◌≤◌, List, [], ◌∷◌, ◌++◌, Option, Some, None, IfSome, filter, get_or, length, position, slice_get, ◌+◌, refl, sym, ap, ◌∙◌, arith, length-append}
use Rattle.std.specs.List.{list_any}
use Rattle.std.specs.Option.{is_some}
use Rattle.std.specs.Str.{bytes_eq}
use Rattle.std.proofs.Math.ListN.{get_or-append}
use Rattle.std.proofs.lemmas.Cmp.{nat_list_eq_equiv}
use Rattle.std.proofs.lemmas.List.{append-nil}
use Rattle.std.proofs.lemmas.List.Elements.{filter-append}
use Rattle.std.proofs.lemmas.List.Quantifiers.{position-Some}
use Rattle.std.proofs.lemmas.Option.{get_or_from_slice_get, slice_get-get_or, slice_get_within}
use Rattle.std.proofs.lemmas.Slice.Eq.{bytes_eq-Decides}
use Rattle.hlc_log.specs.declared.log_event.LogKind.TheVariants as kind
use Rattle.hlc_log.specs.declared.message_id.MessageId.{MessageId}
use Rattle.hlc_log_text.specs.declared.log_word.LogWord.TheVariants as word
use Rattle.hlc_log_text.specs.LogText.{name_of}
use Rattle.hlc_log_text.specs.Names.{first_mentions, with_name}
use Rattle.hlc_log_text.specs.PartialLog.{TellsKind}

-- a name stands at its number
pub name_at_number : (names : List (List ℕ)) (name : List ℕ) (found : Option ℕ) → found ≡ position (bytes_eq name) names
    → IfSome found (λ n. slice_get names n ≡ Some name)
name_at_number names name None is = tt
name_at_number names name (Some n) is =
    let at = position-Some (bytes_eq name) names n [] (sym is) in
    let same : name ≡ get_or names n [] = (bytes_eq-Decides name (get_or names n [])).0 at.1 in
    slice_get-get_or names n [] at.0 ∙ ap (λ (x : List ℕ). Some x) (sym same)

-- it has a number if it is among them
pub has_number : (names : List (List ℕ)) (name : List ℕ) → is_some (position (bytes_eq name) names) ≡ list_any (bytes_eq name) names
has_number [] name = refl
has_number (first ∷ names) name = grind (arith, has_number names name)

-- a name that is known is not added
pub with_known_name : (names : List (List ℕ)) (name : List ℕ) → list_any (bytes_eq name) names ≡ true → with_name names name ≡ names
with_known_name names name known = rw known

-- a new one is
pub with_new_name : (names : List (List ℕ)) (name : List ℕ) → list_any (bytes_eq name) names ≡ false
    → with_name names name ≡ names ++ name ∷ []
with_new_name names name new = rw new

-- a name is among others that aren't this one, or it is this one
pub known_but_for : (name other : List ℕ) (names : List (List ℕ))
    → list_any (bytes_eq name) (filter (λ m. not (bytes_eq other m)) names) ≡ (not (bytes_eq other name) && list_any (bytes_eq name) names)
known_but_for name other [] = grind arith
known_but_for name other (first ∷ names) =
    let same : bytes_eq name first ≡ true → bytes_eq other first ≡ bytes_eq other name =
    λ h. ap (bytes_eq other) (sym ((bytes_eq-Decides name first).0 h)) in
    grind (arith, known_but_for name other names, same)

-- one more mention, after a first one
module _ (first name : List ℕ) (names : List (List ℕ)) where
  abbrev others : List ℕ → Bool
  others other = not (bytes_eq first other)

  others_mentioned : first ∷ filter others (with_name names name) ≡ with_name (first ∷ filter others names) name
  others_mentioned =
      grind (
        arith,
        known_but_for name first names,
        filter-append others names (name ∷ []),
        nat_list_eq_equiv.symm first name,
        append-nil (filter others names),
      )

pub first_mentions-push : (mentions : List (List ℕ)) (name : List ℕ)
    → first_mentions (mentions ++ name ∷ []) ≡ with_name (first_mentions mentions) name
first_mentions-push [] name = refl
first_mentions-push (first ∷ mentions) name =
    ap (λ (names : List (List ℕ)). first ∷ filter (λ other. not (bytes_eq first other)) names) (first_mentions-push mentions name)
    ∙ others_mentioned first name (first_mentions mentions)

-- the name of a number stays when one more name is mentioned
pub name_of-with_name : (names : List (List ℕ)) (name : List ℕ) (n : ℕ) → n < length names
    → get_or (with_name names name) n [] ≡ get_or names n []
name_of-with_name names name n below = by (list_any (bytes_eq name) names) where
  by : (known : Bool) → get_or (cond known names (names ++ name ∷ [])) n [] ≡ get_or names n []
  by true = refl
  by false = get_or-append names (name ∷ []) [] n below

-- there are no fewer names then, and one more at most
pub length-with_name : (names : List (List ℕ)) (name : List ℕ)
    → (length names ≤ length (with_name names name)) × (length (with_name names name) ≤ length names + 1)
length-with_name names name = by (list_any (bytes_eq name) names) where
  by : (known : Bool) → (length names ≤ length (cond known names (names ++ name ∷ [])))
      × (length (cond known names (names ++ name ∷ [])) ≤ length names + 1)
  by true = (omega arith, omega arith)
  by false = let size = length-append names (name ∷ []) in (omega (arith, size), omega (arith, size))

-- a name that stands at a number is known
pub known_at : (names : List (List ℕ)) (name : List ℕ) (n : ℕ) → slice_get names n ≡ Some name → list_any (bytes_eq name) names ≡ true
known_at [] name n here = grind arith
known_at (first ∷ names) name zero here = grind (arith, bytes_eq-Decides)
known_at (first ∷ names) name (suc n) here = grind (arith, known_at names name n here)

-- a message that is mentioned by a name has a number below that of the names
module _ (old new : List (List ℕ)) (name : List ℕ) (message : MessageId) (names : new ≡ with_name old name)
    (here : slice_get new message.0 ≡ Some name) where
  below : message.0 < length new
  below = slice_get_within new message.0 name here

  is_name : Some (name_of new message.0) ≡ Some name
  is_name = ap (λ (n : List ℕ). (let o : Option (List ℕ) = Some n in o)) (get_or_from_slice_get new message.0 name [] here)

  pub tells_send : TellsKind old new word.Send name (kind.Send message)
  tells_send = record { names = names; is_word = refl; message = is_name; below = below }

  pub tells_receive : TellsKind old new word.Receive name (kind.Receive message)
  tells_receive = record { names = names; is_word = refl; message = is_name; below = below }
