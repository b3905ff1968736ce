-- The beginning of a text.
use Rattle.std.proofs.Common.{◌≡◌, ◌∙◌, ◌==◌, ◌&&◌, ◌⊎◌, ◌≢◌, ◌<◌, ℕ, Bool, true, false, List, [], ◌∷◌, ◌++◌, Option, Some, None, ap, append_assoc, arith, eqb-true, inl, inr, length, refl, subst, sym}
use Rattle.std.specs.Prelude.{option_map}
use Rattle.std.specs.Fmt.{option_append}
use Rattle.std.specs.Io.KnownBytes.{Consumes, Keeps}
use Rattle.std.proofs.lemmas.Bool.{and_parts}
use Rattle.std.proofs.lemmas.List.{append-nil}
use Rattle.csv.specs.Reading.{is_bom, strip_bom}
use Rattle.hlc_csv.specs.TextReader.{DropsMark, IsHead, byte_order_mark}

-- what was read in two parts
pub consumes-more : (a b c : Option (List ℕ)) (xs ys : List ℕ) → Consumes a b xs → Consumes b c ys → Consumes a c (xs ++ ys)
consumes-more None b c xs ys first second = tt
consumes-more (Some us) None c xs ys first second = absurd first
consumes-more (Some us) (Some vs) None xs ys first second = absurd second
consumes-more (Some us) (Some vs) (Some ws) xs ys first second = first ∙ ap (λ (zs : List ℕ). xs ++ zs) second ∙ sym (append_assoc xs ys ws)

pub consumes-none : (a b c : Option (List ℕ)) (xs : List ℕ) → Consumes a b xs → Consumes b c [] → Consumes a c xs
consumes-none a b c xs first second = subst (Consumes a c) (append-nil xs) (consumes-more a b c xs [] first second)

pub consumes-start : (a : Option (List ℕ)) → Consumes a a []
consumes-start None = tt
consumes-start (Some xs) = refl

-- no other three bytes are a mark
no_bom : (a b c : ℕ) → (a ∷ b ∷ c ∷ []) ≢ byte_order_mark → is_bom a b c ≡ false
no_bom a b c other = by (is_bom a b c) refl where
  by : (test : Bool) → is_bom a b c ≡ test → test ≡ false
  by false is = refl
  by true is =
      let all = and_parts ((a == 239) && (b == 187)) (c == 191) is in
      let two = and_parts (a == 239) (b == 187) all.0 in
      let at_a = eqb-true a 239 two.0 in
      let at_b = eqb-true b 187 two.1 in
      let at_c = eqb-true c 191 all.1 in
      absurd (other (λ i. at_a i ∷ at_b i ∷ at_c i ∷ []))

strips_three : (a b c : ℕ) (ys : List ℕ) → (a ∷ b ∷ c ∷ []) ≢ byte_order_mark → strip_bom (a ∷ b ∷ c ∷ ys) ≡ a ∷ b ∷ c ∷ ys
unfolding strip_bom
strips_three a b c ys other = rw (no_bom a b c other) refl

strips_mark : (ys : List ℕ) → strip_bom (byte_order_mark ++ ys) ≡ ys
unfolding strip_bom
strips_mark ys = refl

strips_other : (head ys : List ℕ) → ((length head ≡ 3) ⊎ ((length head < 3) × (ys ≡ []))) → head ≢ byte_order_mark → strip_bom (head ++ ys) ≡ head ++ ys
unfolding strip_bom
strips_other (a ∷ b ∷ c ∷ []) ys size other = strips_three a b c ys other
strips_other [] ys (inl three) other = absurd (omega (arith, three))
strips_other (a ∷ []) ys (inl three) other = absurd (omega (arith, three))
strips_other (a ∷ b ∷ []) ys (inl three) other = absurd (omega (arith, three))
strips_other (a ∷ b ∷ c ∷ d ∷ rest) ys (inl three) other = absurd (omega (arith, three))
strips_other [] ys (inr fewer) other = rw fewer.1 refl
strips_other (a ∷ []) ys (inr fewer) other = rw fewer.1 refl
strips_other (a ∷ b ∷ []) ys (inr fewer) other = rw fewer.1 refl
strips_other (a ∷ b ∷ c ∷ d ∷ rest) ys (inr fewer) other = (let few = fewer.0 in absurd (omega (arith, few)))

-- the text without the mark
pub keeps_text : (before after : Option (List ℕ)) (head kept : List ℕ) → IsHead before after head → DropsMark head kept
    → Keeps (option_map strip_bom before) (option_append (Some kept) after)
keeps_text None after head kept is drops = tt
keeps_text (Some xs) None head kept is drops = absurd is.0
keeps_text (Some xs) (Some ys) head kept is (inl mark) =
    sym (ap strip_bom (is.0 ∙ ap (λ (h : List ℕ). h ++ ys) mark.0) ∙ strips_mark ys ∙ ap (λ (k : List ℕ). k ++ ys) (sym mark.1))
keeps_text (Some xs) (Some ys) head kept is (inr other) =
    sym (ap strip_bom is.0 ∙ strips_other head ys is.1 other.0 ∙ ap (λ (k : List ℕ). k ++ ys) (sym other.1))
