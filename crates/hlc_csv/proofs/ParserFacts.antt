-- Bytes are taken after one another.
use Rattle.std.proofs.Common.{◌≡◌, ◌∙◌, ℕ, suc, ◌+◌, ◌<◌, ◌≤◌, true, false, List, [], ◌∷◌, ◌++◌, Option, Some, None, ap, append_assoc, arith, drop, get_or, length, refl, subst, sym, take}
use Rattle.std.specs.Prelude.{IfSome}
use Rattle.std.specs.Io.BufRead.{DropsConsumable}
use Rattle.std.specs.Io.KnownBytes.{Consumes, Keeps}
use Rattle.std.proofs.lemmas.List.{take-append-drop, take-take}
use Rattle.std.proofs.Math.Seq.{take-suc}
use Rattle.csv.specs.Machine.{next_record}
use Rattle.csv.specs.Reading.{default_config}
use Rattle.csv.specs.declared.parser.State.TheVariants as st
use Rattle.hlc_csv.specs.Rows.{Fields}
use Rattle.hlc_csv.specs.ParserState.{csv_state, is_inside}
use Rattle.hlc_csv.specs.RecordParser.{EndsRecord, GoesOn, Moves, MovesToEnd, OfKnown, end_state, lines_ahead, next_of}
use Rattle.hlc_csv.specs.Turn.{NoneLeft}
use Rattle.hlc_csv.specs.declared.parser_state.ParserState.{ParserState}
use Rattle.hlc_csv.specs.declared.parser_state.ParserState.TheVariants as state
use Rattle.hlc_csv.specs.declared.record_parser.RecordParser.{RecordParser}

pub went_nowhere : (p : RecordParser) (f : Fields) → GoesOn p p f f []
went_nowhere p f = record { next = λ rest. refl; lines = λ rest. refl; end = λ rest. refl }

module _ (a b c : RecordParser) (was mid now : Fields) (xs : List ℕ) (h : GoesOn a b was mid xs) where
  pub go_further : (ys : List ℕ) → GoesOn b c mid now ys → GoesOn a c was now (xs ++ ys)
  go_further ys g = record {
    next = λ rest. ap (next_of a was) (append_assoc xs ys rest) ∙ h.next (ys ++ rest) ∙ g.next rest;
    lines = λ rest. ap (lines_ahead a) (append_assoc xs ys rest) ∙ h.lines (ys ++ rest) ∙ g.lines rest;
    end = λ rest. ap (end_state a) (append_assoc xs ys rest) ∙ h.end (ys ++ rest) ∙ g.end rest;
  }

  pub go_to_end : (ys : List ℕ) → EndsRecord b c mid now ys → EndsRecord a c was now (xs ++ ys)
  go_to_end ys g = record {
    next = λ rest. ap (next_of a was) (append_assoc xs ys rest) ∙ h.next (ys ++ rest) ∙ g.next rest;
    lines = λ rest. ap (lines_ahead a) (append_assoc xs ys rest) ∙ h.lines (ys ++ rest) ∙ g.lines rest;
    end = λ rest. ap (end_state a) (append_assoc xs ys rest) ∙ h.end (ys ++ rest) ∙ g.end rest;
    between = g.between;
    none_kept = g.none_kept;
  }

-- one byte more of some, after those before it
module _ (a b c : RecordParser) (was mid now : Fields) (bytes : List ℕ) (place byte : ℕ) (is : byte ≡ get_or bytes place 0) (lt : place < length bytes)
    (h : GoesOn a b was mid (take place bytes)) where
  one_more : take (place + 1) bytes ≡ take place bytes ++ byte ∷ []
  one_more =
      let by_one : place + 1 ≡ suc place = omega arith in
      ap (λ n. take n bytes) by_one ∙ take-suc bytes place 0 lt ∙ ap (λ b. take place bytes ++ b ∷ []) (sym is)

  pub goes_on-more : GoesOn b c mid now (byte ∷ []) → GoesOn a c was now (take (place + 1) bytes)
  goes_on-more g = subst (λ (xs : List ℕ). GoesOn a c was now xs) (sym one_more) (go_further a b c was mid now (take place bytes) h (byte ∷ []) g)

  pub ends_record-at : EndsRecord b c mid now (byte ∷ []) → EndsRecord a c was now (take (place + 1) bytes)
  ends_record-at g = subst (λ (xs : List ℕ). EndsRecord a c was now xs) (sym one_more) (go_to_end a b c was mid now (take place bytes) h (byte ∷ []) g)

pub goes_on-all : (a b : RecordParser) (was now : Fields) (bytes : List ℕ) (n : ℕ) → n ≡ length bytes → GoesOn a b was now (take n bytes)
    → GoesOn a b was now bytes
goes_on-all a b was now bytes n is h = subst (λ (xs : List ℕ). GoesOn a b was now xs) (ap (λ n. take n bytes) is ∙ all bytes) h where
  all : (bytes : List ℕ) → take (length bytes) bytes ≡ bytes
  all [] = refl
  all (x ∷ xs) = ap (λ (ys : List ℕ). x ∷ ys) (all xs)

-- no byte is left
pub last_at_end : (s : ParserState) (f : Fields) (p : List ℕ) → is_inside s ≡ true
    → next_record default_config (csv_state s) f p [] ≡ Some (f ++ p ∷ [], st.StartRecord, [])
unfolding next_record
last_at_end state.StartRecord f p inside = absurd (let bad : false ≡ true = inside in cc bad)
last_at_end state.AfterCr f p inside = absurd (let bad : false ≡ true = inside in cc bad)
last_at_end state.StartField f p inside = refl
last_at_end state.InField f p inside = refl
last_at_end state.InQuoted f p inside = refl
last_at_end state.AfterQuote f p inside = refl

pub line_at_end : (p : RecordParser) → is_inside p.state ≡ true → lines_ahead p [] ≡ p.began ∷ []
line_at_end p inside = rw inside refl

-- a turn leaves the bytes that it didn't take
pub moves : (a b : RecordParser) (was now : Fields) (taken : List ℕ) → GoesOn a b was now taken → (before after : Option (List ℕ))
    → Consumes before after taken → OfKnown (Moves a b was now) before after
moves a b was now taken h None after consumes = tt
moves a b was now taken h (Some before) None consumes = consumes
moves a b was now taken h (Some before) (Some after) consumes = record {
  next = ap (next_of a was) consumes ∙ h.next after;
  lines = ap (lines_ahead a) consumes ∙ h.lines after;
  end = ap (end_state a) consumes ∙ h.end after;
}

pub moves_to_end : (a b : RecordParser) (was now : Fields) (taken : List ℕ) → EndsRecord a b was now taken → (before after : Option (List ℕ))
    → Consumes before after taken → OfKnown (MovesToEnd a b was now) before after
moves_to_end a b was now taken h None after consumes = tt
moves_to_end a b was now taken h (Some before) None consumes = consumes
moves_to_end a b was now taken h (Some before) (Some after) consumes = record {
  next = ap (next_of a was) consumes ∙ h.next after;
  lines = ap (lines_ahead a) consumes ∙ h.lines after;
  end = ap (end_state a) consumes ∙ h.end after;
}

-- some bytes are consumed that a reader showed, if it keeps those that it shows and then lets go of so many
pub consumed : (before kept after : Option (List ℕ)) (limit : Option ℕ) (shown : List ℕ) (used : ℕ)
    → IfSome before (λ xs. take (length shown) xs ≡ shown) → Keeps before kept → IfSome before (λ _. IfSome limit (λ n. length shown ≤ n))
    → used ≤ length shown → DropsConsumable kept after limit used → Consumes before after (take used shown)
consumed None kept after limit shown used front keeps within lt drops = tt
consumed (Some xs) None after limit shown used front keeps within lt drops = absurd keeps
consumed (Some xs) (Some ys) after limit shown used front keeps within lt drops =
    let left : after ≡ Some (drop used ys) = drops (allowed limit within) in
    subst (λ a. Consumes (Some xs) a (take used shown)) (sym left) (
    sym (take-append-drop used xs) ∙ ap (λ (bytes : List ℕ). bytes ++ drop used xs) first
    ∙ ap (λ (bytes : List ℕ). take used shown ++ drop used bytes) (sym keeps)
    )
  where
    allowed : (limit : Option ℕ) → IfSome limit (λ n. length shown ≤ n) → IfSome limit (λ n. used ≤ n)
    allowed None within = tt
    allowed (Some n) within = omega (arith, lt, within)

    first : take used xs ≡ take used shown
    first = sym (take-take used (length shown) xs lt) ∙ ap (take used) front

-- a reader shows no byte if none is left
pub none_left : (before after : Option (List ℕ)) (shown : ℕ) → shown ≡ 0 → IfSome before (λ xs. shown ≡ 0 → xs ≡ []) → Keeps before after
    → OfKnown NoneLeft before after
none_left None after shown none end kept = tt
none_left (Some xs) None shown none end kept = kept
none_left (Some xs) (Some ys) shown none end kept = (end none, kept ∙ end none)
