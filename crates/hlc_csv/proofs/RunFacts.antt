-- Bytes that only join a field without quotation marks.
use Rattle.std.proofs.Common.{◌≡◌, ◌∙◌, ℕ, zero, suc, ◌+◌, ◌-◌, ◌<◌, ◌≤◌, Bool, true, false, ◌==◌, if◌then◌else◌, List, [], ◌∷◌, ◌++◌, ap, append_assoc, arith, drop, eqb-true, get_or, length, ne_eqb, refl, sym, subst, take}
use Rattle.std.specs.Prelude.{All}
use Rattle.std.proofs.lemmas.List.{append-nil}
use Rattle.std.proofs.lemmas.List.Elements.{All-head, All-push, All-tail}
use Rattle.std.proofs.Math.Seq.{take-suc}
use Rattle.csv.specs.Machine.{field_after, fields_after, is_end, next_record, step}
use Rattle.csv.specs.Reading.{default_config}
use Rattle.csv.specs.declared.parser.Action.{Action}
use Rattle.csv.specs.declared.parser.Action.TheVariants as act
use Rattle.csv.specs.declared.parser.State.{State}
use Rattle.csv.specs.declared.parser.State.TheVariants as st
use Rattle.hlc_csv.specs.Rows.{Fields}
use Rattle.hlc_csv.specs.ParserState.{csv_state, is_inside, is_plain}
use Rattle.hlc_csv.specs.RecordLines.{is_between, lines_from}
use Rattle.hlc_csv.specs.RecordParser.{GoesOn, TakesRun, end_state, lines_ahead, next_of}
use Rattle.hlc_csv.specs.TextEnd.{state_after}
use Rattle.hlc_csv.specs.declared.parser_state.ParserState.{ParserState}
use Rattle.hlc_csv.specs.declared.parser_state.ParserState.TheVariants as state
use Rattle.hlc_csv.specs.declared.record_parser.RecordParser.{RecordParser}
use Rattle.hlc_csv.proofs.ByteFacts.{next-stays}
use Rattle.hlc_csv.proofs.ParserFacts.{go_further}

-- what a byte above the comma does
module _ (c : ℕ) (above : 44 < c) where
  no_comma : (c == 44) ≡ false
  no_comma = ne_eqb c 44 (λ e. absurd (omega arith))

  pub no_return : (c == 13) ≡ false
  no_return = ne_eqb c 13 (λ e. absurd (omega arith))

  pub no_feed : (c == 10) ≡ false
  no_feed = ne_eqb c 10 (λ e. absurd (omega arith))

  no_quote : (c == 34) ≡ false
  no_quote = ne_eqb c 34 (λ e. absurd (omega arith))

  joins : step default_config st.InField c ≡ (st.InField, act.Copy)
  joins = rw (no_comma, no_return, no_feed) refl

  begins : step default_config st.StartField c ≡ (st.InField, act.Copy)
  begins = rw (no_quote, no_comma, no_return, no_feed) refl

-- a state in which such bytes join the field
pub data IsPlain (s : State) : Type 0 where
  Joins : ((c : ℕ) → 44 < c → step default_config s c ≡ (st.InField, act.Copy)) → step default_config s 44 ≡ (st.StartField, act.EndField)
      → is_between s ≡ false → IsPlain s

pub plain : (s : ParserState) → is_plain s ≡ true → IsPlain (csv_state s)
plain state.StartRecord is = absurd (cc is)
plain state.AfterCr is = absurd (cc is)
plain state.StartField is = Joins begins refl refl
plain state.InField is = Joins joins refl refl
plain state.InQuoted is = absurd (cc is)
plain state.AfterQuote is = absurd (cc is)

is_apart : (s : State) → IsPlain s → is_between s ≡ false
is_apart s (Joins all ends between) = between

-- one such byte
module _ (s : State) (h : IsPlain s) (c : ℕ) (above : 44 < c) where
  is_step : step default_config s c ≡ (st.InField, act.Copy)
  is_step = by h where
    by : IsPlain s → step default_config s c ≡ (st.InField, act.Copy)
    by (Joins all ends between) = all c above

  inside : is_between s ≡ false
  inside = by h where
    by : IsPlain s → is_between s ≡ false
    by (Joins all ends between) = between

  next-one : (f : Fields) (p rest : List ℕ)
      → next_record default_config s f p (c ∷ rest) ≡ next_record default_config st.InField f (p ++ c ∷ []) rest
  next-one f p rest =
      next-stays s f p c rest (ap (λ (q : State × Action). is_end q.1) is_step)
      ∙ (λ i. next_record default_config (is_step i).0 (fields_after (is_step i).1 f p) (field_after (is_step i).1 c p) rest)

  lines-one : (after_cr : Bool) (line : ℕ) (rest : List ℕ) → lines_from s after_cr line (c ∷ rest) ≡ lines_from st.InField false line rest
  lines-one after_cr line rest =
      rw (inside, no_return c above, no_feed c above) (ap (λ (q : State × Action). lines_from q.0 false line rest) is_step)

  end-one : (rest : List ℕ) → state_after s (c ∷ rest) ≡ state_after st.InField rest
  end-one rest = ap (λ (q : State × Action). state_after q.0 rest) is_step

-- some of them
module _ (rest : List ℕ) where
  next-run : (xs : List ℕ) → All (λ byte. 44 < byte) xs → (f : Fields) (p : List ℕ)
      → next_record default_config st.InField f p (xs ++ rest) ≡ next_record default_config st.InField f (p ++ xs) rest
  next-run [] all f p = ap (λ (p : List ℕ). next_record default_config st.InField f p rest) (sym (append-nil p))
  next-run (c ∷ xs) all f p =
      next-one st.InField (plain state.InField refl) c (All-head (λ byte. 44 < byte) c xs all) f p (xs ++ rest)
      ∙ next-run xs (All-tail (λ byte. 44 < byte) c xs all) f (p ++ c ∷ [])
      ∙ ap (λ (p : List ℕ). next_record default_config st.InField f p rest) (append_assoc p (c ∷ []) xs)

  lines-run : (xs : List ℕ) → All (λ byte. 44 < byte) xs → (line : ℕ)
      → lines_from st.InField false line (xs ++ rest) ≡ lines_from st.InField false line rest
  lines-run [] all line = refl
  lines-run (c ∷ xs) all line =
      lines-one st.InField (plain state.InField refl) c (All-head (λ byte. 44 < byte) c xs all) false line (xs ++ rest)
      ∙ lines-run xs (All-tail (λ byte. 44 < byte) c xs all) line

  end-run : (xs : List ℕ) → All (λ byte. 44 < byte) xs → state_after st.InField (xs ++ rest) ≡ state_after st.InField rest
  end-run [] all = refl
  end-run (c ∷ xs) all =
      end-one st.InField (plain state.InField refl) c (All-head (λ byte. 44 < byte) c xs all) (xs ++ rest)
      ∙ end-run xs (All-tail (λ byte. 44 < byte) c xs all)

-- a parser took a run of them
pub record TookRun (old new : RecordParser) (run : List ℕ) : Type 0 where
  pub state : new.state ≡ state.InField
  pub after_cr : new.after_cr ≡ false
  pub line : new.line ≡ old.line
  pub began : new.began ≡ old.began
  pub field : new.field.items ≡ old.field.items ++ run

module _ (old new : RecordParser) (is : is_plain old.state ≡ true) where
  inside_plain : (s : ParserState) → is_plain s ≡ true → is_inside s ≡ true
  inside_plain state.StartRecord is = absurd (cc is)
  inside_plain state.AfterCr is = absurd (cc is)
  inside_plain state.StartField is = refl
  inside_plain state.InField is = refl
  inside_plain state.InQuoted is = absurd (cc is)
  inside_plain state.AfterQuote is = absurd (cc is)

  lines_old : (bytes : List ℕ) → lines_ahead old bytes ≡ old.began ∷ lines_from (csv_state old.state) old.after_cr old.line bytes
  lines_old bytes = rw (inside_plain old.state is) refl

  lines_new : (t : new.state ≡ state.InField) (bytes : List ℕ) → lines_ahead new bytes ≡ new.began ∷ lines_from st.InField new.after_cr new.line bytes
  lines_new t bytes = ap (λ (s : ParserState). (if is_inside s then new.began ∷ [] else []) ++ lines_from (csv_state s) new.after_cr new.line bytes) t

  pub goes_on-run : (c : ℕ) (xs : List ℕ) → All (λ byte. 44 < byte) (c ∷ xs) → TookRun old new (c ∷ xs) → (f : Fields) → GoesOn old new f f (c ∷ xs)
  goes_on-run c xs all t f = by (All-head (λ byte. 44 < byte) c xs all) (All-tail (λ byte. 44 < byte) c xs all) where
    by : 44 < c → All (λ byte. 44 < byte) xs → GoesOn old new f f (c ∷ xs)
    by above rest_above = record {
      next = λ rest.
          next-one (csv_state old.state) (plain old.state is) c above f old.field.items (xs ++ rest)
          ∙ next-run rest xs rest_above f (old.field.items ++ c ∷ [])
          ∙ ap (λ (p : List ℕ). next_record default_config st.InField f p rest) (append_assoc old.field.items (c ∷ []) xs ∙ sym t.field)
          ∙ ap (λ (s : ParserState). next_record default_config (csv_state s) f new.field.items rest) (sym t.state);
      lines = λ rest.
          lines_old (c ∷ (xs ++ rest))
          ∙ ap (λ (lines : List ℕ). old.began ∷ lines)
          (lines-one (csv_state old.state) (plain old.state is) c above old.after_cr old.line (xs ++ rest) ∙ lines-run rest xs rest_above old.line)
          ∙ (λ i. sym t.began i ∷ lines_from st.InField (sym t.after_cr i) (sym t.line i) rest)
          ∙ sym (lines_new t.state rest);
      end = λ rest.
          end-one (csv_state old.state) (plain old.state is) c above (xs ++ rest) ∙ end-run rest xs rest_above
          ∙ ap (λ (s : ParserState). state_after (csv_state s) rest) (sym t.state);
    }

-- one more byte above the comma
pub plain-more : (bytes : List ℕ) (place : ℕ) → place < length bytes → All (λ byte. 44 < byte) (take place bytes) → 44 < get_or bytes place 0
    → All (λ byte. 44 < byte) (take (place + 1) bytes)
plain-more bytes place lt all above =
    let by_one : place + 1 ≡ suc place = omega arith in
    subst (All (λ byte. 44 < byte)) (sym (ap (λ n. take n bytes) by_one ∙ take-suc bytes place 0 lt))
    (All-push (λ byte. 44 < byte) (take place bytes) (get_or bytes place 0) all above)

-- a run, if there is one
pub takes_run : (old new : RecordParser) → is_plain old.state ≡ true → (bytes : List ℕ) (run : ℕ) → (run ≡ 0 → ⊥) → run ≤ length bytes
    → All (λ byte. 44 < byte) (take run bytes) → TookRun old new (take run bytes) → (f : Fields) → TakesRun old new f f bytes run
takes_run old new is bytes zero some within all t f = absurd (some refl)
takes_run old new is [] (suc run) some within all t f = absurd (omega (arith, within))
takes_run old new is (c ∷ xs) (suc run) some within all t f = goes_on-run old new is c (take run xs) all t f

-- two parts of some bytes
take_both : (bytes : List ℕ) (place run : ℕ) → take (place + run) bytes ≡ take place bytes ++ take run (drop place bytes)
take_both bytes zero run = ap (λ n. take n bytes) none where
  none : zero + run ≡ run
  none = omega arith
take_both [] (suc place) run = ap (λ n. take n []) more ∙ nothing run where
  more : suc place + run ≡ suc (place + run)
  more = omega arith

  nothing : (run : ℕ) → ◌≡◌ {A = List ℕ} [] (take run [])
  nothing zero = refl
  nothing (suc run) = refl
take_both (c ∷ bytes) (suc place) run = ap (λ n. take n (c ∷ bytes)) more ∙ ap (λ (ys : List ℕ). c ∷ ys) (take_both bytes place run) where
  more : suc place + run ≡ suc (place + run)
  more = omega arith

take_within : (n run : ℕ) (xs : List ℕ) → run ≤ length (take n xs) → take run (take n xs) ≡ take run xs
take_within zero zero xs within = refl
take_within zero (suc run) xs within = absurd (omega (arith, within))
take_within (suc n) run [] within = refl
take_within (suc n) zero (c ∷ xs) within = refl
take_within (suc n) (suc run) (c ∷ xs) within = ap (λ (ys : List ℕ). c ∷ ys) (take_within n run xs (omega (arith, within)))

-- a run after the bytes before it
pub goes_on-after : (a b c : RecordParser) (was mid now : Fields) (bytes : List ℕ) (place n run : ℕ) → GoesOn a b was mid (take place bytes)
    → run ≤ length (take n (drop place bytes)) → TakesRun b c mid now (take n (drop place bytes)) run → GoesOn a c was now (take (place + run) bytes)
goes_on-after a b c was mid now bytes place n run h within takes =
    subst (λ (xs : List ℕ). GoesOn a c was now xs)
    (ap (λ (xs : List ℕ). take place bytes ++ xs) (take_within n run (drop place bytes) within) ∙ sym (take_both bytes place run))
    (go_further a b c was mid now (take place bytes) h (take run (take n (drop place bytes))) takes)

-- if there is none, they are as before
pub goes_on-none : (a b c : RecordParser) (was mid now : Fields) (bytes : List ℕ) (place n run : ℕ) → run ≤ 0 → GoesOn a b was mid (take place bytes)
    → run ≤ length (take n (drop place bytes)) → TakesRun b c mid now (take n (drop place bytes)) run → GoesOn a c was now (take place bytes)
goes_on-none a b c was mid now bytes place n run none h within takes =
    subst (λ (end : ℕ). GoesOn a c was now (take end bytes)) same (goes_on-after a b c was mid now bytes place n run h within takes) where
      same : place + run ≡ place
      same = omega (arith, none)

-- and a run ends within them
pub ends_within : (bytes : List ℕ) (place run : ℕ) → place ≤ length bytes → run ≤ length (take (length bytes - place) (drop place bytes))
    → place + run ≤ length bytes
ends_within bytes place run at within =
    let few = length_take (length bytes - place) (drop place bytes) in
    omega arith where
      length_take : (n : ℕ) (xs : List ℕ) → length (take n xs) ≤ n
      length_take zero xs = omega arith
      length_take (suc n) [] = omega arith
      length_take (suc n) (c ∷ xs) = let rest = length_take n xs in omega arith

-- a comma after some of them
comma_step : (s : State) → IsPlain s → step default_config s 44 ≡ (st.StartField, act.EndField)
comma_step s h = by h where
  by : IsPlain s → step default_config s 44 ≡ (st.StartField, act.EndField)
  by (Joins all ends between) = ends

-- a parser took a whole field, and the comma after it
pub record TookField (old new : RecordParser) (was now : Fields) (field : List ℕ) : Type 0 where
  pub state : new.state ≡ state.StartField
  pub after_cr : new.after_cr ≡ false
  pub line : new.line ≡ old.line
  pub began : new.began ≡ old.began
  pub none_before : old.field.items ≡ []
  pub none_after : new.field.items ≡ []
  pub fields : now ≡ was ++ field ∷ []

module _ (s : State) (h : IsPlain s) (rest : List ℕ) where
  next-comma : (f : Fields) (p : List ℕ) → next_record default_config s f p (44 ∷ rest) ≡ next_record default_config st.StartField (f ++ p ∷ []) [] rest
  next-comma f p =
      next-stays s f p 44 rest (ap (λ (q : State × Action). is_end q.1) (comma_step s h))
      ∙ (λ i. next_record default_config (comma_step s h i).0 (fields_after (comma_step s h i).1 f p) (field_after (comma_step s h i).1 44 p) rest)

  lines-comma : (after_cr : Bool) (line : ℕ) → lines_from s after_cr line (44 ∷ rest) ≡ lines_from st.StartField false line rest
  lines-comma after_cr line =
      rw (is_apart s h) (ap (λ (q : State × Action). lines_from q.0 false line rest) (comma_step s h))

  end-comma : state_after s (44 ∷ rest) ≡ state_after st.StartField rest
  end-comma = ap (λ (q : State × Action). state_after q.0 rest) (comma_step s h)

-- and a field before it
module _ (s : State) (h : IsPlain s) (rest : List ℕ) where
  next-field : (xs : List ℕ) → All (λ byte. 44 < byte) xs → (f : Fields)
      → next_record default_config s f [] (xs ++ 44 ∷ rest) ≡ next_record default_config st.StartField (f ++ xs ∷ []) [] rest
  next-field [] all f = next-comma s h rest f []
  next-field (c ∷ xs) all f =
      next-one s h c (All-head (λ byte. 44 < byte) c xs all) f [] (xs ++ 44 ∷ rest)
      ∙ next-run (44 ∷ rest) xs (All-tail (λ byte. 44 < byte) c xs all) f (c ∷ [])
      ∙ next-comma st.InField (plain state.InField refl) rest f (c ∷ xs)

  lines-field : (xs : List ℕ) → All (λ byte. 44 < byte) xs → (after_cr : Bool) (line : ℕ)
      → lines_from s after_cr line (xs ++ 44 ∷ rest) ≡ lines_from st.StartField false line rest
  lines-field [] all after_cr line = lines-comma s h rest after_cr line
  lines-field (c ∷ xs) all after_cr line =
      lines-one s h c (All-head (λ byte. 44 < byte) c xs all) after_cr line (xs ++ 44 ∷ rest)
      ∙ lines-run (44 ∷ rest) xs (All-tail (λ byte. 44 < byte) c xs all) line
      ∙ lines-comma st.InField (plain state.InField refl) rest false line

  end-field : (xs : List ℕ) → All (λ byte. 44 < byte) xs → state_after s (xs ++ 44 ∷ rest) ≡ state_after st.StartField rest
  end-field [] all = end-comma s h rest
  end-field (c ∷ xs) all =
      end-one s h c (All-head (λ byte. 44 < byte) c xs all) (xs ++ 44 ∷ rest)
      ∙ end-run (44 ∷ rest) xs (All-tail (λ byte. 44 < byte) c xs all)
      ∙ end-comma st.InField (plain state.InField refl) rest

pub takes_field : (old new : RecordParser) → is_plain old.state ≡ true → (was now : Fields) (field : List ℕ) → All (λ byte. 44 < byte) field
    → TookField old new was now field → GoesOn old new was now (field ++ 44 ∷ [])
takes_field old new is was now field all t = record {
  next = λ rest.
      ap (next_of old was) (append_assoc field (44 ∷ []) rest)
      ∙ ap (λ (p : List ℕ). next_record default_config (csv_state old.state) was p (field ++ 44 ∷ rest)) t.none_before
      ∙ next-field (csv_state old.state) (plain old.state is) rest field all was
      ∙ (λ i. next_record default_config (csv_state (sym t.state i)) (sym t.fields i) (sym t.none_after i) rest);
  lines = λ rest.
      ap (lines_ahead old) (append_assoc field (44 ∷ []) rest)
      ∙ lines_old old new is (field ++ 44 ∷ rest)
      ∙ ap (λ (lines : List ℕ). old.began ∷ lines) (lines-field (csv_state old.state) (plain old.state is) rest field all old.after_cr old.line)
      ∙ (λ i. sym t.began i ∷ lines_from st.StartField (sym t.after_cr i) (sym t.line i) rest)
      ∙ sym (ap (λ (s : ParserState). (if is_inside s then new.began ∷ [] else []) ++ lines_from (csv_state s) new.after_cr new.line rest) t.state);
  end = λ rest.
      ap (end_state old) (append_assoc field (44 ∷ []) rest)
      ∙ end-field (csv_state old.state) (plain old.state is) rest field all
      ∙ ap (λ (s : ParserState). state_after (csv_state s) rest) (sym t.state);
}

-- the bytes of a field and of the comma after it
pub field_taken : (old new : RecordParser) → is_plain old.state ≡ true → (was now : Fields) (bytes : List ℕ) (run : ℕ) → run < length bytes
    → get_or bytes run 0 ≡ 44 → All (λ byte. 44 < byte) (take run bytes) → TookField old new was now (take run bytes) → TakesRun old new was now bytes (run + 1)
field_taken old new is was now bytes run lt comma all t =
    let by_one : run + 1 ≡ suc run = omega arith in
    let taken : take (run + 1) bytes ≡ take run bytes ++ 44 ∷ [] =
    ap (λ n. take n bytes) by_one ∙ take-suc bytes run 0 lt ∙ ap (λ (b : ℕ). take run bytes ++ b ∷ []) comma in
    subst (λ (xs : List ℕ). GoesOn old new was now xs) (sym taken) (takes_field old new is was now (take run bytes) all t)

pub no_bytes : (xs : List ℕ) → (length xs == 0) ≡ true → xs ≡ []
no_bytes [] none = refl
no_bytes (x ∷ xs) none = absurd (let zero_long = eqb-true (length (x ∷ xs)) 0 none in omega (arith, zero_long))
