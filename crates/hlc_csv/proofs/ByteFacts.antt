-- What a byte does to a record, and to the lines.
use Rattle.std.proofs.Common.{◌≡◌, ◌∙◌, ℕ, Bool, true, false, ◌==◌, ◌&&◌, ◌||◌, if◌then◌else◌, List, [], ◌∷◌, ◌++◌, Option, Some, ap, refl, sym, append_assoc}
use Rattle.std.specs.Prelude.{not}
use Rattle.std.proofs.lemmas.Bool.{cond-false, cond-true}
use Rattle.csv.specs.Machine.{Read, field_after, fields_after, in_field, is_end, next_record, start_field, start_record, step}
use Rattle.csv.specs.Reading.{default_config}
use Rattle.csv.specs.declared.parser.Action.{Action}
use Rattle.csv.specs.declared.parser.Action.TheVariants as act
use Rattle.csv.specs.declared.parser.State.{State}
use Rattle.csv.specs.declared.parser.State.TheVariants as st
use Rattle.hlc_csv.specs.Rows.{Fields}
use Rattle.hlc_csv.specs.ParserState.{csv_action, csv_state, csv_step, is_inside}
use Rattle.hlc_csv.specs.RecordLines.{begins_record, is_between, line_after, lines_from}
use Rattle.hlc_csv.specs.RecordParser.{EndsRecord, GoesOn, TakesByte}
use Rattle.hlc_csv.specs.TextEnd.{state_after}
use Rattle.hlc_csv.specs.declared.parser_state.ParserAction.{ParserAction}
use Rattle.hlc_csv.specs.declared.parser_state.ParserState.{ParserState}
use Rattle.hlc_csv.specs.declared.parser_state.ParserState.TheVariants as state
use Rattle.hlc_csv.specs.declared.record_parser.RecordParser.{RecordParser}

-- a state within a record
abbrev pub IsWithin : State → Type 0
IsWithin st.StartRecord = ⊥
IsWithin st.StartField = Unit {0}
IsWithin st.InField = Unit {0}
IsWithin st.InQuoted = Unit {0}
IsWithin st.AfterQuote = Unit {0}
IsWithin st.InEscape = ⊥
IsWithin st.InComment = ⊥
IsWithin st.AfterCr = ⊥

-- a byte ends the record under way, or goes on with it
pub data Within (q : State × Action) : Type 0 where
  Ends : is_end q.1 ≡ true → is_between q.0 ≡ true → Within q
  Stays : is_end q.1 ≡ false → is_between q.0 ≡ false → IsWithin q.0 → Within q

-- between records it is passed over, or begins one
pub data Between (q : State × Action) (begins : Bool) : Type 0 where
  Passes : begins ≡ false → q ≡ (st.StartRecord, act.Skip) → Between q begins
  Begins : begins ≡ true → is_end q.1 ≡ false → is_between q.0 ≡ false → IsWithin q.0 → Between q begins

in_field_within : (c : ℕ) → Within (in_field default_config c)
in_field_within c = by (c == 44) (c == 13) (c == 10) where
  by : (comma cr lf : Bool)
      → Within (if comma then (st.StartField, act.EndField) else if cr || lf then (if cr then st.AfterCr else st.StartRecord, act.EndRecord) else (st.InField, act.Copy))
  by true cr lf = Stays refl refl tt
  by false true lf = Ends refl refl
  by false false true = Ends refl refl
  by false false false = Stays refl refl tt

start_field_within : (c : ℕ) → Within (start_field default_config c)
start_field_within c = by (c == 34) where
  by : (quote : Bool) → Within (if quote then (st.InQuoted, act.Skip) else in_field default_config c)
  by true = Stays refl refl tt
  by false = in_field_within c

in_quoted_within : (c : ℕ) → Within (step default_config st.InQuoted c)
in_quoted_within c = by (c == 34) where
  by : (quote : Bool) → Within (if quote then (st.AfterQuote, act.Skip) else (st.InQuoted, act.Copy))
  by true = Stays refl refl tt
  by false = Stays refl refl tt

after_quote_within : (c : ℕ) → Within (step default_config st.AfterQuote c)
after_quote_within c = by (c == 34) where
  by : (quote : Bool) → Within (if quote then (st.InQuoted, act.Copy) else in_field default_config c)
  by true = Stays refl refl tt
  by false = in_field_within c

-- no line ends where a record begins, so the byte is a comma, a quotation mark, or another
start_record_between : (c : ℕ) → Between (start_record default_config c) (not (c == 13) && not (c == 10))
start_record_between c = by (c == 13) (c == 10) (c == 34) (c == 44) where
  by : (cr lf quote comma : Bool)
      → Between (if cr || lf then (st.StartRecord, act.Skip) else if quote then (st.InQuoted, act.Skip) else if comma then (st.StartField, act.EndField)
      else if cr || lf then (if cr then st.AfterCr else st.StartRecord, act.EndRecord) else (st.InField, act.Copy)) (not cr && not lf)
  by true lf quote comma = Passes refl refl
  by false true quote comma = Passes refl refl
  by false false true comma = Begins refl refl refl tt
  by false false false true = Begins refl refl refl tt
  by false false false false = Begins refl refl refl tt

after_cr_between : (c : ℕ) → Between (step default_config st.AfterCr c) (not (c == 13) && not (c == 10))
after_cr_between c = by (c == 13) (c == 10) (c == 34) (c == 44) where
  by : (cr lf quote comma : Bool)
      → Between (if lf then (st.StartRecord, act.Skip) else if cr || lf then (st.StartRecord, act.Skip) else if quote then (st.InQuoted, act.Skip)
      else if comma then (st.StartField, act.EndField) else if cr || lf then (if cr then st.AfterCr else st.StartRecord, act.EndRecord) else (st.InField, act.Copy))
      (not cr && not lf)
  by true true quote comma = Passes refl refl
  by true false quote comma = Passes refl refl
  by false true quote comma = Passes refl refl
  by false false true comma = Begins refl refl refl tt
  by false false false true = Begins refl refl refl tt
  by false false false false = Begins refl refl refl tt

pub step_within : (s : State) (c : ℕ) → IsWithin s → Within (step default_config s c)
step_within st.StartRecord c h = absurd h
step_within st.StartField c h = start_field_within c
step_within st.InField c h = in_field_within c
step_within st.InQuoted c h = in_quoted_within c
step_within st.AfterQuote c h = after_quote_within c
step_within st.InEscape c h = absurd h
step_within st.InComment c h = absurd h
step_within st.AfterCr c h = absurd h

pub step_between : (s : State) (c : ℕ) → is_between s ≡ true → Between (step default_config s c) (not (c == 13) && not (c == 10))
step_between st.StartRecord c h = start_record_between c
step_between st.StartField c h = absurd (cc h)
step_between st.InField c h = absurd (cc h)
step_between st.InQuoted c h = absurd (cc h)
step_between st.AfterQuote c h = absurd (cc h)
step_between st.InEscape c h = absurd (cc h)
step_between st.InComment c h = absurd (cc h)
step_between st.AfterCr c h = after_cr_between c

-- the line of the record under way, if there is one
abbrev begun : State → ℕ → List ℕ
begun s line = if not (is_between s) then line ∷ [] else []

-- what a byte does to that line: it stays the record's, or it is the line of the record that begins; a record that ends has it
data Begun (s : State) (q : State × Action) (byte began line : ℕ) : Type 0 where
  Goes : is_end q.1 ≡ false → begun s began ++ (if begins_record s byte then line ∷ [] else []) ≡ begun q.0 (if begins_record s byte then line else began)
      → Begun s q byte began line
  Ended : is_end q.1 ≡ true → begun s began ++ (if begins_record s byte then line ∷ [] else []) ≡ (if begins_record s byte then line else began) ∷ []
      → is_between q.0 ≡ true → Begun s q byte began line

module _ (byte began line : ℕ) where
  begun_within : (s : State) (q : State × Action) → is_between s ≡ false → Within q → Begun s q byte began line
  begun_within s q inside (Ends end between) = Ended end (rw inside refl) between
  begun_within s q inside (Stays on within is) = Goes on (rw (inside, within) refl)

  begun_between : (s : State) (q : State × Action) → is_between s ≡ true → Between q (begins_record s byte) → Begun s q byte began line
  begun_between s q between (Passes none is) =
      Goes (ap (λ (q : State × Action). is_end q.1) is) (rw (none, between, ap (λ (q : State × Action). is_between q.0) is) refl)
  begun_between s q between (Begins one on within is) = Goes on (rw (one, between, within) refl)

  begun_by : (p : ParserState) → Begun (csv_state p) (step default_config (csv_state p) byte) byte began line
  begun_by state.StartRecord = begun_between st.StartRecord (step default_config st.StartRecord byte) refl (start_record_between byte)
  begun_by state.AfterCr = begun_between st.AfterCr (step default_config st.AfterCr byte) refl (after_cr_between byte)
  begun_by state.StartField = begun_within st.StartField (step default_config st.StartField byte) refl (start_field_within byte)
  begun_by state.InField = begun_within st.InField (step default_config st.InField byte) refl (in_field_within byte)
  begun_by state.InQuoted = begun_within st.InQuoted (step default_config st.InQuoted byte) refl (in_quoted_within byte)
  begun_by state.AfterQuote = begun_within st.AfterQuote (step default_config st.AfterQuote byte) refl (after_quote_within byte)

-- what a byte does to the record
module _ (s : State) (f : Fields) (p : List ℕ) (c : ℕ) where
  abbrev now : State × Action
  now = step default_config s c

  pub next-ends : (tail : List ℕ) → is_end now.1 ≡ true → next_record default_config s f p (c ∷ tail) ≡ Some (fields_after now.1 f p, now.0, tail)
  unfolding next_record
  next-ends tail e =
      cond-true (is_end now.1) (let o : Option Read = Some (fields_after now.1 f p, now.0, tail) in o)
      (next_record default_config now.0 (fields_after now.1 f p) (field_after now.1 c p) tail) e

  pub next-stays : (tail : List ℕ) → is_end now.1 ≡ false
      → next_record default_config s f p (c ∷ tail) ≡ next_record default_config now.0 (fields_after now.1 f p) (field_after now.1 c p) tail
  unfolding next_record
  next-stays tail e =
      cond-false (is_end now.1) (let o : Option Read = Some (fields_after now.1 f p, now.0, tail) in o)
      (next_record default_config now.0 (fields_after now.1 f p) (field_after now.1 c p) tail) e

-- a parser has taken a byte as csv's machine does
pub record Took (old new : RecordParser) (was now : Fields) (byte : ℕ) (action : ParserAction) : Type 0 where
  pub step : csv_step (new.state, action) ≡ step default_config (csv_state old.state) byte
  pub fields : now ≡ fields_after (csv_action action) was old.field.items
  pub field : new.field.items ≡ field_after (csv_action action) byte old.field.items
  pub line : new.line ≡ line_after old.after_cr old.line byte
  pub began : new.began ≡ (if begins_record (csv_state old.state) byte then old.line else old.began)
  pub after_cr : new.after_cr ≡ (byte == 13)

module _ (old new : RecordParser) (was now : Fields) (byte : ℕ) (action : ParserAction) (t : Took old new was now byte action) where
  abbrev s : State
  s = csv_state old.state

  abbrev q : State × Action
  q = step default_config s byte

  is_state : q.0 ≡ csv_state new.state
  is_state = ap (λ (q : State × Action). q.0) (sym t.step)

  is_action : q.1 ≡ csv_action action
  is_action = ap (λ (q : State × Action). q.1) (sym t.step)

  lines_after : (rest : List ℕ)
      → lines_from s old.after_cr old.line (byte ∷ rest)
      ≡ (if begins_record s byte then old.line ∷ [] else []) ++ lines_from (csv_state new.state) new.after_cr new.line rest
  lines_after rest =
      (λ i. (if begins_record s byte then old.line ∷ [] else []) ++ lines_from (is_state i) (sym t.after_cr i) (sym t.line i) rest)

  end_after : (rest : List ℕ) → state_after s (byte ∷ rest) ≡ state_after (csv_state new.state) rest
  end_after rest = ap (λ s. state_after s rest) is_state

  goes_on : is_end q.1 ≡ false
      → begun s old.began ++ (if begins_record s byte then old.line ∷ [] else []) ≡ begun q.0 (if begins_record s byte then old.line else old.began)
      → GoesOn old new was now (byte ∷ [])
  goes_on on begins = record {
    next = λ rest.
        next-stays s was old.field.items byte rest on
        ∙ (λ i. next_record default_config (is_state i) (fields_after (is_action i) was old.field.items) (field_after (is_action i) byte old.field.items) rest)
        ∙ (λ i. next_record default_config (csv_state new.state) (sym t.fields i) (sym t.field i) rest);
    lines = λ rest.
        ap (λ lines. begun s old.began ++ lines) (lines_after rest)
        ∙ sym (append_assoc (begun s old.began) (if begins_record s byte then old.line ∷ [] else []) (lines_from (csv_state new.state) new.after_cr new.line rest))
        ∙ ap (λ lines. lines ++ lines_from (csv_state new.state) new.after_cr new.line rest)
        (begins ∙ (λ i. begun (is_state i) (sym t.began i)));
    end = end_after;
  }

  ends : is_end q.1 ≡ true
      → begun s old.began ++ (if begins_record s byte then old.line ∷ [] else []) ≡ (if begins_record s byte then old.line else old.began) ∷ []
      → is_between q.0 ≡ true → field_after (csv_action action) byte old.field.items ≡ [] → EndsRecord old new was now (byte ∷ [])
  ends end begins between none = record {
    next = λ rest.
        next-ends s was old.field.items byte rest end
        ∙ (λ i. (let o : Option Read = Some (fields_after (is_action i) was old.field.items, is_state i, rest) in o))
        ∙ ap (λ (now : Fields). (let o : Option Read = Some (now, csv_state new.state, rest) in o)) (sym t.fields);
    lines = λ rest.
        ap (λ lines. begun s old.began ++ lines) (lines_after rest)
        ∙ sym (append_assoc (begun s old.began) (if begins_record s byte then old.line ∷ [] else []) (lines_from (csv_state new.state) new.after_cr new.line rest))
        ∙ ap (λ lines. lines ++ lines_from (csv_state new.state) new.after_cr new.line rest)
        (begins ∙ ap (λ (line : ℕ). line ∷ []) (sym t.began))
        ∙ ap (λ lines. new.began ∷ (lines ++ lines_from (csv_state new.state) new.after_cr new.line rest)) (sym none_begun);
    end = end_after;
    between = is_between_now;
    none_kept = t.field ∙ none;
  } where
    is_between_now : is_inside new.state ≡ false
    is_between_now = ap (λ (s : State). not (is_between s)) (sym is_state) ∙ ap not between

    none_begun : (if is_inside new.state then new.began ∷ [] else []) ≡ []
    none_begun = cond-false (is_inside new.state) (new.began ∷ []) [] is_between_now

  -- whether the byte ends the record
  pub takes_byte : TakesByte old new was now byte (is_end (csv_action action))
  takes_byte = by (begun_by byte old.began old.line old.state) where
    kept_none : (a : Action) → is_end a ≡ true → field_after a byte old.field.items ≡ []
    kept_none act.EndRecord e = refl
    kept_none act.EndField e = refl
    kept_none act.Skip e = absurd (let bad : false ≡ true = e in cc bad)
    kept_none act.Copy e = absurd (let bad : false ≡ true = e in cc bad)

    by : Begun s q byte old.began old.line → TakesByte old new was now byte (is_end (csv_action action))
    by (Goes on begins) = rw (← is_action, on) (goes_on on begins)
    by (Ended end begins between) =
        rw (← is_action, end) (ends end begins between (kept_none (csv_action action) (ap is_end (sym is_action) ∙ end)))
