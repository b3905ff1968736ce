-- Records are read one after the other.
use Rattle.std.proofs.Common.{◌≡◌, ◌∙◌, ◌==◌, ℕ, Bool, true, false, if◌then◌else◌, List, [], ◌∷◌, ◌++◌, Option, Some, None, ap, append_assoc, refl, sym, subst}
use Rattle.std.specs.Prelude.{not, option_map}
use Rattle.std.specs.Io.Buffered.{reader_buffer, reader_capacity, reader_inner, reader_remaining}
use Rattle.std.specs.Io.KnownBytes.{Keeps, prepend_known}
use Rattle.std.specs.declared.io.buffered.BufReader.{BufReader}
use Rattle.std.proofs.lemmas.List.{append-nil}
use Rattle.csv.specs.Machine.{Read, next_record}
use Rattle.csv.specs.Reading.{Reached, default_config, strip_bom}
use Rattle.csv.specs.declared.parser.State.{State}
use Rattle.csv.specs.declared.parser.State.TheVariants as st
use Rattle.csv.proofs.ReadFacts.{reached-more}
use Rattle.hlc_csv.specs.Rows.{Fields}
use Rattle.hlc_csv.specs.ParserState.{csv_state, is_inside, is_quoted}
use Rattle.hlc_csv.specs.RecordLines.{is_between, lines_from, record_lines}
use Rattle.hlc_csv.specs.RecordParser.{EndsLast, EndsText, IsAtStart, Moves, MovesToEnd, OfKnown, end_state, lines_ahead, next_of}
use Rattle.hlc_csv.specs.RecordReader.{AreAll, AreAllOpen, AreFirst, HasReadTo, IsReadTo, ReadsOne, ReadsRecord, left_of}
use Rattle.hlc_csv.specs.TextEnd.{IsOpen, state_after}
use Rattle.hlc_csv.specs.Turn.{NoneLeft}
use Rattle.hlc_csv.specs.declared.found_record.FoundRecord.{FoundRecord}
use Rattle.hlc_csv.specs.declared.parser_state.ParserState.{ParserState}
use Rattle.hlc_csv.specs.declared.parser_state.ParserState.TheVariants as state
use Rattle.hlc_csv.specs.declared.record_parser.RecordParser.{RecordParser}
use Rattle.hlc_csv.specs.declared.record_reader.RecordReader.{RecordReader}
use Rattle.hlc_csv.proofs.EndFacts.{none_ends, same_end}

-- turns after one another
pub moves_nowhere : (a : RecordParser) (f : Fields) (left : Option (List ℕ)) → OfKnown (Moves a a f f) left left
moves_nowhere a f None = tt
moves_nowhere a f (Some xs) = record { next = refl; lines = refl; end = refl }

module _ (a b c : RecordParser) (was mid now : Fields) where
  pub moves_further : (x y z : Option (List ℕ)) → OfKnown (Moves a b was mid) x y → OfKnown (Moves b c mid now) y z → OfKnown (Moves a c was now) x z
  moves_further None y z h g = tt
  moves_further (Some xs) None z h g = absurd h
  moves_further (Some xs) (Some ys) None h g = absurd g
  moves_further (Some xs) (Some ys) (Some zs) h g = record { next = h.next ∙ g.next; lines = h.lines ∙ g.lines; end = h.end ∙ g.end }

  pub moves_on_to_end : (x y z : Option (List ℕ)) → OfKnown (Moves a b was mid) x y → OfKnown (MovesToEnd b c mid now) y z
      → OfKnown (MovesToEnd a c was now) x z
  moves_on_to_end None y z h g = tt
  moves_on_to_end (Some xs) None z h g = absurd h
  moves_on_to_end (Some xs) (Some ys) None h g = absurd g
  moves_on_to_end (Some xs) (Some ys) (Some zs) h g = record { next = h.next ∙ g.next; lines = h.lines ∙ g.lines; end = h.end ∙ g.end }

-- nothing was read of a text
pub is_read_to-start : (text : List ℕ) (parser : RecordParser) → IsAtStart parser → IsReadTo text [] [] parser (strip_bom text)
unfolding Reached
is_read_to-start text parser start =
    let at : csv_state parser.state ≡ st.StartRecord = ap csv_state start.state in
    record {
      reached = (sym at, refl);
      on_lines =
          sym (ap (λ (s : ParserState). (if not (is_between (csv_state s)) then parser.began ∷ [] else []) ++ lines_from (csv_state s) parser.after_cr parser.line (strip_bom text)) start.state
          ∙ (λ i. lines_from st.StartRecord (start.after_cr i) (start.line i) (strip_bom text)));
      ends_open = λ is. ap (λ (s : State). state_after s (strip_bom text)) at ∙ is;
      is_open = λ is. ap (λ (s : State). state_after s (strip_bom text)) (sym at) ∙ is;
      between = ap is_inside start.state;
      none_kept = start.none_kept;
    }

-- the records so far are the first ones, and if they are all, the text is closed
module _ (text : List ℕ) (records : List Fields) (lines : List ℕ) (parser : RecordParser) (rest : List ℕ) (h : IsReadTo text records lines parser rest) where
  not_quoted : (s : State) → is_between s ≡ true → s ≡ st.InQuoted → ⊥
  not_quoted s between is = (let bad : true ≡ false = sym between ∙ ap is_between is in cc bad)

  is_between_now : is_between (csv_state parser.state) ≡ true
  is_between_now = by (is_between (csv_state parser.state)) h.between where
    by : (b : Bool) → not b ≡ false → b ≡ true
    by true is = refl
    by false is = absurd (cc is)

  pub none_more : next_record default_config (csv_state parser.state) [] [] rest ≡ None → IsOpen text → ⊥
  none_more none is = not_quoted (end_state parser rest) (none_ends (csv_state parser.state) is_between_now rest none) (h.ends_open is)

  pub are_first : AreFirst (Some text) records lines
  are_first = record {
    begins = (csv_state parser.state, rest, h.reached);
    closed = λ end.
        none_more (same_end st.StartRecord (strip_bom text) records (csv_state parser.state) end.0.0 rest end.0.1 h.reached end.0.2 end.0.3) end.1;
    on_lines = (lines_ahead parser rest, h.on_lines);
  }

-- one more
module _ (text : List ℕ) (records : List Fields) (lines : List ℕ) (a : RecordParser) (rest : List ℕ) (h : IsReadTo text records lines a rest) (now : Fields) where
  next_is : (o : Option Read) → next_of a [] rest ≡ o → next_record default_config (csv_state a.state) [] [] rest ≡ o
  next_is o is = ap (λ (p : List ℕ). next_record default_config (csv_state a.state) [] p rest) (sym h.none_kept) ∙ is

  pub is_read_to-more : (b : RecordParser) (ys : List ℕ) → MovesToEnd a b [] now rest ys → is_inside b.state ≡ false → b.field.items ≡ []
      → IsReadTo text (records ++ now ∷ []) (lines ++ b.began ∷ []) b ys
  is_read_to-more b ys m between none = record {
    reached =
        reached-more default_config st.StartRecord (csv_state a.state) (strip_bom text) rest records (now, csv_state b.state, ys) h.reached
        (next_is (Some (now, csv_state b.state, ys)) m.next);
    on_lines = h.on_lines ∙ ap (λ (more : List ℕ). lines ++ more) m.lines ∙ sym (append_assoc lines (b.began ∷ []) (lines_ahead b ys));
    ends_open = λ is. sym m.end ∙ h.ends_open is;
    is_open = λ is. h.is_open (m.end ∙ is);
    between = between;
    none_kept = none;
  }

  module _ (b : RecordParser) (mid : Fields) (m : Moves a b [] mid rest []) where
    -- no record is under way
    pub are_all : is_inside b.state ≡ false → AreAll (Some text) records lines
    unfolding next_record
    are_all between =
        let none : next_of a [] rest ≡ None = m.next ∙ none_at_end b.state between in
        record {
          all = (csv_state a.state, rest, h.reached, next_is None none);
          closed = none_more text records lines a rest h (next_is None none);
          on_lines = h.on_lines ∙ ap (λ (more : List ℕ). lines ++ more) (m.lines ∙ no_line between) ∙ append-nil lines;
        } where
          none_at_end : (s : ParserState) → is_inside s ≡ false → next_record default_config (csv_state s) mid b.field.items [] ≡ None
          none_at_end state.StartRecord between = refl
          none_at_end state.AfterCr between = refl
          none_at_end state.StartField between = absurd (cc between)
          none_at_end state.InField between = absurd (cc between)
          none_at_end state.InQuoted between = absurd (cc between)
          none_at_end state.AfterQuote between = absurd (cc between)

          no_line : is_inside b.state ≡ false → lines_ahead b [] ≡ []
          no_line between = rw between refl

    module _ (c : RecordParser) (found : FoundRecord) (e : EndsLast b c mid now found) where
      reached : Reached default_config st.StartRecord (strip_bom text) (records ++ now ∷ []) st.StartRecord []
      reached =
          reached-more default_config st.StartRecord (csv_state a.state) (strip_bom text) rest records (now, st.StartRecord, []) h.reached
          (next_is (Some (now, st.StartRecord, [])) (m.next ∙ e.next))

      at : csv_state c.state ≡ st.StartRecord
      at = ap csv_state e.state

      last_line : record_lines text ≡ lines ++ found.line ∷ []
      last_line = h.on_lines ∙ ap (λ (more : List ℕ). lines ++ more) (m.lines ∙ e.lines)

      quoted : (s : ParserState) → csv_state s ≡ st.InQuoted → is_quoted s ≡ true
      quoted state.StartRecord is = absurd (cc is)
      quoted state.AfterCr is = absurd (cc is)
      quoted state.StartField is = absurd (cc is)
      quoted state.InField is = absurd (cc is)
      quoted state.InQuoted is = refl
      quoted state.AfterQuote is = absurd (cc is)

      is_in_quotes : (s : ParserState) → is_quoted s ≡ true → csv_state s ≡ st.InQuoted
      is_in_quotes state.StartRecord is = absurd (cc is)
      is_in_quotes state.AfterCr is = absurd (cc is)
      is_in_quotes state.StartField is = absurd (cc is)
      is_in_quotes state.InField is = absurd (cc is)
      is_in_quotes state.InQuoted is = refl
      is_in_quotes state.AfterQuote is = absurd (cc is)

      -- the last record is closed
      pub is_read_to-last : found.is_open ≡ false → IsReadTo text (records ++ now ∷ []) (lines ++ found.line ∷ []) c []
      is_read_to-last closed = record {
        reached = subst (λ (s : State). Reached default_config st.StartRecord (strip_bom text) (records ++ now ∷ []) s []) (sym at) reached;
        on_lines =
            last_line ∙ sym (append-nil (lines ++ found.line ∷ []))
            ∙ ap (λ (more : List ℕ). (lines ++ found.line ∷ []) ++ more) (sym (ap (λ (s : ParserState). (if is_inside s then c.began ∷ [] else []) ++ []) e.state));
        ends_open = λ is. absurd (let bad : false ≡ true = sym closed ∙ e.is_open ∙ quoted b.state (sym m.end ∙ h.ends_open is) in cc bad);
        is_open = λ is. absurd (let bad : ◌≡◌ {A = State} st.StartRecord st.InQuoted = sym at ∙ is in cc bad);
        between = ap is_inside e.state;
        none_kept = e.none_kept;
      }

      -- it is open
      pub are_all_open : found.is_open ≡ true → AreAllOpen (Some text) (records ++ now ∷ []) (lines ++ found.line ∷ [])
      unfolding next_record
      are_all_open open_ = record {
        ends = ((st.StartRecord, [], reached, refl), h.is_open (m.end ∙ is_in_quotes b.state (sym e.is_open ∙ open_)));
        on_lines = last_line;
      }

-- an empty buffer has the bytes of its reader
pub buffered_none : {T A : Type 0} (rem : T → Option (List ℕ)) (r : BufReader T A) (inner : T) → reader_capacity r ≡ 8192 → reader_buffer r ≡ []
    → reader_inner r ≡ inner → reader_remaining rem r ≡ rem inner
buffered_none rem r inner capacity empty is =
    (λ i. if capacity i == 0 then None else prepend_known (empty i) (rem (is i))) ∙ by (rem inner) where
      by : (known : Option (List ℕ)) → prepend_known [] known ≡ known
      by None = refl
      by (Some xs) = refl

module _ {R : Type 0} (rem : R → Option (List ℕ)) where
  -- nothing was read
  pub has_read_to-start : (r : RecordReader R) (bytes left : Option (List ℕ)) → left_of rem r ≡ left → Keeps (option_map strip_bom bytes) left
      → IsAtStart r.parser → HasReadTo rem r bytes [] []
  has_read_to-start r None left is keeps start = tt
  has_read_to-start r (Some text) None is keeps start = absurd keeps
  has_read_to-start r (Some text) (Some ys) is keeps start =
      (strip_bom text, is ∙ ap (λ (ys : List ℕ). (let o : Option (List ℕ) = Some ys in o)) keeps, is_read_to-start text r.parser start)

  module _ (old new : RecordReader R) (fields : Fields) where
    found_first : (bytes : Option (List ℕ)) (records : List Fields) (lines : List ℕ) → HasReadTo rem new bytes records lines → AreFirst bytes records lines
    found_first None records lines h = record { begins = tt; closed = tt; on_lines = tt }
    found_first (Some text) records lines h = are_first text records lines new.parser h.0 h.2

    rest_is : (xs rest : List ℕ) → left_of rem old ≡ Some xs → left_of rem old ≡ Some rest → rest ≡ xs
    rest_is xs rest a b = (let both : ◌≡◌ {A = Option (List ℕ)} (Some rest) (Some xs) = sym b ∙ a in cc both)

    none_known : (rest : List ℕ) → left_of rem old ≡ None → left_of rem old ≡ Some rest → ⊥
    none_known rest a b = (let both : ◌≡◌ {A = Option (List ℕ)} (Some rest) None = sym b ∙ a in cc both)

    -- one more was read
    has_read_to-more : (x y : Option (List ℕ)) → left_of rem old ≡ x → left_of rem new ≡ y → OfKnown (MovesToEnd old.parser new.parser [] fields) x y
        → is_inside new.parser.state ≡ false → new.parser.field.items ≡ []
        → (bytes : Option (List ℕ)) (records : List Fields) (lines : List ℕ) → HasReadTo rem old bytes records lines
        → HasReadTo rem new bytes (records ++ fields ∷ []) (lines ++ new.parser.began ∷ [])
    has_read_to-more x y at_x at_y m between none None records lines h = tt
    has_read_to-more None y at_x at_y m between none (Some text) records lines h = absurd (none_known h.0 at_x h.1)
    has_read_to-more (Some xs) None at_x at_y m between none (Some text) records lines h = absurd m
    has_read_to-more (Some xs) (Some ys) at_x at_y m between none (Some text) records lines h = (
      ys,
      at_y,
      is_read_to-more text records lines old.parser xs
          (subst (λ (rest : List ℕ). IsReadTo text records lines old.parser rest) (rest_is xs h.0 at_x h.1) h.2) fields new.parser ys m between none,
    )

    pub reads_record : OfKnown (MovesToEnd old.parser new.parser [] fields) (left_of rem old) (left_of rem new) → is_inside new.parser.state ≡ false
        → new.parser.field.items ≡ [] → (bytes : Option (List ℕ)) (records : List Fields) (lines : List ℕ) → HasReadTo rem old bytes records lines
        → ReadsOne rem new bytes (records ++ fields ∷ []) (lines ++ new.parser.began ∷ []) false
    reads_record m between none bytes records lines h =
        let more = has_read_to-more (left_of rem old) (left_of rem new) refl refl m between none bytes records lines h in
        (more, found_first bytes (records ++ fields ∷ []) (lines ++ new.parser.began ∷ []) more)

    -- the text ends
    module _ (b : RecordParser) (mid : Fields) (x y z : Option (List ℕ)) (at_x : left_of rem old ≡ x) (at_z : left_of rem new ≡ z)
        (m : OfKnown (Moves old.parser b [] mid) x y) (left : OfKnown NoneLeft y z) where
      record Ended (text : List ℕ) (records : List Fields) (lines : List ℕ) : Type 0 where
        before : List ℕ
        to : IsReadTo text records lines old.parser before
        moves : Moves old.parser b [] mid before []
        none : left_of rem new ≡ Some []

      ended : (text : List ℕ) (records : List Fields) (lines : List ℕ) → HasReadTo rem old (Some text) records lines → Ended text records lines
      ended text records lines h = by x y z at_x at_z m left where
        by : (x y z : Option (List ℕ)) → left_of rem old ≡ x → left_of rem new ≡ z → OfKnown (Moves old.parser b [] mid) x y → OfKnown NoneLeft y z
            → Ended text records lines
        by None y z at_x at_z m left = absurd (none_known h.0 at_x h.1)
        by (Some xs) None z at_x at_z m left = absurd m
        by (Some xs) (Some ys) None at_x at_z m left = absurd left
        by (Some xs) (Some ys) (Some zs) at_x at_z m left = record {
          before = xs;
          to = subst (λ (rest : List ℕ). IsReadTo text records lines old.parser rest) (rest_is xs h.0 at_x h.1) h.2;
          moves = subst (λ (ys : List ℕ). Moves old.parser b [] mid xs ys) left.0 m;
          none = at_z ∙ ap (λ (zs : List ℕ). (let o : Option (List ℕ) = Some zs in o)) left.1;
        }

      pub reads_none : is_inside b.state ≡ false → (bytes : Option (List ℕ)) (records : List Fields) (lines : List ℕ)
          → HasReadTo rem old bytes records lines → AreAll bytes records lines
      reads_none between None records lines h = record { all = tt; closed = tt; on_lines = tt }
      reads_none between (Some text) records lines h =
          let e = ended text records lines h in
          are_all text records lines old.parser e.before e.to mid b mid e.moves between

      reads_by : (found : FoundRecord) → EndsLast b new.parser mid fields found → (is_open : Bool) → found.is_open ≡ is_open
          → (bytes : Option (List ℕ)) (records : List Fields) (lines : List ℕ) → HasReadTo rem old bytes records lines
          → ReadsOne rem new bytes (records ++ fields ∷ []) (lines ++ found.line ∷ []) is_open
      reads_by found last false is None records lines h = (tt, record { begins = tt; closed = tt; on_lines = tt })
      reads_by found last true is None records lines h = record { ends = tt; on_lines = tt }
      reads_by found last false is (Some text) records lines h =
          let e = ended text records lines h in
          let to = is_read_to-last text records lines old.parser e.before e.to fields b mid e.moves new.parser found last is in
          (([], e.none, to), are_first text (records ++ fields ∷ []) (lines ++ found.line ∷ []) new.parser [] to)
      reads_by found last true is (Some text) records lines h =
          let e = ended text records lines h in
          are_all_open text records lines old.parser e.before e.to fields b mid e.moves new.parser found last is

      pub reads_last : (found : Option FoundRecord) → EndsText b new.parser mid fields found → ReadsRecord rem old new fields found
      reads_last None ends = reads_none ends.0
      reads_last (Some found) ends = reads_by found ends found.is_open refl
