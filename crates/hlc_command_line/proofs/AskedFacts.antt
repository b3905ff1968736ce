-- The questions of `--ask`.
use Rattle.std.proofs.Common.{◌≡◌, ◌≢◌, ◌∙◌, ◌+◌, ◌<◌, ◌||◌, ℕ, Bool, true, false, List, [], ◌∷◌, ◌++◌, Option, Some, None, Result, Ok, Err, ap, codes, get_or, inl, inr, length, refl, subst, sym, take}
use Rattle.std.specs.Prelude.{OnOk, bytes_eq, if◌then◌else◌, option_map, slice_get, unwrap_or}
use Rattle.std.specs.Borrow.{Bor}
use Rattle.std.proofs.lemmas.Slice.Eq.{bytes_eq-Decides}
use Rattle.std.proofs.lemmas.List.{map_push, take_more}
use Rattle.std.proofs.lemmas.Option.{slice_get-get_or, slice_get-map}
use Rattle.clap.specs.Matches.{matched_of, raw_values}
use Rattle.clap.specs.Walk.{Row, Text, rows_of, texts}
use Rattle.clap.specs.declared.parser.matches.Found.{Found}
use Rattle.clap.proofs.WalkLemmas.{raw_values-rows}
use Rattle.hlc_log_text.specs.Question.{Asked, IsQuestionText, plain_asked}
use Rattle.hlc_log_text.specs.declared.question.LogQuestion.{LogQuestion}
use Rattle.hlc_command_line.specs.Asked.{AreAsked, AreBeside, AskNeither, IsNeither, IsNoQuestion, IsUnasked, ask, asking, dash, say_more, texts_of_option}
use Rattle.hlc_command_line.specs.Line.{IsAuditMistake, IsMistakeOf, UnlessMemory}
use Rattle.hlc_command_line.specs.declared.line_fault.LineFault.{LineFault}
use Rattle.hlc_command_line.specs.declared.line_order.AskedBeside.{AskedBeside}
use Rattle.hlc_command_line.specs.declared.line_fault.LineFault.TheVariants as fault

-- one question more
pub asked_push : (given : List Text) (questions : List LogQuestion) (text : Text) (question : LogQuestion) → AreAsked given questions
    → IsQuestionText text (plain_asked question) → AreAsked (given ++ text ∷ []) (questions ++ question ∷ [])
asked_push [] [] text question are is = (is, tt)
asked_push [] (q ∷ qs) text question are is = absurd are
asked_push (t ∷ ts) [] text question are is = absurd are
asked_push (t ∷ ts) (q ∷ qs) text question are is = (are.0, asked_push ts qs text question are.1 is)

-- a text that says that questions follow asks nothing more
asking_dash : (given : List Text) (text : Text) → bytes_eq text dash ≡ true → asking (given ++ text ∷ []) ≡ asking given
asking_dash [] text is = rw is
asking_dash (t ∷ given) text is = ap (λ (ts : List Text). if bytes_eq t dash then ts else t ∷ ts) (asking_dash given text is)

say_after : (b c : Bool) → c ≡ true → (b || c) ≡ true
say_after true c is = refl
say_after false c is = is

say_dash : (given : List Text) (text : Text) → bytes_eq text dash ≡ true → say_more (given ++ text ∷ []) ≡ true
say_dash [] text is = rw is
say_dash (t ∷ given) text is = say_after (bytes_eq t dash) (say_more (given ++ text ∷ [])) (say_dash given text is)

-- any other one asks, and says nothing of that
asking_if : (b : Bool) (t text : Text) (ts : List Text)
    → (if b then ts ++ text ∷ [] else t ∷ (ts ++ text ∷ [])) ≡ (if b then ts else t ∷ ts) ++ text ∷ []
asking_if true t text ts = refl
asking_if false t text ts = refl

asking_text : (given : List Text) (text : Text) → bytes_eq text dash ≡ false → asking (given ++ text ∷ []) ≡ asking given ++ text ∷ []
asking_text [] text is = rw is
asking_text (t ∷ given) text is =
    ap (λ (ts : List Text). if bytes_eq t dash then ts else t ∷ ts) (asking_text given text is) ∙ asking_if (bytes_eq t dash) t text (asking given)

say_text : (given : List Text) (text : Text) → bytes_eq text dash ≡ false → say_more (given ++ text ∷ []) ≡ say_more given
say_text [] text is = rw is
say_text (t ∷ given) text is = ap (λ (b : Bool). bytes_eq t dash || b) (say_text given text is)

pub beside_dash : (before : List Text) (old new : AskedBeside) (text : Text) → bytes_eq text dash ≡ true
    → new.questions.items ≡ old.questions.items → new.questions_follow ≡ true → AreBeside before old → AreBeside (before ++ text ∷ []) new
beside_dash before old new text is same follow are = (
  subst (λ (ts : List Text). AreAsked ts new.questions.items) (sym (asking_dash before text is))
      (subst (λ (qs : List LogQuestion). AreAsked (asking before) qs) (sym same) are.0),
  follow ∙ sym (say_dash before text is),
)

pub beside_text : (before : List Text) (old new : AskedBeside) (text : Text) → bytes_eq text dash ≡ false
    → (AreAsked (asking before) old.questions.items → AreAsked (asking before ++ text ∷ []) new.questions.items)
    → new.questions_follow ≡ old.questions_follow → AreBeside before old → AreBeside (before ++ text ∷ []) new
beside_text before old new text is added same are = (
  subst (λ (ts : List Text). AreAsked ts new.questions.items) (sym (asking_text before text is)) (added are.0),
  same ∙ are.1 ∙ sym (say_text before text is),
)

-- a text that asks nothing is one of several
pub unasked_among : (given : List Text) (place : ℕ) (text : Text) (f : LineFault) → slice_get given place ≡ Some text → IsUnasked text f
    → IsNoQuestion given f
unasked_among given place text (fault.Line e) at is = absurd is
unasked_among given place text fault.Range at is = absurd is
unasked_among given place text fault.Forms at is = absurd is
unasked_among given place text fault.Unsent at is = absurd is
unasked_among given place text fault.Receives at is = absurd is
unasked_among given place text fault.Question at is = record { place = place; text = text; given = at; nothing = is }
unasked_among given place text fault.Output at is = absurd is
unasked_among given place text (fault.Sign option) at is = absurd is
unasked_among given place text (fault.Part m) at is = absurd is
unasked_among given place text (fault.Records m) at is = absurd is
unasked_among given place text fault.Memory at is = tt

pub neither_among : (given : List Text) (place : ℕ) (text : Text) (f : LineFault) → slice_get given place ≡ Some text → IsNeither text f
    → AskNeither given f
neither_among given place text (fault.Line e) at is = absurd is
neither_among given place text fault.Range at is = absurd is
neither_among given place text fault.Forms at is = absurd is
neither_among given place text fault.Unsent at is = absurd is
neither_among given place text fault.Receives at is = absurd is
neither_among given place text fault.Question at is = record {
  nothing = record { place = place; text = text; given = at; nothing = is.1 };
  other = is.0;
}
neither_among given place text fault.Output at is = absurd is
neither_among given place text (fault.Sign option) at is = absurd is
neither_among given place text (fault.Part m) at is = absurd is
neither_among given place text (fault.Records m) at is = absurd is
neither_among given place text fault.Memory at is = tt

pub unasked_neither : (text : Text) (f : LineFault) → bytes_eq text dash ≡ false → IsUnasked text f → IsNeither text f
unasked_neither text (fault.Line e) none is = absurd is
unasked_neither text fault.Range none is = absurd is
unasked_neither text fault.Forms none is = absurd is
unasked_neither text fault.Unsent none is = absurd is
unasked_neither text fault.Receives none is = absurd is
unasked_neither text fault.Question none is =
    ((λ same. let on = (bytes_eq-Decides text dash).1 same in cc), is)
unasked_neither text fault.Output none is = absurd is
unasked_neither text (fault.Sign option) none is = absurd is
unasked_neither text (fault.Part m) none is = absurd is
unasked_neither text (fault.Records m) none is = absurd is
unasked_neither text fault.Memory none is = tt

pub texts_more : (values : List (Bor Text)) (i : ℕ) (d : Bor Text) → i < length values
    → texts (take (i + 1) values) ≡ texts (take i values) ++ (get_or values i d).now ∷ []
texts_more values i d lt =
    ap texts (take_more values i d lt) ∙ map_push (λ (v : Bor Text). v.now) (take i values) (get_or values i d)

pub text_at : (values : List (Bor Text)) (i : ℕ) (d : Bor Text) (text : Text) → i < length values → text ≡ (get_or values i d).now
    → slice_get (texts values) i ≡ Some text
text_at values i d text lt is =
    slice_get-map (λ (v : Bor Text). v.now) values i ∙ ap (option_map (λ (v : Bor Text). v.now)) (slice_get-get_or values i d lt)
    ∙ ap (λ (t : Text). Some t) (sym is)

-- what isn't there asks nothing
pub none_asked : (found : Option LogQuestion) → ((q : LogQuestion) → ¬ (found ≡ Some q)) → (asked : Asked) → ¬ (option_map plain_asked found ≡ Some asked)
none_asked None none asked is = cc
none_asked (Some q) none asked is = absurd (none q refl)

-- `get_strs` gives the texts of all uses
pub texts_are : (f : Found) (name : Text) (r : Option (Bor (List (Bor Text)))) → option_map (λ s. texts s.now) r ≡ option_map raw_values (matched_of f name)
    → unwrap_or (option_map (λ s. texts s.now) r) [] ≡ texts_of_option (rows_of f) name
texts_are f name r e = ap (λ (o : Option (List Text)). unwrap_or o []) (e ∙ raw_values-rows f name)

-- what holds once something is done says what else does
pub on_done : {T E P Q : Type 0} (r : Result T E) → (P → Q) → OnOk r P → OnOk r Q
on_done (Ok done) step holds = step holds
on_done (Err e) step holds = tt

module _ (rows : List Row) where
  pub mistaken_options : (f : LineFault) → IsAuditMistake rows f → UnlessMemory (IsAuditMistake rows) f
  mistaken_options (fault.Line e) is = is
  mistaken_options fault.Range is = is
  mistaken_options fault.Forms is = is
  mistaken_options fault.Unsent is = is
  mistaken_options fault.Receives is = is
  mistaken_options fault.Question is = is
  mistaken_options fault.Output is = is
  mistaken_options (fault.Sign option) is = is
  mistaken_options (fault.Part m) is = is
  mistaken_options (fault.Records m) is = is
  mistaken_options fault.Memory is = tt

  pub mistaken_questions : (f : LineFault) → AskNeither (texts_of_option rows ask) f → UnlessMemory (IsAuditMistake rows) f
  mistaken_questions (fault.Line e) is = absurd is
  mistaken_questions fault.Range is = absurd is
  mistaken_questions fault.Forms is = absurd is
  mistaken_questions fault.Unsent is = absurd is
  mistaken_questions fault.Receives is = absurd is
  mistaken_questions fault.Question is = is
  mistaken_questions fault.Output is = absurd is
  mistaken_questions (fault.Sign option) is = absurd is
  mistaken_questions (fault.Part m) is = absurd is
  mistaken_questions (fault.Records m) is = absurd is
  mistaken_questions fault.Memory is = tt

  pub mistaken_audit : (name : Text) (f : LineFault) → name ≡ codes "audit" → UnlessMemory (IsAuditMistake rows) f → UnlessMemory (IsMistakeOf name rows) f
  mistaken_audit name (fault.Line e) named is = inr (inl (named, is))
  mistaken_audit name fault.Range named is = inr (inl (named, is))
  mistaken_audit name fault.Forms named is = inr (inl (named, is))
  mistaken_audit name fault.Unsent named is = inr (inl (named, is))
  mistaken_audit name fault.Receives named is = inr (inl (named, is))
  mistaken_audit name fault.Question named is = inr (inl (named, is))
  mistaken_audit name fault.Output named is = inr (inl (named, is))
  mistaken_audit name (fault.Sign option) named is = absurd is
  mistaken_audit name (fault.Part m) named is = inr (inl (named, is))
  mistaken_audit name (fault.Records m) named is = inr (inl (named, is))
  mistaken_audit name fault.Memory named is = tt
