-- What follows a log in an input: questions, below a line that says so.
use Rattle.std.specs.Prelude.{◌≡◌, ◌||◌, ◌+◌, ⊤, ℕ, Bool, true, false, List, [], ◌∷◌, ◌++◌, Option, None, Some, bytes_eq, codes, filter, if◌then◌else◌, not, option_map, slice_get}
use Rattle.std.specs.List.{concat}
use Rattle.hlc_csv.specs.declared.records_fault.RecordsFault.TheVariants as records
use Rattle.hlc_json_lines.specs.EventRow.{is_blank}
use Rattle.hlc_json_lines.specs.Lines.{lines_of}
use Rattle.hlc_log_text.specs.declared.question.LogQuestion.{LogQuestion}
use Rattle.hlc_command_line.specs.Asked.{AreAsked, AsksNone}
use Rattle.hlc_command_line.specs.declared.command_fault.CommandFault.{CommandFault}
use Rattle.hlc_command_line.specs.declared.command_fault.CommandFault.TheVariants as stop

-- the line below which questions stand
abbrev pub marker : List ℕ
marker = codes "==> questions <=="

-- whether a line is that one: with a line feed, or without one at the end of a text
abbrev pub is_marker : List ℕ → Bool
is_marker line = bytes_eq line (marker ++ 10 ∷ []) || bytes_eq line marker

-- the lines above the first such one, that one, and those below it
abbrev pub lines_above : List (List ℕ) → List (List ℕ)
lines_above [] = []
lines_above (line ∷ lines) = if is_marker line then [] else line ∷ lines_above lines

abbrev pub marker_in : List (List ℕ) → List ℕ
marker_in [] = []
marker_in (line ∷ lines) = if is_marker line then line else marker_in lines

abbrev pub lines_below : List (List ℕ) → List (List ℕ)
lines_below [] = []
lines_below (line ∷ lines) = if is_marker line then lines else lines_below lines

-- the part of an input that is the log, and the one in which questions follow
abbrev pub log_part : List ℕ → List ℕ
log_part input = concat (lines_above (lines_of input))

abbrev pub questions_part : List ℕ → List ℕ
questions_part input = concat (lines_below (lines_of input))

-- each input is its log, the line that says that questions follow, and these; without such a line all of it is the log
pub record AreParts : Type 0 where
  pub whole : (input : List ℕ) → log_part input ++ (marker_in (lines_of input) ++ questions_part input) ≡ input
  pub alone : (input : List ℕ) → marker_in (lines_of input) ≡ [] → (log_part input ≡ input) × (questions_part input ≡ [])

-- the lines that ask: those that aren't blank
abbrev pub asking_lines : List (List ℕ) → List (List ℕ)
asking_lines lines = filter (λ line. not (is_blank line)) lines

-- to some questions those are added that lines ask
abbrev pub AreAdded : (lines : List (List ℕ)) → (before after : List LogQuestion) → Type 0
AreAdded lines before after = (further : List LogQuestion) × (after ≡ before ++ further) × AreAsked (asking_lines lines) further

-- a line is to ask something, and asks nothing
abbrev pub IsMistaken : List ℕ → Type 0
IsMistaken line = (is_blank line ≡ false) × AsksNone line

-- so is the line of this number, counted from 1
abbrev pub IsMistakenAt : List (List ℕ) → (number : ℕ) → Type 0
IsMistakenAt lines number = (place : ℕ) × (line : List ℕ) × (number ≡ place + 1) × (slice_get lines place ≡ Some line) × IsMistaken line

-- adding what lines ask stops at one that is mistaken, or memory was refused
abbrev pub IsAddFault : (IsTold : (number : ℕ) → Type 0) → CommandFault → Type 0
IsAddFault IsTold (stop.NoQuestion line) = IsTold line
IsAddFault IsTold (stop.Records records.Memory) = ⊤
IsAddFault IsTold _ = ⊥

-- reading an input stops since a read failed, or memory was refused
abbrev pub IsReadFault : CommandFault → Type 0
IsReadFault (stop.Records records.Read) = ⊤
IsReadFault (stop.Records records.Memory) = ⊤
IsReadFault _ = ⊥

-- the log in an input, if that is known: all of the input, unless questions follow
abbrev pub log_in : (follow : Bool) → (input : Option (List ℕ)) → Option (List ℕ)
log_in follow input = if follow then option_map log_part input else input

-- these questions follow the log in an input, if that is known: none, unless questions follow
abbrev pub AreFurther : (follow : Bool) → (input : Option (List ℕ)) → List LogQuestion → Type 0
AreFurther false input further = further ≡ []
AreFurther true None further = ⊤
AreFurther true (Some bytes) further = AreAsked (asking_lines (lines_of (questions_part bytes))) further

-- this is the log in an input, if that is known
abbrev pub IsLogIn : (follow : Bool) → (input log : Option (List ℕ)) → Type 0
IsLogIn false input log = log ≡ input
IsLogIn true None log = ⊤
IsLogIn true (Some bytes) log = log ≡ Some (log_part bytes)

-- what is said of a log holds of the one in an input
pub record HoldsOf (follow : Bool) (input : Option (List ℕ)) (Holds : Option (List ℕ) → Type 0) : Type 0 where
  pub log : Option (List ℕ)
  pub is_log : IsLogIn follow input log
  pub holds : Holds log

-- what is said of questions and of a log holds of these questions with those that follow the log in an input, and of that log
pub record HoldFor (questions : List LogQuestion) (follow : Bool) (input : Option (List ℕ)) (Hold : List LogQuestion → Option (List ℕ) → Type 0)
    : Type 0 where
  pub further : List LogQuestion
  pub log : Option (List ℕ)
  pub is_log : IsLogIn follow input log
  pub are_further : AreFurther follow input further
  pub hold : Hold (questions ++ further) log

-- of the lines that follow a log in an input, if that is known, the one of this number is mistaken
abbrev pub IsMistakenIn : (input : Option (List ℕ)) → (number : ℕ) → Type 0
IsMistakenIn None number = ⊤
IsMistakenIn (Some bytes) number = IsMistakenAt (lines_of (questions_part bytes)) number

-- a fault is one of the questions that follow a log
abbrev pub IsOfQuestions : CommandFault → Type 0
IsOfQuestions (stop.NoQuestion line) = ⊤
IsOfQuestions _ = ⊥

-- if the fault is that a line that follows a log asks nothing, questions follow, and this line is mistaken
abbrev pub IsQuestionTold : (follow : Bool) → (input : Option (List ℕ)) → CommandFault → Type 0
IsQuestionTold follow input (stop.NoQuestion line) = (follow ≡ true) × IsMistakenIn input line
IsQuestionTold follow input _ = ⊤
