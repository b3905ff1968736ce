-- The questions that `--ask` is given.
use Rattle.std.specs.Prelude.{◌≡◌, ◌≢◌, ◌||◌, ⊤, ℕ, Bool, false, List, [], ◌∷◌, Some, bytes_eq, codes, if◌then◌else◌, slice_get, unwrap_or}
use Rattle.clap.specs.Words.{Row, Text, all_of}
use Rattle.hlc_log_text.specs.Question.{Asked, IsQuestionText, plain_asked}
use Rattle.hlc_log_text.specs.declared.question.LogQuestion.{LogQuestion}
use Rattle.hlc_command_line.specs.declared.line_order.AskedBeside.{AskedBeside}
use Rattle.hlc_command_line.specs.declared.line_fault.LineFault.{LineFault}
use Rattle.hlc_command_line.specs.declared.line_fault.LineFault.TheVariants as fault

abbrev pub ask : Text
ask = codes "ask"

-- the texts of an option that may be given more than once, in their order
abbrev pub texts_of_option : List Row → Text → List Text
texts_of_option rows name = unwrap_or (all_of name rows) []

-- the questions are those that the texts ask, in their order
abbrev pub AreAsked : List Text → List LogQuestion → Type 0
AreAsked [] [] = ⊤
AreAsked (text ∷ texts) (question ∷ questions) = IsQuestionText text (plain_asked question) × AreAsked texts questions
AreAsked _ _ = ⊥

-- a text says that questions follow the log: it asks none itself
abbrev pub dash : Text
dash = codes "-"

-- the texts that ask: all others
abbrev pub asking : List Text → List Text
asking [] = []
asking (text ∷ texts) = if bytes_eq text dash then asking texts else text ∷ asking texts

-- whether one of the texts says that questions follow the log
abbrev pub say_more : List Text → Bool
say_more [] = false
say_more (text ∷ texts) = bytes_eq text dash || say_more texts

-- what is asked beside a log is what texts ask, and questions follow the log just if one of them says so
abbrev pub AreBeside : List Text → AskedBeside → Type 0
AreBeside texts asked = AreAsked (asking texts) asked.questions.items × (asked.questions_follow ≡ say_more texts)

-- a text asks nothing
abbrev pub AsksNone : Text → Type 0
AsksNone text = (asked : Asked) → ¬ IsQuestionText text asked

-- the fault is that a text asks nothing, or that memory was refused
abbrev pub IsUnasked : Text → LineFault → Type 0
IsUnasked text fault.Question = AsksNone text
IsUnasked text fault.Memory = ⊤
IsUnasked text _ = ⊥

-- the fault is that a text asks nothing, and doesn't say that questions follow the log, or that memory was refused
abbrev pub IsNeither : Text → LineFault → Type 0
IsNeither text fault.Question = (text ≢ dash) × AsksNone text
IsNeither text fault.Memory = ⊤
IsNeither text _ = ⊥

-- one of the texts asks nothing
pub record AsksNothing (texts : List Text) : Type 0 where
  pub place : ℕ
  pub text : Text
  pub given : slice_get texts place ≡ Some text
  pub nothing : (asked : Asked) → ¬ IsQuestionText text asked

-- the fault is that one of the texts asks nothing, or that memory was refused
abbrev pub IsNoQuestion : List Text → LineFault → Type 0
IsNoQuestion texts fault.Question = AsksNothing texts
IsNoQuestion texts fault.Memory = ⊤
IsNoQuestion texts _ = ⊥

-- one of the texts asks nothing, and doesn't say that questions follow the log
pub record AsksNeither (texts : List Text) : Type 0 where
  pub nothing : AsksNothing texts
  pub other : nothing.text ≢ dash

-- the fault is that one of the texts asks nothing, and doesn't say that questions follow the log, or that memory was refused
abbrev pub AskNeither : List Text → LineFault → Type 0
AskNeither texts fault.Question = AsksNeither texts
AskNeither texts fault.Memory = ⊤
AskNeither texts _ = ⊥
