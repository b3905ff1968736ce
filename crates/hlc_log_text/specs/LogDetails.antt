-- What a log tells beside its events.
use Rattle.std.specs.Prelude.{ℕ, List, Option}
use Rattle.hlc_log_text.specs.declared.bad_log.BadLine.{BadLine}
use Rattle.hlc_log_text.specs.declared.file_mark.FileMark.{FileMark}
use Rattle.hlc_log_text.specs.declared.question.LogQuestion.{LogQuestion}
use Rattle.hlc_log_text.specs.declared.skipped.Skipped.{Skipped}

-- the files in which the records of a log stand, the names of its nodes by their numbers, the labels of its events by their places, what is asked of it,
-- which records were left out before it was read, if some were, and those that are bad and were left out
pub record ToldDetails : Type 0 where
  pub files : List FileMark
  pub nodes : List (List ℕ)
  pub labels : List (ℕ × List ℕ)
  pub questions : List LogQuestion
  pub skipped : Option Skipped
  pub left_out : List BadLine
