-- How columns are named, and what of a log is as its records tell it.
use Rattle.std.specs.Prelude.{◌≡◌, ◌≢◌, All, IfSome, List, [], Some, map}
use Rattle.hlc_log_text.specs.declared.log_column.LogColumn.{LogColumn}
use Rattle.hlc_log_text.specs.Columns.{all_columns_in_place, columns_of}
use Rattle.hlc_log_text.specs.LogColumn.{all_columns, column_name, column_named}
use Rattle.hlc_log_text.specs.LogText.{IsLogOf, IsRawLogOf}
use Rattle.hlc_log_text.specs.ReadText.{ReadText}
use Rattle.hlc_log_text.specs.NamedEvent.{NamedEvent}

-- the column of a column's name is that column
abbrev pub NamesAreOfOneColumn : Type 0
NamesAreOfOneColumn = (column : LogColumn) → column_named (column_name column) ≡ Some column

-- a header that names all columns in their order names those of JSON lines
abbrev pub AllStandInOrder : Type 0
AllStandInOrder = columns_of (map column_name all_columns) ≡ all_columns_in_place

-- the message of an event has a name, if it has a message
abbrev pub HasNamedMessage : NamedEvent → Type 0
HasNamedMessage event = IfSome event.message (λ name. name ≢ [])

-- a log in which each message has a name is as it was read: none is told apart
abbrev pub NamedLogsAreAsRead : Type 0
NamedLogsAreAsRead = (events : List NamedEvent) (text : ReadText) → IsLogOf events text → All HasNamedMessage events → IsRawLogOf events text
