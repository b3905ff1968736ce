-- The columns of logs.
use Rattle.std.specs.Prelude.{ℕ, List, [], ◌∷◌, Option, Some, None, bytes_eq, codes, if◌then◌else◌}
use Rattle.hlc_log_text.specs.declared.log_column.LogColumn.{LogColumn}
use Rattle.hlc_log_text.specs.declared.log_column.LogColumn.TheVariants as column

-- the name of a column
abbrev pub column_name : LogColumn → List ℕ
column_name column.Kind = codes "kind"
column_name column.Node = codes "node"
column_name column.Reading = codes "reading"
column_name column.L = codes "l"
column_name column.C = codes "c"
column_name column.Stamp = codes "stamp"
column_name column.Message = codes "message"
column_name column.From = codes "from"
column_name column.Carried = codes "carried"
column_name column.CarriedL = codes "carried_l"
column_name column.CarriedC = codes "carried_c"
column_name column.Seq = codes "seq"
column_name column.Label = codes "label"

-- the column of a name
abbrev pub column_named : List ℕ → Option LogColumn
column_named name =
    if bytes_eq name (codes "kind") then Some column.Kind
    else if bytes_eq name (codes "node") then Some column.Node
    else if bytes_eq name (codes "reading") then Some column.Reading
    else if bytes_eq name (codes "l") then Some column.L
    else if bytes_eq name (codes "c") then Some column.C
    else if bytes_eq name (codes "stamp") then Some column.Stamp
    else if bytes_eq name (codes "message") then Some column.Message
    else if bytes_eq name (codes "from") then Some column.From
    else if bytes_eq name (codes "carried") then Some column.Carried
    else if bytes_eq name (codes "carried_l") then Some column.CarriedL
    else if bytes_eq name (codes "carried_c") then Some column.CarriedC
    else if bytes_eq name (codes "seq") then Some column.Seq
    else if bytes_eq name (codes "label") then Some column.Label
    else None

-- the columns in the order in which the records of JSON lines have them
abbrev pub all_columns : List LogColumn
all_columns = column.Kind ∷ column.Node ∷ column.Reading ∷ column.L ∷ column.C ∷ column.Stamp ∷ column.Message ∷ column.From ∷ column.Carried
    ∷ column.CarriedL ∷ column.CarriedC ∷ column.Seq ∷ column.Label ∷ []
