-- Which row tells most of an audit, and how it is told first.
use Rattle.std.specs.Prelude.{◌==◌, ◌&&◌, ℕ, List, [], ◌∷◌, ◌++◌, Option, Some, None, bytes_eq, codes, find, fold, if◌then◌else◌, nat_lt, unwrap_or}
use Rattle.std.specs.Option.{option_or}
use Rattle.hlc_csv.specs.Number.{number_of}
use Rattle.hlc_csv.specs.Rows.{Fields, field_of}
use Rattle.hlc_audit_forms.specs.TextPiece.{ToldPiece, line, pieces_text, plain, said}
use Rattle.hlc_audit_forms.specs.TextSection.{group_rule}

-- the number that a row has at a place, or 0
abbrev pub count_in : (place : ℕ) → Fields → ℕ
count_in place fields = unwrap_or (number_of (field_of fields place)) 0

-- of a row that was found and the next one, the one that has the word and the greater number at a place: the first, if they tie
abbrev pub greater_row : (word : List ℕ) (place : ℕ) → Option Fields → Fields → Option Fields
greater_row word place None next = if bytes_eq (field_of next 0) word then Some next else None
greater_row word place (Some found) next =
    if bytes_eq (field_of next 0) word then (if nat_lt (count_in place found) (count_in place next) then Some next else Some found) else Some found

-- of rows, the first of a word whose number at a place is the greatest
abbrev pub greatest_row : (word : List ℕ) (place : ℕ) → List Fields → Option Fields
greatest_row word place rows = fold (greater_row word place) None rows

-- the row that tells most: the first that says why the input is no log, or the group with the most causes, or the node that ran farthest ahead
abbrev pub telling_row : List Fields → Option Fields
telling_row rows =
    option_or (greatest_row (codes "bad") 0 rows) (option_or (greatest_row (codes "group") 4 rows) (greatest_row (codes "node") 3 rows))

-- what is said of it first: why the input is no log; where the rule is broken most, how, and where first; or that it isn't, and how far a node ran ahead
abbrev pub bad_pieces : List ToldPiece
bad_pieces = said (codes "The input is no log: at ") ∷ line 1 ∷ said (codes " its fault is `") ∷ plain 2 ∷ said (codes "`.\n") ∷ []

abbrev pub before_breach : List ToldPiece
before_breach = said (codes "The clock rule is broken, most of all at ") ∷ plain 1 ∷ said (codes ",\n") ∷ []

abbrev pub after_breach : List ToldPiece
after_breach = said (codes ", first at ") ∷ line 5 ∷ said (codes ".\n") ∷ []

-- how often it is broken so
abbrev pub times_pieces : (causes : ℕ) → List ToldPiece
times_pieces causes = if causes == 1 then said (codes "once") ∷ [] else plain 4 ∷ said (codes " times") ∷ []

-- the row of a node of a name, if there is one
abbrev pub node_row : List Fields → (name : List ℕ) → Option Fields
node_row rows name = find (λ row. bytes_eq (field_of row 0) (codes "node") && bytes_eq (field_of row 1) name) rows

-- among how many events of a node, if its row is there
abbrev pub events_pieces : (events : ℕ) → List ToldPiece
events_pieces events = if events == 1 then said (codes " in its one event") ∷ [] else said (codes " in its ") ∷ plain 2 ∷ said (codes " events") ∷ []

abbrev pub events_text : Option Fields → List ℕ
events_text None = []
events_text (Some fields) = pieces_text fields (events_pieces (count_in 2 fields))

-- what is said first of a group, beside the rows of the nodes: where and how often the rule is broken; and so how, and where first
abbrev pub breach_text : List Fields → Fields → List ℕ
breach_text rows fields =
    pieces_text fields before_breach ++ (pieces_text fields (times_pieces (count_in 4 fields)) ++ events_text (node_row rows (field_of fields 1)))

abbrev pub kind_pieces : Fields → List ToldPiece
kind_pieces fields = said (codes ":\n") ∷ group_rule fields ++ after_breach

-- what is said first of a node, where no stamp breaks the rule
abbrev pub sound_pieces : (ahead : ℕ) → List ToldPiece
sound_pieces ahead =
    said (codes "No event breaks the clock rule.\n")
    ∷ (if ahead == 0 then said (codes "None ran ahead of its node's clock.\n") ∷ []
    else said (codes "Stamps ran up to ") ∷ plain 3 ∷ said (codes " ahead of the clock of ") ∷ plain 1 ∷ said (codes ", first at ") ∷ line 4
    ∷ said (codes ";\nall of it began at ") ∷ line 5 ∷ said (codes ".\n") ∷ [])

-- what is said first of the row that tells most
abbrev pub told_text : List Fields → Fields → List ℕ
told_text rows fields =
    if bytes_eq (field_of fields 0) (codes "bad") then pieces_text fields bad_pieces
    else if bytes_eq (field_of fields 0) (codes "group") then breach_text rows fields ++ pieces_text fields (kind_pieces fields)
    else pieces_text fields (sound_pieces (count_in 3 fields))

-- what to ask next of it: the event where causes of the group begin, or why the stamp of the node is so far ahead
abbrev pub asking_pieces : Fields → List ToldPiece
asking_pieces fields =
    if bytes_eq (field_of fields 0) (codes "group") then
    said (codes "\nAsk next, with the same options:\n  hlc audit --ask 'event,") ∷ plain 5 ∷ said (codes "' --ask 'claimed,") ∷ plain 5
    ∷ said (codes "'\n  hlc draw-log --around '") ∷ plain 5 ∷ said (codes "'\n") ∷ []
    else if bytes_eq (field_of fields 0) (codes "node") && nat_lt 0 (count_in 3 fields) then
    said (codes "\nAsk next, with the same options:\n  hlc audit --ask 'explain,") ∷ plain 4 ∷ said (codes "'\n  hlc draw-log --explain '") ∷ plain 4
    ∷ said (codes "' --around '") ∷ plain 4 ∷ said (codes "'\n") ∷ []
    else []
