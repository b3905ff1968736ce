-- What is said of a row, by its word.
use Rattle.std.specs.Prelude.{◌&&◌, ◌||◌, ◌+◌, ℕ, Bool, List, [], ◌∷◌, ◌++◌, bytes_eq, codes, if◌then◌else◌, length, nat_lt}
use Rattle.hlc_csv.specs.Rows.{Fields, field_of}
use Rattle.hlc_audit_forms.specs.AnswerRow.{is_answer}
use Rattle.hlc_audit_forms.specs.TextPiece.{ToldPiece, left, line, plain, rest, right, said}
use Rattle.hlc_audit_forms.specs.declared.text_section.TextSection.{TextSection}
use Rattle.hlc_audit_forms.specs.declared.text_section.TextSection.TheVariants as section

-- the word of the rows of a section, but for answers, which have many, and for first places
abbrev pub section_word : TextSection → List ℕ
section_word section.Bad = codes "bad"
section_word section.Messages = codes "messages"
section_word section.Group = codes "group"
section_word section.Node = codes "node"
section_word section.Skew = codes "skew"
section_word section.Over = codes "over"
section_word section.Skipped = codes "skipped"
section_word section.LeftOut = codes "left-out"
section_word section.Unsent = codes "unsent"
section_word section.Resent = codes "resent"
section_word section.Outside = codes "outside"
section_word section.Unread = codes "unread"
section_word section.Unstamped = codes "unstamped"
section_word section.Units = codes "units"
section_word section.Answers = []

-- whether the rows of a word are those of a section: below a group stand its first places
abbrev pub has_word : TextSection → List ℕ → Bool
has_word section.Answers word = is_answer word
has_word section.Group word = bytes_eq word (codes "group") || bytes_eq word (codes "place")
has_word other word = bytes_eq word (section_word other)

-- what stands above the lines of a section, if it has some
abbrev pub section_title : TextSection → List ℕ
section_title section.Bad = codes "\nWhat is wrong:\n"
section_title section.Answers = codes "\nAnswers:\n"
section_title section.Group = codes "\nCauses, by node and rule, and the first three of each:\n"
section_title section.Node = codes "\nNode                  Events        Ahead  First at            Begun at\n"
section_title section.Skew = codes "\nFrom              To                      Ahead  Sent at             Received at\n"
section_title section.Over = codes "\nOver the limit        Events        Ahead  First at            Begun at\n"
section_title section.Messages = codes "\n"
section_title _ = []

-- how a group breaks the rule, by its word: against its node's own stamps, those of another node, or none
abbrev pub rule_pieces : (rule : List ℕ) → (is_own has_other : Bool) → List ToldPiece
rule_pieces rule is_own has_other =
    if bytes_eq rule (codes "behind") then said (codes "stamps below what its clock reads") ∷ []
    else if bytes_eq rule (codes "carried") then said (codes "carried stamps aren't as logged by ") ∷ plain 3 ∷ []
    else if bytes_eq rule (codes "not-above") && is_own then said (codes "stamps not above its own last one") ∷ []
    else if bytes_eq rule (codes "not-above") then said (codes "stamps not above those of ") ∷ plain 3 ∷ []
    else if is_own then said (codes "stamps higher than after its own last one") ∷ []
    else if has_other then said (codes "stamps higher than after those of ") ∷ plain 3 ∷ []
    else said (codes "stamps higher than its clock asks") ∷ []

-- how the causes of a group break the rule: OF is the node itself, another one, or none
abbrev pub group_rule : Fields → List ToldPiece
group_rule fields = rule_pieces (field_of fields 2) (bytes_eq (field_of fields 3) (field_of fields 1)) (nat_lt 0 (length (field_of fields 3)))

-- what stands before that and after it
abbrev pub before_rule : List ToldPiece
before_rule = right 4 8 ∷ said (codes "  ") ∷ plain 1 ∷ said (codes ": ") ∷ []

abbrev pub after_rule : List ToldPiece
after_rule = said (codes "\n") ∷ []

-- a stamp, whose l stands at a place and whose c at the next
abbrev pub stamp_pieces : (place : ℕ) → List ToldPiece
stamp_pieces place = plain place ∷ said (codes ".") ∷ plain (place + 1) ∷ []

-- the stamps of a cause: what its message carried and what the send claims, or what it claims itself and what that stands after or is asked for
abbrev pub carried_pieces : List ToldPiece
carried_pieces = said (codes "  carried ") ∷ stamp_pieces 3 ++ said (codes ", not ") ∷ stamp_pieces 6 ++ said (codes " at ") ∷ line 5 ∷ said (codes "\n") ∷ []

abbrev pub asked_pieces : List ToldPiece
asked_pieces = said (codes "  claimed ") ∷ stamp_pieces 3 ++ said (codes ", where ") ∷ stamp_pieces 6 ++ said (codes " is asked\n") ∷ []

abbrev pub after_pieces : List ToldPiece
after_pieces = said (codes "  claimed ") ∷ stamp_pieces 3 ++ said (codes ", after ") ∷ stamp_pieces 6 ++ said (codes " at ") ∷ line 5 ∷ said (codes "\n") ∷ []

-- those of a cause by its rule, and by whether the rule compares with an event
abbrev pub stamps_pieces : (rule : List ℕ) → (has_other : Bool) → List ToldPiece
stamps_pieces rule has_other =
    if bytes_eq rule (codes "carried") then carried_pieces else if has_other then after_pieces else asked_pieces

-- one of the first causes of a group
abbrev pub place_pieces : Fields → List ToldPiece
place_pieces fields = said (codes "    ") ∷ line 2 ∷ stamps_pieces (field_of fields 1) (nat_lt 0 (length (field_of fields 5)))

-- the line of a row of another section
abbrev pub row_pieces : TextSection → List ToldPiece
row_pieces section.Bad = said (codes "  ") ∷ line 1 ∷ said (codes ": ") ∷ plain 2 ∷ said (codes " ") ∷ plain 3 ∷ said (codes "\n") ∷ []
row_pieces section.Messages =
    said (codes "Messages: ") ∷ plain 1 ∷ said (codes " sent, ") ∷ plain 2 ∷ said (codes " received, ") ∷ plain 3 ∷ said (codes " more than once, ") ∷ plain 4
    ∷ said (codes " never.\n") ∷ []
row_pieces section.Group = []
row_pieces section.Answers = said (codes "  ") ∷ plain 0 ∷ rest 1 ∷ said (codes "\n") ∷ []
row_pieces section.Node = left 1 18 ∷ right 2 10 ∷ right 3 13 ∷ said (codes "  ") ∷ left 4 20 ∷ plain 5 ∷ said (codes "\n") ∷ []
row_pieces section.Skew = left 1 18 ∷ left 2 18 ∷ right 3 11 ∷ said (codes "  ") ∷ left 4 20 ∷ plain 5 ∷ said (codes "\n") ∷ []
row_pieces section.Over = left 1 18 ∷ right 2 10 ∷ right 4 13 ∷ said (codes "  ") ∷ left 3 20 ∷ plain 5 ∷ said (codes "\n") ∷ []
row_pieces section.Skipped =
    said (codes "Lines or records skipped: ") ∷ plain 1 ∷ said (codes ", first at ") ∷ line 2 ∷ said (codes ".\n") ∷ []
row_pieces section.LeftOut =
    said (codes "Records left out, bad by `") ∷ plain 1 ∷ said (codes "`: ") ∷ plain 2 ∷ said (codes ", first at ") ∷ line 3 ∷ said (codes ".\n") ∷ []
row_pieces section.Unsent = said (codes "Receives of what no line sends, taken as local events: ") ∷ plain 1 ∷ said (codes ".\n") ∷ []
row_pieces section.Resent = said (codes "Sends of a message that was sent before: ") ∷ plain 1 ∷ said (codes ".\n") ∷ []
row_pieces section.Outside = said (codes "Receives from outside, of what no line sends: ") ∷ plain 1 ∷ said (codes ".\n") ∷ []
row_pieces section.Unread = said (codes "Events without a reading: ") ∷ plain 1 ∷ said (codes ".\n") ∷ []
row_pieces section.Unstamped = said (codes "Receives without a stamp: ") ∷ plain 1 ∷ said (codes ".\n") ∷ []
row_pieces section.Units =
    said (codes "L is about ") ∷ plain 1 ∷ said (codes " times each reading: they look as if they had different units.\n") ∷ []

-- the line of a group
abbrev pub group_pieces : Fields → List ToldPiece
group_pieces fields = before_rule ++ group_rule fields ++ after_rule

-- the line of a row of a section
abbrev pub section_pieces : TextSection → Fields → List ToldPiece
section_pieces section.Group fields = if bytes_eq (field_of fields 0) (codes "place") then place_pieces fields else group_pieces fields
section_pieces other fields = row_pieces other
