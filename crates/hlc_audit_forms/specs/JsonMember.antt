-- The members of the object that an audit is written as, and what the rows of each tell.
use Rattle.std.specs.Prelude.{◌||◌, ℕ, List, [], ◌∷◌, bytes_eq, codes, find, if◌then◌else◌, unwrap_or}
use Rattle.hlc_csv.specs.Rows.{Fields, field_of}
use Rattle.hlc_audit_forms.specs.AnswerRow.{answer_columns}
use Rattle.hlc_audit_forms.specs.declared.json_column.JsonColumn.{JsonColumn}
use Rattle.hlc_audit_forms.specs.declared.json_column.JsonColumn.TheVariants as column
use Rattle.hlc_audit_forms.specs.declared.json_member.JsonMember.{JsonMember}
use Rattle.hlc_audit_forms.specs.declared.json_member.JsonMember.TheVariants as member
use Rattle.hlc_audit_forms.specs.declared.json_member.TheConstants.{MEMBERS}

-- the name of a member: the word of its rows, but for answers, which have many
abbrev pub member_name : JsonMember → List ℕ
member_name member.Bad = codes "bad"
member_name member.Count = codes "count"
member_name member.Cause = codes "cause"
member_name member.Node = codes "node"
member_name member.Messages = codes "messages"
member_name member.Skew = codes "skew"
member_name member.Units = codes "units"
member_name member.Unsent = codes "unsent"
member_name member.Resent = codes "resent"
member_name member.Outside = codes "outside"
member_name member.Unread = codes "unread"
member_name member.Unstamped = codes "unstamped"
member_name member.Skipped = codes "skipped"
member_name member.LeftOut = codes "left-out"
member_name member.Over = codes "over"
member_name member.Answers = codes "answers"
member_name member.Group = codes "group"

-- the member of the rows of a word
abbrev pub member_of_word : List ℕ → JsonMember
member_of_word word = unwrap_or (find (λ m. bytes_eq (member_name m) word) MEMBERS) member.Answers

-- the columns of a row that says why the input is no log
abbrev pub bad_columns : (why : List ℕ) → List JsonColumn
bad_columns why =
    column.Row ∷ column.Line ∷ column.Why
    ∷ (if bytes_eq why (codes "sent-twice") || bytes_eq why (codes "unsent") then column.Message else column.Column) ∷ []

-- the columns of a cause, by the word of the broken rule
abbrev pub cause_columns : (rule : List ℕ) → List JsonColumn
cause_columns rule =
    if bytes_eq rule (codes "not-above") then column.Row ∷ column.Line ∷ column.Node ∷ column.Rule ∷ column.Before ∷ column.Swapped ∷ []
    else if bytes_eq rule (codes "ahead") then column.Row ∷ column.Line ∷ column.Node ∷ column.Rule ∷ column.L ∷ column.C ∷ []
    else if bytes_eq rule (codes "carried") then column.Row ∷ column.Line ∷ column.Node ∷ column.Rule ∷ column.Send ∷ []
    else column.Row ∷ column.Line ∷ column.Node ∷ column.Rule ∷ []

-- the columns of a row of a member
abbrev pub member_columns : JsonMember → Fields → List JsonColumn
member_columns member.Bad fields = bad_columns (field_of fields 2)
member_columns member.Count fields = column.Row ∷ column.Verdict ∷ column.N ∷ []
member_columns member.Cause fields = cause_columns (field_of fields 3)
member_columns member.Node fields = column.Row ∷ column.Node ∷ column.Events ∷ column.Ahead ∷ column.Line ∷ column.Origin ∷ []
member_columns member.Messages fields = column.Row ∷ column.Sent ∷ column.Received ∷ column.Repeated ∷ column.Open ∷ []
member_columns member.Skew fields = column.Row ∷ column.From ∷ column.To ∷ column.Ahead ∷ column.Send ∷ column.Receive ∷ []
member_columns member.Units fields = column.Row ∷ column.Factor ∷ []
member_columns member.Unsent fields = column.Row ∷ column.N ∷ []
member_columns member.Resent fields = column.Row ∷ column.N ∷ []
member_columns member.Outside fields = column.Row ∷ column.N ∷ []
member_columns member.Unread fields = column.Row ∷ column.N ∷ []
member_columns member.Unstamped fields = column.Row ∷ column.N ∷ []
member_columns member.Skipped fields = column.Row ∷ column.N ∷ column.Line ∷ []
member_columns member.LeftOut fields = column.Row ∷ column.Word ∷ column.N ∷ column.Line ∷ []
member_columns member.Over fields = column.Row ∷ column.Node ∷ column.N ∷ column.Line ∷ column.Ahead ∷ column.Origin ∷ []
member_columns member.Answers fields = answer_columns (field_of fields 0)
member_columns member.Group fields = column.Row ∷ column.Node ∷ column.Rule ∷ column.Of ∷ column.N ∷ column.Line ∷ []
