-- The claims that the records of a trace make.
use Rattle.std.specs.Prelude.{◌==◌, ◌||◌, ℕ, ◌+◌, List, length, Option, Some, None, Result, Ok, Err, if◌then◌else◌, bytes_eq, codes, nat_le, option_map}
use Rattle.hlc_stamp.specs.declared.stamp.Stamp.{Stamp}
use Rattle.hlc_verdict.specs.declared.claim.Claim.{Claim}
use Rattle.hlc_verdict.specs.declared.claim.ClaimKind.{ClaimKind}
use Rattle.hlc_verdict.specs.declared.claim.ClaimKind.TheVariants as kind
use Rattle.hlc_csv.specs.Number.{event_in, node_in, number_of, of_both}
use Rattle.hlc_csv.specs.Rows.{Fields, field_of}
use Rattle.hlc_csv.specs.declared.bad_record.BadRecord.{BadRecord}
use Rattle.hlc_csv.specs.declared.bad_record.BadRecord.TheVariants as bad
use Rattle.hlc_trace.specs.declared.trace_word.TraceWord.{TraceWord}
use Rattle.hlc_trace.specs.declared.trace_word.TraceWord.TheVariants as word

-- the word that a field spells
abbrev pub trace_word_of : List ℕ → Option TraceWord
trace_word_of field =
    if bytes_eq field (codes "local") then Some word.Local
    else if bytes_eq field (codes "send") || bytes_eq field (codes "sync") then Some word.Send
    else if bytes_eq field (codes "receive") then Some word.Receive
    else None

-- how many fields a record of a word has, the word among them
abbrev pub trace_field_count : TraceWord → ℕ
trace_field_count word.Local = 5
trace_field_count word.Send = 5
trace_field_count word.Receive = 6

-- a number, if it is one of at most 32 bits
abbrev pub if_count : Option ℕ → Option ℕ
if_count (Some n) = if nat_le n 4294967295 then Some n else None
if_count None = None

-- the stamp at a place and the next, if both are numbers and the c is one of at most 32 bits
abbrev pub claimed_stamp : Fields → ℕ → Option Stamp
claimed_stamp fields place =
    of_both (λ l c. record { l = l; c = c }) (number_of (field_of fields place)) (if_count (number_of (field_of fields (place + 1))))

-- what is claimed to have happened, if its numbers are there
abbrev pub kind_in : TraceWord → Fields → Option ClaimKind
kind_in word.Local fields = Some kind.Local
kind_in word.Send fields = Some kind.Send
kind_in word.Receive fields = option_map (λ sent. kind.Receive (record { 0 = sent })) (event_in fields 3)

-- where the claimed stamp stands: last
abbrev pub stamp_place : TraceWord → ℕ
stamp_place word.Local = 3
stamp_place word.Send = 3
stamp_place word.Receive = 4

-- a claim of these parts, if each is there
abbrev pub claim_from : Option ℕ → Option ℕ → Option ClaimKind → Option Stamp → Option Claim
claim_from (Some node) (Some reading) (Some k) (Some stamp) = Some (record { node = record { 0 = node }; reading = reading; kind = k; stamp = stamp })
claim_from _ _ _ _ = None

-- the claim of a record of a word, with as many fields as the word has, if those that have to be numbers are
abbrev pub claim_with : TraceWord → Fields → Option Claim
claim_with w fields = claim_from (node_in fields 1) (number_of (field_of fields 2)) (kind_in w fields) (claimed_stamp fields (stamp_place w))

-- a claim, or a field that is to be a number and is none
abbrev pub claim_or_number : Option Claim → Result Claim BadRecord
claim_or_number (Some claim) = Ok claim
claim_or_number None = Err bad.Number

-- the word is known: then the number of fields is right, and then the numbers are
abbrev pub claim_after_word : Option TraceWord → Fields → Result Claim BadRecord
claim_after_word None fields = Err bad.Word
claim_after_word (Some w) fields = if length fields == trace_field_count w then claim_or_number (claim_with w fields) else Err bad.Fields

-- the claim of a record, or the first reason for which it is none
abbrev pub claim_of : Fields → Result Claim BadRecord
claim_of fields = claim_after_word (trace_word_of (field_of fields 0)) fields
