-- Why a record is refused, in the words of the row that tells it.
use Rattle.std.specs.Prelude.{List, [], ℕ, codes}
use Rattle.hlc_core.specs.declared.refusal.Refusal.{Refusal}
use Rattle.hlc_core.specs.declared.refusal.Refusal.TheVariants as refusal
use Rattle.hlc_verdict.specs.declared.audit_fault.AuditFault.{AuditFault}
use Rattle.hlc_verdict.specs.declared.audit_fault.AuditFault.TheVariants as fault
use Rattle.hlc_explain.specs.Words.{missing_word}
use Rattle.hlc_explain.specs.declared.answers.Missing.TheVariants as missing

-- the word of a refusal; out of memory has none, since it ends the run
abbrev pub refusal_word : Refusal → List ℕ
refusal_word refusal.NoNode = missing_word missing.Node
refusal_word refusal.ZeroReading = codes "zero-reading"
refusal_word refusal.ReadingTooLarge = codes "reading-too-large"
refusal_word refusal.Full = codes "full"
refusal_word refusal.KeySize = codes "key-size"
refusal_word refusal.ValueSize = codes "value-size"
refusal_word refusal.NoTarget = codes "no-target"
refusal_word refusal.SelfSend = codes "self-send"
refusal_word refusal.NoEntry = codes "no-entry"
refusal_word refusal.NoMessage = codes "no-message"
refusal_word refusal.WrongNode = codes "wrong-node"
refusal_word refusal.TooFarAhead = codes "too-far-ahead"
refusal_word refusal.Memory = []

-- the word of what a history lacks that an audit was asked about; the other faults of an audit have none
abbrev pub audit_word : AuditFault → List ℕ
audit_word fault.NoNode = missing_word missing.Node
audit_word fault.NoEvent = missing_word missing.Event
audit_word _ = []
