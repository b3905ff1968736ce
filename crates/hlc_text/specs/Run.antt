-- What a run of a script leaves.
use Rattle.std.specs.Prelude.{◌≡◌, Bool, ℕ, ◌≤◌, List, [], ◌∷◌, ◌++◌, Option, Vec, length}
use Rattle.std.specs.declared.alloc.Global.{Global}
use Rattle.std.specs.Io.KnownBytes.{Appends}
use Rattle.hlc_stamp.specs.Order.{Pair}
use Rattle.hlc_arena.specs.Arena.{history_of}
use Rattle.hlc_arena.specs.History.{StampedEvent, stamps_of}
use Rattle.hlc_arena.specs.ClockRule.{HasLeastStamps}
use Rattle.hlc_csv.specs.Records.{AreAllOf, BeginsWith, EndsAt, IsOnly}
use Rattle.hlc_csv.specs.Rows.{Fields}
use Rattle.hlc_csv.specs.declared.end.End.{End}
use Rattle.hlc_text.specs.Answer.{refusals_in}
use Rattle.hlc_text.specs.Script.{answer_rows, answer_text, first_state, state_after}
use Rattle.hlc_text.specs.Session.{HasAnswered, HasNoted}
use Rattle.hlc_text.specs.Undelivered.{noted, notes_if, undelivered_in}
use Rattle.hlc_text.specs.declared.ran.Ran.{Ran}
use Rattle.hlc_text.specs.declared.session.Session.{Session}
use Rattle.hlc_text.specs.declared.undelivered.Undelivered.{Undelivered}
use Rattle.hlc_stamp.specs.declared.settings.Settings.{Settings}

-- the events that records leave, given the stamps of the events by their places
abbrev pub events_after : List Pair → Settings → List Fields → List StampedEvent
events_after stamps settings records = (state_after stamps (first_state settings) records).history.events

-- what a writer got is the answer to these records, so many at most, with the least stamps
pub record GotAnswers (most : ℕ) (settings : Settings) (records : List Fields) (before after : Option (List ℕ)) : Type 0 where
  pub stamps : List Pair
  pub own : stamps_of (events_after stamps settings records) ≡ stamps
  pub least : HasLeastStamps (events_after stamps settings records)
  pub text : Appends before after (answer_text stamps settings records)
  pub within : length records ≤ most

-- a run to the end: these bytes are the records that were answered, and no others, and it leaves their history
pub record Finished (most : ℕ) (settings : Settings) (bytes before after : Option (List ℕ)) (ran : Ran) : Type 0 where
  pub records : List Fields
  pub all : AreAllOf bytes records
  pub only : IsOnly bytes records
  pub answered : GotAnswers most settings records before after
  pub history : (history_of ran.history) ≡ (state_after answered.stamps (first_state settings) records).history
  pub counted : ran.counts.records ≡ length records
  pub events : ran.counts.events ≡ length (events_after answered.stamps settings records)
  pub refused : ran.counts.refused ≡ refusals_in (answer_rows answered.stamps (first_state settings) records)

-- a run to the end, and the notes of what it left undelivered, if these were kept
abbrev pub FinishedKeeping : (notes : Bool) (most : ℕ) (settings : Settings) (bytes before after : Option (List ℕ))
    → Ran × Option (Vec Undelivered Global) → Type 0
FinishedKeeping notes most settings bytes before after left =
    (f : Finished most settings bytes before after left.0)
    × (noted left.1 ≡ notes_if notes (undelivered_in f.answered.stamps (first_state settings) f.records))

-- a run to the end, and the messages that it leaves undelivered
abbrev pub FinishedNoting : (most : ℕ) (settings : Settings) (bytes before after : Option (List ℕ)) → Ran → List Undelivered → Type 0
FinishedNoting most settings bytes before after ran messages =
    (f : Finished most settings bytes before after ran) × (messages ≡ undelivered_in f.answered.stamps (first_state settings) f.records)

-- the bytes begin with the records that were answered
pub record StoppedAfter (most : ℕ) (settings : Settings) (bytes before after : Option (List ℕ)) : Type 0 where
  pub records : List Fields
  pub begins : BeginsWith bytes records
  pub answered : GotAnswers most settings records before after

-- the most records were answered, and the bytes have one more
pub record Overran (most : ℕ) (settings : Settings) (bytes before after : Option (List ℕ)) : Type 0 where
  pub records : List Fields
  pub next : Fields
  pub begins : BeginsWith bytes (records ++ next ∷ [])
  pub full : length records ≡ most
  pub answered : GotAnswers most settings records before after

-- since it was the first of these, a session has answered all records up to that end, whether the writer got the rows or they wait
pub record AnswersAll (most : ℕ) (bytes : Option (List ℕ)) (first : Session) (before now : Option (List ℕ)) (s : Session) (end : End) : Type 0 where
  pub records : List Fields
  pub answered : HasAnswered first.cluster records before now s
  pub noted : HasNoted first records s
  pub within : length records ≤ most
  pub ends : EndsAt most bytes records end
