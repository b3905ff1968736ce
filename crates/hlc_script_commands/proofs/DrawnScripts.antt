-- What is drawn of a script.
use Rattle.std.proofs.Common.{◌≡◌, ◌∙◌, ℕ, List, Option, ap, length, map, subst, sym}
use Rattle.std.specs.Io.KnownBytes.{Appends}
use Rattle.hlc_stamp.specs.declared.id.EventId.{EventId}
use Rattle.hlc_stamp.specs.declared.limits.TheConstants.{MAX_RECORDS}
use Rattle.hlc_stamp.specs.declared.settings.Settings.{Settings}
use Rattle.hlc_arena.specs.Arena.{history_of}
use Rattle.hlc_arena.specs.History.{History, stamps_of}
use Rattle.hlc_arena.specs.ClockRule.{HasLeastStamps}
use Rattle.hlc_picture.specs.Drawn.{drawn_with}
use Rattle.hlc_diagram.specs.Picture.{picture_text}
use Rattle.hlc_diagram.specs.declared.undelivered.Undelivered.{Undelivered}
use Rattle.hlc_diagram.specs.declared.view.View.{View}
use Rattle.hlc_text.specs.Run.{Finished, FinishedNoting}
use Rattle.hlc_text.specs.declared.ran.Ran.{Ran}
use Rattle.hlc_text.specs.declared.undelivered.Undelivered.{Undelivered as LeftUndelivered}
use Rattle.hlc_command_line.specs.declared.drawn_part.DrawnPart.{DrawnPart}
use Rattle.hlc_command_line.specs.declared.drawn_part.DrawnPart.TheVariants.{Rows}
use Rattle.hlc_command_line.specs.declared.drawn_part.DrawnRows.{DrawnRows}
use Rattle.hlc_command_line.specs.declared.no_events.NoEvents.{NoEvents}
use Rattle.hlc_script_commands.specs.NoEvents.{IsNoteOn, note_of}
use Rattle.hlc_script_commands.specs.Drawn.{IsDrawnWhole, IsDrawnWithout, IsScriptDrawn, LacksNamed, LeavesHistory, LeavesUndelivered, part_text, pictured_message, view_of}

-- a run to the end says which history its script leaves
abbrev pub script_leaves : (settings : Settings) (bytes before after : Option (List ℕ)) (ran : Ran)
    → Finished MAX_RECORDS settings bytes before after ran → LeavesHistory settings bytes (history_of ran.history)
script_leaves settings bytes before after ran run = record {
  records = run.records;
  stamps = run.answered.stamps;
  all = run.all;
  only = run.only;
  within = run.answered.within;
  left = run.history;
  own = subst (λ (h : History). stamps_of h.events ≡ run.answered.stamps) (sym run.history) run.answered.own;
  least = subst (λ (h : History). HasLeastStamps h.events) (sym run.history) run.answered.least;
}

-- and what there is to note of it
pub script_noted : (settings : Settings) (bytes before after : Option (List ℕ)) (ran : Ran) (found : Option NoEvents)
    → Finished MAX_RECORDS settings bytes before after ran → found ≡ note_of ran.counts.records ran.counts.events → IsNoteOn settings bytes found
script_noted settings bytes before after ran found run is =
    let events = run.events ∙ ap (λ (h : History). length h.events) (sym run.history) in (
      history_of ran.history,
      script_leaves settings bytes before after ran run,
      is ∙ ap (λ (n : ℕ). note_of n ran.counts.events) run.counted ∙ ap (λ (n : ℕ). note_of (length run.records) n) events,
    )

-- and which messages it leaves undelivered
pub script_leaves_undelivered : (settings : Settings) (bytes before after : Option (List ℕ)) (ran : Ran) (notes : List LeftUndelivered)
    (messages : List Undelivered) → FinishedNoting MAX_RECORDS settings bytes before after ran notes → messages ≡ map pictured_message notes
    → LeavesUndelivered settings bytes (history_of ran.history) messages
script_leaves_undelivered settings bytes before after ran notes messages (run, noted) are =
    (script_leaves settings bytes before after ran run, are ∙ ap (map pictured_message) noted)

-- what is drawn of a script that leaves this
module _ (settings : Settings) (part : DrawnPart EventId) (input before after : Option (List ℕ)) (history : History) (messages : List Undelivered)
    (left : LeavesUndelivered settings input history messages) (text : Appends before after (part_text history messages part)) where
  abbrev script_is_drawn : IsScriptDrawn settings part input before after
  script_is_drawn = record {
    history = history;
    script = left.0;
    picture = subst (λ (ms : List Undelivered). Appends before after (part_text history ms part)) left.1 text;
  }

  pub drawn_whole : (¬ LacksNamed history part) → IsDrawnWhole settings part input before after
  drawn_whole has = (script_is_drawn, has)

  pub drawn_without : LacksNamed history part → IsDrawnWithout settings part input before after
  drawn_without lacks = (script_is_drawn, lacks)

-- the picture of a view of some rows is that of the rows
pub rows_text : (history : History) (messages : List Undelivered) (rows : DrawnRows EventId) (explained : Option EventId) (view : View) (count : ℕ)
    (before after : Option (List ℕ)) → view ≡ view_of count rows explained → count ≡ length history.events
    → Appends before after (picture_text (drawn_with history view messages)) → Appends before after (part_text history messages (Rows rows explained))
rows_text history messages rows explained view count before after view_is count_is text =
    subst (λ (v : View). Appends before after (picture_text (drawn_with history v messages)))
    (view_is ∙ ap (λ (n : ℕ). view_of n rows explained) count_is) text
