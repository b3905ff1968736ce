-- What is drawn of a log.
use Rattle.std.proofs.Common.{◌≡◌, ◌∙◌, ◌≤◌, ℕ, Err, List, Ok, Option, None, Result, Some, ap, arith, inl, inr, length, refl, subst, sym}
use Rattle.std.specs.Prelude.{IsErrOf, OnOk}
use Rattle.hlc_causality.specs.declared.receives.Receives.TheVariants.{Tick}
use Rattle.hlc_stamp.specs.declared.id.EventId.{EventId}
use Rattle.hlc_diagram.specs.Chosen.{IsMissing}
use Rattle.hlc_diagram.specs.declared.draw_fault.DrawFault.{DrawFault}
use Rattle.hlc_diagram.specs.declared.draw_fault.DrawFault.TheVariants as drawing
use Rattle.hlc_diagram.specs.declared.view.View.{View}
use Rattle.hlc_ordered_log.specs.InOrder.{IsInOrder, LogInOrder}
use Rattle.hlc_open_log.specs.Opened.{IsOpened, IsReordered, OpenedLog}
use Rattle.hlc_log_picture.specs.Drawn.{DrawnLog, IsDrawnOf}
use Rattle.hlc_log_picture.specs.Judged.{AreEventFindings}
use Rattle.hlc_log_picture.specs.StampOrder.{IsInStampOrder}
use Rattle.hlc_log_picture.specs.Viewed.{NamesRow}
use Rattle.hlc_csv.specs.declared.records_fault.RecordsFault.TheVariants as records
use Rattle.hlc_command_line.specs.CommandFault.{IsOfAnswer, IsOfInput, draw_stop}
use Rattle.hlc_command_line.specs.declared.command_fault.CommandFault.{CommandFault}
use Rattle.hlc_command_line.specs.declared.command_fault.CommandFault.TheVariants as stop
use Rattle.hlc_log_text.specs.declared.log_rules.LogRules.{LogRules}
use Rattle.hlc_command_line.specs.declared.line_order.DrawLogOptions.{DrawLogOptions}
use Rattle.hlc_log_commands.specs.DrawnLog.{IsAbsent, IsDrawingStopped, IsLogDrawnUpTo, IsLogDrawnUpToBut, IsOpenedDrawn, IsOpenedLacking, IsViewOf}
use Rattle.hlc_log_commands.specs.PartLines.{part_in}
use Rattle.hlc_log_commands.specs.Records.{IsLengthTold}
use Rattle.hlc_command_line.specs.declared.drawn_part.DrawnPart.{DrawnPart}
use Rattle.hlc_command_line.specs.declared.drawn_part.DrawnRows.{DrawnRows}
use Rattle.hlc_command_line.specs.declared.drawn_part.DrawnRows.TheVariants.{Around, Between}

-- the row of a line is missing only if the line has no event
row_absent : (drawn : DrawnLog) (line : Option ℕ) (row : Option EventId) → NamesRow drawn line row → IsMissing drawn.log.events row → IsAbsent drawn line
row_absent drawn None row names missing = subst (λ (r : Option EventId). IsMissing drawn.log.events r) names missing
row_absent drawn (Some line) None names missing = absurd missing
row_absent drawn (Some line) (Some k) (inl on) missing =
    let exists = on.exists in
    let beyond : length drawn.log.events ≤ k.0 = missing in
    absurd (omega arith)
row_absent drawn (Some line) (Some k) (inr none) missing = none.0

-- a view explains the event of the line that is named
view_names : (drawn : DrawnLog) (rows : DrawnRows ℕ) (explained : Option ℕ) (view : View) → IsViewOf drawn rows explained view
    → NamesRow drawn explained view.explained
view_names drawn (Between first last) explained view is = subst (λ (v : View). NamesRow drawn explained v.explained) (sym is.6) is.5
view_names drawn (Around line rows) explained view is = subst (λ (v : View). NamesRow drawn explained v.explained) (sym is.4) is.3

pub explained_absent : (drawn : DrawnLog) (rows : DrawnRows ℕ) (explained : Option ℕ) (view : View) → IsViewOf drawn rows explained view
    → IsMissing drawn.log.events view.explained → IsAbsent drawn explained
explained_absent drawn rows explained view is missing = row_absent drawn explained view.explained (view_names drawn rows explained view is) missing

-- what is drawn is the opened log, put in the order of its rows
pub drawn_of : (opened ordered : OpenedLog) (drawn : DrawnLog) → IsReordered opened ordered → IsInOrder drawn.log
    → (opened.log.receives ≡ Tick → IsInStampOrder ordered.log) → drawn.log ≡ ordered.log → drawn.files ≡ ordered.files → drawn.nodes ≡ ordered.nodes → drawn.labels ≡ ordered.labels
    → AreEventFindings ordered.log ordered.full drawn.findings → IsDrawnOf opened drawn
drawn_of opened ordered drawn same in_order by_stamp log files nodes labels judged = record {
  receives = ap (λ (l : LogInOrder). l.receives) log ∙ same.receives;
  events = ap (λ (l : LogInOrder). l.events) log ∙ same.events;
  files = files ∙ same.files;
  nodes = nodes ∙ same.nodes;
  labels = labels ∙ same.labels;
  in_order = in_order;
  by_stamp = λ ticks. subst IsInStampOrder (sym log) (by_stamp ticks);
  judged =
      subst (λ (full : ℕ). AreEventFindings drawn.log full drawn.findings) same.full
      (subst (λ (l : LogInOrder). AreEventFindings l ordered.full drawn.findings) (sym log) judged);
}

-- how the drawing of an opened log stops, as a command tells it
pub stopped_by : (opened : OpenedLog) (part : DrawnPart ℕ) (before after : Option (List ℕ)) (fault : DrawFault)
    → (IsErrOf {T = Unit {0}} (Err fault) drawing.NoEvent → IsOpenedLacking opened part before after)
    → IsDrawingStopped opened part (draw_stop fault) before after
stopped_by opened part before after drawing.NoEvent lacks = lacks refl
stopped_by opened part before after drawing.Write lacks = tt
stopped_by opened part before after drawing.Memory lacks = tt

-- the drawing of an opened log stops with an answer only if the log lacks an event that is named
pub told_but : (most : ℕ) (options : DrawLogOptions) (input before after : Option (List ℕ)) (opened : OpenedLog) (part : DrawnPart ℕ) (fault : CommandFault)
    → part ≡ part_in opened.files options.part → IsOpened options.records most input opened
    → IsDrawingStopped opened part fault before after → IsOfAnswer fault → IsLogDrawnUpToBut most fault options input before after
told_but most options input before after opened part stop.NoEvent same is lacks told =
    (opened, is, subst (λ (p : DrawnPart ℕ). IsOpenedLacking opened p before after) same lacks)
told_but most options input before after opened part (stop.Records fault) same is stopped told = absurd told
told_but most options input before after opened part stop.BadLog same is stopped told = absurd stopped
told_but most options input before after opened part stop.EmptyLog same is stopped told = absurd stopped
told_but most options input before after opened part stop.BrokenStamps same is stopped told = absurd stopped
told_but most options input before after opened part stop.OverLimit same is stopped told = absurd stopped
told_but most options input before after opened part stop.Settings same is stopped told = absurd stopped
told_but most options input before after opened part (stop.Mismatch node) same is stopped told = absurd stopped
told_but most options input before after opened part (stop.GateShut node) same is stopped told = absurd stopped
told_but most options input before after opened part (stop.LogTooLong records) same is stopped told = absurd stopped
told_but most options input before after opened part (stop.NoQuestion line) same is stopped told = absurd stopped

-- an opened log of which a part is drawn is a log of at most so many records that is drawn
pub drawn_up_to : (most : ℕ) (options : DrawLogOptions) (input before after : Option (List ℕ)) (opened : OpenedLog) (part : DrawnPart ℕ)
    → part ≡ part_in opened.files options.part → IsOpened options.records most input opened
    → IsOpenedDrawn opened part before after → IsLogDrawnUpTo most options input before after
drawn_up_to most options input before after opened part same is drawn =
    (opened, is, subst (λ (p : DrawnPart ℕ). IsOpenedDrawn opened p before after) same drawn)

-- what follows from what holds if all is well
pub on_ok : {T E P Q : Type 0} (r : Result T E) → (P → Q) → OnOk r P → OnOk r Q
on_ok (Ok value) follows holds = follows holds
on_ok (Err fault) follows holds = tt

-- it tells no number of records
pub tells_no_length : (most : ℕ) (rules : LogRules) (input before after : Option (List ℕ)) (opened : OpenedLog) (part : DrawnPart ℕ) (fault : CommandFault)
    → IsDrawingStopped opened part fault before after → IsLengthTold most rules input fault
tells_no_length most rules input before after opened part stop.NoEvent stopped = tt
tells_no_length most rules input before after opened part (stop.Records records.Read) stopped = tt
tells_no_length most rules input before after opened part (stop.Records records.TooLong) stopped = stopped
tells_no_length most rules input before after opened part (stop.Records records.Write) stopped = tt
tells_no_length most rules input before after opened part (stop.Records records.Memory) stopped = tt
tells_no_length most rules input before after opened part stop.BadLog stopped = tt
tells_no_length most rules input before after opened part stop.EmptyLog stopped = tt
tells_no_length most rules input before after opened part stop.BrokenStamps stopped = tt
tells_no_length most rules input before after opened part stop.OverLimit stopped = tt
tells_no_length most rules input before after opened part stop.Settings stopped = tt
tells_no_length most rules input before after opened part (stop.Mismatch node) stopped = tt
tells_no_length most rules input before after opened part (stop.GateShut node) stopped = tt
tells_no_length most rules input before after opened part (stop.LogTooLong records) stopped = absurd stopped
tells_no_length most rules input before after opened part (stop.NoQuestion line) stopped = tt

-- nor is it that the input can't be read
pub never_of_input : (opened : OpenedLog) (part : DrawnPart ℕ) (before after : Option (List ℕ)) (fault : CommandFault)
    → IsDrawingStopped opened part fault before after → IsOfInput fault → ⊥
never_of_input opened part before after stop.NoEvent stopped is = is
never_of_input opened part before after (stop.Records records.Read) stopped is = stopped
never_of_input opened part before after (stop.Records records.TooLong) stopped is = stopped
never_of_input opened part before after (stop.Records records.Write) stopped is = is
never_of_input opened part before after (stop.Records records.Memory) stopped is = is
never_of_input opened part before after stop.BadLog stopped is = is
never_of_input opened part before after stop.EmptyLog stopped is = is
never_of_input opened part before after stop.BrokenStamps stopped is = is
never_of_input opened part before after stop.OverLimit stopped is = is
never_of_input opened part before after stop.Settings stopped is = is
never_of_input opened part before after (stop.Mismatch node) stopped is = is
never_of_input opened part before after (stop.GateShut node) stopped is = is
never_of_input opened part before after (stop.LogTooLong records) stopped is = stopped
never_of_input opened part before after (stop.NoQuestion line) stopped is = stopped
