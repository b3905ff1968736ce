-- How a log is kept that was opened.
use Rattle.std.specs.Prelude.{option_map}
use Rattle.hlc_stamp.specs.Ids.{places_of}
use Rattle.hlc_open_log.specs.Opened.{OpenedLog, labels_kept}
use Rattle.hlc_open_log.specs.declared.opened_log.OpenLog.TheInside.{Inside}

-- the log that is kept so: labels have the places of the log that was read, and if not all of its events are opened, those of the kept ones count
abbrev pub opened_of : Inside → OpenedLog
opened_of a = record {
  log = a.ordered;
  files = a.details.files;
  nodes = a.details.nodes;
  labels = labels_kept (option_map (λ kept. places_of kept.items) a.kept) a.details.labels;
  questions = a.details.questions;
  unsent = a.unsent;
  resent = a.resent;
  skipped = a.details.skipped;
  left_out = a.details.left_out;
  full = a.full;
}
