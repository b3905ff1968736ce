use Rattle.hlc_history_log.proofs.LogLaws.{logs_tell_events_alone, logs_tell_no_seqs, logs_tell_nothing_carried, logs_tell_readings, logs_tell_stamps, rows_make_events}
use Rattle.hlc_history_log.proofs.ReadBack.{logs_read_back}
use Rattle.hlc_history_log.proofs.laws.logs_tell_of_their_histories.Goals as goal

pub returns : goal.returns
returns c = record {
  read_back = logs_read_back;
  events = rows_make_events;
  alone = logs_tell_events_alone;
  readings = logs_tell_readings;
  stamps = logs_tell_stamps;
  carried = logs_tell_nothing_carried;
  seqs = logs_tell_no_seqs;
}
