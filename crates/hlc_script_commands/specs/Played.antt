-- What was played.
use Rattle.std.specs.Prelude.{◌≡◌, ◌*◌, ◌++◌, ℕ, List, Option, codes, decimal, length}
use Rattle.std.specs.Io.KnownBytes.{Appends}
use Rattle.hlc_arena.specs.History.{History}
use Rattle.hlc_arena.specs.ClockRule.{HasLeastStamps}
use Rattle.hlc_core.specs.Lawful.{IsLawful}
use Rattle.hlc_core.specs.Limit.{AreWithinLimit}
use Rattle.hlc_csv.specs.declared.records_fault.RecordsFault.TheVariants as records
use Rattle.hlc_core.specs.Timed.{TimedRequest}
use Rattle.hlc_core.specs.declared.cluster_fault.ClusterFault.{ClusterFault}
use Rattle.hlc_core.specs.declared.cluster_fault.ClusterFault.TheVariants as cluster
use Rattle.hlc_held.specs.LogEntry.{LogEntry}
use Rattle.hlc_held.specs.Seats.{fresh_seats}
use Rattle.hlc_seeded.specs.declared.storm_fault.StormFault.{StormFault}
use Rattle.hlc_seeded.specs.declared.storm_fault.StormFault.TheVariants as storm
use Rattle.hlc_shared.specs.Close.{EachAgrees}
use Rattle.hlc_shared.specs.Replicas.{EachHasFollowed}
use Rattle.hlc_shared.specs.declared.shared_fault.SharedFault.{SharedFault}
use Rattle.hlc_shared.specs.declared.shared_fault.SharedFault.TheVariants as shared
use Rattle.hlc_command_line.specs.declared.command_fault.CommandFault.{CommandFault}
use Rattle.hlc_command_line.specs.declared.command_fault.CommandFault.TheVariants as stop

-- why there are no seeded scripts, as a command's fault
abbrev pub storm_stop : StormFault → CommandFault
storm_stop storm.BadSettings = stop.Settings
storm_stop storm.Memory = stop.Records records.Memory

-- why there is no cluster, as a command's fault
abbrev pub cluster_stop : ClusterFault → CommandFault
cluster_stop cluster.BadNodes = stop.Settings
cluster_stop cluster.BadCapacity = stop.Settings
cluster_stop cluster.Memory = stop.Records records.Memory

-- a fault of replicas, as a command's
abbrev pub shared_stop : SharedFault → CommandFault
shared_stop (shared.Mismatch node) = stop.Mismatch node
shared_stop (shared.GateShut node) = stop.GateShut node
shared_stop shared.Memory = stop.Records records.Memory

-- how many events there are, and how many of them were explained
abbrev pub counts_text : ℕ → ℕ → List ℕ
counts_text events explained = codes "events," ++ decimal events ++ codes "\nexplained," ++ decimal explained ++ codes "\n"

-- scripts of so many steps were played by replicas: there is a lawful history with least stamps, which has room for all steps and
-- no more, whose drifts are within the limit, if there is one, and with which a log of each node agrees that asks a subsequence of
-- its script, and the output got the number of its events, all of them explained
pub record IsPlayed (nodes steps : ℕ) (limit : Option ℕ) (scripts : List (List TimedRequest)) (before after : Option (List ℕ)) : Type 0 where
  pub history : History
  pub logs : ℕ → List LogEntry
  pub lawful : IsLawful history
  pub least : HasLeastStamps history.events
  pub nodes_named : history.nodes ≡ nodes
  pub capacity_is : history.capacity ≡ nodes * steps
  pub within : AreWithinLimit limit history.events
  pub agree : EachAgrees history.events nodes logs
  pub followed : EachHasFollowed scripts (fresh_seats nodes) logs
  pub text : Appends before after (counts_text (length history.events) (length history.events))
