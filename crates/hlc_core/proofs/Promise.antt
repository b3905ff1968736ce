-- Every schedule keeps the promise.
use Rattle.std.proofs.Common.{◌≡◌, ◌∙◌, ℕ, ◌<◌, List, length, arith, subst, sym, ap, Option, Some, None}
use Rattle.std.specs.Prelude.{◌↔◌, option_map}
use Rattle.hlc_causality.specs.Explanation.{IsExplained}
use Rattle.hlc_arena.specs.ClockRule.{HasLeastStamps, drift_of}
use Rattle.hlc_arena.specs.EntryLaws.{IsGreatestKnown}
use Rattle.hlc_arena.specs.History.{StampedEvent, causality_of, stamps_of}
use Rattle.hlc_arena.specs.Known.{entry_of, everywhere}
use Rattle.hlc_arena.proofs.Entries.{greatest_is_entry}
use Rattle.hlc_arena.proofs.Following.{well_formed_names_fit}
use Rattle.hlc_causality.proofs.Explanation.{each_is_explained}
use Rattle.hlc_arena.proofs.Histories.{length_skeleton}
use Rattle.hlc_arena.proofs.StampsRise.{allowed_stamps_rise}
use Rattle.hlc_table.specs.declared.entry.Entry.{Entry}
use Rattle.hlc_table.specs.Rows.{entry_at}
use Rattle.hlc_core.specs.Laws.{DriftsStayWithin, EveryScheduleKeepsThePromise, KeepsThePromise, StampsAreExplained, TablesShowGreatest}
use Rattle.hlc_core.specs.Limit.{IsWithinLimit}
use Rattle.hlc_core.specs.Sound.{IsSound}
use Rattle.hlc_core.specs.State.{State, new_state}
use Rattle.hlc_table.specs.Tables.{entry_for, table_rows}
use Rattle.hlc_core.proofs.AskedSteps.{new_is_sound, settings_stay, stays_sound}
use Rattle.hlc_table.proofs.OneTable.{kept_is_table}
use Rattle.hlc_table.proofs.TableRows.{entry_at-table_rows}

explained :
    (events : List StampedEvent) (e : ℕ) → HasLeastStamps events → e < length events →
    (chain : List ℕ) × IsExplained (causality_of events) (stamps_of events) e chain
explained events e least exists =
    let size = length_skeleton events in
    each_is_explained (causality_of events) (stamps_of events) e least (omega arith)

pub stamps_are_explained : StampsAreExplained
stamps_are_explained s e promise exists = explained s.history.events e promise.least exists

module _ (s : State) (sound : IsSound s) where
  shown : (key : List ℕ) (w : ℕ) (o : Option ℕ) →
      (option_map (entry_for s.history.events) o ≡ Some (entry_for s.history.events w)) ↔ (o ≡ Some w)
  shown key w None = (λ is. absurd (cc), λ is. absurd (cc))
  shown key w (Some v) = (λ is. ap (option_map (λ (x : Entry). x.write.0)) is, λ is. ap (option_map (entry_for s.history.events)) is)

  entries : (node : ℕ) (key : List ℕ) (w : ℕ) →
      (entry_at (table_rows s.history.events node) key ≡ Some (entry_for s.history.events w)) ↔
      IsGreatestKnown s.history.events everywhere node key w
  entries node key w =
      let events = s.history.events in
      let fit = well_formed_names_fit s.history sound.lawful.history.well_formed in
      let rise = allowed_stamps_rise events sound.least.allowed in
      let rows = entry_at-table_rows events node key in
      let same = shown key w (entry_of events everywhere node key) in
      let greatest = greatest_is_entry events everywhere node key w fit rise in
      (λ is. greatest.0 (same.0 (sym rows ∙ is)), λ g. rows ∙ same.1 (greatest.1 g))

-- a sound state keeps the promise
pub sound_keeps_the_promise : (s : State) → IsSound s → KeepsThePromise s
sound_keeps_the_promise s sound = record {
  least = sound.least;
  explained = λ e exists. let why = explained s.history.events e sound.least exists in (why.0, why.1.explains);
  tables = λ node. kept_is_table s.history.events node (well_formed_names_fit s.history sound.lawful.history.well_formed);
}

pub tables_show_greatest : TablesShowGreatest
tables_show_greatest s node key w sound = entries s sound node key w

pub every_schedule_keeps_the_promise : EveryScheduleKeepsThePromise
every_schedule_keeps_the_promise nodes capacity limit asked s none along =
    sound_keeps_the_promise s (stays_sound (new_state nodes capacity limit) s asked (new_is_sound nodes capacity limit none) along)

pub drifts_stay_within : DriftsStayWithin
drifts_stay_within nodes capacity limit asked s none along e exists =
    let first = new_state nodes capacity (Some limit) in
    let sound = stays_sound first s asked (new_is_sound nodes capacity (Some limit) none) along in
    subst (λ (l : Option ℕ). IsWithinLimit l (drift_of s.history.events e)) (settings_stay first s asked along).limit (sound.within e exists)
