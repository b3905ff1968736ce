-- What replicas that played seeded scripts leave.
use Rattle.std.proofs.Common.{◌≡◌, ◌∙◌, ℕ, ◌*◌, List, Option, length, subst, ap}
use Rattle.std.proofs.lemmas.List.{length-map}
use Rattle.std.specs.Io.KnownBytes.{Appends}
use Rattle.hlc_stamp.specs.Order.{Pair}
use Rattle.hlc_causality.specs.Causality.{Skeleton}
use Rattle.hlc_arena.specs.History.{History}
use Rattle.hlc_causality.specs.Places.{places_below}
use Rattle.hlc_arena.specs.ClockRule.{HasLeastStamps}
use Rattle.hlc_causality.proofs.PlacesBelow.{length-places_below}
use Rattle.hlc_explain.specs.Summaries.{summaries_of, summary_of}
use Rattle.hlc_explain.specs.declared.answers.Summary.{Summary}
use Rattle.hlc_core.specs.Lawful.{IsLawful}
use Rattle.hlc_core.specs.Limit.{AreWithinLimit}
use Rattle.hlc_core.specs.Timed.{TimedRequest}
use Rattle.hlc_held.specs.LogEntry.{LogEntry}
use Rattle.hlc_held.specs.Seats.{NodeLog, fresh_seats}
use Rattle.hlc_shared.specs.Close.{EachAgrees}
use Rattle.hlc_shared.specs.Replicas.{EachHasFollowed}
use Rattle.hlc_script_commands.specs.Played.{IsPlayed, counts_text}

-- there is a summary of each event
pub length_summaries :
    (s : Skeleton) (pairs : List Pair) (summaries : List Summary) → summaries ≡ summaries_of s pairs → length summaries ≡ length s
length_summaries s pairs summaries same =
    ap (λ (list : List Summary). length list) same
    ∙ length-map (places_below (length s)) (summary_of s pairs)
    ∙ length-places_below (length s)

pub played : (seat_nodes nodes steps : ℕ) (limit : Option ℕ) (scripts lists : List (List TimedRequest)) (seats : List NodeLog) (h : History) (logs : ℕ → List LogEntry) (before after : Option (List ℕ)) →
    seat_nodes ≡ nodes → lists ≡ scripts → seats ≡ fresh_seats nodes → IsLawful h → HasLeastStamps h.events → h.nodes ≡ seat_nodes
    → h.capacity ≡ nodes * steps → AreWithinLimit limit h.events →
    EachAgrees h.events seat_nodes logs → EachHasFollowed lists seats logs →
    Appends before after (counts_text (length h.events) (length h.events)) → IsPlayed nodes steps limit scripts before after
played seat_nodes nodes steps limit scripts lists seats h logs before after same drawn fresh lawful least named room within agree followed text =
    record {
      history = h;
      logs = logs;
      lawful = lawful;
      least = least;
      nodes_named = named ∙ same;
      capacity_is = room;
      within = within;
      agree = subst (λ (n : ℕ). EachAgrees h.events n logs) same agree;
      followed = subst (λ (ls : List (List TimedRequest)). EachHasFollowed ls (fresh_seats nodes) logs) drawn
          (subst (λ (ss : List NodeLog). EachHasFollowed lists ss logs) fresh followed);
      text = text;
    }
