-- Logs that are followed along a walk.
use Rattle.std.proofs.Common.{◌≡◌, ◌∙◌, ℕ, ◌+◌, ◌<◌, ◌≤◌, Bool, true, false, List, [], ◌∷◌, ◌++◌, length, take, drop, get_or, arith, refl, sym, ap, subst, Option, Some, None, take-append-drop}
use Rattle.std.specs.Prelude.{not, option_map, slice_get, is_none}
use Rattle.std.proofs.lemmas.List.{take_all, take_more}
use Rattle.std.proofs.lemmas.List.Elements.{filter_map-append}
use Rattle.std.proofs.lemmas.Option.{get_or_from_slice_get, same_Some, slice_get-get_or, slice_get-map, slice_get_within}
use borrow.Author.Count.{below_more}
use Rattle.hlc_stamp.specs.Ids.{is_among}
use Rattle.hlc_stamp.specs.declared.id.EventId.{EventId}
use Rattle.hlc_arena.specs.History.{StampedEvent}
use Rattle.hlc_table.specs.Rows.{Row}
use Rattle.hlc_held.specs.declared.logged.Logged.{Logged}
use Rattle.hlc_held.specs.Agreement.{Agrees, FitsAfter, FitsThere, places_of_node}
use Rattle.hlc_held.specs.LogEntry.{DidAct, DidLook, LogEntry, event_named, events_named, log_entry_of, log_of}
use Rattle.hlc_held.specs.Sights.{sight_of_key}
use Rattle.hlc_table.specs.NodeWalk.{StandsAt, walk_of}
use Rattle.hlc_held.specs.Walks.{GoesOn, Strays, places_passed}
use Rattle.hlc_held.proofs.Walks.{none_is_next}

-- an entry of what a log says
pub entry_there : (log : List Logged) (i : ℕ) (x : Logged) → i < length log → x ≡ get_or log i x
    → slice_get (log_of log) i ≡ Some (log_entry_of x)
entry_there log i x lt is =
    slice_get-map log_entry_of log i ∙ ap (option_map log_entry_of) (slice_get-get_or log i x lt ∙ ap (λ (y : Logged). Some y) (sym is))

module _ (events : List StampedEvent) (node : ℕ) (log : List LogEntry) where
  fits_after : (entry : LogEntry) (earlier : List LogEntry) (named : List ℕ) → events_named earlier ≡ named
      → FitsThere events node named entry → FitsAfter events node earlier entry
  fits_after (DidAct reading request event stamp) earlier named is fits = fits
  fits_after (DidLook key answer) earlier named is fits = fits ∙ ap (λ (es : List ℕ). sight_of_key events (is_among es) node key) (sym is)

  fits_there : (entry : LogEntry) (earlier : List LogEntry) (named : List ℕ) → events_named earlier ≡ named
      → FitsAfter events node earlier entry → FitsThere events node named entry
  fits_there (DidAct reading request event stamp) earlier named is fits = fits
  fits_there (DidLook key answer) earlier named is fits = fits ∙ ap (λ (es : List ℕ). sight_of_key events (is_among es) node key) is

  -- the first i entries name the events that were passed, and each of them fits
  abbrev pub FollowedTo : ℕ → Option EventId → Type 0
  FollowedTo i next =
      (events_named (take i log) ≡ places_passed events node next)
      × ((k : ℕ) → k < i → (entry : LogEntry) → slice_get log k ≡ Some entry → FitsAfter events node (take k log) entry)

  named_with : (i : ℕ) (entry : LogEntry) (named : List ℕ) → slice_get log i ≡ Some entry → events_named (take i log) ≡ named
      → events_named (take (i + 1) log) ≡ named ++ events_named (entry ∷ [])
  named_with i entry named at is =
      ap (λ (l : List LogEntry). events_named l)
      (take_more log i entry (slice_get_within log i entry at) ∙ ap (λ (x : LogEntry). take i log ++ x ∷ []) (get_or_from_slice_get log i entry entry at))
      ∙ filter_map-append event_named (take i log) (entry ∷ [])
      ∙ ap (λ (es : List ℕ). es ++ events_named (entry ∷ [])) is

  -- one more entry is followed
  pub followed_more : (i : ℕ) (entry : LogEntry) (old new : Option EventId) → slice_get log i ≡ Some entry → FollowedTo i old
      → GoesOn events node entry old new → FollowedTo (i + 1) new
  followed_more i entry old new at followed goes =
      let Each : ℕ → Type 0 = λ k. (x : LogEntry) → slice_get log k ≡ Some x → FitsAfter events node (take k log) x in
      let here : Each i = λ x is. subst (λ (y : LogEntry). FitsAfter events node (take i log) y) (same_Some entry x (sym at ∙ is)) (fits_after entry (take i log) (places_passed events node old) followed.0 goes.fits) in (
        named_with i entry (places_passed events node old) at followed.0 ∙ goes.names,
        below_more Each i followed.1 here,
      )

  -- a log that strays agrees with nothing
  pub strayed : (i : ℕ) (entry : LogEntry) (next : Option EventId) → slice_get log i ≡ Some entry → FollowedTo i next
      → Strays events node entry next → Agrees events node log → ⊥
  strayed i entry next at followed strays agrees =
      let rest = drop (i + 1) log in
      let whole : events_named log ≡ (places_passed events node next ++ events_named (entry ∷ [])) ++ events_named rest =
      ap (λ (l : List LogEntry). events_named l) (sym (take-append-drop (i + 1) log))
      ∙ filter_map-append event_named (take (i + 1) log) rest
      ∙ ap (λ (es : List ℕ). es ++ events_named rest) (named_with i entry (places_passed events node next) at followed.0) in
      strays (fits_there entry (take i log) (places_passed events node next) followed.0 (agrees.each i entry at)) (events_named rest)
      (sym whole ∙ agrees.names)

  -- a log that was followed to its end agrees if no event is left
  pub followed_to_end : (i : ℕ) (known : List Row) (next : Option EventId) → length log ≤ i → StandsAt events (walk_of node known next)
      → FollowedTo i next
      → (is_none next ≡ true → Agrees events node log) × (Agrees events node log → is_none next ≡ true)
  followed_to_end i known next past stands followed =
      let whole : events_named log ≡ places_passed events node next = ap (λ (l : List LogEntry). events_named l) (sym (take_all i log past))
      ∙ followed.0 in (
        λ none. record {
          names = whole ∙ all_passed next none;
          each = λ k entry at. let within = slice_get_within log k entry at in followed.1 k (omega arith) entry at;
        },
        λ agrees. ap (λ (o : Option EventId). is_none o) (none_is_next events node known next stands (sym whole ∙ agrees.names)),
      )
    where
      all_passed : (next : Option EventId) → is_none next ≡ true → places_passed events node next ≡ places_of_node events node
      all_passed None none = refl
      all_passed (Some e) none = absurd (cc none)

-- what is some exactly if a test fails is none exactly if it holds
pub not_other : (s r : Bool) → s ≡ not r → not s ≡ r
not_other s true is = ap not is
not_other s false is = ap not is
