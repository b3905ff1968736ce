-- What is kept of the events that records add is what a watch keeps of them.
use Rattle.std.proofs.Common.{◌≡◌, ◌∙◌, ◌<◌, ◌≤◌, ◌++◌, ◌∷◌, [], List, Option, Some, None, ℕ, zero, suc, Contains, append-nil, append_assoc, ap, arith, get_or, length, length-append, refl, subst, sym}
use Rattle.std.proofs.Math.ListN.{get_or-append}
use Rattle.std.proofs.Math.Seq.{get_or-append_seam}
use Rattle.std.proofs.lemmas.List.{get_or-map}
use Rattle.hlc_causality.specs.declared.receives.Receives.{Receives}
use Rattle.hlc_causality.specs.declared.receives.Receives.TheVariants.{Merge, MergeClock, Tick}
use Rattle.hlc_log.specs.declared.log_event.LogEvent.{LogEvent}
use Rattle.hlc_log.specs.declared.log_event.LogKind.{LogKind}
use Rattle.hlc_log.specs.declared.log_event.LogKind.TheVariants as kind
use Rattle.hlc_log.specs.Events.{no_event, of_kind}
use Rattle.hlc_log_text.specs.FileMarks.{begun_file}
use Rattle.hlc_log_text.specs.NamedEvent.{NamedEvent}
use Rattle.hlc_log_text.specs.declared.bad_log.BadLog.{BadLog}
use Rattle.hlc_watch.specs.Coming.{ruled_at}
use Rattle.hlc_watch.specs.Laws.{kept_after, told_as}
use Rattle.hlc_watch.specs.Records.{ruled_by}
use Rattle.hlc_watch.specs.Watching.{KeptLog, after_event}
use Rattle.hlc_watch.specs.declared.records.Records.{Records}
use Rattle.hlc_watch.specs.declared.ruled_event.RuledEvent.{RuledEvent}
use Rattle.hlc_watched_log.specs.Laws.{FileEvent, TellsAsWatched, event_by_item, event_by_mark, event_next, events_from, events_of, events_told, file_at, message_number, name_at, numbered, numbered_kind}
use Rattle.hlc_watched_log.specs.Watched.{WatchedLog, bad_of, event_on, log_by, message_of, on_line, said_event}
use Rattle.hlc_watched_log.specs.Watching.{Placed, WatchState, at_first, log_after, said_next, state_after, state_by_mark, state_next}
use Rattle.hlc_watched_log.specs.declared.watch_rules.WatchRules.{WatchRules}

-- the event at a place
abbrev pub no_item : FileEvent
no_item = record { file = 0; event = no_event; message = [] }

abbrev pub item_at : List FileEvent → ℕ → FileEvent
item_at events n = get_or events n no_item

-- an event as a clock rule reads it, which doesn't look at the number of its message
abbrev ruled_item : Receives → FileEvent → RuledEvent
ruled_item receives x = ruled_by receives x.file x.event

ruled_of_kind : (receives : Receives) (file number : ℕ) (event : LogEvent) (kind : LogKind)
    → ruled_by receives file (of_kind (numbered_kind number kind) event) ≡ ruled_by receives file (of_kind kind event)
ruled_of_kind receives file number event kind.Local = refl
ruled_of_kind receives file number event (kind.Send message) = refl
ruled_of_kind Tick file number event (kind.Receive message) = refl
ruled_of_kind Merge file number event (kind.Receive message) = refl
ruled_of_kind MergeClock file number event (kind.Receive message) = refl
ruled_of_kind receives file number event kind.Restart = refl
ruled_of_kind receives file number event kind.Outside = refl

-- the name of the message at a place
pub name_here : (events : List FileEvent) (n : ℕ) → n < length events → name_at events n ≡ (item_at events n).message
name_here events n within = get_or-map (λ (x : FileEvent). x.message) events n no_item [] within

module _ (receives : Receives) (keep : ℕ) where
  abbrev kept_of : List FileEvent → ℕ → KeptLog
  kept_of events n = kept_after receives keep (file_at events) (name_at events) (events_of events) n

  -- what comes at a place
  pub ruled_here : (events : List FileEvent) (n : ℕ) → n < length events
      → ruled_at receives (file_at events) (events_of events) n ≡ ruled_item receives (item_at events n)
  ruled_here events n within =
      let x = item_at events n in
      let file = get_or-map (λ (x : FileEvent). x.file) events n no_item 0 within in
      let event = get_or-map (numbered events) events n no_item no_event within in
      (λ i. ruled_by receives (file i) (event i)) ∙ ruled_of_kind receives x.file (message_number events x.message) x.event x.event.kind

  -- what is kept of the first events doesn't depend on those after them
  kept_first : (xs ys : List FileEvent) (n : ℕ) → n ≤ length xs → kept_of (xs ++ ys) n ≡ kept_of xs n
  kept_first xs ys zero within = refl
  kept_first xs ys (suc n) within =
      let more = length-append xs ys in
      let item = get_or-append xs ys no_item n (omega arith) in
      let ruled = ruled_here (xs ++ ys) n (omega arith) ∙ ap (ruled_item receives) item ∙ sym (ruled_here xs n (omega arith)) in
      let name = name_here (xs ++ ys) n (omega arith) ∙ ap (λ (x : FileEvent). x.message) item ∙ sym (name_here xs n (omega arith)) in
      λ i. after_event (kept_first xs ys n (omega arith) i) (ruled i) (name i)

  -- the last event
  module _ (xs : List FileEvent) (x : FileEvent) where
    last_item : item_at (xs ++ x ∷ []) (length xs) ≡ x
    last_item = get_or-append_seam xs x [] no_item

    there : length xs < length (xs ++ x ∷ [])
    there = let more = length-append xs (x ∷ []) in omega arith

    pub ruled_last : ruled_at receives (file_at (xs ++ x ∷ [])) (events_of (xs ++ x ∷ [])) (length xs) ≡ ruled_item receives x
    ruled_last = ruled_here (xs ++ x ∷ []) (length xs) there ∙ ap (ruled_item receives) last_item

    pub name_last : name_at (xs ++ x ∷ []) (length xs) ≡ x.message
    name_last = name_here (xs ++ x ∷ []) (length xs) there ∙ ap (λ (x : FileEvent). x.message) last_item

    -- with one event more
    kept_more : kept_of (xs ++ x ∷ []) (length (xs ++ x ∷ [])) ≡ after_event (kept_of xs (length xs)) (ruled_item receives x) x.message
    kept_more =
        let size : length (xs ++ x ∷ []) ≡ suc (length xs) = grind (arith, length-append) in
        ap (kept_of (xs ++ x ∷ [])) size ∙ (λ i. after_event (kept_first xs (x ∷ []) (length xs) (omega arith) i) (ruled_last i) (name_last i))

-- these events came, and this is kept of them
abbrev IsKeptOf : WatchRules → List FileEvent → KeptLog → Type 0
IsKeptOf rules events kept = kept ≡ kept_of rules.records.receives rules.keep events (length events)

-- none more
none_more : (rules : WatchRules) (kept : KeptLog) (before : List FileEvent) → IsKeptOf rules before kept → IsKeptOf rules (before ++ []) kept
none_more rules kept before h = subst (λ (es : List FileEvent). IsKeptOf rules es kept) (sym (append-nil before)) h

kept_next : (rules : WatchRules) (log : WatchedLog) (before : List FileEvent) → IsKeptOf rules before log.kept
    → (why : Option BadLog) (event : Option NamedEvent) → IsKeptOf rules (before ++ event_by_item log why event) (log_by rules log why event).kept
kept_next rules log before h (Some why) event = none_more rules log.kept before h
kept_next rules log before h None None = none_more rules log.kept before h
kept_next rules log before h None (Some named) =
    let x : FileEvent = record { file = log.files.current; event = event_on log named; message = message_of named } in
    ap (λ (kept : KeptLog). after_event kept (ruled_by rules.records.receives x.file x.event) x.message) h ∙ sym (kept_more rules.records.receives rules.keep before x)

kept_by_mark : (rules : WatchRules) (state : WatchState) (next : Placed) (before : List FileEvent) → IsKeptOf rules before state.log.kept
    → (mark : Option (List ℕ)) → IsKeptOf rules (before ++ event_by_mark rules state next mark) (state_by_mark rules state next mark).log.kept
kept_by_mark rules state next before h None =
    let said = said_next rules state next in
    kept_next rules (on_line state.log next.1) before h (bad_of rules.records.form state.log.names.nodes said) (said_event said)
kept_by_mark rules state next before h (Some name) = none_more rules state.log.kept before h

kept_from : (rules : WatchRules) (state : WatchState) (before : List FileEvent) (records : List Placed) → IsKeptOf rules before state.log.kept
    → IsKeptOf rules (before ++ events_from rules state records) (state_after rules state records).log.kept
kept_from rules state before [] h = none_more rules state.log.kept before h
kept_from rules state before (next ∷ records) h =
    let more = kept_by_mark rules state next before h (begun_file next.0) in
    let after = state_next rules state next in
    subst (λ (es : List FileEvent). IsKeptOf rules es (state_after rules after records).log.kept)
    (append_assoc before (event_next rules state next) (events_from rules after records))
    (kept_from rules after (before ++ event_next rules state next) records more)

pub told_as_watched : TellsAsWatched
told_as_watched rules records next event told is there =
    let receives = rules.records.receives in
    let before = events_told rules records in
    let kept : IsKeptOf rules before (log_after rules records).kept = kept_from rules (at_first rules) [] records refl in
    subst (λ (all : List Records). Contains all told)
    (λ i. told_as ((kept ∙ sym (kept_first receives rules.keep before (event ∷ []) (length before) (omega arith))) i)
    (sym (ruled_last receives rules.keep before event) i) (sym (name_last receives rules.keep before event) i)) there
