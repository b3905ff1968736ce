use Rattle.std.proofs.Common.{◌≡◌, ◌∙◌, ℕ, ◌+◌, ◌<◌, List, [], ◌∷◌, ◌++◌, None, arith, ap, drop, get_or, length, map, subst, sym, take}
use Rattle.std.proofs.lemmas.Bool.Decides.{nat_tests}
use Rattle.std.proofs.lemmas.List.{at_drop_more}
use Rattle.std.proofs.Math.Seq.{take-length}
use Rattle.std.proofs.lemmas.List.Elements.{All-push}
use Rattle.std.proofs.lemmas.Result.{err_from_is_err_and}
use Rattle.hlc_stamp.specs.declared.id.EventId.{EventId}
use Rattle.hlc_stamp.specs.declared.rank.Rank.{Rank}
use Rattle.hlc_arena.specs.History.{StampedEvent}
use Rattle.hlc_arena.specs.Known.{key_at, rank_at}
use Rattle.hlc_table.specs.declared.entry.Entry.{Entry}
use Rattle.hlc_table.specs.Rows.{IsPlaceOf, Row, entry_at, learn_entry, ranks_below}
use Rattle.hlc_table.specs.declared.news.News.{News}
use Rattle.hlc_table.specs.TableNews.{HavePlaces, key_in, rows_with_news}
use Rattle.hlc_table.specs.Tables.{entry_for, rows_with}
use Rattle.hlc_table.proofs.NewsLearnt.{KeepRanks, key_at_its_place, learnt_last, no_news, places_stay, ranks_kept, ranks_kept-both, ranks_kept-more, rows_with_news-last, rows_with_news-push, take_stays}
use Rattle.hlc_table.proofs.OneWrites.{write_there}
use Rattle.hlc_table.proofs.learner.learn_keys.Goals as goal
use Rattle.hlc_table.proofs.learner.learn_keys.Goals.{then-lt+in_ok-push, else-lt}

pub loop-write-init : goal.loop-write-init
loop-write-init c =
    let events = c.args.history.now.events in
    let table = c.args.table.now in
    let none = c.new-news.ensures.items in
    record {
      left = ap (λ news. rows_with events (rows_with_news table news) (map (λ (w : EventId). w.0) c.args.writes.now)) none;
      places = subst (HavePlaces table) (sym none) (λ k d within. absurd (omega arith));
      ranks = subst (λ news. KeepRanks table (rows_with_news table news)) (sym none) (ranks_kept table);
      stays = take-length table;
    }

pub key_and_rank-requires : goal.key_and_rank-requires
key_and_rank-requires c =
    let at = c.loop-write.write-index in
    let there = write_there c.args.history.now.events c.args.writes.now at (record { 0 = 0 }) c.requires c.loop-write-test.true in
    record { exists = there.0; write = there.1 }

-- rows after the writes from a place on are learnt
abbrev rows_from : List StampedEvent → List Row → List EventId → ℕ → List Row
rows_from events rows writes at = rows_with events rows (map (λ (v : EventId). v.0) (drop at writes))

-- what is left after one more write is learnt
left_after : (events : List StampedEvent) (writes : List EventId) (at : ℕ) (key : List ℕ) (rank : Rank) (before after total : List Row)
    → at < length writes
    → key ≡ key_at events (get_or writes at (record { 0 = 0 })).0 → rank ≡ rank_at events (get_or writes at (record { 0 = 0 })).0
    → after ≡ learn_entry before key (record { write = get_or writes at (record { 0 = 0 }); rank = rank })
    → rows_from events before writes at ≡ total
    → rows_from events after writes (at + 1) ≡ total
left_after events writes at key rank before after total lt key_is rank_is is left =
    let w : EventId = get_or writes at (record { 0 = 0 }) in
    let step : after ≡ learn_entry before (key_at events w.0) (entry_for events w.0) = is ∙ simp (key_is, rank_is) in
    ap (λ (rows : List Row). rows_from events rows writes (at + 1)) step
    ∙ sym (at_drop_more (λ (vs : List EventId). rows_with events before (map (λ (v : EventId). v.0) vs)) writes at (record { 0 = 0 }) lt)
    ∙ left

module _ (c : goal.Joined-lt) where
  abbrev w : EventId
  w = get_or c.args.writes.now c.loop-write.write-index (record { 0 = 0 })

  abbrev new : Entry
  new = record { write = w; rank = c.key_and_rank.result.1 }

  -- the rows with the news so far
  abbrev before : List Row
  before = rows_with_news c.loop-write.table c.loop-write.news.items

  left : (after : List Row) → after ≡ learn_entry before c.key_and_rank.result.0.now new
      → rows_from c.args.history.now.events after c.args.writes.now (c.loop-write.write-index + 1)
      ≡ rows_with c.args.history.now.events c.args.table.now (map (λ (v : EventId). v.0) c.args.writes.now)
  left after is =
      let at = c.loop-write.write-index in
      let written = c.key_and_rank.result in
      left_after c.args.history.now.events c.args.writes.now at written.0.now written.1 before after _ c.loop-write-test.true
      c.key_and_rank.ensures.key c.key_and_rank.ensures.rank is c.loop-write.invariant.left

  below : c.lt.result ≡ ranks_below c.in-Some.held new
  below = c.lt.ensures ∙ grind (arith, nat_tests)

pub loop-write-preserved : goal.loop-write-preserved
loop-write-preserved c =
    let table = c.loop-write.table in
    let news = c.loop-write.news.items in
    let so_far = c.loop-write.invariant in
    let key = c.key_and_rank.result.0.now in
    let place = c.in-Some.ensures.place in
    let key_there = key_at_its_place table key c.in-Some.place place in
    elim c.if-lt.branch [
      | then-lt+in_ok-push t ↦
          let one : News = record { place = c.in-Some.place; entry = new c } in
          let items : c.if-lt.news.items ≡ news ++ one ∷ [] = ap (λ news. news.items) t.news-is ∙ t.in_ok-push.ensures.items in
          let rows : rows_with_news table c.if-lt.news.items ≡ learn_entry (before c) key (new c) =
          ap (rows_with_news table) items
          ∙ rows_with_news-push table news one
          ∙ ap (λ key. learn_entry (before c) key (new c)) key_there in
          let HasPlace : News → Type 0 = λ n. (n.place < length table) × IsPlaceOf table (key_in table n.place) n.place in
          let one_place : HasPlace one =
          (c.in-Some.ensures.there, subst (λ key. IsPlaceOf table key c.in-Some.place) (sym key_there) place) in
          record {
            left = left c (rows_with_news table c.if-lt.news.items) rows;
            places = subst (HavePlaces table) (sym items) (All-push HasPlace news one so_far.places one_place);
            ranks = subst (KeepRanks table) (sym rows) (ranks_kept-more table (before c) key (new c) so_far.ranks);
            stays = so_far.stays;
          }
      | else-lt t ↦
          let items = ap (λ news. news.items) t.news-is in
          let rows = ap (rows_with_news table) items in
          let held = sym c.in-Some.ensures.entry in
          let same = no_news table (before c) key c.in-Some.held (new c) so_far.ranks held (sym (below c) ∙ t.if-lt.false) in
          record {
            left = left c (rows_with_news table c.if-lt.news.items) (rows ∙ sym same);
            places = subst (HavePlaces table) (sym items) so_far.places;
            ranks = subst (KeepRanks table) (sym rows) so_far.ranks;
            stays = so_far.stays;
          }
    ]

pub loop-write-preserved-in_default : goal.loop-write-preserved-in_default
loop-write-preserved-in_default c =
    let table = c.loop-write.table in
    let news = c.loop-write.news.items in
    let key = c.key_and_rank.result.0.now in
    let so_far = c.loop-write.invariant in
    let at = c.loop-write.write-index in
    let rank = c.key_and_rank.result.1 in
    let entry : Entry = record { write = get_or c.args.writes.now at (record { 0 = 0 }); rank = rank } in
    let last : List Row = record { key = key; entry = entry } ∷ [] in
    let before = rows_with_news table news in
    let none : entry_at table key ≡ None = sym c.in_default.ensures.entry in
    let learns : c.learn.new.self ≡ learn_entry table key entry = c.in_ok-learn.ensures.learnt in
    let rows : rows_with_news c.learn.new.self news ≡ learn_entry before key entry =
    ap (λ (all : List Row). rows_with_news all news) learns ∙ rows_with_news-last table key entry news none so_far.places in
    let ranks : KeepRanks c.learn.new.self (learn_entry before key entry) =
    subst (λ (all : List Row). KeepRanks all (learn_entry before key entry)) (sym learns)
    (ranks_kept-both table before key entry none so_far.ranks) in
    record {
      left =
          left_after c.args.history.now.events c.args.writes.now at key rank before (rows_with_news c.learn.new.self news) _
          c.loop-write-test.true c.key_and_rank.ensures.key c.key_and_rank.ensures.rank rows so_far.left;
      places = subst (λ (all : List Row). HavePlaces all news) (sym learns) (places_stay table key entry news none so_far.places);
      ranks = subst (KeepRanks c.learn.new.self) (sym rows) ranks;
      stays =
          ap (take (length c.args.table.now)) (learns ∙ learnt_last table key entry none)
          ∙ take_stays c.args.table.now table last so_far.stays;
    }

pub returns-in_err-learn-clause-news : goal.returns-in_err-learn-clause-news
returns-in_err-learn-clause-news c = rw (err_from_is_err_and c.from_residual.result c.from_residual.ensures.1).1 tt

pub returns-in_err-learn-clause-stays : goal.returns-in_err-learn-clause-stays
returns-in_err-learn-clause-stays c =
    ap (take (length c.args.table.now)) (c.in_err-learn.ensures.unchanged (λ is. absurd (cc))) ∙ c.loop-write.invariant.stays

pub returns-in_err-push-clause-news : goal.returns-in_err-push-clause-news
returns-in_err-push-clause-news c = rw (err_from_is_err_and c.from_residual-in_err-push.result c.from_residual-in_err-push.ensures.1).1 tt

pub returns-in_err-push-clause-stays : goal.returns-in_err-push-clause-stays
returns-in_err-push-clause-stays c = c.loop-write.invariant.stays

pub returns-clause-stays : goal.returns-clause-stays
returns-clause-stays c = c.loop-write.invariant.stays
