-- Learning what is news to a table is learning all.
use Rattle.std.proofs.Common.{◌≡◌, ◌≤◌, ◌∙◌, ℕ, suc, Bool, true, false, cond, List, [], ◌∷◌, ◌++◌, fold, get_or, length, position, take, arith, refl, subst, sym, ap, Option, Some, None, is_some}
use Rattle.std.proofs.lemmas.List.{length-append, map-append}
use Rattle.std.proofs.lemmas.Bool.Decides.{nat_tests}
use Rattle.std.proofs.lemmas.List.Folds.{list_any_at}
use Rattle.std.proofs.lemmas.List.Quantifiers.{position-Some}
use Rattle.std.proofs.lemmas.List.Sums.{fold_push}
use Rattle.std.proofs.lemmas.Slice.Eq.{bytes_eq-Decides}
use Rattle.std.specs.Str.{bytes_eq}
use Rattle.hlc_table.specs.declared.entry.Entry.{Entry}
use Rattle.hlc_table.specs.Rows.{IsPlaceOf, Row, entry_at, greater_entry, keys_in, learn_entry, ranks_below}
use Rattle.hlc_table.proofs.KeyOrder.{is_known, is_some-entry_at, keys_in-learn_entry}
use Rattle.hlc_table.proofs.Learning.{entry_at-learn_entry, entry_at-learnt_other, entry_with, learnt_same}
use Rattle.hlc_table.specs.declared.news.News.{News}
use Rattle.hlc_table.specs.TableNews.{HavePlaces, key_in, rows_with_news}

-- the key at its place
pub key_at_its_place : (rows : List Row) (key : List ℕ) (place : ℕ) → IsPlaceOf rows key place → key_in rows place ≡ key
key_at_its_place rows key place is =
    let stands = position-Some (bytes_eq key) (keys_in rows) place [] is in
    sym ((bytes_eq-Decides key (get_or (keys_in rows) place [])).0 stands.1)

-- a key that stands at a place keeps all keys where they are
pub keys_stay : (rows : List Row) (key : List ℕ) (place : ℕ) (new : Entry) → IsPlaceOf rows key place
    → keys_in (learn_entry rows key new) ≡ keys_in rows
keys_stay rows key place new is =
    let there = position-Some (bytes_eq key) (keys_in rows) place [] is in
    let known : is_known (keys_in rows) key ≡ true = list_any_at (bytes_eq key) (keys_in rows) place [] there.0 there.1 in
    keys_in-learn_entry rows key new ∙ ap (λ b. cond b (keys_in rows) (keys_in rows ++ key ∷ [])) known

-- rows have an entry of a key, of no less rank than another
abbrev pub HasNoLess : List Row → List ℕ → Entry → Type 0
HasNoLess rows key held = (now : Entry) × (entry_at rows key ≡ Some now) × (ranks_below now held ≡ false)

-- entries of one list have ranks no less than those of another
abbrev pub KeepRanks : List Row → List Row → Type 0
KeepRanks old new = (key : List ℕ) (held : Entry) → entry_at old key ≡ Some held → HasNoLess new key held

pub ranks_kept : (rows : List Row) → KeepRanks rows rows
ranks_kept rows key held is = (held, is, grind (arith, nat_tests))

no_less : (a b d : Entry) → ranks_below a b ≡ false → ranks_below b d ≡ false → ranks_below a d ≡ false
no_less a b d h k = grind (arith, nat_tests)

greater_no_less : (a b d : Entry) → ranks_below a d ≡ false → ranks_below (greater_entry a b) d ≡ false
greater_no_less a b d h = by (ranks_below a b) refl where
  by : (t : Bool) → ranks_below a b ≡ t → ranks_below (cond t b a) d ≡ false
  by true is = grind (arith, nat_tests)
  by false is = h

-- what is no news to the old rows is none to the new ones
pub no_news : (old new : List Row) (key : List ℕ) (held entry : Entry) → KeepRanks old new → entry_at old key ≡ Some held
    → ranks_below held entry ≡ false → learn_entry new key entry ≡ new
no_news old new key held entry kept is less =
    let now = kept key held is in
    learnt_same new key now.0 entry now.1 (no_less now.0 held entry now.2 less)

pub ranks_kept-more : (old new : List Row) (key : List ℕ) (entry : Entry) → KeepRanks old new → KeepRanks old (learn_entry new key entry)
ranks_kept-more old new key entry kept other held is = by (bytes_eq other key) refl (kept other held is) where
  by : (t : Bool) → bytes_eq other key ≡ t → HasNoLess new other held → HasNoLess (learn_entry new key entry) other held
  by true same now =
      let other_is : other ≡ key = (bytes_eq-Decides other key).0 same in
      let at : entry_at new key ≡ Some now.0 = ap (entry_at new) (sym other_is) ∙ now.1 in
      let of_other = ap (entry_at (learn_entry new key entry)) other_is in
      let learnt = entry_at-learn_entry new key entry ∙ ap (λ (o : Option Entry). Some (entry_with o entry)) at in
      (greater_entry now.0 entry, of_other ∙ learnt, greater_no_less now.0 entry held now.2)
  by false apart now = (now.0, entry_at-learnt_other new key other entry apart ∙ now.1, now.2)

-- one more piece of news
pub rows_with_news-push : (rows : List Row) (news : List News) (one : News)
    → rows_with_news rows (news ++ one ∷ []) ≡ learn_entry (rows_with_news rows news) (key_in rows one.place) one.entry
rows_with_news-push rows news one =
    fold_push (λ (before : List Row) (n : News). learn_entry before (key_in rows n.place) n.entry) rows news one

-- what stands in for news if there is none
abbrev pub no_one : News
no_one = record {
  place = 0;
  entry = record { write = record { 0 = 0 }; rank = record { stamp = record { l = 0; c = 0 }; node = record { 0 = 0 } } };
}

-- a key that rows don't have is learnt last
pub learnt_last : (rows : List Row) (key : List ℕ) (new : Entry) → entry_at rows key ≡ None
    → learn_entry rows key new ≡ rows ++ record { key = key; entry = new } ∷ []
learnt_last [] key new none = refl
learnt_last (row ∷ rows) key new none = grind (arith, learnt_last rows key new)

position-append : {X : Type 0} (t : X → Bool) (xs ys : List X) (k : ℕ) → position t xs ≡ Some k → position t (xs ++ ys) ≡ Some k
position-append t [] ys k is = cc
position-append t (x ∷ xs) ys k is = grind (arith, λ (j : ℕ) (at : position t xs ≡ Some j). position-append t xs ys j at)

-- a key that is learnt last leaves the others at their places
place_stays : (rows : List Row) (key : List ℕ) (new : Entry) (other : List ℕ) (place : ℕ) → entry_at rows key ≡ None
    → IsPlaceOf rows other place → IsPlaceOf (learn_entry rows key new) other place
place_stays rows key new other place none is =
    let last : List Row = record { key = key; entry = new } ∷ [] in
    let keys = sym (map-append (λ (row : Row). row.key) rows last) in
    subst (λ all. position (bytes_eq other) (keys_in all) ≡ Some place) (sym (learnt_last rows key new none))
    (subst (λ keys. position (bytes_eq other) keys ≡ Some place) keys
    (position-append (bytes_eq other) (keys_in rows) (key ∷ []) place is))

key_stays : (rows : List Row) (key : List ℕ) (new : Entry) (place : ℕ) → entry_at rows key ≡ None
    → IsPlaceOf rows (key_in rows place) place → key_in (learn_entry rows key new) place ≡ key_in rows place
key_stays rows key new place none is =
    key_at_its_place (learn_entry rows key new) (key_in rows place) place (place_stays rows key new (key_in rows place) place none is)

-- so news keep their places
pub places_stay : (rows : List Row) (key : List ℕ) (new : Entry) (news : List News) → entry_at rows key ≡ None → HavePlaces rows news
    → HavePlaces (learn_entry rows key new) news
places_stay rows key new news none places k d within =
    let there = places k d within in
    let place = (get_or news k d).place in
    let size : length rows ≤ length (learn_entry rows key new) =
    let longer = ap length (learnt_last rows key new none) in
    let more = length-append rows (record { key = key; entry = new } ∷ []) in
    omega arith in
    let same_key = sym (key_stays rows key new place none there.1) in
    let stays = place_stays rows key new (key_in rows place) place none there.1 in
    (omega arith, subst (λ at. IsPlaceOf (learn_entry rows key new) at place) same_key stays)

-- what is learnt of another key can be learnt before what comes last
commutes : (rows : List Row) (key other : List ℕ) (new entry : Entry) → is_known (keys_in rows) key ≡ false
    → is_known (keys_in rows) other ≡ true
    → learn_entry (learn_entry rows key new) other entry ≡ learn_entry (learn_entry rows other entry) key new
commutes [] key other new entry none known = cc
commutes (row ∷ rows) key other new entry none known =
    grind (arith, commutes rows key other new entry, bytes_eq-Decides other row.key, bytes_eq-Decides key row.key)

module _ (rows : List Row) (key : List ℕ) (new : Entry) (none : entry_at rows key ≡ None) where
  after_news : (before : List Row) (news : List News) → keys_in before ≡ keys_in rows → HavePlaces rows news
      → fold (λ b n. learn_entry b (key_in (learn_entry rows key new) n.place) n.entry) (learn_entry before key new) news
      ≡ learn_entry (fold (λ b n. learn_entry b (key_in rows n.place) n.entry) before news) key new
  after_news before [] keys places = refl
  after_news before (n ∷ news) keys places =
      let there = places 0 n (omega arith) in
      let k = key_in rows n.place in
      let same : key_in (learn_entry rows key new) n.place ≡ k = key_stays rows key new n.place none there.1 in
      let at : IsPlaceOf before k n.place = subst (λ all. position (bytes_eq k) all ≡ Some n.place) (sym keys) there.1 in
      let found = position-Some (bytes_eq k) (keys_in before) n.place [] at in
      let known : is_known (keys_in before) k ≡ true = list_any_at (bytes_eq k) (keys_in before) n.place [] found.0 found.1 in
      let absent : is_known (keys_in before) key ≡ false =
      ap (λ all. is_known all key) keys ∙ sym (is_some-entry_at rows key) ∙ ap is_some none in
      let learn : List Row → News → List Row = λ b m. learn_entry b (key_in (learn_entry rows key new) m.place) m.entry in
      let keys_after = keys_stay before k n.place n.entry at ∙ keys in
      ap (λ (other : List ℕ). fold learn (learn_entry (learn_entry before key new) other n.entry) news) same
      ∙ ap (λ (b : List Row). fold learn b news) (commutes before key k new n.entry absent known)
      ∙ after_news (learn_entry before k n.entry) news keys_after (λ i d within. places (suc i) d (omega arith))

-- news, if a key comes last in the table
pub rows_with_news-last : (rows : List Row) (key : List ℕ) (new : Entry) (news : List News) → entry_at rows key ≡ None
    → HavePlaces rows news
    → rows_with_news (learn_entry rows key new) news ≡ learn_entry (rows_with_news rows news) key new
rows_with_news-last rows key new news none places = after_news rows key new none rows news refl places

learnt_no_less : (o : Option Entry) (e : Entry) → ranks_below (entry_with o e) e ≡ false
learnt_no_less None e = grind (arith, nat_tests)
learnt_no_less (Some f) e = by (ranks_below f e) refl where
  by : (t : Bool) → ranks_below f e ≡ t → ranks_below (cond t e f) e ≡ false
  by true is = grind (arith, nat_tests)
  by false is = is

pub ranks_kept-both : (old new : List Row) (key : List ℕ) (entry : Entry) → entry_at old key ≡ None → KeepRanks old new
    → KeepRanks (learn_entry old key entry) (learn_entry new key entry)
ranks_kept-both old new key entry none kept other held is = by (bytes_eq other key) refl where
  by : (t : Bool) → bytes_eq other key ≡ t → HasNoLess (learn_entry new key entry) other held
  by true same =
      let other_is : other ≡ key = (bytes_eq-Decides other key).0 same in
      let learnt = entry_at-learn_entry old key entry ∙ ap (λ (o : Option Entry). Some (entry_with o entry)) none in
      let found : Some entry ≡ Some held = sym learnt ∙ ap (entry_at (learn_entry old key entry)) (sym other_is) ∙ is in
      let held_is : entry ≡ held = grind (arith, found) in (
        entry_with (entry_at new key) entry,
        ap (entry_at (learn_entry new key entry)) other_is ∙ entry_at-learn_entry new key entry,
        subst (λ h. ranks_below (entry_with (entry_at new key) entry) h ≡ false) held_is (learnt_no_less (entry_at new key) entry),
      )
  by false apart =
      let now = kept other held (sym (entry_at-learnt_other old key other entry apart) ∙ is) in
      (now.0, entry_at-learnt_other new key other entry apart ∙ now.1, now.2)

-- a list that begins with another still does when it gets longer
pub take_stays : (first rows more : List Row) → take (length first) rows ≡ first → take (length first) (rows ++ more) ≡ first
take_stays [] rows more is = refl
take_stays (row ∷ first) [] more is = cc
take_stays (row ∷ first) (other ∷ rows) more is = grind (arith, take_stays first rows more)
