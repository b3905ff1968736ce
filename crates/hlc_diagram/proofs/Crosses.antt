-- The laws of arrows that end in a cross.
use Rattle.std.proofs.Common.{◌≡◌, ◌∙◌, ℕ, ◌+◌, ◌-◌, ◌/◌, ◌<◌, ◌≤◌, Bool, true, false, inl, inr, All, Contains, List, [], ◌∷◌, Option, Some, None, arith, ap, refl, subst, sym}
use Rattle.std.specs.List.{filter_map, sum_by}
use Rattle.std.specs.Map.{values_of}
use Rattle.std.specs.Prelude.{cond, nat_le, nat_lt}
use Rattle.std.proofs.lemmas.Bool.{and_from, and_parts, cases_Bool}
use Rattle.std.proofs.lemmas.Bool.Decides.{nat_tests}
use Rattle.std.proofs.lemmas.List.Elements.{All-contains, All-head, All-tail}
use Rattle.std.proofs.lemmas.List.Sums.{sum_by-cons}
use Rattle.hlc_stamp.specs.Ids.{is_among}
use Rattle.hlc_figures.specs.Content.{Content}
use Rattle.hlc_figures.specs.FigureText.{named_lane_of}
use Rattle.hlc_figures.specs.Lanes.{lane_at, lane_of}
use Rattle.hlc_diagram.specs.Cross.{NamedCross, below, cross_of, cross_to, is_shown, named_cross}
use Rattle.hlc_diagram.specs.CrossLaws.{CrossesAreOfMessages, CrossesKeepClear, EachMessageHasItsCross, IsCrossOfMessage, IsShown, NothingElseChanges}
use Rattle.hlc_diagram.specs.Failed.{failed_in, is_same_message, message_of, messages_in}
use Rattle.hlc_svg.specs.Frame.{row_of}
use Rattle.hlc_svg.specs.Clear.{KeepsClear}
use Rattle.hlc_svg.specs.Path.{path_of}
use Rattle.hlc_diagram.specs.Picture.{picture_with}
use Rattle.hlc_svg.specs.declared.dot.Dot.{Dot}
use Rattle.hlc_svg.specs.declared.frame.Frame.{Frame}
use Rattle.hlc_svg.specs.declared.frame.TheConstants.{ROW}
use Rattle.hlc_diagram.specs.declared.failed.Failed.{Failed}
use Rattle.hlc_diagram.specs.declared.failed.Message.{Message}
use Rattle.hlc_diagram.specs.declared.undelivered.Undelivered.{Undelivered}
use Rattle.hlc_diagram.specs.declared.view.View.{View}
use Rattle.hlc_diagram.proofs.Apart.{around_room, room, room_for_two, stands}
use Rattle.hlc_svg.proofs.Clear.{path_keeps_clear, path_never_rises}
use Rattle.hlc_diagram.proofs.Drawn.{dot, dot_is, dot_there, frame, in_range, lanes, placed_from, placed_to, side_of}
use Rattle.hlc_diagram.proofs.FailedMessages.{Entries, IsKeyed, all_keyed, counts, entries_of, entry_found, first_counted, first_kept, found, kept_is_first, kept_times, message_itself, one_entry}
use Rattle.hlc_diagram.proofs.DrawnRows.{mapped}
use Rattle.hlc_diagram.proofs.Laned.{lane_there}
use Rattle.hlc_figures.proofs.NodeLanes.{among_at, among_from}
use Rattle.hlc_figures.proofs.Placed.{parts_of}

-- a message is shown if its send, the event before the next one, and its lane are drawn
pub record IsDrawable (frame : Frame) (lanes : List ℕ) (m : Undelivered) : Type 0 where
  pub from : frame.first ≤ m.send.0
  pub later : m.send.0 < m.before.0
  pub to : m.before.0 ≤ frame.end
  pub lane : is_among lanes m.to.0 ≡ true

pub drawable : (frame : Frame) (lanes : List ℕ) (m : Undelivered) → is_shown frame lanes m ≡ true → IsDrawable frame lanes m
drawable frame lanes m shown =
    let last = and_parts _ (is_among lanes m.to.0) shown in
    let third = and_parts _ (nat_le m.before.0 frame.end) last.0 in
    let two = and_parts (nat_le frame.first m.send.0) (nat_lt m.send.0 m.before.0) third.0 in
    let a : nat_le frame.first m.send.0 ≡ true = two.0 in
    let b : nat_lt m.send.0 m.before.0 ≡ true = two.1 in
    let d : nat_le m.before.0 frame.end ≡ true = third.1 in
    record { from = grind (arith, nat_tests, a); later = grind (arith, nat_tests, b); to = grind (arith, nat_tests, d); lane = last.1 }

shown_where :
    (frame : Frame) (lanes : List ℕ) (m : Undelivered) → frame.first ≤ m.send.0 → m.send.0 < m.before.0 → m.before.0 ≤ frame.end →
    is_among lanes m.to.0 ≡ true →
    is_shown frame lanes m ≡ true
shown_where frame lanes m from later to lane =
    let a : nat_le frame.first m.send.0 ≡ true = grind (arith, nat_tests, from) in
    let b : nat_lt m.send.0 m.before.0 ≡ true = grind (arith, nat_tests, later) in
    let d : nat_le m.before.0 frame.end ≡ true = grind (arith, nat_tests, to) in
    and_from _ _ (and_from _ _ (and_from _ _ a b) d) lane

module _ (c : Content) (view : View) where
  is_drawable : (m : Undelivered) → IsShown c view m → is_shown (frame c view) (lanes c view) m ≡ true
  is_drawable m shown =
      let from = placed_from c view m.send.0 shown.sent in
      let to = placed_to c view (m.before.0 - 1) shown.last in
      let later = shown.later in
      let (k, within, at) = shown.lane in
      shown_where (frame c view) (lanes c view) m from later (omega arith) (among_at (lanes c view) m.to.0 k within at)

  is_of_range : (m : Undelivered) → IsDrawable (frame c view) (lanes c view) m → IsShown c view m
  is_of_range m drawn =
      let from = drawn.from in
      let later = drawn.later in
      let to = drawn.to in
      record {
        sent = in_range c view m.send.0 from (omega arith);
        later = later;
        last = in_range c view (m.before.0 - 1) (omega arith) (omega arith);
        lane = among_from (lanes c view) m.to.0 drawn.lane;
      }

-- of a message comes an arrow if it is shown
pub is_cross : (c : Content) (frame : Frame) (lanes : List ℕ) (m : Failed) (x : NamedCross) → cross_of c frame lanes m ≡ Some x →
    IsDrawable frame lanes m.first × (named_cross c (cross_to c frame lanes m) ≡ x)
is_cross c frame lanes m x is =
    elim (cases_Bool (is_shown frame lanes m.first)) [
      | inl shown ↦ let same : Some (named_cross c (cross_to c frame lanes m)) ≡ Some x = rw shown at is in (drawable frame lanes m.first shown, cc)
      | inr hidden ↦ let none : None ≡ Some x = rw hidden at is in absurd (cc)
    ]

-- the arrows of one message: one, if it is shown
module _ (c : Content) (frame : Frame) (lanes : List ℕ) (k : Message) where
  abbrev of_message : NamedCross → ℕ
  of_message x = cond (is_same_message k (message_of x.cross.failed.first)) 1 0

  abbrev drawn : Entries → List NamedCross
  drawn entries = filter_map (cross_of c frame lanes) (values_of entries)

  abbrev one_if_shown : Option Failed → ℕ
  one_if_shown None = 0
  one_if_shown (Some f) = cond (is_shown frame lanes f.first) 1 0

  -- what the first of some entries adds
  abbrev added : Message × Failed → ℕ
  added e = cond (is_shown frame lanes e.1.first) (cond (is_same_message k (message_of e.1.first)) 1 0) 0

  adds : (e : Message × Failed) (es : Entries) → sum_by of_message (drawn (e ∷ es)) ≡ added e + sum_by of_message (drawn es)
  adds e es =
      elim (cases_Bool (is_shown frame lanes e.1.first)) [
        | inl shown ↦ rw shown (sum_by-cons of_message (named_cross c (cross_to c frame lanes e.1)) (drawn es))
        | inr hidden ↦ rw hidden (omega arith)
      ]

  adds_none : (e : Message × Failed) → IsKeyed e → is_same_message k e.0 ≡ false → added e ≡ 0
  adds_none e keyed differs =
      let other : is_same_message k (message_of e.1.first) ≡ false = ap (is_same_message k) (sym keyed) ∙ differs in
      elim (cases_Bool (is_shown frame lanes e.1.first)) [ inl shown ↦ rw (shown, other) refl | inr hidden ↦ rw hidden refl ]

  adds_one : (e : Message × Failed) → IsKeyed e → is_same_message k e.0 ≡ true → added e ≡ cond (is_shown frame lanes e.1.first) 1 0
  adds_one e keyed same =
      let it : is_same_message k (message_of e.1.first) ≡ true = ap (is_same_message k) (sym keyed) ∙ same in
      elim (cases_Bool (is_shown frame lanes e.1.first)) [ inl shown ↦ rw (shown, it) refl | inr hidden ↦ rw hidden refl ]

  none_drawn : (entries : Entries) → All IsKeyed entries → entries_of k entries ≡ 0 → sum_by of_message (drawn entries) ≡ 0
  none_drawn [] keyed none = refl
  none_drawn (e ∷ es) keyed none =
      let all = first_counted k e es in
      elim (cases_Bool (is_same_message k e.0)) [
        | inl same ↦ let one : counts k e ≡ 1 = rw same refl in absurd (omega (arith, all, none))
        | inr differs ↦
            let nothing = adds_none e (All-head IsKeyed e es keyed) differs in
            let rest = none_drawn es (All-tail IsKeyed e es keyed) (omega (arith, all, none)) in
            omega (arith, adds e es, nothing, rest)
      ]

  one_drawn : (entries : Entries) → All IsKeyed entries → entries_of k entries ≤ 1 → sum_by of_message (drawn entries) ≡ one_if_shown (found k entries)
  one_drawn [] keyed few = refl
  one_drawn (e ∷ es) keyed few =
      let all = first_counted k e es in
      let more = adds e es in
      elim (cases_Bool (is_same_message k e.0)) [
        | inl same ↦
            let one : counts k e ≡ 1 = rw same refl in
            let it = adds_one e (All-head IsKeyed e es keyed) same in
            let rest = none_drawn es (All-tail IsKeyed e es keyed) (omega (arith, all, few)) in
            let sum : sum_by of_message (drawn (e ∷ es)) ≡ cond (is_shown frame lanes e.1.first) 1 0 = omega (arith, more, it, rest) in
            sum ∙ sym (ap (λ (b : Bool). one_if_shown (cond b (Some e.1) (found k es))) same)
        | inr differs ↦
            let nothing = adds_none e (All-head IsKeyed e es keyed) differs in
            let rest = one_drawn es (All-tail IsKeyed e es keyed) (omega (arith, all, few)) in
            let sum : sum_by of_message (drawn (e ∷ es)) ≡ one_if_shown (found k es) = omega (arith, more, nothing, rest) in
            sum ∙ sym (ap (λ (b : Bool). one_if_shown (cond b (Some e.1) (found k es))) differs)
      ]

pub each_message_has_its_cross : EachMessageHasItsCross
each_message_has_its_cross c view undelivered m first shown =
    let k = message_of m in
    let kept = first_kept undelivered m first in
    let one = one_drawn c (frame c view) (lanes c view) k (messages_in undelivered) (all_keyed undelivered) (one_entry undelivered k) in
    let seen : is_shown (frame c view) (lanes c view) kept.0.first ≡ true =
    ap (is_shown (frame c view) (lanes c view)) kept.2 ∙ is_drawable c view m shown in
    one ∙ ap (one_if_shown c (frame c view) (lanes c view) k) kept.1 ∙ ap (λ (b : Bool). cond b 1 0) seen

-- a message that is drawn is found among those that didn't arrive
message_found : (undelivered : List Undelivered) (m : Failed) → Contains (failed_in undelivered) m →
    found (message_of m.first) (messages_in undelivered) ≡ Some m
message_found undelivered m among =
    let entries = messages_in undelivered in
    let entry = mapped (λ (e : Message × Failed). e.1) entries m among in
    let e = entry.0 in
    let keyed = All-contains IsKeyed entries e (all_keyed undelivered) entry.1 in
    let key : message_of m.first ≡ e.0 = ap (λ (f : Failed). message_of f.first) (sym entry.2) ∙ sym keyed in
    let same : is_same_message (message_of m.first) e.0 ≡ true = ap (is_same_message (message_of m.first)) (sym key) ∙ message_itself (message_of m.first) in
    entry_found (message_of m.first) entries e (one_entry undelivered (message_of m.first)) same entry.1 ∙ ap (λ (f : Failed). (let o : Option Failed = Some f in o)) entry.2

-- the height at which an arrow ends
below_room : (place : ℕ) → (ROW / 2 ≤ below place) × (below place < ROW)
below_room place = (omega arith, omega arith)

pub crosses_are_of_messages : CrossesAreOfMessages
crosses_are_of_messages c view undelivered x among =
    let made = parts_of (cross_of c (frame c view) (lanes c view)) (failed_in undelivered) x among in
    let f = made.0 in
    let m = f.first in
    let is = is_cross c (frame c view) (lanes c view) f x made.2 in
    let kept = message_found undelivered f made.1 in
    let shown : IsShown c view m = is_of_range c view m is.0 in
    let sent = m.send.0 in
    let last = m.before.0 - 1 in
    let from = is.0.from in
    let later = is.0.later in
    let rows : row_of (frame c view) sent ≤ row_of (frame c view) last = omega arith in
    let route = (cross_to c (frame c view) (lanes c view) f).route in
    let height = below_room f.place in
    let side = side_of c view (frame c view).half (room_for_two (frame c view).half) in
    let leaves = side (lane_at c (lanes c view) sent) (lane_of (lanes c view) m.to.0) in
    subst (λ (x : NamedCross). IsCrossOfMessage c view undelivered (picture_with c view undelivered) x) is.1 (record {
      handed_over = kept_is_first undelivered f kept;
      times = kept_times undelivered f kept;
      shown = shown;
      from = (dot c view sent, dot_there c view sent shown.sent, record { event = refl; level = refl; side = leaves });
      beside = (
        named_lane_of c (frame c view) (lanes c view) m.to.0,
        lane_there c view m.to.0 shown.lane,
        refl,
        side (lane_of (lanes c view) m.to.0) (lane_at c (lanes c view) sent),
      );
      below = (dot c view last, dot_there c view last shown.last, refl, omega (arith, height.0), omega (arith, height.1));
      down = omega (arith, height.0);
      falls = path_never_rises route rows (omega (arith, height.0));
      number = refl;
      name = refl;
    })

pub crosses_keep_clear : CrossesKeepClear
crosses_keep_clear c view undelivered x d among there =
    let made = parts_of (cross_of c (frame c view) (lanes c view)) (failed_in undelivered) x among in
    let is = is_cross c (frame c view) (lanes c view) made.0 x made.2 in
    let at = dot_is c view d there in
    let half = (frame c view).half in
    let clear =
    path_keeps_clear (cross_to c (frame c view) (lanes c view) made.0).route (room half) (around_room half) (omega arith) (room_for_two half) (dot c view at.0)
    (lane_at c (lanes c view) at.0) at.0 (stands c view at.0) in
    subst (λ (d : Dot). KeepsClear d (path_of x.cross.route)) at.2 (subst (λ (x : NamedCross). KeepsClear (dot c view at.0) (path_of x.cross.route)) is.1 clear)

pub nothing_else_changes : NothingElseChanges
nothing_else_changes c view undelivered = refl
