-- The messages that didn't arrive, each once.
use Rattle.std.proofs.Common.{◌≡◌, ◌∙◌, ℕ, ◌+◌, ◌-◌, ◌^◌, ◌≤◌, ◌==◌, ◌&&◌, Bool, true, false, cond, inl, inr, All, Contains, List, [], ◌∷◌, Option, Some, None, ap, arith, eq-eqb, eqb-true, find, length, min, refl, sym}
use Rattle.std.specs.List.{sum_by}
use Rattle.std.specs.Map.{lookup}
use Rattle.std.specs.Option.{option_or}
use Rattle.std.specs.Prelude.{count_by, fold}
use Rattle.std.proofs.lemmas.Bool.{and_parts, cases_Bool}
use Rattle.std.proofs.lemmas.List.Elements.{All-cons, All-head, All-nil, All-tail, Contains-append_cases}
use Rattle.std.proofs.lemmas.List.Sums.{sum_by-cons}
use Rattle.indexmap.specs.IndexMap.{insert_entry}
use Rattle.hlc_diagram.specs.CrossLaws.{FailsFirst, is_again}
use Rattle.hlc_diagram.specs.Failed.{add_failure, is_same_message, message_of, messages_in, with_failure}
use Rattle.hlc_diagram.specs.declared.failed.Failed.{Failed}
use Rattle.hlc_diagram.specs.declared.failed.Message.{Message}
use Rattle.hlc_diagram.specs.declared.undelivered.Undelivered.{Undelivered}
use Rattle.hlc_figures.proofs.Placed.{in_one}

abbrev pub Entries : Type 0
Entries = List (Message × Failed)

-- messages are told apart
pub same_message : (a b : Message) → is_same_message a b ≡ true → a ≡ b
same_message a b is =
    let parts = and_parts (a.send.0 == b.send.0) (a.to.0 == b.to.0) is in
    let sends = eqb-true a.send.0 b.send.0 parts.0 in
    let nodes = eqb-true a.to.0 b.to.0 parts.1 in
    λ i. record { send = record { 0 = sends i }; to = record { 0 = nodes i } }

pub message_itself : (a : Message) → is_same_message a a ≡ true
message_itself a =
    let send : (a.send.0 == a.send.0) ≡ true = eq-eqb a.send.0 a.send.0 refl in
    let to : (a.to.0 == a.to.0) ≡ true = eq-eqb a.to.0 a.to.0 refl in
    λ i. send i && to i

-- what is kept of a message: it, and how many entries it has
abbrev pub found : Message → Entries → Option Failed
found k entries = lookup (is_same_message k) entries

abbrev pub counts : Message → Message × Failed → ℕ
counts k e = cond (is_same_message k e.0) 1 0

abbrev pub entries_of : Message → Entries → ℕ
entries_of k entries = sum_by (counts k) entries

pub first_counted : (k : Message) (e : Message × Failed) (es : Entries) → entries_of k (e ∷ es) ≡ counts k e + entries_of k es
first_counted k e es = sum_by-cons (counts k) e es

-- an entry is that of the message that failed first
abbrev pub IsKeyed : Message × Failed → Type 0
IsKeyed e = e.0 ≡ message_of e.1.first

found_keyed : (k : Message) (entries : Entries) (f : Failed) → All IsKeyed entries → found k entries ≡ Some f → k ≡ message_of f.first
found_keyed k [] f keyed is = absurd (cc)
found_keyed k (e ∷ es) f keyed is =
    elim (cases_Bool (is_same_message k e.0)) [
      | inl same ↦
          let here : e.1 ≡ f = (let h : Some e.1 ≡ Some f = rw same at is in cc) in
          same_message k e.0 same ∙ All-head IsKeyed e es keyed ∙ ap (λ (f : Failed). message_of f.first) here
      | inr differs ↦ found_keyed k es f (All-tail IsKeyed e es keyed) (rw differs at is)
    ]

-- a message that is entered
module _ (key : Message) (v : Failed) where
  abbrev entered : Entries → Entries
  entered entries = insert_entry is_same_message entries key v

  found_entered : (k : Message) (entries : Entries) → found k (entered entries) ≡ cond (is_same_message k key) (Some v) (found k entries)
  found_entered k [] = refl
  found_entered k (e ∷ es) =
      elim (cases_Bool (is_same_message key e.0)) [
        | inl here ↦
            let there = same_message key e.0 here in
            let tests : is_same_message k key ≡ is_same_message k e.0 = ap (is_same_message k) there in
            elim (cases_Bool (is_same_message k e.0)) [
              | inl same ↦ let with_key : is_same_message k key ≡ true = tests ∙ same in rw (here, with_key, same) refl
              | inr differs ↦ let with_key : is_same_message k key ≡ false = tests ∙ differs in rw (here, with_key, differs) refl
            ]
        | inr past ↦
            elim (cases_Bool (is_same_message k e.0)) [
              | inl same ↦
                  elim (cases_Bool (is_same_message k key)) [
                    | inl with_key ↦
                        let here : key ≡ e.0 = sym (same_message k key with_key) ∙ same_message k e.0 same in
                        let both : true ≡ false = sym (message_itself key) ∙ ap (is_same_message key) here ∙ past in
                        absurd (cc)
                    | inr without ↦ rw (past, same, without) refl
                  ]
              | inr differs ↦ rw (past, differs) (found_entered k es)
            ]
      ]

  count_entered : (k : Message) (entries : Entries) → entries_of k entries ≤ 1 → entries_of k (entered entries) ≤ 1
  count_entered k [] few =
      let alone = sum_by-cons (counts k) (key, v) [] in
      elim (cases_Bool (is_same_message k key)) [
        | inl same ↦ let one : counts k (key, v) ≡ 1 = rw same refl in omega (arith, alone)
        | inr differs ↦ let none : counts k (key, v) ≡ 0 = rw differs refl in omega (arith, alone)
      ]
  count_entered k (e ∷ es) few =
      let all = sum_by-cons (counts k) e es in
      elim (cases_Bool (is_same_message key e.0)) [
        | inl here ↦ let same = sum_by-cons (counts k) (e.0, v) es in rw here (omega (arith, all, same, few))
        | inr past ↦
            let rest = sum_by-cons (counts k) e (entered es) in
            elim (cases_Bool (is_same_message k e.0)) [
              | inl same ↦
                  let one : counts k e ≡ 1 = rw same refl in
                  let other : is_same_message k key ≡ false = apart k e.0 same past in
                  let kept = count_other k other es in
                  rw past (omega (arith, all, rest, few))
              | inr differs ↦
                  let none : counts k e ≡ 0 = rw differs refl in
                  let later = count_entered k es (omega (arith, all, few)) in
                  rw past (omega (arith, rest, later))
            ]
      ]
    where
      apart : (k a : Message) → is_same_message k a ≡ true → is_same_message key a ≡ false → is_same_message k key ≡ false
      apart k a same past =
          elim (cases_Bool (is_same_message k key)) [
            | inl with_key ↦
                let here : key ≡ a = sym (same_message k key with_key) ∙ same_message k a same in
                let both : true ≡ false = sym (message_itself key) ∙ ap (is_same_message key) here ∙ past in
                absurd (cc)
            | inr without ↦ without
          ]

      count_other : (k : Message) → is_same_message k key ≡ false → (entries : Entries) → entries_of k (entered entries) ≡ entries_of k entries
      count_other k other [] =
          let alone = sum_by-cons (counts k) (key, v) [] in
          let none : counts k (key, v) ≡ 0 = rw other refl in
          omega (arith, alone)
      count_other k other (e ∷ es) =
          let all = sum_by-cons (counts k) e es in
          elim (cases_Bool (is_same_message key e.0)) [
            | inl here ↦ let same = sum_by-cons (counts k) (e.0, v) es in rw here (omega (arith, all, same))
            | inr past ↦
                let rest = sum_by-cons (counts k) e (entered es) in
                let kept = count_other k other es in
                rw past (omega (arith, all, rest, kept))
          ]

  keyed_entered : key ≡ message_of v.first → (entries : Entries) → All IsKeyed entries → All IsKeyed (entered entries)
  keyed_entered is [] keyed = All-cons IsKeyed (key, v) [] is (All-nil IsKeyed)
  keyed_entered is (e ∷ es) keyed =
      let rest = All-tail IsKeyed e es keyed in
      elim (cases_Bool (is_same_message key e.0)) [
        | inl here ↦ rw here (All-cons IsKeyed (e.0, v) es (sym (same_message key e.0 here) ∙ is) rest)
        | inr past ↦ rw past (All-cons IsKeyed e (entered es) (All-head IsKeyed e es keyed) (keyed_entered is es rest))
      ]

-- how often a message failed, and when first
abbrev most : ℕ
most = 2 ^ 64 - 1

abbrev pub times_of : Option Failed → ℕ
times_of None = 0
times_of (Some f) = f.times

abbrev pub first_of : Option Failed → Option Undelivered
first_of None = None
first_of (Some f) = Some f.first

times_more : (o : Option Failed) (place : ℕ) (m : Undelivered) → times_of (Some (with_failure o place m)) ≡ min (times_of o + 1) most
times_more None place m = omega arith
times_more (Some f) place m = refl

first_more : (o : Option Failed) (place : ℕ) (m : Undelivered) → first_of (Some (with_failure o place m)) ≡ option_or (first_of o) (Some m)
first_more None place m = refl
first_more (Some f) place m = refl

-- what is kept of a message when one fails
module _ (k : Message) where
  abbrev is_of : Undelivered → Bool
  is_of m = is_same_message k (message_of m)

  failed_again : (entries : Entries) (m : Undelivered) → is_of m ≡ true →
      found k (add_failure entries m) ≡ Some (with_failure (found k entries) (length entries) m)
  unfolding add_failure
  failed_again entries m same =
      let it = same_message k (message_of m) same in
      found_entered (message_of m) (with_failure (found (message_of m) entries) (length entries) m) k entries
      ∙ (rw same (ap (λ (key : Message). (let o : Option Failed = Some (with_failure (found key entries) (length entries) m) in o)) (sym it)))

  failed_other : (entries : Entries) (m : Undelivered) → is_of m ≡ false → found k (add_failure entries m) ≡ found k entries
  unfolding add_failure
  failed_other entries m differs =
      found_entered (message_of m) (with_failure (found (message_of m) entries) (length entries) m) k entries ∙ (rw differs refl)

  abbrev times_in : List Undelivered → ℕ
  times_in ms = count_by (λ m. is_same_message k (message_of m)) ms

  abbrev one_time : Undelivered → ℕ
  one_time m = cond (is_same_message k (message_of m)) 1 0

  times_after : (ms : List Undelivered) (entries : Entries) → times_of (found k entries) ≤ most →
      times_of (found k (fold add_failure entries ms)) ≡ min (times_of (found k entries) + times_in ms) most
  times_after [] entries few = omega arith
  times_after (m ∷ ms) entries few =
      let all : times_in (m ∷ ms) ≡ one_time m + times_in ms = sum_by-cons one_time m ms in
      elim (cases_Bool (is_same_message k (message_of m))) [
        | inl same ↦
            let one : one_time m ≡ 1 = rw same refl in
            let now : times_of (found k (add_failure entries m)) ≡ min (times_of (found k entries) + 1) most =
            ap times_of (failed_again entries m same) ∙ times_more (found k entries) (length entries) m in
            let later = times_after ms (add_failure entries m) (omega arith) in
            omega (arith, later)
        | inr differs ↦
            let none : one_time m ≡ 0 = rw differs refl in
            let now : times_of (found k (add_failure entries m)) ≡ times_of (found k entries) = ap times_of (failed_other entries m differs) in
            let later = times_after ms (add_failure entries m) (omega arith) in
            omega (arith, later)
      ]

  or_again : (o p q : Option Undelivered) → option_or (option_or o p) q ≡ option_or o (option_or p q)
  or_again None p q = refl
  or_again (Some m) p q = refl

  first_after : (ms : List Undelivered) (entries : Entries) →
      first_of (found k (fold add_failure entries ms)) ≡ option_or (first_of (found k entries)) (find (λ m. is_same_message k (message_of m)) ms)
  first_after [] entries = by_cases (first_of (found k entries))
    where
      by_cases : (o : Option Undelivered) → o ≡ option_or o None
      by_cases None = refl
      by_cases (Some m) = refl
  first_after (m ∷ ms) entries =
      let rest : Option Undelivered = find (λ m. is_same_message k (message_of m)) ms in
      elim (cases_Bool (is_same_message k (message_of m))) [
        | inl same ↦
            let now : first_of (found k (add_failure entries m)) ≡ option_or (first_of (found k entries)) (Some m) =
            ap first_of (failed_again entries m same) ∙ first_more (found k entries) (length entries) m in
            first_after ms (add_failure entries m) ∙ ap (λ (o : Option Undelivered). option_or o rest) now
            ∙ or_again (first_of (found k entries)) (Some m) rest ∙ (rw same refl)
        | inr differs ↦
            let now : first_of (found k (add_failure entries m)) ≡ first_of (found k entries) = ap first_of (failed_other entries m differs) in
            first_after ms (add_failure entries m) ∙ ap (λ (o : Option Undelivered). option_or o rest) now ∙ (rw differs refl)
      ]

  few_more : (entries : Entries) (m : Undelivered) → entries_of k entries ≤ 1 → entries_of k (add_failure entries m) ≤ 1
  unfolding add_failure
  few_more entries m few =
      count_entered (message_of m) (with_failure (found (message_of m) entries) (length entries) m) k entries few

  few_after : (ms : List Undelivered) (entries : Entries) → entries_of k entries ≤ 1 → entries_of k (fold add_failure entries ms) ≤ 1
  few_after [] entries few = few
  few_after (m ∷ ms) entries few = few_after ms (add_failure entries m) (few_more entries m few)

key_kept : (entries : Entries) (m : Undelivered) → All IsKeyed entries → (o : Option Failed) → found (message_of m) entries ≡ o →
    message_of m ≡ message_of (with_failure o (length entries) m).first
key_kept entries m keyed None is = refl
key_kept entries m keyed (Some f) is = found_keyed (message_of m) entries f keyed is

keyed_more : (entries : Entries) (m : Undelivered) → All IsKeyed entries → All IsKeyed (add_failure entries m)
unfolding add_failure
keyed_more entries m keyed =
    keyed_entered (message_of m) (with_failure (found (message_of m) entries) (length entries) m)
    (key_kept entries m keyed (found (message_of m) entries) refl) entries keyed

keyed_after : (ms : List Undelivered) (entries : Entries) → All IsKeyed entries → All IsKeyed (fold add_failure entries ms)
keyed_after [] entries keyed = keyed
keyed_after (m ∷ ms) entries keyed = keyed_after ms (add_failure entries m) (keyed_more entries m keyed)

pub all_keyed : (ms : List Undelivered) → All IsKeyed (messages_in ms)
all_keyed ms = keyed_after ms [] (All-nil IsKeyed)

pub one_entry : (ms : List Undelivered) (k : Message) → entries_of k (messages_in ms) ≤ 1
one_entry ms k = few_after k ms [] (omega arith)

-- an entry is found by its message
pub entry_found : (k : Message) (entries : Entries) (e : Message × Failed) → entries_of k entries ≤ 1 → is_same_message k e.0 ≡ true → Contains entries e →
    found k entries ≡ Some e.1
entry_found k [] e few same among = let lt = among.1 in absurd (omega arith)
entry_found k (d ∷ es) e few same among =
    let all = sum_by-cons (counts k) d es in
    elim (Contains-append_cases (d ∷ []) es e among) [
      | inl here ↦
          let is : d ≡ e = in_one d e here in
          let test : is_same_message k d.0 ≡ true = ap (λ (x : Message × Failed). is_same_message k x.0) is ∙ same in
          rw test (ap (λ (x : Message × Failed). (let o : Option Failed = Some x.1 in o)) is)
      | inr later ↦
          elim (cases_Bool (is_same_message k d.0)) [
            | inl first ↦
                let one : counts k d ≡ 1 = rw first refl in
                let some = counted k es e same later in
                absurd (omega (arith, all, few, some))
            | inr differs ↦ rw differs (entry_found k es e (omega (arith, all, few)) same later)
          ]
    ]
  where
    counted : (k : Message) (entries : Entries) (e : Message × Failed) → is_same_message k e.0 ≡ true → Contains entries e → 1 ≤ entries_of k entries
    counted k [] e same among = let lt = among.1 in absurd (omega arith)
    counted k (d ∷ es) e same among =
        let all = sum_by-cons (counts k) d es in
        elim (Contains-append_cases (d ∷ []) es e among) [
          | inl here ↦
              let is : d ≡ e = in_one d e here in
              let test : is_same_message k d.0 ≡ true = ap (λ (x : Message × Failed). is_same_message k x.0) is ∙ same in
              let one : counts k d ≡ 1 = rw test refl in
              omega (arith, all)
          | inr later ↦ let rest = counted k es e same later in omega (arith, all, rest)
        ]

-- what is kept of a message that failed first at m, and of each
first_is : (o : Option Failed) (m : Undelivered) → first_of o ≡ Some m → (f : Failed) × (o ≡ Some f) × (f.first ≡ m)
first_is None m is = let none : None ≡ Some m = is in absurd (cc)
first_is (Some f) m is = (f, refl, (let h : Some f.first ≡ Some m = is in cc))

pub first_kept : (ms : List Undelivered) (m : Undelivered) → FailsFirst ms m →
    (f : Failed) × (found (message_of m) (messages_in ms) ≡ Some f) × (f.first ≡ m)
first_kept ms m first = first_is (found (message_of m) (messages_in ms)) m (first_after (message_of m) ms [] ∙ first)

pub kept_is_first : (ms : List Undelivered) (f : Failed) → found (message_of f.first) (messages_in ms) ≡ Some f → FailsFirst ms f.first
kept_is_first ms f kept = sym (first_after (message_of f.first) ms []) ∙ ap first_of kept

pub kept_times : (ms : List Undelivered) (f : Failed) → found (message_of f.first) (messages_in ms) ≡ Some f →
    f.times ≡ min (count_by (is_again f.first) ms) most
kept_times ms f kept =
    let all = times_after (message_of f.first) ms [] (omega arith) in
    let now : times_of (found (message_of f.first) (messages_in ms)) ≡ f.times = ap times_of kept in
    omega (arith, all)
