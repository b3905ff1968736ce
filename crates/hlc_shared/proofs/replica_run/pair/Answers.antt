use Rattle.std.proofs.Common.{◌≡◌, ◌∙◌, ◌++◌, ◌∷◌, [], ◌⊎◌, List, ap, append_assoc, arith, inl, inr, length, length-append, map, sym}
use Rattle.std.proofs.lemmas.List.{append-nil, length-map, map-append}
use Rattle.std.proofs.lemmas.Result.{err_from_is_err_and}
use Rattle.hlc_shared.specs.declared.replicas.Job.{Job}
use Rattle.hlc_shared.proofs.replica_run.pair.Goals as goal

-- a part of each job so far, and what is left, are all when one more is taken
taken : {J A : Type 0} (part : J → A) (jobs more : List J) (job : J) (left rest all : List A) → more ≡ jobs ++ job ∷ []
    → left ≡ part job ∷ rest
    → map part jobs ++ left ≡ all → map part more ++ rest ≡ all
taken part jobs more job left rest all is_more is_left whole =
    ap (λ js. map part js ++ rest) is_more ∙ ap (λ xs. xs ++ rest) (map-append part jobs (job ∷ []))
    ∙ append_assoc (map part jobs) (part job ∷ []) rest ∙ sym (ap (λ xs. map part jobs ++ xs) is_left) ∙ whole

-- if nothing is left, a part of each job is all there is
none_left : {J A : Type 0} (part : J → A) (jobs : List J) (left all : List A) → map part jobs ++ left ≡ all → length left ≡ 0
    → map part jobs ≡ all
none_left part jobs [] all whole none = sym (append-nil (map part jobs)) ∙ whole
none_left part jobs (x ∷ left) all whole none = absurd (omega (arith, none))

-- if one list has nothing left, neither does the other, which was as long
both_taken : {J A B : Type 0} (one : J → A) (two : J → B) (jobs : List J) (xs us : List A) (ys vs : List B) → map one jobs ++ xs ≡ us
    → map two jobs ++ ys ≡ vs
    → length vs ≡ length us → (length xs ≡ 0) ⊎ (length ys ≡ 0) → (map one jobs ≡ us) × (map two jobs ≡ vs)
both_taken one two jobs xs us ys vs first second same none =
    let ones = sym (length-append (map one jobs) xs) ∙ ap length first in
    let twos = sym (length-append (map two jobs) ys) ∙ ap length second in
    let count_one = length-map jobs one in
    let count_two = length-map jobs two in
    elim none [
      | inl no_x ↦ (none_left one jobs xs us first no_x, none_left two jobs ys vs second (omega (arith, ones, twos, count_one, count_two, same, no_x)))
      | inr no_y ↦ (none_left one jobs xs us first (omega (arith, ones, twos, count_one, count_two, same, no_y)), none_left two jobs ys vs second no_y)
    ]

pub push_reserved-requires : goal.push_reserved-requires
push_reserved-requires g c =
    let jobs = c.loop-seat.jobs in
    let left = c.loop-seat.seat-iterator.a.rest in
    let steps = c.in-Some.ensures.steps in
    let all = sym (length-append (map (λ (job : Job g.row.L.Denot). job.seat) jobs.items) left.items) ∙ ap length c.loop-seat.invariant.0 in
    let count = length-map jobs.items (λ (job : Job g.row.L.Denot). job.seat) in
    let some = ap length steps.0.0 in
    let room = c.loop-seat.invariant.2 in
    omega (arith, jobs.ok.0, all, count, some, room)

pub loop-seat-preserved : goal.loop-seat-preserved
loop-seat-preserved g c =
    let steps = c.in-Some.ensures.steps in
    let pushed = c.push_reserved.ensures.items in
    let room = c.loop-seat.invariant.2 in (
      taken (λ (job : Job g.row.L.Denot). job.seat) c.loop-seat.jobs.items c.push_reserved.new.self.items _
          c.loop-seat.seat-iterator.a.rest.items c.next.new.self.a.rest.items c.args.seats.items
          pushed steps.0.0 c.loop-seat.invariant.0,
      taken (λ (job : Job g.row.L.Denot). job.steps) c.loop-seat.jobs.items c.push_reserved.new.self.items _
          c.loop-seat.seat-iterator.b.rest.items c.next.new.self.b.rest.items c.args.lists.items
          pushed steps.1.0 c.loop-seat.invariant.1,
      omega (arith, room, c.push_reserved.ensures.capacity),
    )

pub returns : goal.returns
returns g c =
    let left = c.loop-seat.seat-iterator in
    let same = sym c.args.lists.ok.0 ∙ c.requires ∙ c.args.seats.ok.0 in
    let none : (length left.a.rest.items ≡ 0) ⊎ (length left.b.rest.items ≡ 0) =
    elim c.in-None.ensures.steps [ inl e ↦ inl (sym left.a.rest.ok.0 ∙ e.1.0) | inr e ↦ inr (sym left.b.rest.ok.0 ∙ e.1.0) ] in
    let both = both_taken (λ (job : Job g.row.L.Denot). job.seat) (λ (job : Job g.row.L.Denot). job.steps) c.loop-seat.jobs.items
    left.a.rest.items c.args.seats.items left.b.rest.items c.args.lists.items c.loop-seat.invariant.0 c.loop-seat.invariant.1 same none in
    record { seats = both.0; lists = both.1 }

pub returns-in_err-jobs : goal.returns-in_err-jobs
returns-in_err-jobs g c = rw (err_from_is_err_and c.from_residual.result c.from_residual.ensures.1).1 record { seats = tt; lists = tt }
