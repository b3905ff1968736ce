-- Lists of steps are printed, round by round and node by node.
use Rattle.std.proofs.Common.{◌≡◌, ◌∙◌, ℕ, zero, suc, ◌+◌, ◌<◌, ◌≤◌, List, [], ◌∷◌, ◌++◌, Option, Some, None, Vec, length, map, take, get_or, sym, ap, subst, arith, zero-add, add-one, add-zero, append-nil}
use Rattle.std.specs.Prelude.{All, filter_map, flat_map, option_map, slice_get}
use Rattle.std.specs.declared.alloc.Global.{Global}
use Rattle.std.specs.Io.KnownBytes.{Appends, append_known}
use Rattle.std.specs.List.{cons_option, enumerate_from, range_with_len}
use Rattle.std.proofs.lemmas.Grind.{flat_map-append}
use Rattle.std.proofs.lemmas.List.{get_or-map, length-map, length-take-le, map-append, take_more, take_all}
use Rattle.std.proofs.lemmas.List.Elements.{filter_map-append}
use Rattle.std.proofs.lemmas.Option.{slice_get-get_or, slice_get-map}
use Rattle.hlc_core.specs.declared.step.Step.{Step}
use Rattle.hlc_core.specs.Timed.{HaveLength, TimedRequest, requests_in, timed_request_of}
use Rattle.hlc_csv.specs.Rows.{AddsText, Fields, text_of, text_of_row}
use Rattle.hlc_text.specs.Steps.{printed_text, round_of, rounds_in, row_in_round, step_row}
use Rattle.hlc_csv.proofs.RowFacts.{adds_text-joined, adds_text-more, appends-handed_out, appends-none, text_of-append, text_of-one}

abbrev Steps : Type 0
Steps = Vec Step Global

abbrev requests_of : Steps → List TimedRequest
requests_of list = map timed_request_of list.items

enumerate_from-push : {X : Type 0} (n : ℕ) (xs : List X) (x : X)
    → enumerate_from n (xs ++ x ∷ []) ≡ enumerate_from n xs ++ (n + length xs, x) ∷ []
enumerate_from-push n [] x = ap (λ (k : ℕ). (k, x) ∷ []) (sym (add-zero n))
enumerate_from-push n (y ∷ ys) x =
    let at : n + 1 + length ys ≡ n + suc (length ys) = omega arith in
    ap (λ l. (n, y) ∷ l) (enumerate_from-push (n + 1) ys x) ∙ ap (λ (k : ℕ). (n, y) ∷ (enumerate_from (n + 1) ys ++ (k, x) ∷ [])) at

-- a round of one more list
round_of-push : (lists : List (List TimedRequest)) (list : List TimedRequest) (round : ℕ) (step : TimedRequest)
    → slice_get list round ≡ Some step
    → round_of (lists ++ list ∷ []) round ≡ round_of lists round ++ step_row (length lists) step ∷ []
round_of-push lists list round step is =
    let last : row_in_round round (0 + length lists, list) ≡ Some (step_row (length lists) step) =
    ap (λ (k : ℕ). row_in_round round (k, list)) (zero-add (length lists)) ∙ ap (option_map (step_row (length lists))) is in
    ap (filter_map (row_in_round round)) (enumerate_from-push 0 lists list)
    ∙ filter_map-append (row_in_round round) (enumerate_from 0 lists) ((0 + length lists, list) ∷ [])
    ∙ ap (λ (o : Option Fields). round_of lists round ++ cons_option o []) last

-- the records of a round at the first n nodes
abbrev pub first_of_round : List Steps → ℕ → ℕ → List Fields
first_of_round lists round n = round_of (requests_in (take n lists)) round

first_of_round-more : (lists : List Steps) (round n : ℕ) (d : Steps) (e : Step) → n < length lists → round < length (get_or lists n d).items
    → first_of_round lists round (n + 1) ≡ first_of_round lists round n
    ++ step_row n (timed_request_of (get_or (get_or lists n d).items round e)) ∷ []
first_of_round-more lists round n d e lt within =
    let list = get_or lists n d in
    let taken : requests_in (take (n + 1) lists) ≡ requests_in (take n lists) ++ requests_of list ∷ [] =
    ap requests_in (take_more lists n d lt) ∙ map-append requests_of (take n lists) (list ∷ []) in
    let size : length (requests_in (take n lists)) ≡ n = length-map (take n lists) requests_of ∙ length-take-le n lists (omega arith) in
    let step : slice_get (requests_of list) round ≡ Some (timed_request_of (get_or list.items round e)) =
    slice_get-map timed_request_of list.items round ∙ ap (option_map timed_request_of) (slice_get-get_or list.items round e within) in
    ap (λ (ls : List (List TimedRequest)). round_of ls round) taken
    ∙ round_of-push (requests_in (take n lists)) (requests_of list) round _ step
    ∙ ap (λ (k : ℕ). first_of_round lists round n ++ step_row k (timed_request_of (get_or list.items round e)) ∷ []) size

adds_none : (a : Option (List ℕ)) (text : List ℕ) → AddsText a a text text []
adds_none None text = tt
adds_none (Some x) text = sym (append-nil (x ++ text))

-- the records of a round are added, node by node
abbrev pub HasRound : List Steps → ℕ → ℕ → (before now : Option (List ℕ)) → (old new : List ℕ) → Type 0
HasRound lists round n before now old new = AddsText before now old new (text_of (first_of_round lists round n))

pub has_round-none : (lists : List Steps) (round : ℕ) (a : Option (List ℕ)) (text : List ℕ) → HasRound lists round 0 a a text text
has_round-none lists round a text = adds_none a text

pub has_round-more : (lists : List Steps) (round n : ℕ) (list : Steps) (step : Step) (a b c : Option (List ℕ)) (old mid new : List ℕ)
    → n < length lists → round < length (get_or lists n list).items
    → list ≡ get_or lists n list → step ≡ get_or list.items round step → HasRound lists round n a b old mid
    → AddsText b c mid new (text_of_row (step_row n (timed_request_of step)))
    → HasRound lists round (n + 1) a c old new
has_round-more lists round n list step a b c old mid new lt within is_list is_step before more =
    let found : step ≡ get_or (get_or lists n list).items round step = is_step ∙ ap (λ (l : Steps). get_or l.items round step) is_list in
    let row = step_row n (timed_request_of (get_or (get_or lists n list).items round step)) in
    let texts : text_of (first_of_round lists round (n + 1)) ≡ text_of (first_of_round lists round n) ++ text_of_row row =
    ap text_of (first_of_round-more lists round n list step lt within) ∙ text_of-append (first_of_round lists round n) (row ∷ [])
    ∙ ap (λ (t : List ℕ). text_of (first_of_round lists round n) ++ t) (text_of-one row) in
    let added : AddsText b c mid new (text_of_row row) =
    subst (λ (s : Step). AddsText b c mid new (text_of_row (step_row n (timed_request_of s)))) found more in
    subst (AddsText a c old new) (sym texts)
    (adds_text-joined a b c old mid new (text_of (first_of_round lists round n)) (text_of_row row) before added)

pub has_round-all : (lists : List Steps) (round n : ℕ) (a b : Option (List ℕ)) (old new : List ℕ) → length lists ≤ n
    → HasRound lists round n a b old new
    → AddsText a b old new (text_of (round_of (requests_in lists) round))
has_round-all lists round n a b old new full added =
    subst (λ (ls : List Steps). AddsText a b old new (text_of (round_of (requests_in ls) round))) (take_all n lists full) added

-- the rounds are added one by one
abbrev pub first_rounds : List Steps → ℕ → List Fields
first_rounds lists n = flat_map (round_of (requests_in lists)) (range_with_len 0 n)

abbrev pub HasPrinted : List Steps → ℕ → (before now : Option (List ℕ)) → List ℕ → Type 0
HasPrinted lists n before now rows = Appends before (append_known now rows) (text_of (first_rounds lists n))

pub has_printed-none : (lists : List Steps) (before : Option (List ℕ)) → HasPrinted lists 0 before before []
has_printed-none lists before = appends-none before

range-suc : (a n : ℕ) → range_with_len a (suc n) ≡ range_with_len a n ++ (a + n) ∷ []
range-suc a zero = ap (λ (k : ℕ). k ∷ []) (sym (add-zero a))
range-suc a (suc n) =
    let at : a + 1 + n ≡ a + suc n = omega arith in
    ap (λ (l : List ℕ). a ∷ l) (range-suc (a + 1) n) ∙ ap (λ (k : ℕ). a ∷ (range_with_len (a + 1) n ++ k ∷ [])) at

range-more : (a n : ℕ) → range_with_len a (n + 1) ≡ range_with_len a n ++ (a + n) ∷ []
range-more a n = ap (range_with_len a) (add-one n) ∙ range-suc a n

pub has_printed-more : (lists : List Steps) (n : ℕ) (before now then : Option (List ℕ)) (old new : List ℕ)
    → HasPrinted lists n before now old
    → AddsText now then old new (text_of (round_of (requests_in lists) n)) → HasPrinted lists (n + 1) before then new
has_printed-more lists n before now then old new printed more =
    let round = round_of (requests_in lists) in
    let rows : first_rounds lists (n + 1) ≡ first_rounds lists n ++ round n =
    ap (flat_map round) (range-more 0 n ∙ ap (λ (k : ℕ). range_with_len 0 n ++ k ∷ []) (zero-add n))
    ∙ flat_map-append round (range_with_len 0 n) (n ∷ []) ∙ ap (λ (rs : List Fields). first_rounds lists n ++ rs) (append-nil (round n)) in
    let texts : text_of (first_rounds lists (n + 1)) ≡ text_of (first_rounds lists n) ++ text_of (round n) =
    ap text_of rows ∙ text_of-append (first_rounds lists n) (round n) in
    subst (Appends before (append_known then new)) (sym texts)
    (adds_text-more before now then old new (text_of (first_rounds lists n)) (text_of (round n)) printed more)

pub has_printed-all : (lists : List Steps) (n : ℕ) (before now after : Option (List ℕ)) (rows : List ℕ) → n ≡ rounds_in (requests_in lists)
    → HasPrinted lists n before now rows → Appends now after rows → Appends before after (printed_text (requests_in lists))
has_printed-all lists n before now after rows all printed sent =
    subst (λ (k : ℕ). Appends before after (text_of (first_rounds lists k))) all
    (appends-handed_out before now after rows (text_of (first_rounds lists n)) printed sent)

-- lists of one length have a step in each round
first_length : (lists : List Steps) (steps : ℕ) → HaveLength steps (requests_in lists) → (round : ℕ) → round < rounds_in (requests_in lists)
    → round < steps
first_length [] steps same round lt = absurd (omega arith)
first_length (list ∷ lists) steps same round lt =
    let first : length (requests_of list) ≡ steps = same 0 [] (omega arith) in
    omega arith

pub round_within : (lists : List Steps) (steps round : ℕ) → HaveLength steps (requests_in lists) → round < rounds_in (requests_in lists)
    → All (λ (list : Steps). round < length list.items) lists
round_within lists steps round same lt = λ k d in_lists.
    let list = get_or lists k d in
    let below = first_length lists steps same round lt in
    let size = length-map lists requests_of in
    let here : length (get_or (requests_in lists) k (requests_of d)) ≡ steps = same k (requests_of d) (omega arith) in
    let mapped : get_or (requests_in lists) k (requests_of d) ≡ requests_of list =
    get_or-map requests_of lists k d (requests_of d) in_lists in
    let given = ap length mapped in
    let items = length-map list.items timed_request_of in
    omega arith
