-- The command line of `hlc`, if clap finds no fault in its arguments.
use Rattle.std.proofs.Common.{◌≡◌, ◌∙◌, ap, cond, None, ◌&&◌, sym, subst, Bool, true, false, not, List, [], ◌∷◌, ◌++◌, Option, Some, refl, is_some, map, lit≤, ⊎_elim}
use Rattle.std.specs.Prelude.{◌≢◌, ◌↔◌, ℕ, Box, Err, IfErr, IfSome, IsSome, Ok, OnOk, Result, codes, find, option_map}
use Rattle.std.specs.Box.{box_value}
use Rattle.std.specs.List.{AllByRecursion}
use Rattle.std.specs.Str.{bytes_eq}
use Rattle.std.proofs.lemmas.Slice.Eq.{bytes_eq-Decides}
use Rattle.clap.specs.Kinds.{check_kinds}
use Rattle.clap.specs.Faults.{defaults_fault, entered_fault, fault_of, is_simple_and_free, settle_fault, walk_fault}
use Rattle.clap.specs.Simple.{App, Shape, argument_words, built, built_leaf, entered, help_shape, is_simple, label_of, names_of, subcommand_of, subcommand_rows, subcommand_rows_of}
use Rattle.clap.specs.Matches.{found_of, subcommand_name_of}
use Rattle.clap.specs.declared.parser.matches.ArgMatches.{ArgMatches}
use Rattle.clap.specs.declared.parser.matches.ArgMatches.TheViews.{out-ArgMatches, out-SubCommand}
use Rattle.clap.specs.declared.parser.matches.SubCommand.{SubCommand}
use Rattle.clap.specs.Walk.{Row, Text, answers_to, nothing_held, rows_after, rows_of, settled, walk, walk_from}
use Rattle.clap.proofs.OnLiterals.{clap_on_literals}
use Rattle.hlc_causality.specs.declared.receives.Receives.{Receives}
use Rattle.hlc_causality.specs.declared.receives.Receives.TheVariants as at_receives
use Rattle.hlc_packed.specs.Packed.{CanCount}
use Rattle.hlc_packed.specs.declared.packed_bits.PackedBits.{PackedBits}
use Rattle.hlc_command_line.specs.LineOption.{AreUnsigned}
use Rattle.hlc_command_line.specs.NumberOption.{IsNumberOf, IsOptionalNumber, IsSigned}
use Rattle.hlc_command_line.specs.Line.{HasOptions, HasUnlessSigned, IsEntered, IsRefusal, IsRefusedFound, all_numbers, around, capacity, draw_log_numbers, draw_log_options, every, explain, from, keep, limit, line_app, nodes, number_names, packed, positive, receives_word, rows_around, seed, steps, subcommand_audit, subcommand_draw, subcommand_draw_log, subcommand_run, subcommand_storm, subcommand_threads, subcommand_trace, subcommand_vectors, subcommand_watch, subcommands, to, tolerance}
use Rattle.hlc_command_line.specs.declared.line_fault.LineFault.{LineFault}
use Rattle.hlc_command_line.specs.declared.line_fault.LineFault.TheVariants as fault
use Rattle.hlc_command_line.proofs.App.Each.{Each}
use Rattle.hlc_command_line.proofs.App.Walks.{both_pass}
use Rattle.hlc_command_line.proofs.App.Stops.{enters, walk_no_help}
use Rattle.hlc_command_line.proofs.App.Subcommands.{IsOrderly, has_options, shape_of, unsigned_has}
use Rattle.hlc_command_line.proofs.App.Options.{TakesNumbers, signed_numbers, unsigned_numbers}

pub line_is_simple : is_simple line_app ≡ true
unfolding clap_on_literals
line_is_simple = refl

pub line_is_free : is_simple_and_free line_app ≡ true
unfolding clap_on_literals
line_is_free = refl

-- what clap says by what it was told, if that is the command `hlc`
module _ (told : App) (arguments : List Text) (same : told ≡ line_app) where
  pub none_wrong : (is_simple_and_free told ≡ true → fault_of told arguments ≡ []) → fault_of line_app arguments ≡ []
  none_wrong none = ap (λ (a : App). fault_of a arguments) (sym same) ∙ none (ap is_simple_and_free same ∙ line_is_free)

  pub found_rows : {X : Type 0} (rows : Option (Text × List Row)) → (is_simple told ≡ true → X × (rows ≡ subcommand_of told arguments))
      → rows ≡ subcommand_of line_app arguments
  found_rows rows found = (found (ap is_simple same ∙ line_is_simple)).1 ∙ ap (λ (a : App). subcommand_of a arguments) same

line_subcommands : (built line_app).subs ≡ map shape_of subcommands ++ built_leaf help_shape ∷ []
line_subcommands = refl

-- ---- each option is the first of its name, and takes numbers within its limits

nodes_are_numbers : TakesNumbers nodes
nodes_are_numbers = signed_numbers nodes.name _ _ (lit≤ tt)

capacity_is_number : TakesNumbers capacity
capacity_is_number = signed_numbers capacity.name _ _ (lit≤ tt)

steps_are_numbers : TakesNumbers steps
steps_are_numbers = signed_numbers steps.name _ _ (lit≤ tt)

seed_is_number : TakesNumbers seed
seed_is_number = unsigned_numbers seed.name _ _

limit_is_number : TakesNumbers limit
limit_is_number = unsigned_numbers limit.name _ _

explained_is_number : TakesNumbers explain
explained_is_number = unsigned_numbers explain.name _ _

first_is_number : TakesNumbers from
first_is_number = unsigned_numbers from.name _ _

last_is_number : TakesNumbers to
last_is_number = unsigned_numbers to.name _ _

around_is_number : TakesNumbers around
around_is_number = unsigned_numbers around.name _ _

packed_is_number : TakesNumbers packed
packed_is_number = unsigned_numbers packed.name _ _

tolerance_is_number : TakesNumbers tolerance
tolerance_is_number = unsigned_numbers tolerance.name _ _

positive_is_number : (name : Text) → TakesNumbers (positive name)
positive_is_number name = unsigned_numbers name _ _

line_is_orderly : Each IsOrderly subcommands
line_is_orderly =
    let run : IsOrderly subcommand_run = ((refl, nodes_are_numbers), ((refl, capacity_is_number), ((refl, limit_is_number), tt))) in
    let draw : IsOrderly subcommand_draw = (
      (refl, nodes_are_numbers),
      ((refl, capacity_is_number), ((refl, limit_is_number), ((refl, explained_is_number), ((refl, first_is_number), ((refl, last_is_number), ((refl, around_is_number), ((refl, positive_is_number rows_around.name), ((refl, tt), tt)))))))),
    ) in
    let trace : IsOrderly subcommand_trace =
    ((refl, nodes_are_numbers), ((refl, capacity_is_number), ((refl, limit_is_number), ((refl, tt), tt)))) in
    let audit : IsOrderly subcommand_audit = ((refl, packed_is_number), ((refl, tt), ((refl, tolerance_is_number), ((refl, tt), ((refl, tt), ((refl, tt), ((refl, tt), ((refl, tt), ((refl, tt), ((refl, tt), ((refl, tt), ((refl, tt), ((refl, tt), ((refl, tt), ((refl, limit_is_number), ((refl, tt), ((refl, tt), ((refl, tt), ((refl, tt), tt))))))))))))))))))) in
    let watch : IsOrderly subcommand_watch = (
      (refl, packed_is_number),
      (
        (refl, tt),
        ((refl, tolerance_is_number), ((refl, tt), ((refl, tt), ((refl, tt), ((refl, tt), ((refl, tt), ((refl, tt), ((refl, tt), ((refl, tt), ((refl, limit_is_number), ((refl, positive_is_number keep.name), ((refl, positive_is_number every.name), tt)))))))))))),
      ),
    ) in
    let draw_log : IsOrderly subcommand_draw_log = ((refl, packed_is_number), ((refl, tt), ((refl, tolerance_is_number), ((refl, tt), ((refl, tt), ((refl, tt), ((refl, tt), ((refl, tt), ((refl, tt), ((refl, tt), ((refl, tt), ((refl, tt), ((refl, tt), ((refl, tt), ((refl, tt), ((refl, tt), ((refl, tt), ((refl, positive_is_number rows_around.name), ((refl, tt), tt))))))))))))))))))) in
    let vectors : IsOrderly subcommand_vectors = (
      (refl, packed_is_number),
      ((refl, tt), ((refl, tolerance_is_number), ((refl, tt), ((refl, tt), ((refl, tt), ((refl, tt), ((refl, tt), ((refl, tt), ((refl, tt), ((refl, tt), ((refl, tt), ((refl, tt), tt)))))))))))),
    ) in
    let storm : IsOrderly subcommand_storm = ((refl, nodes_are_numbers), ((refl, steps_are_numbers), ((refl, seed_is_number), tt))) in
    let threads : IsOrderly subcommand_threads =
    ((refl, nodes_are_numbers), ((refl, steps_are_numbers), ((refl, seed_is_number), ((refl, limit_is_number), tt)))) in
    (run, (draw, (trace, (tt, (audit, (watch, (draw_log, (vectors, (storm, (threads, tt))))))))))

is_entered : (has missing : Bool) → check_kinds (not has && false) (not has && true) missing ≡ [] → has ≡ true
is_entered true missing e = refl
is_entered false missing e = cc

-- arguments with no fault enter a subcommand that has its options, unless a number has a sign
pub line_enters : (arguments : List Text) → fault_of line_app arguments ≡ [] → IsEntered (subcommand_of line_app arguments)
line_enters arguments none =
    let app = built line_app in
    let args = argument_words line_app arguments in
    let end = walk app.top.rules (names_of app) nothing_held args in
    let walked = both_pass (walk_fault app.top (names_of app) (walk_from nothing_held) args) _ none in
    let below = both_pass (entered_fault app end.stopped) _ walked.1 in
    let settles = both_pass (settle_fault app.top.rules false end.held) _ below.1 in
    let checks = both_pass (defaults_fault (settled app.top.rules end.held).rows app.top.rules) _ settles.1 in
    let met = enters app end.stopped (is_entered (is_some (entered app end.stopped)) false checks.1) below.0 in
    let no_help = walk_no_help app.top (names_of app) refl (walk_from nothing_held) args walked.0 tt in
    let found = subst (λ (subs : List Shape). find (λ s. answers_to met.at.0 (label_of s)) subs ≡ Some met.shape) line_subcommands met.found in (
      met.shape.name,
      rows_after met.shape.rules [] met.at.1,
      met.entered,
      has_options subcommands line_is_orderly met.at.0 met.shape met.at.1 (rw met.stopped at no_help) found met.passes,
    )

-- ---- what was entered

-- the subcommand that a parse entered, by its name and its rows, has its options, unless a number has a sign
pub entered_has : (m : ArgMatches) (name : Text) (rows : List Row) → Some name ≡ subcommand_name_of m
    → Some rows ≡ option_map (λ p. p.1) (subcommand_rows_of m) → IsEntered (subcommand_rows_of m) → HasUnlessSigned name rows
entered_has m name rows n r is = go (out-ArgMatches m).subcommand n r is
  where
    has : (a b : Text × List Row) → a ≡ b → HasUnlessSigned a.0 a.1 → HasUnlessSigned b.0 b.1
    has a b same is = subst (λ (p : Text × List Row). HasUnlessSigned p.0 p.1) same is

    go : {Z : Type 0} (o : Option (Box SubCommand Z)) → Some name ≡ option_map (λ b. (out-SubCommand (box_value b)).name.now) o
        → Some rows ≡ option_map (λ p. p.1) (subcommand_rows o) → IsEntered (subcommand_rows o) → HasUnlessSigned name rows
    go None n r is = cc n
    go (Some b) n r is =
        let same : name ≡ (out-SubCommand (box_value b)).name.now = cc n in
        let all : rows ≡ rows_of (found_of (out-SubCommand (box_value b)).matches) = cc r in
        let here : subcommand_rows (Some b) ≡ Some (name, rows) = rw (same, all) refl in
        has (is.0, is.1) (name, rows) (let to = sym is.2 ∙ here in cc) is.3

-- numbers without a sign are so in `draw-log`, and in each subcommand
draw_log_unsigned : (rows : List Row) → AllByRecursion (λ name. ¬ IsSigned rows name) draw_log_numbers → AreUnsigned rows draw_log_options
draw_log_unsigned rows (r, (p, (d, none))) =
    (p, (tt, (d, (tt, (tt, (tt, (tt, (tt, (tt, (tt, (tt, (tt, (tt, (tt, (tt, (tt, (tt, (r, (tt, tt)))))))))))))))))))

each_unsigned : (rows : List Row) → AllByRecursion (λ name. ¬ IsSigned rows name) all_numbers → Each (λ s. AreUnsigned rows s.options) subcommands
each_unsigned rows (n, (c, (l, (k, (s, (e, (f, (t, (a, (r, (p, (d, (kept, (each, none)))))))))))))) = (
  (n, (c, (l, tt))),
  (
    (n, (c, (l, (e, (f, (t, (a, (r, (tt, tt))))))))),
    (
      (n, (c, (l, (tt, tt)))),
      (
        tt,
        (
          (p, (tt, (d, (tt, (tt, (tt, (tt, (tt, (tt, (tt, (tt, (tt, (tt, (tt, (l, (tt, (tt, (tt, (tt, tt))))))))))))))))))),
          (
            (p, (tt, (d, (tt, (tt, (tt, (tt, (tt, (tt, (tt, (tt, (l, (kept, (each, tt)))))))))))))),
            (
              draw_log_unsigned rows (r, (p, (d, tt))),
              (
                (p, (tt, (d, (tt, (tt, (tt, (tt, (tt, (tt, (tt, (tt, (tt, (tt, tt))))))))))))),
                ((n, (k, (s, tt))), ((n, (k, (s, (l, tt)))), tt)),
              ),
            ),
          ),
        ),
      ),
    ),
  ),
)

-- if none of its numbers has a sign, it has its options
pub unsigned_entered : (name : Text) (rows : List Row) → AllByRecursion (λ option. ¬ IsSigned rows option) (number_names name)
    → HasUnlessSigned name rows → HasOptions name rows
unsigned_entered name rows unsigned has = go (bytes_eq name (codes "draw-log")) refl unsigned
  where
    go : (b : Bool) → bytes_eq name (codes "draw-log") ≡ b
        → AllByRecursion (λ option. ¬ IsSigned rows option) (cond b draw_log_numbers all_numbers) → HasOptions name rows
    go true is none =
        let named : name ≡ codes "draw-log" = (bytes_eq-Decides name (codes "draw-log")).0 is in
        let here = subst (λ (n : Text). HasUnlessSigned n rows) named has in
        subst (λ (n : Text). HasOptions n rows) (sym named) (here (draw_log_unsigned rows none))
    go false is none = unsigned_has rows subcommands name (each_unsigned rows none) has

-- what was entered are this name and these rows
pub entered_is : (m : ArgMatches) (name : Text) (rows : List Row) → Some name ≡ subcommand_name_of m
    → Some rows ≡ option_map (λ p. p.1) (subcommand_rows_of m) → subcommand_rows_of m ≡ Some (name, rows)
entered_is m name rows n r = go (out-ArgMatches m).subcommand n r
  where
    go : {Z : Type 0} (o : Option (Box SubCommand Z)) → Some name ≡ option_map (λ b. (out-SubCommand (box_value b)).name.now) o
        → Some rows ≡ option_map (λ p. p.1) (subcommand_rows o) → subcommand_rows o ≡ Some (name, rows)
    go None n r = cc n
    go (Some b) n r =
        let same : name ≡ (out-SubCommand (box_value b)).name.now = cc n in
        let all : rows ≡ rows_of (found_of (out-SubCommand (box_value b)).matches) = cc r in
        rw (same, all) refl

pub not_true : (b : Bool) → (b ≡ true → ⊥) → b ≡ false
not_true true h = absurd (h refl)
not_true false h = refl

-- a mistake in the options is a reason to refuse the arguments
pub mistake_refuses : (arguments : List Text) → fault_of line_app arguments ≡ [] → (f : LineFault)
    → IsRefusedFound (subcommand_of line_app arguments) f → IsRefusal arguments f
mistake_refuses arguments none (fault.Line e) is =
    absurd (⊎_elim (λ drawn. drawn.1) (λ of_log. ⊎_elim (λ audit. audit.1) (λ read. ⊎_elim (λ drawn. drawn.1) (λ others. ⊎_elim (λ vectors. vectors.1) (λ watch. watch.1) others) read) of_log) is.3)
mistake_refuses arguments none fault.Range is =
    absurd (⊎_elim (λ drawn. drawn.1) (λ of_log. ⊎_elim (λ audit. audit.1) (λ read. ⊎_elim (λ drawn. drawn.1) (λ others. ⊎_elim (λ vectors. vectors.1) (λ watch. watch.1) others) read) of_log) is.3)
mistake_refuses arguments none fault.Forms is = (none, is)
mistake_refuses arguments none fault.Unsent is = (none, is)
mistake_refuses arguments none fault.Receives is = (none, is)
mistake_refuses arguments none fault.Question is = (none, is)
mistake_refuses arguments none fault.Output is = (none, is)
mistake_refuses arguments none (fault.Sign option) is = (none, is)
mistake_refuses arguments none (fault.Part m) is = (none, is)
mistake_refuses arguments none (fault.Records m) is = (none, is)
mistake_refuses arguments none fault.Memory is = tt

pub on_ok : {T E P : Type 0} (r : Result T E) → P → OnOk r P
on_ok (Ok x) p = p
on_ok (Err e) p = tt

pub if_err : {T E : Type 0} {P Q : E → Type 0} (r : Result T E) → IfErr r P → ((e : E) → P e → Q e) → IfErr r Q
if_err (Ok x) p step = tt
if_err (Err e) p step = step e p

-- the number of bits that is given is one that packed stamps may have
pub bits_are : (rows : List Row) (n : ℕ) (r : Option PackedBits) → IsNumberOf rows packed n → (IsSome r ↔ CanCount n)
    → IfSome r (λ bits. bits.bits ≡ n) → IsOptionalNumber rows packed (option_map (λ bits. bits.bits) r)
bits_are rows n (Some bits) is some same = subst (IsNumberOf rows packed) (sym same) is
bits_are rows n None is some same = let none = some.1 (is.least, is.most) in cc

-- a text that is none of the words tells nothing of receives
pub tells_no_receives : (text : Text) → text ≢ codes "tick" → text ≢ codes "merge" → text ≢ codes "merge-clock" → (given : Receives)
    → text ≢ receives_word given
tells_no_receives text no_tick no_merge no_clock at_receives.Tick = no_tick
tells_no_receives text no_tick no_merge no_clock at_receives.Merge = no_merge
tells_no_receives text no_tick no_merge no_clock at_receives.MergeClock = no_clock
