-- A walk in which clap finds no fault stops at no call for help, and the subcommand that it enters has no fault.
use Rattle.std.proofs.Common.{◌≡◌, ap, cond, ℕ, Bool, true, false, List, [], ◌∷◌, Option, Some, None, codes, refl, is_some, not, ◌&&◌}
use Rattle.std.specs.Prelude.{⊤, find, fold, option_map}
use Rattle.std.specs.Option.{option_map_or}
use Rattle.std.specs.Str.{bytes_eq}
use Rattle.clap.specs.Lexer.{long_of, short_of}
use Rattle.clap.specs.Kinds.{or_else}
use Rattle.clap.specs.Faults.{entered_fault, level_fault, other_fault, step_fault, turn_fault, walk_fault, word_fault}
use Rattle.clap.specs.Simple.{App, Shape, entered, label_of, rows_at}
use Rattle.clap.specs.Walk.{Held, Names, Outcome, Rule, Step, Text, Waiting, Walk, after_flag, after_step, answers_to, arg_by_index, bundle, done, idle, long_met, arg_by_long, long_or_other, next, nothing_held, option, plain, plain_word, positional, refused, short_or_plain, subcommand, subcommand_met, subcommand_or_other, to_positional, trailing, value, waits, walked, walked_from, word_met}
use Rattle.clap.specs.declared.error.kind.ErrorKind.TheVariants as kind
use Rattle.hlc_command_line.proofs.App.Walks.{both_pass}

-- the subcommand that a step names
abbrev step_name : Step → Option Text
step_name (subcommand name) = Some name
step_name _ = None

-- the walk has not stopped at `help`
abbrev pub IsNoHelp : Option (Text × List Text) → Type 0
IsNoHelp None = ⊤
IsNoHelp (Some p) = bytes_eq p.0 (codes "help") ≡ false

module _ (s : Shape) (names : Names) (helps : s.disable_help_subcommand ≡ false) where
  plain_name : (waiting : Waiting) (word : Text) (h : Held) → step_name (plain_word s.rules waiting word h).1 ≡ None
  plain_name idle word h = refl
  plain_name positional word h = refl
  plain_name (option id) word h = refl

  flag_name : (waiting : Waiting) (word : Text) (h : Held) (o : Outcome) → step_name (after_flag s.rules waiting word h o).1 ≡ None
  flag_name waiting word h done = refl
  flag_name waiting word h (waits id) = refl
  flag_name waiting word h plain = plain_name waiting word h
  flag_name waiting word h refused = plain_name waiting word h

  other_name : (waiting : Waiting) (word : Text) (o : Option (Text × Option Text)) (h : Held)
      → step_name (long_or_other s.rules waiting word o h).1 ≡ None
  other_name waiting word (Some p) h =
      let met = long_met s.rules (arg_by_long s.rules p.0) p.1 h in
      flag_name waiting word met.0 met.1
  other_name waiting word None h = go (short_of word)
    where
      go : (o : Option Text) → step_name (short_or_plain s.rules waiting word o h).1 ≡ None
      go None = plain_name waiting word h
      go (Some flags) = let met = bundle s.rules flags h in flag_name waiting word met.0 met.1

  -- a word that passes names no call for help
  word_no_help : (is_trailing : Bool) (waiting : Waiting) (position : ℕ) (word name : Text) (h : Held)
      → word_fault s names is_trailing waiting word h ≡ []
      → step_name (word_met s.rules names is_trailing waiting position word h).1 ≡ Some name → bytes_eq name (codes "help") ≡ false
  word_no_help true waiting position word name h e is = cc
  word_no_help false waiting position word name h e is = go (subcommand_met names waiting word) e is
    where
      help : (met : Text) (b : Bool) → bytes_eq met (codes "help") ≡ b
          → cond (b && not s.disable_help_subcommand) (kind.DisplayHelp ∷ kind.InvalidSubcommand ∷ []) [] ≡ [] → b ≡ false
      help met false at e = refl
      help met true at e = let bad : kind.DisplayHelp ∷ kind.InvalidSubcommand ∷ [] ≡ [] = rw helps at e in cc

      dashes : (b : Bool) → step_name (cond b (h, trailing position) (long_or_other s.rules waiting word (long_of word) h)).1 ≡ None
      dashes true = refl
      dashes false = other_name waiting word (long_of word) h

      go : (o : Option Text) → other_fault s o word h ≡ [] → step_name (subcommand_or_other s.rules o waiting position word h).1 ≡ Some name
          → bytes_eq name (codes "help") ≡ false
      go (Some met) e is = let same : met ≡ name = cc in rw (← same) (help met (bytes_eq met (codes "help")) refl e)
      go None e is = let none = dashes (bytes_eq word (45 ∷ 45 ∷ [])) in cc

  turn_no_help : (w : Walk) (word : Text) → turn_fault s names w word ≡ [] → IsNoHelp w.stopped
      → IsNoHelp (walked s.rules names w word).stopped
  unfolding walked
  turn_no_help w word e ok = go w.stopped refl e ok
    where
      step : (h : Held) (t : Step) → w.stopped ≡ None → ((name : Text) → step_name t ≡ Some name → bytes_eq name (codes "help") ≡ false)
          → IsNoHelp (after_step s.rules word w h t).stopped
      step h (next waiting) none named = rw none tt
      step h (trailing position) none named = rw none tt
      step h (subcommand name) none named = named name refl
      step h value none named = at (arg_by_index s.rules w.position)
        where
          at : (o : Option Rule) → IsNoHelp (to_positional s.rules o word w h).stopped
          at None = rw none tt
          at (Some a) = tt

      go : (o : Option (Text × List Text)) → w.stopped ≡ o
          → (let met = word_met s.rules names w.is_trailing w.waiting w.position word w.held in
          cond (is_some o) [] (or_else (word_fault s names w.is_trailing w.waiting word w.held) (step_fault s w.position met.0 met.1)) ≡ [])
          → IsNoHelp o → IsNoHelp (walked_from s.rules names o w word).stopped
      go (Some p) is e ok = ok
      go None is e ok =
          let met = word_met s.rules names w.is_trailing w.waiting w.position word w.held in
          let both = both_pass _ _ e in
          step met.0 met.1 is (λ name. word_no_help w.is_trailing w.waiting w.position word name w.held both.0)

  pub walk_no_help : (w : Walk) (words : List Text) → walk_fault s names w words ≡ [] → IsNoHelp w.stopped
      → IsNoHelp (fold (walked s.rules names) w words).stopped
  unfolding walk_fault
  walk_no_help w [] e ok = ok
  walk_no_help w (word ∷ rest) e ok =
      let both = both_pass _ _ e in
      walk_no_help (walked s.rules names w word) rest both.1 (turn_no_help w word both.0 ok)

-- a subcommand was entered at this stop, and clap finds no fault in its words
pub record Enters (a : App) (stop : Option (Text × List Text)) : Type 0 where
  pub at : Text × List Text
  pub shape : Shape
  pub stopped : stop ≡ Some at
  pub found : find (λ s. answers_to at.0 (label_of s)) a.subs ≡ Some shape
  pub entered : entered a stop ≡ Some (rows_at shape at.1)
  pub passes : level_fault shape [] nothing_held at.1 false [] ≡ []

pub enters : (a : App) (stop : Option (Text × List Text)) → is_some (entered a stop) ≡ true → entered_fault a stop ≡ [] → Enters a stop
enters a None some e = cc
enters a (Some p) some e = go (find (λ s. answers_to p.0 (label_of s)) a.subs) refl some e
  where
    go : (o : Option Shape) → find (λ s. answers_to p.0 (label_of s)) a.subs ≡ o → is_some (option_map (λ s. rows_at s p.1) o) ≡ true
        → option_map_or (λ s. level_fault s [] nothing_held p.1 false []) o [] ≡ [] → Enters a (Some p)
    go None is some e = cc
    go (Some s) is some e =
        record { at = p; shape = s; stopped = refl; found = is; entered = ap (option_map (λ s. rows_at s p.1)) is; passes = e }
