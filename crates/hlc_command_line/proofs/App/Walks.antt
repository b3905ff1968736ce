-- What each use that passes keeps of the rows holds after words in which clap finds no fault.
use Rattle.std.proofs.Common.{◌≡◌, subst, cond, ℕ, zero, suc, Bool, true, false, List, [], ◌∷◌, Option, Some, None, length, drop, refl, is_some, ◌&&◌}
use Rattle.std.specs.Prelude.{encode_utf8, fold, slice_get}
use Rattle.std.specs.Option.{option_map_or}
use Rattle.std.specs.Str.{bytes_eq, chars}
use Rattle.clap.specs.Lexer.{long_of, short_of}
use Rattle.clap.specs.Kinds.{Kinds, or_else}
use Rattle.clap.specs.Faults.{bundle_fault, bundle_step_fault, flag_word_fault, flags_fault, long_fault, option_fault, other_fault, positional_fault, react_fault, settle_fault, short_fault, step_fault, stray_fault, turn_fault, use_fault, walk_fault, word_fault}
use Rattle.clap.specs.Simple.{Shape}
use Rattle.clap.specs.Walk.{Held, Names, Outcome, Row, Rule, Step, Text, Waiting, Walk, after_flag, after_step, arg_by_id, arg_by_index, arg_by_long, arg_by_short, attached_value, bundle, bundle_met, bundle_step, done, flag_met, idle, is_pending, long_met, long_or_other, next, option, option_met, option_word, plain, plain_word, positional, reacted, refused, settled, settled_rows, short_met, short_or_plain, subcommand, subcommand_met, subcommand_or_other, takes_several, takes_values, to_positional, trailing, used, used_by_id, value, waits, walked, walked_from, word_met}
use Rattle.clap.specs.declared.error.kind.ErrorKind.{ErrorKind}
use Rattle.clap.specs.declared.error.kind.ErrorKind.TheVariants.{TooManyValues}
use Rattle.hlc_command_line.proofs.App.Each.{Each, found_holds}

pub both_pass : (a b : Kinds) → or_else a b ≡ [] → (a ≡ []) × (b ≡ [])
both_pass [] b e = (refl, e)
both_pass (k ∷ ks) b e = cc

-- a kind is a fault
pub some_fault : (k : ErrorKind) (ks : Kinds) → k ∷ ks ≡ [] → ⊥
some_fault k ks e = cc

-- a use of the argument that passes keeps what is known of the rows
abbrev pub Keeps : (List Row → Type 0) → Bool → Rule → Type 0
Keeps Fits again a = (values : List Text) (rows : List Row) → use_fault again a values rows ≡ [] → Fits rows → Fits (used a values rows)

module _ (Fits : List Row → Type 0) (s : Shape) (keeps : Each (Keeps Fits s.args_override_self) s.rules) where
  pub settled_keeps : (h : Held) → settle_fault s.rules s.args_override_self h ≡ [] → Fits h.rows → Fits (settled s.rules h).rows
  settled_keeps h e f = go h.pending e
    where
      by_id : (p : Text × List Text) (o : Option Rule) → arg_by_id s.rules p.0 ≡ o
          → option_map_or (λ a. use_fault s.args_override_self a p.1 h.rows) o [] ≡ [] → Fits (used_by_id o p.1 h.rows)
      by_id p None is e = f
      by_id p (Some a) is e = found_holds (Keeps Fits s.args_override_self) _ s.rules a keeps is p.1 h.rows e f

      go : (o : Option (Text × List Text))
          → option_map_or (λ p. option_map_or (λ a. use_fault s.args_override_self a p.1 h.rows) (arg_by_id s.rules p.0) []) o [] ≡ []
          → Fits (settled_rows s.rules o h.rows)
      go None e = f
      go (Some p) e = by_id p (arg_by_id s.rules p.0) refl e

  reacted_keeps : (a : Rule) → Keeps Fits s.args_override_self a → (values : List Text) (h : Held)
      → react_fault s.rules s.args_override_self a values h ≡ [] → Fits h.rows → Fits (reacted s.rules a values h).rows
  reacted_keeps a keep values h e f =
      let both = both_pass _ _ e in
      keep values (settled s.rules h).rows both.1 (settled_keeps h both.0 f)

  option_keeps : (a : Rule) → Keeps Fits s.args_override_self a → (v : Option Text) (h : Held)
      → option_fault s.rules s.args_override_self a v h ≡ [] → Fits h.rows → Fits (option_met s.rules a v h).0.rows
  option_keeps a keep (Some v) h e f = reacted_keeps a keep (v ∷ []) h e f
  option_keeps a keep None h e f = settled_keeps h e f

  long_keeps : (name : Text) (o : Option Rule) → arg_by_long s.rules name ≡ o → (v : Option Text) (h : Held)
      → long_fault s.rules s.args_override_self o v h ≡ [] → Fits h.rows → Fits (long_met s.rules o v h).0.rows
  long_keeps name None is v h e f = f
  long_keeps name (Some a) is v h e f = go (takes_values a) v e
    where
      keep : Keeps Fits s.args_override_self a
      keep = found_holds (Keeps Fits s.args_override_self) _ s.rules a keeps is

      go : (b : Bool) (v : Option Text)
          → cond b (option_fault s.rules s.args_override_self a v h) (cond (is_some v) (TooManyValues ∷ []) (react_fault s.rules s.args_override_self a [] h))
          ≡ []
          → Fits (cond b (option_met s.rules a v h) (flag_met s.rules a v h)).0.rows
      go true v e = option_keeps a keep v h e f
      go false (Some v) e = f
      go false None e = reacted_keeps a keep [] h e f

  short_keeps : (x : ℕ) (o : Option Rule) → arg_by_short s.rules x ≡ o
      → (rest : Text) (h : Held) (fault : Held → Kinds) (met : Held → Held × Outcome)
      → ((g : Held) → fault g ≡ [] → Fits g.rows → Fits (met g).0.rows)
      → short_fault s.rules s.args_override_self o rest h fault ≡ [] → Fits h.rows → Fits (short_met s.rules o rest h met).0.rows
  short_keeps x None is rest h fault met later e f = f
  short_keeps x (Some a) is rest h fault met later e f = go (takes_values a) e
    where
      keep : Keeps Fits s.args_override_self a
      keep = found_holds (Keeps Fits s.args_override_self) _ s.rules a keeps is

      go : (b : Bool)
          → cond b (option_fault s.rules s.args_override_self a (attached_value rest) h) (or_else (react_fault s.rules s.args_override_self a [] h) (fault (reacted s.rules a [] h)))
          ≡ []
          → Fits (cond b (option_met s.rules a (attached_value rest) h) (met (reacted s.rules a [] h))).0.rows
      go true e = option_keeps a keep (attached_value rest) h e f
      go false e =
          let both = both_pass _ _ e in
          later (reacted s.rules a [] h) both.1 (reacted_keeps a keep [] h both.0 f)

  bundle_step_keeps : (o : Option ℕ) (flags : Text) (skip : ℕ) (so_far : Outcome) (h : Held) (fault : Text → ℕ → Held → Kinds) (met : Text → ℕ → Outcome → Held → Held × Outcome)
      → ((t : Text) (k : ℕ) (so : Outcome) (g : Held) → fault t k g ≡ [] → Fits g.rows → Fits (met t k so g).0.rows)
      → bundle_step_fault s.rules s.args_override_self o flags skip h fault ≡ [] → Fits h.rows
      → Fits (bundle_step s.rules o flags skip so_far h met).0.rows
  bundle_step_keeps None flags skip so_far h fault met later e f = f
  bundle_step_keeps (Some x) flags zero so_far h fault met later e f =
      let rest = drop (length (encode_utf8 x)) flags in
      short_keeps x (arg_by_short s.rules x) refl rest h (fault rest 0) (met rest 0 done) (later rest 0 done) e f
  bundle_step_keeps (Some x) flags (suc skip) so_far h fault met later e f = later (drop (length (encode_utf8 x)) flags) skip so_far h e f

  bundle_keeps : (k : ℕ) (flags : Text) (skip : ℕ) (so_far : Outcome) (h : Held)
      → flags_fault s.rules s.args_override_self k flags skip h ≡ [] → Fits h.rows → Fits (bundle_met s.rules k flags skip so_far h).0.rows
  unfolding flags_fault bundle_met
  bundle_keeps zero flags skip so_far h e f = f
  bundle_keeps (suc k) flags skip so_far h e f =
      bundle_step_keeps (slice_get (chars flags) 0) flags skip so_far h (flags_fault s.rules s.args_override_self k) (bundle_met s.rules k)
      (bundle_keeps k) e f

  plain_rows : (waiting : Waiting) (word : Text) (h : Held) → h.rows ≡ (plain_word s.rules waiting word h).0.rows
  plain_rows idle word h = refl
  plain_rows positional word h = refl
  plain_rows (option id) word h = go (arg_by_id s.rules id)
    where
      go : (o : Option Rule) → h.rows ≡ (option_word o id word h).0.rows
      go None = refl
      go (Some a) = refl

  flag_rows : (waiting : Waiting) (word : Text) (h : Held) (o : Outcome) → h.rows ≡ (after_flag s.rules waiting word h o).0.rows
  flag_rows waiting word h done = refl
  flag_rows waiting word h (waits id) = refl
  flag_rows waiting word h plain = plain_rows waiting word h
  flag_rows waiting word h refused = plain_rows waiting word h

  flag_word_keeps : (waiting : Waiting) (word : Text) (o : Option (Text × Option Text)) (h : Held)
      → flag_word_fault s.rules s.args_override_self o word h ≡ [] → Fits h.rows → Fits (long_or_other s.rules waiting word o h).0.rows
  flag_word_keeps waiting word (Some p) h e f =
      let met = long_met s.rules (arg_by_long s.rules p.0) p.1 h in
      subst Fits (flag_rows waiting word met.0 met.1) (long_keeps p.0 (arg_by_long s.rules p.0) refl p.1 h e f)
  flag_word_keeps waiting word None h e f = go (short_of word) e
    where
      go : (o : Option Text) → option_map_or (λ flags. bundle_fault s.rules s.args_override_self flags h) o [] ≡ []
          → Fits (short_or_plain s.rules waiting word o h).0.rows
      go None e = subst Fits (plain_rows waiting word h) f
      go (Some flags) e =
          let met = bundle s.rules flags h in
          subst Fits (flag_rows waiting word met.0 met.1) (bundle_keeps (length flags) flags h.skip plain (record h { skip = 0 }) e f)

  word_keeps : (names : Names) (is_trailing : Bool) (waiting : Waiting) (position : ℕ) (word : Text) (h : Held)
      → word_fault s names is_trailing waiting word h ≡ [] → Fits h.rows
      → Fits (word_met s.rules names is_trailing waiting position word h).0.rows
  word_keeps names true waiting position word h e f = f
  word_keeps names false waiting position word h e f = go (subcommand_met names waiting word) e
    where
      flag : (b : Bool) → cond b [] (flag_word_fault s.rules s.args_override_self (long_of word) word h) ≡ []
          → Fits (cond b (h, trailing position) (long_or_other s.rules waiting word (long_of word) h)).0.rows
      flag true e = f
      flag false e = flag_word_keeps waiting word (long_of word) h e f

      go : (o : Option Text) → other_fault s o word h ≡ [] → Fits (subcommand_or_other s.rules o waiting position word h).0.rows
      go (Some name) e = f
      go None e = flag (bytes_eq word (45 ∷ 45 ∷ [])) e

  step_keeps : (word : Text) (w : Walk) (h : Held) (step : Step) → step_fault s w.position h step ≡ [] → Fits h.rows
      → Fits (after_step s.rules word w h step).held.rows
  step_keeps word w h (next waiting) e f = f
  step_keeps word w h (trailing position) e f = f
  step_keeps word w h (subcommand name) e f = f
  step_keeps word w h value e f = go (arg_by_index s.rules w.position) e
    where
      held : (b : Bool) → cond b [] (settle_fault s.rules s.args_override_self h) ≡ [] → Fits (cond b h (settled s.rules h)).rows
      held true e = f
      held false e = settled_keeps h e f

      go : (o : Option Rule) → option_map_or (λ a. positional_fault s.rules s.args_override_self a h) o (stray_fault s) ≡ []
          → Fits (to_positional s.rules o word w h).held.rows
      go None e = f
      go (Some a) e = held (is_pending a h.pending && takes_several a) e

  turn_keeps : (names : Names) (w : Walk) (word : Text) → turn_fault s names w word ≡ [] → Fits w.held.rows
      → Fits (walked s.rules names w word).held.rows
  unfolding walked
  turn_keeps names w word e f = go w.stopped e
    where
      go : (o : Option (Text × List Text))
          → (let met = word_met s.rules names w.is_trailing w.waiting w.position word w.held in
          cond (is_some o) [] (or_else (word_fault s names w.is_trailing w.waiting word w.held) (step_fault s w.position met.0 met.1)) ≡ [])
          → Fits (walked_from s.rules names o w word).held.rows
      go (Some p) e = f
      go None e =
          let met = word_met s.rules names w.is_trailing w.waiting w.position word w.held in
          let both = both_pass _ _ e in
          step_keeps word w met.0 met.1 both.1 (word_keeps names w.is_trailing w.waiting w.position word w.held both.0 f)

  pub walk_keeps : (names : Names) (w : Walk) (words : List Text) → walk_fault s names w words ≡ [] → Fits w.held.rows
      → Fits (fold (walked s.rules names) w words).held.rows
  unfolding walk_fault
  walk_keeps names w [] e f = f
  walk_keeps names w (word ∷ rest) e f =
      let both = both_pass _ _ e in
      walk_keeps names (walked s.rules names w word) rest both.1 (turn_keeps names w word both.0 f)
