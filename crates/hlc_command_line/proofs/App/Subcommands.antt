-- A subcommand, if clap finds no fault in its words.
use Rattle.std.proofs.Common.{◌≡◌, ◌∙◌, ◌&&◌, ◌||◌, ap, sym, subst, cond, Bool, true, false, not, List, [], ◌∷◌, ◌++◌, Option, Some, codes, refl, map, true≢false, length}
use Rattle.std.specs.Prelude.{◌≢◌, find, fold, option_map}
use Rattle.std.specs.Option.{IsSomeAnd}
use Rattle.std.specs.List.{list_any}
use Rattle.std.specs.Str.{bytes_eq}
use Rattle.std.proofs.lemmas.Slice.Eq.{bytes_eq-Decides}
use Rattle.clap.specs.Kinds.{check_kinds, range_kinds}
use Rattle.clap.specs.Faults.{defaults_fault, level_fault, settle_fault, walk_fault}
use Rattle.clap.specs.Simple.{Shape, built_leaf, filled, help_rule, help_shape, label_of, new_shape}
use Rattle.clap.specs.Takes.{is_given}
use Rattle.clap.specs.Walk.{Row, Rule, Text, answers_to, has_row, nothing_held, rows_after, settled, walk, walk_from, with_default}
use Rattle.clap.specs.declared.error.kind.ErrorKind.TheVariants.{DisplayHelp}
use Rattle.hlc_command_line.specs.LineOption.{AreUnsigned, HaveOptions, HaveUnlessSigned, LineOption, flag, number, option_rule, many, word}
use Rattle.hlc_command_line.specs.Subcommand.{Subcommand}
use Rattle.hlc_command_line.proofs.App.Each.{Each, found_holds, found_passes}
use Rattle.hlc_command_line.proofs.App.Walks.{Keeps, both_pass, some_fault, settled_keeps, walk_keeps}
use Rattle.hlc_command_line.proofs.App.Options.{AreUses, HasRowIfFlag, IsOptionOf, default_uses, flag_has, option_given, option_keeps}

-- its rules: the options and the call for help
abbrev pub rules_of : List LineOption → List Rule
rules_of os = map (λ o. filled (option_rule o)) os ++ filled help_rule ∷ []

abbrev pub shape_of : Subcommand → Shape
shape_of s = record (new_shape s.name) { rules = rules_of s.options; disable_help_subcommand = true; is_built = true }

-- a call for help does not pass
help_keeps : (Fits : List Row → Type 0) → Keeps Fits false (filled help_rule)
help_keeps Fits values rows e f = absurd (some_fault DisplayHelp [] (both_pass (range_kinds 0 0 (length values)) (DisplayHelp ∷ []) e).1)

rules_keep : (all : List LineOption) (os : List LineOption) → Each (IsOptionOf all) os → Each (Keeps (AreUses all) false) (rules_of os)
rules_keep all [] are = (help_keeps _, tt)
rules_keep all (o ∷ os) are = (option_keeps all o are.0.0, rules_keep all os are.1)

-- each flag has a row
abbrev FlagsHaveRows : List LineOption → List Row → Type 0
FlagsHaveRows os rows = Each (λ o. HasRowIfFlag o rows) os

-- defaults add rows of flags
defaults_give : (all : List LineOption) (os : List LineOption) → Each (IsOptionOf all) os → (rows : List Row) → AreUses all rows
    → AreUses all (fold with_default rows (rules_of os)) × FlagsHaveRows os (fold with_default rows (rules_of os))
defaults_give all [] are rows uses = (go (has_row (codes "help") rows), tt)
  where
    go : (b : Bool) → AreUses all (cond b rows rows)
    go true = uses
    go false = uses
defaults_give all (o ∷ os) are rows uses =
    let rest = defaults_give all os are.1 _ (default_uses all o are.0.0 rows uses) in
    (rest.0, (flag_has o rows (rules_of os), rest.1))

-- an option is given if it is required
given_first : (required given rest : Bool) → ((required && not given) || rest) ≡ false → (required ≡ true → given ≡ true) × (rest ≡ false)
given_first false given rest e = ((λ needed. cc), e)
given_first true true rest e = ((λ _. refl), e)
given_first true false rest e = cc

all_options : (all : List LineOption) (rows : List Row) → AreUses all rows → (os : List LineOption) → Each (IsOptionOf all) os
    → FlagsHaveRows os rows → list_any (λ a. a.required && not (is_given a.id rows)) (rules_of os) ≡ false → AreUnsigned rows os
    → HaveOptions rows os
all_options all rows uses [] are flags e unsigned = tt
all_options all rows uses (number o ∷ os) are flags e unsigned =
    let both = given_first o.required (is_given o.name rows) _ e in
    (option_given all (number o) rows uses are.0 flags.0 unsigned.0 both.0, all_options all rows uses os are.1 flags.1 both.1 unsigned.1)
all_options all rows uses (word name ∷ os) are flags e unsigned =
    (option_given all (word name) rows uses are.0 flags.0 tt (λ needed. cc), all_options all rows uses os are.1 flags.1 e unsigned.1)
all_options all rows uses (many name ∷ os) are flags e unsigned =
    (option_given all (many name) rows uses are.0 flags.0 tt (λ needed. cc), all_options all rows uses os are.1 flags.1 e unsigned.1)
all_options all rows uses (flag name ∷ os) are flags e unsigned =
    (option_given all (flag name) rows uses are.0 flags.0 tt (λ needed. cc), all_options all rows uses os are.1 flags.1 e unsigned.1)

-- each of its options has a name of its own
abbrev pub IsOrderly : Subcommand → Type 0
IsOrderly s = Each (IsOptionOf s.options) s.options

all_given : (missing : Bool) → check_kinds false false missing ≡ [] → missing ≡ false
all_given true e = cc
all_given false e = refl

-- words that pass give each of its options that is required, unless a number has a sign
options_given : (s : Subcommand) → IsOrderly s → (words : List Text) → level_fault (shape_of s) [] nothing_held words false [] ≡ []
    → HaveUnlessSigned (rows_after (shape_of s).rules [] words) s.options
options_given s orderly words passes =
    let shape = shape_of s in
    let end = (walk shape.rules [] nothing_held words).held in
    let walked = both_pass (walk_fault shape [] (walk_from nothing_held) words) _ passes in
    let settles = both_pass (settle_fault shape.rules false end) _ walked.1 in
    let checks = both_pass (defaults_fault (settled shape.rules end).rows shape.rules) _ settles.1 in
    let keeps = rules_keep s.options s.options orderly in
    let uses : AreUses s.options (settled shape.rules end).rows =
    settled_keeps (AreUses s.options) shape keeps end settles.0
    (walk_keeps (AreUses s.options) shape keeps [] (walk_from nothing_held) words walked.0 tt) in
    let finished = defaults_give s.options s.options orderly _ uses in
    all_options s.options (rows_after shape.rules [] words) finished.0 s.options orderly finished.1 (all_given _ checks.1)

-- ---- several subcommands

-- a name that is not `help` is that of one of them
named : (name : Text) (shape : Shape) → bytes_eq name (codes "help") ≡ false → (subs : List Subcommand)
    → find (λ s. answers_to name (label_of s)) (map shape_of subs ++ built_leaf help_shape ∷ []) ≡ Some shape
    → (s : Subcommand) × (find (λ s. bytes_eq s.name name) subs ≡ Some s) × (shape_of s ≡ shape)
named name shape no_help [] e = go (bytes_eq (codes "help") name) refl e
  where
    go : (b : Bool) → bytes_eq (codes "help") name ≡ b → cond (b || false) (Some (built_leaf help_shape)) Option.None ≡ Some shape
        → (s : Subcommand) × (find (λ s. bytes_eq s.name name) [] ≡ Some s) × (shape_of s ≡ shape)
    go false is e = cc
    go true is e =
        let same : codes "help" ≡ name = (bytes_eq-Decides (codes "help") name).0 is in
        absurd (true≢false (subst (λ n. bytes_eq n (codes "help") ≡ false) (sym same) no_help))
named name shape no_help (s ∷ subs) e = go (bytes_eq s.name name) e (named name shape no_help subs)
  where
    go : (b : Bool)
        → cond (b || false) (Some (shape_of s)) (find (λ s. answers_to name (label_of s)) (map shape_of subs ++ built_leaf help_shape ∷ []))
        ≡ Some shape
        → (find (λ s. answers_to name (label_of s)) (map shape_of subs ++ built_leaf help_shape ∷ []) ≡ Some shape → (s : Subcommand) × (find (λ s. bytes_eq s.name name) subs ≡ Some s) × (shape_of s ≡ shape))
        → (t : Subcommand) × (cond b (Some s) (find (λ s. bytes_eq s.name name) subs) ≡ Some t) × (shape_of t ≡ shape)
    go true e rest = (s, refl, cc)
    go false e rest = rest e

-- what is entered by such a name has its options, unless a number has a sign
pub has_options : (subs : List Subcommand) → Each IsOrderly subs → (name : Text) (shape : Shape) (words : List Text)
    → bytes_eq name (codes "help") ≡ false
    → find (λ s. answers_to name (label_of s)) (map shape_of subs ++ built_leaf help_shape ∷ []) ≡ Some shape
    → level_fault shape [] nothing_held words false [] ≡ []
    → IsSomeAnd (option_map (λ s. s.options) (find (λ s. bytes_eq s.name shape.name) subs)) (HaveUnlessSigned (rows_after shape.rules [] words))
has_options subs orderly name shape words no_help found passes =
    let at = named name shape no_help subs found in
    let is_named : at.0.name ≡ name = (bytes_eq-Decides at.0.name name).0 (found_passes (λ s. bytes_eq s.name name) subs at.0 at.1) in
    let given =
    options_given at.0 (found_holds IsOrderly (λ s. bytes_eq s.name name) subs at.0 orderly at.1) words
    (subst (λ s. level_fault s [] nothing_held words false [] ≡ []) (sym at.2) passes) in
    let options : option_map (λ s. s.options) (find (λ s. bytes_eq s.name at.0.name) subs) ≡ Some at.0.options =
    ap (λ n. option_map (λ s. s.options) (find (λ s. bytes_eq s.name n) subs)) is_named ∙ ap (option_map (λ s. s.options)) at.1 in
    subst
    (λ (s : Shape). IsSomeAnd (option_map (λ s. s.options) (find (λ t. bytes_eq t.name s.name) subs)) (HaveUnlessSigned (rows_after s.rules [] words)))
    at.2
    (subst (λ os. IsSomeAnd os (HaveUnlessSigned (rows_after (shape_of at.0).rules [] words))) (sym options) given)

-- if none of their numbers has a sign, the options are there
pub unsigned_has : (rows : List Row) (subs : List Subcommand) (name : Text) → Each (λ s. AreUnsigned rows s.options) subs
    → IsSomeAnd (option_map (λ s. s.options) (find (λ s. bytes_eq s.name name) subs)) (HaveUnlessSigned rows)
    → IsSomeAnd (option_map (λ s. s.options) (find (λ s. bytes_eq s.name name) subs)) (HaveOptions rows)
unsigned_has rows [] name unsigned has = has
unsigned_has rows (s ∷ subs) name unsigned has = go (bytes_eq s.name name) has (unsigned_has rows subs name unsigned.1)
  where
    go : (b : Bool) → IsSomeAnd (option_map (λ s. s.options) (cond b (Some s) (find (λ s. bytes_eq s.name name) subs))) (HaveUnlessSigned rows)
        → (IsSomeAnd (option_map (λ s. s.options) (find (λ s. bytes_eq s.name name) subs)) (HaveUnlessSigned rows) → IsSomeAnd (option_map (λ s. s.options) (find (λ s. bytes_eq s.name name) subs)) (HaveOptions rows))
        → IsSomeAnd (option_map (λ s. s.options) (cond b (Some s) (find (λ s. bytes_eq s.name name) subs))) (HaveOptions rows)
    go true has rest = has unsigned.0
    go false has rest = rest has

-- a name that has options is that of one of them
module _ (P : List LineOption → Type 0) where
  pub no_other : (subs : List Subcommand) (name : Text)
      → IsSomeAnd (option_map (λ s. s.options) (find (λ s. bytes_eq s.name name) subs)) P → Each (λ s. name ≢ s.name) subs → ⊥
  no_other [] name has none = has
  no_other (s ∷ subs) name has none = go (bytes_eq s.name name) refl has (no_other subs name)
    where
      go : (b : Bool) → bytes_eq s.name name ≡ b
          → IsSomeAnd (option_map (λ s. s.options) (cond b (Some s) (find (λ s. bytes_eq s.name name) subs))) P
          → (IsSomeAnd (option_map (λ s. s.options) (find (λ s. bytes_eq s.name name) subs)) P → Each (λ s. name ≢ s.name) subs → ⊥) → ⊥
      go true is has rest = none.0 (sym ((bytes_eq-Decides s.name name).0 is))
      go false is has rest = rest has none.1
