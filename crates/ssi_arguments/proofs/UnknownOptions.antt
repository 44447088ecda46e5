-- That an option which a command without subcommands doesn't have is a fault, wherever it stands before `--`.
use Rattle.std.proofs.Common.{◌≡◌, ◌∙◌, ℕ, ◌==◌, Bool, true, false, List, [], ◌∷◌, refl, sym, ap, subst, not, inl, inr}
use Rattle.std.specs.Prelude.{◌||◌, Option, Some, None, if◌then◌else◌}
use Rattle.std.specs.List.{before_first}
use Rattle.std.specs.Option.{option_map_or}
use Rattle.std.specs.Str.{bytes_eq}
use Rattle.std.proofs.lemmas.Bool.{and_parts, not-true, or_cases}
use Rattle.std.proofs.lemmas.Slice.Eq.{bytes_eq-Decides}
use Rattle.clap.specs.Lexer.{long_of, name_and_value, short_of}
use Rattle.clap.specs.Walk.{Held, Outcome, Rule, Step, Text, Waiting, Walk, after_flag, after_step, arg_by_index, arg_by_long, bundle, done, waits, plain, refused, idle, option, positional, long_met, long_or_other, next, plain_word, short_or_plain, subcommand, subcommand_met, subcommand_or_other, to_positional, trailing, value, walked, word_met}
use Rattle.clap.specs.Simple.{Shape}
use Rattle.clap.specs.Faults.{flag_word_fault, long_fault, other_fault, step_fault, turn_fault, walk_fault, word_fault}
use Rattle.clap.specs.Kinds.{Kinds, or_else}
use Rattle.clap.specs.declared.error.kind.ErrorKind.TheVariants.{UnknownArgument}
use Rattle.ssi_arguments.specs.Clauses.Storage.{has_option, is_option}
use Rattle.ssi_arguments.proofs.NoOtherRequests.{first_turn}
use Rattle.ssi_arguments.proofs.OptionNames.{before_first-begins}

-- ---- an option with its value, as the parser cuts it

long_of-named : (n : ℕ) (ns word : Text) → before_first (λ x. x == 61) word ≡ 45 ∷ 45 ∷ n ∷ ns
    → (v : Option Text) × (long_of word ≡ Some (n ∷ ns, v))
long_of-named n ns [] e = absurd (cc e)
long_of-named n ns (a ∷ []) e = absurd (cc (before_first-begins a [] 45 (45 ∷ n ∷ ns) e).1)
long_of-named n ns (a ∷ b ∷ []) e =
    let first = before_first-begins a (b ∷ []) 45 (45 ∷ n ∷ ns) e in
    absurd (cc (before_first-begins b [] 45 (n ∷ ns) first.1).1)
long_of-named n ns (a ∷ b ∷ x ∷ xs) e =
    let first = before_first-begins a (b ∷ x ∷ xs) 45 (45 ∷ n ∷ ns) e in
    let second = before_first-begins b (x ∷ xs) 45 (n ∷ ns) first.1 in
    let v = (name_and_value (x ∷ xs)).1 in (
      v,
      ap (λ c. long_of (c ∷ b ∷ x ∷ xs)) first.0 ∙ ap (λ c. long_of (45 ∷ c ∷ x ∷ xs)) second.0
          ∙ ap (λ (t : Text). Some (t, v)) second.1,
    )

-- ---- a walk that has met neither `--` nor a subcommand

abbrev pub midway : Held → Waiting → ℕ → Walk
midway held waiting position =
    record { held = held; waiting = waiting; position = position; is_trailing = false; stopped = None }

record IsMidway (w : Walk) : Type 0 where
  held : Held
  waiting : Waiting
  position : ℕ
  is : w ≡ midway held waiting position

none_met : (waiting : Waiting) (word : Text) → subcommand_met [] waiting word ≡ None
none_met idle word = refl
none_met (option id) word = refl
none_met positional word = refl

-- the word is neither `--` nor a subcommand
abbrev IsOnward : Step → Type 0
IsOnward (next waiting) = Unit {0}
IsOnward (trailing position) = ⊥
IsOnward (subcommand name) = ⊥
IsOnward value = Unit {0}

module _ (rules : List Rule) (word : Text) where
  plain_onward : (waiting : Waiting) (h : Held) → IsOnward (plain_word rules waiting word h).1
  plain_onward idle h = tt
  plain_onward (option id) h = tt
  plain_onward positional h = tt

  flag_onward : (waiting : Waiting) (h : Held) (outcome : Outcome) → IsOnward (after_flag rules waiting word h outcome).1
  flag_onward waiting h done = tt
  flag_onward waiting h (waits id) = tt
  flag_onward waiting h plain = plain_onward waiting h
  flag_onward waiting h refused = plain_onward waiting h

  short_onward : (waiting : Waiting) (h : Held) (flags : Option Text) → IsOnward (short_or_plain rules waiting word flags h).1
  short_onward waiting h None = plain_onward waiting h
  short_onward waiting h (Some flags) = flag_onward waiting (bundle rules flags h).0 (bundle rules flags h).1

  long_onward : (waiting : Waiting) (h : Held) (name : Option (Text × Option Text)) → IsOnward (long_or_other rules waiting word name h).1
  long_onward waiting h None = short_onward waiting h (short_of word)
  long_onward waiting h (Some p) =
      let flag = long_met rules (arg_by_long rules p.0) p.1 h in flag_onward waiting flag.0 flag.1

  module _ (waiting : Waiting) (position : ℕ) (h : Held) (other : bytes_eq word (45 ∷ 45 ∷ []) ≡ false) where
    other_onward : IsOnward (subcommand_or_other rules None waiting position word h).1
    other_onward = subst (λ b. IsOnward (if b then (h, trailing position) else long_or_other rules waiting word (long_of word) h).1)
        (sym other) (long_onward waiting h (long_of word))

    met_onward : IsOnward (word_met rules [] false waiting position word h).1
    met_onward = subst (λ met. IsOnward (subcommand_or_other rules met waiting position word h).1) (sym (none_met waiting word)) other_onward

  module _ (waiting : Waiting) (position : ℕ) (h : Held) (other : bytes_eq word (45 ∷ 45 ∷ []) ≡ false)
      (ends : (i : ℕ) → option_map_or (λ a. a.trailing_var_arg) (arg_by_index rules i) false ≡ false) where
    to_positional_midway : (after : Held) (to : Option Rule) → option_map_or (λ a. a.trailing_var_arg) to false ≡ false
        → IsMidway (to_positional rules to word (midway h waiting position) after)
    to_positional_midway after None e = record { held = after; waiting = waiting; position = position; is = refl }
    to_positional_midway after (Some a) e =
        let w = to_positional rules (Some a) word (midway h waiting position) after in
        record { held = w.held; waiting = w.waiting; position = w.position; is = ap (λ b. record w { is_trailing = b }) e }

    after_step_midway : (after : Held) (step : Step) → IsOnward step → IsMidway (after_step rules word (midway h waiting position) after step)
    after_step_midway after (next now) o = record { held = after; waiting = now; position = position; is = refl }
    after_step_midway after (trailing p) o = absurd o
    after_step_midway after (subcommand name) o = absurd o
    after_step_midway after value o = to_positional_midway after (arg_by_index rules position) (ends position)

    stays_midway : IsMidway (walked rules [] (midway h waiting position) word)
    unfolding walked
    stays_midway =
        let met = word_met rules [] false waiting position word h in
        after_step_midway met.0 met.1 (met_onward waiting position h other)

-- ---- the option

module _ (s : Shape) (n : ℕ) (ns : Text) (unknown : arg_by_long s.rules (n ∷ ns) ≡ None)
    (ends : (i : ℕ) → option_map_or (λ a. a.trailing_var_arg) (arg_by_index s.rules i) false ≡ false) where
  module _ (h : Held) (waiting : Waiting) (position : ℕ) (word : Text) (other : bytes_eq word (45 ∷ 45 ∷ []) ≡ false)
      (named : before_first (λ x. x == 61) word ≡ 45 ∷ 45 ∷ n ∷ ns) where
    abbrev again : Bool
    again = s.args_override_self

    flag_fault : flag_word_fault s.rules again (long_of word) word h ≡ UnknownArgument ∷ []
    flag_fault =
        let cut = long_of-named n ns word named in
        ap (λ p. flag_word_fault s.rules again p word h) cut.1 ∙ ap (λ a. long_fault s.rules again a cut.0 h) unknown

    unknown_word : word_fault s [] false waiting word h ≡ UnknownArgument ∷ []
    unknown_word = ap (λ met. other_fault s met word h) (none_met waiting word)
        ∙ ap (λ (b : Bool). if b then [] else flag_word_fault s.rules again (long_of word) word h) other ∙ flag_fault

    unknown_turn : turn_fault s [] (midway h waiting position) word ≡ UnknownArgument ∷ []
    unknown_turn =
        let met = word_met s.rules [] false waiting position word h in
        ap (λ (k : Kinds). or_else k (step_fault s position met.0 met.1)) unknown_word

  pub unknown_option : (words : List Text) (h : Held) (waiting : Waiting) (position : ℕ) → has_option (45 ∷ 45 ∷ n ∷ ns) words ≡ true
      → walk_fault s [] (midway h waiting position) words ≡ [] → ⊥
  unknown_option [] h waiting position has e = absurd (cc has)
  unknown_option (word ∷ words) h waiting position has e =
      let parts = and_parts (not (bytes_eq word (45 ∷ 45 ∷ []))) (is_option (45 ∷ 45 ∷ n ∷ ns) word || has_option (45 ∷ 45 ∷ n ∷ ns) words) has in
      let other = not-true (bytes_eq word (45 ∷ 45 ∷ [])) parts.0 in
      let turn = first_turn s [] (midway h waiting position) word words e in
      let after = stays_midway s.rules word waiting position h other ends in
      elim (or_cases (is_option (45 ∷ 45 ∷ n ∷ ns) word) (has_option (45 ∷ 45 ∷ n ∷ ns) words) parts.1) [
        | inl here ↦ cc (turn.0, unknown_turn h waiting position word other ((bytes_eq-Decides (before_first (λ x. x == 61) word) (45 ∷ 45 ∷ n ∷ ns)).0 here))
        | inr later ↦ unknown_option words after.held after.waiting after.position later
            (sym (ap (λ w. walk_fault s [] w words) after.is) ∙ turn.1)
      ]
