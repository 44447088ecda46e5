-- How the parser meets an argument that names no subcommand and doesn't begin with a hyphen.
use Rattle.std.proofs.Common.{◌≡◌, ℕ, ◌==◌, true, false, List, [], ◌∷◌, refl, ap}
use Rattle.std.specs.Prelude.{None}
use Rattle.std.proofs.lemmas.Bool.{not-true}
use Rattle.clap.specs.Walk.{Held, Names, Rule, Text, Walk, idle, value, walked, word_met, arg_by_index, after_step, subcommand_met, to_positional}
use Rattle.clap.specs.Simple.{Shape}
use Rattle.clap.specs.Takes.{step_passes, turn_passes}
use Rattle.clap.specs.Faults.{step_fault, turn_fault}
use Rattle.ssi_arguments.specs.Clauses.Arguments.{is_plain}

-- a walk that waits for nothing
abbrev pub at : Held → ℕ → Walk
at held position =
    record { held = held; waiting = idle; position = position; is_trailing = false; stopped = None }

module _ (names : Names) (held : Held) (position : ℕ) where
  argument_met-plain : (rules : List Rule) (argument : Text) → is_plain argument ≡ true → subcommand_met names idle argument ≡ None
      → word_met rules names false idle position argument held ≡ (held, value)
  argument_met-plain rules [] p m = rw m refl
  argument_met-plain rules (b ∷ bs) p m = let e = not-true (b == 45) p in rw (m, e, e) refl

  pub walked-plain : (rules : List Rule) (argument : Text) → is_plain argument ≡ true → subcommand_met names idle argument ≡ None
      → walked rules names (at held position) argument
      ≡ to_positional rules (arg_by_index rules position) argument (at held position) held
  unfolding walked
  walked-plain rules argument p m =
      ap (λ met. after_step rules argument (at held position) met.0 met.1) (argument_met-plain rules argument p m)

  pub turn_passes-plain : (s : Shape) (argument : Text) → is_plain argument ≡ true → subcommand_met names idle argument ≡ None
      → turn_passes s names (at held position) argument ≡ step_passes s position held value
  turn_passes-plain s [] p m = rw m refl
  turn_passes-plain s (b ∷ bs) p m = let e = not-true (b == 45) p in rw (m, e, e) refl

  pub turn_fault-plain : (s : Shape) (argument : Text) → is_plain argument ≡ true → subcommand_met names idle argument ≡ None
      → turn_fault s names (at held position) argument ≡ step_fault s position held value
  turn_fault-plain s [] p m = rw m refl
  turn_fault-plain s (b ∷ bs) p m = let e = not-true (b == 45) p in rw (m, e, e) refl
