-- No line feed stands in the first lines.
use Rattle.std.proofs.Common.{◌≢◌, ℕ, ◌≤◌, ◌<◌, ◌+◌, ◌%◌, ◌^◌, List, [], ◌∷◌, ◌++◌, map, refl, sym, subst, arith}
use Rattle.std.specs.Prelude.{codes, decimal, flat_map}
use Rattle.std.specs.List.{All, AllByRecursion}
use Rattle.std.proofs.lemmas.Fmt.{decimal_by_steps}
use Rattle.std.proofs.lemmas.List.Elements.{All-append, All-from_recursion}
use Rattle.adya_keys.specs.Meaning.Keys.{Bytes}
use Rattle.adya_values.specs.Meaning.Histories.{FinalPair}
use Rattle.adya_line.specs.Meaning.Limits.{IsFinal}
use Rattle.adya_line.specs.Meaning.Lines.{IsPlain}
use Rattle.ssi_store.specs.Meaning.Courses.{Command, Begin, Put, Commit}
use Rattle.ssi_line.specs.Meaning.Spelling.{Do, IsLineOf, command_text, IsCommand}
use Rattle.ssi_durable.specs.Meaning.Lines.{header}
use Rattle.ssi_durable.proofs.Stepping.{plain_of}
use Rattle.ssi_loads.specs.Meaning.Loads.{loader, put_line, load_of, load_lines, groups, loaded_line, first_lines}
use Rattle.ssi_loads.specs.Laws.{FirstLinesArePlain}
use Rattle.ssi_loads.proofs.Groups.{joined, are_groups}
use Rattle.ssi_loads.proofs.FirstLines.{both_parts}
use Rattle.ssi_loads.proofs.LoadedCourses.{loads_as_session}

abbrev pub ArePrinted : Type 0
ArePrinted = (c : Command) (text : Bytes) → IsLineOf (Do c) text → All (λ b. 32 ≤ b) text

abbrev ArePlain : List Bytes → Type 0
ArePlain lines = AllByRecursion IsPlain lines

both : (a b : List Bytes) → ArePlain a → ArePlain b → ArePlain (a ++ b)
both [] b p q = q
both (x ∷ a) b p q = (p.0, both a b p.1 q)

digits_plain : (n : ℕ) → n < 2 ^ 64 → IsPlain (decimal n)
digits_plain n small = decimal_by_steps (λ m ds. IsPlain ds)
    (λ m l. All-from_recursion (λ b. b ≢ 10) ((48 + m) ∷ []) (not_feed m, tt))
    (λ m ds l before. All-append (λ b. b ≢ 10) ds ((48 + m % 10) ∷ []) before
    (All-from_recursion (λ b. b ≢ 10) ((48 + m % 10) ∷ []) (not_feed (m % 10), tt)))
    n small
  where
    not_feed : (m : ℕ) → 48 + m ≢ 10
    not_feed m e = omega (arith, e)

header_plain : (n : ℕ) → n < 2 ^ 32 → IsPlain (header n)
header_plain n small = All-append (λ b. b ≢ 10) (codes "# ssi log 1 segment ") (decimal n)
    (plain_of (codes "# ssi log 1 segment ") (All-from_recursion (λ b. 32 ≤ b) (codes "# ssi log 1 segment ") (search arith)))
    (digits_plain n (omega (arith, small)))

module _ (law : ArePrinted) where
  command_plain : (c : Command) → IsCommand c → IsPlain (command_text c)
  command_plain c good = plain_of (command_text c) (law c (command_text c) (record { good = good; same = refl }))

  puts_plain : (rows : List FinalPair) → AllByRecursion IsFinal rows → ArePlain (map put_line rows)
  puts_plain [] good = tt
  puts_plain (row ∷ rows) good =
      (command_plain (Put loader row.key row.value) (loads_as_session, good.0.key, good.0.value), puts_plain rows good.1)

  load_plain : (rows : List FinalPair) → AllByRecursion IsFinal rows → ArePlain (load_of rows)
  load_plain rows good = (
    command_plain (Begin loader) loads_as_session,
    both (map put_line rows) (command_text (Commit loader) ∷ []) (puts_plain rows good)
        (command_plain (Commit loader) loads_as_session, tt),
  )

  loads_plain : (gs : List (List FinalPair)) → AllByRecursion IsFinal (joined gs) → ArePlain (flat_map load_of gs)
  loads_plain [] good = tt
  loads_plain (g ∷ gs) good =
      let parts = both_parts IsFinal g (joined gs) good in
      both (load_of g) (flat_map load_of gs) (load_plain g parts.0) (loads_plain gs parts.1)

  pub lines_plain : FirstLinesArePlain
  lines_plain n rows small good = All-from_recursion IsPlain (first_lines n rows) (
    header_plain n small,
    both (load_lines rows) (loaded_line ∷ [])
        (loads_plain (groups rows) (subst (AllByRecursion IsFinal) (sym (are_groups rows).joins) good))
        (plain_of loaded_line (All-from_recursion (λ b. 32 ≤ b) loaded_line (search arith)), tt),
  )
