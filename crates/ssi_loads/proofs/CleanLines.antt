-- No zero stands in the text of the first lines.
use Rattle.std.proofs.Common.{◌≡◌, ◌≢◌, ℕ, ◌≤◌, ◌<◌, ◌+◌, ◌%◌, ◌^◌, List, [], ◌∷◌, ◌++◌, map, refl, sym, subst, arith}
use Rattle.std.specs.Prelude.{codes, decimal, flat_map}
use Rattle.std.specs.List.{All, AllByRecursion}
use Rattle.std.proofs.lemmas.Fmt.{decimal_by_steps}
use Rattle.std.proofs.lemmas.List.Elements.{All-append, All-from_recursion}
use Rattle.adya_keys.specs.Meaning.Keys.{Bytes}
use Rattle.adya_values.specs.Meaning.Histories.{FinalPair}
use Rattle.adya_line.specs.Meaning.Limits.{IsFinal}
use Rattle.adya_text.specs.Meaning.Texts.{with_ends}
use Rattle.ssi_store.specs.Meaning.Courses.{Command, Begin, Put, Commit}
use Rattle.ssi_line.specs.Meaning.Spelling.{command_text, IsCommand}
use Rattle.ssi_durable.specs.Meaning.Lines.{header}
use Rattle.ssi_durable.proofs.Stepping.{clean_of}
use Rattle.ssi_loads.specs.Meaning.Loads.{loader, put_line, load_of, load_lines, groups, loaded_line, first_lines}
use Rattle.ssi_loads.specs.Laws.{FirstLinesAreClean}
use Rattle.ssi_loads.proofs.Groups.{joined, are_groups}
use Rattle.ssi_loads.proofs.FirstLines.{both_parts}
use Rattle.ssi_loads.proofs.LoadedCourses.{loads_as_session}
use Rattle.ssi_loads.proofs.PlainLines.{ArePrinted}

abbrev IsClean : Bytes → Type 0
IsClean text = All (λ b. b ≢ 0) text

abbrev AreClean : List Bytes → Type 0
AreClean lines = AllByRecursion IsClean lines

both : (a b : List Bytes) → AreClean a → AreClean b → AreClean (a ++ b)
both [] b p q = q
both (x ∷ a) b p q = (p.0, both a b p.1 q)

feed_is_something : (b : ℕ) → b ≡ 10 → b ≢ 0
feed_is_something b is e = absurd (omega (arith, is, e))

feed_clean : IsClean (10 ∷ [])
feed_clean = All-from_recursion (λ b. b ≢ 0) (10 ∷ []) (feed_is_something 10 refl, tt)

ends_clean : (lines : List Bytes) → AreClean lines → IsClean (with_ends lines)
ends_clean [] clean = All-from_recursion (λ b. b ≢ 0) [] tt
ends_clean (line ∷ lines) clean =
    All-append (λ b. b ≢ 0) line (10 ∷ with_ends lines) clean.0
    (All-append (λ b. b ≢ 0) (10 ∷ []) (with_ends lines) feed_clean (ends_clean lines clean.1))

digits_clean : (n : ℕ) → n < 2 ^ 64 → IsClean (decimal n)
digits_clean n small = decimal_by_steps (λ m ds. IsClean ds)
    (λ m l. All-from_recursion (λ b. b ≢ 0) ((48 + m) ∷ []) (not_zero m, tt))
    (λ m ds l before. All-append (λ b. b ≢ 0) ds ((48 + m % 10) ∷ []) before
    (All-from_recursion (λ b. b ≢ 0) ((48 + m % 10) ∷ []) (not_zero (m % 10), tt)))
    n small
  where
    not_zero : (m : ℕ) → 48 + m ≢ 0
    not_zero m e = omega (arith, e)

header_clean : (n : ℕ) → n < 2 ^ 32 → IsClean (header n)
header_clean n small = All-append (λ b. b ≢ 0) (codes "# ssi log 1 segment ") (decimal n)
    (clean_of (codes "# ssi log 1 segment ") (All-from_recursion (λ b. 32 ≤ b) (codes "# ssi log 1 segment ") (search arith)))
    (digits_clean n (omega (arith, small)))

module _ (law : ArePrinted) where
  command_clean : (c : Command) → IsCommand c → IsClean (command_text c)
  command_clean c good = clean_of (command_text c) (law c (command_text c) (record { good = good; same = refl }))

  puts_clean : (rows : List FinalPair) → AllByRecursion IsFinal rows → AreClean (map put_line rows)
  puts_clean [] good = tt
  puts_clean (row ∷ rows) good =
      (command_clean (Put loader row.key row.value) (loads_as_session, good.0.key, good.0.value), puts_clean rows good.1)

  load_clean : (rows : List FinalPair) → AllByRecursion IsFinal rows → AreClean (load_of rows)
  load_clean rows good = (
    command_clean (Begin loader) loads_as_session,
    both (map put_line rows) (command_text (Commit loader) ∷ []) (puts_clean rows good)
        (command_clean (Commit loader) loads_as_session, tt),
  )

  loads_clean : (gs : List (List FinalPair)) → AllByRecursion IsFinal (joined gs) → AreClean (flat_map load_of gs)
  loads_clean [] good = tt
  loads_clean (g ∷ gs) good =
      let parts = both_parts IsFinal g (joined gs) good in
      both (load_of g) (flat_map load_of gs) (load_clean g parts.0) (loads_clean gs parts.1)

  pub lines_clean : FirstLinesAreClean
  lines_clean n rows small good = ends_clean (first_lines n rows) (
    header_clean n small,
    both (load_lines rows) (loaded_line ∷ [])
        (loads_clean (groups rows) (subst (AllByRecursion IsFinal) (sym (are_groups rows).joins) good))
        (clean_of loaded_line (All-from_recursion (λ b. 32 ≤ b) loaded_line (search arith)), tt),
  )
