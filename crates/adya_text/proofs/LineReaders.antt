-- What is known of the lines that a reader was fed with.
use Rattle.std.proofs.Common.{◌≡◌, ℕ, ◌<◌, Bool, true, false, List, [], ◌∷◌, ◌++◌, length, Option, Some, None, refl, sym, ap, arith}
use Rattle.std.specs.Bool.{OnTrue}
use Rattle.std.specs.Option.{is_some}
use Rattle.std.proofs.lemmas.List.{length-append}
use Rattle.adya_text.specs.Clauses.Faults.{Begins}
use Rattle.adya_text.specs.Machinery.LineReaders.{IsFed}
use Rattle.adya_text.specs.Machinery.LongLines.{StartsNoLine}
use Rattle.adya_text.proofs.FaultLines.{Grammar, front_begins, fault_stays, fault_stops}

module _ {D : Type 0} (grammar : Grammar) (has_lines : D → List (List ℕ) → Type 0) (draft : D) where
  pub fed_going : (fault : Option ℕ) (past : List (List ℕ)) → IsFed grammar has_lines draft fault past
      → is_some fault ≡ false → has_lines draft past
  fed_going None past fed none = fed
  fed_going (Some k) past fed none = absurd cc

  pub fed_stops : (fault : Option ℕ) (past : List (List ℕ)) → IsFed grammar has_lines draft fault past
      → is_some fault ≡ true → Begins grammar past → ⊥
  fed_stops None past fed some b = absurd cc
  fed_stops (Some k) past fed some b = fault_stops grammar past k fed.0 fed.1 b

  pub stops_if : (fault : Option ℕ) (failed : Bool) → failed ≡ is_some fault
      → OnTrue failed ((past : List (List ℕ)) → IsFed grammar has_lines draft fault past → Begins grammar past → ⊥)
  stops_if fault true is = λ past fed. fed_stops fault past fed (sym is)
  stops_if fault false is = tt

  pub fed_stays : (fault : Option ℕ) (past : List (List ℕ)) (line : List ℕ) → IsFed grammar has_lines draft fault past
      → is_some fault ≡ true → IsFed grammar has_lines draft fault (past ++ line ∷ [])
  fed_stays None past line fed some = absurd cc
  fed_stays (Some k) past line fed some =
      (omega (arith, length-append past (line ∷ []), fed.0), fault_stays grammar past (line ∷ []) k fed.0 fed.1)

  pub fed_long : (fault : Option ℕ) (past : List (List ℕ)) → IsFed grammar has_lines draft fault past
      → is_some fault ≡ true → (start : List ℕ) → 0 < length start → StartsNoLine grammar past start
  fed_long fault past fed some start longer = record {
    some = λ empty. omega (arith, longer, ap (λ (l : List ℕ). length l) empty);
    stops = λ more b. fed_stops fault past fed some (front_begins grammar past ((start ++ more) ∷ []) b);
  }

pub unfaulty : (fault : Option ℕ) → ((k : ℕ) → fault ≡ Some k → ⊥) → is_some fault ≡ false
unfaulty None none = refl
unfaulty (Some k) none = absurd (none k refl)
