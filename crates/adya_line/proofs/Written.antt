-- What calls wrote that write one after the other.
use Rattle.std.proofs.Common.{◌≡◌, ℕ, List, ◌++◌, Option, Result, Ok, Err, true, ◌∙◌}
use Rattle.std.specs.Prelude.{IsErr}
use Rattle.std.proofs.KnownBytes.{Appends-trans}
use Rattle.std.proofs.lemmas.Result.{MatchResult-from_err}
use Rattle.devices.specs.declared.watched.Watched.{Watched}
use Rattle.devices.specs.Mirror.{has_failed, watched_contents}
use Rattle.devices.specs.Clauses.Writing.{Grew, Wrote}

module _ {D : Type 0} {contents : D → Option (List ℕ)} where
  pub grew_on : {old mid new : Watched D} (xs ys : List ℕ) → Grew contents old mid xs → Grew contents mid new ys
      → Grew contents old new (xs ++ ys)
  grew_on {old = old} {mid = mid} {new = new} xs ys first then = record {
    appends = Appends-trans (watched_contents contents old) (watched_contents contents mid)
        (watched_contents contents new) xs ys first.appends then.appends;
    works = then.works ∙ first.works;
  }

  -- the result is that of the last call
  pub wrote_on : {T E : Type 0} {old mid : Watched D} (new : Watched D) (xs ys : List ℕ) (result : Result T E)
      → Grew contents old mid xs → Wrote contents mid new ys result → Wrote contents old new (xs ++ ys) result
  wrote_on new xs ys (Ok v) first then = grew_on xs ys first then
  wrote_on new xs ys (Err e) first then = then

-- the call failed
pub not_wrote : {D T E : Type 0} (contents : D → Option (List ℕ)) (old new : Watched D) (bytes : List ℕ)
    (result : Result T E) → IsErr result → has_failed new ≡ true → Wrote contents old new bytes result
not_wrote contents old new bytes result is failed =
    MatchResult-from_err result (λ _. Grew contents old new bytes) (λ _. has_failed new ≡ true) is (λ _. failed)
