-- Runs on lists that are the same.
use Rattle.std.proofs.Common.{◌≡◌, ℕ, ◌==◌, Bool, true, false, cond, List, [], ◌∷◌, ◌++◌, refl, sym, ◌∙◌, ap}
use Rattle.append_values.specs.declared.transaction.Outcome.{Outcome}
use Rattle.append_values.specs.declared.transaction.Outcome.TheVariants.{Committed, Aborted, Unknown}
use Rattle.append_values.specs.Meaning.Histories.{Operation, Append, Read, LostRead, History, outcome, operations, lasting, effects}
use Rattle.append_values.specs.Meaning.Runs.{Lists, after, run, Sees, AllSee, Claims, AllClaims}

abbrev pub AreSame : Lists → Lists → Type 0
AreSame m n = (k : ℕ) → m k ≡ n k

pub after_same : (m n : Lists) (o : Operation) → AreSame m n → AreSame (after m o) (after n o)
after_same m n (Append j x) same k =
    elim (j == k) as (λ b. cond b (m k ++ x ∷ []) (m k) ≡ cond b (n k ++ x ∷ []) (n k)) [
      | true ↦ ap (λ ys. ys ++ x ∷ []) (same k)
      | false ↦ same k
    ]
after_same m n (Read j xs) same k = same k
after_same m n (LostRead j) same k = same k

pub run_same : (m n : Lists) (os : List Operation) → AreSame m n → AreSame (run m os) (run n os)
run_same m n [] same = same
run_same m n (o ∷ os) same = run_same (after m o) (after n o) os (after_same m n o same)

pub sees_same : (m n : Lists) (o : Operation) → AreSame m n → Sees m o → Sees n o
sees_same m n (Append j x) same s = tt
sees_same m n (Read j xs) same s = sym (same j) ∙ s
sees_same m n (LostRead j) same s = tt

pub all_see_same : (m n : Lists) (os : List Operation) → AreSame m n → AllSee m os → AllSee n os
all_see_same m n [] same s = tt
all_see_same m n (o ∷ os) same s = (sees_same m n o same s.0, all_see_same (after m o) (after n o) os (after_same m n o same) s.1)

pub claims_same : (m n : Lists) (o : Outcome) (os : List Operation) → AreSame m n → Claims m o os → Claims n o os
claims_same m n Committed os same c = all_see_same m n os same c
claims_same m n Aborted os same c = tt
claims_same m n Unknown os same c = tt

pub all_claims_same : (h : History) (m n : Lists) (ts : List ℕ) → AreSame m n → AllClaims h m ts → AllClaims h n ts
all_claims_same h m n [] same c = tt
all_claims_same h m n (t ∷ ts) same c = (
  claims_same m n (outcome h t) (operations h t) same c.0,
  all_claims_same h (run m (effects h t)) (run n (effects h t)) ts (run_same m n (effects h t) same) c.1,
)

-- one turn of a run over steps: what follows on the lists after the step follows on those before it
pub record Goes (claims : Bool) (first now : Lists) (all rest : List Operation) : Type 0 where
  pub runs : AreSame (run now rest) (run first all)
  pub sees : claims ≡ true → AllSee now rest → AllSee first all

pub begins : (claims : Bool) (m : Lists) (os : List Operation) → Goes claims m m os os
begins claims m os = record { runs = λ k. refl; sees = λ c s. s }

pub goes_on : (claims : Bool) (first now next : Lists) (all rest : List Operation) (o : Operation) → Goes claims first now all (o ∷ rest)
    → (claims ≡ true → Sees now o) → AreSame next (after now o) → Goes claims first next all rest
goes_on claims first now next all rest o g sees same = record {
  runs = λ k. run_same next (after now o) rest same k ∙ g.runs k;
  sees = λ c s. g.sees c (sees c, all_see_same next (after now o) rest same s);
}

pub ends : (claims : Bool) (first now : Lists) (all : List Operation) → Goes claims first now all []
    → (claims ≡ true → AllSee first all) × AreSame now (run first all)
ends claims first now all g = (λ c. g.sees c tt, g.runs)

pub claims_of : (m : Lists) (o : Outcome) (os : List Operation) (b : Bool) → (o ≡ Committed → b ≡ true) → (b ≡ true → AllSee m (lasting o os)) → Claims m o os
claims_of m Committed os b is all = all (is refl)
claims_of m Aborted os b is all = tt
claims_of m Unknown os b is all = tt

-- an order whose transactions were run up to a place: what is claimed of the rest is claimed of all
pub record Replays (h : History) (first now : Lists) (all rest : List ℕ) : Type 0 where
  pub claims : AllClaims h now rest → AllClaims h first all

pub replay_goes_on : (h : History) (first now next : Lists) (all rest : List ℕ) (t : ℕ) → Replays h first now all (t ∷ rest)
    → Claims now (outcome h t) (operations h t) → AreSame next (run now (effects h t)) → Replays h first next all rest
replay_goes_on h first now next all rest t r claims same = record {
  claims = λ c. r.claims (claims, all_claims_same h next (run now (effects h t)) rest same c);
}
