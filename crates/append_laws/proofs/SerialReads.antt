-- What the serial run leaves in a list, and what the claims of an order say of single reads.
use Rattle.std.proofs.Common.{◌≡◌, ℕ, ◌==◌, true, false, cond, List, [], ◌∷◌, ◌++◌, append_assoc, refl, sym, ◌∙◌, ap, subst}
use Rattle.std.specs.List.{flat_map}
use Rattle.std.proofs.lemmas.List.{append-nil}
use Rattle.append_values.specs.declared.transaction.Outcome.{Outcome}
use Rattle.append_values.specs.declared.transaction.Outcome.TheVariants.{Committed, Aborted, Unknown}
use Rattle.append_values.specs.Meaning.Histories.{Operation, Append, Read, LostRead, History, outcome, operations, effects}
use Rattle.append_values.specs.Meaning.Runs.{Lists, empty, after, run, AllSee, Claims, AllClaims}
use Rattle.append_values.specs.Meaning.Reads.{appended, own, HasRead}

-- a list after some steps has what they appended at its end
pub run_appends : (k : ℕ) (os : List Operation) (m : Lists) → run m os k ≡ m k ++ appended k os
run_appends k [] m = sym (append-nil (m k))
run_appends k (Append j x ∷ os) m =
    run_appends k os (after m (Append j x)) ∙
    (elim (j == k) as (λ b. cond b (m k ++ x ∷ []) (m k) ++ appended k os ≡ m k ++ cond b (x ∷ appended k os) (appended k os)) [
      | true ↦ append_assoc (m k) (x ∷ []) (appended k os)
      | false ↦ refl
    ])
run_appends k (Read j xs ∷ os) m = run_appends k os (after m (Read j xs))
run_appends k (LostRead j ∷ os) m = run_appends k os (after m (LostRead j))

pub seen_at : (k : ℕ) (xs : List ℕ) (before rest : List Operation) (m : Lists) → AllSee m (before ++ Read k xs ∷ rest)
    → run m before k ≡ xs
seen_at k xs [] rest m a = a.0
seen_at k xs (o ∷ before) rest m a = seen_at k xs before rest (after m o) a.1

-- the lists after whole transactions
abbrev pub run_all : History → Lists → List ℕ → Lists
run_all h m [] = m
run_all h m (t ∷ ts) = run_all h (run m (effects h t)) ts

pub run_all_appends : (h : History) (k : ℕ) (ts : List ℕ) (m : Lists) → run_all h m ts k ≡ m k ++ flat_map (own h k) ts
run_all_appends h k [] m = sym (append-nil (m k))
run_all_appends h k (t ∷ ts) m =
    run_all_appends h k ts (run m (effects h t)) ∙
    (ap (λ xs. xs ++ flat_map (own h k) ts) (run_appends k (effects h t) m) ∙
    append_assoc (m k) (own h k t) (flat_map (own h k) ts))

pub claims_at : (h : History) (t : ℕ) (front back : List ℕ) (m : Lists) → AllClaims h m (front ++ t ∷ back)
    → Claims (run_all h m front) (outcome h t) (operations h t)
claims_at h t [] back m a = a.0
claims_at h t (u ∷ front) back m a = claims_at h t front back (run m (effects h u)) a.1

-- a read returned what the transactions before it appended, and then its transaction's own appends so far
pub read_at : (h : History) (front back : List ℕ) (t k : ℕ) (xs : List ℕ) (before : List Operation)
    → AllClaims h empty (front ++ t ∷ back) → HasRead h t k xs before → flat_map (own h k) front ++ appended k before ≡ xs
read_at h front back t k xs before a r =
    let m = run_all h empty front in
    let claimed : Claims m Committed (operations h t) =
    subst (λ o. Claims m o (operations h t)) r.committed (claims_at h t front back empty a) in
    let sees : AllSee m (before ++ Read k xs ∷ r.rest) = subst (AllSee m) r.splits claimed in
    ap (λ ys. ys ++ appended k before) (sym (run_all_appends h k front empty)) ∙
    (sym (run_appends k before m) ∙ seen_at k xs before r.rest m sees)

-- the other way: reads that return what came before are what the claims say
pub all_see : (os : List Operation) (m : Lists)
    → ((k : ℕ) (xs : List ℕ) (before rest : List Operation) → os ≡ before ++ Read k xs ∷ rest → m k ++ appended k before ≡ xs)
    → AllSee m os
all_see [] m h = tt
all_see (Append j x ∷ os) m h = (
  tt,
  all_see os (after m (Append j x)) (λ k xs before rest e.
      sym (run_appends k before (after m (Append j x))) ∙
      (run_appends k (Append j x ∷ before) m ∙ h k xs (Append j x ∷ before) rest (ap (λ ps. Append j x ∷ ps) e))),
)
all_see (Read j ys ∷ os) m h = (
  sym (append-nil (m j)) ∙ h j ys [] os refl,
  all_see os (after m (Read j ys)) (λ k xs before rest e. h k xs (Read j ys ∷ before) rest (ap (λ ps. Read j ys ∷ ps) e)),
)
all_see (LostRead j ∷ os) m h =
    (tt, all_see os (after m (LostRead j)) (λ k xs before rest e. h k xs (LostRead j ∷ before) rest (ap (λ ps. LostRead j ∷ ps) e)))

claims_from : (o : Outcome) (os : List Operation) (m : Lists) → (o ≡ Committed → AllSee m os) → Claims m o os
claims_from Committed os m h = h refl
claims_from Aborted os m h = tt
claims_from Unknown os m h = tt

pub all_claims : (h : History) (ts : List ℕ) (m : Lists)
    → ((front back : List ℕ) (t k : ℕ) (xs : List ℕ) (before : List Operation) → ts ≡ front ++ t ∷ back → HasRead h t k xs before
    → m k ++ (flat_map (own h k) front ++ appended k before) ≡ xs)
    → AllClaims h m ts
all_claims h [] m f = tt
all_claims h (t ∷ ts) m f = (
  claims_from (outcome h t) (operations h t) m (λ c. all_see (operations h t) m (λ k xs before rest e.
      f [] ts t k xs before refl (record { committed = c; rest = rest; splits = e }))),
  all_claims h ts (run m (effects h t)) (λ front back u k xs before e r.
      ap (λ ys. ys ++ (flat_map (own h k) front ++ appended k before)) (run_appends k (effects h t) m) ∙
      (append_assoc (m k) (own h k t) (flat_map (own h k) front ++ appended k before) ∙
      (ap (λ ys. m k ++ ys) (sym (append_assoc (own h k t) (flat_map (own h k) front) (appended k before))) ∙
      f (t ∷ front) back u k xs before (ap (λ us. t ∷ us) e) r))),
)
