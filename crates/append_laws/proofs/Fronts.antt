-- What an order that explains a history says of one read: the transactions before the reader's, and what they appended.
use Rattle.std.proofs.Common.{◌≡◌, ◌⊎◌, ℕ, ◌≤◌, List, ◌∷◌, ◌++◌, append_assoc, Contains, sym, ◌∙◌, ap, subst, arith, inl, inr}
use Rattle.std.specs.List.{flat_map}
use Rattle.std.proofs.lemmas.List.Concat.{flat_map-append}
use Rattle.std.proofs.lemmas.List.Elements.{Contains-append_left, Contains-append_cases}
use Rattle.lemmas.proofs.Members.{flat_map-source}
use Rattle.lemmas.proofs.Counts.{count}
use Rattle.append_values.specs.declared.transaction.Outcome.{Outcome}
use Rattle.append_values.specs.declared.transaction.Outcome.TheVariants.{Committed, Aborted, Unknown}
use Rattle.append_values.specs.Meaning.Histories.{Operation, Read, History, lasting, outcome, operations}
use Rattle.append_values.specs.Meaning.Runs.{empty, AllClaims, Occurs, Explains}
use Rattle.append_values.specs.Meaning.Reads.{appended, own, HasRead, IsPrefixOf}
use Rattle.append_values.proofs.AppendedElements.{appended-append}
use Rattle.append_laws.proofs.SerialReads.{read_at}
use Rattle.append_laws.proofs.Places.{at}

abbrev pub IsListed : History → List ℕ → Type 0
IsListed h ts = (t : ℕ) → Occurs (outcome h t) (count ts t)

at_most_once : (o : Outcome) (n : ℕ) → Occurs o n → n ≤ 1
at_most_once Committed n e = omega (arith, e)
at_most_once Unknown n e = e
at_most_once Aborted n e = omega (arith, e)

pub once : (h : History) (ts : List ℕ) → IsListed h ts → (t : ℕ) → count ts t ≤ 1
once h ts listed t = at_most_once (outcome h t) (count ts t) (listed t)

pub committed_once : (h : History) (ts : List ℕ) (t : ℕ) → IsListed h ts → outcome h t ≡ Committed → count ts t ≡ 1
committed_once h ts t listed e = subst (λ o. Occurs o (count ts t)) e (listed t)

pub aborted_never : (h : History) (ts : List ℕ) (t : ℕ) → IsListed h ts → outcome h t ≡ Aborted → count ts t ≡ 0
aborted_never h ts t listed e = subst (λ o. Occurs o (count ts t)) e (listed t)

-- what a transaction appended before a read, and after it
pub own_splits : (h : History) (t k : ℕ) (xs : List ℕ) (before : List Operation) (r : HasRead h t k xs before)
    → own h k t ≡ appended k before ++ appended k r.rest
own_splits h t k xs before r =
    ap (λ o. appended k (lasting o (operations h t))) r.committed ∙
    (ap (appended k) r.splits ∙ appended-append k before (Read k xs ∷ r.rest))

pub own_contains : (h : History) (t k : ℕ) (xs : List ℕ) (before : List Operation) → HasRead h t k xs before
    → (x : ℕ) → Contains (appended k before) x → Contains (own h k t) x
own_contains h t k xs before r x c =
    subst (λ ys. Contains ys x) (sym (own_splits h t k xs before r)) (Contains-append_left (appended k before) (appended k r.rest) x c)

-- the reader's place in the order, and what the read returned
pub record IsPlaced (h : History) (ts : List ℕ) (t k : ℕ) (xs : List ℕ) (before : List Operation) : Type 0 where
  pub front : List ℕ
  pub back : List ℕ
  pub splits : ts ≡ front ++ t ∷ back
  pub first : count front t ≡ 0
  pub shows : flat_map (own h k) front ++ appended k before ≡ xs

pub placed : (h : History) (ts : List ℕ) (t k : ℕ) (xs : List ℕ) (before : List Operation) → Explains ts h → HasRead h t k xs before
    → IsPlaced h ts t k xs before
placed h ts t k xs before ex r =
    let one = committed_once h ts t ex.listed r.committed in
    let there = at ts t (omega (arith, one)) in
    record {
      front = there.front;
      back = there.back;
      splits = there.splits;
      first = there.first;
      shows = read_at h there.front there.back t k xs before (subst (AllClaims h empty) there.splits ex.claims) r;
    }

-- what a read returned begins the list that the whole order makes
pub read_begins : (h : History) (ts : List ℕ) (t k : ℕ) (xs : List ℕ) (before : List Operation) → Explains ts h → HasRead h t k xs before
    → IsPrefixOf xs (flat_map (own h k) ts)
read_begins h ts t k xs before ex r =
    let p = placed h ts t k xs before ex r in
    let early = flat_map (own h k) p.front in
    let late = flat_map (own h k) p.back in (
      appended k r.rest ++ late,
      ap (flat_map (own h k)) p.splits ∙
          (flat_map-append (own h k) p.front (t ∷ p.back) ∙
          (ap (λ ys. early ++ (ys ++ late)) (own_splits h t k xs before r) ∙
          (ap (λ ys. early ++ ys) (append_assoc (appended k before) (appended k r.rest) late) ∙
          (sym (append_assoc early (appended k before) (appended k r.rest ++ late)) ∙
          ap (λ ys. ys ++ (appended k r.rest ++ late)) p.shows)))),
    )

-- an element that was read was appended by a transaction before the reader's, or by this one
pub source : (h : History) (t k : ℕ) (xs : List ℕ) (before : List Operation) (front : List ℕ) → HasRead h t k xs before
    → flat_map (own h k) front ++ appended k before ≡ xs → (x : ℕ) → Contains xs x
    → ((w : ℕ) × Contains front w × Contains (own h k w) x) ⊎ Contains (own h k t) x
source h t k xs before front r shows x c =
    elim (Contains-append_cases (flat_map (own h k) front) (appended k before) x (subst (λ ys. Contains ys x) (sym shows) c)) [
      | inl d ↦ inl (flat_map-source (own h k) front x d)
      | inr d ↦ inr (own_contains h t k xs before r x d)
    ]
