-- The serial run of a list of transactions in two parts.
use Rattle.std.proofs.Common.{◌≡◌, ℕ, suc, true, cond, List, [], ◌∷◌, ◌++◌, length, None, Some, sym, ◌∙◌, ap, subst, arith, append_assoc, length-append, append-nil}
use Rattle.std.specs.Prelude.{flat_map, Contains, ◌↔◌}
use Rattle.adya_keys.specs.Meaning.Keys.{Key, key_eq, lies_in}
use Rattle.adya_values.specs.Meaning.Histories.{Event, Write, Delete, Read, Scan, Commit, Abort, History}
use Rattle.adya_values.specs.Meaning.Serial.{Contents, after, run, events_of, visible_pairs, pair, Sees, AllSee}
use Rattle.adya_values.specs.Clauses.Acceptance.{IsAccepted}
use Rattle.adya_laws.proofs.SerialRuns.{run_append}
use Rattle.adya_laws.proofs.SerialContents.{HoldsVersion}
use Rattle.adya_laws.proofs.AcceptedAgrees.{holds_after}

-- what is seen after a front
pub see_rest : (xs ys : List Event) (m : Contents) → AllSee m (xs ++ ys) → AllSee (run m xs) ys
see_rest [] ys m see = see
see_rest (x ∷ xs) ys m see = see_rest xs ys (after m x) see.1

-- ---- maps that hold the same

abbrev pub AreSame : Contents → Contents → Type 0
AreSame m n = (k : Key) → m k ≡ n k

same_after : (m n : Contents) → AreSame m n → (e : Event) → AreSame (after m e) (after n e)
same_after m n same (Write t j i v) k = ap (λ o. cond (key_eq j k) (Some v) o) (same k)
same_after m n same (Delete t j i) k = ap (λ o. cond (key_eq j k) None o) (same k)
same_after m n same (Read t r v) k = same k
same_after m n same (Scan t low high es) k = same k
same_after m n same (Commit t) k = same k
same_after m n same (Abort t) k = same k

same_seen : (m n : Contents) → AreSame m n → (e : Event) → Sees m e → Sees n e
same_seen m n same (Write t j i v) see = see
same_seen m n same (Delete t j i) see = see
same_seen m n same (Read t r v) see = sym (same r.key) ∙ see
same_seen m n same (Scan t low high es) see =
    λ k v. subst (λ o. ((lies_in low high k ≡ true) × (o ≡ Some v)) ↔ Contains (visible_pairs es) (pair k v)) (same k) (see k v)
same_seen m n same (Commit t) see = see
same_seen m n same (Abort t) see = see

pub same_run : (es : List Event) (m n : Contents) → AreSame m n → AreSame (run m es) (run n es)
same_run [] m n same = same
same_run (e ∷ es) m n same = same_run es (after m e) (after n e) (same_after m n same e)

pub all_see_same : (es : List Event) (m n : Contents) → AreSame m n → AllSee m es → AllSee n es
all_see_same [] m n same see = tt
all_see_same (e ∷ es) m n same see =
    (same_seen m n same e see.0, all_see_same es (after m e) (after n e) (same_after m n same e) see.1)

-- ---- what a front leaves

-- after the first part of an accepted order each key holds the version that its transactions have left
pub front_holds : (h : History) (ts : List ℕ) → IsAccepted h ts → (done more back : List ℕ) → ts ≡ done ++ (more ++ back)
    → (m : Contents) → ((k : List ℕ) → HoldsVersion h ts k (length done) (m k))
    → (k : List ℕ) → HoldsVersion h ts k (length (done ++ more)) (run m (flat_map (events_of h.events) more) k)
front_holds h ts a done [] back cut m stands k =
    subst (λ n. HoldsVersion h ts k n (m k)) (ap length (sym (append-nil done))) (stands k)
front_holds h ts a done (t ∷ more) back cut m stands k =
    let own = events_of h.events t in
    let rest = flat_map (events_of h.events) more in
    let further : ts ≡ (done ++ t ∷ []) ++ (more ++ back) = cut ∙ sym (append_assoc done (t ∷ []) (more ++ back)) in
    let longer : suc (length done) ≡ length (done ++ t ∷ []) = simp length-append (omega arith) in
    let now : (j : List ℕ) → HoldsVersion h ts j (length (done ++ t ∷ [])) (run m own j) =
    λ j. subst (λ n. HoldsVersion h ts j n (run m own j)) longer (holds_after h ts a done t (more ++ back) cut m stands j) in
    let all = front_holds h ts a (done ++ t ∷ []) more back further (run m own) now k in
    subst (λ n. HoldsVersion h ts k n (run m (own ++ rest) k)) (ap length (append_assoc done (t ∷ []) more))
    (subst (λ s. HoldsVersion h ts k (length ((done ++ t ∷ []) ++ more)) (s k)) (sym (run_append own rest m)) all)
