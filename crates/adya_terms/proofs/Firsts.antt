-- The first fault of joined lists, and of the events from one on.
use Rattle.std.proofs.Common.{◌≡◌, ℕ, suc, ◌+◌, ◌<◌, not, length, get_or, Result, MatchResult, true, false, List, [], ◌∷◌, ◌++◌, Some, take, drop, sym, ◌∙◌, ap, subst, arith}
use Rattle.adya_values.specs.declared.fault.CheckFault.{CheckFault}
use Rattle.adya_values.specs.declared.fault.CheckFault.TheVariants as Checked
use Rattle.adya_values.specs.declared.fault.Rule.TheVariants.{M6, M7, M8}
use Rattle.adya_values.specs.Meaning.Histories.{Event, FinalPair, History, Order}
use Rattle.adya_values.specs.Clauses.Rules.{has_ended, installs}
use Rattle.adya_values.specs.Computing.Faults.{Fault, Malformed, first, faults_at, event_faults, fault_unless, lists_exactly, order_faults, unfinished_faults, final_faults, is_value, last_value}
use Rattle.adya_terms.specs.Machinery.Checks.{Names}
use Rattle.lemmas.proofs.Steps.{drop_step, IsTurn}
use Rattle.adya_values.proofs.Faults.{first_left}

-- the faults from an event on
faults_from : (all : List Event) (i : ℕ) (e : Event) → IsTurn all i e
    → event_faults (take i all) (2 + i) (drop i all) ≡ faults_at (take i all) (2 + i) e ++ event_faults (take (i + 1) all) (2 + (i + 1)) (drop (i + 1) all)
faults_from all i e t =
    let line : suc (2 + i) ≡ 2 + (i + 1) = omega arith in
    ap (event_faults (take i all) (2 + i)) t.rest ∙
    (ap (λ n. faults_at (take i all) (2 + i) e ++ event_faults (take i all ++ e ∷ []) n (drop (i + 1) all)) line ∙
    ap (λ b. faults_at (take i all) (2 + i) e ++ event_faults b (2 + (i + 1)) (drop (i + 1) all)) (sym t.front))

pub fault_here : (all : List Event) (i : ℕ) (e : Event) → IsTurn all i e → (fault : Fault) → first (faults_at (take i all) (2 + i) e) ≡ Some fault
    → first (event_faults (take i all) (2 + i) (drop i all)) ≡ Some fault
fault_here all i e t fault h =
    ap first (faults_from all i e t) ∙ first_left (faults_at (take i all) (2 + i) e) (event_faults (take (i + 1) all) (2 + (i + 1)) (drop (i + 1) all)) fault h

pub fault_later : (all : List Event) (i : ℕ) (e : Event) → IsTurn all i e → faults_at (take i all) (2 + i) e ≡ []
    → event_faults (take i all) (2 + i) (drop i all) ≡ event_faults (take (i + 1) all) (2 + (i + 1)) (drop (i + 1) all)
fault_later all i e t h =
    faults_from all i e t ∙ ap (λ fs. fs ++ event_faults (take (i + 1) all) (2 + (i + 1)) (drop (i + 1) all)) h

-- the faults of lines, where the line of the element is broken or not
pub order_here : (all : List Event) (line : ℕ) (os : List Order) (i : ℕ) (o : Order) → IsTurn os i o → lists_exactly (installs all o.key) o.writers all ≡ false
    → first (order_faults all line (drop i os)) ≡ Some (Malformed line M7)
order_here all line os i o t e =
    ap (λ xs. first (order_faults all line xs)) t.rest ∙
    ap (λ b. first (fault_unless b line M7 ++ order_faults all (suc line) (drop (i + 1) os))) e

pub order_later : (all : List Event) (line : ℕ) (os : List Order) (i : ℕ) (o : Order) → IsTurn os i o → lists_exactly (installs all o.key) o.writers all ≡ true
    → order_faults all (line + i) (drop i os) ≡ order_faults all (line + (i + 1)) (drop (i + 1) os)
order_later all line os i o t e =
    let next : suc (line + i) ≡ line + (i + 1) = omega arith in
    ap (order_faults all (line + i)) t.rest ∙
    (ap (λ b. fault_unless b (line + i) M7 ++ order_faults all (suc (line + i)) (drop (i + 1) os)) e ∙
    ap (λ n. order_faults all n (drop (i + 1) os)) next)

-- the same of finals
pub final_here : (h : History) (line : ℕ) (fs : List FinalPair) (i : ℕ) (f : FinalPair) → IsTurn fs i f → is_value (last_value h f.key) f.value ≡ false
    → first (final_faults h line (drop i fs)) ≡ Some (Malformed line M8)
final_here h line fs i f t e =
    ap (λ xs. first (final_faults h line xs)) t.rest ∙
    ap (λ b. first (fault_unless b line M8 ++ final_faults h (suc line) (drop (i + 1) fs))) e

pub final_later : (h : History) (line : ℕ) (fs : List FinalPair) (i : ℕ) (f : FinalPair) → IsTurn fs i f → is_value (last_value h f.key) f.value ≡ true
    → final_faults h (line + i) (drop i fs) ≡ final_faults h (line + (i + 1)) (drop (i + 1) fs)
final_later h line fs i f t e =
    let next : suc (line + i) ≡ line + (i + 1) = omega arith in
    ap (final_faults h (line + i)) t.rest ∙
    (ap (λ b. fault_unless b (line + i) M8 ++ final_faults h (suc (line + i)) (drop (i + 1) fs)) e ∙
    ap (λ n. final_faults h n (drop (i + 1) fs)) next)

-- what is found of a list, behind one with no fault or before any
pub names_front : (xs ys : List Fault) (e : CheckFault) → Names xs e → Names (xs ++ ys) e
names_front xs ys (Checked.Malformed line rule) h = first_left xs ys _ h
names_front xs ys (Checked.AbortedRead line version) h = first_left xs ys _ h
names_front xs ys (Checked.IntermediateRead line version) h = first_left xs ys _ h
names_front xs ys Checked.Memory h = tt

pub found_behind : (r : Result (Unit {0}) CheckFault) (xs ys : List Fault) → xs ≡ [] → MatchResult r (λ u. ys ≡ []) (Names ys)
    → MatchResult r (λ u. xs ++ ys ≡ []) (Names (xs ++ ys))
found_behind r xs ys none h = subst (λ zs. MatchResult r (λ u. zs ++ ys ≡ []) (Names (zs ++ ys))) (sym none) h

pub names_behind : (xs ys : List Fault) (e : CheckFault) → xs ≡ [] → Names ys e → Names (xs ++ ys) e
names_behind xs ys e none h = subst (λ zs. Names (zs ++ ys) e) (sym none) h

pub unfinished_here : (all : List Event) (line : ℕ) (ts : List ℕ) (i : ℕ) (t : ℕ) → i < length ts → t ≡ get_or ts i t → has_ended all t ≡ true
    → first (unfinished_faults all line (drop i ts)) ≡ Some (Malformed line M6)
unfinished_here all line ts i t l at e =
    ap (λ xs. first (unfinished_faults all line xs)) (drop_step ts i t l at) ∙
    ap (λ b. first (fault_unless (not b) line M6 ++ unfinished_faults all (suc line) (drop (i + 1) ts))) e

pub unfinished_later : (all : List Event) (line : ℕ) (ts : List ℕ) (i : ℕ) (t : ℕ) → i < length ts → t ≡ get_or ts i t → has_ended all t ≡ false
    → unfinished_faults all (line + i) (drop i ts) ≡ unfinished_faults all (line + (i + 1)) (drop (i + 1) ts)
unfinished_later all line ts i t l at e =
    let next : suc (line + i) ≡ line + (i + 1) = omega arith in
    ap (unfinished_faults all (line + i)) (drop_step ts i t l at) ∙
    (ap (λ b. fault_unless (not b) (line + i) M6 ++ unfinished_faults all (suc (line + i)) (drop (i + 1) ts)) e ∙
    ap (λ n. unfinished_faults all n (drop (i + 1) ts)) next)
