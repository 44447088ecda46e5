-- The list of the committed transactions, and their numbers.
use Rattle.std.proofs.Common.{◌≡◌, ℕ, ◌+◌, ◌<◌, ◌==◌, ◌||◌, List, [], ◌∷◌, ◌++◌, take, get_or, length, slice_get, Option, option_and_then, cond, All, refl, sym, ◌∙◌, ap, subst}
use Rattle.std.specs.List.{cons_option, list_any, count_by}
use Rattle.std.proofs.lemmas.Bool.{eqb-true}
use Rattle.lemmas.proofs.Booleans.{cond-positive}
use Rattle.lemmas.proofs.Members.{All-from_contained}
use Rattle.lemmas.proofs.Tests.{list_any-source}
use Rattle.lemmas.proofs.Counts.{count, count_contained}
use Rattle.adya_keys.specs.Meaning.Keys.{IsTxn}
use Rattle.std.proofs.lemmas.Option.{slice_get-get_or}
use Rattle.std.proofs.lemmas.List.{take_more}
use Rattle.std.proofs.lemmas.List.Elements.{filter_map-append, All-contains}
use Rattle.adya_values.specs.Meaning.Histories.{Event, Write, Delete, Read, Scan, Commit, Abort}
use Rattle.adya_values.specs.Meaning.Events.{commit_of, is_committed}
use Rattle.adya_dsg.specs.Machinery.Nodes.{committed}

-- the list of the committed transactions has those that are committed
pub committed_are_nodes : (events : List Event) (t : ℕ)
    → list_any (λ u. u == t) (committed events) ≡ is_committed events t
committed_are_nodes [] t = refl
committed_are_nodes (Write u k m v ∷ es) t = committed_are_nodes es t
committed_are_nodes (Delete u k m ∷ es) t = committed_are_nodes es t
committed_are_nodes (Read u r v ∷ es) t = committed_are_nodes es t
committed_are_nodes (Scan u low high entries ∷ es) t = committed_are_nodes es t
committed_are_nodes (Commit u ∷ es) t = ap (λ b. (u == t) || b) (committed_are_nodes es t)
committed_are_nodes (Abort u ∷ es) t = committed_are_nodes es t

-- who commits by the event at an index, after those before
pub one_more : (events : List Event) (i : ℕ) → i < length events → (found : Option ℕ)
    → option_and_then commit_of (slice_get events i) ≡ found → (ts : List ℕ) → ts ≡ committed (take i events)
    → ts ++ cons_option found [] ≡ committed (take (i + 1) events)
one_more events i l found here ts was =
    let x = get_or events i (Abort 0) in
    sym
    (ap committed (take_more events i (Abort 0) l) ∙
    (filter_map-append commit_of (take i events) (x ∷ []) ∙
    (ap (λ xs. xs ++ committed (x ∷ [])) (sym was) ∙
    ap (λ o. ts ++ cons_option o [])
    (ap (option_and_then commit_of) (sym (slice_get-get_or events i (Abort 0) l)) ∙ here))))

-- an order of the nodes has numbers of transactions
pub order_has_numbers : (nodes ts : List ℕ)
    → ((t : ℕ) → count_by (λ u. u == t) ts ≡ cond (list_any (λ u. u == t) nodes) 1 0) → All IsTxn nodes → All IsTxn ts
order_has_numbers nodes ts once numbers =
    All-from_contained IsTxn ts (λ t there.
    let node = cond-positive (list_any (λ u. u == t) nodes) (count ts t) (once t) (count_contained ts t there) in
    let at = list_any-source (λ u. u == t) nodes node in
    subst IsTxn (eqb-true at.0 t at.2) (All-contains IsTxn nodes at.0 numbers at.1))
