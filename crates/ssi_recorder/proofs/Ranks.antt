-- A line has the installed versions of its key, in the order of their commits.
use Rattle.std.proofs.Common.{◌≡◌, ℕ, suc, ◌<◌, ◌≤◌, ◌+◌, ◌-◌, true, false, cond, List, [], ◌∷◌, map, length, slice_get, Option, Some, None, refl, ◌∙◌, ap, sym, subst, arith, option_map, inl, inr}
use Rattle.std.specs.List.{filter_map, cons_option, AllByRecursion}
use Rattle.std.specs.List.Sorted.{IsStrictlySortedBy}
use Rattle.std.specs.Map.{lookup, keys_of, values_of}
use Rattle.std.specs.BTreeMap.{is_at}
use Rattle.std.specs.Ordering.{nat_cmp, MatchOrdering}
use Rattle.std.specs.declared.cmp.Ordering.TheVariants.{Less}
use Rattle.std.specs.Cmp.Lexicographic.{slice_cmp}
use Rattle.std.proofs.lemmas.Bool.{cases_order, false_from_ne_true}
use Rattle.std.proofs.lemmas.Cmp.{ranked}
use Rattle.std.proofs.lemmas.Option.{same_Some}
use Rattle.std.proofs.lemmas.Map.Keys.{sorted_head, sorted_tail}
use Rattle.std.proofs.lemmas.Map.Entries.{lookup_head, lookup_tail}
use Rattle.adya_values.specs.declared.event.Entry.{Entry as EntryValue}
use Rattle.adya_values.specs.Meaning.Histories.{Entry, Event}
use Rattle.adya_values.specs.Mirror.Events.{entry_of}
use Rattle.adya_values.specs.Meaning.Events.{last_write, last}
use Rattle.ssi_recorder.specs.Meaning.Recorded.{by_commit}
use Rattle.ssi_recorder.specs.Machinery.Lines.{Line, line_at, put_in, put_at, IsLine, AreLines, write_by, versions_by_commit, versions_under}
use Rattle.ssi_recorder.proofs.Placed.{same_place, place_same}

less_lt : (a b : ℕ) → nat_cmp a b ≡ Less → a < b
less_lt a b e = subst (λ o. MatchOrdering o (a < b) (a ≡ b) (b < a)) e (ranked a b (nat_cmp a b) refl)

place_below : (a b : ℕ) → a < b → is_at (nat_cmp a) b ≡ false
place_below a b lt = false_from_ne_true (is_at (nat_cmp a) b) (λ t. omega (arith, place_same a b t, lt))

place_above : (a b : ℕ) → b < a → is_at (nat_cmp a) b ≡ false
place_above a b lt = false_from_ne_true (is_at (nat_cmp a) b) (λ t. omega (arith, place_same a b t, lt))

all_above : (k m : ℕ) (ks : List ℕ) → m ≤ k → AllByRecursion (λ y. nat_cmp k y ≡ Less) ks → AllByRecursion (λ y. m + 1 ≤ y) ks
all_above k m [] le all = all
all_above k m (y ∷ ks) le all = (omega (arith, less_lt k y all.0, le), all_above k m ks le all.1)

none_below : (m : ℕ) (es : List (ℕ × EntryValue)) → AllByRecursion (λ k. m + 1 ≤ k) (keys_of es) → lookup (is_at (nat_cmp m)) es ≡ None
none_below m [] all = refl
none_below m (e ∷ es) all =
    ap (λ b. cond b (Some e.1) (lookup (is_at (nat_cmp m)) es)) (place_below m e.0 (omega (arith, all.0))) ∙ none_below m es all.1

-- if each place has the write of the committed transaction at it, the values are the writes of all, in order
module _ (q : List ℕ) (events : List Event) where
  pub ranked_values : (ts : List ℕ) (m : ℕ) (es : List (ℕ × EntryValue)) → IsStrictlySortedBy nat_cmp (keys_of es) → AllByRecursion (λ k. m ≤ k) (keys_of es)
      → ((r : ℕ) → option_map entry_of (lookup (is_at (nat_cmp (m + r))) es) ≡ write_by (slice_get ts r) q events)
      → map entry_of (values_of es) ≡ filter_map (λ t. last_write t q events) ts
  ranked_values [] m [] sorted all at = refl
  ranked_values [] m (e ∷ es) sorted all at =
      let here : lookup (is_at (nat_cmp (m + (e.0 - m)))) (e ∷ es) ≡ Some e.1 = lookup_head (is_at (nat_cmp (m + (e.0 - m)))) e es (same_place (m + (e.0 - m)) e.0 (omega (arith, all.0))) in
      let bad : ◌≡◌ {A = Option Entry} (Some (entry_of e.1)) None = sym (ap (option_map entry_of) here) ∙ at (e.0 - m) in
      cc
  ranked_values (t ∷ ts) m [] sorted all at =
      ranked_values ts (m + 1) [] sorted all (λ r. at (suc r)) ∙ ap (λ o. cons_option o (filter_map (λ x. last_write x q events) ts)) (at 0)
  ranked_values (t ∷ ts) m (e ∷ es) sorted all at =
      let sum : (r : ℕ) → m + 1 + r ≡ m + suc r = λ r. omega arith in
      elim (cases_order m e.0) [
        | inl same ↦
            let first : ◌≡◌ {A = Option Entry} (Some (entry_of e.1)) (last_write t q events) =
            sym (ap (option_map entry_of) (lookup_head (is_at (nat_cmp (m + 0))) e es (same_place (m + 0) e.0 (omega (arith, same))))) ∙ at 0 in
            let rest = ranked_values ts (m + 1) es (sorted_tail nat_cmp e.0 (keys_of es) sorted) (all_above e.0 m (keys_of es) (omega (arith, same)) (sorted_head nat_cmp e.0 (keys_of es) sorted))
            (λ r. ap (λ n. option_map entry_of (lookup (is_at (nat_cmp n)) es)) (sum r)
            ∙ ap (option_map entry_of) (sym (lookup_tail (is_at (nat_cmp (m + suc r))) e es (place_above (m + suc r) e.0 (omega (arith, same))))) ∙ at (suc r)) in
            ap (λ ws. entry_of e.1 ∷ ws) rest ∙ ap (λ o. cons_option o (filter_map (λ x. last_write x q events) ts)) first
        | inr (inl lt) ↦
            let above : AllByRecursion (λ k. m + 1 ≤ k) (keys_of (e ∷ es)) = (omega (arith, lt), all_above e.0 m (keys_of es) (omega (arith, lt)) (sorted_head nat_cmp e.0 (keys_of es) sorted)) in
            let none : ◌≡◌ {A = Option Entry} None (last_write t q events) =
            sym (ap (option_map entry_of) (ap (λ n. lookup (is_at (nat_cmp n)) (e ∷ es)) (omega arith) ∙ none_below m (e ∷ es) above)) ∙ at 0 in
            ranked_values ts (m + 1) (e ∷ es) sorted above (λ r. ap (λ n. option_map entry_of (lookup (is_at (nat_cmp n)) (e ∷ es))) (sum r) ∙ at (suc r))
            ∙ ap (λ o. cons_option o (filter_map (λ x. last_write x q events) ts)) none
        | inr (inr gt) ↦ absurd (omega (arith, gt, all.0))
      ]

line_there : (q : List ℕ) (ls : List (List ℕ × Line)) (m : Line) → AreLines ls → line_at q ls ≡ Some m → IsLine m
line_there q [] m all is = cc
line_there q (e ∷ ls) m all is =
    elim (is_at (slice_cmp nat_cmp q) e.0) as (λ b. cond b (Some e.1) (line_at q ls) ≡ Some m → IsLine m) [
      | true ↦ λ s. subst IsLine (same_Some e.1 m s) all.0
      | false ↦ λ s. line_there q ls m all.1 s
    ] is

zero_within : (ks : List ℕ) → AllByRecursion (λ k. 0 ≤ k) ks
zero_within [] = _
zero_within (k ∷ ks) = (omega arith, zero_within ks)

no_keys : IsStrictlySortedBy nat_cmp []
unfolding IsStrictlySortedBy
no_keys = _

-- so the line of each key has its installed versions
pub line_versions : (q : List ℕ) (events : List Event) (ls : List (List ℕ × Line)) → AreLines ls → ((r : ℕ) → put_at q r ls ≡ write_by (slice_get (by_commit events) r) q events)
    → versions_under (line_at q ls) ≡ versions_by_commit q events
line_versions q events ls all at =
    elim (line_at q ls) as (λ o. line_at q ls ≡ o → ((r : ℕ) → put_in r o ≡ write_by (slice_get (by_commit events) r) q events) → versions_under o ≡ versions_by_commit q events) [
      | None ↦ λ is f. ranked_values q events (by_commit events) 0 [] no_keys (zero_within []) (λ r. f r)
      | Some m ↦ λ is f. ranked_values q events (by_commit events) 0 m.entries (line_there q ls m all is).1 (zero_within (keys_of m.entries)) (λ r. ap (λ n. option_map entry_of (lookup (is_at (nat_cmp n)) m.entries)) (omega arith) ∙ f r)
    ] refl at

-- ---- the writers and the last version of a line
pub txns_of : (xs : List EntryValue) → map (λ w. w.version.txn) xs ≡ map (λ w. w.version.txn) (map entry_of xs)
txns_of [] = refl
txns_of (x ∷ xs) = ap (λ ts. x.version.txn ∷ ts) (txns_of xs)

pub last_value : (es : List (ℕ × EntryValue)) (p : ℕ × EntryValue) → slice_get es (length es - 1) ≡ Some p → last (map entry_of (values_of es)) ≡ Some (entry_of p.1)
last_value [] p is = cc
last_value (e ∷ []) p is = ap (λ x. Some (entry_of x.1)) (same_Some e p is)
last_value (e ∷ f ∷ es) p is =
    let n : suc (length (f ∷ es) - 1) ≡ length (e ∷ f ∷ es) - 1 = omega arith in
    last_value (f ∷ es) p (ap (slice_get (e ∷ f ∷ es)) n ∙ is)
