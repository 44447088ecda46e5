-- Logs without reads: no pair ever stands in them, so nothing is unsafe. And after the last commit of a log nothing more was
-- installed.
use Rattle.std.proofs.Common.{◌≡◌, ℕ, suc, ◌≤◌, ◌==◌, Bool, true, false, cond, not, ◌&&◌, ◌||◌, List, [], ◌∷◌, Option, None, refl, sym, ◌∙◌, ap, arith, nat_le, nat_lt, is_some}
use Rattle.std.specs.List.{list_any}
use Rattle.std.proofs.lemmas.Bool.{le-leb, le-ltb, and_left, and_right}
use Rattle.lemmas.proofs.Finds.{none_found}
use Rattle.adya_keys.specs.Meaning.Keys.{Key}
use Rattle.adya_values.specs.Meaning.Events.{listed}
use Rattle.ssi_versions.specs.Meaning.Changes.{Held, contents, is_installed_above, otherwise, stamped}
use Rattle.ssi_conflict.specs.Meaning.Calls.{Call, Commits as Ends, meets, begun, is_aborted, are_concurrent, stamp_of}
use Rattle.ssi_conflict.specs.Computing.Steps.{adds, is_pair, is_earlier, is_ordered_pivot, smallest_ordered_pivot}
use Rattle.ssi_store.specs.Meaning.Acts.{Act, Begins, Writes, Gets, Scans, Commits, Aborts, Collects}
use Rattle.ssi_store.specs.Meaning.Replies.{conflict, is_overtaken}
use Rattle.ssi_store.specs.Meaning.Seeing.{changed, commit_count, keys, last_writes, snapshot, wrote}

none_passes : {X : Type 0} (f : X → Bool) (xs : List X) → ((x : X) → f x ≡ false) → list_any f xs ≡ false
none_passes f [] h = refl
none_passes f (x ∷ xs) h = ap (λ b. b || list_any f xs) (h x) ∙ none_passes f xs h

-- ---- pairs

-- calls in which nothing was read and no pair stands
pub record AreQuiet (calls : List Call) : Type 0 where
  pub unread : (t : ℕ) (k : Key) → meets t k calls ≡ false
  pub unpaired : (r u : ℕ) → is_pair r u calls ≡ false

pub quiet_at_first : AreQuiet []
quiet_at_first = record { unread = λ t k. refl; unpaired = λ r u. refl }

adds_none : (t n : ℕ) (ks : List Key) (calls : List Call) → AreQuiet calls → (r u : ℕ) → adds (Ends t n ks) calls r u ≡ false
adds_none t n ks calls quiet r u =
    and_right (t == u) _ (and_right (not (is_aborted r calls)) _ (and_right (are_concurrent r u (Ends t n ks ∷ calls)) _
    (none_passes (λ k. meets r k calls) ks (λ k. quiet.unread r k))))

pub quiet_on : (t n : ℕ) (ks : List Key) (calls : List Call) → AreQuiet calls → AreQuiet (Ends t n ks ∷ calls)
quiet_on t n ks calls quiet = record {
  unread = quiet.unread;
  unpaired = λ r u. ap (λ b. b || is_pair r u calls) (adds_none t n ks calls quiet r u) ∙ quiet.unpaired r u;
}

no_pivot : (calls : List Call) → AreQuiet calls → (t : ℕ) → is_ordered_pivot t calls ≡ false
no_pivot calls quiet t = none_passes _ (begun calls) (λ b.
    and_left (is_pair t b calls && is_earlier (stamp_of b calls) (stamp_of t calls)) _
    (and_left (is_pair t b calls) _ (quiet.unpaired t b)))

pub no_pivots : (calls : List Call) → AreQuiet calls → smallest_ordered_pivot calls ≡ None
no_pivots calls quiet = none_found (λ t. is_ordered_pivot t calls) (begun calls) (λ t c. no_pivot calls quiet t)

-- ---- versions

none_above : (k : Key) (s : ℕ) (log : List Act) → commit_count log ≤ s → is_installed_above k s (changed log) ≡ false
none_above k s [] l = refl
none_above k s (Begins u ∷ log) l = none_above k s log l
none_above k s (Writes u j c ∷ log) l = none_above k s log l
none_above k s (Gets u j ∷ log) l = none_above k s log l
none_above k s (Scans u low high ∷ log) l = none_above k s log l
none_above k s (Aborts u ∷ log) l = none_above k s log l
none_above k s (Collects ∷ log) l = none_above k s log l
none_above k s (Commits u ∷ log) l =
    let here = and_left (nat_lt s (suc (commit_count log))) (is_some (listed k (last_writes u log)))
    (le-ltb s (suc (commit_count log)) l) in
    ap (λ b. b || is_installed_above k s (changed log)) here ∙ none_above k s log (omega (arith, l))

-- a transaction with no commit since it began is in no conflict
pub no_conflict : (t : ℕ) (log : List Act) → snapshot t log ≡ commit_count log → conflict t log ≡ None
no_conflict t log since = none_found (is_overtaken t log) (keys log) (λ k c.
    and_right (wrote t k log) _ (none_above k (snapshot t log) log (omega (arith, since))))

-- what was installed by the last commit stays
pub contents_stay : (k : Key) (s : ℕ) (log : List Act) → commit_count log ≤ s
    → contents k (suc s) (changed log) ≡ contents k s (changed log)
contents_stay k s [] l = refl
contents_stay k s (Begins u ∷ log) l = contents_stay k s log l
contents_stay k s (Writes u j c ∷ log) l = contents_stay k s log l
contents_stay k s (Gets u j ∷ log) l = contents_stay k s log l
contents_stay k s (Scans u low high ∷ log) l = contents_stay k s log l
contents_stay k s (Aborts u ∷ log) l = contents_stay k s log l
contents_stay k s (Collects ∷ log) l = contents_stay k s log l
contents_stay k s (Commits u ∷ log) l =
    let n = suc (commit_count log) in
    let new = stamped n (listed k (last_writes u log)) in
    let before = contents_stay k s log (omega (arith, l)) in
    let later : nat_le n (suc s) ≡ true = le-leb n (suc s) (omega (arith, l)) in
    let now : nat_le n s ≡ true = le-leb n s l in
    ap (λ b. cond b (otherwise new (contents k (suc s) (changed log))) (contents k (suc s) (changed log))) later
    ∙ ap (λ (o : Option Held). otherwise new o) before
    ∙ ap (λ b. cond b (otherwise new (contents k s (changed log))) (contents k s (changed log))) (sym now)
