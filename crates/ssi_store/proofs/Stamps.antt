-- Stamps, and the order of a key's installers.
use Rattle.std.proofs.Common.{List, None, Option, Some, [], ap, arith, cond, false, inl, inr, is_some, length, ltb-false, ltb-true, nat_lt, refl, slice_get, subst, suc, sym, true, zero, ℕ, ◌&&◌, ◌++◌, ◌+◌, ◌<◌, ◌==◌, ◌||◌, ◌∙◌, ◌∷◌, ◌≡◌, ◌≢◌, ◌≤◌, ◌⊎◌}
use Rattle.std.proofs.lemmas.Bool.{and_from, and_left, and_right, both_ways, cases_Bool, cases_lt, cond-false, cond-true, eq-eqb, eqb-true, le-leb, lt-ltb, or_left, or_right}
use Rattle.std.proofs.lemmas.Option.{none-some, same_Some, slice_get_within}
use Rattle.lemmas.proofs.Counts.{count, count-append, count_other, count_same}
use Rattle.lemmas.proofs.Finds.{find_none}
use Rattle.adya_values.specs.Meaning.Events.{listed}
use Rattle.adya_values.specs.Meaning.Histories.{Entry}
use Rattle.adya_keys.specs.Meaning.Keys.{key_eq}
use Rattle.adya_values.specs.Meaning.Orders.{place}
use Rattle.adya_values.specs.declared.edition.Edition.{Edition}
use Rattle.adya_values.proofs.Places.{place_at, place_other, place_same}
use Rattle.ssi_versions.specs.Meaning.Changes.{is_installed_above}
use Rattle.snapshot_histories.specs.Clauses.Snapshots.{stamp_in}
use Rattle.ssi_store.specs.Meaning.Acts.{Aborts, Act, Collects, Commits, Gets, Scans, Begins, Writes, has_committed, has_begun}
use Rattle.ssi_store.specs.Meaning.Replies.{is_overtaken}
use Rattle.ssi_store.specs.Meaning.Seeing.{changed, commit_count, committed, keys, last_writes, own_write, snapshot, wrote}
use Rattle.ssi_store.proofs.LoggedHistories.{history_of_log, installers}
use Rattle.ssi_store.proofs.Recorded.{commits_of_events, committers, length_more}
use Rattle.ssi_store.proofs.SeenByEvents.{snapshot_stays}
use Rattle.ssi_store.proofs.SoundLogs.{Allowed, Sound, committed_stamp, committed_begun, is_before, is_upto, not_open, open_from, stamp, stamp_above, stamp_committed}
use Rattle.ssi_store.proofs.OwnWrites.{committed_step, last_writes_of, own_write_is, wrote_key}

committers_length : (log : List Act) → length (committers log) ≡ commit_count log
committers_length [] = refl
committers_length (Begins u ∷ log) = committers_length log
committers_length (Writes u k c ∷ log) = committers_length log
committers_length (Gets u k ∷ log) = committers_length log
committers_length (Scans u low high ∷ log) = committers_length log
committers_length (Aborts u ∷ log) = committers_length log
committers_length (Commits u ∷ log) = length_more (committers log) u ∙ ap suc (committers_length log)
committers_length (Collects ∷ log) = committers_length log

-- each transaction stands among the committers once if it has committed, and else never
pub committers_count : (t : ℕ) (log : List Act) → Sound log
    → count (committers log) t ≡ cond (has_committed t log) 1 0
committers_count t [] s = refl
committers_count t (Begins u ∷ log) s = committers_count t log s.1
committers_count t (Writes u k c ∷ log) s = committers_count t log s.1
committers_count t (Gets u k ∷ log) s = committers_count t log s.1
committers_count t (Scans u low high ∷ log) s = committers_count t log s.1
committers_count t (Aborts u ∷ log) s = committers_count t log s.1
committers_count t (Commits u ∷ log) s =
    let both = count-append (committers log) (u ∷ []) t in
    let rest = committers_count t log s.1 in
    elim (cases_Bool (u == t)) [
      | inl same ↦
          let one = count_same u [] t (eqb-true u t same) in
          let none : has_committed t log ≡ false = subst (λ x. has_committed x log ≡ false) (eqb-true u t same)
          (open_from u log s.0.opened).uncommitted in
          let zero : count (committers log) t ≡ 0 = rest ∙ ap (λ b. cond b 1 0) none in
          let now : count (committers (Commits u ∷ log)) t ≡ 1 = both
          ∙ (let sum : count (committers log) t + count (u ∷ []) t ≡ 1 = omega (arith, zero, one) in sum) in
          now ∙ ap (λ b. cond (b || has_committed t log) 1 0) (sym same)
      | inr other ↦
          let none = count_other u [] t (λ e. both_ways _ other (eq-eqb u t e)) in
          let sum : count (committers log) t + count (u ∷ []) t ≡ count (committers log) t = omega (arith, none) in
          both ∙ (sum ∙ (rest ∙ ap (λ b. cond (b || has_committed t log) 1 0) (sym other)))
    ]
committers_count t (Collects ∷ log) s = committers_count t log s.1

place_front : (xs ys : List ℕ) (t : ℕ) → 0 < count xs t → place (xs ++ ys) t ≡ place xs t
place_front [] ys t l = absurd (omega (arith, l))
place_front (x ∷ xs) ys t l =
    elim (cases_Bool (x == t)) [
      | inl same ↦ place_same x (xs ++ ys) t (eqb-true x t same) ∙ sym (place_same x xs t (eqb-true x t same))
      | inr other ↦
          let ne = λ (e : x ≡ t). both_ways _ other (eq-eqb x t e) in
          let rest = count_other x xs t ne in
          place_other x (xs ++ ys) t ne ∙
          (ap suc (place_front xs ys t (omega (arith, l, rest))) ∙ sym (place_other x xs t ne))
    ]

stamp_is : (t n : ℕ) (log : List Act) → Sound log → stamp t log ≡ Some n → suc (place (committers log) t) ≡ n
stamp_is t n [] s e = absurd (none-some n e)
stamp_is t n (Begins u ∷ log) s e = stamp_is t n log s.1 e
stamp_is t n (Writes u k c ∷ log) s e = stamp_is t n log s.1 e
stamp_is t n (Gets u k ∷ log) s e = stamp_is t n log s.1 e
stamp_is t n (Scans u low high ∷ log) s e = stamp_is t n log s.1 e
stamp_is t n (Aborts u ∷ log) s e = stamp_is t n log s.1 e
stamp_is t n (Commits u ∷ log) s e =
    elim (cases_Bool (u == t)) [
      | inl same ↦
          let now = same_Some _ n (rw same at e) in
          let none : count (committers log) u ≡ 0 = committers_count u log s.1
          ∙ ap (λ b. cond b 1 0) (open_from u log s.0.opened).uncommitted in
          let here = place_at (committers log) u [] none in
          ap suc (ap (place (committers (Commits u ∷ log))) (sym (eqb-true u t same))
          ∙ (here ∙ committers_length log)) ∙ now
      | inr other ↦
          let old : stamp t log ≡ Some n = rw other at e in
          let one : count (committers log) t ≡ 1 = committers_count t log s.1
          ∙ ap (λ b. cond b 1 0) (stamp_committed t n log old) in
          ap suc (place_front (committers log) (u ∷ []) t (omega (arith, one))) ∙ stamp_is t n log s.1 old
    ]
stamp_is t n (Collects ∷ log) s e = stamp_is t n log s.1 e

pub stamp_in_log : (edition : Edition) (unfinished : List ℕ) (t n : ℕ) (log : List Act) → Sound log
    → stamp t log ≡ Some n → stamp_in (history_of_log edition unfinished log) t ≡ n
stamp_in_log edition unfinished t n log s e = ap (λ l. suc (place l t)) (commits_of_events log) ∙ stamp_is t n log s e

-- who has committed keeps its stamp
pub stamp_stays : (t : ℕ) (a : Act) (log : List Act) → Sound (a ∷ log) → has_committed t log ≡ true
    → stamp t (a ∷ log) ≡ stamp t log
stamp_stays t (Begins u) log s c = refl
stamp_stays t (Writes u j d) log s c = refl
stamp_stays t (Gets u j) log s c = refl
stamp_stays t (Scans u low high) log s c = refl
stamp_stays t (Aborts u) log s c = refl
stamp_stays t (Commits u) log s c = cond-false {A = Option ℕ} (u == t) (Some (suc (commit_count log))) (stamp t log)
    (not_open u t log s.0.opened c)
stamp_stays t Collects log s c = refl

slice_more : (xs : List ℕ) (y p t : ℕ) → slice_get (xs ++ y ∷ []) p ≡ Some t
    → (slice_get xs p ≡ Some t) ⊎ ((p ≡ length xs) × (y ≡ t))
slice_more [] y zero t e = inr (refl, same_Some y t e)
slice_more [] y (suc p) t e = absurd (none-some t e)
slice_more (x ∷ xs) y zero t e = inl e
slice_more (x ∷ xs) y (suc p) t e =
    elim (slice_more xs y p t e) [ inl old ↦ inl old | inr new ↦ inr (ap suc new.0, new.1) ]

wrote_stays : (t : ℕ) (k : List ℕ) (a : Act) (log : List Act) → wrote t k log ≡ true → wrote t k (a ∷ log) ≡ true
wrote_stays t k (Begins u) log e = e
wrote_stays t k (Gets u j) log e = e
wrote_stays t k (Scans u low high) log e = e
wrote_stays t k (Commits u) log e = e
wrote_stays t k (Aborts u) log e = e
wrote_stays t k (Writes u j c) log e =
    elim (cases_Bool (u == t && key_eq j k)) [ inl same ↦ rw same refl | inr other ↦ rw other e ]
wrote_stays t k Collects log e = e

pub committed_stays : (t : ℕ) (a : Act) (log : List Act) → has_committed t log ≡ true
    → has_committed t (a ∷ log) ≡ true
committed_stays t (Begins u) log e = e
committed_stays t (Writes u j c) log e = e
committed_stays t (Gets u j) log e = e
committed_stays t (Scans u low high) log e = e
committed_stays t (Aborts u) log e = e
committed_stays t (Commits u) log e = or_right _ _ e
committed_stays t Collects log e = e

pub record IsInstaller (k : List ℕ) (t : ℕ) (log : List Act) : Type 0 where
  pub committed : has_committed t log ≡ true
  pub wrote_it : wrote t k log ≡ true

-- an installer after one more act is an old one, or commits just now
installed_cases : (k : List ℕ) (p t : ℕ) (a : Act) (log : List Act)
    → slice_get (installers k (a ∷ log)) p ≡ Some t
    → (slice_get (installers k log) p ≡ Some t) ⊎
    ((p ≡ length (installers k log)) × (a ≡ Commits t) × (wrote t k log ≡ true))
installed_cases k p t (Begins u) log e = inl e
installed_cases k p t (Writes u j c) log e = inl e
installed_cases k p t (Gets u j) log e = inl e
installed_cases k p t (Scans u low high) log e = inl e
installed_cases k p t (Aborts u) log e = inl e
installed_cases k p t (Commits u) log e =
    elim (cases_Bool (wrote u k log)) [
      | inl holds ↦ elim (slice_more (installers k log) u p t (rw holds at e)) [
        | inl old ↦ inl old
        | inr new ↦ inr (new.0, ap Commits new.1, subst (λ x. wrote x k log ≡ true) new.1 holds)
      ]
      | inr fails ↦ inl (rw fails at e)
    ]
installed_cases k p t Collects log e = inl e

pub installer_is : (k : List ℕ) (p t : ℕ) (log : List Act) → slice_get (installers k log) p ≡ Some t
    → IsInstaller k t log
installer_is k p t [] e = absurd (none-some t e)
installer_is k p t (a ∷ log) e =
    elim (installed_cases k p t a log e) [
      | inl old ↦
          let r = installer_is k p t log old in
          record { committed = committed_stays t a log r.committed; wrote_it = wrote_stays t k a log r.wrote_it }
      | inr new ↦ record {
        committed = subst (λ x. has_committed t (x ∷ log) ≡ true) (sym new.1) (or_left _ _ (eq-eqb t t refl));
        wrote_it = wrote_stays t k a log new.2;
      }
    ]

new_stamp : (t : ℕ) (a : Act) (log : List Act) → a ≡ Commits t → stamp t (a ∷ log) ≡ Some (suc (commit_count log))
new_stamp t a log e = subst (λ x. stamp t (x ∷ log) ≡ Some (suc (commit_count log))) (sym e)
    (cond-true {A = Option ℕ} (t == t) (Some (suc (commit_count log))) (stamp t log) (eq-eqb t t refl))

-- installers stand by stamp
pub installers_rise : (k : List ℕ) (p q t u m n : ℕ) (log : List Act) → Sound log
    → slice_get (installers k log) p ≡ Some t → slice_get (installers k log) q ≡ Some u → stamp t log ≡ Some m
    → stamp u log ≡ Some n → p < q → m < n
installers_rise k p q t u m n [] s e f g i l = absurd (none-some t e)
installers_rise k p q t u m n (a ∷ log) s e f g i l =
    elim (installed_cases k p t a log e) [
      | inl old_t ↦
          let stamp_t = sym (stamp_stays t a log s (installer_is k p t log old_t).committed) ∙ g in
          elim (installed_cases k q u a log f) [
            | inl old_u ↦ installers_rise k p q t u m n log s.1 old_t old_u stamp_t
                (sym (stamp_stays u a log s (installer_is k q u log old_u).committed) ∙ i) l
            | inr new_u ↦
                let now = same_Some _ n (sym (new_stamp u a log new_u.1) ∙ i) in
                let within = (stamp_above t m log s.1 stamp_t).1 in
                omega (arith, now, within)
          ]
      | inr new_t ↦
          elim (installed_cases k q u a log f) [
            | inl old_u ↦ absurd (let within = slice_get_within
                (installers k log) q u old_u in let at = new_t.0 in omega (arith, within, at, l))
            | inr new_u ↦ absurd (let at = new_t.0 in let also = new_u.0 in omega (arith, at, also, l))
          ]
    ]

before_stays : (t u : ℕ) (a : Act) (log : List Act) → Sound (a ∷ log) → has_committed t log ≡ true
    → has_begun u log ≡ true → is_before t u log ≡ true → is_before t u (a ∷ log) ≡ true
before_stays t u a log s c b e =
    ap (λ o. is_upto o (snapshot u (a ∷ log))) (stamp_stays t a log s c)
    ∙ (ap (λ n. is_upto (stamp t log) n) (snapshot_stays u a log s b) ∙ e)

above_stays : (k : List ℕ) (s : ℕ) (a : Act) (log : List Act) → is_installed_above k s (changed log) ≡ true
    → is_installed_above k s (changed (a ∷ log)) ≡ true
above_stays k s (Begins u) log e = e
above_stays k s (Writes u j c) log e = e
above_stays k s (Gets u j) log e = e
above_stays k s (Scans u low high) log e = e
above_stays k s (Aborts u) log e = e
above_stays k s Collects log e = e
above_stays k s (Commits u) log e = or_right
    (nat_lt s (suc (commit_count log)) && is_some (listed k (last_writes u log)))
    (is_installed_above k s (changed log)) e

-- an installer with a stamp above s has installed a version above s
installed_above : (k : List ℕ) (p t n s : ℕ) (log : List Act) → Sound log
    → slice_get (installers k log) p ≡ Some t → stamp t log ≡ Some n → s < n
    → is_installed_above k s (changed log) ≡ true
installed_above k p t n s [] sound e f l = absurd (none-some t e)
installed_above k p t n s (a ∷ log) sound e f l =
    elim (installed_cases k p t a log e) [
      | inl old ↦ above_stays k s a log (installed_above k p t n s log sound.1 old
          (sym (stamp_stays t a log sound (installer_is k p t log old).committed) ∙ f) l)
      | inr new ↦
          let now = same_Some _ n (sym (new_stamp t a log new.1) ∙ f) in
          subst (λ x. is_installed_above k s (changed (x ∷ log)) ≡ true) (sym new.1)
          (or_left (nat_lt s (suc (commit_count log)) && is_some (listed k (last_writes t log)))
          (is_installed_above k s (changed log))
          (and_from (nat_lt s (suc (commit_count log))) (is_some (listed k (last_writes t log)))
          (lt-ltb s (suc (commit_count log)) (omega (arith, now, l)))
          (ap is_some (last_writes_of t k log) ∙ new.2)))
    ]

-- who commits was overtaken by no writer of its keys
not_overtaken : (k : List ℕ) (p t u : ℕ) (log : List Act) → Sound log → Allowed (Commits u) log
    → wrote u k log ≡ true → slice_get (installers k log) p ≡ Some t → is_before t u log ≡ true
not_overtaken k p t u log sound a w e =
    let clear = find_none (is_overtaken u log) (keys log) k a.no_conflict (wrote_key u k log w) in
    let n = committed_stamp t log (installer_is k p t log e).committed in
    elim (cases_lt (snapshot u log) n.0) [
      | inl late ↦ absurd (both_ways _ clear
          (and_from _ _ w (installed_above k p t n.0 (snapshot u log) log sound e n.1 late)))
      | inr early ↦ ap (λ o. is_upto o (snapshot u log)) n.1 ∙ le-leb n.0 (snapshot u log) early
    ]

-- of two installers of a key one is_before the other
pub installers_apart : (k : List ℕ) (p q t u : ℕ) (log : List Act) → Sound log
    → slice_get (installers k log) p ≡ Some t → slice_get (installers k log) q ≡ Some u → t ≢ u
    → (is_before t u log ≡ true) ⊎ (is_before u t log ≡ true)
installers_apart k p q t u [] s e f ne = absurd (none-some t e)
installers_apart k p q t u (a ∷ log) s e f ne =
    elim (installed_cases k p t a log e) [
      | inl old_t ↦
          let c = (installer_is k p t log old_t).committed in
          let b = committed_begun t log s.1 c in
          elim (installed_cases k q u a log f) [
            | inl old_u ↦
                let d = (installer_is k q u log old_u).committed in
                let g = committed_begun u log s.1 d in
                elim (installers_apart k p q t u log s.1 old_t old_u ne) [
                  | inl early ↦ inl (before_stays t u a log s c g early)
                  | inr late ↦ inr (before_stays u t a log s d b late)
                ]
            | inr new_u ↦
                let allowed = subst (λ x. Allowed x log) new_u.1 s.0 in
                inl (before_stays t u a log s c (open_from u log allowed.opened).begun
                (not_overtaken k p t u log s.1 allowed new_u.2 old_t))
          ]
      | inr new_t ↦
          elim (installed_cases k q u a log f) [
            | inl old_u ↦
                let allowed = subst (λ x. Allowed x log) new_t.1 s.0 in
                let d = (installer_is k q u log old_u).committed in
                inr (before_stays u t a log s d (open_from t log allowed.opened).begun
                (not_overtaken k q u t log s.1 allowed new_t.2 old_u))
            | inr new_u ↦ absurd (ne (commits_same t u (sym new_t.1 ∙ new_u.1)))
          ]
    ]
  where
    commits_same : (x y : ℕ) → Commits x ≡ Commits y → x ≡ y
    commits_same x y h = cc

-- the contents after s commits are of the newest installer within s
pub record IsNewest (k : List ℕ) (s : ℕ) (log : List Act) (w : Entry) : Type 0 where
  pub at : ℕ
  pub number : ℕ
  pub installs : slice_get (installers k log) at ≡ Some w.version.txn
  pub stamped : stamp w.version.txn log ≡ Some number
  pub within : number ≤ s
  pub newest : (q u m : ℕ) → slice_get (installers k log) q ≡ Some u → stamp u log ≡ Some m → m ≤ s → m ≤ number

abbrev pub NewestOf : List ℕ → ℕ → List Act → Option Entry → Type 0
NewestOf k s log None = (q u m : ℕ) → slice_get (installers k log) q ≡ Some u → stamp u log ≡ Some m → s < m
NewestOf k s log (Some w) = IsNewest k s log w

-- after an act that installs nothing
newest_keeps : (k : List ℕ) (s : ℕ) (a : Act) (log : List Act) → Sound (a ∷ log)
    → installers k (a ∷ log) ≡ installers k log → (o : Option Entry) → NewestOf k s log o → NewestOf k s (a ∷ log) o
newest_keeps k s a log sound same None n =
    λ q u m e f. let old : slice_get (installers k log) q ≡ Some u = ap (λ l. slice_get l q) (sym same) ∙ e in
    n q u m old (sym (stamp_stays u a log sound (installer_is k q u log old).committed) ∙ f)
newest_keeps k s a log sound same (Some w) n = record {
  at = n.at;
  number = n.number;
  installs = ap (λ l. slice_get l n.at) same ∙ n.installs;
  stamped = stamp_stays w.version.txn a log sound (installer_is k n.at w.version.txn log n.installs).committed
      ∙ n.stamped;
  within = n.within;
  newest = λ q u m e f. let old : slice_get (installers k log) q ≡ Some u = ap (λ l. slice_get l q) (sym same) ∙ e in
      n.newest q u m old (sym (stamp_stays u a log sound (installer_is k q u log old).committed) ∙ f);
}

slice_end : (xs : List ℕ) (y : ℕ) → slice_get (xs ++ y ∷ []) (length xs) ≡ Some y
slice_end [] y = refl
slice_end (x ∷ xs) y = slice_end xs y

slice_front : (xs : List ℕ) (y p t : ℕ) → slice_get xs p ≡ Some t → slice_get (xs ++ y ∷ []) p ≡ Some t
slice_front [] y p t e = absurd (none-some t e)
slice_front (x ∷ xs) y zero t e = e
slice_front (x ∷ xs) y (suc p) t e = slice_front xs y p t e

-- after the commit of a writer whose stamp is above s
newest_above : (k : List ℕ) (s u : ℕ) (log : List Act) → Sound (Commits u ∷ log) → s ≤ commit_count log
    → (o : Option Entry) → NewestOf k s log o → NewestOf k s (Commits u ∷ log) o
newest_above k s u log sound high None n =
    λ q t m e f. elim (installed_cases k q t (Commits u) log e) [
      | inl old ↦ n q t m old (sym (stamp_stays t (Commits u) log sound (installer_is k q t log old).committed) ∙ f)
      | inr new ↦ let now = same_Some _ m (sym (new_stamp t (Commits u) log new.1) ∙ f) in omega (arith, now, high)
    ]
newest_above k s u log sound high (Some w) n = record {
  at = n.at;
  number = n.number;
  installs = elim (cases_Bool (wrote u k log)) [
    | inl holds ↦ rw holds (slice_front (installers k log) u n.at w.version.txn n.installs)
    | inr fails ↦ rw fails n.installs
  ];
  stamped = stamp_stays w.version.txn (Commits u) log sound
      (installer_is k n.at w.version.txn log n.installs).committed ∙ n.stamped;
  within = n.within;
  newest = λ q t m e f l. elim (installed_cases k q t (Commits u) log e) [
    | inl old ↦ n.newest q t m old
        (sym (stamp_stays t (Commits u) log sound (installer_is k q t log old).committed) ∙ f) l
    | inr new ↦ absurd (let now = same_Some _ m (sym (new_stamp t (Commits u) log new.1) ∙ f) in omega
        (arith, now, high, l))
  ];
}

-- after the commit of a writer whose stamp is within s
newest_now : (k : List ℕ) (s u : ℕ) (log : List Act) → Sound (Commits u ∷ log) → commit_count log < s
    → wrote u k log ≡ true → (o : Option Entry) → own_write u k log ≡ o → NewestOf k s (Commits u ∷ log) o
newest_now k s u log sound low holds None e = absurd (let no : false ≡ true = ap is_some (sym e) ∙ holds in cc)
newest_now k s u log sound low holds (Some w) e =
    let who = (own_write_is u k log w e).0 in
    let at_end : slice_get (installers k (Commits u ∷ log)) (length (installers k log)) ≡ Some u = rw holds
    (slice_end (installers k log) u) in
    record {
      at = length (installers k log);
      number = suc (commit_count log);
      installs = at_end ∙ ap Some (sym who);
      stamped = ap (λ t. stamp t (Commits u ∷ log)) who ∙ new_stamp u (Commits u) log refl;
      within = low;
      newest = λ q t m f g l. (stamp_above t m (Commits u ∷ log) sound g).1;
    }

pub contents_newest : (k : List ℕ) (s : ℕ) (log : List Act) → Sound log → NewestOf k s log (committed k s log)
contents_newest k s [] sound = λ q u m e. absurd (none-some u e)
contents_newest k s (Begins u ∷ log) sound = newest_keeps k s (Begins u) log sound refl _
    (contents_newest k s log sound.1)
contents_newest k s (Writes u j c ∷ log) sound = newest_keeps k s (Writes u j c) log sound refl _
    (contents_newest k s log sound.1)
contents_newest k s (Gets u j ∷ log) sound = newest_keeps k s (Gets u j) log sound refl _
    (contents_newest k s log sound.1)
contents_newest k s (Scans u low high ∷ log) sound = newest_keeps k s (Scans u low high) log sound refl _
    (contents_newest k s log sound.1)
contents_newest k s (Aborts u ∷ log) sound = newest_keeps k s (Aborts u) log sound refl _
    (contents_newest k s log sound.1)
contents_newest k s (Commits u ∷ log) sound =
    let old = contents_newest k s log sound.1 in
    subst (NewestOf k s (Commits u ∷ log)) (sym (committed_step k s u log))
    (elim (cases_Bool (nat_lt (commit_count log) s)) [
      | inl low ↦ elim (cases_Bool (wrote u k log)) [
        | inl holds ↦
            let now = newest_now k s u log sound (ltb-true _ _ low) holds (own_write u k log) refl in
            subst (NewestOf k s (Commits u ∷ log))
            (sym (cond-true {A = Option Entry} (nat_lt (commit_count log) s && wrote u k log) (own_write u k log)
            (committed k s log) (and_from _ _ low holds))) now
        | inr fails ↦
            let kept = newest_keeps k s (Commits u) log sound
            (cond-false {A = List ℕ} (wrote u k log) (installers k log ++ u ∷ []) (installers k log) fails) _ old in
            subst (NewestOf k s (Commits u ∷ log))
            (sym (cond-false {A = Option Entry} (nat_lt (commit_count log) s && wrote u k log) (own_write u k log)
            (committed k s log) (and_right _ _ fails))) kept
      ]
      | inr high ↦
          let kept = newest_above k s u log sound (ltb-false _ _ high) _ old in
          subst (NewestOf k s (Commits u ∷ log))
          (sym (cond-false {A = Option Entry} (nat_lt (commit_count log) s && wrote u k log) (own_write u k log)
          (committed k s log) (and_left _ _ high))) kept
    ])
contents_newest k s (Collects ∷ log) sound = newest_keeps k s Collects log sound refl _
    (contents_newest k s log sound.1)
