-- The recorded history is a snapshot history, and its anti-dependencies between concurrent transactions are pairs.
use Rattle.std.specs.List.{Contains}
use Rattle.std.proofs.Common.{List, None, Option, Some, ap, arith, false, inl, inr, not, slice_get, subst, suc, sym, true, zero, ℕ, ◌&&◌, ◌<◌, ◌==◌, ◌∙◌, ◌≡◌, ◌≢◌, ◌≤◌}
use Rattle.std.proofs.lemmas.Bool.{and_from, and_parts, cases_Bool, cond-false, cond-true, eq-eqb, leb-true, lt-leb, ne_eqb, not-true, not_from_false}
use Rattle.std.proofs.lemmas.Option.{cond_some, none-some, same_Some}
use Rattle.lemmas.proofs.Counts.{count_at}
use Rattle.adya_values.specs.Clauses.Acceptance.{IsChecked}
use Rattle.adya_values.specs.Meaning.Edges.{Depends, DependsByOverwrite, Edge, Kind, Rw, Wr, Ww}
use Rattle.adya_values.specs.Meaning.Events.{entry, is_committed, listed, txn_of}
use Rattle.adya_values.specs.Meaning.Histories.{Abort, Commit, Delete, Entry, Event, History, Live, Read, Scan, Write}
use Rattle.adya_keys.specs.Meaning.Keys.{key_eq, lies_in}
use Rattle.adya_values.specs.Meaning.Orders.{installer, place, writers}
use Rattle.adya_values.specs.Meaning.Selections.{place_of, selected}
use Rattle.adya_values.specs.declared.edition.Edition.{Edition}
use Rattle.adya_values.proofs.Places.{place_get}
use Rattle.ssi_conflict.specs.Meaning.Calls.{snapshot_of, is_at_or_below, precedes}
use Rattle.ssi_conflict.specs.Clauses.Pairs.{IsAtMost, IsOrderedPivot, IsPair, IsPivot}
use Rattle.snapshot_histories.specs.Clauses.Snapshots.{AreConcurrent, IsDangerous, IsNewestWithin, IsSnapshotHistory, stamp_in}
use Rattle.ssi_store.specs.Meaning.Acts.{Act, has_committed, has_begun}
use Rattle.ssi_store.specs.Meaning.Recording.{events}
use Rattle.ssi_store.specs.Meaning.Seeing.{committed, snapshot}
use Rattle.ssi_store.specs.Meaning.Tracked.{tracked}
use Rattle.ssi_store.proofs.Calls.{unaborted_before}
use Rattle.ssi_store.proofs.Installed.{writers_are}
use Rattle.ssi_store.proofs.EdgeEnds.{committed_ends}
use Rattle.ssi_store.proofs.LoggedHistories.{history_of_log, installers}
use Rattle.ssi_store.proofs.Recorded.{committed_events}
use Rattle.ssi_store.proofs.SeenByEvents.{IsOwnEntry, all_seen, shows}
use Rattle.ssi_store.proofs.SoundLogs.{Sound, committed_stamp, committed_begun, has_read, is_before, is_upto, not_both, stamp, stamp_above}
use Rattle.ssi_store.proofs.Stamps.{IsInstaller, NewestOf, contents_newest, installer_is, installers_apart, installers_rise, stamp_in_log}
use Rattle.ssi_store.proofs.TrackedCalls.{aborted_told, is_committed_told, keys_told, read_told, snapshot_told, stamp_told}

-- what an event selects it shows
selected_shows : (h : History) (e : Event) (k : List ℕ) (p : ℕ) → selected h e k ≡ Some p
    → (o : Option Entry) × (shows e k ≡ Some o) × (place_of h (txn_of e) k o ≡ Some p)
selected_shows h (Write t j n v) k p e = absurd (none-some p e)
selected_shows h (Delete t j n) k p e = absurd (none-some p e)
selected_shows h (Commit t) k p e = absurd (none-some p e)
selected_shows h (Abort t) k p e = absurd (none-some p e)
selected_shows h (Read t r v) k p e =
    let parts = cond_some (key_eq r.key k && not (r.txn == t)) (suc (place (writers h k) r.txn)) p e in
    let both = and_parts (key_eq r.key k) (not (r.txn == t)) parts.0 in (
      Some (entry r (Live v)),
      cond-true {A = Option (Option Entry)} (key_eq r.key k) (Some (Some (entry r (Live v)))) None both.0,
      cond-false {A = Option ℕ} (r.txn == t) None (Some (suc (place (writers h k) r.txn))) (not-true _ both.1)
          ∙ ap Some parts.1,
    )
selected_shows h (Scan t low high es) k p e =
    elim (cases_Bool (lies_in low high k)) [
      | inl inside ↦
          let at : place_of h t k (listed k es) ≡ Some p = rw inside at e in (
            listed k es,
            cond-true {A = Option (Option Entry)} (lies_in low high k) (Some (listed k es)) None inside,
            at,
          )
      | inr out ↦ absurd (let nothing : None ≡ Some p = rw out at e in none-some p nothing)
    ]

not_own : (h : History) (t : ℕ) (k : List ℕ) (p : ℕ) (o : Option Entry) → place_of h t k o ≡ Some p
    → IsOwnEntry t o → ⊥
not_own h t k p o e (w, same, mine) =
    let none : None ≡ Some p =
    sym (cond-true {A = Option ℕ} (w.version.txn == t) None (Some (suc (place (writers h k) w.version.txn)))
    (eq-eqb _ _ mine)) ∙
    (ap (place_of h t k) (sym same) ∙ e) in
    none-some p none

module _ (edition : Edition) (unfinished : List ℕ) (log : List Act) (sound : Sound log) where
  installed_in : (k : List ℕ) (p u : ℕ) → installer (history_of_log edition unfinished log) k (suc p) ≡ Some u
      → slice_get (installers k log) p ≡ Some u
  installed_in k p u e = ap (λ l. slice_get l p) (sym (writers_are edition unfinished k log)) ∙ e

  stamp_there : (k : List ℕ) (p u : ℕ) → slice_get (installers k log) p ≡ Some u
      → (n : ℕ) × (stamp u log ≡ Some n) × (stamp_in (history_of_log edition unfinished log) u ≡ n)
  stamp_there k p u e =
      let n = committed_stamp u log (installer_is k p u log e).committed in
      (n.0, n.1, stamp_in_log edition unfinished u n.0 log sound n.1)

  committed_in : (t : ℕ) → is_committed (events log) t ≡ true → has_committed t log ≡ true
  committed_in t e = sym (committed_events t log) ∙ e

  committed_has_stamp : (t : ℕ) → is_committed (events log) t ≡ true
      → (n : ℕ) × (stamp t log ≡ Some n) × (stamp_in (history_of_log edition unfinished log) t ≡ n)
  committed_has_stamp t e =
      let n = committed_stamp t log (committed_in t e) in
      (n.0, n.1, stamp_in_log edition unfinished t n.0 log sound n.1)

  -- what is selected by a committed transaction is its snapshot's, by a recorded read
  selected_right : (e : Event) (k : List ℕ) (p : ℕ) → Contains (events log) e
      → selected (history_of_log edition unfinished log) e k ≡ Some p
      → (place_of (history_of_log edition unfinished log) (txn_of e) k
      (committed k (snapshot (txn_of e) log) log) ≡ Some p) × (has_read (txn_of e) k log ≡ true)
  selected_right e k p c sel =
      let shown = selected_shows (history_of_log edition unfinished log) e k p sel in
      let seen = all_seen log sound e c k shown.0 shown.1 in
      elim seen.right [
        | inl own ↦ absurd (not_own (history_of_log edition unfinished log) (txn_of e) k p shown.0 shown.2 own)
        | inr snap ↦ (
          ap (place_of (history_of_log edition unfinished log) (txn_of e) k) (sym snap.is)
              ∙ shown.2,
          snap.read,
        )
      ]

  newest_place : (t : ℕ) (k : List ℕ) (s p : ℕ) (o : Option Entry) → NewestOf k s log o
      → place_of (history_of_log edition unfinished log) t k o ≡ Some p
      → IsNewestWithin (history_of_log edition unfinished log) k s p
  newest_place t k s zero None n e = λ q u i. nothing q u i
    where
      nothing : (q u : ℕ) → installer (history_of_log edition unfinished log) k q ≡ Some u
          → s < stamp_in (history_of_log edition unfinished log) u
      nothing zero u i = absurd (none-some u i)
      nothing (suc q) u i =
          let at = installed_in k q u i in
          let m = stamp_there k q u at in
          let above = n q u m.0 at m.1 in
          let same = m.2 in
          omega (arith, above, same)
  newest_place t k s (suc p) None n e = absurd (let wrong = same_Some 0 (suc p) e in omega (arith, wrong))
  newest_place t k s zero (Some w) n e = absurd (elim (cases_Bool (w.version.txn == t)) [
    | inl own ↦ (let none : None ≡ Some 0 = rw own at e in none-some 0 none)
    | inr other ↦ (let wrong : suc
        (place (writers (history_of_log edition unfinished log) k) w.version.txn) ≡ 0 = same_Some _ 0
        (rw other at e) in omega (arith, wrong))
  ])
  newest_place t k s (suc p) (Some w) n e =
      let parts : suc (place (writers (history_of_log edition unfinished log) k) w.version.txn) ≡ suc p =
      elim (cases_Bool (w.version.txn == t)) [
        | inl own ↦ absurd (let none : None ≡ Some (suc p) = rw own at e in none-some (suc p) none)
        | inr other ↦ same_Some _ (suc p) (rw other at e)
      ] in
      let there : slice_get (writers (history_of_log edition unfinished log) k) n.at ≡ Some w.version.txn = ap
      (λ l. slice_get l n.at) (writers_are edition unfinished k log) ∙ n.installs in
      let found = place_get (writers (history_of_log edition unfinished log) k) w.version.txn
      (count_at (writers (history_of_log edition unfinished log) k) n.at w.version.txn there) in
      let stamped = stamp_in_log edition unfinished w.version.txn n.number log sound n.stamped in
      let le = n.within in
      record {
        who = w.version.txn;
        installs = ap (installer (history_of_log edition unfinished log) k) (sym parts) ∙ found;
        within = omega (arith, stamped, le);
        greatest = λ q u i l. upto q u i l;
      }
    where
      upto : (q u : ℕ) → installer (history_of_log edition unfinished log) k q ≡ Some u
          → stamp_in (history_of_log edition unfinished log) u ≤ s
          → stamp_in (history_of_log edition unfinished log) u ≤ stamp_in
          (history_of_log edition unfinished log) w.version.txn
      upto zero u i l = absurd (none-some u i)
      upto (suc q) u i l =
          let at = installed_in k q u i in
          let m = stamp_there k q u at in
          let same = m.2 in
          let most = n.newest q u m.0 at m.1 (omega (arith, same, l)) in
          let mine = stamp_in_log edition unfinished w.version.txn n.number log sound n.stamped in
          omega (arith, same, most, mine)

  snapshots_seen : (e : Event) (k : List ℕ) (p : ℕ) → Contains (events log) e
      → selected (history_of_log edition unfinished log) e k ≡ Some p
      → IsNewestWithin (history_of_log edition unfinished log) k (snapshot (txn_of e) log) p
  snapshots_seen e k p c sel =
      newest_place (txn_of e) k (snapshot (txn_of e) log) p (committed k (snapshot (txn_of e) log) log)
      (contents_newest k (snapshot (txn_of e) log) log sound) (selected_right e k p c sel).0

  stamps_rise : (k : List ℕ) (p q t u : ℕ) → installer (history_of_log edition unfinished log) k p ≡ Some t
      → installer (history_of_log edition unfinished log) k q ≡ Some u → p < q
      → stamp_in (history_of_log edition unfinished log) t < stamp_in (history_of_log edition unfinished log) u
  stamps_rise k zero q t u e f l = absurd (none-some t e)
  stamps_rise k (suc p) zero t u e f l = absurd (omega (arith, l))
  stamps_rise k (suc p) (suc q) t u e f l =
      let at_t = installed_in k p t e in
      let at_u = installed_in k q u f in
      let m = stamp_there k p t at_t in
      let n = stamp_there k q u at_u in
      let rises = installers_rise k p q t u m.0 n.0 log sound at_t at_u m.1 n.1 (omega (arith, l)) in
      let one = m.2 in
      let two = n.2 in
      omega (arith, rises, one, two)

  -- the precedence of the course, in stamps of the history
  before_in : (t u n : ℕ) → stamp t log ≡ Some n → is_before t u log ≡ true → n ≤ snapshot u log
  before_in t u n e p = leb-true n (snapshot u log) (sym (ap (λ o. is_upto o (snapshot u log)) e) ∙ p)

  first_commits : (k : List ℕ) (p q t u : ℕ) → installer (history_of_log edition unfinished log) k p ≡ Some t
      → installer (history_of_log edition unfinished log) k q ≡ Some u
      → AreConcurrent (history_of_log edition unfinished log) (λ x. snapshot x log) t u → ⊥
  first_commits k zero q t u e f c = none-some t e
  first_commits k (suc p) zero t u e f c = none-some u f
  first_commits k (suc p) (suc q) t u e f c =
      let at_t = installed_in k p t e in
      let at_u = installed_in k q u f in
      let m = stamp_there k p t at_t in
      let n = stamp_there k q u at_u in
      let one = m.2 in
      let two = n.2 in
      let after = c.ends_after in
      let before = c.begins_before in
      elim (installers_apart k p q t u log sound at_t at_u c.differ) [
        | inl early ↦ (let le = before_in t u m.0 m.1 early in absurd (omega (arith, le, one, after)))
        | inr late ↦ (let le = before_in u t n.0 n.1 late in absurd (omega (arith, le, two, before)))
      ]

  pub is_snapshot_history : IsSnapshotHistory (history_of_log edition unfinished log) (λ x. snapshot x log)
  is_snapshot_history = record {
    begins_first = λ t c. let n = committed_has_stamp t c in let above =
        (stamp_above t n.0 log sound n.1).0 in let same = n.2 in omega (arith, above, same);
    sees_snapshot = snapshots_seen;
    first_wins = first_commits;
    by_stamp = stamps_rise;
  }

  -- who hasn't committed at or below the snapshot doesn't precede
  not_preceding : (t u n : ℕ) → stamp t log ≡ Some n → has_begun u log ≡ true → snapshot u log < n
      → precedes t u (tracked log) ≡ false
  not_preceding t u n e b l =
      ap (λ o. is_at_or_below o (snapshot_of u (tracked log))) (stamp_told t log ∙ e) ∙
      (ap (λ o. is_at_or_below (Some n) o) (snapshot_told u log b) ∙ lt-leb n (snapshot u log) l)

  -- an anti-dependency between concurrent transactions is a pair of what the tracker was told
  edge_is_pair : (k : List ℕ) (a b : ℕ) → a ≢ b
      → DependsByOverwrite (history_of_log edition unfinished log) k a b
      → AreConcurrent (history_of_log edition unfinished log) (λ x. snapshot x log) a b → IsPair a b (tracked log)
  edge_is_pair k a b ne d c =
      let read = (selected_right d.event k d.place d.occurs d.selects).1 in
      let into = installs_at d.next d.installs in
      let m = committed_has_stamp a d.committed in
      let n = committed_stamp b log into.committed in
      let one = m.2 in
      let two = stamp_in_log edition unfinished b n.0 log sound n.1 in
      let after = c.ends_after in
      let before = c.begins_before in
      let begun_a = committed_begun a log sound (committed_in a d.committed) in
      let begun_b = committed_begun b log sound into.committed in
      record {
        key = k;
        committed = is_committed_told b log ∙ into.committed;
        concurrent = and_from (not (a == b)) _ (not_from_false _ (ne_eqb a b ne))
            (and_from (not (precedes a b (tracked log))) (not (precedes b a (tracked log)))
            (not_from_false _ (not_preceding a b m.0 m.1 begun_b (omega (arith, after, one))))
            (not_from_false _ (not_preceding b a n.0 n.1 begun_a (omega (arith, before, two)))));
        met = read_told a k log ∙ subst (λ x. has_read x k log ≡ true) d.reader read;
        written = keys_told b log sound into.committed k into.wrote_it;
        unaborted = unaborted_before a b (tracked log)
            (aborted_told a log ∙ not_both a log sound (committed_in a d.committed));
      }
    where
      installs_at : (q : ℕ) → installer (history_of_log edition unfinished log) k q ≡ Some b → IsInstaller k b log
      installs_at zero e = absurd (none-some b e)
      installs_at (suc q) e = installer_is k q b log (installed_in k q b e)

  pub edge_pair_by : (kind : Kind) (k : List ℕ) (a b : ℕ) → kind ≡ Rw → a ≢ b
      → Depends (history_of_log edition unfinished log) kind k a b
      → AreConcurrent (history_of_log edition unfinished log) (λ x. snapshot x log) a b → IsPair a b (tracked log)
  edge_pair_by Ww k a b e ne d c = absurd (not_rw e)
    where
      not_rw : Ww ≡ Rw → ⊥
      not_rw h = cc
  edge_pair_by Wr k a b e ne d c = absurd (not_rw e)
    where
      not_rw : Wr ≡ Rw → ⊥
      not_rw h = cc
  edge_pair_by Rw k a b e ne d c = edge_is_pair k a b ne d c

  danger_into : (into out : Edge)
      → IsDangerous (history_of_log edition unfinished log) (λ x. snapshot x log) into out
      → IsPair into.from out.from (tracked log)
  danger_into into out d = subst (λ t. IsPair into.from t (tracked log)) d.joined
      (edge_pair_by into.kind into.key into.from into.to d.into_rw d.into_edge.0 d.into_edge.1 d.into_concurrent)

  danger_out : (into out : Edge)
      → IsDangerous (history_of_log edition unfinished log) (λ x. snapshot x log) into out
      → IsPair out.from out.to (tracked log)
  danger_out into out d = edge_pair_by out.kind out.key out.from out.to d.out_rw d.out_edge.0 d.out_edge.1
      d.out_concurrent

  -- a dangerous structure would be a pivot
  pub danger_is_pivot : (into out : Edge)
      → IsDangerous (history_of_log edition unfinished log) (λ x. snapshot x log) into out
      → IsPivot out.from (tracked log)
  danger_is_pivot into out d = record {
    committed = (danger_into into out d).committed;
    from = into.from;
    into = danger_into into out d;
    to = out.to;
    out = danger_out into out d;
  }

  -- likewise by the commit-order rule
  pub danger_is_ordered : IsChecked (history_of_log edition unfinished log) → (into out : Edge)
      → IsDangerous (history_of_log edition unfinished log) (λ x. snapshot x log) into out
      → IsOrderedPivot out.from (tracked log)
  danger_is_ordered checked into out d =
      let h : History = history_of_log edition unfinished log in
      let ends_in = committed_ends h checked into.kind into.key into.from into.to d.into_edge.1 in
      let ends_out = committed_ends h checked out.kind out.key out.from out.to d.out_edge.1 in
      let a = committed_has_stamp into.from ends_in.0 in
      let t = committed_has_stamp out.from ends_out.0 in
      let b = committed_has_stamp out.to ends_out.1 in
      let a_is = a.2 in
      let t_is = t.2 in
      let b_is = b.2 in
      let middle = d.before_middle in
      let first = d.not_after_first in
      record {
        middle = t.0;
        committed = stamp_told out.from log ∙ t.1;
        from = into.from;
        into = danger_into into out d;
        to = out.to;
        out = danger_out into out d;
        last = b.0;
        to_committed = stamp_told out.to log ∙ b.1;
        before_middle = omega (arith, middle, b_is, t_is);
        not_after_first = subst (IsAtMost b.0) (sym (stamp_told into.from log ∙ a.1))
            (let le : b.0 ≤ a.0 = omega (arith, first, b_is, a_is) in le);
      }
