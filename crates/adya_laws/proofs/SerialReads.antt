-- In the serial run each event of a committed transaction reads what was recorded.
use Rattle.std.proofs.Common.{◌≡◌, ◌≢◌, ℕ, zero, suc, ◌+◌, ◌-◌, ◌==◌, ◌<◌, ◌≤◌, Bool, true, false, not, ◌&&◌, List, [], ◌∷◌, ◌++◌, length, map, Option, Some, None, is_some, IfSome, refl, sym, ◌∙◌, ap, subst, arith, inl, inr}
use Rattle.std.specs.List.{filter_map, Contains}
use Rattle.std.proofs.lemmas.Bool.{cases_Bool, cases_lt, and_from, eq-eqb, ne_eqb, lt-ltb, or_left, or_right, cond-true, cond-false, not_from_false}
use Rattle.std.proofs.lemmas.List.Elements.{All-contains}
use Rattle.adya_values.specs.declared.event.Version.{Version}
use Rattle.adya_keys.specs.Meaning.Keys.{key_eq, lies_in, keys_rise}
use Rattle.adya_values.specs.Meaning.Histories.{Live, Entry, Event, Write, Delete, Read, Scan, Commit, Abort, History}
use Rattle.adya_values.specs.Meaning.Events.{txn_of, entry, written, observed, last_write, is_committed, listed, shown}
use Rattle.adya_values.specs.Meaning.Orders.{place, writers, installer, shown_by, value_at, is_visible_at}
use Rattle.adya_values.specs.Meaning.Selections.{selected, reads_from, overwritten_by, differ, place_of}
use Rattle.adya_values.specs.Meaning.Edges.{Wr, Rw, Edge}
use Rattle.adya_values.specs.Meaning.Serial.{Contents, run, events_of, Sees}
use Rattle.adya_values.specs.Clauses.Rules.{WasWritten, ListsOnly, SeesOwnWrites, IsRising}
use Rattle.adya_values.specs.Meaning.Phenomena.{ReadsCommitted}
use Rattle.adya_values.specs.Clauses.Acceptance.{IsAccepted}
use Rattle.adya_laws.proofs.CheckedReads.{read_last_write, read_committed}
use Rattle.adya_laws.proofs.SerialRuns.{over, run_own}
use Rattle.adya_laws.proofs.VersionOrders.{installs_installer}
use Rattle.adya_laws.proofs.SerialContents.{HoldsVersion, t_committed, place_here}
use Rattle.adya_laws.proofs.ListedPairs.{pairs_from_keys}
use Rattle.adya_values.proofs.KeyLookups.{listed_from, listed_found}
use Rattle.adya_values.proofs.Places.{installer_there}
use Rattle.adya_values.proofs.Writes.{writer_of, last_write_from, last_write_missing}
use Rattle.lemmas.proofs.Members.{Contains-head}
use Rattle.lemmas.proofs.Orderings.{bytes_eq-itself}
use Rattle.lemmas.proofs.Options.{none_unless_some}

pub same_from_not_differ : (x y : Bool) → (differ x y ≡ true → ⊥) → x ≡ y
same_from_not_differ true true h = refl
same_from_not_differ true false h = absurd (h refl)
same_from_not_differ false true h = absurd (h refl)
same_from_not_differ false false h = refl

pub reads_from_itself : (h : History) (e : Event) (k : List ℕ) (p : ℕ) → reads_from h e k p p ≡ true
reads_from_itself h e k p = or_left _ _ (eq-eqb p p refl)

pub read_selects : (h : History) (t : ℕ) (r : Version) (v : List ℕ) → r.txn ≢ t
    → selected h (Read t r v) r.key ≡ Some (suc (place (writers h r.key) r.txn))
read_selects h t r v ne =
    cond-true {A = Option ℕ} (key_eq r.key r.key && not (r.txn == t)) (Some (suc (place (writers h r.key) r.txn))) None
    (and_from _ _ (bytes_eq-itself r.key) (not_from_false _ (ne_eqb _ _ ne)))

pub scan_selects : (h : History) (t : ℕ) (low high : List ℕ) (l : List Entry) (k : List ℕ) (p : ℕ)
    → lies_in low high k ≡ true → place_of h t k (listed k l) ≡ Some p → selected h (Scan t low high l) k ≡ Some p
scan_selects h t low high l k p inside e =
    cond-true {A = Option ℕ} (lies_in low high k) (place_of h t k (listed k l)) None inside ∙ e

module _ (h : History) (ts : List ℕ) (a : IsAccepted h ts) (front : List ℕ) (t : ℕ) (back : List ℕ)
    (split : ts ≡ front ++ t ∷ back) where
  -- a version that t reads or lists of a key that it hasn't written is another's, and is in the version order
  pub record IsOthers (o : Entry) : Type 0 where
    pub not_own : o.version.txn ≢ t
    pub installs : installer h o.version.key (suc (place (writers h o.version.key) o.version.txn)) ≡ Some o.version.txn
    pub last : last_write o.version.txn o.version.key h.events ≡ Some o

  pub others : (before : List Event) (e : Event) (o : Entry) → Contains h.events e → txn_of e ≡ t → WasWritten before e
      → ((w : Event) → Contains before w → Contains h.events w) → Contains (observed e) o
      → last_write t o.version.key before ≡ None → IsOthers o
  others before e o occurs mine was within seen none =
      let there = All-contains (Contains (filter_map written before)) (observed e) o was seen in
      let ne = λ (s : o.version.txn ≡ t).
      last_write_missing t o.version.key before o (record { there = there; txn_is = s; key_is = refl }) none in
      let writer = writer_of before o there in
      let reads : ReadsCommitted h e o = record {
        occurs = occurs;
        committed = subst (λ x. is_committed h.events x ≡ true) (sym mine) (t_committed h ts a front t back split);
        sees = seen;
      } in
      let newest = read_last_write h a.checked e o reads (λ s. ne (s ∙ mine)) in
      let done = read_committed h a.checked e o reads writer.0 (within writer.0 writer.1) writer.2 in
      let found = installs_installer h ts a o.version.key o.version.txn (and_from _ _ done (ap is_some newest)) in
      record { not_own = ne; installs = found; last = newest }

  pub read_edge : (e : Event) (k : List ℕ) (p q u : ℕ) → Contains h.events e → txn_of e ≡ t → selected h e k ≡ Some p
      → reads_from h e k p q ≡ true → installer h k q ≡ Some u → u ≢ t → place ts u < length front
  read_edge e k p q u occurs mine selects reads inst ne =
      let edge : Edge = record { from = u; kind = Wr; key = k; to = t } in
      let forward = a.forward edge (
        ne,
        record {
          event = e;
          place = p;
          source = q;
          occurs = occurs;
          reader = mine;
          committed = t_committed h ts a front t back split;
          selects = selects;
          from_source = reads;
          installs = inst;
        },
      ) in
      let here = place_here h ts a front t back split in
      omega (arith, forward, here)

  pub overwrite_edge : (e : Event) (k : List ℕ) (p q u : ℕ) → Contains h.events e → txn_of e ≡ t
      → selected h e k ≡ Some p → overwritten_by h e k p q ≡ true → installer h k q ≡ Some u → place ts u < length front
      → ⊥
  overwrite_edge e k p q u occurs mine selects overwrites inst early =
      let edge : Edge = record { from = t; kind = Rw; key = k; to = u } in
      let here = place_here h ts a front t back split in
      let ne = λ (s : t ≡ u). let same = ap (place ts) s in let no_place : ⊥ = omega (arith, same, here, early) in
      no_place in
      let forward = a.forward edge (
        ne,
        record {
          event = e;
          place = p;
          next = q;
          occurs = occurs;
          reader = mine;
          committed = t_committed h ts a front t back split;
          selects = selects;
          overwritten = overwrites;
          installs = inst;
        },
      ) in
      omega (arith, forward, here, early)

  pub read_others : (u : ℕ) (o : Entry) (v : List ℕ) (m : Option (List ℕ)) → o ≡ entry o.version (Live v)
      → Contains h.events (Read u o.version v) → u ≡ t → IsOthers o → HoldsVersion h ts o.version.key (length front) m
      → m ≡ Some v
  read_others u o v m live occurs mine other s =
      let e : Event = Read u o.version v in
      let k : List ℕ = o.version.key in
      let p : ℕ = place (writers h k) o.version.txn in
      let selects = read_selects h u o.version v (λ x. other.not_own (x ∙ mine)) in
      let before = read_edge e k (suc p) (suc p) o.version.txn occurs mine selects
      (reads_from_itself h e k (suc p)) other.installs other.not_own in
      let low = s.only (suc p) o.version.txn other.installs before in
      let high : s.upto ≤ suc p =
      elim (cases_lt (suc p) s.upto) [
        | inl less ↦
            let within = s.within in
            let next = installer_there h k (suc p) (omega (arith, less, within)) in
            absurd (overwrite_edge e k (suc p) (suc (suc p)) next.0 occurs mine selects
            (eq-eqb (suc (suc p)) (suc (suc p)) refl) next.1
            (s.done (suc (suc p)) next.0 next.1 (omega (arith, less))))
        | inr more ↦ more
      ] in
      let same : s.upto ≡ suc p = omega (arith, low, high) in
      s.value ∙ (ap (value_at h k) same ∙
      (ap (shown_by k h.events) other.installs ∙ (ap shown other.last ∙ ap (λ w. shown (Some w)) live)))

  -- the version that a scan selects is what the key holds before the transaction
  module _ (u : ℕ) (low high : List ℕ) (l : List Entry) (k : List ℕ) (p : ℕ) (m : Option (List ℕ))
      (occurs : Contains h.events (Scan u low high l)) (mine : u ≡ t)
      (selects : selected h (Scan u low high l) k ≡ Some p) (s : HoldsVersion h ts k (length front) m) where
    pub not_overwritten : (q : ℕ) → p < q → q ≤ s.upto → overwritten_by h (Scan u low high l) k p q ≡ true → ⊥
    not_overwritten zero less more overwrites = omega (arith, less)
    not_overwritten (suc j) less more overwrites =
        let within = s.within in
        let next = installer_there h k j (omega (arith, more, within)) in
        overwrite_edge (Scan u low high l) k p (suc j) next.0 occurs mine selects overwrites next.1
        (s.done (suc j) next.0 next.1 more)

    pub same_visible : (d q : ℕ) → q ≡ p + d → q ≤ s.upto → is_visible_at h k q ≡ is_visible_at h k p
    same_visible zero q e more = let same : q ≡ p = omega (arith, e) in ap (is_visible_at h k) same
    same_visible (suc d) q e more =
        let less : p < q = omega (arith, e) in
        let r : ℕ = p + d in
        let next : q ≡ suc r = omega (arith, e) in
        let same : is_visible_at h k (suc r) ≡ is_visible_at h k r =
        same_from_not_differ (is_visible_at h k (suc r)) (is_visible_at h k r)
        (λ c. not_overwritten (suc r) (omega arith) (omega (arith, more, next))
        (and_from _ _ (lt-ltb p (suc r) (omega arith)) (or_left _ _ c))) in
        ap (is_visible_at h k) next ∙ (same ∙ same_visible d r refl (omega (arith, more, next)))

    pub scan_holds : p ≤ s.upto → m ≡ value_at h k p
    scan_holds least =
        elim (cases_lt p s.upto) [
          | inl less ↦
              let hidden : is_visible_at h k p ≡ false =
              elim (cases_Bool (is_visible_at h k p)) [
                | inl c ↦ absurd (not_overwritten (suc p) (omega arith) (omega (arith, less))
                    (and_from _ _ (lt-ltb p (suc p) (omega arith))
                    (or_right _ _ (and_from _ _ (eq-eqb (suc p) (suc p) refl) c))))
                | inr c ↦ c
              ] in
              let later = same_visible (s.upto - p) s.upto (omega (arith, least)) (omega arith) in
              s.value ∙ (none_unless_some (value_at h k s.upto) (later ∙ hidden) ∙ sym
              (none_unless_some (value_at h k p) hidden))
          | inr more ↦ let same : s.upto ≡ p = omega (arith, least, more) in s.value ∙ ap (value_at h k) same
        ]

  -- after the earlier events of its transaction, the event reads what was recorded
  module _ (m : Contents) (stands : (k : List ℕ) → HoldsVersion h ts k (length front) (m k)) (before : List Event)
      (within : (w : Event) → Contains before w → Contains h.events w) where
    pub read_sees : (u : ℕ) (r : Version) (v : List ℕ) → Contains h.events (Read u r v) → u ≡ t
        → WasWritten before (Read u r v) → (o : Option Entry) → last_write t r.key before ≡ o
        → IfSome o (λ w. entry r (Live v) ≡ w) → over o (m r.key) ≡ Some v
    read_sees u r v occurs mine was None none own =
        let other = others before (Read u r v) (entry r (Live v)) occurs mine was within
        (Contains-head (entry r (Live v)) []) none in
        read_others u (entry r (Live v)) v (m r.key) refl occurs mine other (stands r.key)
    read_sees u r v occurs mine was (Some w) there own = ap (λ x. shown (Some x)) (sym own)

    pub scan_others : (u : ℕ) (low high : List ℕ) (l : List Entry) → Contains h.events (Scan u low high l) → u ≡ t
        → WasWritten before (Scan u low high l) → (k : List ℕ) → lies_in low high k ≡ true
        → last_write t k before ≡ None → (o : Option Entry) → listed k l ≡ o → m k ≡ shown o
    scan_others u low high l occurs mine was k inside none None e =
        scan_holds u low high l k 0 (m k) occurs mine (scan_selects h u low high l k 0 inside (ap (place_of h u k) e))
        (stands k) (omega arith)
    scan_others u low high l occurs mine was k inside none (Some o) e =
        let at = listed_from k l o e in
        let other = others before (Scan u low high l) o occurs mine was within at.0
        (ap (λ j. last_write t j before) at.1 ∙ none) in
        let p : ℕ = place (writers h k) o.version.txn in
        let inst : installer h k (suc p) ≡ Some o.version.txn = ap
        (λ j. installer h j (suc (place (writers h j) o.version.txn))) (sym at.1) ∙ other.installs in
        let selects = scan_selects h u low high l k (suc p) inside
        (ap (place_of h u k) e ∙ cond-false {A = Option ℕ} (o.version.txn == u) None (Some (suc p))
        (ne_eqb _ _ (λ x. other.not_own (x ∙ mine)))) in
        let early = read_edge (Scan u low high l) k (suc p) (suc p) o.version.txn occurs mine selects
        (reads_from_itself h (Scan u low high l) k (suc p)) inst other.not_own in
        scan_holds u low high l k (suc p) (m k) occurs mine selects (stands k)
        ((stands k).only (suc p) o.version.txn inst early) ∙
        (ap (shown_by k h.events) inst ∙ (ap (λ j. shown (last_write o.version.txn j h.events)) (sym at.1) ∙
        ap shown other.last))

    pub scan_sees : (u : ℕ) (low high : List ℕ) (l : List Entry) → Contains h.events (Scan u low high l) → u ≡ t
        → WasWritten before (Scan u low high l)
        → keys_rise (map (λ w. w.version.key) l) ≡ true → (k : List ℕ) → lies_in low high k ≡ true → (o : Option Entry)
        → last_write t k before ≡ o
        → IfSome o (ListsOnly l) → over o (m k) ≡ shown (listed k l)
    scan_sees u low high l occurs mine was rise k inside None none own =
        scan_others u low high l occurs mine was k inside none (listed k l) refl
    scan_sees u low high l occurs mine was rise k inside (Some w) there own =
        sym (ap shown (subst (λ j. listed j l ≡ Some w) (last_write_from t k before w there).key_is
        (listed_found l w rise own.0)))

    pub sees : (e : Event) → Contains h.events e → txn_of e ≡ t → WasWritten before e → SeesOwnWrites before e
        → IsRising e
        → Sees (run m (events_of before t)) e
    sees (Read u r v) occurs mine was own rising =
        run_own t r.key before m ∙
        read_sees u r v occurs mine was (last_write t r.key before) refl
        (subst (λ x. IfSome (last_write x r.key before) (λ w. entry r (Live v) ≡ w)) mine own)
    sees (Scan u low high l) occurs mine was own rising =
        pairs_from_keys low high l (run m (events_of before t)) rising.1 rising.2
        (λ k inside.
        run_own t k before m ∙
        scan_sees u low high l occurs mine was rising.1 k inside (last_write t k before) refl
        (subst (λ x. IfSome (last_write x k before) (ListsOnly l)) mine (own k inside)))
    sees (Write u k n v) occurs mine was own rising = tt
    sees (Delete u k n) occurs mine was own rising = tt
    sees (Commit u) occurs mine was own rising = tt
    sees (Abort u) occurs mine was own rising = tt
