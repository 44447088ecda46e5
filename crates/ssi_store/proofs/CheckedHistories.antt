-- The history of a sound log is checked: it is well-formed, without aborted and intermediate reads.
use Rattle.std.specs.List.{Contains, cons_option, filter_map, list_any}
use Rattle.std.proofs.Common.{List, None, Option, Some, [], ap, arith, cond, false, inl, inr, is_some, length, not, refl, slice_get, subst, suc, sym, true, zero, ℕ, ◌&&◌, ◌++◌, ◌+◌, ◌<◌, ◌==◌, ◌||◌, ◌∙◌, ◌∷◌, ◌≡◌, ◌⊎◌}
use Rattle.std.proofs.lemmas.Bool.{and_cases, and_left, both_ways, cases_Bool, cases_lt, cond-false, cond-true, eq-eqb, eqb-true, not-false, or_cases, or_from, or_left, or_right}
use Rattle.std.proofs.lemmas.Option.{slice_get_within}
use Rattle.lemmas.proofs.Counts.{count, count-append, count_other, count_same}
use Rattle.lemmas.proofs.Members.{All-from_contained, none_contained}
use Rattle.lemmas.proofs.Orderings.{bytes_eq-from, bytes_eq-same}
use Rattle.lemmas.proofs.Tests.{list_any-source}
use Rattle.adya_values.specs.Clauses.Acceptance.{IsChecked}
use Rattle.adya_values.specs.Meaning.Events.{aborts, is_aborted, is_committed, shown, txn_of}
use Rattle.adya_values.specs.Clauses.Rules.{has_ended, IsRising, IsWellFormed, final_value}
use Rattle.adya_values.specs.Meaning.Histories.{Entry, Event, FinalPair}
use Rattle.adya_keys.specs.Meaning.Keys.{key_eq}
use Rattle.adya_values.specs.Meaning.Orders.{installer, value_at, shown_by, writers}
use Rattle.adya_values.specs.Meaning.Phenomena.{ReadsCommitted}
use Rattle.adya_values.specs.Meaning.Serial.{visible_pair_of}
use Rattle.adya_values.specs.declared.edition.Edition.{Edition}
use Rattle.ssi_store.specs.Meaning.Acts.{Aborts, Act, Collects, Commits, Gets, Scans, Begins, Writes, has_aborted, has_committed, has_begun, is_open}
use Rattle.ssi_store.specs.Meaning.Recording.{events}
use Rattle.ssi_store.specs.Meaning.Seeing.{commit_count, committed, keys, own_write, wrote}
use Rattle.ssi_store.proofs.Installed.{writers_are}
use Rattle.ssi_store.proofs.Lists.{option_cases}
use Rattle.ssi_store.proofs.LoggedHistories.{history_of_log, installers}
use Rattle.ssi_store.proofs.Recorded.{aborted_events, committed_events, own_of_events}
use Rattle.ssi_store.proofs.Rules.{contents_own, each_recorded, event_begun, numbered, observed_right, open_until, own_writes, rising, was_written}
use Rattle.ssi_store.proofs.SeenByEvents.{contents_is}
use Rattle.ssi_store.proofs.SoundLogs.{Sound, committed_stamp, not_both, not_open, open_from, stamp_above}
use Rattle.ssi_store.proofs.Stamps.{NewestOf, contents_newest, installer_is, installers_rise}

-- M7
installed_once : (k : List ℕ) (t : ℕ) (log : List Act) → Sound log
    → count (installers k log) t ≡ cond (has_committed t log && wrote t k log) 1 0
installed_once k t [] s = refl
installed_once k t (Begins u ∷ log) s = installed_once k t log s.1
installed_once k t (Gets u j ∷ log) s = installed_once k t log s.1
installed_once k t (Scans u low high ∷ log) s = installed_once k t log s.1
installed_once k t (Aborts u ∷ log) s = installed_once k t log s.1
installed_once k t (Writes u j c ∷ log) s =
    installed_once k t log s.1 ∙
    (elim (cases_Bool (has_committed t log)) [
      | inl done ↦ ap (λ o. cond (has_committed t log && is_some o) 1 0)
          (sym (cond-false {A = Option Entry} (u == t && key_eq j k) (Some _) (own_write t k log)
          (and_left _ _ (not_open u t log s.0 done))))
      | inr fails ↦ ap (λ b. cond (b && wrote t k log) 1 0) fails
          ∙ sym (ap (λ b. cond (b && wrote t k (Writes u j c ∷ log)) 1 0) fails)
    ])
installed_once k t (Commits u ∷ log) s =
    let rest = installed_once k t log s.1 in
    elim (cases_Bool (u == t)) [
      | inl same ↦
          let at = eqb-true u t same in
          let before : has_committed t log ≡ false = subst (λ x. has_committed x log ≡ false) at
          (open_from u log s.0.opened).uncommitted in
          let none : count (installers k log) t ≡ 0 = rest ∙ ap (λ b. cond (b && wrote t k log) 1 0) before in
          let goal : count (installers k (Commits u ∷ log)) t ≡ cond (wrote t k log) 1 0 =
          elim (cases_Bool (wrote u k log)) [
            | inl holds ↦
                let both = count-append (installers k log) (u ∷ []) t in
                let one = count_same u [] t at in
                let sum : count (installers k log ++ u ∷ []) t ≡ 1 = both
                ∙ (let e : count (installers k log) t + count (u ∷ []) t ≡ 1 = omega (arith, none, one) in e) in
                ap (λ b. count (cond b (installers k log ++ u ∷ []) (installers k log)) t) holds
                ∙ (sum ∙ sym (ap (λ b. cond b 1 0) (ap (λ x. wrote x k log) (sym at) ∙ holds)))
            | inr fails ↦
                ap (λ b. count (cond b (installers k log ++ u ∷ []) (installers k log)) t) fails
                ∙ (none ∙ sym (ap (λ b. cond b 1 0) (ap (λ x. wrote x k log) (sym at) ∙ fails)))
          ] in
          goal ∙ ap (λ b. cond ((b || has_committed t log) && wrote t k log) 1 0) (sym same)
      | inr other ↦
          let kept : count (installers k (Commits u ∷ log)) t ≡ count (installers k log) t =
          elim (cases_Bool (wrote u k log)) [
            | inl holds ↦
                let both = count-append (installers k log) (u ∷ []) t in
                let none = count_other u [] t (λ e. both_ways _ other (eq-eqb u t e)) in
                ap (λ b. count (cond b (installers k log ++ u ∷ []) (installers k log)) t) holds
                ∙ (both ∙ (let e : count (installers k log) t + count (u ∷ []) t ≡ count (installers k log) t = omega
                (arith, none) in e))
            | inr fails ↦ ap (λ b. count (cond b (installers k log ++ u ∷ []) (installers k log)) t) fails
          ] in
          kept ∙ (rest ∙ ap (λ b. cond ((b || has_committed t log) && wrote t k log) 1 0) (sym other))
    ]
installed_once k t (Collects ∷ log) s = installed_once k t log s.1

-- M8
final_step : (f : List ℕ → Option (List ℕ)) (j k : List ℕ) (fs : List FinalPair) (l : Option (List ℕ)) → f j ≡ l
    → ((j ≡ k → f k ≡ None) → final_value fs k ≡ f k) → final_value (cons_option (visible_pair_of j l) fs) k ≡ f k
final_step f j k fs None e rest = rest (λ s. ap f (sym s) ∙ e)
final_step f j k fs (Some v) e rest =
    elim (cases_Bool (key_eq j k)) [
      | inl same ↦ cond-true {A = Option (List ℕ)} (key_eq j k) (Some v) (final_value fs k) same
          ∙ (sym e ∙ ap f (bytes_eq-same j k same))
      | inr other ↦ cond-false {A = Option (List ℕ)} (key_eq j k) (Some v) (final_value fs k) other
          ∙ rest (λ s. absurd (both_ways _ other (bytes_eq-from j k s)))
    ]

final_made : (f : List ℕ → Option (List ℕ)) (js : List (List ℕ)) (k : List ℕ) → (Contains js k ⊎ (f k ≡ None))
    → final_value (filter_map (λ j. visible_pair_of j (f j)) js) k ≡ f k
final_made f [] k (inl c) = absurd (none_contained k c)
final_made f [] k (inr e) = sym e
final_made f (j ∷ js) k (inr e) = final_step f j k _ (f j) refl (λ h. final_made f js k (inr e))
final_made f (j ∷ js) k (inl (zero, l, s)) = final_step f j k _ (f j) refl (λ h. final_made f js k (inr (h s)))
final_made f (j ∷ js) k (inl (suc i, l, s)) = final_step f j k _ (f j) refl
    (λ h. final_made f js k (inl (i, omega (arith, l), s)))

slice_some : (xs : List ℕ) (p : ℕ) → p < length xs → (u : ℕ) × (slice_get xs p ≡ Some u)
slice_some [] p l = absurd (omega (arith, l))
slice_some (x ∷ xs) zero l = (x, refl)
slice_some (x ∷ xs) (suc p) l = slice_some xs p (omega (arith, l))

-- what the last installer of a key wrote is what it holds at the end
pub last_value : (edition : Edition) (unfinished : List ℕ) (k : List ℕ) (log : List Act) → Sound log
    → (o : Option Entry) → committed k (commit_count log) log ≡ o → NewestOf k (commit_count log) log o → (n : ℕ)
    → n ≡ length (installers k log) → value_at (history_of_log edition unfinished log) k n ≡ shown o
last_value edition unfinished k log s None e newest zero l = refl
last_value edition unfinished k log s None e newest (suc n) l =
    let last = slice_some (installers k log) n (omega (arith, l)) in
    let m = committed_stamp last.0 log (installer_is k n last.0 log last.1).committed in
    let above = newest n last.0 m.0 last.1 m.1 in
    let within = (stamp_above last.0 m.0 log s m.1).1 in
    absurd (omega (arith, above, within))
last_value edition unfinished k log s (Some w) e newest zero l = absurd
    (let within = slice_get_within (installers k log) newest.at w.version.txn newest.installs in omega
    (arith, within, l))
last_value edition unfinished k log s (Some w) e newest (suc n) l =
    let within = slice_get_within (installers k log) newest.at w.version.txn newest.installs in
    let last = slice_some (installers k log) n (omega (arith, l)) in
    let m = committed_stamp last.0 log (installer_is k n last.0 log last.1).committed in
    let most = newest.newest n last.0 m.0 last.1 m.1 ((stamp_above last.0 m.0 log s m.1).1) in
    let same : newest.at ≡ n =
    elim (cases_lt newest.at n) [
      | inl less ↦ absurd (let rises = installers_rise k newest.at n w.version.txn last.0 newest.number m.0 log s
          newest.installs last.1 newest.stamped m.1 less in omega (arith, rises, most))
      | inr more ↦ omega (arith, more, within, l)
    ] in
    let who : installer (history_of_log edition unfinished log) k (suc n) ≡ Some w.version.txn = ap
    (λ xs. slice_get xs n) (writers_are edition unfinished k log)
    ∙ (ap (slice_get (installers k log)) (sym same) ∙ newest.installs) in
    ap (shown_by k (history_of_log edition unfinished log).events) who
    ∙ ap shown (own_of_events w.version.txn k log ∙ (contents_own k (commit_count log) log w s e).own)

ended : (t : ℕ) (log : List Act) → has_begun t log ≡ true → is_open t log ≡ false
    → (has_committed t log || has_aborted t log) ≡ true
ended t log b e = elim (and_cases (has_begun t log) (not (has_committed t log || has_aborted t log)) e) [
  | inl never ↦ absurd (both_ways _ never b)
  | inr done ↦ not-false _ done
]

module _ (edition : Edition) (unfinished : List ℕ) (log : List Act) (sound : Sound log)
    (covers : (t : ℕ) → is_open t log ≡ true → list_any (λ u. u == t) unfinished ≡ true)
    (only : (t : ℕ) → Contains unfinished t → is_open t log ≡ true) where
  has_ended_is : (t : ℕ) → has_ended (events log) t ≡ (has_committed t log || has_aborted t log)
  has_ended_is t = ap (λ b. b || list_any (aborts t) (events log)) (committed_events t log)
      ∙ ap (λ b. has_committed t log || b) (aborted_events t log)

  all_end : (e : Event) → Contains (events log) e
      → (has_ended (events log) (txn_of e) || list_any (λ u. u == txn_of e) unfinished) ≡ true
  all_end e c =
      elim (cases_Bool (is_open (txn_of e) log)) [
        | inl live ↦ or_right (has_ended (events log) (txn_of e)) _ (covers (txn_of e) live)
        | inr done ↦ or_left _ (list_any (λ u. u == txn_of e) unfinished)
            (has_ended_is (txn_of e) ∙ ended (txn_of e) log (event_begun log sound e c) done)
      ]

  no_end : (t : ℕ) → Contains unfinished t → has_ended (events log) t ≡ false
  no_end t c = let o = open_from t log (only t c) in has_ended_is t ∙ or_from _ _ o.uncommitted o.unaborted

  is_well_formed : IsWellFormed (history_of_log edition unfinished log)
  is_well_formed = record {
    open_until_end = each_recorded _ open_until log sound;
    numbered = each_recorded _ numbered log sound;
    was_written = each_recorded _ was_written log sound;
    own_writes = each_recorded _ own_writes log sound;
    rising = each_recorded (λ before e. IsRising e) rising log sound;
    ends = record {
      ended = All-from_contained (λ e.
          (has_ended (events log) (txn_of e) || list_any (λ u. u == txn_of e) unfinished) ≡ true)
          (events log) all_end;
      unended = All-from_contained (λ t. has_ended (events log) t ≡ false) unfinished no_end;
    };
    orders = λ k t.
        ap (λ xs. count xs t) (writers_are edition unfinished k log) ∙ (installed_once k t log sound ∙
        (ap (λ b. cond (b && wrote t k log) 1 0) (sym (committed_events t log)) ∙
        ap (λ o. cond (is_committed (events log) t && is_some o) 1 0) (sym (own_of_events t k log))));
    finals = λ k.
        final_made (λ j. shown (committed j (commit_count log) log)) (keys log) k
        (elim (option_cases (committed k (commit_count log) log)) [
          | inl none ↦ inr (ap shown none)
          | inr some ↦ inl (contents_is k (commit_count log) log some.0 some.1).1
        ]) ∙
        sym (last_value edition unfinished k log sound (committed k (commit_count log) log) refl
        (contents_newest k (commit_count log) log sound) (length (writers (history_of_log edition unfinished log) k))
        (ap length (writers_are edition unfinished k log)));
  }

  -- whose writes a committed transaction reads or lists is committed
  source_committed : (e : Event) (o : Entry) → ReadsCommitted (history_of_log edition unfinished log) e o
      → has_committed o.version.txn log ≡ true
  source_committed e o r =
      elim (observed_right log sound e r.occurs o r.sees) [
        | inl own ↦ ap (λ t. has_committed t log) own ∙ (sym (committed_events (txn_of e) log) ∙ r.committed)
        | inr others ↦ others.committed
      ]

  committed_unaborted : (t : ℕ) → has_committed t log ≡ true
      → is_aborted (history_of_log edition unfinished log) t ≡ true → ⊥
  committed_unaborted t c a =
      elim (or_cases (list_any (aborts t) (events log)) (list_any (λ u. u == t) unfinished) a) [
        | inl gone ↦ both_ways _ (aborted_events t log ∙ not_both t log sound c) gone
        | inr live ↦
            let u = list_any-source (λ u. u == t) unfinished live in
            both_ways _ (open_from t log (subst (λ x. is_open x log ≡ true) (eqb-true u.0 t u.2)
            (only u.0 u.1))).uncommitted c
      ]

  pub is_checked : IsChecked (history_of_log edition unfinished log)
  is_checked = record {
    well_formed = is_well_formed;
    no_aborted_read = λ g. committed_unaborted g.1.version.txn (source_committed g.0 g.1 g.2) g.3;
    no_intermediate_read = λ g.
        elim (observed_right log sound g.0 g.2.occurs g.1 g.2.sees) [
          | inl own ↦ g.3 own
          | inr others ↦ g.4 (own_of_events g.1.version.txn g.1.version.key log ∙ others.own)
        ];
  }
