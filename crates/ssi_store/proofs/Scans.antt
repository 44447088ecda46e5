-- Scan and limited scan.
use Rattle.std.specs.List.{Contains}
use Rattle.std.proofs.Common.{List, None, Option, Some, ap, false, true, if◌then◌else◌, inl, inr, nat_le, refl, subst, sym, ◌≡◌, ◌⊎◌, ◌∷◌, ◌<◌, ◌≤◌, ◌∙◌, ℕ, []}
use Rattle.std.proofs.lemmas.Bool.{cases_Bool, cond-false, cond-true, le-leb, lt-leb}
use Rattle.std.proofs.lemmas.Option.{none-some}
use Rattle.adya_keys.specs.Meaning.Keys.{key_le, key_lt, lies_in}
use Rattle.adya_values.specs.Meaning.Histories.{Entry, FinalPair, Scan as Listed}
use Rattle.adya_values.specs.Meaning.Serial.{visible_pairs}
use Rattle.ssi_conflict.specs.Computing.Steps.{smallest_ordered_pivot}
use Rattle.ssi_conflict.specs.Meaning.Calls.{Reads}
use Rattle.ssi_conflict.specs.Clauses.Allowed.{AreAllowed}
use Rattle.ssi_snapshot.specs.Clauses.Listings.{IsListing, within}
use Rattle.ssi_snapshot.specs.Mirror as View
use Rattle.ssi_store.specs.Meaning.Acts.{Act, Scans, acts, operations}
use Rattle.ssi_store.specs.Meaning.Courses.{Command as Do, Answer, Rows, Refused, Idle, Range, Long, Memory, Course, Then, txn_in}
use Rattle.ssi_store.specs.Meaning.Replies.{may_run_out_of_memory, reply, reply_for, rows, scan_answer, unless_long, unless_downward, unless_pivot}
use Rattle.ssi_store.specs.Meaning.Seeing.{keys, scanned, sees}
use Rattle.ssi_store.specs.Mirror.Standing.{Parts, StandsFor}
use Rattle.ssi_store.specs.Meaning.Tracked.{tracked}
use Rattle.ssi_store.specs.Machinery.Below.{Below}
use Rattle.ssi_store.specs.Machinery.Looks.{IsLook}
use Rattle.ssi_store.specs.Machinery.Opens.{Sessions, open_at, number_of}
use Rattle.ssi_store.specs.declared.open.Open.{Open}
use Rattle.ssi_store.proofs.Gets.{sees_is}
use Rattle.adya_keys.proofs.KeyOrder.{key_le-from_not}
use Rattle.ssi_store.proofs.Lists.{option_cases}
use Rattle.ssi_store.proofs.RisingKeys.{listed_made, made_rises}
use Rattle.ssi_store.proofs.SeenByEvents.{sees_is as seen_key}
use Rattle.ssi_store.proofs.Steps.{settled, opened, idle, open_of, answer_memory, refused_same}
use Rattle.ssi_store.proofs.TrackedCalls.{tracked_allowed}
use Rattle.ssi_store.proofs.OwnWrites.{keys_of_log_rise}

-- a scan lists what is seen of the range, by rising key
module _ (t : ℕ) (low high : List ℕ) (log : List Act) where
  abbrev shows : List ℕ → Option Entry
  shows = within low high (λ k. sees t k log)

  own_key : (j : List ℕ) (w : Entry) → shows j ≡ Some w → w.version.key ≡ j
  own_key j w e = elim (cases_Bool (lies_in low high j)) [
    | inl inside ↦
        (seen_key t j log w (sym (cond-true {A = Option Entry} (lies_in low high j) (sees t j log) None inside) ∙ e)).0
    | inr out ↦
        absurd (none-some w (sym (cond-false {A = Option Entry} (lies_in low high j) (sees t j log) None out) ∙ e))
  ]

  there : (k : List ℕ) → Contains (keys log) k ⊎ (shows k ≡ None)
  there k = elim (cases_Bool (lies_in low high k)) [
    | inl inside ↦ elim (option_cases (sees t k log)) [
      | inl none ↦ inr (cond-true {A = Option Entry} (lies_in low high k) (sees t k log) None inside ∙ none)
      | inr some ↦ inl (seen_key t k log some.0 some.1).1
    ]
    | inr out ↦ inr (cond-false {A = Option Entry} (lies_in low high k) (sees t k log) None out)
  ]

  pub scan_listing : IsListing (within low high (λ k. sees t k log)) (scanned t low high log)
  scan_listing = record {
    rising = made_rises (λ w. w.version.key) shows own_key (keys log) (keys_of_log_rise log);
    each = λ k. listed_made shows own_key (keys log) k (there k);
  }

pub scan_allowed : {p : Parts} {next : ℕ} {es : Sessions} {c : Course} (st : StandsFor p next es c) (s : List ℕ) (t : ℕ)
    (low high : List ℕ) → txn_in s c ≡ Some t → key_le low high ≡ true → AreAllowed (tracked (Scans t low high ∷ acts c))
scan_allowed {c = c} st s t low high here up =
    tracked_allowed (Scans t low high ∷ acts c) (((settled st).opened s t here, up), (settled st).sound)

module _ {p : Parts} {next : ℕ} {es : Sessions} {c : Course} (st : StandsFor p next es c) (s : List ℕ) where
  pub scan_idle : (low high : List ℕ) → open_at s es ≡ None
      → StandsFor p next es (Then c (Do.Scan s low high) (Refused Idle))
  scan_idle low high at = refused_same st (Do.Scan s low high) Idle refl
      (inl (sym (ap (λ (x : Option ℕ). reply_for smallest_ordered_pivot x c (Do.Scan s low high)) (idle st s at))))

  module _ (low high : List ℕ) (o : Open) (at : open_at s es ≡ Some o) where
    abbrev t : ℕ
    t = number_of o

    abbrev answer : Answer
    answer = scan_answer smallest_ordered_pivot (number_of o) (acts c) low high (rows (number_of o) low high (acts c))

    reply_is : reply smallest_ordered_pivot c (Do.Scan s low high)
        ≡ unless_downward low high (unless_long (number_of o) (acts c)
        (scan_answer smallest_ordered_pivot (number_of o) (acts c) low high (rows (number_of o) low high (acts c))))
    reply_is = ap (λ (y : Option ℕ). reply_for smallest_ordered_pivot y c (Do.Scan s low high)) (opened st s o at)

    pub scan_range : key_lt high low ≡ true → StandsFor p next es (Then c (Do.Scan s low high) (Refused Range))
    scan_range down = refused_same st (Do.Scan s low high) Range refl (inl (sym (reply_is
        ∙ cond-true {A = Answer} (key_lt high low) (Refused Range) (unless_long t (acts c) answer) down)))

    module _ (up : key_lt high low ≡ false) where
      reply_up : reply smallest_ordered_pivot c (Do.Scan s low high) ≡ unless_long (number_of o) (acts c)
          (scan_answer smallest_ordered_pivot (number_of o) (acts c) low high (rows (number_of o) low high (acts c)))
      reply_up = reply_is ∙ cond-false {A = Answer} (key_lt high low) (Refused Range) (unless_long t (acts c) answer) up

      pub scan_long : 65535 ≤ o.operations → StandsFor p next es (Then c (Do.Scan s low high) (Refused Long))
      scan_long long = refused_same st (Do.Scan s low high) Long refl (inl (sym (reply_up
          ∙ cond-true {A = Answer} (nat_le 65535 (operations t (acts c))) (Refused Long) answer
          (ap (nat_le 65535) (sym (open_of st s o at).count) ∙ le-leb 65535 o.operations long))))

      module _ (short : o.operations < 65535) where
        reply_short : reply smallest_ordered_pivot c (Do.Scan s low high)
            ≡ scan_answer smallest_ordered_pivot (number_of o) (acts c) low high (rows (number_of o) low high (acts c))
        reply_short = reply_up
            ∙ cond-false {A = Answer} (nat_le 65535 (operations t (acts c))) (Refused Long) answer
            (ap (nat_le 65535) (sym (open_of st s o at).count) ∙ lt-leb 65535 o.operations short)

        pub scan_memory : StandsFor p next es (Then c (Do.Scan s low high) (Refused Memory))
        scan_memory = refused_same st (Do.Scan s low high) Memory refl
            (answer_memory st (Do.Scan s low high) _ reply_short
            (may (smallest_ordered_pivot (tracked (Scans t low high ∷ acts c))) (rows t low high (acts c))))
          where
            may : (x : Option ℕ) (rs : List FinalPair)
                → may_run_out_of_memory (Do.Scan s low high) (unless_pivot x (Rows rs)) ≡ true
            may None rs = refl
            may (Some n) rs = refl

        pub scan_is : Below → (u : ℕ) (ws : List Entry) (rs : List FinalPair) → u ≡ number_of o
            → IsListing (View.sees_between low high o.view p.holds) ws → rs ≡ visible_pairs ws
            → IsLook s u (Reads u low high ∷ []) (Listed u low high ws) (Rows rs) c (Do.Scan s low high)
        scan_is b u ws rs same found shown =
            let are : ws ≡ scanned t low high (acts c) = b.unique (within low high (λ k. sees t k (acts c))) ws
            (scanned t low high (acts c))
            (record {
              rising = found.rising;
              each = λ k. found.each k
                  ∙ ap (λ w. if lies_in low high k then w else None) (sees_is st s k o at b);
            }) (scan_listing t low high (acts c)) in
            subst (λ x. IsLook s x (Reads x low high ∷ []) (Listed x low high ws) (Rows rs) c (Do.Scan s low high)) (sym same)
            (record {
              act = Scans t low high;
              looks = refl;
              session = λ r. refl;
              txn = refl;
              here = opened st s o at;
              proper = refl;
              told = refl;
              allowed = scan_allowed st s t low high (opened st s o at) (key_le-from_not low high up);
              records = ap (λ x. Listed t low high x ∷ []) (sym are);
              replies = reply_short
                  ∙ ap (λ x. scan_answer smallest_ordered_pivot t (acts c) low high x) (sym (shown ∙ ap visible_pairs are));
              does = refl;
              keeps = λ y. refl;
              next = refl;
              aborts = λ x. refl;
              memory = may;
            })
          where
            may : (x : Option ℕ) → may_run_out_of_memory (Do.Scan s low high) (unless_pivot x (Rows rs)) ≡ true
            may None = refl
            may (Some n) = refl
