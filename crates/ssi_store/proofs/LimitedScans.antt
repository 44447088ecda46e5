-- Limited scan.
use Rattle.std.proofs.Common.{List, None, Option, Some, ap, false, true, if◌then◌else◌, inl, length, nat_le, nat_lt, refl, subst, sym, take, ◌≡◌, ◌∷◌, ◌<◌, ◌==◌, ◌≤◌, ◌∙◌, ℕ, []}
use Rattle.std.proofs.lemmas.Bool.{cond-false, cond-true, le-leb, lt-leb, lt-ltb}
use Rattle.adya_values.specs.Meaning.Events.{last}
use Rattle.adya_keys.specs.Meaning.Keys.{key_le, key_lt, lies_in}
use Rattle.adya_values.specs.Meaning.Histories.{Entry, FinalPair, Scan as Listed}
use Rattle.adya_values.specs.Meaning.Serial.{visible_pairs}
use Rattle.ssi_conflict.specs.Computing.Steps.{smallest_ordered_pivot}
use Rattle.ssi_conflict.specs.Meaning.Calls.{Reads}
use Rattle.ssi_snapshot.specs.Meaning.Reached as Listing
use Rattle.ssi_snapshot.specs.Clauses.Listings.{IsListing, up_to, within}
use Rattle.ssi_snapshot.specs.Meaning.Reached.{key_or, reached}
use Rattle.ssi_snapshot.specs.Mirror as View
use Rattle.ssi_store.specs.Meaning.Acts.{Scans, acts, operations}
use Rattle.ssi_store.specs.Meaning.Courses.{Command as Do, Answer, Rows, Refused, Idle, Range, Long, Memory, Course, Then}
use Rattle.ssi_store.specs.Meaning.Replies.{may_run_out_of_memory, reply, reply_for, rows, scan_answer, unless_long, unless_downward, unless_pivot}
use Rattle.ssi_store.specs.Meaning.Seeing.{scanned, sees}
use Rattle.ssi_store.specs.Mirror.Standing.{Parts, StandsFor}
use Rattle.ssi_store.specs.Meaning.Tracked.{tracked}
use Rattle.ssi_store.specs.Machinery.Below.{Below}
use Rattle.ssi_store.specs.Machinery.Opens.{Sessions, open_at, number_of}
use Rattle.ssi_store.specs.Machinery.Looks.{IsLook}
use Rattle.ssi_store.specs.declared.open.Open.{Open}
use Rattle.ssi_store.proofs.Gets.{sees_is}
use Rattle.adya_keys.proofs.KeyOrder.{key_le-from_not}
use Rattle.ssi_store.proofs.ReachedKeys.{reached_upward}
use Rattle.ssi_store.proofs.Scans.{scan_listing, scan_allowed}
use Rattle.ssi_store.proofs.Steps.{opened, idle, open_of, answer_memory, refused_same}

-- both definitions of how far a scan looked are the same
reached_same : (high : List ℕ) (n : ℕ) (rs : List FinalPair) → Listing.reached high n rs ≡ reached high n rs
reached_same high n rs = ap (λ x. if length rs == n then x else high) (by_last (last rs))
  where
    by_last : (o : Option FinalPair) → Listing.key_or high o ≡ key_or high o
    by_last None = refl
    by_last (Some r) = refl

module _ {p : Parts} {next : ℕ} {es : Sessions} {c : Course} (st : StandsFor p next es c) (s low high : List ℕ) (n : ℕ)
    (some : 0 < n) where
  proper : nat_lt 0 n ≡ true
  proper = lt-ltb 0 n some

  pub first_idle : open_at s es ≡ None → StandsFor p next es (Then c (Do.ScanFirst s low high n) (Refused Idle))
  first_idle at = refused_same st (Do.ScanFirst s low high n) Idle proper
      (inl (sym (ap (λ (x : Option ℕ). reply_for smallest_ordered_pivot x c (Do.ScanFirst s low high n)) (idle st s at))))

  module _ (o : Open) (at : open_at s es ≡ Some o) where
    abbrev t : ℕ
    t = number_of o

    abbrev found : List FinalPair
    found = take n (rows (number_of o) low high (acts c))

    abbrev answer : Answer
    answer = scan_answer smallest_ordered_pivot (number_of o) (acts c) low
        (reached high n (take n (rows (number_of o) low high (acts c)))) (take n (rows (number_of o) low high (acts c)))

    reply_is : reply smallest_ordered_pivot c (Do.ScanFirst s low high n)
        ≡ unless_downward low high (unless_long (number_of o) (acts c)
        (scan_answer smallest_ordered_pivot (number_of o) (acts c) low
        (reached high n (take n (rows (number_of o) low high (acts c)))) (take n (rows (number_of o) low high (acts c)))))
    reply_is = ap (λ (y : Option ℕ). reply_for smallest_ordered_pivot y c (Do.ScanFirst s low high n)) (opened st s o at)

    pub first_range : key_lt high low ≡ true → StandsFor p next es (Then c (Do.ScanFirst s low high n) (Refused Range))
    first_range down = refused_same st (Do.ScanFirst s low high n) Range proper (inl (sym (reply_is
        ∙ cond-true {A = Answer} (key_lt high low) (Refused Range) (unless_long t (acts c) answer) down)))

    module _ (up : key_lt high low ≡ false) where
      reply_up : reply smallest_ordered_pivot c (Do.ScanFirst s low high n) ≡ unless_long (number_of o) (acts c)
          (scan_answer smallest_ordered_pivot (number_of o) (acts c) low
          (reached high n (take n (rows (number_of o) low high (acts c)))) (take n (rows (number_of o) low high (acts c))))
      reply_up = reply_is ∙ cond-false {A = Answer} (key_lt high low) (Refused Range) (unless_long t (acts c) answer) up

      pub first_long : 65535 ≤ o.operations → StandsFor p next es (Then c (Do.ScanFirst s low high n) (Refused Long))
      first_long long = refused_same st (Do.ScanFirst s low high n) Long proper (inl (sym (reply_up
          ∙ cond-true {A = Answer} (nat_le 65535 (operations t (acts c))) (Refused Long) answer
          (ap (nat_le 65535) (sym (open_of st s o at).count) ∙ le-leb 65535 o.operations long))))

      module _ (short : o.operations < 65535) where
        reply_short : reply smallest_ordered_pivot c (Do.ScanFirst s low high n)
            ≡ scan_answer smallest_ordered_pivot (number_of o) (acts c) low
            (reached high n (take n (rows (number_of o) low high (acts c))))
            (take n (rows (number_of o) low high (acts c)))
        reply_short = reply_up
            ∙ cond-false {A = Answer} (nat_le 65535 (operations t (acts c))) (Refused Long) answer
            (ap (nat_le 65535) (sym (open_of st s o at).count) ∙ lt-leb 65535 o.operations short)

        may : (x : Option ℕ) (rs : List FinalPair)
            → may_run_out_of_memory (Do.ScanFirst s low high n) (unless_pivot x (Rows rs)) ≡ true
        may None rs = refl
        may (Some q) rs = refl

        pub first_memory : StandsFor p next es (Then c (Do.ScanFirst s low high n) (Refused Memory))
        first_memory = refused_same st (Do.ScanFirst s low high n) Memory proper
            (answer_memory st (Do.ScanFirst s low high n) _ reply_short
            (may (smallest_ordered_pivot (tracked (Scans t low (reached high n found) ∷ acts c))) found))

        pub first_is : Below → (u : ℕ) (to : List ℕ) (ws : List Entry) (rs : List FinalPair) → u ≡ number_of o
            → (all : List Entry) × IsListing (View.sees_between low high o.view p.holds) all × (ws ≡ up_to n all)
            → rs ≡ visible_pairs ws → to ≡ reached high n rs
            → IsLook s u (Reads u low to ∷ []) (Listed u low to ws) (Rows rs) c (Do.ScanFirst s low high n)
        first_is b u to ws rs same seen shown far =
            let log = acts c in
            let whole : seen.0 ≡ scanned t low high log = b.unique (within low high (λ k. sees t k log)) seen.0
            (scanned t low high log)
            (record {
              rising = seen.1.rising;
              each = λ k. seen.1.each k ∙ ap (λ w. if lies_in low high k then w else None) (sees_is st s k o at b);
            }) (scan_listing t low high log) in
            let are : ws ≡ up_to n (scanned t low high log) = seen.2 ∙ ap (up_to n) whole in
            let rows_are : rs ≡ found = shown ∙ ap visible_pairs are ∙ b.takes_first n (scanned t low high log) in
            let end : to ≡ reached high n found = far ∙ ap (reached high n) rows_are in
            let limited = b.lists_range (λ k. sees t k log) low high n (scanned t low high log) some
            (scan_listing t low high log) in
            let looked : Listing.reached high n (visible_pairs (up_to n (scanned t low high log))) ≡ to =
            ap (Listing.reached high n) (b.takes_first n (scanned t low high log))
            ∙ reached_same high n found ∙ sym end in
            let listed : ws ≡ scanned t low to log = are
            ∙ b.unique (within low to (λ k. sees t k log)) (up_to n (scanned t low high log)) (scanned t low to log)
            (subst (λ x. IsListing (within low x (λ k. sees t k log)) (up_to n (scanned t low high log))) looked limited)
            (scan_listing t low to log) in
            subst (λ x. IsLook s x (Reads x low to ∷ []) (Listed x low to ws) (Rows rs) c (Do.ScanFirst s low high n)) (sym same)
            (record {
              act = Scans t low to;
              looks = refl;
              session = λ r. refl;
              txn = refl;
              here = opened st s o at;
              proper = proper;
              told = refl;
              allowed = scan_allowed st s t low to (opened st s o at)
                  (subst (λ x. key_le low x ≡ true) (sym end) (reached_upward t low high n log (key_le-from_not low high up)));
              records = ap (λ x. Listed t low to x ∷ []) (sym listed);
              replies = reply_short
                  ∙ ap (λ x. scan_answer smallest_ordered_pivot t log low x found) (sym end)
                  ∙ ap (λ x. scan_answer smallest_ordered_pivot t log low to x) (sym rows_are);
              does = ap (λ x. Scans t low x ∷ []) (sym far);
              keeps = λ y. refl;
              next = refl;
              aborts = λ x. refl;
              memory = λ x. may x rs;
            })
