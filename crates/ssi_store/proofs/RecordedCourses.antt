-- The recorded history records its course.
use Rattle.std.specs.List.{Contains, cons_option, filter}
use Rattle.std.proofs.Common.{Bool, List, None, Option, Some, [], ap, append_assoc, arith, cond, false, inl, inr, ltb-true, map, nat_le, nat_lt, refl, subst, sym, take, true, ℕ, ◌++◌, ◌∙◌, ◌∷◌, ◌≡◌}
use Rattle.std.proofs.lemmas.Bool.{cases_Bool, ne_eqb}
use Rattle.std.proofs.lemmas.List.{append-nil, map-append}
use Rattle.lemmas.proofs.Members.{Contains-cons, Contains-head}
use Rattle.adya_values.specs.Computing.Shapes.{numbers_rise}
use Rattle.adya_values.specs.Meaning.Events.{shown, visible}
use Rattle.adya_values.specs.Meaning.Histories.{Content, Dead, Entry, Event, FinalPair, Live}
use Rattle.adya_keys.specs.Meaning.Keys.{key_lt}
use Rattle.adya_values.specs.Meaning.Serial.{visible_pair_of, visible_pairs}
use Rattle.ssi_versions.specs.Meaning.Changes.{held_count, key_count}
use Rattle.ssi_conflict.specs.Meaning.Calls.{Call}
use Rattle.ssi_conflict.specs.Meaning.Kept.{kept_count, open_count}
use Rattle.ssi_snapshot.specs.Meaning.Reached.{reached}
use Rattle.ssi_store.specs.Meaning.Acts.{Act, Act as Do, act_by, acts, is_open, operations}
use Rattle.ssi_store.specs.Meaning.Courses.{Aborted, Answer, Begun, Busy, Command, Command as Go, Committed, Conflict, Counts, Course, Done, Idle, Kept, Long, Memory, New, Range, Refusal, Refused, Rows, Spent, Then, Unsafe, next_txn, txn_for}
use Rattle.ssi_store.specs.Clauses.Following.{is_proper, Follows}
use Rattle.ssi_store.specs.Meaning.Faces.{Face, Face as Seen, face_by, face_of, faces}
use Rattle.ssi_store.specs.Meaning.Recording.{events, get_event, get_found, recorded}
use Rattle.ssi_store.specs.Clauses.Finished.{close}
use Rattle.ssi_store.specs.Meaning.Replies.{conflict, got, last_writer, reply_for, reply_idle, reply_in, rows, unless_conflict, unless_downward, unless_long, unless_pivot}
use Rattle.ssi_store.specs.Meaning.Seeing.{changed, sees}
use Rattle.ssi_store.specs.Meaning.Tracked.{tracked}
use Rattle.ssi_store.proofs.ReachedKeys.{limited_rows}
use Rattle.ssi_store.proofs.Recorded.{versions}
use Rattle.adya_values.proofs.RisingNumbers.{number_below, numbers_rise-tail}
use Rattle.ssi_store.proofs.SeenByEvents.{sees_is}

-- what is recorded of the acts of one step shows the face of the step
abbrev Shows : Option ℕ → Command → Answer → List Act → Type 0
Shows o m a log = map face_of (events (act_by o m a ++ log)) ≡ map face_of (events log) ++ face_by o m a

one_more : (a : Act) (log : List Act) (e : Event) (f : Face) → recorded a log ≡ e ∷ [] → face_of e ≡ f
    → map face_of (events (a ∷ log)) ≡ map face_of (events log) ++ f ∷ []
one_more a log e f r g =
    ap (λ l. map face_of (events log ++ l)) r
    ∙ (map-append face_of (events log) (e ∷ []) ∙ ap (λ x. map face_of (events log) ++ x ∷ []) g)

nothing_more : (o : Option ℕ) (m : Command) (a : Answer) (log : List Act) → act_by o m a ≡ []
    → face_by o m a ≡ [] → Shows o m a log
nothing_more o m a log e f = ap (λ l. map face_of (events (l ++ log))) e
    ∙ sym (ap (λ l. map face_of (events log) ++ l) f ∙ append-nil (map face_of (events log)))

get_face : (t : ℕ) (s k : List ℕ) (log : List Act) (v : Option Entry)
    → ((w : Entry) → v ≡ Some w → w.version.key ≡ k) → sees t k log ≡ v
    → Shows (Some t) (Go.Get s k) (got (shown v)) log
get_face t s k log None key e = one_more (Do.Gets t k) log _ (Seen.Listed t k k [])
    (ap (λ v. get_event t k v ∷ []) e) refl
get_face t s k log (Some w) key e = by_content w.content refl
  where
    by_content : (c : Content) → w.content ≡ c → Shows (Some t) (Go.Get s k) (got (visible c)) log
    by_content (Live v) f = one_more (Do.Gets t k) log (get_found t k w (Live v)) (Seen.Got t k v)
        (ap (λ x. get_event t k x ∷ []) e ∙ ap (λ c. get_found t k w c ∷ []) f)
        (ap (λ j. Seen.Got t j v) (key w refl))
    by_content Dead f = one_more (Do.Gets t k) log (get_found t k w Dead) (Seen.Listed t k k [])
        (ap (λ x. get_event t k x ∷ []) e ∙ ap (λ c. get_found t k w c ∷ []) f) (ap (λ r. Seen.Listed t k k r) dead)
      where
        dead : visible_pairs (w ∷ []) ≡ []
        dead = ap (λ c. cons_option (visible_pair_of w.version.key (visible c)) []) f

shows_end : (t : ℕ) (m : Command) (a : Answer) (log : List Act) → act_by (Some t) m a ≡ Do.Aborts t ∷ []
    → face_by (Some t) m a ≡ Seen.Aborts t ∷ [] → Shows (Some t) m a log
shows_end t m a log e f =
    ap (λ l. map face_of (events (l ++ log))) e
    ∙ (one_more (Do.Aborts t) log (Event.Abort t) (Seen.Aborts t) refl refl
    ∙ ap (λ l. map face_of (events log) ++ l) (sym f))

shows_either : (o : Option ℕ) (m : Command) (b : Bool) (x y : Answer) (log : List Act) → Shows o m x log
    → Shows o m y log → Shows o m (cond b x y) log
shows_either o m true x y log h i = h
shows_either o m false x y log h i = i

shows_judged : (t : ℕ) (m : Command) (p : Option ℕ) (a : Answer) (log : List Act) → Shows (Some t) m a log
    → ((q : ℕ) → Shows (Some t) m (Unsafe q) log) → Shows (Some t) m (unless_pivot p a) log
shows_judged t m None a log h i = h
shows_judged t m (Some q) a log h i = i q

shows_commit : (t : ℕ) (s : List ℕ) (k : Option (List ℕ)) (p : Option ℕ) (log : List Act)
    → Shows (Some t) (Go.Commit s) (unless_conflict k log (unless_pivot p Committed)) log
shows_commit t s (Some k) p log = shows_end t (Go.Commit s) (Conflict k (last_writer k log)) log refl refl
shows_commit t s None (Some p) log = shows_end t (Go.Commit s) (Unsafe p) log refl refl
shows_commit t s None None log = one_more (Do.Commits t) log (Event.Commit t) (Seen.Commits t) refl refl

-- a refused command shows nothing
shows_refused : (o : Option ℕ) (m : Command) (x : Refusal) (log : List Act) → Shows o m (Refused x) log
shows_refused None m x log = nothing_more None m (Refused x) log refl refl
shows_refused (Some t) (Go.Begin s) x log = nothing_more (Some t) (Go.Begin s) (Refused x) log refl refl
shows_refused (Some t) (Go.Get s k) x log = nothing_more (Some t) (Go.Get s k) (Refused x) log refl refl
shows_refused (Some t) (Go.Put s k v) x log = nothing_more (Some t) (Go.Put s k v) (Refused x) log refl refl
shows_refused (Some t) (Go.Del s k) x log = nothing_more (Some t) (Go.Del s k) (Refused x) log refl refl
shows_refused (Some t) (Go.Scan s low high) x log = nothing_more (Some t) (Go.Scan s low high)
    (Refused x) log refl refl
shows_refused (Some t) (Go.ScanFirst s low high n) x log = nothing_more (Some t) (Go.ScanFirst s low high n)
    (Refused x) log refl refl
shows_refused (Some t) (Go.Commit s) x log = nothing_more (Some t) (Go.Commit s) (Refused x) log refl refl
shows_refused (Some t) (Go.Abort s) x log = nothing_more (Some t) (Go.Abort s) (Refused x) log refl refl
shows_refused (Some t) Go.Collect x log = nothing_more (Some t) Go.Collect (Refused x) log refl refl
shows_refused (Some t) Go.Stat x log = nothing_more (Some t) Go.Stat (Refused x) log refl refl

-- so do a collection and a count
shows_collected : (o : Option ℕ) (n : ℕ) (log : List Act) → Shows o Go.Collect (Kept n) log
shows_collected None n log = ap (map face_of) (append-nil (events log)) ∙ sym (append-nil (map face_of (events log)))
shows_collected (Some t) n log = ap (map face_of) (append-nil (events log))
    ∙ sym (append-nil (map face_of (events log)))

shows_counted : (o : Option ℕ) (n kept versions keys : ℕ) (log : List Act)
    → Shows o Go.Stat (Counts n kept versions keys) log
shows_counted None n kept versions keys log = nothing_more None Go.Stat
    (Counts n kept versions keys) log refl refl
shows_counted (Some t) n kept versions keys log = nothing_more (Some t) Go.Stat
    (Counts n kept versions keys) log refl refl

shows_idle : (c : Course) (m : Command) → Shows None m (reply_idle c m) (acts c)
shows_idle c (Go.Begin s) =
    shows_either None (Go.Begin s) (nat_lt 4294967295 (next_txn c)) (Refused Spent) (Begun (next_txn c)) (acts c)
    (shows_refused None (Go.Begin s) Spent (acts c))
    (ap (map face_of) (append-nil (events (acts c))) ∙ sym (append-nil (map face_of (events (acts c)))))
shows_idle c (Go.Get s k) = shows_refused None (Go.Get s k) Idle (acts c)
shows_idle c (Go.Put s k v) = shows_refused None (Go.Put s k v) Idle (acts c)
shows_idle c (Go.Del s k) = shows_refused None (Go.Del s k) Idle (acts c)
shows_idle c (Go.Scan s low high) = shows_refused None (Go.Scan s low high) Idle (acts c)
shows_idle c (Go.ScanFirst s low high n) = shows_refused None (Go.ScanFirst s low high n) Idle (acts c)
shows_idle c (Go.Commit s) = shows_refused None (Go.Commit s) Idle (acts c)
shows_idle c (Go.Abort s) = shows_refused None (Go.Abort s) Idle (acts c)
shows_idle c Go.Collect = shows_collected None (held_count (changed (Do.Collects ∷ acts c))) (acts c)
shows_idle c Go.Stat = shows_counted None (open_count (tracked (acts c))) (kept_count (tracked (acts c)))
    (held_count (changed (acts c))) (key_count (changed (acts c))) (acts c)

module _ (pivot : List Call → Option ℕ) where
  shows_long : (t : ℕ) (m : Command) (a : Answer) (log : List Act) → Shows (Some t) m a log
      → Shows (Some t) m (unless_long t log a) log
  shows_long t m a log h = shows_either (Some t) m (nat_le 65535 (operations t log)) (Refused Long) a log
      (shows_refused (Some t) m Long log) h

  shows_downward : (t : ℕ) (low high : List ℕ) (m : Command) (a : Answer) (log : List Act) → Shows (Some t) m a log
      → Shows (Some t) m (unless_downward low high a) log
  shows_downward t low high m a log h = shows_either (Some t) m (key_lt high low) (Refused Range) a log
      (shows_refused (Some t) m Range log) h

  shows_in : (t : ℕ) (m : Command) (log : List Act) → is_proper m ≡ true
      → Shows (Some t) m (reply_in pivot t log m) log
  shows_in t (Go.Begin s) log p = shows_refused (Some t) (Go.Begin s) Busy log
  shows_in t (Go.Get s k) log p =
      shows_long t (Go.Get s k) _ log
      (shows_judged t (Go.Get s k) (pivot (tracked (Do.Gets t k ∷ log))) (got (shown (sees t k log))) log
      (get_face t s k log (sees t k log) (λ w e. (sees_is t k log w e).0) refl)
      (λ q. shows_end t (Go.Get s k) (Unsafe q) log refl refl))
  shows_in t (Go.Put s k v) log p = shows_long t (Go.Put s k v) Done log
      (one_more (Do.Writes t k (Live v)) log _ (Seen.Wrote t k (Live v)) refl refl)
  shows_in t (Go.Del s k) log p = shows_long t (Go.Del s k) Done log
      (one_more (Do.Writes t k Dead) log _ (Seen.Wrote t k Dead) refl refl)
  shows_in t (Go.Scan s low high) log p =
      shows_downward t low high (Go.Scan s low high) _ log
      (shows_long t (Go.Scan s low high) _ log
      (shows_judged t (Go.Scan s low high) (pivot (tracked (Do.Scans t low high ∷ log)))
      (Rows (rows t low high log)) log
      (one_more (Do.Scans t low high) log _ (Seen.Listed t low high (rows t low high log)) refl refl)
      (λ q. shows_end t (Go.Scan s low high) (Unsafe q) log refl refl)))
  shows_in t (Go.ScanFirst s low high n) log p =
      let found : List FinalPair = take n (rows t low high log) in
      shows_downward t low high (Go.ScanFirst s low high n) _ log
      (shows_long t (Go.ScanFirst s low high n) _ log
      (shows_judged t (Go.ScanFirst s low high n)
      (pivot (tracked (Do.Scans t low (reached high n (take n (rows t low high log))) ∷ log)))
      (Rows (take n (rows t low high log))) log
      (one_more (Do.Scans t low (reached high n (take n (rows t low high log)))) log _
      (Seen.Listed t low (reached high n (take n (rows t low high log))) (take n (rows t low high log))) refl
      (ap (Seen.Listed t low (reached high n (take n (rows t low high log))))
      (limited_rows t low high n log (ltb-true 0 n p))))
      (λ q. shows_end t (Go.ScanFirst s low high n) (Unsafe q) log refl refl)))
  shows_in t (Go.Commit s) log p = shows_commit t s (conflict t log) (pivot (tracked (Do.Commits t ∷ log))) log
  shows_in t (Go.Abort s) log p = shows_end t (Go.Abort s) Aborted log refl refl
  shows_in t Go.Collect log p = shows_collected (Some t) (held_count (changed (Do.Collects ∷ log))) log
  shows_in t Go.Stat log p = shows_counted (Some t) (open_count (tracked log)) (kept_count (tracked log))
      (held_count (changed log)) (key_count (changed log)) log

  shows_reply : (c : Course) (m : Command) (o : Option ℕ) → is_proper m ≡ true
      → Shows o m (reply_for pivot o c m) (acts c)
  shows_reply c m None p = shows_idle c m
  shows_reply c m (Some t) p = shows_in t m (acts c) p

  pub faces_are : (c : Course) → Follows pivot c → map face_of (events (acts c)) ≡ faces c
  faces_are (New first) f = refl
  faces_are (Then c m a) f =
      (elim f.1 [
        | inl is ↦ subst (λ x. Shows (txn_for m c) m x (acts c)) (sym is) (shows_reply c m (txn_for m c) f.0)
        | inr memory ↦ subst (λ x. Shows (txn_for m c) m x (acts c)) (sym memory.0)
            (shows_refused (txn_for m c) m Memory (acts c))
      ]) ∙
      ap (λ l. l ++ face_by (txn_for m c) m a) (faces_are c f.2)

filter_same : (f g : ℕ → Bool) (xs : List ℕ) → ((x : ℕ) → Contains xs x → f x ≡ g x) → filter f xs ≡ filter g xs
filter_same f g [] h = refl
filter_same f g (x ∷ xs) h =
    ap (λ b. cond b (x ∷ filter f xs) (filter f xs)) (h x (Contains-head x xs)) ∙
    ap (λ l. cond (g x) (x ∷ l) l) (filter_same f g xs (λ y c. h y (Contains-cons x xs y c)))

pub close_faces : (ts : List ℕ) (log : List Act) → numbers_rise ts ≡ true
    → map face_of (events (close ts log)) ≡ map face_of (events log) ++ map Seen.Aborts
    (filter (λ t. is_open t log) ts)
close_faces [] log r = sym (append-nil (map face_of (events log)))
close_faces (t ∷ ts) log r =
    elim (cases_Bool (is_open t log)) [
      | inl holds ↦
          let others = filter_same (λ u. is_open u (Do.Aborts t ∷ log)) (λ u. is_open u log) ts
          (λ u c. rw (ne_eqb t u (λ s. let less = number_below t ts u r c in omega (arith, s, less))) refl) in
          let one = one_more (Do.Aborts t) log (Event.Abort t) (Seen.Aborts t) refl refl in
          ap (λ b. map face_of (events (close ts (cond b (Do.Aborts t ∷ log) log)))) holds ∙
          (close_faces ts (Do.Aborts t ∷ log) (numbers_rise-tail t ts r) ∙
          (ap (λ l. l ++ map Seen.Aborts (filter (λ u. is_open u (Do.Aborts t ∷ log)) ts)) one ∙
          (append_assoc (map face_of (events log)) (Seen.Aborts t ∷ [])
          (map Seen.Aborts (filter (λ u. is_open u (Do.Aborts t ∷ log)) ts)) ∙
          (ap (λ l. map face_of (events log) ++ Seen.Aborts t ∷ map Seen.Aborts l) others ∙
          ap (λ b. map face_of (events log) ++ map Seen.Aborts
          (cond b (t ∷ filter (λ u. is_open u log) ts) (filter (λ u. is_open u log) ts))) (sym holds)))))
      | inr fails ↦
          ap (λ b. map face_of (events (close ts (cond b (Do.Aborts t ∷ log) log)))) fails ∙
          (close_faces ts log (numbers_rise-tail t ts r) ∙
          ap (λ b. map face_of (events log) ++ map Seen.Aborts
          (cond b (t ∷ filter (λ u. is_open u log) ts) (filter (λ u. is_open u log) ts))) (sym fails))
    ]
