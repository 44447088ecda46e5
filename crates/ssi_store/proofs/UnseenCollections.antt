-- Collections change no reply but those of collect and stat.
use Rattle.std.specs.List.{filter_map, find}
use Rattle.std.proofs.Common.{List, None, Option, Some, [], ap, cond, false, if◌then◌else◌, is_some, nat_le, nat_lt, not, refl, suc, take, ℕ, ◌&&◌, ◌++◌, ◌==◌, ◌||◌, ◌∙◌, ◌∷◌, ◌≡◌}
use Rattle.lemmas.proofs.Finds.{find_agree}
use Rattle.adya_values.specs.Meaning.Events.{entry, listed, shown, version}
use Rattle.adya_values.specs.Meaning.Histories.{FinalPair}
use Rattle.adya_values.specs.Meaning.KeySets.{insert}
use Rattle.adya_keys.specs.Meaning.Keys.{key_eq, lies_in}
use Rattle.adya_values.specs.Meaning.Serial.{visible_pairs}
use Rattle.ssi_versions.specs.Meaning.Changes.{contents, entry_in, is_installed_above, last_version, otherwise, stamped}
use Rattle.ssi_conflict.specs.Meaning.Calls.{Aborts as Drops, Begins as Enters, Call, Commits as Ends, Reads}
use Rattle.ssi_snapshot.specs.Meaning.Reached.{reached}
use Rattle.ssi_store.specs.Meaning.Acts.{Aborts, Act, Collects, Commits, Gets, Scans, Begins, Writes, operations}
use Rattle.ssi_store.specs.Meaning.Courses.{Answer, Command, Command as Do, Committed, Long, Refused, Rows}
use Rattle.ssi_store.specs.Laws.{is_count, uncollected}
use Rattle.ssi_store.specs.Meaning.Replies.{conflict, got, is_overtaken, reply_in, rows, scan_answer, unless_conflict, unless_downward, unless_long, unless_pivot, writer_in}
use Rattle.ssi_store.specs.Meaning.Seeing.{changed, commit_count, keys, last_writes, own_keys, own_write, sees, snapshot, write_count, wrote}
use Rattle.ssi_store.specs.Meaning.Tracked.{tracked}
use Rattle.ssi_store.proofs.Lists.{filter_map_same}

operations_same : (t : ℕ) (log : List Act) → operations t (uncollected log) ≡ operations t log
operations_same t [] = refl
operations_same t (Begins u ∷ log) = operations_same t log
operations_same t (Writes u j c ∷ log) = ap (λ n. cond (u == t) (suc n) n) (operations_same t log)
operations_same t (Gets u j ∷ log) = ap (λ n. cond (u == t) (suc n) n) (operations_same t log)
operations_same t (Scans u low high ∷ log) = ap (λ n. cond (u == t) (suc n) n) (operations_same t log)
operations_same t (Commits u ∷ log) = operations_same t log
operations_same t (Aborts u ∷ log) = operations_same t log
operations_same t (Collects ∷ log) = operations_same t log

pub commits_same : (log : List Act) → commit_count (uncollected log) ≡ commit_count log
commits_same [] = refl
commits_same (Begins u ∷ log) = commits_same log
commits_same (Writes u j c ∷ log) = commits_same log
commits_same (Gets u j ∷ log) = commits_same log
commits_same (Scans u low high ∷ log) = commits_same log
commits_same (Commits u ∷ log) = ap suc (commits_same log)
commits_same (Aborts u ∷ log) = commits_same log
commits_same (Collects ∷ log) = commits_same log

snapshot_same : (t : ℕ) (log : List Act) → snapshot t (uncollected log) ≡ snapshot t log
snapshot_same t [] = refl
snapshot_same t (Begins u ∷ log) = ap (λ n. cond (u == t) n (snapshot t (uncollected log))) (commits_same log)
    ∙ ap (cond (u == t) (commit_count log)) (snapshot_same t log)
snapshot_same t (Writes u j c ∷ log) = snapshot_same t log
snapshot_same t (Gets u j ∷ log) = snapshot_same t log
snapshot_same t (Scans u low high ∷ log) = snapshot_same t log
snapshot_same t (Commits u ∷ log) = snapshot_same t log
snapshot_same t (Aborts u ∷ log) = snapshot_same t log
snapshot_same t (Collects ∷ log) = snapshot_same t log

count_same_writes : (t : ℕ) (k : List ℕ) (log : List Act)
    → write_count t k (uncollected log) ≡ write_count t k log
count_same_writes t k [] = refl
count_same_writes t k (Begins u ∷ log) = count_same_writes t k log
count_same_writes t k (Writes u j c ∷ log) = ap (λ n. cond (u == t && key_eq j k) (suc n) n)
    (count_same_writes t k log)
count_same_writes t k (Gets u j ∷ log) = count_same_writes t k log
count_same_writes t k (Scans u low high ∷ log) = count_same_writes t k log
count_same_writes t k (Commits u ∷ log) = count_same_writes t k log
count_same_writes t k (Aborts u ∷ log) = count_same_writes t k log
count_same_writes t k (Collects ∷ log) = count_same_writes t k log

own_same : (t : ℕ) (k : List ℕ) (log : List Act) → own_write t k (uncollected log) ≡ own_write t k log
own_same t k [] = refl
own_same t k (Begins u ∷ log) = own_same t k log
own_same t k (Writes u j c ∷ log) = ap
    (λ n. cond (u == t && key_eq j k) (Some (entry (version k t (suc n)) c)) (own_write t k (uncollected log)))
    (count_same_writes t k log) ∙ ap
    (cond (u == t && key_eq j k) (Some (entry (version k t (suc (write_count t k log))) c))) (own_same t k log)
own_same t k (Gets u j ∷ log) = own_same t k log
own_same t k (Scans u low high ∷ log) = own_same t k log
own_same t k (Commits u ∷ log) = own_same t k log
own_same t k (Aborts u ∷ log) = own_same t k log
own_same t k (Collects ∷ log) = own_same t k log

own_keys_same : (t : ℕ) (log : List Act) → own_keys t (uncollected log) ≡ own_keys t log
own_keys_same t [] = refl
own_keys_same t (Begins u ∷ log) = own_keys_same t log
own_keys_same t (Writes u j c ∷ log) = ap
    (λ o. cond (u == t && not (is_some o)) (own_keys t (uncollected log) ++ j ∷ []) (own_keys t (uncollected log)))
    (own_same t j log) ∙ ap (λ l. cond (u == t && not (wrote t j log)) (l ++ j ∷ []) l) (own_keys_same t log)
own_keys_same t (Gets u j ∷ log) = own_keys_same t log
own_keys_same t (Scans u low high ∷ log) = own_keys_same t log
own_keys_same t (Commits u ∷ log) = own_keys_same t log
own_keys_same t (Aborts u ∷ log) = own_keys_same t log
own_keys_same t (Collects ∷ log) = own_keys_same t log

keys_same : (log : List Act) → keys (uncollected log) ≡ keys log
keys_same [] = refl
keys_same (Begins u ∷ log) = keys_same log
keys_same (Writes u j c ∷ log) = ap (insert j) (keys_same log)
keys_same (Gets u j ∷ log) = keys_same log
keys_same (Scans u low high ∷ log) = keys_same log
keys_same (Commits u ∷ log) = keys_same log
keys_same (Aborts u ∷ log) = keys_same log
keys_same (Collects ∷ log) = keys_same log

last_writes_same : (t : ℕ) (log : List Act) → last_writes t (uncollected log) ≡ last_writes t log
last_writes_same t log =
    ap (filter_map (λ k. own_write t k (uncollected log))) (own_keys_same t log) ∙
    filter_map_same (λ k. own_write t k (uncollected log)) (λ k. own_write t k log) (own_keys t log)
    (λ k. own_same t k log)

three : {X Y Z W : Type 0} (f : X → Y → Z → W) {x x2 : X} {y y2 : Y} {z z2 : Z} → x ≡ x2 → y ≡ y2 → z ≡ z2
    → f x y z ≡ f x2 y2 z2
three f {x} {x2} {y} {y2} {z} {z2} e g h = ap (λ a. f a y z) e ∙ (ap (λ b. f x2 b z) g ∙ ap (f x2 y2) h)

contents_same : (k : List ℕ) (s : ℕ) (log : List Act)
    → contents k s (changed (uncollected log)) ≡ contents k s (changed log)
contents_same k s [] = refl
contents_same k s (Begins u ∷ log) = contents_same k s log
contents_same k s (Writes u j c ∷ log) = contents_same k s log
contents_same k s (Gets u j ∷ log) = contents_same k s log
contents_same k s (Scans u low high ∷ log) = contents_same k s log
contents_same k s (Commits u ∷ log) = three
    (λ n ws x. cond (nat_le (suc n) s) (otherwise (stamped (suc n) (listed k ws)) x) x) (commits_same log)
    (last_writes_same u log) (contents_same k s log)
contents_same k s (Aborts u ∷ log) = contents_same k s log
contents_same k s (Collects ∷ log) = contents_same k s log

last_same : (k : List ℕ) (log : List Act)
    → last_version k (changed (uncollected log)) ≡ last_version k (changed log)
last_same k [] = refl
last_same k (Begins u ∷ log) = last_same k log
last_same k (Writes u j c ∷ log) = last_same k log
last_same k (Gets u j ∷ log) = last_same k log
last_same k (Scans u low high ∷ log) = last_same k log
last_same k (Commits u ∷ log) = three (λ n ws x. otherwise (stamped (suc n) (listed k ws)) x) (commits_same log)
    (last_writes_same u log) (last_same k log)
last_same k (Aborts u ∷ log) = last_same k log
last_same k (Collects ∷ log) = last_same k log

above_same : (k : List ℕ) (s : ℕ) (log : List Act)
    → is_installed_above k s (changed (uncollected log)) ≡ is_installed_above k s (changed log)
above_same k s [] = refl
above_same k s (Begins u ∷ log) = above_same k s log
above_same k s (Writes u j c ∷ log) = above_same k s log
above_same k s (Gets u j ∷ log) = above_same k s log
above_same k s (Scans u low high ∷ log) = above_same k s log
above_same k s (Commits u ∷ log) = three (λ n ws x. (nat_lt s (suc n) && is_some (listed k ws)) || x)
    (commits_same log) (last_writes_same u log) (above_same k s log)
above_same k s (Aborts u ∷ log) = above_same k s log
above_same k s (Collects ∷ log) = above_same k s log

tracked_same : (log : List Act) → tracked (uncollected log) ≡ tracked log
tracked_same [] = refl
tracked_same (Begins u ∷ log) = ap (λ n. Enters u n ∷ tracked (uncollected log)) (commits_same log)
    ∙ ap (λ l. Enters u (commit_count log) ∷ l) (tracked_same log)
tracked_same (Writes u j c ∷ log) = tracked_same log
tracked_same (Gets u j ∷ log) = ap
    (λ o. cond (is_some o) (tracked (uncollected log)) (Reads u j j ∷ tracked (uncollected log))) (own_same u j log)
    ∙ ap (λ l. cond (wrote u j log) l (Reads u j j ∷ l)) (tracked_same log)
tracked_same (Scans u low high ∷ log) = ap (λ l. Reads u low high ∷ l) (tracked_same log)
tracked_same (Commits u ∷ log) = three (λ n ks l. Ends u (suc n) ks ∷ l) (commits_same log) (own_keys_same u log)
    (tracked_same log)
tracked_same (Aborts u ∷ log) = ap (λ l. Drops u ∷ l) (tracked_same log)
tracked_same (Collects ∷ log) = tracked_same log

sees_same : (t : ℕ) (k : List ℕ) (log : List Act) → sees t k (uncollected log) ≡ sees t k log
sees_same t k log =
    ap (λ o. otherwise o (entry_in (contents k (snapshot t (uncollected log)) (changed (uncollected log)))))
    (own_same t k log) ∙
    (ap (λ n. otherwise (own_write t k log) (entry_in (contents k n (changed (uncollected log)))))
    (snapshot_same t log) ∙
    ap (λ o. otherwise (own_write t k log) (entry_in o)) (contents_same k (snapshot t log) log))

rows_same : (t : ℕ) (low high : List ℕ) (log : List Act) → rows t low high (uncollected log) ≡ rows t low high log
rows_same t low high log =
    ap (λ ks. visible_pairs (filter_map (λ k. if lies_in low high k then sees t k (uncollected log) else None) ks))
    (keys_same log) ∙
    ap visible_pairs (filter_map_same (λ k. if lies_in low high k then sees t k (uncollected log) else None)
    (λ k. if lies_in low high k then sees t k log else None) (keys log)
    (λ k. ap (λ o. cond (lies_in low high k) o None) (sees_same t k log)))

conflict_same : (t : ℕ) (log : List Act) → conflict t (uncollected log) ≡ conflict t log
conflict_same t log =
    ap (find (is_overtaken t (uncollected log))) (keys_same log) ∙
    find_agree (is_overtaken t (uncollected log)) (is_overtaken t log) (keys log) (λ k.
    ap (λ o. is_some o && is_installed_above k (snapshot t (uncollected log)) (changed (uncollected log)))
    (own_same t k log) ∙
    (ap (λ n. wrote t k log && is_installed_above k n (changed (uncollected log))) (snapshot_same t log) ∙
    ap (λ b. wrote t k log && b) (above_same k (snapshot t log) log)))

long_same : (t : ℕ) (log : List Act) (a b : Answer) → a ≡ b
    → unless_long t (uncollected log) a ≡ unless_long t log b
long_same t log a b e = ap (λ n. cond (nat_le 65535 n) (Refused Long) a) (operations_same t log)
    ∙ ap (unless_long t log) e

scan_same : (pivot : List Call → Option ℕ) (t : ℕ) (log : List Act) (low high : List ℕ) (found : List FinalPair)
    → scan_answer pivot t (uncollected log) low high found ≡ scan_answer pivot t log low high found
scan_same pivot t log low high found = ap (λ l. unless_pivot (pivot (Reads t low high ∷ l)) (Rows found))
    (tracked_same log)

conflict_answer_same : (k : Option (List ℕ)) (log : List Act) (a : Answer)
    → unless_conflict k (uncollected log) a ≡ unless_conflict k log a
conflict_answer_same None log a = refl
conflict_answer_same (Some k) log a = ap (λ o. Answer.Conflict k (writer_in o)) (last_same k log)

pub reply_same : (pivot : List Call → Option ℕ) (t : ℕ) (log : List Act) (m : Command) → is_count m ≡ false
    → reply_in pivot t (uncollected log) m ≡ reply_in pivot t log m
reply_same pivot t log (Do.Begin s) e = refl
reply_same pivot t log (Do.Get s k) e =
    long_same t log (unless_pivot (pivot (tracked (Gets t k ∷ uncollected log)))
    (got (shown (sees t k (uncollected log)))))
    (unless_pivot (pivot (tracked (Gets t k ∷ log))) (got (shown (sees t k log))))
    (ap (λ l. unless_pivot (pivot l) (got (shown (sees t k (uncollected log))))) (tracked_same (Gets t k ∷ log)) ∙
    ap (λ o. unless_pivot (pivot (tracked (Gets t k ∷ log))) (got (shown o))) (sees_same t k log))
reply_same pivot t log (Do.Put s k v) e = long_same t log Answer.Done Answer.Done refl
reply_same pivot t log (Do.Del s k) e = long_same t log Answer.Done Answer.Done refl
reply_same pivot t log (Do.Scan s low high) e =
    ap (unless_downward low high) (long_same t log
    (scan_answer pivot t (uncollected log) low high (rows t low high (uncollected log)))
    (scan_answer pivot t log low high (rows t low high log))
    (scan_same pivot t log low high (rows t low high (uncollected log))
    ∙ ap (scan_answer pivot t log low high) (rows_same t low high log)))
reply_same pivot t log (Do.ScanFirst s low high n) e =
    ap (unless_downward low high) (long_same t log
    (scan_answer pivot t (uncollected log) low (reached high n (take n (rows t low high (uncollected log))))
    (take n (rows t low high (uncollected log))))
    (scan_answer pivot t log low (reached high n (take n (rows t low high log))) (take n (rows t low high log)))
    (scan_same pivot t log low (reached high n (take n (rows t low high (uncollected log))))
    (take n (rows t low high (uncollected log))) ∙
    ap (λ rs. scan_answer pivot t log low (reached high n (take n rs)) (take n rs)) (rows_same t low high log)))
reply_same pivot t log (Do.Commit s) e =
    ap (λ k. unless_conflict k (uncollected log)
    (unless_pivot (pivot (tracked (Commits t ∷ uncollected log))) Committed)) (conflict_same t log) ∙
    (conflict_answer_same (conflict t log) log
    (unless_pivot (pivot (tracked (Commits t ∷ uncollected log))) Committed) ∙
    ap (λ l. unless_conflict (conflict t log) log (unless_pivot (pivot l) Committed))
    (tracked_same (Commits t ∷ log)))
reply_same pivot t log (Do.Abort s) e = refl
reply_same pivot t log Do.Collect e = absurd (cc (e))
reply_same pivot t log Do.Stat e = absurd (cc (e))
