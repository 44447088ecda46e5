-- What running a list of events leaves at a key.
use Rattle.std.proofs.Common.{◌≡◌, ℕ, ◌==◌, ◌&&◌, true, false, cond, List, [], ◌∷◌, ◌++◌, Option, Some, None, refl, ◌∙◌}
use Rattle.adya_values.specs.Meaning.Histories.{Entry}
use Rattle.adya_values.specs.Meaning.Histories.{Live, Dead}
use Rattle.adya_values.specs.Meaning.Histories.{Event}
use Rattle.adya_values.specs.Meaning.Histories.{Write, Delete, Read, Scan, Commit, Abort}
use Rattle.adya_keys.specs.Meaning.Keys.{key_eq}
use Rattle.adya_values.specs.Meaning.Events.{version, entry, writes_of, last, last_write, shown}
use Rattle.adya_values.specs.Meaning.Serial.{Contents, after, run, events_of, AllSee}

-- what a key holds, given its last write if there is one, and what it held before
abbrev pub over : Option Entry → Option (List ℕ) → Option (List ℕ)
over None old = old
over (Some w) old = shown (Some w)

pub over_any : (w : Entry) (ws : List Entry) (x y : Option (List ℕ)) → over (last (w ∷ ws)) x ≡ over (last (w ∷ ws)) y
over_any w [] x y = refl
over_any w (v ∷ ws) x y = over_any v ws x y

pub over_cons : (w : Entry) (ws : List Entry) (x : Option (List ℕ))
    → over (last ws) (shown (Some w)) ≡ over (last (w ∷ ws)) x
over_cons w [] x = refl
over_cons w (v ∷ ws) x = over_any v ws (shown (Some w)) x

pub run_append : (xs ys : List Event) (m : Contents) → run m (xs ++ ys) ≡ run (run m xs) ys
run_append [] ys m = refl
run_append (x ∷ xs) ys m = run_append xs ys (after m x)

pub AllSee-append : (xs ys : List Event) (m : Contents) → AllSee m xs → AllSee (run m xs) ys → AllSee m (xs ++ ys)
AllSee-append [] ys m p q = q
AllSee-append (x ∷ xs) ys m p q = (p.0, AllSee-append xs ys (after m x) p.1 q)

-- after a transaction's events a key holds its last write, or what it held before
pub run_own : (t : ℕ) (k : List ℕ) (es : List Event) (m : Contents)
    → run m (events_of es t) k ≡ over (last_write t k es) (m k)
run_own t k [] m = refl
run_own t k (Write u j n v ∷ es) m =
    let w : Entry = entry (version j u n) (Live v) in
    elim (u == t) as (λ b. run m (cond b (Write u j n v ∷ events_of es t) (events_of es t)) k ≡
    over (last (cond (b && key_eq j k) (w ∷ writes_of t k es) (writes_of t k es))) (m k)) [
      | true ↦ run_own t k es (after m (Write u j n v)) ∙
          (elim (key_eq j k) as (λ b. over (last_write t k es) (cond b (Some v) (m k)) ≡
          over (last (cond b (w ∷ writes_of t k es) (writes_of t k es))) (m k)) [
            | true ↦ over_cons w (writes_of t k es) (m k)
            | false ↦ refl
          ])
      | false ↦ run_own t k es m
    ]
run_own t k (Delete u j n ∷ es) m =
    let w : Entry = entry (version j u n) Dead in
    elim (u == t) as (λ b. run m (cond b (Delete u j n ∷ events_of es t) (events_of es t)) k ≡
    over (last (cond (b && key_eq j k) (w ∷ writes_of t k es) (writes_of t k es))) (m k)) [
      | true ↦ run_own t k es (after m (Delete u j n)) ∙
          (elim (key_eq j k) as (λ b. over (last_write t k es) (cond b None (m k)) ≡
          over (last (cond b (w ∷ writes_of t k es) (writes_of t k es))) (m k)) [
            | true ↦ over_cons w (writes_of t k es) (m k)
            | false ↦ refl
          ])
      | false ↦ run_own t k es m
    ]
run_own t k (Read u r v ∷ es) m =
    elim (u == t) as (λ b. run m (cond b (Read u r v ∷ events_of es t) (events_of es t)) k ≡
    over (last_write t k es) (m k)) [
      | true ↦ run_own t k es m
      | false ↦ run_own t k es m
    ]
run_own t k (Scan u low high l ∷ es) m =
    elim (u == t) as (λ b. run m (cond b (Scan u low high l ∷ events_of es t) (events_of es t)) k ≡
    over (last_write t k es) (m k)) [
      | true ↦ run_own t k es m
      | false ↦ run_own t k es m
    ]
run_own t k (Commit u ∷ es) m =
    elim (u == t) as (λ b. run m (cond b (Commit u ∷ events_of es t) (events_of es t)) k ≡
    over (last_write t k es) (m k)) [
      | true ↦ run_own t k es m
      | false ↦ run_own t k es m
    ]
run_own t k (Abort u ∷ es) m =
    elim (u == t) as (λ b. run m (cond b (Abort u ∷ events_of es t) (events_of es t)) k ≡
    over (last_write t k es) (m k)) [
      | true ↦ run_own t k es m
      | false ↦ run_own t k es m
    ]
