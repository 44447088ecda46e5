-- The reads that a test refuses, event by event.
use Rattle.std.proofs.Common.{◌≡◌, ℕ, suc, ◌+◌, ◌<◌, Bool, true, false, cond, not, ◌&&◌, List, [], ◌∷◌, ◌++◌, length, get_or, Option, Some, map, filter, drop, sym, ◌∙◌, ap, subst, arith}
use Rattle.adya_values.specs.declared.event.Version.{Version}
use Rattle.adya_values.specs.Meaning.Histories.{Entry, Event}
use Rattle.adya_values.specs.Meaning.Events.{txn_of, observed, is_committed}
use Rattle.adya_values.specs.Computing.Faults.{Fault, first, bad_reads}
use Rattle.adya_terms.specs.Machinery.Checks.{IsFirst, refused}
use Rattle.lemmas.proofs.Steps.{drop_step}
use Rattle.adya_values.proofs.Faults.{first_left}
use Rattle.lemmas.proofs.Filters.{filter_nothing}
use Rattle.lemmas.proofs.Steps.{IsTurn}

-- what is kept of a list from an element on, that is kept or not
pub kept_here : {Y : Type 0} (test : Entry → Bool) (view : Y → Entry) (ys : List Y) (i : ℕ) (y : Y) → i < length ys → y ≡ get_or ys i y → test (view y) ≡ true
    → IsFirst (filter test (map view (drop i ys))) (Some (view y).version)
kept_here test view ys i y l at e =
    ap (λ xs. first (map (λ (x : Entry). x.version) (filter test (map view xs)))) (drop_step ys i y l at) ∙
    ap (λ b. first (map (λ (x : Entry). x.version) (cond b (view y ∷ filter test (map view (drop (i + 1) ys))) (filter test (map view (drop (i + 1) ys)))))) e

pub kept_later : {Y : Type 0} (test : Entry → Bool) (view : Y → Entry) (ys : List Y) (i : ℕ) (y : Y) → i < length ys → y ≡ get_or ys i y → test (view y) ≡ false
    → filter test (map view (drop i ys)) ≡ filter test (map view (drop (i + 1) ys))
kept_later test view ys i y l at e =
    ap (λ xs. filter test (map view xs)) (drop_step ys i y l at) ∙
    ap (λ b. cond b (view y ∷ filter test (map view (drop (i + 1) ys))) (filter test (map view (drop (i + 1) ys)))) e

pub committed_refused : (good : Event → Entry → Bool) (all : List Event) (e : Event) (r : Option Version) → is_committed all (txn_of e) ≡ true
    → IsFirst (filter (λ o. not (good e o)) (observed e)) r → IsFirst (refused good all e) r
committed_refused good all e r c h = subst (λ b. IsFirst (filter (λ o. b && not (good e o)) (observed e)) r) (sym c) h

pub none_refused : (good : Event → Entry → Bool) (all : List Event) (e : Event) → is_committed all (txn_of e) ≡ false → refused good all e ≡ []
none_refused good all e c = filter_nothing _ (observed e) (λ o d. ap (λ b. b && not (good e o)) c)

first_map : (f : Version → Fault) (es : List Entry) (v : Version) → first (map (λ (x : Entry). x.version) es) ≡ Some v → first (map (λ (x : Entry). f x.version) es) ≡ Some (f v)
first_map f [] v e = absurd (cc (e))
first_map f (x ∷ es) v e = let same : x.version ≡ v = cc (e) in ap (λ w. Some (f w)) same

bad_from : (good : Event → Entry → Bool) (fault : ℕ → Version → Fault) (all : List Event) (i : ℕ) (e : Event) → IsTurn all i e
    → bad_reads good fault all (2 + i) (drop i all) ≡ map (λ (o : Entry). fault (2 + i) o.version) (refused good all e) ++ bad_reads good fault all (2 + (i + 1)) (drop (i + 1) all)
bad_from good fault all i e t =
    let line : suc (2 + i) ≡ 2 + (i + 1) = omega arith in
    ap (bad_reads good fault all (2 + i)) t.rest ∙
    ap (λ n. map (λ (o : Entry). fault (2 + i) o.version) (refused good all e) ++ bad_reads good fault all n (drop (i + 1) all)) line

pub bad_here : (good : Event → Entry → Bool) (fault : ℕ → Version → Fault) (all : List Event) (i : ℕ) (e : Event) → IsTurn all i e
    → (v : Version) → IsFirst (refused good all e) (Some v) → first (bad_reads good fault all (2 + i) (drop i all)) ≡ Some (fault (2 + i) v)
bad_here good fault all i e t v h =
    ap first (bad_from good fault all i e t) ∙
    first_left (map (λ (o : Entry). fault (2 + i) o.version) (refused good all e)) (bad_reads good fault all (2 + (i + 1)) (drop (i + 1) all)) (fault (2 + i) v)
    (first_map (fault (2 + i)) (refused good all e) v h)

pub bad_later : (good : Event → Entry → Bool) (fault : ℕ → Version → Fault) (all : List Event) (i : ℕ) (e : Event) → IsTurn all i e
    → refused good all e ≡ [] → bad_reads good fault all (2 + i) (drop i all) ≡ bad_reads good fault all (2 + (i + 1)) (drop (i + 1) all)
bad_later good fault all i e t h =
    bad_from good fault all i e t ∙ ap (λ es. map (λ (o : Entry). fault (2 + i) o.version) es ++ bad_reads good fault all (2 + (i + 1)) (drop (i + 1) all)) h
