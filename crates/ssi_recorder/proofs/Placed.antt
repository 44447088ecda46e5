-- What one more event changes: its write replaces the version at the place of its transaction's commit.
use Rattle.std.proofs.Common.{◌≡◌, ℕ, zero, suc, ◌<◌, ◌+◌, Bool, true, false, cond, ◌&&◌, ◌==◌, nat_eq, if◌then◌else◌, List, [], ◌∷◌, ◌++◌, map, length, get_or, slice_get, Option, Some, None, refl, ◌∙◌, ap, sym, subst, arith, append-nil, position, ◌⊎◌, inl, inr}
use Rattle.std.specs.List.{filter, filter_map, list_any, IsDistinct, cons_option}
use Rattle.std.specs.BTreeMap.{is_at}
use Rattle.std.specs.Ordering.{nat_cmp, is_eq, MatchOrdering}
use Rattle.std.specs.declared.cmp.Ordering.TheVariants.{Less, Equal, Greater}
use Rattle.std.proofs.lemmas.Bool.{or_parts, eqb-true, eq-eqb, ne_eqb, cases_Bool, both_ways, cases_order}
use Rattle.std.proofs.lemmas.Cmp.{ranked}
use Rattle.std.proofs.lemmas.Option.{same_Some, slice_get_within, get_or_from_slice_get, slice_get-get_or}
use Rattle.std.proofs.lemmas.List.Elements.{filter_map-append, filter-append}
use Rattle.std.proofs.lemmas.List.Quantifiers.{position-Some}
use Rattle.std.proofs.lemmas.Map.Keys.{apart_from_distinct}
use Rattle.adya_keys.specs.Meaning.Keys.{key_eq}
use Rattle.std.proofs.Common.{take}
use Rattle.std.proofs.lemmas.List.{take_more, map_push}
use Rattle.adya_values.specs.declared.event.Event.{Event as EventValue}
use Rattle.adya_values.specs.Meaning.Histories.{Entry, Event}
use Rattle.adya_values.specs.Mirror.Events.{event_of}
use Rattle.adya_values.specs.Meaning.Events.{written, last_write, last}
use Rattle.ssi_recorder.specs.Machinery.Lines.{write_by}

-- the last of a list with one element more
last-push : (xs : List Entry) (w : Entry) → last (xs ++ w ∷ []) ≡ Some w
last-push [] w = refl
last-push (x ∷ []) w = refl
last-push (x ∷ y ∷ xs) w = last-push (y ∷ xs) w

-- the last write of the key by the transaction, if this is written after it
abbrev newer : Option Entry → ℕ → List ℕ → Option Entry → Option Entry
newer None t q o = o
newer (Some w) t q o = if w.version.txn == t && key_eq w.version.key q then Some w else o

last_newer : (o : Option Entry) (t : ℕ) (q : List ℕ) (xs : List Entry)
    → last (xs ++ filter (λ w. w.version.txn == t && key_eq w.version.key q) (cons_option o [])) ≡ newer o t q (last xs)
last_newer None t q xs = ap last (append-nil xs)
last_newer (Some w) t q xs =
    elim (w.version.txn == t && key_eq w.version.key q) as (λ b. last (xs ++ cond b (w ∷ []) []) ≡ (if b then Some w else last xs)) [
      | true ↦ last-push xs w
      | false ↦ ap last (append-nil xs)
    ]

-- a transaction's last write after one event more
pub last_write-push : (t : ℕ) (q : List ℕ) (es : List Event) (e : Event) → last_write t q (es ++ e ∷ []) ≡ newer (written e) t q (last_write t q es)
last_write-push t q es e =
    ap (λ ws. last (filter (λ w. w.version.txn == t && key_eq w.version.key q) ws)) (filter_map-append written es (e ∷ []))
    ∙ ap last (filter-append (λ w. w.version.txn == t && key_eq w.version.key q) (filter_map written es) (filter_map written (e ∷ [])))
    ∙ last_newer (written e) t q (filter (λ w. w.version.txn == t && key_eq w.version.key q) (filter_map written es))

-- an event that writes nothing
pub write-none : (o : Option ℕ) (q : List ℕ) (es : List Event) (e : Event) → None ≡ written e → write_by o q es ≡ write_by o q (es ++ e ∷ [])
write-none None q es e none = refl
write-none (Some t) q es e none = ap (λ w. newer w t q (last_write t q es)) none ∙ sym (last_write-push t q es e)

write-apart : (t : ℕ) (q : List ℕ) (es : List Event) (e : Event) (w : Entry) → Some w ≡ written e → nat_eq w.version.txn t ≡ false → last_write t q es ≡ last_write t q (es ++ e ∷ [])
write-apart t q es e w is apart =
    ap (λ b. if b && key_eq w.version.key q then Some w else last_write t q es) (sym apart)
    ∙ ap (λ x. newer x t q (last_write t q es)) is ∙ sym (last_write-push t q es e)

none_at : (x : ℕ) (ts : List ℕ) (r t : ℕ) → list_any (nat_eq x) ts ≡ false → slice_get ts r ≡ Some t → nat_eq x t ≡ false
none_at x [] r t out is = cc
none_at x (s ∷ ts) zero t out is = ap (nat_eq x) (sym (same_Some s t is)) ∙ (or_parts (nat_eq x s) (list_any (nat_eq x) ts) out).0
none_at x (s ∷ ts) (suc r) t out is = none_at x ts r t (or_parts (nat_eq x s) (list_any (nat_eq x) ts) out).1 is

-- a write by a transaction that doesn't commit
pub write-other : (ts : List ℕ) (r : ℕ) (q : List ℕ) (es : List Event) (e : Event) (w : Entry) → Some w ≡ written e → list_any (nat_eq w.version.txn) ts ≡ false
    → write_by (slice_get ts r) q es ≡ write_by (slice_get ts r) q (es ++ e ∷ [])
write-other ts r q es e w is out =
    elim (slice_get ts r) as (λ o. slice_get ts r ≡ o → write_by o q es ≡ write_by o q (es ++ e ∷ [])) [
      | None ↦ λ x. refl
      | Some t ↦ λ x. write-apart t q es e w is (none_at w.version.txn ts r t out x)
    ] refl

pub same_place : (p r : ℕ) → (p ≡ r) → is_at (nat_cmp p) r ≡ true
same_place p r same =
    elim (nat_cmp p r) as (λ o. nat_cmp p r ≡ o → is_eq o ≡ true) [
      | Less ↦ λ e. let m : p < r = subst (λ o. MatchOrdering o (p < r) (p ≡ r) (r < p)) e (ranked p r (nat_cmp p r) refl) in absurd (omega (arith, m, same))
      | Equal ↦ λ e. refl
      | Greater ↦ λ e. let m : r < p = subst (λ o. MatchOrdering o (p < r) (p ≡ r) (r < p)) e (ranked p r (nat_cmp p r) refl) in absurd (omega (arith, m, same))
    ] refl

pub place_same : (p r : ℕ) → is_at (nat_cmp p) r ≡ true → p ≡ r
place_same p r =
    elim (nat_cmp p r) as (λ o. nat_cmp p r ≡ o → is_eq o ≡ true → p ≡ r) [
      | Less ↦ λ e t. cc
      | Equal ↦ λ e t. subst (λ o. MatchOrdering o (p < r) (p ≡ r) (r < p)) e (ranked p r (nat_cmp p r) refl)
      | Greater ↦ λ e t. cc
    ] refl

false_true : {b : Bool} → b ≡ false → b ≡ true → ⊥
false_true f t = both_ways _ f t

below_or_above : (p r : ℕ) → (p ≡ r → ⊥) → (p < r) ⊎ (r < p)
below_or_above p r apart =
    elim (cases_order p r) [
      | inl same ↦ absurd (apart same)
      | inr rest ↦ rest
    ]

other_place : (x : ℕ) (ts : List ℕ) (p r t : ℕ) → IsDistinct nat_eq ts → p < length ts → nat_eq x (get_or ts p 0) ≡ true → (p ≡ r → ⊥) → slice_get ts r ≡ Some t → nat_eq x t ≡ false
other_place x ts p r t distinct within here apart is =
    let r_within : r < length ts = slice_get_within ts r t is in
    let at_r : get_or ts r 0 ≡ t = get_or_from_slice_get ts r t 0 is in
    let at_p : x ≡ get_or ts p 0 = eqb-true x (get_or ts p 0) here in
    ne_eqb x t (λ same.
    elim (below_or_above p r apart) [
      | inl lt ↦ false_true (apart_from_distinct nat_eq ts p r 0 distinct lt r_within) (eq-eqb (get_or ts p 0) (get_or ts r 0) (sym at_p ∙ same ∙ sym at_r))
      | inr gt ↦ false_true (apart_from_distinct nat_eq ts r p 0 distinct gt within) (eq-eqb (get_or ts r 0) (get_or ts p 0) (at_r ∙ sym same ∙ at_p))
    ])

-- a write by the transaction whose commit has this place
pub write-put : (ts : List ℕ) (p r : ℕ) (q : List ℕ) (es : List Event) (e : Event) (w : Entry) → Some w ≡ written e → position (nat_eq w.version.txn) ts ≡ Some p → IsDistinct nat_eq ts
    → (if key_eq w.version.key q && is_at (nat_cmp p) r then Some w else write_by (slice_get ts r) q es) ≡ write_by (slice_get ts r) q (es ++ e ∷ [])
write-put ts p r q es e w is place distinct =
    let f = position-Some (nat_eq w.version.txn) ts p 0 place in
    elim (cases_Bool (is_at (nat_cmp p) r)) [
      | inl t ↦
          let same : p ≡ r = place_same p r t in
          let there : slice_get ts r ≡ Some (get_or ts p 0) = ap (slice_get ts) (sym same) ∙ slice_get-get_or ts p 0 f.0 in
          ap (λ b. if key_eq w.version.key q && b then Some w else write_by (slice_get ts r) q es) t
          ∙ ap (λ o. if key_eq w.version.key q && true then Some w else write_by o q es) there
          ∙ elim (key_eq w.version.key q) as (λ b. (if b && true then Some w else last_write (get_or ts p 0) q es) ≡ (if true && b then Some w else last_write (get_or ts p 0) q es)) [ true ↦ refl | false ↦ refl ]
          ∙ ap (λ b. if b && key_eq w.version.key q then Some w else last_write (get_or ts p 0) q es) (sym f.1)
          ∙ ap (λ x. newer x (get_or ts p 0) q (last_write (get_or ts p 0) q es)) is
          ∙ sym (last_write-push (get_or ts p 0) q es e)
          ∙ ap (λ o. write_by o q (es ++ e ∷ [])) (sym there)
      | inr f' ↦
          ap (λ b. if key_eq w.version.key q && b then Some w else write_by (slice_get ts r) q es) f'
          ∙ elim (key_eq w.version.key q) as (λ b. (if b && false then Some w else write_by (slice_get ts r) q es) ≡ write_by (slice_get ts r) q es) [ true ↦ refl | false ↦ refl ]
          ∙ elim (slice_get ts r) as (λ o. slice_get ts r ≡ o → write_by o q es ≡ write_by o q (es ++ e ∷ [])) [
            | None ↦ λ x. refl
            | Some t ↦ λ x. write-apart t q es e w is (other_place w.version.txn ts p r t distinct f.0 f.1 (λ s. false_true f' (same_place p r s)) x)
          ] refl
    ]

-- one turn of a loop over events
pub event-more : (xs : List EventValue) (i : ℕ) (x : EventValue) → i < length xs → x ≡ get_or xs i x → map event_of (take (i + 1) xs) ≡ map event_of (take i xs) ++ event_of x ∷ []
event-more xs i x h is = ap (map event_of) (take_more xs i x h ∙ ap (λ y. take i xs ++ y ∷ []) (sym is)) ∙ map_push event_of (take i xs) x
