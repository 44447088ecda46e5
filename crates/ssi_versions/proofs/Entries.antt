-- What one step does to the entries of a map of chains.
use Rattle.std.proofs.Common.{◌≡◌, ℕ, suc, ◌≤◌, ◌+◌, Bool, true, false, cond, ◌&&◌, ◌||◌, if◌then◌else◌, List, [], ◌∷◌, ◌++◌, map, length, None, Some, refl, ◌∙◌, ap, sym, subst, append_assoc, append-nil, arith, IsSomeAnd}
use Rattle.std.specs.List.{list_all, list_any, IsDistinct}
use Rattle.std.specs.Map.{lookup, set_value, keys_of, values_of}
use Rattle.std.specs.Ordering.{nat_cmp, match_ordering, is_eq, eq_by_cmp}
use Rattle.std.specs.declared.cmp.Ordering.TheVariants.{Less, Equal, Greater}
use Rattle.std.specs.BTreeMap.{is_at, insert_entry}
use Rattle.std.specs.List.Sorted.{IsStrictlySortedBy}
use Rattle.std.specs.Cmp.{eq_by_cmp_equiv}
use Rattle.std.specs.Cmp.Lexicographic.{slice_cmp, same_text, nat_list_eq_equiv, nat_list_cmp_total}
use Rattle.std.proofs.lemmas.Bool.{and_parts, and_from, ne_eqb}
use Rattle.std.proofs.lemmas.List.{length-append, map_push}
use Rattle.std.proofs.lemmas.List.Elements.{filter-append}
use Rattle.std.proofs.lemmas.Map.{NonePasses, lookup-none}
use Rattle.std.specs.BTreeMap.Range.{range_contains, entries_between}
use Rattle.std.specs.declared.ops.Bound.TheVariants.{Included}
use Rattle.std.proofs.lemmas.Map.Keys.{IsDistinct-tail, IsDistinct-from_sorted}
use Rattle.std.proofs.lemmas.Map.Entries.{none_past_head}
use Rattle.smallvec.specs.SmallVec.{SmallVec, HasRoomFor}
use Rattle.adya_keys.specs.Meaning.Keys.{key_eq}
use Rattle.std.proofs.Common.{◌==◌}
use Rattle.adya_values.specs.declared.event.Version.{Version}
use Rattle.adya_values.specs.declared.event.Content.{Content}
use Rattle.adya_values.specs.Meaning.Events.{listed}
use Rattle.ssi_versions.specs.Meaning.Changes.{Held, listing, stamped}
use Rattle.ssi_versions.specs.Clauses.Conditions.{AreApart}
use Rattle.ssi_versions.specs.Clauses.ByStamp.{IsByStamp}
use Rattle.ssi_versions.specs.Machinery.Plain.{as_held}
use Rattle.ssi_versions.proofs.ByKey.{installed}
use Rattle.ssi_versions.specs.declared.place.Place.{Place}
use Rattle.ssi_versions.specs.Mirror.{held_of, write_of, is_of, chain_of, key_total}
use Rattle.ssi_versions.specs.Machinery.Keyed.{Chain, placed, held_in, kept_at, held_under, held_at, versions, AreByStamp, StandByStamp, is_owned, is_filled, filled_count, HasRoomAt}
use Rattle.ssi_versions.proofs.Lists.{all-push}
use Rattle.ssi_versions.proofs.Ranges.{tied}

-- what stands at a key, once it is known at another
at_key : (es fs : List Chain) (k q : List ℕ) (w : SmallVec Place) → kept_at q fs ≡ cond (is_at (slice_cmp nat_cmp k) q) (Some w) (kept_at q es)
    → kept_at q fs ≡ cond (key_eq k q) (Some w) (kept_at q es)
at_key es fs k q w gives = gives ∙ ap (λ b. cond b (Some w) (kept_at q es)) (tied k q)

-- one more version at the end of its key's chain
pub put_at : (es fs : List Chain) (h : Place) (q : List ℕ) (v w : SmallVec Place) → kept_at h.held.version.key es ≡ Some v → w.items ≡ v.items ++ h ∷ []
    → kept_at q fs ≡ cond (is_at (slice_cmp nat_cmp h.held.version.key) q) (Some w) (kept_at q es)
    → held_at q fs ≡ held_at q es ++ chain_of q (placed h ∷ [])
put_at es fs h q v w was items gives =
    elim (key_eq h.held.version.key q) as (λ b. key_eq h.held.version.key q ≡ b → kept_at q fs ≡ cond b (Some w) (kept_at q es) → held_at q fs ≡ held_at q es ++ cond b (placed h ∷ []) []) [
      | true ↦ λ p g. ap held_under g ∙ ap (map placed) items ∙ map_push placed v.items h
          ∙ ap (λ o. held_under o ++ placed h ∷ []) (sym (subst (λ x. kept_at x es ≡ Some v) (same_text h.held.version.key q (sym p)) was))
      | false ↦ λ p g. ap held_under g ∙ sym (append-nil (held_at q es))
    ] refl (at_key es fs h.held.version.key q w gives)

-- a chain that has got other room
pub same_at : (es fs : List Chain) (k q : List ℕ) (v w : SmallVec Place) → kept_at k es ≡ Some v → w.items ≡ v.items
    → kept_at q fs ≡ cond (is_at (slice_cmp nat_cmp k) q) (Some w) (kept_at q es)
    → held_at q fs ≡ held_at q es
same_at es fs k q v w was items gives =
    elim (key_eq k q) as (λ b. key_eq k q ≡ b → kept_at q fs ≡ cond b (Some w) (kept_at q es) → held_at q fs ≡ held_at q es) [
      | true ↦ λ p g. ap held_under g ∙ ap (map placed) items ∙ ap held_under (sym (subst (λ x. kept_at x es ≡ Some v) (same_text k q (sym p)) was))
      | false ↦ λ p g. ap held_under g
    ] refl (at_key es fs k q w gives)

-- room stays, where the one chain that changed has no less
pub room_at : (es fs : List Chain) (k q : List ℕ) (v w : SmallVec Place) → kept_at k es ≡ Some v → (HasRoomFor v 1 → HasRoomFor w 1)
    → kept_at q fs ≡ cond (is_at (slice_cmp nat_cmp k) q) (Some w) (kept_at q es)
    → HasRoomAt es q → HasRoomAt fs q
room_at es fs k q v w was more gives room =
    elim (key_eq k q) as (λ b. key_eq k q ≡ b → kept_at q fs ≡ cond b (Some w) (kept_at q es) → IsSomeAnd (kept_at q fs) (λ u. HasRoomFor u 1)) [
      | true ↦ λ p g. subst (λ o. IsSomeAnd o (λ u. HasRoomFor u 1)) (sym g) (more (subst (λ o. IsSomeAnd o (λ u. HasRoomFor u 1)) (subst (λ x. kept_at x es ≡ Some v) (same_text k q (sym p)) was) room))
      | false ↦ λ p g. subst (λ o. IsSomeAnd o (λ u. HasRoomFor u 1)) (sym g) room
    ] refl (at_key es fs k q w gives)

-- room at another key stays
pub room_other : (es fs : List Chain) (k q : List ℕ) (w : SmallVec Place) → key_eq k q ≡ false
    → kept_at q fs ≡ cond (is_at (slice_cmp nat_cmp k) q) (Some w) (kept_at q es)
    → HasRoomAt es q → HasRoomAt fs q
room_other es fs k q w other gives room =
    subst (λ o. IsSomeAnd o (λ u. HasRoomFor u 1)) (sym (at_key es fs k q w gives ∙ ap (λ b. cond b (Some w) (kept_at q es)) other)) room

-- a new chain with no version
pub new_at : (es fs : List Chain) (k q : List ℕ) (w : SmallVec Place) → kept_at k es ≡ None → w.items ≡ []
    → kept_at q fs ≡ cond (is_at (slice_cmp nat_cmp k) q) (Some w) (kept_at q es)
    → held_at q fs ≡ held_at q es
new_at es fs k q w was items gives =
    elim (key_eq k q) as (λ b. key_eq k q ≡ b → kept_at q fs ≡ cond b (Some w) (kept_at q es) → held_at q fs ≡ held_at q es) [
      | true ↦ λ p g. ap held_under g ∙ ap (map placed) items ∙ ap held_under (sym (subst (λ x. kept_at x es ≡ None) (same_text k q (sym p)) was))
      | false ↦ λ p g. ap held_under g
    ] refl (at_key es fs k q w gives)

filled_push : (hs : List Held) (h : Held) → is_filled (hs ++ h ∷ []) ≡ true
filled_push [] h = refl
filled_push (g ∷ hs) h = refl

-- a chain in place of another
module _ (test : List ℕ → Bool) where
  pub versions-same : (es : List Chain) (v w : SmallVec Place) → lookup test es ≡ Some v → w.items ≡ v.items → versions (set_value test es w) ≡ versions es
  versions-same [] v w was items = refl
  versions-same (e ∷ es) v w was items =
      elim (test e.0) as (λ b. cond b (Some e.1) (lookup test es) ≡ Some v → versions (cond b ((e.0, w) ∷ es) (e ∷ set_value test es w)) ≡ held_in e.1 ++ versions es) [
        | true ↦ λ p. ap (λ xs. map placed xs ++ versions es) items ∙ ap (λ o. held_under o ++ versions es) (sym p)
        | false ↦ λ p. ap (λ xs. held_in e.1 ++ xs) (versions-same es v w p items)
      ] was

  pub owned-same : (es : List Chain) (v w : SmallVec Place) → lookup test es ≡ Some v → w.items ≡ v.items → is_owned (set_value test es w) ≡ is_owned es
  owned-same [] v w was items = refl
  owned-same (e ∷ es) v w was items =
      elim (test e.0) as (λ b. cond b (Some e.1) (lookup test es) ≡ Some v → is_owned (cond b ((e.0, w) ∷ es) (e ∷ set_value test es w)) ≡ (list_all (is_of e.0) (held_in e.1) && is_owned es)) [
        | true ↦ λ p. ap (λ xs. list_all (is_of e.0) (map placed xs) && is_owned es) items ∙ ap (λ o. list_all (is_of e.0) (held_under o) && is_owned es) (sym p)
        | false ↦ λ p. ap (λ b. list_all (is_of e.0) (held_in e.1) && b) (owned-same es v w p items)
      ] was

  pub filled-same : (es : List Chain) (v w : SmallVec Place) → lookup test es ≡ Some v → w.items ≡ v.items → filled_count (set_value test es w) ≡ filled_count es
  filled-same [] v w was items = refl
  filled-same (e ∷ es) v w was items =
      elim (test e.0) as (λ b. cond b (Some e.1) (lookup test es) ≡ Some v → filled_count (cond b ((e.0, w) ∷ es) (e ∷ set_value test es w)) ≡ filled_count (e ∷ es)) [
        | true ↦ λ p. ap (λ xs. if is_filled (map placed xs) then suc (filled_count es) else filled_count es) items
            ∙ ap (λ o. if is_filled (held_under o) then suc (filled_count es) else filled_count es) (sym p)
        | false ↦ λ p. ap (λ n. if is_filled (held_in e.1) then suc n else n) (filled-same es v w p items)
      ] was

  pub count-put : (es : List Chain) (h : Place) (v w : SmallVec Place) → lookup test es ≡ Some v → w.items ≡ v.items ++ h ∷ [] → length (versions (set_value test es w)) ≡ length (versions es) + 1
  count-put [] h v w was items = cc
  count-put (e ∷ es) h v w was items =
      elim (test e.0) as (λ b. cond b (Some e.1) (lookup test es) ≡ Some v → length (versions (cond b ((e.0, w) ∷ es) (e ∷ set_value test es w))) ≡ length (held_in e.1 ++ versions es) + 1) [
        | true ↦ λ p.
            let old : held_in e.1 ≡ held_in v = ap held_under p in
            let n : length (held_in w) ≡ length (held_in v) + 1 = ap length (ap (map placed) items ∙ map_push placed v.items h) ∙ length-append (held_in v) (placed h ∷ []) in
            omega (arith, length-append (held_in w) (versions es), length-append (held_in e.1) (versions es), n, ap length old)
        | false ↦ λ p. omega (arith, length-append (held_in e.1) (versions (set_value test es w)), length-append (held_in e.1) (versions es), count-put es h v w p items)
      ] was

  pub filled-put : (es : List Chain) (h : Place) (v w : SmallVec Place) → lookup test es ≡ Some v → w.items ≡ v.items ++ h ∷ []
      → filled_count (set_value test es w) ≡ filled_count es + (if is_filled (held_in v) then 0 else 1)
  filled-put [] h v w was items = cc
  filled-put (e ∷ es) h v w was items =
      elim (test e.0) as (λ b. cond b (Some e.1) (lookup test es) ≡ Some v → filled_count (cond b ((e.0, w) ∷ es) (e ∷ set_value test es w)) ≡ filled_count (e ∷ es) + (if is_filled (held_in v) then 0 else 1)) [
        | true ↦ λ p.
            let old : held_in e.1 ≡ held_in v = ap held_under p in
            let new : is_filled (held_in w) ≡ true = ap (λ xs. is_filled (map placed xs)) items ∙ ap is_filled (map_push placed v.items h) ∙ filled_push (held_in v) (placed h) in
            ap (λ b. if b then suc (filled_count es) else filled_count es) new
            ∙ elim (is_filled (held_in v)) as (λ b. suc (filled_count es) ≡ (if b then suc (filled_count es) else filled_count es) + (if b then 0 else 1)) [
              | true ↦ omega arith
              | false ↦ omega arith
            ]
            ∙ ap (λ hs. (if is_filled hs then suc (filled_count es) else filled_count es) + (if is_filled (held_in v) then 0 else 1)) (sym old)
        | false ↦ λ p.
            let again = filled-put es h v w p items in
            elim (is_filled (held_in e.1)) as (λ b. (if b then suc (filled_count (set_value test es w)) else filled_count (set_value test es w))
            ≡ (if b then suc (filled_count es) else filled_count es) + (if is_filled (held_in v) then 0 else 1)) [
              | true ↦ omega (arith, again)
              | false ↦ again
            ]
      ] was

pub owned-put : (es : List Chain) (h : Place) (v w : SmallVec Place) → kept_at h.held.version.key es ≡ Some v → w.items ≡ v.items ++ h ∷ []
    → is_owned es ≡ true → is_owned (set_value (is_at (slice_cmp nat_cmp h.held.version.key)) es w) ≡ true
owned-put [] h v w was items owned = refl
owned-put (e ∷ es) h v w was items owned =
    let o = and_parts (list_all (is_of e.0) (held_in e.1)) (is_owned es) owned in
    elim (is_at (slice_cmp nat_cmp h.held.version.key) e.0) as (λ b. is_at (slice_cmp nat_cmp h.held.version.key) e.0 ≡ b → cond b (Some e.1) (kept_at h.held.version.key es) ≡ Some v
    → is_owned (cond b ((e.0, w) ∷ es) (e ∷ set_value (is_at (slice_cmp nat_cmp h.held.version.key)) es w)) ≡ true) [
      | true ↦ λ t p. and_from (list_all (is_of e.0) (held_in w)) (is_owned es)
          (ap (λ xs. list_all (is_of e.0) (map placed xs)) items ∙ ap (list_all (is_of e.0)) (map_push placed v.items h) ∙ ap (λ u. list_all (is_of e.0) (held_under u ++ placed h ∷ [])) (sym p)
          ∙ all-push (is_of e.0) (held_in e.1) (placed h) o.0 (sym (tied h.held.version.key e.0) ∙ t)) o.1
      | false ↦ λ t p. and_from (list_all (is_of e.0) (held_in e.1)) (is_owned (set_value (is_at (slice_cmp nat_cmp h.held.version.key)) es w)) o.0 (owned-put es h v w p items o.1)
    ] refl was

-- an empty chain holds no version
module _ (k : List ℕ) where
  pub versions-insert : (es : List Chain) (w : SmallVec Place) → kept_at k es ≡ None → w.items ≡ [] → versions (insert_entry (slice_cmp nat_cmp) es k w) ≡ versions es
  versions-insert [] w was items = ap (λ xs. map placed xs ++ []) items
  versions-insert (e ∷ es) w was items =
      elim (slice_cmp nat_cmp k e.0) as (λ r. cond (is_eq r) (Some e.1) (kept_at k es) ≡ None → versions (match_ordering r ((k, w) ∷ e ∷ es) ((e.0, w) ∷ es) (e ∷ insert_entry (slice_cmp nat_cmp) es k w)) ≡ held_in e.1 ++ versions es) [
        | Less ↦ λ p. ap (λ xs. map placed xs ++ (held_in e.1 ++ versions es)) items
        | Equal ↦ λ p. cc
        | Greater ↦ λ p. ap (λ xs. held_in e.1 ++ xs) (versions-insert es w p items)
      ] was

  pub owned-insert : (es : List Chain) (w : SmallVec Place) → kept_at k es ≡ None → w.items ≡ [] → is_owned (insert_entry (slice_cmp nat_cmp) es k w) ≡ is_owned es
  owned-insert [] w was items = ap (λ xs. list_all (is_of k) (map placed xs) && true) items
  owned-insert (e ∷ es) w was items =
      elim (slice_cmp nat_cmp k e.0) as (λ r. cond (is_eq r) (Some e.1) (kept_at k es) ≡ None → is_owned (match_ordering r ((k, w) ∷ e ∷ es) ((e.0, w) ∷ es) (e ∷ insert_entry (slice_cmp nat_cmp) es k w)) ≡ (list_all (is_of e.0) (held_in e.1) && is_owned es)) [
        | Less ↦ λ p. ap (λ xs. list_all (is_of k) (map placed xs) && (list_all (is_of e.0) (held_in e.1) && is_owned es)) items
        | Equal ↦ λ p. cc
        | Greater ↦ λ p. ap (λ b. list_all (is_of e.0) (held_in e.1) && b) (owned-insert es w p items)
      ] was

  pub filled-insert : (es : List Chain) (w : SmallVec Place) → kept_at k es ≡ None → w.items ≡ [] → filled_count (insert_entry (slice_cmp nat_cmp) es k w) ≡ filled_count es
  filled-insert [] w was items = ap (λ xs. if is_filled (map placed xs) then 1 else 0) items
  filled-insert (e ∷ es) w was items =
      elim (slice_cmp nat_cmp k e.0) as (λ r. cond (is_eq r) (Some e.1) (kept_at k es) ≡ None → filled_count (match_ordering r ((k, w) ∷ e ∷ es) ((e.0, w) ∷ es) (e ∷ insert_entry (slice_cmp nat_cmp) es k w)) ≡ filled_count (e ∷ es)) [
        | Less ↦ λ p. ap (λ xs. if is_filled (map placed xs) then suc (filled_count (e ∷ es)) else filled_count (e ∷ es)) items
        | Equal ↦ λ p. cc
        | Greater ↦ λ p. ap (λ n. if is_filled (held_in e.1) then suc n else n) (filled-insert es w p items)
      ] was

pub filled_within : (es : List Chain) → filled_count es ≤ length es
filled_within [] = omega arith
filled_within (e ∷ es) =
    elim (is_filled (held_in e.1)) as (λ b. (if b then suc (filled_count es) else filled_count es) ≤ suc (length es)) [
      | true ↦ omega (arith, filled_within es)
      | false ↦ omega (arith, filled_within es)
    ]

-- no chain but its own has a version of the key
none_of : (k q : List ℕ) (hs : List Held) → key_eq k q ≡ false → list_all (is_of k) hs ≡ true → chain_of q hs ≡ []
none_of k q [] apart mine = refl
none_of k q (h ∷ hs) apart mine =
    let m = and_parts (is_of k h) (list_all (is_of k) hs) mine in
    ap (λ b. cond b (h ∷ chain_of q hs) (chain_of q hs)) (subst (λ x. key_eq x q ≡ false) (sym (same_text h.entry.version.key k (sym m.0))) apart)
    ∙ none_of k q hs apart m.1

-- a chain has its key's versions alone
all_of : (k : List ℕ) (hs : List Held) → list_all (is_of k) hs ≡ true → chain_of k hs ≡ hs
all_of k [] mine = refl
all_of k (h ∷ hs) mine =
    let m = and_parts (is_of k h) (list_all (is_of k) hs) mine in
    ap (λ b. cond b (h ∷ chain_of k hs) (chain_of k hs)) m.0 ∙ ap (λ xs. h ∷ xs) (all_of k hs m.1)

-- behind a key there is no version of it
none_behind : (q : List ℕ) (es : List Chain) → is_owned es ≡ true → NonePasses (is_at (slice_cmp nat_cmp q)) es → chain_of q (versions es) ≡ []
none_behind q [] owned none = refl
none_behind q (e ∷ es) owned none =
    let o = and_parts (list_all (is_of e.0) (held_in e.1)) (is_owned es) owned in
    let apart : key_eq e.0 q ≡ false = nat_list_eq_equiv.symm e.0 q ∙ sym (tied q e.0) ∙ none.0 in
    filter-append (is_of q) (held_in e.1) (versions es) ∙ ap (λ xs. xs ++ chain_of q (versions es)) (none_of e.0 q (held_in e.1) apart o.0)
    ∙ none_behind q es o.1 none.1

-- the versions of a key are those under it
chain_distinct : (q : List ℕ) (es : List Chain) → is_owned es ≡ true → IsDistinct (eq_by_cmp (slice_cmp nat_cmp)) (keys_of es) → chain_of q (versions es) ≡ held_at q es
chain_distinct q [] owned apart = refl
chain_distinct q (e ∷ es) owned apart =
    let o = and_parts (list_all (is_of e.0) (held_in e.1)) (is_owned es) owned in
    filter-append (is_of q) (held_in e.1) (versions es) ∙
    elim (is_at (slice_cmp nat_cmp q) e.0) as (λ b. is_at (slice_cmp nat_cmp q) e.0 ≡ b → chain_of q (held_in e.1) ++ chain_of q (versions es) ≡ held_under (cond b (Some e.1) (kept_at q es))) [
      | true ↦ λ t.
          let same : q ≡ e.0 = same_text q e.0 (sym (sym (tied q e.0) ∙ t)) in
          let own : chain_of q (held_in e.1) ≡ held_in e.1 = subst (λ x. chain_of x (held_in e.1) ≡ held_in e.1) (sym same) (all_of e.0 (held_in e.1) o.0) in
          let none : chain_of q (versions es) ≡ [] = none_behind q es o.1 (none_past_head (eq_by_cmp_equiv nat_list_cmp_total) q e es apart t) in
          ap (λ xs. xs ++ chain_of q (versions es)) own ∙ ap (λ xs. held_in e.1 ++ xs) none ∙ append-nil (held_in e.1)
      | false ↦ λ t.
          let other : key_eq e.0 q ≡ false = nat_list_eq_equiv.symm e.0 q ∙ sym (tied q e.0) ∙ t in
          ap (λ xs. xs ++ chain_of q (versions es)) (none_of e.0 q (held_in e.1) other o.0) ∙ chain_distinct q es o.1 (IsDistinct-tail (eq_by_cmp (slice_cmp nat_cmp)) e.0 (keys_of es) apart)
    ] refl

pub chain_get : (q : List ℕ) (es : List Chain) → is_owned es ≡ true → IsStrictlySortedBy (slice_cmp nat_cmp) (keys_of es) → chain_of q (versions es) ≡ held_at q es
chain_get q es owned sorted = chain_distinct q es owned (IsDistinct-from_sorted (slice_cmp nat_cmp) (keys_of es) sorted)

-- as many keys as filled chains
any_of : (k : List ℕ) (hs ys : List Held) → list_all (is_of k) hs ≡ true → chain_of k ys ≡ [] → list_any (is_of k) (hs ++ ys) ≡ is_filled hs
any_of k [] [] mine none = refl
any_of k [] (y ∷ ys) mine none =
    elim (is_of k y) as (λ b. cond b (y ∷ chain_of k ys) (chain_of k ys) ≡ [] → (b || list_any (is_of k) ys) ≡ false) [
      | true ↦ λ p. cc
      | false ↦ λ p. any_of k [] ys refl p
    ] none
any_of k (h ∷ hs) ys mine none = ap (λ b. b || list_any (is_of k) (hs ++ ys)) (and_parts (is_of k h) (list_all (is_of k) hs) mine).0

total_chain : (k : List ℕ) (hs ys : List Held) → list_all (is_of k) hs ≡ true → chain_of k ys ≡ [] → key_total (hs ++ ys) ≡ (if is_filled hs then suc (key_total ys) else key_total ys)
total_chain k [] ys mine none = refl
total_chain k (h ∷ hs) ys mine none =
    let m = and_parts (is_of k h) (list_all (is_of k) hs) mine in
    let here : list_any (is_of h.entry.version.key) (hs ++ ys) ≡ is_filled hs =
    ap (λ q. list_any (is_of q) (hs ++ ys)) (same_text h.entry.version.key k (sym m.0)) ∙ any_of k hs ys m.1 none in
    ap (λ b. if b then key_total (hs ++ ys) else suc (key_total (hs ++ ys))) here
    ∙ ap (λ n. if is_filled hs then n else suc n) (total_chain k hs ys m.1 none)
    ∙ elim (is_filled hs) as (λ b. (if b then (if b then suc (key_total ys) else key_total ys) else suc (if b then suc (key_total ys) else key_total ys)) ≡ suc (key_total ys)) [
      | true ↦ refl
      | false ↦ refl
    ]

total_distinct : (es : List Chain) → is_owned es ≡ true → IsDistinct (eq_by_cmp (slice_cmp nat_cmp)) (keys_of es) → key_total (versions es) ≡ filled_count es
total_distinct [] owned apart = refl
total_distinct (e ∷ es) owned apart =
    let o = and_parts (list_all (is_of e.0) (held_in e.1)) (is_owned es) owned in
    let itself : is_at (slice_cmp nat_cmp e.0) e.0 ≡ true = tied e.0 e.0 ∙ nat_list_eq_equiv.refl e.0 in
    let none : chain_of e.0 (versions es) ≡ [] = none_behind e.0 es o.1 (none_past_head (eq_by_cmp_equiv nat_list_cmp_total) e.0 e es apart itself) in
    total_chain e.0 (held_in e.1) (versions es) o.0 none
    ∙ ap (λ n. if is_filled (held_in e.1) then suc n else n) (total_distinct es o.1 (IsDistinct-tail (eq_by_cmp (slice_cmp nat_cmp)) e.0 (keys_of es) apart))

pub total_filled : (es : List Chain) → is_owned es ≡ true → IsStrictlySortedBy (slice_cmp nat_cmp) (keys_of es) → key_total (versions es) ≡ filled_count es
total_filled es owned sorted = total_distinct es owned (IsDistinct-from_sorted (slice_cmp nat_cmp) (keys_of es) sorted)

pub under_some : (q : List ℕ) (es : List Chain) (v : SmallVec Place) → is_owned es ≡ true → IsStrictlySortedBy (slice_cmp nat_cmp) (keys_of es) → kept_at q es ≡ Some v → held_in v ≡ chain_of q (versions es)
under_some q es v owned sorted is = sym (chain_get q es owned sorted ∙ ap held_under is)

pub under_none : (q : List ℕ) (es : List Chain) → is_owned es ≡ true → IsStrictlySortedBy (slice_cmp nat_cmp) (keys_of es) → kept_at q es ≡ None → [] ≡ chain_of q (versions es)
under_none q es owned sorted is = sym (chain_get q es owned sorted ∙ ap held_under is)

pub empty_count : (v : SmallVec Place) → ◌≡◌ {A = ℕ} (if is_filled (held_in v) then 0 else 1) (if length v.items == 0 then 1 else 0)
empty_count v =
    elim v.items as (λ xs. ◌≡◌ {A = ℕ} (if is_filled (map placed xs) then 0 else 1) (if length xs == 0 then 1 else 0)) [
      | [] ↦ refl
      | x ∷ xs ↦ ap {A = Bool} {B = ℕ} (λ b. if b then 1 else 0) (sym (ne_eqb (suc (length xs)) 0 (λ e. omega (arith, e))))
    ]

pub joined : {X : Type 0} (new cur old a b d : List X) → new ≡ cur ++ d → cur ≡ old ++ a → b ≡ a ++ d → new ≡ old ++ b
joined new cur old a b d p q r = p ∙ ap (λ xs. xs ++ d) q ∙ append_assoc old a d ∙ ap (λ xs. old ++ xs) (sym r)

-- an install, from what it puts under the keys to the chains
pub chain_added : (q : List ℕ) (n : ℕ) (new old : List Chain) (ws : List (Version × Content)) → AreApart (map write_of ws) → is_owned new ≡ true → is_owned old ≡ true
    → IsStrictlySortedBy (slice_cmp nat_cmp) (keys_of new) → IsStrictlySortedBy (slice_cmp nat_cmp) (keys_of old)
    → held_at q new ≡ held_at q old ++ chain_of q (map held_of (map (as_held n) ws))
    → chain_of q (versions new) ≡ chain_of q (versions old) ++ listing (stamped n (listed q (map write_of ws)))
chain_added q n new old ws apart own owo son soo e =
    chain_get q new own son ∙ e
    ∙ ap (λ xs. xs ++ chain_of q (map held_of (map (as_held n) ws))) (sym (chain_get q old owo soo))
    ∙ ap (λ xs. chain_of q (versions old) ++ xs) (installed q n ws apart)

-- each chain stands by stamp where the versions of each key do
by_stamp_distinct : (es : List Chain) → is_owned es ≡ true → IsDistinct (eq_by_cmp (slice_cmp nat_cmp)) (keys_of es)
    → ((q : List ℕ) → IsByStamp (held_at q es)) → AreByStamp es
by_stamp_distinct [] owned apart by = tt
by_stamp_distinct (e ∷ es) owned apart by =
    let o = and_parts (list_all (is_of e.0) (held_in e.1)) (is_owned es) owned in
    let itself : is_at (slice_cmp nat_cmp e.0) e.0 ≡ true = tied e.0 e.0 ∙ nat_list_eq_equiv.refl e.0 in (
      subst (λ b. IsByStamp (held_under (cond b (Some e.1) (kept_at e.0 es)))) itself (by e.0),
      by_stamp_distinct es o.1 (IsDistinct-tail (eq_by_cmp (slice_cmp nat_cmp)) e.0 (keys_of es) apart) (λ q.
          elim (is_at (slice_cmp nat_cmp q) e.0) as (λ b. is_at (slice_cmp nat_cmp q) e.0 ≡ b → IsByStamp (held_under (cond b (Some e.1) (kept_at q es))) → IsByStamp (held_at q es)) [
            | true ↦ λ t r. subst (λ k. IsByStamp (held_under k)) (sym (lookup-none (is_at (slice_cmp nat_cmp q)) es (none_past_head (eq_by_cmp_equiv nat_list_cmp_total) q e es apart t)))
                (λ i j d lt within. absurd (omega (arith, within)))
            | false ↦ λ t r. r
          ] refl (by q)),
    )

pub chains_by_stamp : (es : List Chain) → is_owned es ≡ true → IsStrictlySortedBy (slice_cmp nat_cmp) (keys_of es)
    → ((q : List ℕ) → IsByStamp (chain_of q (versions es))) → AreByStamp es
chains_by_stamp es owned sorted by =
    by_stamp_distinct es owned (IsDistinct-from_sorted (slice_cmp nat_cmp) (keys_of es) sorted) (λ q. subst IsByStamp (chain_get q es owned sorted) (by q))

pub range_by_stamp : (low high : List ℕ) (es : List Chain) → AreByStamp es → AreByStamp (entries_between (slice_cmp nat_cmp) (Included low) (Included high) es)
range_by_stamp low high [] by = by
range_by_stamp low high (e ∷ es) by =
    elim (range_contains (slice_cmp nat_cmp) (Included low) (Included high) e.0) as (λ b. AreByStamp (cond b (e ∷ entries_between (slice_cmp nat_cmp) (Included low) (Included high) es) (entries_between (slice_cmp nat_cmp) (Included low) (Included high) es))) [
      | true ↦ (by.0, range_by_stamp low high es by.1)
      | false ↦ range_by_stamp low high es by.1
    ]

pub values_by_stamp : (es : List Chain) → AreByStamp es → StandByStamp (values_of es)
values_by_stamp [] by = by
values_by_stamp (e ∷ es) by = (by.0, values_by_stamp es by.1)
