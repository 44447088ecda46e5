-- What a collection keeps of the versions of a key is what is wanted of them.
use Rattle.lemmas.proofs.Tests.{list_all_when}
use Rattle.std.proofs.Common.{◌≤◌, ◌<◌, suc, length, arith, ◌≡◌, ℕ, Bool, true, false, cond, ◌&&◌, ◌||◌, List, [], ◌∷◌, map, Some, None, refl, ◌∙◌, ap, sym, nat_lt, nat_le, eq-eqb}
use Rattle.std.specs.List.{filter, list_all, list_any}
use Rattle.std.specs.Cmp.Lexicographic.{same_text}
use Rattle.std.proofs.lemmas.Bool.{and_parts, and_from, and_right, lt-ltb}
use Rattle.ssi_versions.specs.Meaning.Changes.{Held, otherwise, has_stamp}
use Rattle.ssi_versions.specs.Clauses.ByStamp.{newest, newest_within, IsByStamp, is_wanted}
use Rattle.ssi_versions.specs.declared.held.Held.{Held as HeldValue}
use Rattle.ssi_versions.specs.Mirror.{held_of, is_of, chain_of}
use Rattle.ssi_versions.specs.Machinery.Snapshots.{is_between}
use Rattle.ssi_versions.specs.Computing.Kept.{next_stamp, is_kept_before, kept, kept_in, stamps_rise}
use Rattle.ssi_versions.specs.Machinery.Keyed.{is_filled, placed, kept_places}
use Rattle.ssi_versions.specs.declared.place.Place.{Place}
use Rattle.ssi_versions.proofs.Lists.{pairs_head, pairs_tail, all_weaker, any_agree, filter_agree_on, lt_apart, lt_apart_back, lt_trans, le_not_lt, not_le_lt, lt_not_le}
use Rattle.ssi_versions.proofs.ByKey.{alone}

-- no newest version has a stamp below all of them
not_newest : (n : ℕ) (hs : List Held) → list_all (λ g. nat_lt n g.stamp) hs ≡ true → has_stamp n (newest hs) ≡ false
not_newest n [] above = refl
not_newest n (h ∷ hs) above =
    let a = and_parts (nat_lt n h.stamp) (list_all (λ g. nat_lt n g.stamp) hs) above in
    elim (newest hs) as (λ o. has_stamp n o ≡ false → has_stamp n (otherwise o (Some h)) ≡ false) [
      | None ↦ λ p. lt_apart n h.stamp a.0
      | Some x ↦ λ p. p
    ] (not_newest n hs a.1)

not_within : (n s : ℕ) (hs : List Held) → list_all (λ g. nat_lt n g.stamp) hs ≡ true → has_stamp n (newest_within s hs) ≡ false
not_within n s [] above = refl
not_within n s (h ∷ hs) above =
    let a = and_parts (nat_lt n h.stamp) (list_all (λ g. nat_lt n g.stamp) hs) above in
    elim (newest_within s hs) as (λ o. has_stamp n o ≡ false → has_stamp n (otherwise o (alone s h)) ≡ false) [
      | None ↦ λ p. elim (nat_le h.stamp s) as (λ b. has_stamp n (cond b (Some h) None) ≡ false) [
        | true ↦ lt_apart n h.stamp a.0
        | false ↦ refl
      ]
      | Some x ↦ λ p. p
    ] (not_within n s hs a.1)

none_within : (s : ℕ) (hs : List Held) → list_all (λ g. nat_lt s g.stamp) hs ≡ true → newest_within s hs ≡ None
none_within s [] above = refl
none_within s (h ∷ hs) above =
    let a = and_parts (nat_lt s h.stamp) (list_all (λ g. nat_lt s g.stamp) hs) above in
    ap (λ o. otherwise o (alone s h)) (none_within s hs a.1) ∙ ap (λ b. cond b (Some h) None) (lt_not_le s h.stamp a.0)

-- the first version is the newest one for the snapshots between its stamp and the next
seen_first : (s : ℕ) (h g : Held) (hs : List Held) → stamps_rise (h ∷ g ∷ hs) ≡ true
    → has_stamp h.stamp (newest_within s (h ∷ g ∷ hs)) ≡ (nat_le h.stamp s && nat_lt s g.stamp)
seen_first s h g hs rise =
    let r = and_parts (list_all (λ x. nat_lt h.stamp x.stamp) (g ∷ hs)) (stamps_rise (g ∷ hs)) rise in
    let q = and_parts (list_all (λ x. nat_lt g.stamp x.stamp) hs) (stamps_rise hs) r.1 in
    elim (nat_le g.stamp s) as (λ b. nat_le g.stamp s ≡ b → has_stamp h.stamp (newest_within s (h ∷ g ∷ hs)) ≡ (nat_le h.stamp s && nat_lt s g.stamp)) [
      | true ↦ λ t.
          elim (newest_within s hs) as (λ o. has_stamp h.stamp (otherwise o (alone s g)) ≡ false → has_stamp h.stamp (otherwise (otherwise o (alone s g)) (alone s h)) ≡ false) [
            | None ↦ λ p. ap (λ b. has_stamp h.stamp (otherwise (cond b (Some g) None) (alone s h))) t ∙ (ap (λ b. has_stamp h.stamp (cond b (Some g) None)) (sym t) ∙ p)
            | Some x ↦ λ p. p
          ] (not_within h.stamp s (g ∷ hs) r.0)
          ∙ sym (and_right (nat_le h.stamp s) (nat_lt s g.stamp) (le_not_lt g.stamp s t))
      | false ↦ λ t.
          let low : nat_lt s g.stamp ≡ true = not_le_lt g.stamp s t in
          let none : newest_within s (g ∷ hs) ≡ None = none_within s (g ∷ hs)
          (and_from (nat_lt s g.stamp) (list_all (λ x. nat_lt s x.stamp) hs) low (all_weaker (λ x. nat_lt g.stamp x.stamp) (λ x. nat_lt s x.stamp) hs (λ x e. lt_trans s g.stamp x.stamp low e) q.0)) in
          ap (λ o. has_stamp h.stamp (otherwise o (alone s h))) none
          ∙ elim (nat_le h.stamp s) as (λ b. has_stamp h.stamp (cond b (Some h) None) ≡ (b && nat_lt s g.stamp)) [
            | true ↦ eq-eqb h.stamp h.stamp refl ∙ sym low
            | false ↦ refl
          ]
    ] refl

newest_other : (h : Held) (n : ℕ) (hs : List Held) (g : Held) → nat_lt h.stamp n ≡ true → has_stamp n (newest (h ∷ g ∷ hs)) ≡ has_stamp n (newest (g ∷ hs))
newest_other h n hs g lt =
    elim (newest (g ∷ hs)) as (λ o. has_stamp n (otherwise o (Some h)) ≡ has_stamp n o) [
      | None ↦ lt_apart_back h.stamp n lt
      | Some x ↦ refl
    ]

within_other : (h : Held) (n s : ℕ) (hs : List Held) → nat_lt h.stamp n ≡ true → has_stamp n (newest_within s (h ∷ hs)) ≡ has_stamp n (newest_within s hs)
within_other h n s hs lt =
    elim (newest_within s hs) as (λ o. has_stamp n (otherwise o (alone s h)) ≡ has_stamp n o) [
      | None ↦ elim (nat_le h.stamp s) as (λ b. has_stamp n (cond b (Some h) None) ≡ false) [
        | true ↦ lt_apart_back h.stamp n lt
        | false ↦ refl
      ]
      | Some x ↦ refl
    ]

wanted_other : (ss : List ℕ) (h g : Held) (hs : List Held) (x : Held) → nat_lt h.stamp x.stamp ≡ true → is_wanted ss (h ∷ g ∷ hs) x ≡ is_wanted ss (g ∷ hs) x
wanted_other ss h g hs x lt =
    ap (λ b. b || list_any (λ s. has_stamp x.stamp (newest_within s (h ∷ g ∷ hs))) ss) (newest_other h x.stamp hs g lt)
    ∙ ap (λ b. has_stamp x.stamp (newest (g ∷ hs)) || b)
    (any_agree (λ s. has_stamp x.stamp (newest_within s (h ∷ g ∷ hs))) (λ s. has_stamp x.stamp (newest_within s (g ∷ hs))) ss (λ s. within_other h x.stamp s (g ∷ hs) lt))

first_not_newest : (h g : Held) (hs : List Held) → stamps_rise (h ∷ g ∷ hs) ≡ true → has_stamp h.stamp (newest (h ∷ g ∷ hs)) ≡ false
first_not_newest h g hs rise =
    let r = and_parts (list_all (λ x. nat_lt h.stamp x.stamp) (g ∷ hs)) (stamps_rise (g ∷ hs)) rise in
    elim (newest hs) as (λ o. has_stamp h.stamp (otherwise o (Some g)) ≡ false → has_stamp h.stamp (otherwise (otherwise o (Some g)) (Some h)) ≡ false) [
      | None ↦ λ p. p
      | Some x ↦ λ p. p
    ] (not_newest h.stamp (g ∷ hs) r.0)

kept_wanted : (ss : List ℕ) (hs : List Held) → stamps_rise hs ≡ true → kept ss hs ≡ filter (is_wanted ss hs) hs
kept_wanted ss [] rise = refl
kept_wanted ss (h ∷ []) rise =
    sym (ap (λ b. cond (b || list_any (λ s. has_stamp h.stamp (newest_within s (h ∷ []))) ss) (h ∷ []) []) (eq-eqb h.stamp h.stamp refl))
kept_wanted ss (h ∷ g ∷ hs) rise =
    let r = and_parts (list_all (λ x. nat_lt h.stamp x.stamp) (g ∷ hs)) (stamps_rise (g ∷ hs)) rise in
    let first : is_wanted ss (h ∷ g ∷ hs) h ≡ is_between ss h.stamp g.stamp =
    ap (λ b. b || list_any (λ s. has_stamp h.stamp (newest_within s (h ∷ g ∷ hs))) ss) (first_not_newest h g hs rise)
    ∙ any_agree (λ s. has_stamp h.stamp (newest_within s (h ∷ g ∷ hs))) (λ s. nat_le h.stamp s && nat_lt s g.stamp) ss (λ s. seen_first s h g hs rise) in
    let others : kept ss (g ∷ hs) ≡ filter (is_wanted ss (h ∷ g ∷ hs)) (g ∷ hs) =
    kept_wanted ss (g ∷ hs) r.1
    ∙ sym (filter_agree_on (λ x. nat_lt h.stamp x.stamp) (is_wanted ss (h ∷ g ∷ hs)) (is_wanted ss (g ∷ hs)) (g ∷ hs) r.0 (λ x lt. wanted_other ss h g hs x lt)) in
    ap (λ xs. cond (is_between ss h.stamp g.stamp) (h ∷ xs) xs) others
    ∙ ap (λ b. cond b (h ∷ filter (is_wanted ss (h ∷ g ∷ hs)) (g ∷ hs)) (filter (is_wanted ss (h ∷ g ∷ hs)) (g ∷ hs))) (sym first)

rises : (hs : List Held) → IsByStamp hs → stamps_rise hs ≡ true
rises [] by = refl
rises (h ∷ hs) by =
    and_from (list_all (λ g. nat_lt h.stamp g.stamp) hs) (stamps_rise hs)
    (list_all_when (λ g. nat_lt h.stamp g.stamp) hs (λ g c. lt-ltb h.stamp g.stamp (pairs_head (λ x y. x.stamp < y.stamp) h hs g by c)))
    (rises hs (pairs_tail (λ x y. x.stamp < y.stamp) h hs by))

-- what is kept of versions that stand by stamp
pub kept_of : (ss : List ℕ) (hs : List Held) → IsByStamp hs → kept ss hs ≡ filter (is_wanted ss hs) hs
kept_of ss hs by = kept_wanted ss hs (rises hs by)

-- a list of all installs is kept key by key
pub kept_chain : (ss : List ℕ) (key : List ℕ) (hs : List HeldValue) → chain_of key (map held_of (kept_in ss hs)) ≡ kept ss (chain_of key (map held_of hs))
kept_chain ss key [] = refl
kept_chain ss key (h ∷ hs) =
    let rest = chain_of key (map held_of (kept_in ss hs)) in
    let old = chain_of key (map held_of hs) in
    let later = chain_of h.version.key (map held_of hs) in
    let b = is_kept_before ss h.stamp (next_stamp later) in
    let again : rest ≡ kept ss old = kept_chain ss key hs in
    elim (is_of key (held_of h)) as (λ p. is_of key (held_of h) ≡ p
    → chain_of key (map held_of (cond b (h ∷ kept_in ss hs) (kept_in ss hs))) ≡ kept ss (cond p (held_of h ∷ old) old)) [
      | true ↦ λ t.
          let same : b ≡ is_kept_before ss h.stamp (next_stamp old) = ap (λ k. is_kept_before ss h.stamp (next_stamp (chain_of k (map held_of hs)))) (same_text h.version.key key (sym t)) in
          elim b as (λ c. chain_of key (map held_of (cond c (h ∷ kept_in ss hs) (kept_in ss hs))) ≡ cond c (held_of h ∷ kept ss old) (kept ss old)) [
            | true ↦ ap (λ p. cond p (held_of h ∷ rest) rest) t ∙ ap (λ xs. held_of h ∷ xs) again
            | false ↦ again
          ] ∙ ap (λ c. cond c (held_of h ∷ kept ss old) (kept ss old)) same
      | false ↦ λ t.
          elim b as (λ c. chain_of key (map held_of (cond c (h ∷ kept_in ss hs) (kept_in ss hs))) ≡ kept ss old) [
            | true ↦ ap (λ p. cond p (held_of h ∷ rest) rest) t ∙ again
            | false ↦ again
          ]
    ] refl

-- a chain as it is stored
pub kept_places_held : (ss : List ℕ) (hs : List Place) → map placed (kept_places ss hs) ≡ kept ss (map placed hs)
kept_places_held ss [] = refl
kept_places_held ss (h ∷ hs) =
    elim (is_kept_before ss h.held.stamp (next_stamp (map placed hs))) as (λ b. map placed (cond b (h ∷ kept_places ss hs) (kept_places ss hs)) ≡ cond b (placed h ∷ kept ss (map placed hs)) (kept ss (map placed hs))) [
      | true ↦ ap (λ xs. placed h ∷ xs) (kept_places_held ss hs)
      | false ↦ kept_places_held ss hs
    ]

pub all-kept : (p : Held → Bool) (ss : List ℕ) (hs : List Held) → list_all p hs ≡ true → list_all p (kept ss hs) ≡ true
all-kept p ss [] h = refl
all-kept p ss (x ∷ hs) h =
    let a = and_parts (p x) (list_all p hs) h in
    elim (is_kept_before ss x.stamp (next_stamp hs)) as (λ b. list_all p (cond b (x ∷ kept ss hs) (kept ss hs)) ≡ true) [
      | true ↦ and_from (p x) (list_all p (kept ss hs)) a.0 (all-kept p ss hs a.1)
      | false ↦ all-kept p ss hs a.1
    ]

pub kept-filled : (ss : List ℕ) (hs : List Held) → is_filled (kept ss hs) ≡ is_filled hs
kept-filled ss [] = refl
kept-filled ss (h ∷ []) = refl
kept-filled ss (h ∷ g ∷ hs) =
    elim (is_between ss h.stamp g.stamp) as (λ b. is_filled (cond b (h ∷ kept ss (g ∷ hs)) (kept ss (g ∷ hs))) ≡ true) [
      | true ↦ refl
      | false ↦ kept-filled ss (g ∷ hs)
    ]

pub kept-shorter : (ss : List ℕ) (hs : List Held) → length (kept ss hs) ≤ length hs
kept-shorter ss [] = omega arith
kept-shorter ss (h ∷ hs) =
    elim (is_kept_before ss h.stamp (next_stamp hs)) as (λ b. length (cond b (h ∷ kept ss hs) (kept ss hs)) ≤ suc (length hs)) [
      | true ↦ omega (arith, kept-shorter ss hs)
      | false ↦ omega (arith, kept-shorter ss hs)
    ]
