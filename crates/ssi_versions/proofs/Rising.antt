-- A search in a chain that stands by stamp.
use Rattle.std.proofs.Common.{◌≡◌, ℕ, suc, ◌≤◌, ◌<◌, ◌+◌, true, false, cond, List, [], ◌∷◌, ◌++◌, map, length, take, drop, get_or, Option, Some, None, refl, ◌∙◌, ap, sym, arith, nat_le, inl, inr}
use Rattle.std.specs.List.{AllWithin}
use Rattle.std.proofs.lemmas.Bool.{cases_lt, leb-true, le-leb}
use Rattle.std.proofs.lemmas.List.{map-append, get_or-map, get_or-drop, drop_all, length-drop, length-map}
use Rattle.ssi_versions.specs.declared.place.Place.{Place}
use Rattle.ssi_versions.specs.Meaning.Changes.{Held, otherwise}
use Rattle.ssi_versions.specs.Clauses.ByStamp.{newest, newest_within, IsByStamp}
use Rattle.ssi_versions.specs.Machinery.Keyed.{placed}
use Rattle.ssi_versions.proofs.Lists.{split}
use Rattle.ssi_versions.proofs.ByKey.{alone, newest_within-append, newest-append}

-- the places that a snapshot sees stand first
pub seen_first : (s : ℕ) (ps : List Place) → IsByStamp (map placed ps) → (i j : ℕ) (d : Place) → i ≤ j → j < length ps
    → nat_le (get_or ps j d).held.stamp s ≡ true → nat_le (get_or ps i d).held.stamp s ≡ true
seen_first s ps by i j d le within t =
    elim (cases_lt i j) [
      | inl lt ↦
          let low = ap (λ h. h.stamp) (get_or-map placed ps i d (placed d) (omega (arith, lt, within))) in
          let high = ap (λ h. h.stamp) (get_or-map placed ps j d (placed d) within) in
          le-leb (get_or ps i d).held.stamp s
          (omega (arith, by i j (placed d) lt (omega (arith, within, length-map ps placed)), low, high, leb-true (get_or ps j d).held.stamp s t))
      | inr ge ↦ let same : i ≡ j = omega (arith, le, ge) in ap (λ n. nat_le (get_or ps n d).held.stamp s) same ∙ t
    ]

none_seen : (s : ℕ) (ps : List Place) → ((k : ℕ) (d : Place) → k < length ps → nat_le (get_or ps k d).held.stamp s ≡ false)
    → newest_within s (map placed ps) ≡ None
none_seen s [] none = refl
none_seen s (p ∷ ps) none =
    ap (λ o. otherwise o (alone s (placed p))) (none_seen s ps (λ k d h. none (suc k) d (omega (arith, h))))
    ∙ ap (λ b. cond b (Some (placed p)) None) (none 0 p (omega arith))

pub none_from : (s : ℕ) (ps : List Place) → AllWithin (λ p. nat_le p.held.stamp s ≡ false) ps 0 (length ps) → None ≡ newest_within s (map placed ps)
none_from s ps none = sym (none_seen s ps (λ k d h. none k d (omega arith) h))

-- the version before the first place that the snapshot doesn't see
pub seen_before : (s : ℕ) (ps : List Place) (i n : ℕ) (x : Place) → i < length ps → n ≡ i + 1 → x ≡ get_or ps i x
    → AllWithin (λ p. nat_le p.held.stamp s ≡ true) ps 0 n → AllWithin (λ p. nat_le p.held.stamp s ≡ false) ps n (length ps)
    → Some (placed x) ≡ newest_within s (map placed ps)
seen_before s ps i n x h next is below above =
    let front = map placed (take i ps) in
    let behind = map placed (drop (i + 1) ps) in
    let le : nat_le x.held.stamp s ≡ true = ap (λ p. nat_le p.held.stamp s) is ∙ below i x (omega arith) (omega (arith, next)) in
    let none : newest_within s behind ≡ None = none_seen s (drop (i + 1) ps) (λ k d l.
    let inside : k + (i + 1) < length ps = omega (arith, l, length-drop (i + 1) ps) in
    ap (λ p. nat_le p.held.stamp s) (get_or-drop (i + 1) ps k d) ∙ above (i + 1 + k) d (omega (arith, next)) (omega (arith, inside))) in
    let here : newest_within s (placed x ∷ behind) ≡ Some (placed x) =
    ap (λ o. otherwise o (alone s (placed x))) none ∙ ap (λ b. cond b (Some (placed x)) None) le in
    sym (ap (λ ys. newest_within s (map placed ys)) (split ps i x h is) ∙ ap (newest_within s) (map-append placed (take i ps) (x ∷ drop (i + 1) ps))
    ∙ newest_within-append s front (placed x ∷ behind) ∙ ap (λ o. otherwise o (newest_within s front)) here)

pub newest_whole : (ps : List Place) (i : ℕ) (x : Place) → length ps ≡ i + 1 → x ≡ get_or ps i x → Some (placed x) ≡ newest (map placed ps)
newest_whole ps i x n is =
    sym (ap (λ ys. newest (map placed ys)) (split ps i x (omega (arith, n)) is ∙ ap (λ ys. take i ps ++ x ∷ ys) (drop_all (i + 1) ps (omega (arith, n))))
    ∙ ap newest (map-append placed (take i ps) (x ∷ [])) ∙ newest-append (map placed (take i ps)) (placed x ∷ []))

some_newest : (o p : Option Held) (k : Held) → otherwise (otherwise o (Some k)) p ≡ otherwise o (Some k)
some_newest (Some x) p k = refl
some_newest None p k = refl

-- a snapshot that sees the newest version sees that one
pub newest_seen : (s : ℕ) (hs : List Held) (h : Held) → Some h ≡ newest hs → nat_le h.stamp s ≡ true → Some h ≡ newest_within s hs
newest_seen s [] h is le = absurd (cc)
newest_seen s (g ∷ []) h is le =
    let same : h ≡ g = cc in is ∙ ap (λ b. cond b (Some g) None) (sym (ap (λ x. nat_le x.stamp s) (sym same) ∙ le))
newest_seen s (g ∷ k ∷ ks) h is le =
    ap (λ o. otherwise o (alone s g)) (newest_seen s (k ∷ ks) h (is ∙ some_newest (newest ks) (Some g) k) le)
