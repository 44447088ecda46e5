-- Held versions, read key by key.
use Rattle.std.proofs.Common.{◌≡◌, ℕ, suc, ◌<◌, ◌+◌, true, false, cond, if◌then◌else◌, List, [], ◌∷◌, ◌++◌, map, length, take, drop, get_or, Option, Some, None, refl, ◌∙◌, ap, sym, subst, arith, nat_le, append-nil}
use Rattle.std.specs.List.{list_any, All}
use Rattle.std.specs.Cmp.Lexicographic.{same_text, nat_list_eq_equiv}
use Rattle.std.proofs.lemmas.List.{map-append, map_push, take_more, drop_more, get_or_default, get_or-map, length-map}
use Rattle.std.proofs.lemmas.List.Elements.{filter-append}
use Rattle.std.proofs.lemmas.List.Quantifiers.{all_pairs_push}
use Rattle.adya_values.specs.declared.event.Version.{Version}
use Rattle.adya_values.specs.declared.event.Content.{Content}
use Rattle.adya_keys.specs.Meaning.Keys.{key_eq}
use Rattle.adya_values.specs.Meaning.Histories.{Entry}
use Rattle.adya_values.specs.Meaning.Events.{listed}
use Rattle.ssi_versions.specs.Meaning.Changes.{Held, otherwise, listing, stamped}
use Rattle.ssi_versions.specs.Clauses.ByStamp.{newest, newest_within, IsByStamp}
use Rattle.ssi_versions.specs.Clauses.Conditions.{AreApart}
use Rattle.ssi_versions.specs.declared.held.Held.{Held as HeldValue}
use Rattle.ssi_versions.specs.Mirror.{held_of, write_of, is_of, chain_of, key_total, IsAbove}
use Rattle.ssi_versions.specs.Computing.Kept.{next_stamp}
use Rattle.ssi_versions.specs.Machinery.Plain.{as_held}
use Rattle.ssi_versions.proofs.Lists.{split}
use Rattle.lemmas.proofs.Tests.{list_any-map}

otherwise_none : {X : Type 0} (o : Option X) → otherwise o None ≡ o
otherwise_none None = refl
otherwise_none (Some x) = refl

otherwise_assoc : {X : Type 0} (a b c : Option X) → otherwise (otherwise a b) c ≡ otherwise a (otherwise b c)
otherwise_assoc None b c = refl
otherwise_assoc (Some x) b c = refl

-- the version alone, as a snapshot sees it
abbrev pub alone : ℕ → Held → Option Held
alone s h = if nat_le h.stamp s then Some h else None

pub newest_within-append : (s : ℕ) (xs ys : List Held) → newest_within s (xs ++ ys) ≡ otherwise (newest_within s ys) (newest_within s xs)
newest_within-append s [] ys = sym (otherwise_none (newest_within s ys))
newest_within-append s (x ∷ xs) ys =
    ap (λ o. otherwise o (alone s x)) (newest_within-append s xs ys) ∙ otherwise_assoc (newest_within s ys) (newest_within s xs) (alone s x)

pub newest-append : (xs ys : List Held) → newest (xs ++ ys) ≡ otherwise (newest ys) (newest xs)
newest-append [] ys = sym (otherwise_none (newest ys))
newest-append (x ∷ xs) ys = ap (λ o. otherwise o (Some x)) (newest-append xs ys) ∙ otherwise_assoc (newest ys) (newest xs) (Some x)

-- a chain, told apart at a version of the key
pub chain-split : (key : List ℕ) (xs : List HeldValue) (i : ℕ) (x : HeldValue) → i < length xs → x ≡ get_or xs i x → is_of key (held_of x) ≡ true
    → chain_of key (map held_of xs) ≡ chain_of key (map held_of (take i xs)) ++ held_of x ∷ chain_of key (map held_of (drop (i + 1) xs))
chain-split key xs i x h is own =
    ap (λ ys. chain_of key (map held_of ys)) (split xs i x h is)
    ∙ ap (chain_of key) (map-append held_of (take i xs) (x ∷ drop (i + 1) xs))
    ∙ filter-append (is_of key) (map held_of (take i xs)) (held_of x ∷ map held_of (drop (i + 1) xs))
    ∙ ap (λ b. chain_of key (map held_of (take i xs)) ++ cond b (held_of x ∷ chain_of key (map held_of (drop (i + 1) xs))) (chain_of key (map held_of (drop (i + 1) xs)))) own

pub at_found : (key : List ℕ) (s : ℕ) (xs : List HeldValue) (i j : ℕ) (x : HeldValue) → i < length xs → x ≡ get_or xs i x
    → is_of key (held_of x) ≡ true → nat_le x.stamp s ≡ true → j ≡ i + 1 → newest_within s (chain_of key (map held_of (drop j xs))) ≡ None
    → Some (held_of x) ≡ newest_within s (chain_of key (map held_of xs))
at_found key s xs i j x h is own le next none =
    let before = chain_of key (map held_of (take i xs)) in
    let behind = chain_of key (map held_of (drop (i + 1) xs)) in
    let none' : newest_within s behind ≡ None = subst (λ n. newest_within s (chain_of key (map held_of (drop n xs))) ≡ None) next none in
    let here : newest_within s (held_of x ∷ behind) ≡ Some (held_of x) =
    ap (λ o. otherwise o (alone s (held_of x))) none' ∙ ap (λ b. cond b (Some (held_of x)) None) le in
    sym (ap (newest_within s) (chain-split key xs i x h is own) ∙ newest_within-append s before (held_of x ∷ behind)
    ∙ ap (λ o. otherwise o (newest_within s before)) here)

pub last_found : (key : List ℕ) (xs : List HeldValue) (i j : ℕ) (x : HeldValue) → i < length xs → x ≡ get_or xs i x
    → is_of key (held_of x) ≡ true → j ≡ i + 1 → chain_of key (map held_of (drop j xs)) ≡ []
    → Some (held_of x) ≡ newest (chain_of key (map held_of xs))
last_found key xs i j x h is own next none =
    let before = chain_of key (map held_of (take i xs)) in
    let none' : chain_of key (map held_of (drop (i + 1) xs)) ≡ [] = subst (λ n. chain_of key (map held_of (drop n xs)) ≡ []) next none in
    sym (ap newest (chain-split key xs i x h is own ∙ ap (λ ys. before ++ held_of x ∷ ys) none') ∙ newest-append before (held_of x ∷ []))

pub next_found : (key : List ℕ) (xs : List HeldValue) (i : ℕ) (x : HeldValue) → i < length xs → x ≡ get_or xs i x
    → is_of key (held_of x) ≡ true → chain_of key (map held_of (take i xs)) ≡ []
    → Some x.stamp ≡ next_stamp (chain_of key (map held_of xs))
next_found key xs i x h is own none =
    sym (ap next_stamp (chain-split key xs i x h is own ∙ ap (λ ys. ys ++ held_of x ∷ chain_of key (map held_of (drop (i + 1) xs))) none))

-- one more version
pub chain-more : (key : List ℕ) (xs : List HeldValue) (i : ℕ) (x : HeldValue) → i < length xs → x ≡ get_or xs i x
    → chain_of key (map held_of (take (i + 1) xs)) ≡ chain_of key (map held_of (take i xs)) ++ chain_of key (held_of x ∷ [])
chain-more key xs i x h is =
    ap (λ ys. chain_of key (map held_of ys)) (take_more xs i x h ∙ ap (λ y. take i xs ++ y ∷ []) (sym is))
    ∙ ap (chain_of key) (map_push held_of (take i xs) x)
    ∙ filter-append (is_of key) (map held_of (take i xs)) (held_of x ∷ [])

-- what an install adds
abbrev pub at_stamp : ℕ → Entry → Held
at_stamp n w = record { entry = w; stamp = n }

writes_held : (n : ℕ) (ws : List (Version × Content)) → map held_of (map (as_held n) ws) ≡ map (at_stamp n) (map write_of ws)
writes_held n [] = refl
writes_held n (w ∷ ws) = ap (λ hs. at_stamp n (write_of w) ∷ hs) (writes_held n ws)

no_other : (n : ℕ) (w : Entry) (ws : List Entry) → ((j : ℕ) (d : Entry) → j < length ws → key_eq w.version.key (get_or ws j d).version.key ≡ false)
    → chain_of w.version.key (map (at_stamp n) ws) ≡ []
no_other n w [] apart = refl
no_other n w (v ∷ vs) apart =
    ap (λ b. cond b (at_stamp n v ∷ chain_of w.version.key (map (at_stamp n) vs)) (chain_of w.version.key (map (at_stamp n) vs)))
    (nat_list_eq_equiv.symm v.version.key w.version.key ∙ apart 0 v (omega arith))
    ∙ no_other n w vs (λ j d h. apart (suc j) d (omega (arith, h)))

installed_entries : (key : List ℕ) (n : ℕ) (ws : List Entry) → AreApart ws → chain_of key (map (at_stamp n) ws) ≡ listing (stamped n (listed key ws))
installed_entries key n [] apart = refl
installed_entries key n (w ∷ ws) apart =
    elim (key_eq w.version.key key) as (λ b. key_eq w.version.key key ≡ b
    → cond b (at_stamp n w ∷ chain_of key (map (at_stamp n) ws)) (chain_of key (map (at_stamp n) ws)) ≡ listing (stamped n (cond b (Some w) (listed key ws)))) [
      | true ↦ λ t.
          let none = no_other n w ws (λ j d h. apart 0 (suc j) d (omega arith) (omega (arith, h))) in
          ap (λ hs. at_stamp n w ∷ hs) (subst (λ k. chain_of k (map (at_stamp n) ws) ≡ []) (same_text w.version.key key (sym t)) none)
      | false ↦ λ t. installed_entries key n ws (λ i j d lt in'. apart (suc i) (suc j) d (omega (arith, lt)) (omega (arith, in')))
    ] refl

pub installed : (key : List ℕ) (n : ℕ) (ws : List (Version × Content)) → AreApart (map write_of ws)
    → chain_of key (map held_of (map (as_held n) ws)) ≡ listing (stamped n (listed key (map write_of ws)))
installed key n ws apart = ap (chain_of key) (writes_held n ws) ∙ installed_entries key n (map write_of ws) apart

pub by_stamp-push : (n : ℕ) (o : Option Entry) (hs : List Held) → IsByStamp hs → All (λ h. h.stamp < n) hs → IsByStamp (hs ++ listing (stamped n o))
by_stamp-push n None hs by above = subst IsByStamp (sym (append-nil hs)) by
by_stamp-push n (Some w) hs by above = all_pairs_push (λ g h. g.stamp < h.stamp) hs (at_stamp n w) by above

-- an install as a whole
pub added : (key : List ℕ) (n : ℕ) (old new : List HeldValue) (ws : List (Version × Content)) → AreApart (map write_of ws)
    → new ≡ old ++ map (as_held n) ws
    → chain_of key (map held_of new) ≡ chain_of key (map held_of old) ++ listing (stamped n (listed key (map write_of ws)))
added key n old new ws apart e =
    ap (λ hs. chain_of key (map held_of hs)) e ∙ ap (chain_of key) (map-append held_of old (map (as_held n) ws))
    ∙ filter-append (is_of key) (map held_of old) (map held_of (map (as_held n) ws))
    ∙ ap (λ hs. chain_of key (map held_of old) ++ hs) (installed key n ws apart)

pub still_by_stamp : (key : List ℕ) (n : ℕ) (ws : List Entry) (old new : List Held) → IsByStamp (chain_of key old) → IsAbove n old
    → chain_of key new ≡ chain_of key old ++ listing (stamped n (listed key ws)) → IsByStamp (chain_of key new)
still_by_stamp key n ws old new by above e = subst IsByStamp (sym e) (by_stamp-push n (listed key ws) (chain_of key old) by (above key))

pub total_more : (xs : List HeldValue) (i j : ℕ) (x : HeldValue) → i < length xs → x ≡ get_or xs i x → j ≡ i + 1
    → key_total (map held_of (drop i xs)) ≡ (if list_any (λ g. is_of x.version.key (held_of g)) (drop j xs) then key_total (map held_of (drop j xs)) else suc (key_total (map held_of (drop j xs))))
total_more xs i j x h is next =
    ap (λ ys. key_total (map held_of ys)) (drop_more xs i x h ∙ ap (λ y. y ∷ drop (i + 1) xs) (sym is))
    ∙ ap (λ b. if b then key_total (map held_of (drop (i + 1) xs)) else suc (key_total (map held_of (drop (i + 1) xs)))) (list_any-map (is_of x.version.key) held_of (drop (i + 1) xs))
    ∙ subst (λ n. (if list_any (λ g. is_of x.version.key (held_of g)) (drop (i + 1) xs) then key_total (map held_of (drop (i + 1) xs)) else suc (key_total (map held_of (drop (i + 1) xs))))
    ≡ (if list_any (λ g. is_of x.version.key (held_of g)) (drop n xs) then key_total (map held_of (drop n xs)) else suc (key_total (map held_of (drop n xs))))) (sym next) refl

pub installed-more : (q : List ℕ) (n : ℕ) (ws : List (Version × Content)) (i : ℕ) (w : Version × Content) → i < length ws → w ≡ get_or ws i w
    → chain_of q (map held_of (map (as_held n) (take (i + 1) ws))) ≡ chain_of q (map held_of (map (as_held n) (take i ws))) ++ chain_of q (held_of (as_held n w) ∷ [])
installed-more q n ws i w h is =
    ap (λ vs. chain_of q (map held_of (map (as_held n) vs))) (take_more ws i w h ∙ ap (λ y. take i ws ++ y ∷ []) (sym is))
    ∙ ap (λ hs. chain_of q (map held_of hs)) (map_push (as_held n) (take i ws) w)
    ∙ ap (chain_of q) (map_push held_of (map (as_held n) (take i ws)) (as_held n w))
    ∙ filter-append (is_of q) (map held_of (map (as_held n) (take i ws))) (held_of (as_held n w) ∷ [])

pub other_write : (ws : List (Version × Content)) (i k : ℕ) (w d : Version × Content) → w ≡ get_or ws i w → i < k → k < length ws → AreApart (map write_of ws)
    → key_eq w.0.key (get_or ws k d).0.key ≡ false
other_write ws i k w d is lt in' apart =
    let h : i < length ws = omega (arith, lt, in') in
    let e : w ≡ get_or ws i d = is ∙ get_or_default ws i w d h in
    ap (λ x. key_eq x.0.key (get_or ws k d).0.key) e
    ∙ ap (λ x. key_eq x.version.key (get_or ws k d).0.key) (sym (get_or-map write_of ws i d (write_of d) h))
    ∙ ap (λ x. key_eq (get_or (map write_of ws) i (write_of d)).version.key x.version.key) (sym (get_or-map write_of ws k d (write_of d) in'))
    ∙ apart i k (write_of d) lt (omega (arith, length-map ws write_of, in'))
