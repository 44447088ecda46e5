-- What the tables tell after one more event.
use Rattle.std.proofs.Common.{◌≡◌, ℕ, suc, ◌+◌, ◌<◌, ◌==◌, Bool, true, false, cond, ◌&&◌, ◌||◌, List, [], ◌∷◌, ◌++◌, length, Option, Some, None, is_some, slice_get, filter, refl, sym, ◌∙◌, ap, subst, inl, inr, arith}
use Rattle.std.specs.List.{filter_map, cons_option, list_any}
use Rattle.std.specs.Option.{IsSome}
use Rattle.std.proofs.lemmas.Cmp.{nat_list_eq_equiv, nat_eq_equiv}
use Rattle.std.proofs.lemmas.Bool.{cases_Bool, cases_eq, ne_eqb, or_right, and_parts, and_from, eqb-true, eq-eqb, both_ways, false_from_ne_true}
use Rattle.std.proofs.Math.Bool.{or-false, or_comm}
use Rattle.std.proofs.lemmas.List.{append-nil, length-append}
use Rattle.std.proofs.lemmas.List.Elements.{filter_map-append, filter-append}
use Rattle.std.proofs.lemmas.List.Folds.{list_any-append}
use Rattle.adya_values.specs.declared.event.Version.{Version}
use Rattle.adya_terms.specs.Machinery.Tables.{Own}
use Rattle.adya_terms.specs.declared.tables.Ended.{Ended}
use Rattle.adya_keys.specs.Meaning.Keys.{key_eq}
use Rattle.adya_values.specs.Meaning.Histories.{Entry, Event}
use Rattle.adya_values.specs.Meaning.Events.{written, writes_of, last, last_write, is_committed, commits, aborts}
use Rattle.adya_values.specs.Computing.Faults.{content_eq, version_eq, entry_eq}
use Rattle.adya_terms.specs.Machinery.Tables.{own, own_eq, written_at, written_by, is_there, with_replaced, is_at, number_of, Tell}
use Rattle.adya_values.proofs.Entries.{version_eq-same}
use Rattle.adya_values.proofs.Writes.{last_write_from}
use Rattle.lemmas.proofs.Orderings.{bytes_eq-same, bytes_eq-from}

pub version_flip : (a b : Version) → version_eq a b ≡ version_eq b a
version_flip a b =
    let k : key_eq a.key b.key ≡ key_eq b.key a.key = nat_list_eq_equiv.symm a.key b.key in
    let t : (a.txn == b.txn) ≡ (b.txn == a.txn) = nat_eq_equiv.symm a.txn b.txn in
    let m : (a.m == b.m) ≡ (b.m == a.m) = nat_eq_equiv.symm a.m b.m in
    cc

pub any_more : {X : Type 0} (p : X → Bool) (xs : List X) (x : X) → list_any p (xs ++ x ∷ []) ≡ (list_any p xs || p x)
any_more p xs x = list_any-append p xs (x ∷ []) ∙ ap (λ b. list_any p xs || b) (or-false (p x))

pub last_more : {X : Type 0} (xs : List X) (x : X) → last (xs ++ x ∷ []) ≡ Some x
last_more [] x = refl
last_more (y ∷ []) x = refl
last_more (y ∷ z ∷ xs) x = last_more (z ∷ xs) x

pub written_more : (before : List Event) (e : Event) → filter_map written (before ++ e ∷ []) ≡ filter_map written before ++ cons_option (written e) []
written_more before e = filter_map-append written before (e ∷ [])

-- how transactions have ended, after one of them commits or aborts
module _ (e f : ℕ → Ended) (t : ℕ) (x : Bool) where
  pub commits_more : x ≡ (e t).aborted → ((u : ℕ) → f u ≡ cond (t == u) (record { committed = true; aborted = x }) (e u))
      → (u : ℕ) → ((f u).committed ≡ ((e u).committed || (t == u))) × ((f u).aborted ≡ ((e u).aborted || false))
  commits_more was set u =
      let new : Ended = record { committed = true; aborted = x } in
      elim (cases_eq t u) [
        | inl same ↦
            let b = eq-eqb t u same in
            let is : f u ≡ new = set u ∙ ap (λ h. cond h new (e u)) b in (
              ap (λ (z : Ended). z.committed) is ∙ sym (or_right _ _ b),
              ap (λ (z : Ended). z.aborted) is ∙ (was ∙ (ap (λ v. (e v).aborted) same ∙ sym (or-false _))),
            )
        | inr apart ↦
            let b = ne_eqb t u apart in
            let is : f u ≡ e u = set u ∙ ap (λ h. cond h new (e u)) b in (
              ap (λ (z : Ended). z.committed) is ∙ (sym (or-false _) ∙ ap (λ h. (e u).committed || h) (sym b)),
              ap (λ (z : Ended). z.aborted) is ∙ sym (or-false _),
            )
      ]

  pub aborts_more : x ≡ (e t).committed → ((u : ℕ) → f u ≡ cond (t == u) (record { committed = x; aborted = true }) (e u))
      → (u : ℕ) → ((f u).committed ≡ ((e u).committed || false)) × ((f u).aborted ≡ ((e u).aborted || (t == u)))
  aborts_more was set u =
      let new : Ended = record { committed = x; aborted = true } in
      elim (cases_eq t u) [
        | inl same ↦
            let b = eq-eqb t u same in
            let is : f u ≡ new = set u ∙ ap (λ h. cond h new (e u)) b in (
              ap (λ (z : Ended). z.committed) is ∙ (was ∙ (ap (λ v. (e v).committed) same ∙ sym (or-false _))),
              ap (λ (z : Ended). z.aborted) is ∙ sym (or_right _ _ b),
            )
        | inr apart ↦
            let b = ne_eqb t u apart in
            let is : f u ≡ e u = set u ∙ ap (λ h. cond h new (e u)) b in (
              ap (λ (z : Ended). z.committed) is ∙ sym (or-false _),
              ap (λ (z : Ended). z.aborted) is ∙ (sym (or-false _) ∙ ap (λ h. (e u).aborted || h) (sym b)),
            )
      ]

-- before any event
pub tell_none : (c a : ℕ → Bool) (l : Own → Option ℕ) (v : Version → Option ℕ) (all : List Event)
    → ((t : ℕ) → c t ≡ false) → ((t : ℕ) → a t ≡ false) → ((q : Own) → l q ≡ None) → ((r : Version) → v r ≡ None)
    → Tell c a l v all []
tell_none c a l v all nc na nl nv = record {
  committed_is = nc;
  aborted_is = na;
  last_is = λ t k. ap (written_at all) (nl (own t k));
  has_is = λ t k. ap is_some (nl (own t k));
  written_is = λ o. rw (nl (own o.version.txn o.version.key), nv o.version) refl;
  number_is = λ t k. refl;
  later = λ r s. absurd (both_ways _ (ap is_some (nv r)) s);
}

pub written_none : (before : List Event) (e : Event) → written e ≡ None → filter_map written (before ++ e ∷ []) ≡ filter_map written before
written_none before e w = written_more before e ∙ (ap (λ o. filter_map written before ++ cons_option o []) w ∙ append-nil (filter_map written before))

-- an event that writes nothing
pub tell_quiet : (c a : ℕ → Bool) (l : Own → Option ℕ) (v : Version → Option ℕ) (all before : List Event) → Tell c a l v all before
    → (e : Event) → written e ≡ None → (c' a' : ℕ → Bool) → ((t : ℕ) → c' t ≡ (c t || commits t e)) → ((t : ℕ) → a' t ≡ (a t || aborts t e))
    → Tell c' a' l v all (before ++ e ∷ [])
tell_quiet c a l v all before m e w c' a' hc ha =
    let same = written_none before e w in
    record {
      committed_is = λ t. hc t ∙ (ap (λ b. b || commits t e) (m.committed_is t) ∙ sym (any_more (commits t) before e));
      aborted_is = λ t. ha t ∙ (ap (λ b. b || aborts t e) (m.aborted_is t) ∙ sym (any_more (aborts t) before e));
      last_is = λ t k. m.last_is t k ∙ ap (λ ws. last (filter (λ w. (w.version.txn == t) && key_eq w.version.key k) ws)) (sym same);
      has_is = λ t k. m.has_is t k ∙ ap (λ ws. is_some (last (filter (λ w. (w.version.txn == t) && key_eq w.version.key k) ws))) (sym same);
      written_is = λ o. m.written_is o ∙ ap (λ ws. list_any (entry_eq o) ws) (sym same);
      number_is = λ t k. subst (λ (ws : List Entry). number_of (last (filter (λ w. (w.version.txn == t) && key_eq w.version.key k) ws)) ≡ length (filter (λ w. (w.version.txn == t) && key_eq w.version.key k) ws)) (sym same) (m.number_is t k);
      later = λ r s. subst (λ (ws : List Entry). r.m < length (filter (λ w. (w.version.txn == r.txn) && key_eq w.version.key r.key) ws)) (sym same) (m.later r s);
    }

-- an event that writes the transaction's next version of the key, at the place
pub record Writes (all : List Event) (n : ℕ) (e : Event) (w : Entry) : Type 0 where
  pub found : slice_get all n ≡ Some e
  pub wrote : written e ≡ Some w
  pub commits_none : (t : ℕ) → commits t e ≡ false
  pub aborts_none : (t : ℕ) → aborts t e ≡ false

write_at : (all : List Event) (n : ℕ) (e : Event) (w : Entry) → Writes all n e w → written_at all (Some n) ≡ Some w
write_at all n e w s = ap written_by s.found ∙ s.wrote

-- the writes of a key after one more write
abbrev is_of : ℕ → List ℕ → Entry → Bool
is_of t k w = (w.version.txn == t) && key_eq w.version.key k

written_one : (before : List Event) (e : Event) (w : Entry) → written e ≡ Some w → filter_map written (before ++ e ∷ []) ≡ filter_map written before ++ w ∷ []
written_one before e w h = written_more before e ∙ ap (λ o. filter_map written before ++ cons_option o []) h

writes_of_one : (before : List Event) (e : Event) (w : Entry) → written e ≡ Some w → (t : ℕ) (k : List ℕ)
    → writes_of t k (before ++ e ∷ []) ≡ writes_of t k before ++ cond (is_of t k w) (w ∷ []) []
writes_of_one before e w h t k =
    ap (filter (is_of t k)) (written_one before e w h) ∙ filter-append (is_of t k) (filter_map written before) (w ∷ [])

writes_hit : (before : List Event) (e : Event) (w : Entry) → written e ≡ Some w → (t : ℕ) (k : List ℕ) → is_of t k w ≡ true
    → writes_of t k (before ++ e ∷ []) ≡ writes_of t k before ++ w ∷ []
writes_hit before e w h t k hit = writes_of_one before e w h t k ∙ ap (λ b. writes_of t k before ++ cond b (w ∷ []) []) hit

writes_miss : (before : List Event) (e : Event) (w : Entry) → written e ≡ Some w → (t : ℕ) (k : List ℕ) → is_of t k w ≡ false
    → writes_of t k (before ++ e ∷ []) ≡ writes_of t k before
writes_miss before e w h t k miss =
    writes_of_one before e w h t k ∙ (ap (λ b. writes_of t k before ++ cond b (w ∷ []) []) miss ∙ append-nil (writes_of t k before))

is_of_same : (t : ℕ) (k : List ℕ) (w : Entry) (es : List Event) → is_of t k w ≡ true → length (writes_of w.version.txn w.version.key es) ≡ length (writes_of t k es)
is_of_same t k w es hit =
    let both = and_parts _ _ hit in
    ap (λ u. length (writes_of u w.version.key es)) (eqb-true _ _ both.0) ∙ ap (λ j. length (writes_of t j es)) (bytes_eq-same _ _ both.1)

pub last_next : (all before : List Event) (n : ℕ) (e : Event) (w : Entry) → written e ≡ Some w → written_at all (Some n) ≡ Some w
    → (p : Option ℕ) (t : ℕ) (k : List ℕ) → written_at all p ≡ last_write t k before
    → written_at all (cond (is_of t k w) (Some n) p) ≡ last_write t k (before ++ e ∷ [])
last_next all before n e w wrote here p t k old =
    elim (cases_Bool (is_of t k w)) [
      | inl hit ↦
          ap (λ b. written_at all (cond b (Some n) p)) hit ∙
          (here ∙ sym (ap last (writes_hit before e w wrote t k hit) ∙ last_more (writes_of t k before) w))
      | inr miss ↦ ap (λ b. written_at all (cond b (Some n) p)) miss ∙ (old ∙ ap last (sym (writes_miss before e w wrote t k miss)))
    ]

has_next : (before : List Event) (e : Event) (w : Entry) → written e ≡ Some w → (n : ℕ) (p : Option ℕ) (t : ℕ) (k : List ℕ)
    → is_some p ≡ is_some (last_write t k before) → is_some (cond (is_of t k w) (Some n) p) ≡ is_some (last_write t k (before ++ e ∷ []))
has_next before e w wrote n p t k old =
    elim (cases_Bool (is_of t k w)) [
      | inl hit ↦
          ap (λ b. is_some (cond b (Some n) p)) hit ∙
          sym (ap (λ ws. is_some (last ws)) (writes_hit before e w wrote t k hit) ∙ ap is_some (last_more (writes_of t k before) w))
      | inr miss ↦
          ap (λ b. is_some (cond b (Some n) p)) miss ∙
          (old ∙ ap (λ ws. is_some (last ws)) (sym (writes_miss before e w wrote t k miss)))
    ]

number_next : (before : List Event) (e : Event) (w : Entry) → written e ≡ Some w → w.version.m ≡ suc (length (writes_of w.version.txn w.version.key before))
    → (t : ℕ) (k : List ℕ) → number_of (last_write t k before) ≡ length (writes_of t k before)
    → number_of (last_write t k (before ++ e ∷ [])) ≡ length (writes_of t k (before ++ e ∷ []))
number_next before e w h next t k old =
    elim (cases_Bool (is_of t k w)) [
      | inl hit ↦
          let xs = writes_of t k before in
          let all = writes_hit before e w h t k hit in
          let same = is_of_same t k w before hit in
          let long : length (xs ++ w ∷ []) ≡ length xs + 1 = length-append xs (w ∷ []) in
          ap (λ ws. number_of (last ws)) all ∙ (ap number_of (last_more xs w) ∙ (omega (arith, next, same, long) ∙ ap length (sym all)))
      | inr miss ↦ subst (λ (ws : List Entry). number_of (last ws) ≡ length ws) (sym (writes_miss before e w h t k miss)) old
    ]

-- what the table of replaced versions has after the event
module _ (before : List Event) (e : Event) (w : Entry) (wrote : written e ≡ Some w) (next : w.version.m ≡ suc (length (writes_of w.version.txn w.version.key before)))
    (numbered : number_of (last_write w.version.txn w.version.key before) ≡ length (writes_of w.version.txn w.version.key before))
    (v : Version → Option ℕ) (later : (r : Version) → IsSome (v r) → r.m < length (writes_of r.txn r.key before)) where
  more : (t : ℕ) (k : List ℕ) → length (writes_of t k (before ++ e ∷ [])) ≡ length (writes_of t k before) + length (cond (is_of t k w) (w ∷ []) [])
  more t k = ap length (writes_of_one before e w wrote t k) ∙ length-append (writes_of t k before) (cond (is_of t k w) (w ∷ []) [])

  -- a version of the replaced write is the one that was numbered last
  replaced_is : (x : Entry) → last_write w.version.txn w.version.key before ≡ Some x → (r : Version) → version_eq x.version r ≡ true
      → (is_of r.txn r.key w ≡ true) × (r.m ≡ length (writes_of r.txn r.key before))
  replaced_is x at r hit =
      let from = last_write_from w.version.txn w.version.key before x at in
      let same : x.version ≡ r = version_eq-same x.version r hit in
      let t : w.version.txn ≡ r.txn = sym from.txn_is ∙ ap (λ (q : Version). q.txn) same in
      let k : w.version.key ≡ r.key = sym from.key_is ∙ ap (λ (q : Version). q.key) same in
      let m : x.version.m ≡ length (writes_of w.version.txn w.version.key before) = sym (ap number_of at) ∙ numbered in (
        and_from _ _ (eq-eqb _ _ t) (bytes_eq-from _ _ k),
        sym (ap (λ (q : Version). q.m) same) ∙ (m ∙ (ap (λ u. length (writes_of u w.version.key before)) t ∙ ap (λ j. length (writes_of r.txn j before)) k)),
      )

  later_next : (p : Option ℕ) (o : Option Entry) → last_write w.version.txn w.version.key before ≡ o
      → (r : Version) → IsSome (with_replaced o p v r) → r.m < length (writes_of r.txn r.key (before ++ e ∷ []))
  later_next p None at r is = let grown = more r.txn r.key in let old = later r is in omega (arith, grown, old)
  later_next p (Some x) at r is =
      elim (cases_Bool (version_eq x.version r)) [
        | inl hit ↦
            let r_is = replaced_is x at r hit in
            let one : length (writes_of r.txn r.key (before ++ e ∷ [])) ≡ length (writes_of r.txn r.key before) + 1 =
            more r.txn r.key ∙ ap (λ b. length (writes_of r.txn r.key before) + length (cond b (w ∷ []) [])) r_is.0 in
            let m = r_is.1 in
            omega (arith, one, m)
        | inr miss ↦
            let grown = more r.txn r.key in
            let old = later r (subst (λ b. IsSome (cond b p (v r))) miss is) in
            omega (arith, grown, old)
      ]

  -- versions of other keys and transactions stay
  others_stay : (p : Option ℕ) (o : Option Entry) → last_write w.version.txn w.version.key before ≡ o
      → (r : Version) → is_of r.txn r.key w ≡ false → with_replaced o p v r ≡ v r
  others_stay p None at r other = refl
  others_stay p (Some x) at r other =
      let miss : version_eq x.version r ≡ false = false_from_ne_true _ (λ hit. both_ways _ other (replaced_is x at r hit).0) in
      ap (λ b. cond b p (v r)) miss

  absent : (p : Option ℕ) → (IsSome p → ⊥) → p ≡ None
  absent None fails = refl
  absent (Some n) fails = absurd (fails refl)

  -- the entry is found at the write's place, or where it was found before
  found_next : (all : List Event) (p : Option ℕ) (o : Option Entry) → last_write w.version.txn w.version.key before ≡ o → written_at all p ≡ o
      → (x : Entry) → is_of x.version.txn x.version.key w ≡ true
      → (entry_eq x w || is_there x (written_at all (with_replaced o p v x.version)))
      ≡ ((is_there x (written_at all p) || is_there x (written_at all (v x.version))) || entry_eq x w)
  found_next all p None at was x own =
      let new = entry_eq x w in
      let old = is_there x (written_at all (v x.version)) in
      or_comm new old ∙ ap (λ y. (is_there x y || old) || new) (sym was)
  found_next all p (Some y) at was x own =
      let new = entry_eq x w in
      let there : Option ℕ → Bool = λ q. is_there x (written_at all q) in
      elim (cases_Bool (version_eq y.version x.version)) [
        | inl hit ↦
            let last : x.version.m ≡ length (writes_of x.version.txn x.version.key before) = (replaced_is y at x.version hit).1 in
            let none : v x.version ≡ None = absent (v x.version) (λ is. let l = later x.version is in omega (arith, l, last)) in
            ap (λ b. new || there (cond b p (v x.version))) hit ∙
            (or_comm new (there p) ∙ ap (λ b. b || new) (sym (or-false (there p)) ∙ ap (λ q. there p || there q) (sym none)))
        | inr miss ↦
            let other : version_eq x.version y.version ≡ false = version_flip x.version y.version ∙ miss in
            let gone : there p ≡ false = ap (is_there x) was ∙ ap (λ b. b && content_eq x.content y.content) other in
            ap (λ b. new || there (cond b p (v x.version))) miss ∙
            (or_comm new (there (v x.version)) ∙ ap (λ b. (b || there (v x.version)) || new) (sym gone))
      ]

own_same : (x w : Entry) → is_of x.version.txn x.version.key w ≡ true → own x.version.txn x.version.key ≡ own w.version.txn w.version.key
own_same x w hit =
    let both = and_parts _ _ hit in
    ap (λ t. own t x.version.key) (sym (eqb-true _ _ both.0)) ∙ ap (own w.version.txn) (sym (bytes_eq-same _ _ both.1))

not_same : (x w : Entry) → is_of x.version.txn x.version.key w ≡ false → entry_eq x w ≡ false
not_same x w miss =
    false_from_ne_true _ (λ hit.
    let v = version_eq-same x.version w.version (and_parts _ _ hit).0 in
    both_ways _ miss (and_from _ _ (eq-eqb _ _ (sym (ap (λ (q : Version). q.txn) v))) (bytes_eq-from _ _ (sym (ap (λ (q : Version). q.key) v)))))

pub tell_write : (c a : ℕ → Bool) (l : Own → Option ℕ) (v : Version → Option ℕ) (all before : List Event) → Tell c a l v all before
    → (n : ℕ) (e : Event) (w : Entry) → Writes all n e w → w.version.m ≡ suc (length (writes_of w.version.txn w.version.key before))
    → (l' : Own → Option ℕ) (v' : Version → Option ℕ)
    → ((q : Own) → l' q ≡ cond (own_eq (own w.version.txn w.version.key) q) (Some n) (l q))
    → (let p = l (own w.version.txn w.version.key) in (r : Version) → v' r ≡ with_replaced (written_at all p) p v r)
    → Tell c a l' v' all (before ++ e ∷ [])
tell_write c a l v all before m n e w s next l' v' hl hv =
    let t = w.version.txn in
    let k = w.version.key in
    let p = l (own t k) in
    let o = written_at all p in
    let at : last_write t k before ≡ o = sym (m.last_is t k) in
    let any : (x : Entry) → list_any (entry_eq x) (filter_map written (before ++ e ∷ [])) ≡ (is_at l v all x || entry_eq x w) =
    λ x. ap (list_any (entry_eq x)) (written_one before e w s.wrote) ∙
    (any_more (entry_eq x) (filter_map written before) w ∙ ap (λ b. b || entry_eq x w) (sym (m.written_is x))) in
    record {
      committed_is = λ u. m.committed_is u ∙ sym (any_more (commits u) before e ∙ (ap (λ b. is_committed before u || b) (s.commits_none u) ∙ or-false _));
      aborted_is = λ u. m.aborted_is u ∙ sym (any_more (aborts u) before e ∙ (ap (λ b. list_any (aborts u) before || b) (s.aborts_none u) ∙ or-false _));
      last_is = λ u j. ap (written_at all) (hl (own u j)) ∙ last_next all before n e w s.wrote (write_at all n e w s) (l (own u j)) u j (m.last_is u j);
      has_is = λ u j. ap is_some (hl (own u j)) ∙ has_next before e w s.wrote n (l (own u j)) u j (m.has_is u j);
      written_is = λ x.
          let mine = is_of x.version.txn x.version.key w in
          let q = own x.version.txn x.version.key in
          let now : is_at l' v' all x ≡ (is_there x (written_at all (cond mine (Some n) (l q))) || is_there x (written_at all (with_replaced o p v x.version))) =
          ap (λ z. is_there x (written_at all z) || is_there x (written_at all (v' x.version))) (hl q) ∙
          ap (λ z. is_there x (written_at all (cond mine (Some n) (l q))) || is_there x (written_at all z)) (hv x.version) in
          elim (cases_Bool mine) [
            | inl hit ↦
                now ∙
                (ap (λ b. is_there x (written_at all (cond b (Some n) (l q))) || is_there x (written_at all (with_replaced o p v x.version))) hit ∙
                (ap (λ z. is_there x z || is_there x (written_at all (with_replaced o p v x.version))) (write_at all n e w s) ∙
                (found_next before e w s.wrote next (m.number_is t k) v m.later all p o at refl x hit ∙
                (ap (λ z. (is_there x (written_at all (l z)) || is_there x (written_at all (v x.version))) || entry_eq x w) (sym (own_same x w hit)) ∙ sym (any x)))))
            | inr miss ↦
                now ∙
                (ap (λ b. is_there x (written_at all (cond b (Some n) (l q))) || is_there x (written_at all (with_replaced o p v x.version))) miss ∙
                (ap (λ z. is_there x (written_at all (l q)) || is_there x (written_at all z)) (others_stay before e w s.wrote next (m.number_is t k) v m.later p o at x.version miss) ∙
                (sym (or-false _) ∙ (ap (λ b. is_at l v all x || b) (sym (not_same x w miss)) ∙ sym (any x)))))
          ];
      number_is = λ u j. number_next before e w s.wrote next u j (m.number_is u j);
      later = λ r is. later_next before e w s.wrote next (m.number_is t k) v m.later p o at r (subst IsSome (hv r) is);
    }
