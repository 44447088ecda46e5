-- What is held after collections: the last version of each key, and what protected snapshots see.
use Rattle.ssi_versions.proofs.Lists.{append_cases, only_one, any_same}
use Rattle.std.proofs.lemmas.List.Elements.{filter_agree, Contains-get_or}
use Rattle.lemmas.proofs.Filters.{filter-source}
use Rattle.lemmas.proofs.Tests.{list_any_when}
use Rattle.std.proofs.Common.{append-nil, Bool, List, None, Option, Some, ap, arith, cond, false, get_or, inl, inr, is_some, ltb-true, nat_le, nat_lt, refl, subst, sym, true, ◌≡◌, ◌∷◌, ◌++◌, ◌&&◌, ◌||◌, ◌≤◌, ◌<◌, ◌∙◌, ℕ, []}
use Rattle.std.proofs.lemmas.Bool.{cases_Bool, cond-false, cond-true, eq-eqb, le-leb, lt-ltb, or_left, or_right}
use Rattle.std.proofs.lemmas.List.Quantifiers.{all_pairs_push}
use Rattle.std.proofs.lemmas.Option.{none-some, same_Some}
use Rattle.std.specs.List.{AllPairs, Contains, filter, list_any}
use Rattle.lemmas.proofs.Members.{Contains-cons, Contains-head, none_contained}
use Rattle.adya_values.specs.Meaning.Events.{listed}
use Rattle.adya_values.specs.Meaning.Histories.{Entry}
use Rattle.ssi_versions.specs.Meaning.Changes.{contents, has_stamp, held, is_installed_above, is_needed, last_version, listing, otherwise, stamped, Change, Installs, Collects, Held}
use Rattle.ssi_versions.specs.Clauses.ByStamp.{is_wanted, is_above, IsByStamp, newest, newest_within}
use Rattle.ssi_versions.specs.Clauses.Conditions.{AreInstallable, IsProtected, last_installed}
use Rattle.std.proofs.lemmas.List.Kept.{AllPairs-filter}

-- versions stand by stamp, and none is above n
pub record StandBy (n : ℕ) (hs : List Held) : Type 0 where
  pub rise : IsByStamp hs
  pub upto : (h : Held) → Contains hs h → h.stamp ≤ n

pub stand_filter : (n : ℕ) (p : Held → Bool) (hs : List Held) → StandBy n hs → StandBy n (filter p hs)
stand_filter n p hs s = record {
  rise = AllPairs-filter (λ g h. g.stamp < h.stamp) p hs s.rise;
  upto = λ h c. s.upto h (filter-source p hs h c).0;
}

pub stamp_is : (n : ℕ) (o : Option Entry) (h : Held) → stamped n o ≡ Some h → h.stamp ≡ n
stamp_is n None h e = absurd (none-some h e)
stamp_is n (Some w) h e = sym (ap (λ x. x.stamp) (same_Some _ h e))

pub stand_more : (m n : ℕ) (hs : List Held) (o : Option Held) → m < n → ((h : Held) → o ≡ Some h → h.stamp ≡ n) → StandBy m hs → StandBy n (hs ++ listing o)
stand_more m n hs None less at s = record {
  rise = subst (AllPairs (λ g h. g.stamp < h.stamp)) (sym (append-nil hs)) s.rise;
  upto = λ h c. let le = s.upto h (subst (λ l. Contains l h) (append-nil hs) c) in omega (arith, le, less);
}
stand_more m n hs (Some x) less at s =
    let now = at x refl in
    record {
      rise = all_pairs_push (λ g h. g.stamp < h.stamp) hs x s.rise (λ i d l.
          let le = s.upto (get_or hs i d) (Contains-get_or hs i d l) in omega (arith, le, less, now));
      upto = λ h c. elim (append_cases hs (x ∷ []) h c) [
        | inl there ↦ (let le = s.upto h there in omega (arith, le, less))
        | inr here ↦ (let same = ap (λ y. y.stamp) (only_one x h here) in omega (arith, now, same))
      ];
    }

pub held_stands : (changes : List Change) → AreInstallable changes → (k : List ℕ) → StandBy (last_installed changes) (held k changes)
held_stands [] a k = record { rise = λ i j d l m. absurd (omega (arith, m)); upto = λ h c. absurd (none_contained h c) }
held_stands (Collects ss ∷ changes) a k = stand_filter (last_installed changes) (is_needed k ss changes) (held k changes) (held_stands changes a k)
held_stands (Installs n ws ∷ changes) a k =
    stand_more (last_installed changes) n (held k changes) (stamped n (listed k ws)) a.0 (λ h e. stamp_is n (listed k ws) h e) (held_stands changes a.2 k)

-- what passes is still the newest
pub newest_filter : (p : Held → Bool) (hs : List Held) → ((h : Held) → newest hs ≡ Some h → p h ≡ true) → newest (filter p hs) ≡ newest hs
newest_filter p [] keeps = refl
newest_filter p (h ∷ hs) keeps = by_rest (newest hs) refl (newest_filter p hs)
  where
    by_rest : (o : Option Held) → newest hs ≡ o → (((x : Held) → newest hs ≡ Some x → p x ≡ true) → newest (filter p hs) ≡ newest hs) → newest (filter p (h ∷ hs)) ≡ newest (h ∷ hs)
    by_rest None e rest =
        let here : p h ≡ true = keeps h (ap (λ o. otherwise o (Some h)) e) in
        ap (λ b. newest (cond b (h ∷ filter p hs) (filter p hs))) here ∙
        ap (λ o. otherwise o (Some h)) (rest (λ x f. absurd (none-some x (sym e ∙ f))))
    by_rest (Some x) e rest =
        let all : newest (h ∷ hs) ≡ Some x = ap (λ o. otherwise o (Some h)) e in
        let tail : newest (filter p hs) ≡ Some x = rest (λ y f. keeps y (all ∙ (sym e ∙ f))) ∙ e in
        elim (cases_Bool (p h)) [
          | inl holds ↦ ap (λ b. newest (cond b (h ∷ filter p hs) (filter p hs))) holds ∙ (ap (λ o. otherwise o (Some h)) tail ∙ sym all)
          | inr fails ↦ ap (λ b. newest (cond b (h ∷ filter p hs) (filter p hs))) fails ∙ (tail ∙ sym all)
        ]

pub newest_more : (hs : List Held) (x : Held) → newest (hs ++ x ∷ []) ≡ Some x
newest_more [] x = refl
newest_more (h ∷ hs) x = ap (λ o. otherwise o (Some h)) (newest_more hs x)

pub last_has_stamp : (h : Held) (o : Option Held) → o ≡ Some h → has_stamp h.stamp o ≡ true
last_has_stamp h o e = ap (has_stamp h.stamp) e ∙ eq-eqb h.stamp h.stamp refl

pub last_held : (changes : List Change) (k : List ℕ) → newest (held k changes) ≡ last_version k changes
last_held [] k = refl
last_held (Installs n ws ∷ changes) k = by_write (stamped n (listed k ws)) (last_held changes k)
  where
    by_write : (o : Option Held) → newest (held k changes) ≡ last_version k changes → newest (held k changes ++ listing o) ≡ otherwise o (last_version k changes)
    by_write None rest = ap newest (append-nil (held k changes)) ∙ rest
    by_write (Some x) rest = newest_more (held k changes) x
last_held (Collects ss ∷ changes) k =
    newest_filter (is_needed k ss changes) (held k changes) (λ h e.
    or_left (has_stamp h.stamp (last_version k changes)) _ (last_has_stamp h (last_version k changes) (sym (last_held changes k) ∙ e))) ∙
    last_held changes k

pub within_more : (s : ℕ) (hs : List Held) (x : Held) → newest_within s (hs ++ x ∷ []) ≡ cond (nat_le x.stamp s) (Some x) (newest_within s hs)
within_more s [] x = refl
within_more s (h ∷ hs) x =
    ap (λ o. otherwise o (cond (nat_le h.stamp s) (Some h) None)) (within_more s hs x) ∙ by_test (nat_le x.stamp s)
  where
    by_test : (b : Bool) → otherwise (cond b (Some x) (newest_within s hs)) (cond (nat_le h.stamp s) (Some h) None) ≡ cond b (Some x) (newest_within s (h ∷ hs))
    by_test true = refl
    by_test false = refl

-- what passes is still what the snapshot sees
pub within_filter : (s : ℕ) (p : Held → Bool) (hs : List Held) → ((h : Held) → newest_within s hs ≡ Some h → p h ≡ true) → newest_within s (filter p hs) ≡ newest_within s hs
within_filter s p [] keeps = refl
within_filter s p (h ∷ hs) keeps = by_rest (newest_within s hs) refl (within_filter s p hs)
  where
    by_first : (b : Bool) → nat_le h.stamp s ≡ b → newest_within s hs ≡ None → newest_within s (filter p hs) ≡ None → newest_within s (filter p (h ∷ hs)) ≡ newest_within s (h ∷ hs)
    by_first true t e rest =
        let all : newest_within s (h ∷ hs) ≡ Some h = ap (λ o. otherwise o (cond (nat_le h.stamp s) (Some h) None)) e ∙ cond-true {A = Option Held} (nat_le h.stamp s) (Some h) None t in
        ap (λ b. newest_within s (cond b (h ∷ filter p hs) (filter p hs))) (keeps h all) ∙
        (ap (λ o. otherwise o (cond (nat_le h.stamp s) (Some h) None)) rest ∙ (cond-true {A = Option Held} (nat_le h.stamp s) (Some h) None t ∙ sym all))
    by_first false t e rest =
        let all : newest_within s (h ∷ hs) ≡ None = ap (λ o. otherwise o (cond (nat_le h.stamp s) (Some h) None)) e ∙ cond-false {A = Option Held} (nat_le h.stamp s) (Some h) None t in
        elim (cases_Bool (p h)) [
          | inl holds ↦ ap (λ b. newest_within s (cond b (h ∷ filter p hs) (filter p hs))) holds ∙ (ap (λ o. otherwise o (cond (nat_le h.stamp s) (Some h) None)) rest ∙ (cond-false {A = Option Held} (nat_le h.stamp s) (Some h) None t ∙ sym all))
          | inr fails ↦ ap (λ b. newest_within s (cond b (h ∷ filter p hs) (filter p hs))) fails ∙ (rest ∙ sym all)
        ]

    by_rest : (o : Option Held) → newest_within s hs ≡ o → (((x : Held) → newest_within s hs ≡ Some x → p x ≡ true) → newest_within s (filter p hs) ≡ newest_within s hs) → newest_within s (filter p (h ∷ hs)) ≡ newest_within s (h ∷ hs)
    by_rest None e rest = by_first (nat_le h.stamp s) refl e (rest (λ x f. absurd (none-some x (sym e ∙ f))) ∙ e)
    by_rest (Some x) e rest =
        let all : newest_within s (h ∷ hs) ≡ Some x = ap (λ o. otherwise o (cond (nat_le h.stamp s) (Some h) None)) e in
        let tail : newest_within s (filter p hs) ≡ Some x = rest (λ y f. keeps y (all ∙ (sym e ∙ f))) ∙ e in
        elim (cases_Bool (p h)) [
          | inl holds ↦ ap (λ b. newest_within s (cond b (h ∷ filter p hs) (filter p hs))) holds ∙ (ap (λ o. otherwise o (cond (nat_le h.stamp s) (Some h) None)) tail ∙ sym all)
          | inr fails ↦ ap (λ b. newest_within s (cond b (h ∷ filter p hs) (filter p hs))) fails ∙ (tail ∙ sym all)
        ]

pub within_all : (s : ℕ) (hs : List Held) → ((h : Held) → Contains hs h → h.stamp ≤ s) → newest_within s hs ≡ newest hs
within_all s [] le = refl
within_all s (h ∷ hs) le =
    ap (λ o. otherwise o (cond (nat_le h.stamp s) (Some h) None)) (within_all s hs (λ x c. le x (Contains-cons h hs x c))) ∙
    ap (otherwise (newest hs)) (cond-true {A = Option Held} (nat_le h.stamp s) (Some h) None (le-leb h.stamp s (le h (Contains-head h hs))))

pub held_shows : (changes : List Change) → AreInstallable changes → (k : List ℕ) (s : ℕ) → IsProtected s changes → newest_within s (held k changes) ≡ contents k s changes
held_shows [] a k s p = refl
held_shows (Installs n ws ∷ changes) a k s p = by_write (stamped n (listed k ws)) (λ h e. stamp_is n (listed k ws) h e) (held_shows changes a.2 k s p)
  where
    by_test : (b : Bool) (c : Option Held) → c ≡ cond b (otherwise None c) c
    by_test true c = refl
    by_test false c = refl

    by_write : (o : Option Held) → ((h : Held) → o ≡ Some h → h.stamp ≡ n) → newest_within s (held k changes) ≡ contents k s changes → newest_within s (held k changes ++ listing o) ≡ cond (nat_le n s) (otherwise o (contents k s changes)) (contents k s changes)
    by_write None at rest = ap (newest_within s) (append-nil (held k changes)) ∙ (rest ∙ by_test (nat_le n s) (contents k s changes))
    by_write (Some x) at rest =
        within_more s (held k changes) x ∙
        (ap (λ m. cond (nat_le m s) (Some x) (newest_within s (held k changes))) (at x refl) ∙
        ap (cond (nat_le n s) (Some x)) rest)
held_shows (Collects ss ∷ changes) a k s p =
    let rest = held_shows changes a k s p.1 in
    within_filter s (is_needed k ss changes) (held k changes) (λ h e.
    elim p.0 [
      | inl named ↦ or_right (has_stamp h.stamp (last_version k changes)) _ (list_any_when (λ x. has_stamp h.stamp (contents k x changes)) ss s named (last_has_stamp h (contents k s changes) (sym rest ∙ e)))
      | inr late ↦
          let all = within_all s (held k changes) (λ x c. let le = (held_stands changes a k).upto x c in omega (arith, le, late)) in
          or_left (has_stamp h.stamp (last_version k changes)) _ (last_has_stamp h (last_version k changes) (sym (last_held changes k) ∙ (sym all ∙ e)))
    ]) ∙
    rest

pub last_upto : (changes : List Change) → AreInstallable changes → (k : List ℕ) (h : Held) → last_version k changes ≡ Some h → h.stamp ≤ last_installed changes
last_upto [] a k h e = absurd (none-some h e)
last_upto (Collects ss ∷ changes) a k h e = last_upto changes a k h e
last_upto (Installs n ws ∷ changes) a k h e = by_write (stamped n (listed k ws)) (λ x f. stamp_is n (listed k ws) x f) (last_upto changes a.2 k h) e
  where
    by_write : (o : Option Held) → ((x : Held) → o ≡ Some x → x.stamp ≡ n) → (last_version k changes ≡ Some h → h.stamp ≤ last_installed changes) → otherwise o (last_version k changes) ≡ Some h → h.stamp ≤ n
    by_write None at rest f = let le = rest f in let less = a.0 in omega (arith, le, less)
    by_write (Some x) at rest f = let same = ap (λ y. y.stamp) (same_Some x h f) in let now = at x refl in omega (arith, same, now)

pub last_above : (changes : List Change) → AreInstallable changes → (k : List ℕ) (s : ℕ) → is_installed_above k s changes ≡ is_above s (last_version k changes)
last_above [] a k s = refl
last_above (Collects ss ∷ changes) a k s = last_above changes a k s
last_above (Installs n ws ∷ changes) a k s = by_write (listed k ws) (last_above changes a.2 k s)
  where
    or_same : (b c : Bool) → (c ≡ true → b ≡ true) → ((b && true) || c) ≡ b
    or_same true c h = refl
    or_same false true h = sym (h refl)
    or_same false false h = refl

    and_none : (b : Bool) → (b && false) ≡ false
    and_none true = refl
    and_none false = refl

    older : (o : Option Held) → last_version k changes ≡ o → is_above s o ≡ true → nat_lt s n ≡ true
    older None e f = absurd (cc (f))
    older (Some h) e f =
        let le = last_upto changes a.2 k h e in
        let less = a.0 in
        let above = ltb-true s h.stamp f in
        lt-ltb s n (omega (arith, le, less, above))

    by_write : (o : Option Entry) → is_installed_above k s changes ≡ is_above s (last_version k changes) → ((nat_lt s n && is_some o) || is_installed_above k s changes) ≡ is_above s (otherwise (stamped n o) (last_version k changes))
    by_write None rest = ap (λ b. b || is_installed_above k s changes) (and_none (nat_lt s n)) ∙ rest
    by_write (Some w) rest = or_same (nat_lt s n) (is_installed_above k s changes) (λ f. older (last_version k changes) refl (sym rest ∙ f))

pub collects_held : (changes : List Change) → AreInstallable changes → (ss : List ℕ) → ((s : ℕ) → Contains ss s → IsProtected s changes) → (k : List ℕ) → held k (Collects ss ∷ changes) ≡ filter (is_wanted ss (held k changes)) (held k changes)
collects_held changes a ss p k =
    filter_agree (is_needed k ss changes) (is_wanted ss (held k changes)) (λ h.
    ap (λ o. has_stamp h.stamp o || list_any (λ s. has_stamp h.stamp (contents k s changes)) ss) (sym (last_held changes k)) ∙
    ap (λ b. has_stamp h.stamp (newest (held k changes)) || b) (any_same (λ s. has_stamp h.stamp (contents k s changes)) (λ s. has_stamp h.stamp (newest_within s (held k changes))) ss (λ s c.
    ap (has_stamp h.stamp) (sym (held_shows changes a k s (p s c)))))) (held k changes)

pub collect_keeps_seen : (changes : List Change) → AreInstallable changes → (ss : List ℕ) (s : ℕ) → Contains ss s → IsProtected s changes → (k : List ℕ) → newest_within s (held k (Collects ss ∷ changes)) ≡ newest_within s (held k changes)
collect_keeps_seen changes a ss s named p k =
    held_shows (Collects ss ∷ changes) a k s (inl named, p) ∙ sym (held_shows changes a k s p)
