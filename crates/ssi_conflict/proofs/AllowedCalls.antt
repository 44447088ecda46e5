-- What allowed calls imply of each transaction.
use Rattle.std.proofs.Common.{◌≡◌, ℕ, ◌≤◌, ◌==◌, ◌⊎◌, Bool, true, false, true≢false, not, ◌&&◌, ◌||◌, if◌then◌else◌, List, [], ◌∷◌, Some, None, is_some, refl, sym, ◌∙◌, ap, subst, arith, inl, inr}
use Rattle.std.specs.List.{list_any}
use Rattle.std.proofs.lemmas.Bool.{eqb-true, eq-eqb, ne_eqb, cases_eq, cond-true, cond-false, and_parts, and_from, or_cases, or_parts, or_left, or_right, not-true, not_from_false}
use Rattle.std.proofs.lemmas.List.Folds.{list_any-append}
use Rattle.adya_keys.specs.Meaning.Keys.{lies_in}
use Rattle.ssi_conflict.specs.Meaning.Calls.{Call, Begins, Reads, Commits, Aborts, snapshot_of, stamp_of, has_begun, is_committed, is_aborted, is_open, meets, begun, precedes}
use Rattle.ssi_conflict.specs.Clauses.Pairs.{before_commit}
use Rattle.ssi_conflict.specs.Clauses.Allowed.{last_stamp, AreAllowed}
use Rattle.ssi_conflict.specs.Meaning.Kept.{is_kept}
use Rattle.lemmas.proofs.Options.{none_unless_some}
use Rattle.lemmas.proofs.Tests.{list_any-source}
use Rattle.std.proofs.lemmas.Option.{same_Some, none-some}

-- an open transaction has begun, and is neither committed nor aborted
pub record Open (t : ℕ) (calls : List Call) : Type 0 where
  pub is_begun : has_begun t calls ≡ true
  pub uncommitted : is_committed t calls ≡ false
  pub unaborted : is_aborted t calls ≡ false

pub open_parts : (t : ℕ) (calls : List Call) → is_open t calls ≡ true → Open t calls
open_parts t calls h =
    let a = and_parts (has_begun t calls) _ h in
    let b = or_parts (is_committed t calls) (is_aborted t calls) (not-true _ a.1) in
    record { is_begun = a.0; uncommitted = b.0; unaborted = b.1 }

pub open_from : (t : ℕ) (calls : List Call) → Open t calls → is_open t calls ≡ true
open_from t calls o = rw (o.is_begun, o.uncommitted, o.unaborted) refl

pub unstamped : (t : ℕ) (calls : List Call) → is_open t calls ≡ true → stamp_of t calls ≡ None
unstamped t calls o = none_unless_some (stamp_of t calls) (open_parts t calls o).uncommitted

-- each stamp is at most the greatest, and so is each snapshot
pub stamps_below : (calls : List Call) → AreAllowed calls → (t n : ℕ) → stamp_of t calls ≡ Some n → n ≤ last_stamp calls
stamps_below [] ok t n h = absurd (none-some n h)
stamps_below (Begins u s ∷ calls) ok t n h = stamps_below calls ok.1 t n h
stamps_below (Reads u low high ∷ calls) ok t n h = stamps_below calls ok.1 t n h
stamps_below (Aborts u ∷ calls) ok t n h = stamps_below calls ok.1 t n h
stamps_below (Commits u s ks ∷ calls) ok t n h =
    elim (cases_eq u t) [
      | inl e ↦ let same = same_Some s n (sym (cond-true (u == t) (Some s) (stamp_of t calls) (eq-eqb u t e)) ∙ h) in
          omega (arith, same)
      | inr ne ↦
          let rest = stamps_below calls ok.1 t n (sym
          (cond-false (u == t) (Some s) (stamp_of t calls) (ne_eqb u t ne)) ∙ h) in
          let next = ok.0.next in
          omega (arith, rest, next)
    ]

pub snapshots_below : (calls : List Call) → AreAllowed calls → (t n : ℕ) → snapshot_of t calls ≡ Some n
    → n ≤ last_stamp calls
snapshots_below [] ok t n h = absurd (none-some n h)
snapshots_below (Begins u s ∷ calls) ok t n h =
    elim (cases_eq u t) [
      | inl e ↦ let same = same_Some s n (sym (cond-true (u == t) (Some s) (snapshot_of t calls) (eq-eqb u t e)) ∙
          h) in let last = ok.0.current in omega (arith, same, last)
      | inr ne ↦ snapshots_below calls ok.1 t n (sym
          (cond-false (u == t) (Some s) (snapshot_of t calls) (ne_eqb u t ne)) ∙ h)
    ]
snapshots_below (Reads u low high ∷ calls) ok t n h = snapshots_below calls ok.1 t n h
snapshots_below (Aborts u ∷ calls) ok t n h = snapshots_below calls ok.1 t n h
snapshots_below (Commits u s ks ∷ calls) ok t n h =
    let rest = snapshots_below calls ok.1 t n h in let next = ok.0.next in omega (arith, rest, next)

-- what reads, commits or aborts has begun
pub reader_begun : (calls : List Call) → AreAllowed calls → (t : ℕ) (k : List ℕ) → meets t k calls ≡ true
    → has_begun t calls ≡ true
reader_begun [] ok t k h = absurd (true≢false (sym h))
reader_begun (Begins u s ∷ calls) ok t k h =
    let before = reader_begun calls ok.1 t k h in
    elim (u == t) as (λ b. is_some (if b then Some s else snapshot_of t calls) ≡ true) [ true ↦ refl | false ↦ before ]
reader_begun (Reads u low high ∷ calls) ok t k h =
    elim (or_cases ((u == t) && lies_in low high k) (meets t k calls) h) [
      | inl now ↦ subst (λ x. has_begun x calls ≡ true) (eqb-true u t (and_parts (u == t) (lies_in low high k) now).0)
          (open_parts u calls ok.0.opened).is_begun
      | inr was ↦ reader_begun calls ok.1 t k was
    ]
reader_begun (Commits u s ks ∷ calls) ok t k h = reader_begun calls ok.1 t k h
reader_begun (Aborts u ∷ calls) ok t k h = reader_begun calls ok.1 t k h

pub committed_begun : (calls : List Call) → AreAllowed calls → (t : ℕ) → is_committed t calls ≡ true
    → has_begun t calls ≡ true
committed_begun [] ok t h = absurd (true≢false (sym h))
committed_begun (Begins u s ∷ calls) ok t h =
    let before = committed_begun calls ok.1 t h in
    elim (u == t) as (λ b. is_some (if b then Some s else snapshot_of t calls) ≡ true) [ true ↦ refl | false ↦ before ]
committed_begun (Reads u low high ∷ calls) ok t h = committed_begun calls ok.1 t h
committed_begun (Aborts u ∷ calls) ok t h = committed_begun calls ok.1 t h
committed_begun (Commits u s ks ∷ calls) ok t h =
    elim (cases_eq u t) [
      | inl e ↦ subst (λ x. has_begun x calls ≡ true) e (open_parts u calls ok.0.opened).is_begun
      | inr ne ↦ committed_begun calls ok.1 t (sym
          (ap is_some (cond-false (u == t) (Some s) (stamp_of t calls) (ne_eqb u t ne))) ∙ h)
    ]

pub aborted_begun : (calls : List Call) → AreAllowed calls → (t : ℕ) → is_aborted t calls ≡ true
    → has_begun t calls ≡ true
aborted_begun [] ok t h = absurd (true≢false (sym h))
aborted_begun (Begins u s ∷ calls) ok t h =
    let before = aborted_begun calls ok.1 t h in
    elim (u == t) as (λ b. is_some (if b then Some s else snapshot_of t calls) ≡ true) [ true ↦ refl | false ↦ before ]
aborted_begun (Reads u low high ∷ calls) ok t h = aborted_begun calls ok.1 t h
aborted_begun (Commits u s ks ∷ calls) ok t h = aborted_begun calls ok.1 t h
aborted_begun (Aborts u ∷ calls) ok t h =
    elim (or_cases (u == t) (is_aborted t calls) h) [
      | inl now ↦ subst (λ x. has_begun x calls ≡ true) (eqb-true u t now) (open_parts u calls ok.0).is_begun
      | inr was ↦ aborted_begun calls ok.1 t was
    ]

-- who hasn't aborted by now hadn't when another committed
pub unaborted_before : (calls : List Call) (r u : ℕ) → is_aborted r calls ≡ false
    → is_aborted r (before_commit u calls) ≡ false
unaborted_before [] r u h = refl
unaborted_before (Begins t s ∷ calls) r u h = unaborted_before calls r u h
unaborted_before (Reads t low high ∷ calls) r u h = unaborted_before calls r u h
unaborted_before (Aborts t ∷ calls) r u h = unaborted_before calls r u (or_parts (t == r) (is_aborted r calls) h).1
unaborted_before (Commits t n ks ∷ calls) r u h =
    let rest = unaborted_before calls r u h in
    elim (t == u) as (λ b. is_aborted r (if b then calls else before_commit u calls) ≡ false)
    [ true ↦ h | false ↦ rest ]

-- a test of some transaction that has begun
pub any_begun : (p : ℕ → Bool) (calls : List Call) (x : ℕ) → has_begun x calls ≡ true → p x ≡ true
    → list_any p (begun calls) ≡ true
any_begun p [] x h e = absurd (true≢false (sym h))
any_begun p (Reads u low high ∷ calls) x h e = any_begun p calls x h e
any_begun p (Aborts u ∷ calls) x h e = any_begun p calls x h e
any_begun p (Commits u n ks ∷ calls) x h e = any_begun p calls x h e
any_begun p (Begins u s ∷ calls) x h e =
    list_any-append p (begun calls) (u ∷ []) ∙
    elim (cases_eq u x) [
      | inl same ↦ or_right (list_any p (begun calls)) _ (or_left (p u) false (ap p same ∙ e))
      | inr ne ↦ or_left _ (p u || false) (any_begun p calls x
          (sym (ap is_some (cond-false (u == x) (Some s) (snapshot_of x calls) (ne_eqb u x ne))) ∙ h) e)
    ]

-- open, or committed and concurrent with an open one
pub record AfterOpen (t : ℕ) (calls : List Call) : Type 0 where
  pub committed : is_committed t calls ≡ true
  pub other : ℕ
  pub other_open : is_open other calls ≡ true
  pub later : precedes t other calls ≡ false

pub kept_parts : (t : ℕ) (calls : List Call) → is_kept t calls ≡ true → (is_open t calls ≡ true) ⊎ AfterOpen t calls
kept_parts t calls h =
    elim (or_cases (is_open t calls) _ h) [
      | inl o ↦ inl o
      | inr w ↦
          let a = and_parts (is_committed t calls) _ w in
          let x = list_any-source (λ x. is_open x calls && not (precedes t x calls)) (begun calls) a.1 in
          let b = and_parts (is_open x.0 calls) _ x.2 in
          inr (record { committed = a.0; other = x.0; other_open = b.0; later = not-true _ b.1 })
    ]

pub kept_open : (t : ℕ) (calls : List Call) → is_open t calls ≡ true → is_kept t calls ≡ true
kept_open t calls o = or_left (is_open t calls) _ o

pub kept_after : (t : ℕ) (calls : List Call) → AfterOpen t calls → is_kept t calls ≡ true
kept_after t calls w =
    or_right (is_open t calls) _ (and_from (is_committed t calls) _ w.committed
    (any_begun (λ x. is_open x calls && not (precedes t x calls)) calls w.other
    (open_parts w.other calls w.other_open).is_begun
    (and_from (is_open w.other calls) _ w.other_open (not_from_false _ w.later))))
