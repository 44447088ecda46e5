-- What a conflict tracker is told of a log says of its transactions what the log says.
use Rattle.std.specs.List.{AllPairs, Contains}
use Rattle.std.proofs.Common.{Bool, List, Some, [], ap, arith, cond, false, get_or, inl, inr, is_some, not, refl, subst, suc, sym, true, ℕ, ◌&&◌, ◌++◌, ◌==◌, ◌||◌, ◌∙◌, ◌∷◌, ◌≡◌}
use Rattle.std.proofs.lemmas.Bool.{and_left, and_parts, and_right, both_ways, cases_Bool, eqb-true, false_from_ne_true, not-true}
use Rattle.std.proofs.lemmas.List.Elements.{Contains-get_or}
use Rattle.std.proofs.lemmas.List.Quantifiers.{all_pairs_push}
use Rattle.lemmas.proofs.Orderings.{bytes_eq-from, bytes_eq-other, bytes_eq-same}
use Rattle.adya_keys.specs.Meaning.Keys.{key_eq, lies_in}
use Rattle.ssi_conflict.specs.Meaning.Calls.{begun as told_begun, has_begun as has_told_begun, is_aborted, is_committed as committed_told, is_open as open_told, keys_of, meets, snapshot_of, stamp_of}
use Rattle.ssi_conflict.specs.Clauses.Allowed.{AreAllowed, MayCommit, last_stamp}
use Rattle.ssi_store.specs.Meaning.Acts.{Aborts, Act, Collects, Commits, Gets, Scans, Begins, Writes, has_aborted, has_committed, has_begun, is_open, begun}
use Rattle.ssi_store.specs.Meaning.Seeing.{commit_count, own_keys, snapshot, wrote}
use Rattle.ssi_store.specs.Meaning.Tracked.{tracked}
use Rattle.adya_keys.proofs.KeyOrder.{key_le-itself, lies_in-itself, lies_in-one}
use Rattle.ssi_store.proofs.SoundLogs.{Sound, has_read, not_open, stamp}
use Rattle.ssi_store.proofs.OwnWrites.{own_key_there, own_key_written}

lies_in-is : (j k : List ℕ) → lies_in j j k ≡ key_eq j k
lies_in-is j k =
    elim (cases_Bool (lies_in j j k)) [
      | inl holds ↦ holds ∙ sym (bytes_eq-from j k (lies_in-one j k holds))
      | inr fails ↦ fails ∙ sym (false_from_ne_true (key_eq j k)
          (λ e. both_ways _ fails (lies_in-itself j k (bytes_eq-same j k e))))
    ]

pub stamp_told : (t : ℕ) (log : List Act) → stamp_of t (tracked log) ≡ stamp t log
stamp_told t [] = refl
stamp_told t (Begins u ∷ log) = stamp_told t log
stamp_told t (Writes u k c ∷ log) = stamp_told t log
stamp_told t (Gets u k ∷ log) =
    elim (cases_Bool (wrote u k log)) [ inl own ↦ rw own (stamp_told t log) | inr other ↦ rw other (stamp_told t log) ]
stamp_told t (Scans u low high ∷ log) = stamp_told t log
stamp_told t (Commits u ∷ log) = ap (λ o. cond (u == t) (Some (suc (commit_count log))) o) (stamp_told t log)
stamp_told t (Aborts u ∷ log) = stamp_told t log
stamp_told t (Collects ∷ log) = stamp_told t log

committed_is_stamped : (t : ℕ) (log : List Act) → is_some (stamp t log) ≡ has_committed t log
committed_is_stamped t [] = refl
committed_is_stamped t (Begins u ∷ log) = committed_is_stamped t log
committed_is_stamped t (Writes u k c ∷ log) = committed_is_stamped t log
committed_is_stamped t (Gets u k ∷ log) = committed_is_stamped t log
committed_is_stamped t (Scans u low high ∷ log) = committed_is_stamped t log
committed_is_stamped t (Aborts u ∷ log) = committed_is_stamped t log
committed_is_stamped t (Collects ∷ log) = committed_is_stamped t log
committed_is_stamped t (Commits u ∷ log) =
    elim (cases_Bool (u == t)) [ inl same ↦ rw same refl | inr other ↦ rw other (committed_is_stamped t log) ]

pub is_committed_told : (t : ℕ) (log : List Act) → committed_told t (tracked log) ≡ has_committed t log
is_committed_told t log = ap is_some (stamp_told t log) ∙ committed_is_stamped t log

pub aborted_told : (t : ℕ) (log : List Act) → is_aborted t (tracked log) ≡ has_aborted t log
aborted_told t [] = refl
aborted_told t (Begins u ∷ log) = aborted_told t log
aborted_told t (Writes u k c ∷ log) = aborted_told t log
aborted_told t (Gets u k ∷ log) =
    elim (cases_Bool (wrote u k log)) [ inl own ↦ rw own (aborted_told t log) | inr other ↦ rw other (aborted_told t log) ]
aborted_told t (Scans u low high ∷ log) = aborted_told t log
aborted_told t (Commits u ∷ log) = aborted_told t log
aborted_told t (Aborts u ∷ log) = ap (λ b. (u == t) || b) (aborted_told t log)
aborted_told t (Collects ∷ log) = aborted_told t log

pub begun_told : (t : ℕ) (log : List Act) → has_told_begun t (tracked log) ≡ has_begun t log
begun_told t [] = refl
begun_told t (Begins u ∷ log) =
    elim (cases_Bool (u == t)) [ inl same ↦ rw same refl | inr other ↦ rw other (begun_told t log) ]
begun_told t (Writes u k c ∷ log) = begun_told t log
begun_told t (Gets u k ∷ log) =
    elim (cases_Bool (wrote u k log)) [ inl own ↦ rw own (begun_told t log) | inr other ↦ rw other (begun_told t log) ]
begun_told t (Scans u low high ∷ log) = begun_told t log
begun_told t (Commits u ∷ log) = begun_told t log
begun_told t (Aborts u ∷ log) = begun_told t log
begun_told t (Collects ∷ log) = begun_told t log

pub is_open_told : (t : ℕ) (log : List Act) → open_told t (tracked log) ≡ is_open t log
is_open_told t log =
    ap (λ b. b && not (committed_told t (tracked log) || is_aborted t (tracked log))) (begun_told t log) ∙
    (ap (λ b. has_begun t log && not (b || is_aborted t (tracked log))) (is_committed_told t log) ∙
    ap (λ b. has_begun t log && not (has_committed t log || b)) (aborted_told t log))

pub snapshot_told : (t : ℕ) (log : List Act) → has_begun t log ≡ true
    → snapshot_of t (tracked log) ≡ Some (snapshot t log)
snapshot_told t [] b = absurd (cc (b))
snapshot_told t (Begins u ∷ log) b =
    elim (cases_Bool (u == t)) [
      | inl same ↦ rw same refl
      | inr other ↦ rw other (snapshot_told t log (rw other at b))
    ]
snapshot_told t (Writes u k c ∷ log) b = snapshot_told t log b
snapshot_told t (Gets u k ∷ log) b =
    elim (cases_Bool (wrote u k log)) [
      | inl own ↦ rw own (snapshot_told t log b)
      | inr other ↦ rw other (snapshot_told t log b)
    ]
snapshot_told t (Scans u low high ∷ log) b = snapshot_told t log b
snapshot_told t (Commits u ∷ log) b = snapshot_told t log b
snapshot_told t (Aborts u ∷ log) b = snapshot_told t log b
snapshot_told t (Collects ∷ log) b = snapshot_told t log b

pub read_told : (t : ℕ) (k : List ℕ) (log : List Act) → meets t k (tracked log) ≡ has_read t k log
read_told t k [] = refl
read_told t k (Begins u ∷ log) = read_told t k log
read_told t k (Writes u j c ∷ log) = read_told t k log
read_told t k (Gets u j ∷ log) =
    elim (cases_Bool (wrote u j log)) [
      | inl own ↦ rw own (read_told t k log
          ∙ ap (λ b. b || has_read t k log) (sym (and_right ((u == t) && key_eq j k) false refl)))
      | inr other ↦ rw other (
          ap (λ b. ((u == t) && lies_in j j k) || b) (read_told t k log) ∙
          (ap (λ b. ((u == t) && b) || has_read t k log) (lies_in-is j k) ∙
          ap (λ b. b || has_read t k log) (sym (and_true ((u == t) && key_eq j k)))))
    ]
  where
    and_true : (b : Bool) → (b && true) ≡ b
    and_true true = refl
    and_true false = refl
read_told t k (Scans u low high ∷ log) = ap (λ b. ((u == t) && lies_in low high k) || b) (read_told t k log)
read_told t k (Commits u ∷ log) = read_told t k log
read_told t k (Aborts u ∷ log) = read_told t k log
read_told t k (Collects ∷ log) = read_told t k log

-- the keys with which a transaction committed are those that it wrote
pub keys_told : (u : ℕ) (log : List Act) → Sound log → has_committed u log ≡ true → (k : List ℕ)
    → wrote u k log ≡ true → Contains (keys_of u (tracked log)) k
keys_told u [] s c k w = absurd (cc (c))
keys_told u (Begins t ∷ log) s c k w = keys_told u log s.1 c k w
keys_told u (Writes t j d ∷ log) s c k w =
    keys_told u log s.1 c k (rw (and_left (t == u) (key_eq j k) (not_open t u log s.0 c)) at w)
keys_told u (Gets t j ∷ log) s c k w =
    elim (cases_Bool (wrote t j log)) [
      | inl own ↦ rw own (keys_told u log s.1 c k w)
      | inr other ↦ rw other (keys_told u log s.1 c k w)
    ]
keys_told u (Scans t low high ∷ log) s c k w = keys_told u log s.1 c k w
keys_told u (Aborts t ∷ log) s c k w = keys_told u log s.1 c k w
keys_told u (Collects ∷ log) s c k w = keys_told u log s.1 c k w
keys_told u (Commits t ∷ log) s c k w =
    elim (cases_Bool (t == u)) [
      | inl same ↦ rw same (subst (λ x. Contains (own_keys x log) k) (sym (eqb-true t u same))
          (own_key_there u k log w))
      | inr other ↦ rw other (keys_told u log s.1 (rw other at c) k w)
    ]

last_stamp_told : (log : List Act) → last_stamp (tracked log) ≡ commit_count log
last_stamp_told [] = refl
last_stamp_told (Begins u ∷ log) = last_stamp_told log
last_stamp_told (Writes u k c ∷ log) = last_stamp_told log
last_stamp_told (Gets u k ∷ log) =
    elim (cases_Bool (wrote u k log)) [
      | inl own ↦ rw own (last_stamp_told log)
      | inr other ↦ rw other (last_stamp_told log)
    ]
last_stamp_told (Scans u low high ∷ log) = last_stamp_told log
last_stamp_told (Commits u ∷ log) = refl
last_stamp_told (Aborts u ∷ log) = last_stamp_told log
last_stamp_told (Collects ∷ log) = last_stamp_told log

pub begun_are : (log : List Act) → told_begun (tracked log) ≡ begun log
begun_are [] = refl
begun_are (Begins u ∷ log) = ap (λ l. l ++ u ∷ []) (begun_are log)
begun_are (Writes u k c ∷ log) = begun_are log
begun_are (Gets u k ∷ log) =
    elim (cases_Bool (wrote u k log)) [ inl own ↦ rw own (begun_are log) | inr other ↦ rw other (begun_are log) ]
begun_are (Scans u low high ∷ log) = begun_are log
begun_are (Commits u ∷ log) = begun_are log
begun_are (Aborts u ∷ log) = begun_are log
begun_are (Collects ∷ log) = begun_are log

pub own_keys_apart : (t : ℕ) (log : List Act) → AllPairs (λ j k. key_eq j k ≡ false) (own_keys t log)
own_keys_apart t [] = λ i j d l m. absurd (omega (arith, m))
own_keys_apart t (Begins u ∷ log) = own_keys_apart t log
own_keys_apart t (Gets u j ∷ log) = own_keys_apart t log
own_keys_apart t (Scans u low high ∷ log) = own_keys_apart t log
own_keys_apart t (Commits u ∷ log) = own_keys_apart t log
own_keys_apart t (Aborts u ∷ log) = own_keys_apart t log
own_keys_apart t (Collects ∷ log) = own_keys_apart t log
own_keys_apart t (Writes u k c ∷ log) =
    elim (cases_Bool (u == t && not (wrote t k log))) [
      | inl new ↦
          let fresh : wrote t k log ≡ false = not-true _ (and_parts (u == t) (not (wrote t k log)) new).1 in
          rw new (all_pairs_push (λ i j. key_eq i j ≡ false) (own_keys t log) k (own_keys_apart t log) (λ i d l.
          bytes_eq-other (get_or (own_keys t log) i d) k (λ same.
          both_ways _ fresh (subst (λ x. wrote t x log ≡ true) same
          (own_key_written t (get_or (own_keys t log) i d) log (Contains-get_or (own_keys t log) i d l))))))
      | inr old ↦ rw old (own_keys_apart t log)
    ]

-- an open transaction may commit with the keys that it has written
pub may_commit : (t : ℕ) (log : List Act) → is_open t log ≡ true
    → MayCommit t (suc (commit_count log)) (own_keys t log) (tracked log)
may_commit t log live = record {
  opened = is_open_told t log ∙ live;
  next = ap suc (sym (last_stamp_told log));
  apart = own_keys_apart t log;
}

-- the store keeps to the conditions of the tracker
pub tracked_allowed : (log : List Act) → Sound log → AreAllowed (tracked log)
tracked_allowed [] s = tt
tracked_allowed (Begins t ∷ log) s = (
  record { above = λ u b. s.0 u (sym (begun_told u log) ∙ b); current = sym (last_stamp_told log) },
  tracked_allowed log s.1,
)
tracked_allowed (Writes t k c ∷ log) s = tracked_allowed log s.1
tracked_allowed (Gets t k ∷ log) s =
    elim (cases_Bool (wrote t k log)) [
      | inl own ↦ rw own (tracked_allowed log s.1)
      | inr other ↦ rw other (
        record { opened = is_open_told t log ∙ s.0; upward = key_le-itself k },
        tracked_allowed log s.1,
      )
    ]
tracked_allowed (Scans t low high ∷ log) s =
    (record { opened = is_open_told t log ∙ s.0.0; upward = s.0.1 }, tracked_allowed log s.1)
tracked_allowed (Commits t ∷ log) s = (may_commit t log s.0.opened, tracked_allowed log s.1)
tracked_allowed (Aborts t ∷ log) s = (is_open_told t log ∙ s.0, tracked_allowed log s.1)
tracked_allowed (Collects ∷ log) s = tracked_allowed log s.1
