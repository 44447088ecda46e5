-- What an open log keeps.
use Rattle.std.proofs.lemmas.Bool.{cases_lt}
use Rattle.std.proofs.Common.{◌≡◌, inl, inr, ◌<◌, ◌≤◌, ◌+◌, ℕ, List, ◌++◌, length, sym, ◌∙◌, ap, append_assoc, subst, arith, length-append}
use Rattle.sqlite_disk.specs.Disk.{Follows, Holds, Mixed, Only, Torn}
use Rattle.sqlite_disk.specs.declared.Disk.{Ghosts}
use Rattle.ssi_log.specs.declared.log.Log.{Log}
use Rattle.ssi_log.specs.Meaning.Crashes.{Finds, Keeps}
use Rattle.ssi_log.specs.Meaning.Texts.{HasNoZero, text_of}
use Rattle.ssi_log.specs.Machinery.Standing.{HasText}
use Rattle.ssi_log.specs.Machinery.Zeros.{HasZeros, IsOver, IsSameBelow, IsZeroed, LeavesOver}
use Rattle.ssi_log.proofs.Settled.{text_is}
use Rattle.ssi_log.proofs.Texts.{keeps, left_more, left_synced, no_zero_more, whole_more}

pub longer : (may_leave : List ℕ → Type 0) (text bytes : List ℕ) (sure : ℕ) → Keeps may_leave text sure → Keeps may_leave (text ++ bytes) sure
longer may_leave text bytes sure kept = λ c left. let f = kept c left in record {
  rest = f.rest ++ bytes;
  whole = ap (λ t. t ++ bytes) f.whole ∙ append_assoc _ f.rest bytes;
  kept = f.kept;
}

module _ {D : Type 0} {disk : Ghosts D} (l : Log D disk) (text : List ℕ) (has : HasText l text) where
  pub keeps_text : Keeps (disk.may_leave l.disk) text l.synced
  keeps_text = keeps (disk.may_leave l.disk) text l.synced l.room has.plain (omega (arith, has.synced, has.end))
      (omega (arith, has.short, has.end)) has.left

  module _ (bytes : List ℕ) (none : HasNoZero bytes) (fits : l.end + length bytes < l.room) where
    pub leaves_more : (new : List ℕ → Type 0) → Follows (Mixed l.end bytes) (disk.may_leave l.disk) new
        → LeavesOver new (text ++ bytes) l.synced l.room
    leaves_more new = left_more l.end text bytes (sym has.end) l.synced l.room has.synced (omega (arith, fits)) (disk.may_leave l.disk) new has.left

    pub keeps_more : (new : List ℕ → Type 0) → Follows (Mixed l.end bytes) (disk.may_leave l.disk) new → Keeps new (text ++ bytes) l.synced
    keeps_more new follows = keeps new (text ++ bytes) l.synced l.room (no_zero_more text bytes has.plain none)
        (omega (arith, has.synced, has.end, length-append text bytes)) (omega (arith, fits, has.end, length-append text bytes))
        (leaves_more new follows)

    pub seen_more : (new : List ℕ) → Torn l.end (length bytes) (disk.seen l.disk) new → (0 < length bytes → Holds new l.end bytes)
        → IsOver (text ++ bytes) (l.end + length bytes) l.room new
    seen_more new = whole_more l.end text bytes (sym has.end) l.room (omega (arith, fits)) (disk.seen l.disk) new has.seen

-- ---- zeros ahead

module _ (text : List ℕ) (sure room : ℕ) (d c : List ℕ) (was : IsOver text sure room d) (within : sure ≤ length text) (short : length text < room)
  where
    pub over_same : IsSameBelow room d c → IsOver text sure room c
    over_same same = record {
      size = omega (arith, was.size, same.no_shorter);
      first = λ i low. same.below i (omega (arith, low, within, short, was.size)) (omega (arith, low, within, short)) ∙ was.first i low;
      each = λ i low.
          let e = same.below i (omega (arith, low, short, was.size)) (omega (arith, low, short)) in
          elim (was.each i low) [ inl is ↦ inl (e ∙ is) | inr none ↦ inr (e ∙ none) ];
      zeros = λ i high low. same.below i (omega (arith, low, was.size)) low ∙ was.zeros i high low;
    }

pub over_further : (text : List ℕ) (sure room to : ℕ) (c : List ℕ) → IsOver text sure room c → room ≤ to
    → (room < to → HasZeros room to c) → IsOver text sure to c
over_further text sure room to c was ordered zeros = elim (cases_lt room to) [
  | inl less ↦
      let has = zeros less in
      record {
        size = has.size;
        first = was.first;
        each = was.each;
        zeros = λ i high low. elim (cases_lt i room) [ inl early ↦ was.zeros i high early | inr late ↦ has.zeros i late low ];
      }
  | inr not ↦ let same : room ≡ to = omega (arith, ordered, not) in subst (λ k. IsOver text sure k c) same was
]

module _ {D : Type 0} {disk : Ghosts D} (l : Log D disk) (text : List ℕ) (has : HasText l text) where
  pub leaves_same : (new : List ℕ → Type 0) → Follows (IsZeroed l.room) (disk.may_leave l.disk) new → LeavesOver new text l.synced l.room
  leaves_same new follows = λ c now.
      let (d, in_old, z) = follows c now in
      over_same text l.synced l.room d c (has.left d in_old) (omega (arith, has.synced, has.end)) (omega (arith, has.short, has.end)) z.same

  pub keeps_same : (new : List ℕ → Type 0) → Follows (IsZeroed l.room) (disk.may_leave l.disk) new → Keeps new text l.synced
  keeps_same new follows = keeps new text l.synced l.room has.plain (omega (arith, has.synced, has.end))
      (omega (arith, has.short, has.end)) (leaves_same new follows)

  pub own_text : text_of (disk.seen l.disk) ≡ text
  own_text = text_is text (disk.seen l.disk) has.plain (λ i low. has.seen.first i (omega (arith, low, has.end)))
      (omega (arith, has.end, has.short, has.seen.size)) (has.seen.zeros (length text) (omega arith) (omega (arith, has.end, has.short)))

  pub seen_same : (new : List ℕ) → IsSameBelow l.room (disk.seen l.disk) new → IsOver text l.end l.room new
  seen_same new = over_same text l.end l.room (disk.seen l.disk) new has.seen (omega (arith, has.end)) (omega (arith, has.short, has.end))

  -- the same log, of which the file alone has changed
  pub still_has : (now : Log D disk) → now.is_open ≡ l.is_open → now.end ≡ l.end → now.synced ≡ l.synced → now.room ≡ l.room
      → IsSameBelow l.room (disk.seen l.disk) (disk.seen now.disk)
      → Follows (IsZeroed l.room) (disk.may_leave l.disk) (disk.may_leave now.disk) → HasText now text
  still_has now up end synced room seen left = record {
    is_open = up ∙ has.is_open;
    end = end ∙ has.end;
    synced = omega (arith, has.synced, end, synced);
    short = omega (arith, has.short, end, room);
    plain = has.plain;
    seen = subst (λ k. IsOver text k now.room (disk.seen now.disk)) (sym end)
        (subst (λ k. IsOver text l.end k (disk.seen now.disk)) (sym room) (seen_same (disk.seen now.disk) seen));
    left = subst (λ k. LeavesOver (disk.may_leave now.disk) text k now.room) (sym synced)
        (subst (λ k. LeavesOver (disk.may_leave now.disk) text l.synced k) (sym room) (leaves_same (disk.may_leave now.disk) left));
  }

-- a log that was synced, with more zeros after its text
pub has_further : {D : Type 0} {disk : Ghosts D} (l now : Log D disk) (text file : List ℕ) → HasText l text → l.synced ≡ length text
    → Only (disk.seen l.disk) (disk.may_leave l.disk) → disk.seen l.disk ≡ file → now.disk ≡ l.disk → now.is_open ≡ l.is_open
    → now.end ≡ l.end → now.synced ≡ l.synced → (room : ℕ) → l.room ≡ room → room ≤ now.room
    → (room < now.room → HasZeros room now.room file) → HasText now text
has_further {D} {disk} l now text file has is_synced only seen same up end synced room at further zeros =
    let over = over_further text l.end room now.room (disk.seen l.disk) (subst (λ k. IsOver text l.end k (disk.seen l.disk)) at has.seen)
    further (λ less. subst (HasZeros room now.room) (sym seen) (zeros less)) in
    record {
      is_open = up ∙ has.is_open;
      end = end ∙ has.end;
      synced = omega (arith, has.synced, end, synced);
      short = omega (arith, has.short, end, at, further);
      plain = has.plain;
      seen = subst (λ k. IsOver text k now.room (disk.seen now.disk)) (sym end)
          (subst (λ (d : D). IsOver text l.end now.room (disk.seen d)) (sym same) over);
      left = subst (λ (d : D). LeavesOver (disk.may_leave d) text now.synced now.room) (sym same)
          (left_synced (disk.seen l.disk) (disk.may_leave l.disk) text now.synced now.room
          (subst (λ k. IsOver text k now.room (disk.seen l.disk)) (has.end ∙ sym is_synced ∙ sym synced) over) only);
    }

-- what was found is there after calls that only read
pub found_same : {old new : List ℕ} {before after : List ℕ → Type 0} {text : List ℕ} → Finds old before text → new ≡ old
    → ((c : List ℕ) → after c → before c) → Finds new after text
found_same {old} {new} {before} {after} {text} finds same fewer = record {
  text_is = ap text_of same ∙ finds.text_is;
  ended = omega (arith, finds.ended, ap length same);
  only = λ c now. finds.only c (fewer c now) ∙ sym same;
}
