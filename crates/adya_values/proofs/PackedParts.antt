-- Packed entries that are there, which stay when something is added.
use Rattle.std.proofs.Common.{◌≡◌, ◌∙◌, ℕ, zero, suc, ◌+◌, ◌≤◌, ◌==◌, true, false, List, [], ◌∷◌, ◌++◌, map, length, sym, ap, refl, arith}
use Rattle.std.specs.Prelude.{nat_lt}
use Rattle.std.proofs.Math.Bool.{false≢true}
use Rattle.std.proofs.lemmas.List.{length-append}
use Rattle.std.proofs.lemmas.Bool.{and_from, and_parts, le-leb, leb-true}
use Rattle.adya_keys.specs.Meaning.Keys.{Bytes, Key, is_value}
use Rattle.adya_values.specs.Machinery.Seen.{content_in, entry_in, is_content, is_part, is_seen, IsKept}
use Rattle.adya_keys.specs.Machinery.Within.{key_at, part, IsFront}
use Rattle.adya_keys.proofs.Within.{key_stays, last_part, part_stays}
use Rattle.adya_values.specs.declared.seen.Seen.{Seen}
use Rattle.std.specs.List.{list_all}
use Rattle.adya_values.specs.Meaning.Histories.{Live}

-- a value that was put at the end of the bytes is found there
pub kept : (bs old v : Bytes) (at n : ℕ) → bs ≡ old ++ v → at ≡ length old → n ≡ length v → is_value v ≡ true → IsKept bs v at n
kept bs old v at n e a f fine =
    let there : is_part (old ++ v) (length old) (length v) ≡ true =
    and_from _ _ (le-leb (length old + length v) (length (old ++ v)) (omega (arith, length-append old v))) (ap is_value (last_part old v) ∙ fine) in
    record {
      there = rw (e, a, f) there;
      value = rw (e, a, f) (last_part old v);
    }

pub is_part_stays : (bs more : Bytes) (at n : ℕ) → is_part bs at n ≡ true → is_part (bs ++ more) at n ≡ true
is_part_stays bs more at n e =
    let l : at + n ≤ length bs = leb-true (at + n) (length bs) (and_parts _ _ e).0 in
    and_from _ _ (le-leb (at + n) (length (bs ++ more)) (omega (arith, l, length-append bs more)))
    (ap is_value (part_stays at n bs more l) ∙ (and_parts _ _ e).1)

pub content_kept : (bs v : Bytes) (at n : ℕ) → IsKept bs v at n → is_value v ≡ true → (is_content bs at n ≡ true) × (content_in bs at n ≡ Live v)
content_kept bs v at zero k fine = absurd (false≢true (ap is_value k.value ∙ fine))
content_kept bs v at (suc n) k fine = (k.there, ap Live k.value)

-- the content of a version that isn't dead
pub live_content : (bs : Bytes) (at n : ℕ) → (n == 0) ≡ false → content_in bs at n ≡ Live (part at n bs)
live_content bs at zero e = absurd (false≢true (sym e))
live_content bs at (suc n) e = refl

-- ---- packed entries that are there stay

content_stays : (bs more : Bytes) (at n : ℕ) → is_content bs at n ≡ true → is_content (bs ++ more) at n ≡ true
content_stays bs more at zero e = refl
content_stays bs more at (suc n) e = is_part_stays bs more at (suc n) e

same_content : (bs more : Bytes) (at n : ℕ) → is_content bs at n ≡ true → content_in (bs ++ more) at n ≡ content_in bs at n
same_content bs more at zero e = refl
same_content bs more at (suc n) e = ap Live (part_stays at (suc n) bs more (leb-true (at + suc n) (length bs) (and_parts _ _ e).0))

seen_stays : (ks km : List Key) (bs bm : Bytes) (s : Seen) → is_seen (length ks) bs s ≡ true → is_seen (length (ks ++ km)) (bs ++ bm) s ≡ true
seen_stays ks km bs bm s e =
    let (key, content) = and_parts (nat_lt s.key (length ks)) _ e in
    and_from _ _ (key_stays ks km s.key key).there (content_stays bs bm s.at s.len content)

same_entry : (ks km : List Key) (bs bm : Bytes) (s : Seen) → is_seen (length ks) bs s ≡ true → entry_in (ks ++ km) (bs ++ bm) s ≡ entry_in ks bs s
same_entry ks km bs bm s e =
    let (key, content) = and_parts (nat_lt s.key (length ks)) _ e in
    ap (λ k. record { version = record { key = k; txn = s.txn; m = s.m }; content = content_in (bs ++ bm) s.at s.len }) (key_stays ks km s.key key).key ∙
    ap (λ x. record { version = record { key = key_at ks s.key; txn = s.txn; m = s.m }; content = x }) (same_content bs bm s.at s.len content)

all_stay : (ks km : List Key) (bs bm : Bytes) (ss : List Seen) → list_all (is_seen (length ks) bs) ss ≡ true
    → list_all (is_seen (length (ks ++ km)) (bs ++ bm)) ss ≡ true
all_stay ks km bs bm [] e = refl
all_stay ks km bs bm (s ∷ ss) e =
    let (here, rest) = and_parts (is_seen (length ks) bs s) _ e in
    and_from _ _ (seen_stays ks km bs bm s here) (all_stay ks km bs bm ss rest)

same_entries : (ks km : List Key) (bs bm : Bytes) (ss : List Seen) → list_all (is_seen (length ks) bs) ss ≡ true
    → map (entry_in (ks ++ km) (bs ++ bm)) ss ≡ map (entry_in ks bs) ss
same_entries ks km bs bm [] e = refl
same_entries ks km bs bm (s ∷ ss) e =
    let (here, rest) = and_parts (is_seen (length ks) bs s) _ e in
    ap (λ x. x ∷ map (entry_in (ks ++ km) (bs ++ bm)) ss) (same_entry ks km bs bm s here) ∙
    ap (λ xs. entry_in ks bs s ∷ xs) (same_entries ks km bs bm ss rest)

-- the same of longer lists
pub all_stay_in : (ks kl : List Key) (bs bl : Bytes) → IsFront ks kl → IsFront bs bl → (ss : List Seen)
    → list_all (is_seen (length ks) bs) ss ≡ true → list_all (is_seen (length kl) bl) ss ≡ true
all_stay_in ks kl bs bl f g ss e = rw (f.1, g.1) (all_stay ks f.0 bs g.0 ss e)

pub same_entries_in : (ks kl : List Key) (bs bl : Bytes) → IsFront ks kl → IsFront bs bl → (ss : List Seen)
    → list_all (is_seen (length ks) bs) ss ≡ true → map (entry_in kl bl) ss ≡ map (entry_in ks bs) ss
same_entries_in ks kl bs bl f g ss e = rw (f.1, g.1) (same_entries ks f.0 bs g.0 ss e)

pub seen_stays_in : (ks kl : List Key) (bs bl : Bytes) → IsFront ks kl → IsFront bs bl → (s : Seen)
    → is_seen (length ks) bs s ≡ true → is_seen (length kl) bl s ≡ true
seen_stays_in ks kl bs bl f g s e = rw (f.1, g.1) (seen_stays ks f.0 bs g.0 s e)
