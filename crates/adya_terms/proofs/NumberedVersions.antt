-- Versions by the numbers of their keys.
use Rattle.std.proofs.Common.{◌≡◌, ℕ, suc, ◌==◌, ◌<◌, Bool, cond, ◌&&◌, List, length, Option, Some, None, option_and_then, option_map, refl, sym, ◌∙◌, ap}
use Rattle.std.proofs.lemmas.Option.{none-some, same_Some}
use Rattle.adya_values.specs.declared.event.NumberedVersion.{NumberedVersion}
use Rattle.adya_values.specs.declared.event.Version.{Version}
use Rattle.adya_keys.specs.Meaning.Keys.{Key}
use Rattle.adya_values.specs.Meaning.Histories.{Entry, Event}
use Rattle.adya_values.specs.Meaning.Events.{writes_of}
use Rattle.adya_values.specs.Computing.Faults.{is_next, version_eq}
use Rattle.adya_values.specs.Mirror.Numbers.{version_in}
use Rattle.adya_keys.specs.Mirror.{number_in, AreNumbered}
use Rattle.adya_terms.specs.Machinery.Tables.{number_of, own, with_replaced, written_at, Own, Tell}
use Rattle.adya_terms.specs.Machinery.Telling.{numbered_eq, with_number}
use Rattle.adya_terms.proofs.Numbers.{no_number, same_number}

-- what a map has of a version by the number of its key
abbrev by_key : List Key → (NumberedVersion → Option ℕ) → Version → Option ℕ
by_key ks f r = option_and_then (λ n. f (with_number r n)) (number_in ks r.key)

module _ (ks : List Key) (numbered : AreNumbered ks) (old : NumberedVersion) (within : old.key < length ks) (place : ℕ) (before after : NumberedVersion → Option ℕ)
    (put : (v : NumberedVersion) → after v ≡ cond (numbered_eq old v) (Some place) (before v)) where
  abbrev rest : Version → Bool
  rest r = (old.txn == r.txn) && (old.m == r.m)

  by_number : (r : Version) (n : Option ℕ) → number_in ks r.key ≡ n → by_key ks after r ≡ cond (version_eq (version_in ks old) r) (Some place) (by_key ks before r)
  by_number r None is =
      ap (option_and_then (λ n. after (with_number r n))) is ∙
      sym (ap (λ b. cond (b && rest r) (Some place) (by_key ks before r)) (no_number ks numbered old.key within r.key is) ∙
      ap (option_and_then (λ n. before (with_number r n))) is)
  by_number r (Some n) is =
      ap (option_and_then (λ j. after (with_number r j))) is ∙ (put (with_number r n) ∙
      (ap (λ b. cond (b && rest r) (Some place) (before (with_number r n))) (same_number ks numbered old.key within r.key n is) ∙
      sym (ap (cond (version_eq (version_in ks old) r) (Some place)) (ap (option_and_then (λ j. before (with_number r j))) is))))

  -- a place that is put under a version
  pub put_by_key : (r : Version) → by_key ks after r ≡ cond (version_eq (version_in ks old) r) (Some place) (by_key ks before r)
  put_by_key r = by_number r (number_in ks r.key) refl

pub replaced_is : (o : Option Entry) (p : Option ℕ) (f : Version → Option ℕ) (v : Version) (place : ℕ)
    → Some v ≡ option_map (λ (w : Entry). w.version) o → p ≡ Some place → (r : Version) → with_replaced o p f r ≡ cond (version_eq v r) (Some place) (f r)
replaced_is None p f v place is at r = absurd (none-some v (sym is))
replaced_is (Some w) p f v place is at r =
    ap (λ x. cond (version_eq x r) p (f r)) (sym (same_Some v w.version is)) ∙ ap (λ q. cond (version_eq v r) q (f r)) at

-- ---- the number of a write

abbrev pub m_of : Option Version → ℕ
m_of None = 0
m_of (Some v) = v.m

number_is : (o : Option Entry) → number_of o ≡ m_of (option_map (λ (w : Entry). w.version) o)
number_is None = refl
number_is (Some w) = refl

pub next_is : (c a : ℕ → Bool) (l : Own → Option ℕ) (r : Version → Option ℕ) (all before : List Event) → Tell c a l r all before
    → (o : Option Entry) (v : Version) → Some v ≡ option_map (λ (w : Entry). w.version) o
    → (last : Option Version) → last ≡ option_map (λ (w : Entry). w.version) (written_at all (l (own v.txn v.key)))
    → (v.m == suc (m_of last)) ≡ is_next before o
next_is c a l r all before m None v is last was = absurd (none-some v (sym is))
next_is c a l r all before m (Some w) v is last was =
    let same : v ≡ w.version = same_Some v w.version is in
    let number : m_of last ≡ length (writes_of v.txn v.key before) =
    ap m_of was ∙ (sym (number_is (written_at all (l (own v.txn v.key)))) ∙ (ap number_of (m.last_is v.txn v.key) ∙ m.number_is v.txn v.key)) in
    ap (λ n. v.m == suc n) number ∙ ap (λ (x : Version). x.m == suc (length (writes_of x.txn x.key before))) same
