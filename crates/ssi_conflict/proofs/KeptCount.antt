-- The kept transactions, each once.
use Rattle.std.proofs.Common.{◌≡◌, ℕ, ◌==◌, Bool, true, false, cond, if◌then◌else◌, ◌||◌, List, [], ◌∷◌, filter, Option, Some, is_some, refl, sym, ◌∙◌, ap, inl, inr}
use Rattle.std.specs.List.{IsDistinct, AllByRecursion}
use Rattle.std.specs.Set.{is_member}
use Rattle.std.specs.Ordering.{nat_cmp, eq_by_cmp}
use Rattle.std.proofs.lemmas.Bool.{cases_eq, eq-eqb, ne_eqb, cond-true, cond-false, and_parts, and_from}
use Rattle.std.proofs.lemmas.Cmp.{nat_cmp_total, eq_by_cmp_equiv}
use Rattle.std.proofs.lemmas.List.Folds.{list_any-append}
use Rattle.std.proofs.lemmas.Map.Keys.{IsDistinct-push, IsDistinct-head, IsDistinct-tail, IsDistinct-cons}
use Rattle.std.proofs.lemmas.Map.Lookups.{exact_unsigned}
use Rattle.std.proofs.lemmas.Map.Views.{tells_apart, any-filter_same}
use Rattle.lemmas.proofs.Booleans.{same_test}
use Rattle.ssi_conflict.specs.Meaning.Calls.{Call, Begins, Reads, Commits, Aborts, snapshot_of, has_begun, begun}
use Rattle.ssi_conflict.specs.Clauses.Allowed.{AreAllowed}
use Rattle.ssi_conflict.specs.Meaning.Kept.{is_kept}
use Rattle.ssi_conflict.specs.Machinery.Rows.{Row, StandsFor}
use Rattle.ssi_conflict.proofs.RecordSlots.{is_eq-nat_cmp}
use Rattle.ssi_conflict.proofs.AfterBegin.{unbegun}
use Rattle.lemmas.proofs.Options.{some_value}

abbrev same : ℕ → ℕ → Bool
same = eq_by_cmp nat_cmp

or_true : (b : Bool) → (b || (true || false)) ≡ true
or_true true = refl
or_true false = refl

or_false : (b : Bool) → (b || (false || false)) ≡ b
or_false true = refl
or_false false = refl

one_more : (t u s : ℕ) (b : Bool) (o : Option ℕ) → b ≡ is_some o
    → (b || (same t u || false)) ≡ is_some (if u == t then Some s else o)
one_more t u s b o e =
    elim (cases_eq u t) [
      | inl f ↦
          ap (λ c. b || (c || false)) (is_eq-nat_cmp t u ∙ eq-eqb t u (sym f)) ∙
          (or_true b ∙ sym (ap is_some (cond-true (u == t) (Some s) o (eq-eqb u t f))))
      | inr ne ↦
          ap (λ c. b || (c || false)) (is_eq-nat_cmp t u ∙ ne_eqb t u (λ f. ne (sym f))) ∙
          (or_false b ∙ (e ∙ sym (ap is_some (cond-false (u == t) (Some s) o (ne_eqb u t ne)))))
    ]

-- whether it has begun
pub begun_member : (calls : List Call) (t : ℕ) → is_member same (begun calls) t ≡ has_begun t calls
begun_member [] t = refl
begun_member (Reads u low high ∷ calls) t = begun_member calls t
begun_member (Aborts u ∷ calls) t = begun_member calls t
begun_member (Commits u n ks ∷ calls) t = begun_member calls t
begun_member (Begins u s ∷ calls) t =
    list_any-append (same t) (begun calls) (u ∷ []) ∙ one_more t u s (is_member same (begun calls) t)
    (snapshot_of t calls) (begun_member calls t)

pub begun_once : (calls : List Call) → AreAllowed calls → IsDistinct same (begun calls)
unfolding IsDistinct
begun_once [] ok = tt
begun_once (Reads u low high ∷ calls) ok = begun_once calls ok.1
begun_once (Aborts u ∷ calls) ok = begun_once calls ok.1
begun_once (Commits u n ks ∷ calls) ok = begun_once calls ok.1
begun_once (Begins u s ∷ calls) ok =
    IsDistinct-push (eq_by_cmp_equiv nat_cmp_total) (begun calls) u (begun_once calls ok.1)
    (begun_member calls u ∙ unbegun u s calls ok)

all_filtered : (P : ℕ → Type 0) (p : ℕ → Bool) (xs : List ℕ) → AllByRecursion P xs → AllByRecursion P (filter p xs)
all_filtered P p [] h = h
all_filtered P p (x ∷ xs) h = pass (p x) (all_filtered P p xs h.1)
  where
    pass : (b : Bool) → AllByRecursion P (filter p xs) → AllByRecursion P (cond b (x ∷ filter p xs) (filter p xs))
    pass true r = (h.0, r)
    pass false r = r

filtered_once : (p : ℕ → Bool) (xs : List ℕ) → IsDistinct same xs → IsDistinct same (filter p xs)
filtered_once p [] d = d
filtered_once p (x ∷ xs) d = pass (p x) (filtered_once p xs (IsDistinct-tail same x xs d))
  where
    pass : (b : Bool) → IsDistinct same (filter p xs) → IsDistinct same (cond b (x ∷ filter p xs) (filter p xs))
    pass true r = IsDistinct-cons same x (filter p xs) (all_filtered (λ y. same x y ≡ false) p xs
        (IsDistinct-head same x xs d)) r
    pass false r = r

module _ (row : ℕ → Option Row) (marked : ℕ → List ℕ → Bool) (calls : List Call) (stands : StandsFor row marked calls)
    (exact : (t : ℕ) → is_some (row t) ≡ true → is_kept t calls ≡ true) where
  pub kept_once : IsDistinct same (filter (λ t. is_kept t calls) (begun calls))
  kept_once = filtered_once (λ t. is_kept t calls) (begun calls) (begun_once calls stands.allowed)

  pub kept_member : (t : ℕ) → is_member same (filter (λ t. is_kept t calls) (begun calls)) t ≡ is_some (row t)
  kept_member t =
      any-filter_same (same t) (λ t. is_kept t calls) (is_kept t calls)
      (λ k e. ap (λ u. is_kept u calls) (sym (tells_apart exact_unsigned t k e))) (begun calls) ∙
      same_test _ _
      (λ h. stands.keeps t (and_parts (is_kept t calls) _ h).0)
      (λ h.
      let r = some_value (row t) h in
      and_from (is_kept t calls) _ (exact t h) (begun_member calls t ∙ ap is_some (stands.tells t r.0 r.1).is_begun))
