-- Equality of edges, the edge between two installers, and the places that are gone through.
use Rattle.std.proofs.Common.{◌≡◌, ◌≢◌, ℕ, zero, suc, ◌+◌, ◌==◌, ◌<◌, ◌≤◌, true, false, cond, List, [], ◌∷◌, length, Option, Some, None, refl, sym, ◌∙◌, ap, subst, arith, inl, inr}
use Rattle.std.specs.List.{Contains}
use Rattle.std.proofs.lemmas.Bool.{cases_eq, and_parts, and_from, eqb-true, eq-eqb, ne_eqb}
use Rattle.std.proofs.lemmas.Option.{same_Some, none-some}
use Rattle.lemmas.proofs.Members.{none_contained, Contains-cons}
use Rattle.lemmas.proofs.Orderings.{bytes_eq-same, bytes_eq-itself}
use Rattle.adya_values.specs.Meaning.Histories.{History}
use Rattle.adya_values.specs.Meaning.Orders.{writers, installer}
use Rattle.adya_values.specs.Meaning.Edges.{Kind, Ww, Wr, Rw, Edge}
use Rattle.adya_values.specs.Computing.EdgeList.{numbers, places, joined, kind_eq, edge_eq}
use Rattle.adya_values.proofs.Places.{installer_within}

pub kind_eq-same : (a b : Kind) → kind_eq a b ≡ true → a ≡ b
kind_eq-same Ww Ww e = refl
kind_eq-same Ww Wr e = absurd (cc (e))
kind_eq-same Ww Rw e = absurd (cc (e))
kind_eq-same Wr Ww e = absurd (cc (e))
kind_eq-same Wr Wr e = refl
kind_eq-same Wr Rw e = absurd (cc (e))
kind_eq-same Rw Ww e = absurd (cc (e))
kind_eq-same Rw Wr e = absurd (cc (e))
kind_eq-same Rw Rw e = refl

pub kind_eq-itself : (a : Kind) → kind_eq a a ≡ true
kind_eq-itself Ww = refl
kind_eq-itself Wr = refl
kind_eq-itself Rw = refl

pub edge : ℕ → Kind → List ℕ → ℕ → Edge
edge a kind k b = record { from = a; kind = kind; key = k; to = b }

pub edge_eq-same : (a b : Edge) → edge_eq a b ≡ true → a ≡ b
unfolding edge
edge_eq-same a b e =
    let one = and_parts _ _ e in
    let two = and_parts _ _ one.0 in
    let three = and_parts _ _ two.0 in
    let from = eqb-true _ _ three.0 in
    let kind = kind_eq-same _ _ three.1 in
    let key = bytes_eq-same _ _ two.1 in
    let to = eqb-true _ _ one.1 in
    ap (λ x. edge x a.kind a.key a.to) from ∙
    (ap (λ x. edge b.from x a.key a.to) kind ∙
    (ap (λ x. edge b.from b.kind x a.to) key ∙ ap (edge b.from b.kind b.key) to))

pub edge_eq-itself : (a : Edge) → edge_eq a a ≡ true
edge_eq-itself a =
    and_from _ _ (and_from _ _ (and_from _ _ (eq-eqb a.from a.from refl) (kind_eq-itself a.kind))
    (bytes_eq-itself a.key)) (eq-eqb a.to a.to refl)

pub edge_eq-from : (a b : Edge) → a ≡ b → edge_eq a b ≡ true
edge_eq-from a b e = subst (λ x. edge_eq a x ≡ true) e (edge_eq-itself a)

-- ---- the edge between two

pub Contains-joined : (kind : Kind) (k : List ℕ) (x y : Option ℕ) (a b : ℕ) → x ≡ Some a → y ≡ Some b → a ≢ b
    → Contains (joined kind k x y) (record { from = a; kind = kind; key = k; to = b })
Contains-joined kind k None y a b e f ne = absurd (none-some a e)
Contains-joined kind k (Some x) None a b e f ne = absurd (none-some b f)
Contains-joined kind k (Some x) (Some y) a b e f ne =
    let p : x ≡ a = same_Some x a e in
    let q : y ≡ b = same_Some y b f in
    let one : Edge = record { from = x; kind = kind; key = k; to = y } in
    let other : (x == y) ≡ false = ne_eqb x y (λ s. ne (sym p ∙ (s ∙ q))) in
    subst (λ c. Contains (cond c [] (one ∷ [])) (record { from = a; kind = kind; key = k; to = b })) (sym other)
    (0, omega arith, cc (p, q))

-- what the ends of such an edge are
pub record Joins (kind : Kind) (k : List ℕ) (x y : Option ℕ) (e : Edge) : Type 0 where
  pub kind_is : e.kind ≡ kind
  pub key_is : e.key ≡ k
  pub from_is : x ≡ Some e.from
  pub to_is : y ≡ Some e.to
  pub apart : e.from ≢ e.to

joined_one : (a b : ℕ) (kind : Kind) (k : List ℕ) (e : Edge) → a ≢ b
    → Contains (record { from = a; kind = kind; key = k; to = b } ∷ []) e → Joins kind k (Some a) (Some b) e
joined_one a b kind k e ne (zero, l, f) = record {
  kind_is = ap (λ x. x.kind) (sym f);
  key_is = ap (λ x. x.key) (sym f);
  from_is = ap (λ x. Some x.from) f;
  to_is = ap (λ x. Some x.to) f;
  apart = λ s. ne (ap (λ x. x.from) f ∙ (s ∙ ap (λ x. x.to) (sym f)));
}
joined_one a b kind k e ne (suc i, l, f) = absurd (omega (arith, l))

pub joined-source : (kind : Kind) (k : List ℕ) (x y : Option ℕ) (e : Edge) → Contains (joined kind k x y) e
    → Joins kind k x y e
joined-source kind k None y e c = absurd (none_contained e c)
joined-source kind k (Some a) None e c = absurd (none_contained e c)
joined-source kind k (Some a) (Some b) e c =
    let one : Edge = record { from = a; kind = kind; key = k; to = b } in
    elim (cases_eq a b) [
      | inl s ↦ absurd (none_contained e (subst (λ t. Contains (cond t [] (one ∷ [])) e) (eq-eqb a b s) c))
      | inr ne ↦ joined_one a b kind k e ne (subst (λ t. Contains (cond t [] (one ∷ [])) e) (ne_eqb a b ne) c)
    ]

-- ---- places

pub Contains-numbers : (from n q : ℕ) → from ≤ q → q < from + n → Contains (numbers from n) q
Contains-numbers from zero q l m = absurd (omega (arith, l, m))
Contains-numbers from (suc n) q l m =
    elim (cases_eq from q) [
      | inl e ↦ (0, omega arith, e)
      | inr e ↦ Contains-cons from (numbers (suc from) n) q
          (Contains-numbers (suc from) n q (omega (arith, l, e)) (omega (arith, m)))
    ]

pub Contains-places : (h : History) (k : List ℕ) (q u : ℕ) → installer h k q ≡ Some u → Contains (places h k) q
Contains-places h k zero u e = absurd (none-some u e)
Contains-places h k (suc q) u e =
    let within = installer_within h k (suc q) u e in
    Contains-numbers 1 (length (writers h k)) (suc q) (omega arith) (omega (arith, within))
