-- Prefixes, ranges, places and marks are equal if they compare as equal.
use Rattle.std.proofs.Common.{◌≡◌, ◌≢◌, ℕ, true, false, true≢false, ◌&&◌, List, Option, Some, None, refl, sym, ◌∙◌, ap}
use Rattle.std.specs.Ordering.{nat_cmp, is_eq, ordering_then}
use Rattle.std.specs.Cmp.Lexicographic.{slice_cmp, nat_list_cmp_total}
use Rattle.std.specs.declared.cmp.Ordering.{Ordering}
use Rattle.std.specs.declared.cmp.Ordering.TheVariants.{Less, Equal, Greater}
use Rattle.std.proofs.lemmas.Bool.{and_parts, and_from, false_from_ne_true}
use Rattle.std.proofs.lemmas.Cmp.{tied_itself, nat_cmp_total}
use Rattle.ssi_reads.specs.declared.span.Span.{Span}
use Rattle.ssi_reads.specs.declared.span.Mark.{Mark}
use Rattle.ssi_reads.specs.declared.place.Place.{Place}
use Rattle.ssi_reads.specs.Machinery.Prefixes.{prefix_cmp, span_cmp, mark_cmp, place_cmp}
use Rattle.ssi_reads.proofs.Numbers.{same_txn, same_key}

then_is_eq : (o p : Ordering) → is_eq (ordering_then o p) ≡ (is_eq o && is_eq p)
then_is_eq Less p = refl
then_is_eq Equal p = refl
then_is_eq Greater p = refl

txn_itself : (t : ℕ) → is_eq (nat_cmp t t) ≡ true
txn_itself t = ap is_eq (tied_itself nat_cmp_total t)

key_itself : (k : List ℕ) → is_eq (slice_cmp nat_cmp k k) ≡ true
key_itself k = ap is_eq (tied_itself nat_list_cmp_total k)

pub prefix_itself : (q : Option (List ℕ)) → is_eq (prefix_cmp q q) ≡ true
prefix_itself None = refl
prefix_itself (Some k) = key_itself k

pub same_prefix : (q r : Option (List ℕ)) → is_eq (prefix_cmp q r) ≡ true → q ≡ r
same_prefix None None h = refl
same_prefix None (Some k) h = absurd (true≢false (sym h))
same_prefix (Some k) None h = absurd (true≢false (sym h))
same_prefix (Some j) (Some k) h = ap Some (same_key j k h)

span_itself : (s : Span) → is_eq (span_cmp s s) ≡ true
span_itself s = then_is_eq _ _ ∙ and_from _ _ (key_itself s.low) (key_itself s.high)

same_span : (s r : Span) → is_eq (span_cmp s r) ≡ true → s ≡ r
same_span s r h =
    let both = and_parts _ _ (sym (then_is_eq (slice_cmp nat_cmp s.low r.low) (slice_cmp nat_cmp s.high r.high)) ∙ h) in
    λ i. record { low = same_key s.low r.low both.0 i; high = same_key s.high r.high both.1 i }

pub mark_itself : (m : Mark) → is_eq (mark_cmp m m) ≡ true
mark_itself m = then_is_eq _ _ ∙ and_from _ _ (span_itself m.span) (txn_itself m.txn)

pub same_mark : (m n : Mark) → is_eq (mark_cmp m n) ≡ true → m ≡ n
same_mark m n h =
    let both = and_parts _ _ (sym (then_is_eq (span_cmp m.span n.span) (nat_cmp m.txn n.txn)) ∙ h) in
    λ i. record { span = same_span m.span n.span both.0 i; txn = same_txn m.txn n.txn both.1 i }

pub place_itself : (p : Place) → is_eq (place_cmp p p) ≡ true
place_itself p = then_is_eq _ _ ∙ and_from _ _ (prefix_itself p.prefix) (span_itself p.span)

pub same_place : (p q : Place) → is_eq (place_cmp p q) ≡ true → p ≡ q
same_place p q h =
    let both = and_parts _ _ (sym (then_is_eq (prefix_cmp p.prefix q.prefix) (span_cmp p.span q.span)) ∙ h) in
    λ i. record { prefix = same_prefix p.prefix q.prefix both.0 i; span = same_span p.span q.span both.1 i }

-- marks of different transactions
pub other_mark : (t : ℕ) (s : Span) (x : Mark) → x.txn ≢ t → is_eq (mark_cmp (record { span = s; txn = t }) x) ≡ false
other_mark t s x ne =
    false_from_ne_true _ (λ h. ne (sym (λ i. (same_mark (record { span = s; txn = t }) x h i).txn)))
