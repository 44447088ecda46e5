-- Equality of contents, versions and entries, as a test and as a fact.
use Rattle.std.proofs.Common.{◌≡◌, true, Option, Some, None, refl, sym, ◌∙◌, ap, subst}
use Rattle.std.proofs.lemmas.Bool.{and_parts, and_from, eqb-true, eq-eqb}
use Rattle.lemmas.proofs.Booleans.{same_test}
use Rattle.lemmas.proofs.Orderings.{bytes_eq-same, bytes_eq-itself}
use Rattle.adya_values.specs.declared.event.Version.{Version}
use Rattle.adya_values.specs.Meaning.Histories.{Content, Live, Dead, Entry}
use Rattle.adya_values.specs.Meaning.Events.{version, entry}
use Rattle.adya_values.specs.Computing.Faults.{content_eq, version_eq, entry_eq, is_entry}

pub content_eq-same : (a b : Content) → content_eq a b ≡ true → a ≡ b
content_eq-same (Live v) (Live w) e = ap Live (bytes_eq-same v w e)
content_eq-same (Live v) Dead e = absurd (cc (e))
content_eq-same Dead (Live w) e = absurd (cc (e))
content_eq-same Dead Dead e = refl

pub content_eq-itself : (a : Content) → content_eq a a ≡ true
content_eq-itself (Live v) = bytes_eq-itself v
content_eq-itself Dead = refl

pub version_eq-same : (a b : Version) → version_eq a b ≡ true → a ≡ b
version_eq-same a b e =
    let one = and_parts _ _ e in
    let two = and_parts _ _ one.1 in
    ap (λ k. version k a.txn a.m) (bytes_eq-same _ _ one.0) ∙
    (ap (λ t. version b.key t a.m) (eqb-true _ _ two.0) ∙ ap (version b.key b.txn) (eqb-true _ _ two.1))

pub version_eq-itself : (a : Version) → version_eq a a ≡ true
version_eq-itself a =
    and_from _ _ (bytes_eq-itself a.key) (and_from _ _ (eq-eqb a.txn a.txn refl) (eq-eqb a.m a.m refl))

pub entry_eq-same : (a b : Entry) → entry_eq a b ≡ true → a ≡ b
entry_eq-same a b e =
    let both = and_parts _ _ e in
    ap (λ v. entry v a.content) (version_eq-same _ _ both.0) ∙ ap (entry b.version) (content_eq-same _ _ both.1)

pub entry_eq-itself : (a : Entry) → entry_eq a a ≡ true
entry_eq-itself a = and_from _ _ (version_eq-itself a.version) (content_eq-itself a.content)

pub entry_eq-from : (a b : Entry) → a ≡ b → entry_eq a b ≡ true
entry_eq-from a b e = subst (λ c. entry_eq a c ≡ true) e (entry_eq-itself a)

pub entry_eq-turned : (a b : Entry) → entry_eq a b ≡ entry_eq b a
entry_eq-turned a b =
    same_test _ _ (λ e. entry_eq-from b a (sym (entry_eq-same a b e))) (λ e. entry_eq-from a b (sym (entry_eq-same b a e)))

pub is_entry-same : (o : Option Entry) (w : Entry) → is_entry o w ≡ true → o ≡ Some w
is_entry-same None w e = absurd (cc (e))
is_entry-same (Some a) w e = ap Some (entry_eq-same a w e)

pub is_entry-from : (o : Option Entry) (w : Entry) → o ≡ Some w → is_entry o w ≡ true
is_entry-from o w e = subst (λ x. is_entry x w ≡ true) (sym e) (entry_eq-itself w)
