-- Tables of the writers of order lines, with one more.
use Rattle.std.proofs.Common.{◌≡◌, ℕ, cond, Some, sym, ◌∙◌, ap, inl, inr}
use Rattle.std.specs.Ordering.{is_eq, nat_cmp}
use Rattle.std.specs.Cmp.{unsigned_tied}
use Rattle.std.specs.BTreeMap.{BTreeMap, get}
use Rattle.std.proofs.lemmas.Bool.{cases_Bool, eqb-true}
use Rattle.adya_values.specs.Meaning.Histories.{History}
use Rattle.adya_values.specs.Meaning.Orders.{writers}
use Rattle.adya_dsg.specs.declared.txn_places.TxnPlaces.{TxnPlaces}
use Rattle.adya_dsg.specs.Machinery.Choices.{key_at}
use Rattle.adya_dsg.specs.Machinery.Places.{AreTables}

pub table_added : (h : History) (old new : BTreeMap ℕ TxnPlaces) (line : ℕ) (t : TxnPlaces) → AreTables h old
    → t.txns.now ≡ writers h (key_at h line)
    → ((i : ℕ) → get nat_cmp new i ≡ cond (is_eq (nat_cmp line i)) (Some t) (get nat_cmp old i)) → AreTables h new
table_added h old new line t before of added i u at =
    elim (cases_Bool (is_eq (nat_cmp line i))) [
      | inl here ↦
          let same : line ≡ i = eqb-true line i (sym (unsigned_tied line i) ∙ here) in
          let it : Some t ≡ Some u = sym (added i ∙ ap (λ b. cond b (Some t) (get nat_cmp old i)) here) ∙ at in
          let table : t ≡ u = cc (it) in
          ap (λ (x : TxnPlaces). x.txns.now) (sym table) ∙ (of ∙ ap (λ j. writers h (key_at h j)) same)
      | inr other ↦ before i u (sym (added i ∙ ap (λ b. cond b (Some t) (get nat_cmp old i)) other) ∙ at)
    ]
