-- Writes in an index map, each under its own key.
use Rattle.std.proofs.Common.{◌≡◌, ℕ, ◌<◌, true, false, cond, if◌then◌else◌, List, [], ◌∷◌, get_or, Some, is_some, refl, ◌∙◌, ap, sym, subst, nat_eq, Option, None, option_map, arith}
use Rattle.std.specs.List.{IsDistinct}
use Rattle.std.specs.Map.{lookup, keys_of}
use Rattle.std.specs.Cmp.Lexicographic.{pointwise, nat_list_eq_equiv}
use Rattle.std.proofs.lemmas.Bool.{and_parts, and_from}
use Rattle.std.proofs.lemmas.List.{length-map, get_or-map}
use Rattle.std.proofs.lemmas.Map.Keys.{apart_from_distinct}
use Rattle.indexmap.specs.IndexMap.{insert_entry}
use Rattle.lemmas.proofs.Orderings.{bytes_eq-same, bytes_eq-from}
use Rattle.adya_keys.specs.Meaning.Keys.{key_eq}
use Rattle.adya_values.specs.Meaning.Histories.{Entry}
use Rattle.adya_values.specs.Meaning.Events.{listed}
use Rattle.ssi_versions.specs.Clauses.Conditions.{AreApart}
use Rattle.ssi_versions.specs.Mirror.{write_of}
use Rattle.ssi_snapshot.specs.Clauses.Writes.{put_write}
use Rattle.ssi_snapshot.specs.Clauses.Listings.{keys}
use Rattle.ssi_snapshot.specs.Machinery.Stored.{are_keyed, Write, write_key, stored_writes}

abbrev Stored : Type 0
Stored = List (List ℕ × Write)

abbrev inserted : Stored → List ℕ → Write → Stored
inserted es key w = insert_entry (pointwise nat_eq) es key w

-- an insert is a write
pub stored_put : (es : Stored) (key : List ℕ) (w : Write) → are_keyed write_key es ≡ true → w.0.key ≡ key
    → stored_writes (inserted es key w) ≡ put_write (write_of w) (stored_writes es)
stored_put [] key w keyed is = refl
stored_put (e ∷ es) key w keyed is =
    let o = and_parts (key_eq e.1.0.key e.0) (are_keyed write_key es) keyed in
    let test : pointwise nat_eq key e.0 ≡ key_eq e.1.0.key w.0.key =
    nat_list_eq_equiv.symm key e.0 ∙ (ap (λ k. key_eq k key) (sym (bytes_eq-same e.1.0.key e.0 o.0)) ∙ ap (key_eq e.1.0.key) (sym is)) in
    ap (λ b. stored_writes (if b then (e.0, w) ∷ es else e ∷ inserted es key w)) test
    ∙ elim (key_eq e.1.0.key w.0.key) as (λ b. stored_writes (if b then (e.0, w) ∷ es else e ∷ inserted es key w)
    ≡ (if b then write_of w ∷ stored_writes es else write_of e.1 ∷ put_write (write_of w) (stored_writes es))) [
      | true ↦ refl
      | false ↦ ap (λ ws. write_of e.1 ∷ ws) (stored_put es key w o.1 is)
    ]

pub keyed_put : (es : Stored) (key : List ℕ) (w : Write) → are_keyed write_key es ≡ true → w.0.key ≡ key
    → are_keyed write_key (inserted es key w) ≡ true
keyed_put [] key w keyed is = and_from (key_eq w.0.key key) true (bytes_eq-from w.0.key key is) refl
keyed_put (e ∷ es) key w keyed is =
    let o = and_parts (key_eq e.1.0.key e.0) (are_keyed write_key es) keyed in
    elim (pointwise nat_eq key e.0) as (λ b. pointwise nat_eq key e.0 ≡ b → are_keyed write_key (if b then (e.0, w) ∷ es else e ∷ inserted es key w) ≡ true) [
      | true ↦ λ t. and_from (key_eq w.0.key e.0) (are_keyed write_key es) (bytes_eq-from w.0.key e.0 (is ∙ bytes_eq-same key e.0 t)) o.1
      | false ↦ λ f. and_from (key_eq e.1.0.key e.0) (are_keyed write_key (inserted es key w)) o.0 (keyed_put es key w o.1 is)
    ] refl

-- a look-up finds the write of the key
pub stored_found : (es : Stored) (key : List ℕ) → are_keyed write_key es ≡ true
    → option_map write_of (lookup (pointwise nat_eq key) es) ≡ listed key (stored_writes es)
stored_found [] key keyed = refl
stored_found (e ∷ es) key keyed =
    let o = and_parts (key_eq e.1.0.key e.0) (are_keyed write_key es) keyed in
    let test : pointwise nat_eq key e.0 ≡ key_eq e.1.0.key key =
    nat_list_eq_equiv.symm key e.0 ∙ ap (λ k. key_eq k key) (sym (bytes_eq-same e.1.0.key e.0 o.0)) in
    ap (λ b. option_map write_of (cond b (Some e.1) (lookup (pointwise nat_eq key) es))) test
    ∙ elim (key_eq e.1.0.key key) as (λ b. option_map write_of (cond b (Some e.1) (lookup (pointwise nat_eq key) es)) ≡ (if b then Some (write_of e.1) else listed key (stored_writes es))) [
      | true ↦ refl
      | false ↦ stored_found es key o.1
    ]

pub some_mapped : {X Y : Type 0} (f : X → Y) (o : Option X) → is_some o ≡ is_some (option_map f o)
some_mapped f None = refl
some_mapped f (Some x) = refl

pub keys_stored : (es : Stored) → are_keyed write_key es ≡ true → keys_of es ≡ keys (stored_writes es)
keys_stored [] keyed = refl
keys_stored (e ∷ es) keyed =
    let o = and_parts (key_eq e.1.0.key e.0) (are_keyed write_key es) keyed in
    ap (λ k. k ∷ keys_of es) (sym (bytes_eq-same e.1.0.key e.0 o.0)) ∙ ap (λ ks. e.1.0.key ∷ ks) (keys_stored es o.1)

-- a key stands once
pub stored_apart : (es : Stored) → are_keyed write_key es ≡ true → IsDistinct (pointwise nat_eq) (keys_of es) → AreApart (stored_writes es)
stored_apart es keyed distinct = λ i j d lt in'.
    let ws = stored_writes es in
    let key : Entry → List ℕ = λ w. w.version.key in
    let here : IsDistinct (pointwise nat_eq) (keys ws) = subst (IsDistinct (pointwise nat_eq)) (keys_stored es keyed) distinct in
    let apart = apart_from_distinct (pointwise nat_eq) (keys ws) i j (key d) here lt (subst (λ n. j < n) (sym (length-map ws key)) in') in
    ap (λ k. pointwise nat_eq k (key (get_or ws j d))) (sym (get_or-map key ws i d (key d) (omega (arith, lt, in'))))
    ∙ ap (pointwise nat_eq (get_or (keys ws) i (key d))) (sym (get_or-map key ws j d (key d) in')) ∙ apart
