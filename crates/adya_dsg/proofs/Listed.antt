-- What a scan lists of a key, among entries whose keys rise.
use Rattle.std.proofs.Common.{◌≡◌, ℕ, zero, suc, ◌+◌, ◌<◌, true, false, cond, List, [], ◌∷◌, map, drop, length, get_or, slice_get, Some, None, refl, sym, ◌∙◌, ap, subst}
use Rattle.std.proofs.lemmas.Bool.{and_parts}
use Rattle.std.proofs.lemmas.Option.{slice_get_read}
use Rattle.lemmas.proofs.Orderings.{bytes_eq-from, bytes_eq-other, bytes_lt-trans}
use Rattle.lemmas.proofs.Steps.{drop_step}
use Rattle.adya_keys.proofs.Keys.{keys_rise-tail}
use Rattle.adya_values.specs.declared.seen.Seen.{Seen}
use Rattle.adya_keys.specs.Meaning.Keys.{Key, key_lt, keys_rise}
use Rattle.adya_values.specs.Meaning.Histories.{Entry}
use Rattle.adya_values.specs.Meaning.Events.{listed}
use Rattle.adya_dsg.proofs.Keys.{key_eq-gt, lt-other}

abbrev key : Entry → Key
key w = w.version.key

none_above : (w : Entry) (ws : List Entry) (k : Key) → keys_rise (map key (w ∷ ws)) ≡ true → key_lt k (key w) ≡ true
    → listed k (w ∷ ws) ≡ None
none_above w [] k r above = ap (λ b. cond b (Some w) None) (key_eq-gt (key w) k above)
none_above w (x ∷ ws) k r above =
    ap (λ b. cond b (Some w) (listed k (x ∷ ws))) (key_eq-gt (key w) k above) ∙
    none_above x ws k (keys_rise-tail (key w) (map key (x ∷ ws)) r) (bytes_lt-trans k (key w) (key x) above (and_parts _ _ r).0)

module _ (view : Seen → Entry) where
  rise_from : (seen : List Seen) (i : ℕ) → keys_rise (map key (map view seen)) ≡ true
      → keys_rise (map key (map view (drop i seen))) ≡ true
  rise_from seen zero r = r
  rise_from [] (suc i) r = refl
  rise_from (s ∷ seen) (suc i) r = rise_from seen i (keys_rise-tail (key (view s)) (map key (map view seen)) r)

  -- from an index on, by the entry at it
  module _ (seen : List Seen) (i : ℕ) (s : Seen) (l : i < length seen) (at : s ≡ get_or seen i s) (k : Key) where
    splits : map view (drop i seen) ≡ view s ∷ map view (drop (i + 1) seen)
    splits = ap (map view) (drop_step seen i s l at)

    pub passed_over : (k ≡ key (view s) → ⊥) → listed k (map view (drop (i + 1) seen)) ≡ listed k (map view (drop i seen))
    passed_over other =
        sym
        (ap (listed k) splits ∙
        ap (λ b. cond b (Some (view s)) (listed k (map view (drop (i + 1) seen))))
        (bytes_eq-other (key (view s)) k (λ e. other (sym e))))

    pub listed_here : key (view s) ≡ k → Some (view s) ≡ listed k (map view (drop i seen))
    listed_here same =
        sym
        (ap (listed k) splits ∙
        ap (λ b. cond b (Some (view s)) (listed k (map view (drop (i + 1) seen)))) (bytes_eq-from (key (view s)) k same))

    -- it isn't below the key, and of another
    pub unlisted : keys_rise (map key (map view seen)) ≡ true
        → ((x : Seen) → slice_get seen i ≡ Some x → key_lt (key (view x)) k ≡ false) → (key (view s) ≡ k → ⊥)
        → None ≡ listed k (map view (drop i seen))
    unlisted r reached other =
        sym
        (ap (listed k) splits ∙
        none_above (view s) (map view (drop (i + 1) seen)) k
        (subst (λ ws. keys_rise (map key ws) ≡ true) splits (rise_from seen i r)) (lt-other (key (view s)) k (reached s (slice_get_read seen (length seen) i s refl l at)) other))
