-- The keys of which a version was installed: they rise, and a held version is of one of them.
use Rattle.std.proofs.Common.{◌≡◌, ◌⊎◌, inl, inr, ℕ, zero, suc, true, false, List, [], ◌∷◌, ◌++◌, map, get_or, None, refl, ◌∙◌, ap, subst, arith}
use Rattle.std.specs.List.{AllPairs, Contains, filter}
use Rattle.std.proofs.lemmas.Bool.{cases_Bool}
use Rattle.std.proofs.lemmas.List.Elements.{Contains-get_or}
use Rattle.lemmas.proofs.Orderings.{bytes_eq-same}
use Rattle.adya_keys.specs.Meaning.Keys.{key_eq, keys_rise}
use Rattle.adya_values.specs.Meaning.Histories.{Entry}
use Rattle.adya_values.specs.Meaning.Events.{listed}
use Rattle.adya_keys.proofs.Keys.{keys_rise-tail, rises_other}
use Rattle.adya_values.proofs.InsertedKeys.{Contains-insert, Contains-inserted, insert_rises}
use Rattle.adya_values.specs.Meaning.KeySets.{insert}
use Rattle.ssi_versions.specs.Meaning.Changes.{Change, Installs, Collects, held, insert_keys, installed_keys, is_needed, listing, stamped}

-- no key stands twice
abbrev pub AreDistinct : List (List ℕ) → Type 0
AreDistinct ks = AllPairs (λ a b. key_eq a b ≡ false) ks

same_keys : (ks : List (List ℕ)) → map (λ k. k) ks ≡ ks
same_keys [] = refl
same_keys (k ∷ ks) = ap (λ js. k ∷ js) (same_keys ks)

head_other : (k : List ℕ) (ks : List (List ℕ)) (j : List ℕ) → keys_rise (k ∷ ks) ≡ true → Contains ks j → key_eq k j ≡ false
head_other k ks j r c = rises_other (λ x. x) k ks j (ap keys_rise (same_keys (k ∷ ks)) ∙ r) c

distinct : (ks : List (List ℕ)) → keys_rise ks ≡ true → AreDistinct ks
distinct [] r i j d l m = absurd (omega (arith, m))
distinct (k ∷ ks) r i zero d l m = absurd (omega (arith, l))
distinct (k ∷ ks) r zero (suc j) d l m = head_other k ks (get_or ks j d) r (Contains-get_or ks j d (omega (arith, m)))
distinct (k ∷ ks) r (suc i) (suc j) d l m = distinct ks (keys_rise-tail k ks r) i j d (omega (arith, l)) (omega (arith, m))

insert_keys-rise : (ws : List Entry) (ks : List (List ℕ)) → keys_rise ks ≡ true → keys_rise (insert_keys ws ks) ≡ true
insert_keys-rise [] ks r = r
insert_keys-rise (w ∷ ws) ks r = insert_rises w.version.key (insert_keys ws ks) (insert_keys-rise ws ks r)

keys_installed_rise : (changes : List Change) → keys_rise (installed_keys changes) ≡ true
keys_installed_rise [] = refl
keys_installed_rise (Installs n ws ∷ changes) = insert_keys-rise ws (installed_keys changes) (keys_installed_rise changes)
keys_installed_rise (Collects ss ∷ changes) = keys_installed_rise changes

pub installed_distinct : (changes : List Change) → AreDistinct (installed_keys changes)
installed_distinct changes = distinct (installed_keys changes) (keys_installed_rise changes)

insert_keys-keep : (ws : List Entry) (ks : List (List ℕ)) (k : List ℕ) → Contains ks k → Contains (insert_keys ws ks) k
insert_keys-keep [] ks k c = c
insert_keys-keep (w ∷ ws) ks k c = Contains-inserted w.version.key (insert_keys ws ks) k (insert_keys-keep ws ks k c)

-- a key is installed, or none of these writes is of it
insert_keys-listed : (ws : List Entry) (ks : List (List ℕ)) (k : List ℕ) → Contains (insert_keys ws ks) k ⊎ (listed k ws ≡ None)
insert_keys-listed [] ks k = inr refl
insert_keys-listed (w ∷ ws) ks k =
    elim (cases_Bool (key_eq w.version.key k)) [
      | inl same ↦ inl (subst (λ x. Contains (insert w.version.key (insert_keys ws ks)) x) (bytes_eq-same w.version.key k same) (Contains-insert w.version.key (insert_keys ws ks)))
      | inr other ↦ elim (insert_keys-listed ws ks k) [
        | inl c ↦ inl (Contains-inserted w.version.key (insert_keys ws ks) k c)
        | inr e ↦ inr (rw other e)
      ]
    ]

pub held_installed : (changes : List Change) (k : List ℕ) → Contains (installed_keys changes) k ⊎ (held k changes ≡ [])
held_installed [] k = inr refl
held_installed (Collects ss ∷ changes) k =
    elim (held_installed changes k) [ inl c ↦ inl c | inr e ↦ inr (ap (filter (is_needed k ss changes)) e) ]
held_installed (Installs n ws ∷ changes) k =
    elim (held_installed changes k) [
      | inl c ↦ inl (insert_keys-keep ws (installed_keys changes) k c)
      | inr e ↦ elim (insert_keys-listed ws (installed_keys changes) k) [
        | inl c ↦ inl c
        | inr o ↦ inr (ap (λ hs. hs ++ listing (stamped n (listed k ws))) e ∙ ap (λ p. listing (stamped n p)) o)
      ]
    ]
