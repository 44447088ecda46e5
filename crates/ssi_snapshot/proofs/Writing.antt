-- A list of writes after one more write.
use Rattle.std.proofs.Common.{◌≡◌, ℕ, ◌+◌, ◌≤◌, true, false, if◌then◌else◌, List, [], ◌∷◌, ◌++◌, Some, is_some, refl, ◌∙◌, ap, sym, arith}
use Rattle.std.proofs.lemmas.Bool.{both_ways}
use Rattle.lemmas.proofs.Orderings.{bytes_eq-same, bytes_eq-from, bytes_eq-other}
use Rattle.adya_keys.specs.Meaning.Keys.{key_eq}
use Rattle.adya_values.specs.Meaning.Histories.{Entry}
use Rattle.adya_values.specs.Meaning.Events.{listed}
use Rattle.ssi_snapshot.specs.Clauses.Writes.{put_write, mod_of}
use Rattle.ssi_snapshot.specs.Clauses.Listings.{keys}
use Rattle.ssi_snapshot.specs.Laws.{PutIsFound, PutKeepsOrder}

pub put_found : PutIsFound
put_found w [] key = refl
put_found w (v ∷ vs) key =
    elim (key_eq v.version.key w.version.key) as (λ b. key_eq v.version.key w.version.key ≡ b
    → listed key (if b then w ∷ vs else v ∷ put_write w vs) ≡ (if key_eq w.version.key key then Some w else (if key_eq v.version.key key then Some v else listed key vs))) [
      | true ↦ λ t.
          elim (key_eq w.version.key key) as (λ b. key_eq w.version.key key ≡ b
          → (if b then Some w else listed key vs) ≡ (if b then Some w else (if key_eq v.version.key key then Some v else listed key vs))) [
            | true ↦ λ _. refl
            | false ↦ λ f. ap (λ b. if b then Some v else listed key vs) (sym (ap (λ k. key_eq k key) (bytes_eq-same v.version.key w.version.key t) ∙ f))
          ] refl
      | false ↦ λ f.
          elim (key_eq v.version.key key) as (λ b. key_eq v.version.key key ≡ b
          → (if b then Some v else listed key (put_write w vs)) ≡ (if key_eq w.version.key key then Some w else (if b then Some v else listed key vs))) [
            | true ↦ λ t.
                let other : key_eq w.version.key key ≡ false =
                bytes_eq-other w.version.key key (λ e. both_ways (key_eq v.version.key w.version.key) f (bytes_eq-from v.version.key w.version.key (bytes_eq-same v.version.key key t ∙ sym e))) in
                ap (λ b. if b then Some w else Some v) (sym other)
            | false ↦ λ _. put_found w vs key
          ] refl
    ] refl

pub put_keys : PutKeepsOrder
put_keys w [] = refl
put_keys w (v ∷ vs) =
    elim (key_eq v.version.key w.version.key) as (λ b. key_eq v.version.key w.version.key ≡ b
    → keys (if b then w ∷ vs else v ∷ put_write w vs)
    ≡ (if is_some (if b then Some v else listed w.version.key vs) then v.version.key ∷ keys vs else (v.version.key ∷ keys vs) ++ w.version.key ∷ [])) [
      | true ↦ λ t. ap (λ k. k ∷ keys vs) (sym (bytes_eq-same v.version.key w.version.key t))
      | false ↦ λ f.
          ap (λ ks. v.version.key ∷ ks) (put_keys w vs)
          ∙ elim (is_some (listed w.version.key vs)) as (λ b. v.version.key ∷ (if b then keys vs else keys vs ++ w.version.key ∷ [])
          ≡ (if b then v.version.key ∷ keys vs else (v.version.key ∷ keys vs) ++ w.version.key ∷ [])) [
            | true ↦ refl
            | false ↦ refl
          ]
    ] refl

-- no number of a modification is above the count of writes
pub count_more : (w : Entry) (ws : List Entry) (n : ℕ) (key : List ℕ) → w.version.m ≤ n + 1 → mod_of (listed key ws) ≤ n
    → mod_of (listed key (put_write w ws)) ≤ n + 1
count_more w ws n key new old =
    let at_most : mod_of (if key_eq w.version.key key then Some w else listed key ws) ≤ n + 1 =
    elim (key_eq w.version.key key) as (λ b. mod_of (if b then Some w else listed key ws) ≤ n + 1) [
      | true ↦ new
      | false ↦ omega (arith, old)
    ] in
    omega (arith, at_most, ap mod_of (put_found w ws key))
