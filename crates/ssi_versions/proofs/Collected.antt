-- A collection, chain by chain.
use Rattle.std.proofs.Common.{◌≡◌, ℕ, suc, ◌≤◌, true, false, cond, if◌then◌else◌, List, [], ◌∷◌, map, length, Some, refl, ◌∙◌, ap, sym, arith}
use Rattle.std.specs.List.{filter, list_all}
use Rattle.std.specs.BTreeMap.{is_at}
use Rattle.std.specs.Map.{keys_of}
use Rattle.std.specs.Ordering.{nat_cmp}
use Rattle.std.specs.List.Sorted.{IsStrictlySortedBy}
use Rattle.std.specs.Cmp.Lexicographic.{slice_cmp}
use Rattle.std.proofs.lemmas.Bool.{and_parts, and_from}
use Rattle.std.proofs.lemmas.List.{length-append}
use Rattle.ssi_versions.specs.Clauses.ByStamp.{IsByStamp, is_wanted}
use Rattle.ssi_versions.specs.Mirror.{is_of, chain_of}
use Rattle.ssi_versions.specs.Computing.Kept.{kept}
use Rattle.ssi_versions.specs.Machinery.Keyed.{Chain, held_in, held_at, held_under, kept_at, versions, is_owned, is_filled, filled_count, kept_vec}
use Rattle.ssi_versions.proofs.Entries.{chain_get}
use Rattle.ssi_versions.proofs.Keeping.{kept_places_held, all-kept, kept-filled, kept-shorter, kept_of}

abbrev pub collected : List ℕ → List Chain → List Chain
collected ss es = map (λ e. (e.0, kept_vec ss e.1)) es

pub held_at-collected : (ss : List ℕ) (q : List ℕ) (es : List Chain) → held_at q (collected ss es) ≡ kept ss (held_at q es)
held_at-collected ss q [] = refl
held_at-collected ss q (e ∷ es) =
    elim (is_at (slice_cmp nat_cmp q) e.0) as (λ b. held_under (cond b (Some (kept_vec ss e.1)) (kept_at q (collected ss es))) ≡ kept ss (held_under (cond b (Some e.1) (kept_at q es)))) [
      | true ↦ kept_places_held ss e.1.items
      | false ↦ held_at-collected ss q es
    ]

pub owned-collected : (ss : List ℕ) (es : List Chain) → is_owned es ≡ true → is_owned (collected ss es) ≡ true
owned-collected ss [] owned = refl
owned-collected ss (e ∷ es) owned =
    let o = and_parts (list_all (is_of e.0) (held_in e.1)) (is_owned es) owned in
    and_from (list_all (is_of e.0) (held_in (kept_vec ss e.1))) (is_owned (collected ss es))
    (ap (list_all (is_of e.0)) (kept_places_held ss e.1.items) ∙ all-kept (is_of e.0) ss (held_in e.1) o.0) (owned-collected ss es o.1)

pub filled-collected : (ss : List ℕ) (es : List Chain) → filled_count (collected ss es) ≡ filled_count es
filled-collected ss [] = refl
filled-collected ss (e ∷ es) =
    ap (λ b. if b then suc (filled_count (collected ss es)) else filled_count (collected ss es)) (ap is_filled (kept_places_held ss e.1.items) ∙ kept-filled ss (held_in e.1))
    ∙ ap (λ n. if is_filled (held_in e.1) then suc n else n) (filled-collected ss es)

pub shorter-collected : (ss : List ℕ) (es : List Chain) → length (versions (collected ss es)) ≤ length (versions es)
shorter-collected ss [] = omega arith
shorter-collected ss (e ∷ es) =
    omega (
      arith,
      length-append (held_in (kept_vec ss e.1)) (versions (collected ss es)),
      length-append (held_in e.1) (versions es),
      ap length (kept_places_held ss e.1.items),
      kept-shorter ss (held_in e.1),
      shorter-collected ss es,
    )

pub wanted-collected : (ss : List ℕ) (q : List ℕ) (es fs : List Chain) → is_owned es ≡ true → IsStrictlySortedBy (slice_cmp nat_cmp) (keys_of es)
    → IsStrictlySortedBy (slice_cmp nat_cmp) (keys_of fs) → IsByStamp (chain_of q (versions es)) → fs ≡ collected ss es
    → chain_of q (versions fs) ≡ filter (is_wanted ss (chain_of q (versions es))) (chain_of q (versions es))
wanted-collected ss q es fs owned sorted still rise e =
    chain_get q fs (ap is_owned e ∙ owned-collected ss es owned) still ∙ ap (held_at q) e ∙ held_at-collected ss q es ∙ ap (kept ss) (sym (chain_get q es owned sorted))
    ∙ kept_of ss (chain_of q (versions es)) rise
