-- What a limited scan shows.
use Rattle.std.proofs.Common.{◌≡◌, zero, suc, if◌then◌else◌, [], ◌∷◌, take, Some, None, is_some, refl, ap}
use Rattle.std.specs.List.{cons_option}
use Rattle.adya_values.specs.Meaning.Events.{visible}
use Rattle.adya_values.specs.Meaning.Serial.{pair, visible_pair_of, visible_pairs}
use Rattle.ssi_snapshot.specs.Clauses.Listings.{up_to}
use Rattle.ssi_snapshot.specs.Laws.{LimitTakesFirst}

pub limit_first : LimitTakesFirst
limit_first zero ws = refl
limit_first (suc n) [] = refl
limit_first (suc n) (w ∷ ws) =
    let k = w.version.key in
    elim (visible w.content) as (λ o. cons_option (visible_pair_of k o) (visible_pairs (if is_some o then up_to n ws else up_to (suc n) ws))
    ≡ take (suc n) (cons_option (visible_pair_of k o) (visible_pairs ws))) [
      | None ↦ limit_first (suc n) ws
      | Some v ↦ ap (λ ps. pair k v ∷ ps) (limit_first n ws)
    ]
