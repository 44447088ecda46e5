use Rattle.std.proofs.Common.{◌≡◌, ◌∙◌, ◌+◌, ◌==◌, suc, Some, None, option_map, ap, arith}
use Rattle.adya_values.specs.Meaning.Histories.{Entry}
use Rattle.adya_values.specs.Meaning.Events.{written}
use Rattle.adya_values.specs.Mirror.Numbers.{version_in}
use Rattle.adya_terms.specs.Machinery.Tables.{written_at, written_by}
use Rattle.adya_terms.specs.Machinery.Telling.{keys_in, told}
use Rattle.adya_terms.proofs.NumberedVersions.{next_is}
use Rattle.adya_terms.proofs.rules.is_next.Goals as goal

pub returns-in-None : goal.returns-in-None
returns-in-None c before e m found =
    let t = c.args.tables.now in
    let v = version_in (keys_in t) c.in-Some.new in
    let wrote = c.in-Some.ensures.version ∙ ap (λ o. option_map (λ (w : Entry). w.version) (written_by o)) found in
    let last = c.in-None.ensures.version ∙ ap (λ p. option_map (λ (w : Entry). w.version) (written_at (told t) p)) c.last_place.ensures in
    ap (λ n. n == 1) (c.from-number.ensures ∙ c.get.ensures.same) ∙ next_is _ _ _ _ _ before m (written e) v wrote None last

pub returns-in-Some-version_at : goal.returns-in-Some-version_at
returns-in-Some-version_at c before e m found =
    let t = c.args.tables.now in
    let v = version_in (keys_in t) c.in-Some.new in
    let x = version_in (keys_in t) c.in-Some-version_at.last in
    let wrote = c.in-Some.ensures.version ∙ ap (λ o. option_map (λ (w : Entry). w.version) (written_by o)) found in
    let last = c.in-Some-version_at.ensures.version ∙ ap (λ p. option_map (λ (w : Entry). w.version) (written_at (told t) p)) c.last_place.ensures in
    let next : c.from.result + 1 ≡ suc x.m = omega (arith, c.from.ensures, c.get-in-Some-version_at.ensures.same) in
    ap (λ n. n == (c.from.result + 1)) (c.from-number.ensures ∙ c.get.ensures.same) ∙
    (ap (λ n. v.m == n) next ∙ next_is _ _ _ _ _ before m (written e) v wrote (Some x) last)
