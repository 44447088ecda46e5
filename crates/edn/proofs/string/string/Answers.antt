use Rattle.std.proofs.Common.{ap, ◌∙◌, refl, rules}
use Rattle.edn.specs.Computing.Strings.{with_bytes, quoted_at}
use Rattle.edn.proofs.Fronts.{behind}
use Rattle.edn.proofs.StringTexts.{behind_within, plain_more}
use Rattle.edn.proofs.string.string.Goals as goal

pub loop-rest-preserved : goal.loop-rest-preserved
loop-rest-preserved c =
    let text = c.loop-rest.rest.now in
    let less = c.loop-rest.invariant.1 in (
      ap (λ x. with_bytes x (quoted_at 0 (behind text))) c.in_ok-push-in_default-byte.ensures.items
          ∙ plain_more text c.loop-rest.bytes.items _ c.in-len1-up.len_at_least refl (search rules) (search rules)
          ∙ c.loop-rest.invariant.0,
      behind_within text _ less,
    )
