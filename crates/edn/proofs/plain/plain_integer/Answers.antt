use Rattle.std.proofs.Common.{sym, ◌∙◌, ◌≡◌, subst, arith}
use Rattle.std.proofs.lemmas.Int.{to_z-of_z}
use mir.Val.{to_z, of_z}
use mir.Syntax.{w64}
use Rattle.edn.specs.Meaning.Forms.{integer}
use Rattle.edn.specs.Meaning.Tokens.{leaf}
use Rattle.edn.specs.Computing.Tokens.{token, token_at}
use Rattle.edn.proofs.PlainWords.{plain_integer_read}
use Rattle.edn.proofs.plain.plain_integer.Goals as goal

pub returns-clause-exact : goal.returns-clause-exact
returns-clause-exact c = λ beyond.
    let z = c.in_ok-positive.field-0 in
    let same : to_z w64 (of_z w64 z) ≡ z = grind (arith, to_z-of_z) in
    subst (λ v. token_at beyond c.args.text.now ≡ token (leaf (integer v)) c.in_ok-magnitude.rest.now) (sym same)
    (plain_integer_read beyond c.args.text.now c.in_ok-magnitude.rest.now c.in_ok-magnitude.magnitude z
    (sym c.begins_plain.ensures ∙ c.if-not-begins_plain.false)
    (rw c.in_ok-magnitude.magnitude-is at c.in_ok-magnitude.ensures.value)
    (rw c.in_ok-magnitude.rest-is at c.in_ok-magnitude.ensures.rest)
    (sym c.begins_with_end.ensures ∙ c.if-not-begins_with_end.false)
    (sym c.positive.ensures ∙ c.in_ok-positive.was))
