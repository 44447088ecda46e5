use Rattle.std.proofs.Common.{sym, ap, ◌∙◌}
use Rattle.edn.specs.Computing.Strings.{with_character, quoted_at}
use Rattle.edn.proofs.StringTexts.{escape_stands, after_none, after_some}
use Rattle.edn.proofs.string.escape.Goals as goal

pub returns-in-Some-clause-exact : goal.returns-in-Some-clause-exact
returns-in-Some-clause-exact c =
    let e = c.split_at.result.0.now in
    let r = c.split_at.result.1.now in
    escape_stands c.args.text.now c.escape_len.result e r c.escape_len.ensures.value c.split_at.ensures.front c.split_at.ensures.back
    ∙ after_some e r (quoted_at 0 r) c.character_of.result (sym c.is_empty.ensures ∙ c.if-is_empty.false) c.character_of.ensures
    ∙ ap (λ o. with_character o (quoted_at 0 r)) c.in-Some.is

pub returns-in-None-clause-exact : goal.returns-in-None-clause-exact
returns-in-None-clause-exact c =
    let e = c.split_at.result.0.now in
    let r = c.split_at.result.1.now in
    escape_stands c.args.text.now c.escape_len.result e r c.escape_len.ensures.value c.split_at.ensures.front c.split_at.ensures.back
    ∙ after_some e r (quoted_at 0 r) c.character_of.result (sym c.is_empty.ensures ∙ c.if-is_empty.false) c.character_of.ensures
    ∙ ap (λ o. with_character o (quoted_at 0 r)) c.in-None.is

pub returns-then-is_empty-clause-exact : goal.returns-then-is_empty-clause-exact
returns-then-is_empty-clause-exact c =
    let e = c.split_at.result.0.now in
    let r = c.split_at.result.1.now in
    escape_stands c.args.text.now c.escape_len.result e r c.escape_len.ensures.value c.split_at.ensures.front c.split_at.ensures.back
    ∙ after_none e r (quoted_at 0 r) (sym c.is_empty.ensures ∙ c.if-is_empty.true)
