use Rattle.std.proofs.Common.{◌≡◌, sym, ◌∙◌, subst}
use Rattle.edn.specs.Meaning.Forms.{keyword}
use Rattle.edn.specs.Meaning.Shorts.{short_text}
use Rattle.edn.specs.Meaning.Tokens.{leaf}
use Rattle.edn.specs.Computing.Tokens.{token, word_token}
use Rattle.edn.proofs.PlainWords.{plain_keyword_read}
use Rattle.edn.proofs.plain.plain_keyword.Goals as goal

pub returns-clause-exact : goal.returns-clause-exact
returns-clause-exact c = λ beyond.
    let same : c.split_at.result.0.now ≡ short_text c.in_ok-short.short = c.split_at.ensures.front ∙ sym c.in_ok-short.ensures in
    subst (λ name. word_token beyond c.args.text.now ≡ token (leaf (keyword name)) c.split_at.result.1.now) same
    (plain_keyword_read beyond c.args.text.now c.in_ok-after.after.now c.split_at.result.0.now c.split_at.result.1.now
    (rw c.in_ok-after.was at c.after_byte.ensures.value)
    (rw c.symbol_len-len.ensures.value at c.split_at.ensures.front)
    (rw c.symbol_len-len.ensures.value at c.split_at.ensures.back)
    (sym c.begins_keyword.ensures ∙ c.if-not-begins_keyword.false)
    (sym c.begins_with_end.ensures ∙ c.if-not-begins_with_end.false))
