use Rattle.std.proofs.Common.{◌≡◌, suc, ◌+◌, Some, length, drop, slice_range, sym, ap, ◌∙◌, arith}
use Rattle.std.proofs.lemmas.List.{take_rest}
use Rattle.ssi_line.proofs.Words.{cut_at, cut_nowhere}
use Rattle.ssi_line.proofs.reading.cut.Goals as goal

pub returns-in-Some : goal.returns-in-Some
returns-in-Some c =
    let at = c.in-Some.at in
    let text = c.args.text.now in
    let next : suc at ≡ at + 1 = omega arith in
    let rest : drop (suc at) text ≡ slice_range text (at + 1) (length text) =
    ap (λ n. drop n text) next ∙ sym (take_rest text (at + 1)) in
    let both = cut_at text at c.in-Some.ensures.0.before c.in-Some.ensures.0.high c.in-Some.ensures.1 in
    record { word = ap (λ p. p.0) both; rest = ap (λ p. p.1) both ∙ ap (λ l. Some l) rest }

pub returns-in-None : goal.returns-in-None
returns-in-None c =
    let at = cut_nowhere c.args.text.now c.in-None.ensures in
    record { word = ap (λ p. p.0) at; rest = ap (λ p. p.1) at }
