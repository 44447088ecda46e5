use Rattle.std.proofs.Common.{◌+◌, ◌++◌, ◌∷◌, [], drop, take, sym, subst}
use Rattle.std.proofs.lemmas.Bool.{eqb-true}
use Rattle.std.proofs.lemmas.List.{take_rest}
use Rattle.adya_text.specs.Machinery.LineReaders.{complete}
use Rattle.adya_text.proofs.LineLists.{IsAt, at_line, at_end}
use Rattle.adya_text.proofs.reading.read_lines.Goals as goal

pub lines-preserved : goal.lines-preserved
lines-preserved g c =
    let (past, at, fed) = c.lines.invariant in
    let rest = c.lines.rest.now in
    let i = c.in-Some.at in
    let first = c.in-Some.ensures in
    let next : IsAt c.args.text.now (past ++ take i rest ∷ []) (drop (i + 1) rest) =
    at_line c.args.text.now past rest i at first.0.high (eqb-true _ 10 first.1) first.0.before in (
      past ++ take i rest ∷ [],
      subst (IsAt c.args.text.now (past ++ take i rest ∷ [])) (sym (take_rest rest (i + 1))) next,
      c.in_ok-line.ensures past fed,
    )

pub returns-clause-answer : goal.returns-clause-answer
returns-clause-answer g c =
    let (past, at, fed) = c.lines.invariant in
    c.finish.ensures.answer past fed c.args.text.now
    (complete (at_end c.args.text.now past c.lines.rest.now at c.in_default.ensures))
