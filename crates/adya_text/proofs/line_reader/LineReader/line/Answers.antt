use Rattle.std.proofs.Common.{◌≡◌, ◌∷◌, [], suc, length, sym, ◌∙◌, arith}
use Rattle.std.proofs.lemmas.List.{length-append}
use Rattle.adya_text.proofs.FaultLines.{fault_at}
use Rattle.adya_text.proofs.LineReaders.{fed_going, fed_stays}
use Rattle.adya_text.proofs.line_reader.LineReader.line.Goals as goal

pub returns-then-is_some : goal.returns-then-is_some
returns-then-is_some g c = λ past fed.
    fed_stays g.D.Draft.grammar g.D.Draft.has_lines c.args.self.now.draft c.args.self.now.fault past c.args.line.now fed
    (sym c.is_some.ensures ∙ c.if-is_some.true)

pub returns : goal.returns
returns g c = λ past fed.
    let old = c.args.self.now in
    let going = fed_going g.D.Draft.grammar g.D.Draft.has_lines old.draft old.fault past fed
    (sym c.is_some.ensures ∙ c.if-is_some.false) in
    let still = c.in_ok-take.ensures.left c.if-branch.false past going in
    let line : c.next_line-line.result ≡ suc (length past) = c.next_line-line.ensures past still in (
      omega (arith, line, length-append past (c.args.line.now ∷ [])),
      rw line (fault_at g.D.Draft.grammar past c.args.line.now (c.begins.ensures past still)
          (c.in_ok-take.ensures.refused c.if-branch.false past going)),
    )
