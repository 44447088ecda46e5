use Rattle.std.proofs.Common.{◌==◌, suc, length, sym, ap, ◌∙◌}
use Rattle.std.proofs.lemmas.Bool.{false≢true}
use Rattle.adya_text.proofs.PrefixFaults.{fault_shown, missing_shown}
use Rattle.adya_text.proofs.LineReaders.{fed_going, unfaulty}
use Rattle.adya_text.proofs.line_reader.LineReader.finish.Goals as goal

pub returns-in-Some-clause-answer : goal.returns-in-Some-clause-answer
returns-in-Some-clause-answer g c = λ past fed text shows.
    let (within, fault) = rw c.in-Some.is at fed in
    rw c.TEXT-text.ensures (g.met.D.Draft.faulty text c.in-Some.line
    (fault_shown g.D.Draft.grammar text past c.args.rest.now c.in-Some.line within fault shows))

pub returns-then-not-is_empty-clause-answer : goal.returns-then-not-is_empty-clause-answer
returns-then-not-is_empty-clause-answer g c = λ past fed text shows.
    let going = fed_going g.D.Draft.grammar g.D.Draft.has_lines c.args.self.draft c.args.self.fault past fed
    (unfaulty c.args.self.fault c.in_default.not-Some) in
    rw c.TEXT-text.ensures (rw (c.next_line-line.ensures past going) (g.met.D.Draft.faulty text (suc (length past))
    (missing_shown g.D.Draft.grammar text past c.args.rest.now (c.begins.ensures past going)
    (λ are empty. false≢true (sym c.if-not-is_empty.true ∙ c.is_empty.ensures ∙ ap (λ l. length l == 0) empty))
    shows)))

pub returns-in-None-clause-answer : goal.returns-in-None-clause-answer
returns-in-None-clause-answer g c = λ past fed text shows.
    let going = fed_going g.D.Draft.grammar g.D.Draft.has_lines c.args.self.draft c.args.self.fault past fed
    (unfaulty c.args.self.fault c.in_default.not-Some) in
    rw c.TEXT-text.ensures (rw (c.next_line-line.ensures past going) (g.met.D.Draft.faulty text (suc (length past))
    (missing_shown g.D.Draft.grammar text past c.args.rest.now (c.begins.ensures past going)
    (λ are empty. c.in-None.ensures past going are) shows)))
