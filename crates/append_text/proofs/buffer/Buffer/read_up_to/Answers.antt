use Rattle.std.proofs.Common.{arith}
use Rattle.append_text.proofs.FirstBytes.{read_kept, read_none}
use Rattle.append_text.proofs.buffer.Buffer.read_up_to.Goals as goal

pub returns-in-Ok-clause-kept : goal.returns-in-Ok-clause-kept
returns-in-Ok-clause-kept g c = λ text has. read_kept c.args.self.now.bytes c.pull.new.buf _ c.args.self.now.start
    c.args.self.now.end c.in-Ok.n (g.S.Read.remaining c.args.source.now) (g.S.Read.remaining c.pull.new.self) text
    c.args.self.now.ordered (omega arith) c.in-Ok.ensures.bound.0 c.in-Ok.ensures.bytes.0 has

pub returns-in-Ok-clause-end : goal.returns-in-Ok-clause-end
returns-in-Ok-clause-end g c = λ none. read_none c.args.self.now.bytes c.pull.new.buf _ c.args.self.now.start
    c.args.self.now.end c.in-Ok.n c.args.most (g.S.Read.remaining c.pull.new.self) c.args.self.now.ordered (omega arith)
    c.in-Ok.ensures.bound.0 c.requires.room (omega arith) c.in-Ok.ensures.bytes.1 none
