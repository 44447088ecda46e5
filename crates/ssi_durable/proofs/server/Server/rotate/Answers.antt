use Rattle.std.proofs.Common.{◌++◌}
use Rattle.ssi_durable.specs.Meaning.Logs.{logged}
use Rattle.ssi_durable.proofs.Betweens.{all_between}
use Rattle.ssi_durable.proofs.Serving.{begins}
use Rattle.ssi_durable.proofs.server.Server.rotate.Goals as goal

pub returns-clause-serves : goal.returns-clause-serves
returns-clause-serves g c = λ n next began lines calls was replayed all.
    let now = record c.args.self.now { store = c.args.store; journal = c.go_on_with.new.self; holds = c.clear.new.self } in
    begins g.S.ProtocolStore.keeps g.S.AnyStore.is_at next began.early lines now calls replayed was.stands was.told was.mode c.clear.ensures.free
    (c.go_on_with.ensures.keeps lines all)

pub returns-clause-left : goal.returns-clause-left
returns-clause-left g c = λ n began calls file was left. (
  was.since,
  was.parts,
  all_between _ _ ((c.settled_lines_are_sure.ensures c.requires (began.lines ++ logged was.sure) (began.lines ++ logged was.since)
      was.keeps).left file left),
)
