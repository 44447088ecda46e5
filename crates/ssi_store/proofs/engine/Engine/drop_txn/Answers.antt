use Rattle.ssi_store.proofs.Ends.{dropped}
use Rattle.ssi_store.proofs.RisingOpens.{below_without}
use Rattle.ssi_store.proofs.engine.Engine.drop_txn.Goals as goal

pub returns : goal.returns
returns g c = record {
  stands = λ course m a st end. dropped st c.args.session _ _ _ _ _ c.args.txn m a end
      c.remove.ensures.gone c.end-2.ensures.recorded c.end.ensures.opened c.end-2.ensures.started c.on_abort.ensures;
}

pub invariant_of-self-2-clause-early : goal.invariant_of-self-2-clause-early
invariant_of-self-2-clause-early g c =
    below_without _ _ c.args.txn c.args.self.now.next c.args.self.now.roster.rising c.args.self.now.early c.end.ensures.opened
