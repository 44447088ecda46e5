use Rattle.ssi_store.specs.Meaning.Acts.{acts}
use Rattle.ssi_store.specs.Meaning.Tracked.{tracked}
use Rattle.ssi_store.proofs.Collects.{counted}
use Rattle.ssi_store.proofs.engine.Engine.stat.Goals as goal

pub returns : goal.returns
returns g c = record {
  stands = λ course st. counted st c.laws_below.ensures c.open_count.result c.kept.result c.held.result
      c.keys.result c.open_count.ensures (c.kept.ensures (tracked (acts course)) st.log.tracker) c.held.ensures c.keys.ensures;
}
