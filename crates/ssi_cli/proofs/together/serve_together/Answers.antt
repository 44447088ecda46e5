use Rattle.ssi_store.specs.Mirror.Stores.{IsAt}
use Rattle.ssi_cli.proofs.HubRuns.{all_called}
use Rattle.ssi_cli.proofs.together.serve_together.Goals as goal

pub returns : goal.returns
returns g c =
    let (calls, stands, went) =
    all_called (IsAt {g = g.C.Chains} {h = g.M.Marks} g.C.Chains.held g.M.Marks.marked) c.new-clients.result.hub
    c.serve_listener.new.clients.hub c.args.store.now c.serve_listener.new.store c.new-clients.ensures.none c.serve_listener.ensures.run in record {
      served = (
        record { hub = c.serve_listener.new.clients.hub; calls = calls; stands = stands; ends = c.serve_listener.ensures.ends },
        went,
      );
    }
