use Rattle.ssi_data.proofs.Rounds.{first_done}
use Rattle.ssi_data.proofs.clients.Clients.new.Goals as goal

pub returns-clause-done : goal.returns-clause-done
returns-clause-done g c =
    λ n began calls s.
    first_done g.T.ProtocolStore.keeps g.T.AnyStore.is_at n began c.users_for.result c.args.server calls
    c.users_for.ensures.none s
