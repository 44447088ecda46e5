use Rattle.std.proofs.Common.{ℕ, Option, sym, ◌∙◌, ap, subst}
use Rattle.std.specs.Option.{option_map}
use Rattle.std.proofs.lemmas.Option.{same_Some}
use Rattle.ssi_cli.specs.declared.users.Users.{Users}
use Rattle.ssi_data.specs.declared.idle.Idle.{Idle}
use Rattle.ssi_data.specs.Clauses.Idling.{HasAbortedIdle, IsIdleSince}
use Rattle.ssi_data.specs.Mirror.{second_of, seconds_of, server_of, times_of, users_of}
use Rattle.ssi_data.proofs.Idling.{idle_calls}
use Rattle.ssi_data.proofs.Rounds.{by_noted, unseen}
use Rattle.ssi_data.proofs.clients.Clients.end_idle.Goals as goal

pub returns-clause-on : goal.returns-clause-on
returns-clause-on g c =
    unseen g.T.ProtocolStore.keeps g.T.AnyStore.is_at c.args.self.now.tables.users c.abort_idle-done.new.tables.users
    c.unless_full.new.self.tables.users c.args.self.now.server c.abort_idle-done.new.server c.unless_full.new.self.server
    c.unless_full.ensures.users c.unless_full.ensures.server
    (by_noted g.T.ProtocolStore.keeps g.T.AnyStore.is_at c.calls_are_deeds.ensures.done c.args.self.now.tables.users
    c.abort_idle-done.new.tables.users c.args.self.now.server c.abort_idle-done.new.server _ c.abort_idle-done.ensures.table
    (idle_calls g.T.ProtocolStore.keeps g.T.AnyStore.is_at _ c.args.self.now.tables.users c.abort_idle-done.new.tables.users
    c.args.self.now.server c.abort_idle-done.new.server c.abort_idle-done.ensures.aborts))

pub returns-clause-aborts : goal.returns-clause-aborts
returns-clause-aborts g c = λ limit has.
    let Done = λ (l k : ℕ) (u : Option Users) (s : _). HasAbortedIdle g.T.ProtocolStore.keeps g.T.AnyStore.is_at
    (IsIdleSince l k (times_of c.args.self.now)) (users_of c.args.self.now) u (server_of c.args.self.now) s in
    let one = same_Some c.in-Some.idle.limit limit (sym (ap (λ (o : Option Idle). option_map seconds_of o) c.in-Some.is) ∙ has) in
    subst (λ (s : _). Done limit (second_of c.unless_full.new.self) (users_of c.unless_full.new.self) s) (sym c.unless_full.ensures.server)
    (subst (λ (u : Option Users). Done limit (second_of c.unless_full.new.self) u c.abort_idle-done.new.server)
    (sym c.unless_full.ensures.users)
    (subst (λ (k : ℕ). Done limit k c.abort_idle-done.new.tables.users c.abort_idle-done.new.server)
    (sym (c.unless_full.ensures.second ∙ c.abort_idle-done.ensures.clock))
    (subst (λ (l : ℕ). Done l c.second-self.result c.abort_idle-done.new.tables.users c.abort_idle-done.new.server) one
    c.abort_idle-done.ensures.aborts)))
