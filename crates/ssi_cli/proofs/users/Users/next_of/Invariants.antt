-- Each session has the user that it had.
use Rattle.std.proofs.Common.{◌≡◌}
use Rattle.ssi_cli.proofs.users.Users.next_of.Given as goal

abbrev pub invariant-loop : goal.invariant-loop
invariant-loop l = l.self.last ≡ l.initial.self.last
