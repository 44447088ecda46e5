use Rattle.std.proofs.Common.{◌∙◌, ap, option_map}
use Rattle.ssi_versions.specs.Mirror.{write_of}
use Rattle.ssi_snapshot.proofs.Storing.{stored_found}
use Rattle.ssi_snapshot.proofs.writes.several_of.Goals as goal

pub returns-in-Some : goal.returns-in-Some
returns-in-Some c = ap (option_map write_of) c.in-Some.ensures.value ∙ stored_found c.args.writes.now.entries c.args.key c.requires

pub returns-in-None : goal.returns-in-None
returns-in-None c = ap (option_map write_of) c.in-None.ensures.value ∙ stored_found c.args.writes.now.entries c.args.key c.requires
