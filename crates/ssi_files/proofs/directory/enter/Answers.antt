use Rattle.std.proofs.Common.{subst, Some, Option, ◌≡◌, ℕ}
use Rattle.std.specs.Prelude.{◌↔◌}
use Rattle.ssi_files.specs.Meaning.Names.{file_name}
use Rattle.ssi_files.proofs.Entering.{entered}
use Rattle.ssi_files.proofs.directory.enter.Goals as goal

pub returns-in_ok-insert : goal.returns-in_ok-insert
returns-in_ok-insert c = λ n is.
    let name = c.args.name.now in
    let exact : (Some c.in-Some.number ≡ Some n) ↔ (name ≡ file_name n c.args.ending) =
    subst (λ (found : Option ℕ). (found ≡ Some n) ↔ (name ≡ file_name n c.args.ending)) c.in-Some.is (c.number_of.ensures n is) in
    entered c.in-Some.number n name (file_name n c.args.ending) _ _ exact (c.in_ok-insert.ensures.updates.0 n)
