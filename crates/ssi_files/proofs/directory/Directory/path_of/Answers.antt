use Rattle.std.proofs.Common.{arith}
use Rattle.std.proofs.lemmas.Grind.{common_steps}
use Rattle.std.specs.Str.{IsUtf8}
use Rattle.ssi_files.proofs.Ascii.{name_is_text}
use Rattle.ssi_files.proofs.directory.Directory.path_of.Goals as goal

pub unwrap-requires : goal.unwrap-requires
unwrap-requires c =
    let text : IsUtf8 c.file_name-name.result = rw c.file_name-name.ensures (name_is_text c.args.number c.args.ending) in
    grind (arith, common_steps, text, c.from_utf8.ensures.cases)
