use Rattle.std.proofs.Common.{sym, ap, ◌∙◌}
use Rattle.edn.specs.Meaning.Views.{kind_of}
use Rattle.append_text.proofs.edn_data.listed_in.Goals as goal

pub returns-in-List-clause-some : goal.returns-in-List-clause-some
returns-in-List-clause-some c = sym c.kind.ensures.form ∙ ap kind_of c.in-List.is
