use Rattle.lemmas.proofs.Members.{Contains-slice_get}
use Rattle.lemmas.proofs.Tests.{all_pass}
use Rattle.adya_keys.specs.Meaning.Keys.{is_key}
use Rattle.adya_keys.specs.Machinery.Parts.{parts_of}
use Rattle.adya_keys.proofs.key_table.KeyTable.text.Goals as goal

pub returns-clause-limits : goal.returns-clause-limits
returns-clause-limits c =
    let ks = parts_of c.args.self.now.texts in
    all_pass is_key ks c.at.result.now c.args.self.now.table.keys (Contains-slice_get ks c.args.number c.at.result.now c.at.ensures)
