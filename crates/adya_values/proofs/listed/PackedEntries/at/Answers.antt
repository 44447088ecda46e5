use Rattle.std.proofs.Common.{◌≡◌, ◌∙◌, Some, option_map, slice_get, get_or, ap, sym}
use Rattle.std.proofs.lemmas.Option.{slice_get-get_or}
use Rattle.adya_values.specs.Machinery.Seen.{entry_in}
use Rattle.adya_keys.specs.Machinery.KeyTables.{keys_in}
use Rattle.adya_values.proofs.listed.PackedEntries.at.Goals as goal

pub returns : goal.returns
returns c =
    let ks = keys_in c.args.self.now.keys.now in
    let bs = c.args.self.now.bytes.now in
    let ss = c.args.self.now.seen.now in
    let s = get_or ss c.args.i c.index-self-i.result in
    let found : slice_get ss c.args.i ≡ Some s = slice_get-get_or ss c.args.i c.index-self-i.result c.requires in
    ap (option_map (entry_in ks bs)) found ∙ ap Some (sym c.slices.ensures)
