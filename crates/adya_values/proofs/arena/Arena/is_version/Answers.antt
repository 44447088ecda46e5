use Rattle.std.proofs.Common.{◌∙◌, ◌==◌, ◌&&◌, ap, length}
use Rattle.adya_keys.specs.Machinery.KeyTables.{keys_in}
use Rattle.std.proofs.lemmas.Bool.{and_parts, ltb-true}
use Rattle.std.specs.Prelude.{nat_lt}
use Rattle.adya_values.specs.declared.event.NumberedVersion.{NumberedVersion}
use Rattle.adya_keys.proofs.KeyNumbers.{same_number}
use Rattle.adya_values.proofs.arena.Arena.is_version.Goals as goal

pub returns : goal.returns
returns c =
    let ks = (keys_in c.args.self.now.keys) in
    let v = c.args.version in
    let s = c.args.seen.now in
    let (numbered, held) = and_parts (nat_lt s.key (length ks)) _ c.requires.seen in
    c.eq.ensures ∙
    (ap (λ (r : NumberedVersion). (v.key == r.key) && ((v.txn == r.txn) && (v.m == r.m))) c.version.ensures ∙
    ap (λ b. b && ((v.txn == s.txn) && (v.m == s.m))) (same_number ks c.args.self.now.keys.table.unique v.key s.key c.requires.version (ltb-true s.key (length ks) numbered)))
