use Rattle.std.proofs.Common.{◌≡◌, ◌∙◌, ap, sym, map, refl}
use Rattle.adya_keys.specs.Machinery.KeyTables.{keys_in}
use Rattle.adya_values.specs.Meaning.Histories.{Scan}
use Rattle.adya_values.specs.Machinery.Seen.{entry_in}
use Rattle.adya_keys.specs.Machinery.Within.{key_at, part}
use Rattle.adya_values.specs.Machinery.Packed.{entry_of_seen}
use Rattle.adya_keys.proofs.Within.{part-map}
use Rattle.adya_values.proofs.arena.Arena.scan.Goals as goal

pub invariant_of-result : goal.invariant_of-result
invariant_of-result c = record {
  there = rw c.deref.ensures.value c.listed.ensures.there;
}

pub returns : goal.returns
returns c =
    let l = c.args.listing in
    let t = c.args.txn in
    let a = c.args.self.now in
    let ss = c.listed.result.now in
    let es = map (entry_in (keys_in a.keys) c.deref.result.now) ss in
    let same : es ≡ map (entry_of_seen a) ss = rw c.deref.ensures.value refl in
    let listed : es ≡ part l.from l.count (map (entry_of_seen a) a.seen.items) =
    same ∙ (ap (map (entry_of_seen a)) c.listed.ensures.seen ∙ sym (part-map (entry_of_seen a) l.from l.count a.seen.items)) in
    ap (λ k. Scan t k c.key-2.result es) c.key.ensures ∙
    (ap (λ k. Scan t (key_at (keys_in a.keys) l.low) k es) c.key-2.ensures ∙
    ap (λ xs. Scan t (key_at (keys_in a.keys) l.low) (key_at (keys_in a.keys) l.high) xs) listed)
