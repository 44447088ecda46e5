use Rattle.std.proofs.Common.{◌∙◌, ◌-◌, ◌<◌, ◌≡◌, ap, arith, length, suc, subst, sym}
use Rattle.adya_keys.specs.Machinery.KeyHash.{bucket_of}
use Rattle.adya_keys.specs.Machinery.KeyTables.{keys_in}
use Rattle.adya_keys.proofs.KeyChains.{IsLink, first_link, found_number, index_is, key_found, next_link, no_number}
use Rattle.adya_keys.proofs.key_table.KeyTable.number_of.Goals as goal

pub loop-link-init : goal.loop-link-init
loop-link-init c =
    let t = c.args.self.now in
    let count : c.len.result ≡ length t.heads.items = c.len.ensures ∙ t.heads.ok.0 in
    let within = c.bucket_of.ensures.within in
    let less : c.bucket_of.result < length t.heads.items = omega (arith, within, count) in
    first_link (keys_in t) t.heads.items t.next.items t.table.chained c.args.key.now c.bucket_of.result c.index-link.result.now
    (c.bucket_of.ensures.value ∙ ap (λ m. bucket_of m c.args.key.now) count) less
    (index_is t.heads.items c.bucket_of.result c.index-link.result.now c.index-link.ensures less)

pub returns-then-is_at-clause-number : goal.returns-then-is_at-clause-number
returns-then-is_at-clause-number c =
    let t = c.args.self.now in
    let l = c.loop-link.link in
    let within = c.loop-link.invariant.within in
    sym (found_number (keys_in t) t.table.unique c.args.key.now (l - 1) (omega (arith, within, c.loop-link-test.true))
    (sym c.is_at.ensures ∙ c.if-is_at.true))

next : (c : goal.After-row_known-in-loop-link-2-1)
    → IsLink (keys_in c.args.self.now) (length c.args.self.now.heads.items) c.args.key.now c.index-link-in-loop-link.result.now × (c.index-link-in-loop-link.result.now < suc (c.loop-link.link - 1))
next c =
    let t = c.args.self.now in
    let j = c.loop-link.link - 1 in
    let within = c.loop-link.invariant.within in
    let is : c.loop-link.link ≡ suc j = omega (arith, c.loop-link-test.true) in
    next_link (keys_in t) t.heads.items t.next.items t.table.chained c.args.key.now j c.index-link-in-loop-link.result.now
    (subst (IsLink (keys_in t) (length t.heads.items) c.args.key.now) is c.loop-link.invariant)
    (sym c.is_at.ensures ∙ c.if-is_at.false)
    (index_is t.next.items j c.index-link-in-loop-link.result.now c.index-link-in-loop-link.ensures (omega (arith, within, is, t.table.count)))

pub loop-link-smaller : goal.loop-link-smaller
loop-link-smaller c = let less = (next c).1 in omega (arith, less, c.loop-link-test.true)

pub loop-link-preserved : goal.loop-link-preserved
loop-link-preserved c = (next c).0

pub returns-clause-number : goal.returns-clause-number
returns-clause-number c =
    let none : c.loop-link.link ≡ 0 = omega (arith, c.loop-link-test.false) in
    sym (no_number (keys_in c.args.self.now) c.args.key.now (λ j from less. c.loop-link.invariant.others j (omega (arith, from, none)) less))

pub returns-then-is_at-clause-same : goal.returns-then-is_at-clause-same
returns-then-is_at-clause-same c =
    let t = c.args.self.now in
    let l = c.loop-link.link in
    let within = c.loop-link.invariant.within in
    key_found (keys_in t) c.args.key.now (l - 1) (omega (arith, within, c.loop-link-test.true)) (sym c.is_at.ensures ∙ c.if-is_at.true)
