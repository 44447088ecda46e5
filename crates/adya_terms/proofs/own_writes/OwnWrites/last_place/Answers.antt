use Rattle.std.proofs.Common.{◌≡◌, ◌∙◌, ◌<◌, ℕ, length, Option, None, option_and_then, sym, ap, subst}
use Rattle.std.specs.Option.{option_or}
use Rattle.txn_table.specs.Mirror.{value_for}
use Rattle.adya_keys.specs.Machinery.Within.{key_at}
use Rattle.adya_values.specs.Mirror.Numbers.{keys_of}
use Rattle.adya_terms.specs.declared.own_writes.Chain.{Chain}
use Rattle.adya_terms.specs.declared.own_writes.OwnWrites.{OwnWrites}
use Rattle.adya_terms.specs.Machinery.Tables.{own}
use Rattle.adya_terms.specs.Machinery.Chains.{own_place, walk}
use Rattle.adya_terms.specs.Machinery.OwnWrites.{place_numbered, place_of}
use Rattle.adya_terms.proofs.own_writes.OwnWrites.last_place.Goals as goal

abbrev found : OwnWrites → ℕ → Chain → Option ℕ
found w n x = walk w.rows.items n x.len x.last

-- in the chain, if the transaction has no later write of the key
in_chain_is : (w : OwnWrites) (t n : ℕ) → n < length (keys_of w.events.now) → (x : Chain) → x ≡ value_for w.chains t
    → own_place w.later t (key_at (keys_of w.events.now) n) ≡ None → found w n x ≡ place_of w (own t (key_at (keys_of w.events.now) n))
in_chain_is w t n within x is none =
    let q = own t (key_at (keys_of w.events.now) n) in
    ap (found w n) is ∙ (ap (λ o. option_or o (found w n (value_for w.chains t))) (sym none) ∙
    sym (ap (option_and_then (place_numbered w q)) (w.numbered n within)))

pub returns-then-chain-self : goal.returns-then-chain-self
returns-then-chain-self c =
    let w = c.args.self.now in
    let key = key_at (keys_of w.events.now) c.args.number in
    c.in_chain.ensures ∙
    in_chain_is w c.args.txn c.args.number c.requires c.chain-chain.result c.chain-chain.ensures
    (w.few (own c.args.txn key) (subst (λ (x : Chain). x.len < w.room) c.chain-chain.ensures c.if-chain-self.true))
