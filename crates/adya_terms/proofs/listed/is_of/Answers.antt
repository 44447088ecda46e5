use Rattle.std.proofs.Common.{◌<◌, ◌∙◌, subst, sym}
use Rattle.std.proofs.lemmas.Bool.{both_ways}
use Rattle.lemmas.proofs.Orderings.{bytes_eq-from, bytes_eq-same}
use Rattle.adya_values.specs.Meaning.Histories.{Order}
use Rattle.adya_keys.specs.Meaning.Keys.{Key}
use Rattle.adya_values.specs.Mirror.Lines.{orders_of}
use Rattle.adya_terms.proofs.Compared.{none_found, none_same, when_other, when_same}
use Rattle.adya_terms.proofs.listed.is_of.Goals as goal

pub key-requires : goal.key-requires
key-requires c = subst (λ n. c.args.at < n) c.len.ensures.length c.if-at-len.true

pub returns-then-at-len : goal.returns-then-at-len
returns-then-at-len c =
    let k = c.key.result in
    record {
      yes = when_same _ k c.args.key c.key.ensures c.eq.result (λ is. bytes_eq-same _ _ (sym c.eq.ensures ∙ is));
      no = when_other _ k c.args.key c.key.ensures c.eq.result (λ is same. both_ways _ (sym c.eq.ensures ∙ is) (bytes_eq-from _ _ same));
    }

pub returns-else-at-len : goal.returns-else-at-len
returns-else-at-len c =
    let os = orders_of c.args.orders.now in
    let key : Order → Key = λ o. o.key in
    record {
      yes = none_same key os c.args.at c.len.result c.args.key c.len.ensures.length c.if-at-len.false;
      no = none_found key os c.args.at c.len.result c.args.key c.len.ensures.length c.if-at-len.false;
    }
