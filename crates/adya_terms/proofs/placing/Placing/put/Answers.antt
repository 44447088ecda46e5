use Rattle.std.proofs.Common.{refl, subst, sym}
use Rattle.adya_terms.specs.Machinery.Places.{orders_in, Installs}
use Rattle.adya_terms.proofs.PlacedLines.{left_out_more, line_found, line_placed}
use Rattle.adya_terms.proofs.placing.Placing.put.Goals as goal

pub returns-in_default-clause-placed : goal.returns-in_default-clause-placed
returns-in_default-clause-placed c all last ks rise inj within here had =
    let x = c.args.self.now in
    left_out_more all last c.args.at ks (orders_in x) x had inj c.args.key c.args.txn within here c.in_default.ensures _ refl refl refl refl

pub returns-clause-placed : goal.returns-clause-placed
returns-clause-placed c all last ks rise inj within here had =
    let x = c.args.self.now in
    let os = orders_in x in
    let at = c.args.at in
    let i = c.in-Some.line in
    let line = line_found all last at ks os x had inj c.args.key c.args.txn within here i c.in-Some.ensures in
    let mine = subst (λ k. Installs all last k c.args.txn at) (sym line.key_is) here in
    line_placed all last at ks os x had inj c.args.key c.args.txn within here c.put_in.new.self i line c.in_ok-put_in.ensures.numbers c.in_ok-put_in.ensures.left_out
    (c.in_ok-put_in.ensures.lines all last line.line rise inj line.there mine had.lines)
