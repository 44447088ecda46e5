use Rattle.std.proofs.Common.{◌≡◌, IfOk, ap, subst, rules}
use Rattle.edn.specs.Computing.Tokens.{lexed_of, token_at}
use Rattle.edn.proofs.Fronts.{whole}
use Rattle.edn.proofs.token.read_token.Goals as goal

pub returns-in-34-clause-exact : goal.returns-in-34-clause-exact
unfolding token_at
returns-in-34-clause-exact c =
    subst (λ bytes. IfOk c.quoted.result (λ l. lexed_of c.quoted.new.leaf l ≡ token_at c.args.beyond bytes))
    (whole 34 c.args.bytes.now c.in-34.len_at_least (search rules)) c.quoted.ensures.exact

pub returns-in-92-clause-exact : goal.returns-in-92-clause-exact
unfolding token_at
returns-in-92-clause-exact c =
    subst (λ bytes. IfOk c.character.result (λ l. lexed_of c.character.new.leaf l ≡ token_at c.args.beyond bytes))
    (whole 92 c.args.bytes.now c.in-92.len_at_least (search rules)) c.character.ensures.exact

pub returns-in-35-clause-exact : goal.returns-in-35-clause-exact
unfolding token_at
returns-in-35-clause-exact c =
    subst (λ bytes. IfOk c.dispatched.result (λ l. lexed_of c.dispatched.new.leaf l ≡ token_at c.args.beyond bytes))
    (whole 35 c.args.bytes.now c.in-35.len_at_least (search rules)) c.dispatched.ensures.exact

pub returns-in-40-clause-exact : goal.returns-in-40-clause-exact
unfolding token_at
returns-in-40-clause-exact c = ap (token_at c.args.beyond) (whole 40 c.args.bytes.now c.in-40.len_at_least (search rules))

pub returns-in-91-clause-exact : goal.returns-in-91-clause-exact
unfolding token_at
returns-in-91-clause-exact c = ap (token_at c.args.beyond) (whole 91 c.args.bytes.now c.in-91.len_at_least (search rules))

pub returns-in-123-clause-exact : goal.returns-in-123-clause-exact
unfolding token_at
returns-in-123-clause-exact c = ap (token_at c.args.beyond) (whole 123 c.args.bytes.now c.in-123.len_at_least (search rules))

pub returns-in-41-clause-exact : goal.returns-in-41-clause-exact
unfolding token_at
returns-in-41-clause-exact c = ap (token_at c.args.beyond) (whole 41 c.args.bytes.now c.in-41.len_at_least (search rules))

pub returns-in-93-clause-exact : goal.returns-in-93-clause-exact
unfolding token_at
returns-in-93-clause-exact c = ap (token_at c.args.beyond) (whole 93 c.args.bytes.now c.in-93.len_at_least (search rules))

pub returns-in-125-clause-exact : goal.returns-in-125-clause-exact
unfolding token_at
returns-in-125-clause-exact c = ap (token_at c.args.beyond) (whole 125 c.args.bytes.now c.in-125.len_at_least (search rules))

pub returns-in-94-clause-exact : goal.returns-in-94-clause-exact
unfolding token_at
returns-in-94-clause-exact c = ap (token_at c.args.beyond) (whole 94 c.args.bytes.now c.in-94.len_at_least (search rules))
