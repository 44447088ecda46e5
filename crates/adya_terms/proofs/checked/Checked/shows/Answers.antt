use Rattle.std.proofs.Common.{◌<◌, ◌∙◌, ap, arith, length, sym, Some, None, is_some}
use Rattle.adya_values.specs.Meaning.Events.{shown}
use Rattle.adya_values.specs.Mirror.Lines.{orders_of}
use Rattle.adya_terms.specs.Clauses.Checked.{checked_history}
use Rattle.adya_terms.specs.Machinery.Tables.{written_at}
use Rattle.adya_terms.proofs.InstalledWrites.{at_place, line_starts, none_installed}
use Rattle.adya_terms.proofs.checked.Checked.shows.Goals as goal

pub write_at-requires : goal.write_at-requires
write_at-requires c =
    line_starts c.args.self.now c.args.line c.len.result (c.len.ensures.length ∙ ap (λ os. length (orders_of os)) c.orders.ensures.value) c.if-line-len.false

pub returns-then-line-len : goal.returns-then-line-len
returns-then-line-len c =
    none_installed (checked_history c.args.self.now) c.args.line c.args.place c.len.result
    (c.len.ensures.length ∙ ap (λ os. length (orders_of os)) c.orders.ensures.value) c.if-line-len.true

pub returns-in_default : goal.returns-in_default
returns-in_default c =
    let count = c.len.ensures.length ∙ ap (λ os. length (orders_of os)) c.orders.ensures.value in
    let below = c.if-line-len.false in
    let less : c.args.line < length (checked_history c.args.self.now).orders = omega (arith, below, count) in
    ap (λ o. is_some (shown o)) (at_place c.args.self.now c.args.line c.args.place less None (sym c.in_default.is ∙ c.write_at.ensures))

pub returns : goal.returns
returns c =
    let count = c.len.ensures.length ∙ ap (λ os. length (orders_of os)) c.orders.ensures.value in
    let below = c.if-line-len.false in
    let less : c.args.line < length (checked_history c.args.self.now).orders = omega (arith, below, count) in
    c.shows.ensures ∙
    (ap (λ es. is_some (shown (written_at es (Some c.in-Some.at)))) c.args.self.now.listed ∙
    ap (λ o. is_some (shown o)) (at_place c.args.self.now c.args.line c.args.place less (Some c.in-Some.at) (sym c.in-Some.is ∙ c.write_at.ensures)))
