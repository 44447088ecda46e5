use Rattle.std.proofs.Common.{◌∙◌, ap, refl, subst, sym}
use Rattle.std.proofs.lemmas.Result.{IfOk-from_err}
use Rattle.adya_values.specs.Meaning.Orders.{place}
use Rattle.adya_values.specs.Mirror.Lines.{orders_of}
use Rattle.adya_terms.specs.Machinery.LineWriters.{IsPlaceOf}
use Rattle.adya_terms.proofs.Compared.{tables_with}
use Rattle.adya_terms.proofs.LineParts.{named_is}
use Rattle.adya_terms.proofs.line_writers.LineWriters.tabled_place.Goals as goal

pub place_in-requires : goal.place_in-requires
place_in-requires c t =
    c.args.self.now.tabled c.args.line c.in-Some.table.now (sym c.in-Some.ensures.value) t ∙
    ap (λ ts. place ts t) (named_is _ _ c.writers-writers.ensures)

pub place_in-place-requires : goal.place_in-place-requires
place_in-place-requires c = c.in_ok-table.ensures

pub invariant_of-self : goal.invariant_of-self
invariant_of-self c =
    let named = named_is _ _ c.writers-writers.ensures in
    record {
      tabled = tables_with _ _ _ c.insert.result c.args.self.now.tables c.insert.new.self (orders_of c.args.self.now.orders.now) c.args.line c.in_ok-table.table c.args.self.now.tabled
          (λ t. c.in_ok-table.ensures t ∙ ap (λ ts. place ts t) (sym named)) c.insert.ensures.updates c.insert.ensures.err;
    }

pub returns-in-Some : goal.returns-in-Some
returns-in-Some c =
    record {
      found = subst (λ ts. IsPlaceOf c.place_in.result ts c.args.txn) (sym (named_is _ _ c.writers-writers.ensures)) c.place_in.ensures;
      orders = refl;
    }

pub returns-in_err-table : goal.returns-in_err-table
returns-in_err-table c =
    let failed = c.from_residual.ensures.0 in
    record { found = IfOk-from_err _ _ failed; orders = IfOk-from_err _ _ failed }

pub returns-in_err-insert : goal.returns-in_err-insert
returns-in_err-insert c =
    let failed = c.from_residual-in_err-insert.ensures.0 in
    record { found = IfOk-from_err _ _ failed; orders = IfOk-from_err _ _ failed }

pub returns : goal.returns
returns c =
    record {
      found = subst (λ ts. IsPlaceOf c.place_in-place.result ts c.args.txn) (sym (named_is _ _ c.writers-writers.ensures)) c.place_in-place.ensures;
      orders = refl;
    }
