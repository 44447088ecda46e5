use Rattle.std.proofs.Common.{◌≡◌, ◌<◌, ◌∙◌, Some, ap, refl, slice_get, subst, suc, sym}
use Rattle.std.proofs.lemmas.Result.{IfOk-from_err}
use Rattle.adya_keys.specs.declared.indices.Indices.{Indices}
use Rattle.adya_keys.specs.Machinery.Indices.{indices_in}
use Rattle.adya_terms.specs.Machinery.LinePlaces.{named, writers_at}
use Rattle.adya_terms.specs.Machinery.LineWriters.{IsPlaceOf}
use Rattle.adya_terms.specs.Machinery.Places.{orders_in, AreLines}
use Rattle.adya_terms.proofs.Compared.{absent}
use Rattle.adya_terms.proofs.PlacedLines.{has_place, has_start, line_filled, line_lacking}
use Rattle.adya_terms.proofs.placing.Placing.put_in.Goals as goal
use Rattle.lemmas.proofs.Counts.{count}

pub returns-in_default-clause-lines : goal.returns-in_default-clause-lines
returns-in_default-clause-lines c all last o rise inj there here had =
    let x = c.args.self.now in
    let os = orders_in x in
    let i = c.args.line in
    let t = c.args.txn in
    let at = c.args.at in
    let ws = indices_in x.lines.writes in
    let ss = (indices_in x.lines.starts) in
    let none = ap (λ y. count (named y) t) (sym there) ∙ subst (λ p. IsPlaceOf p (writers_at os i) t) c.in_default.is c.in_ok-place.ensures.found in
    subst (AreLines all last (suc at) os ws ss) (sym c.raise.ensures) (line_lacking all last at os ws ss x.lacks.items had rise inj i t o there here none)

pub returns-clause-lines : goal.returns-clause-lines
returns-clause-lines c all last o rise inj there here had =
    let x = c.args.self.now in
    let os = orders_in x in
    let i = c.args.line in
    let t = c.args.txn in
    let at = c.args.at in
    let p = c.in-Some.place in
    let ws = indices_in x.lines.writes in
    let ss = (indices_in x.lines.starts) in
    let fs = x.lacks.items in
    let writer : slice_get o.writers p ≡ Some t =
    ap (λ y. slice_get (named y) p) (sym there) ∙ subst (λ q. IsPlaceOf q (writers_at os i) t) c.in-Some.is c.in_ok-place.ensures.found in
    let filled = c.in_ok-fill.ensures.writes (has_start all last at os ws ss fs had rise inj i t o there here) (has_place all last at os ws ss fs had rise inj i t o there here p writer) in
    subst (λ (v : Indices). AreLines all last (suc at) os (indices_in c.fill.new.self.writes) (indices_in v) fs) (sym c.fill.ensures.starts)
    (subst (λ zs. AreLines all last (suc at) os zs ss fs) (sym filled)
    (line_filled all last at os ws ss fs had rise inj i t o there here x.lines.ordered p writer))

pub place-requires : goal.place-requires
place-requires c = subst (λ n. c.args.line < n) c.len.ensures c.if-line-len.false

pub returns-then-line-len : goal.returns-then-line-len
returns-then-line-len c =
    record {
      orders = refl;
      numbers = refl;
      left_out = refl;
      lines = λ all last o rise inj there here had. absent (orders_in c.args.self.now) c.args.line c.len.result o c.len.ensures c.if-line-len.true there;
    }

pub returns-in_err-place : goal.returns-in_err-place
returns-in_err-place c =
    let failed = c.from_residual.ensures.0 in
    record {
      orders = IfOk-from_err _ _ failed;
      numbers = IfOk-from_err _ _ failed;
      left_out = IfOk-from_err _ _ failed;
      lines = IfOk-from_err _ _ failed;
    }

pub returns-in_err-fill : goal.returns-in_err-fill
returns-in_err-fill c =
    let failed = c.from_residual-in_err-fill.ensures.0 in
    record {
      orders = IfOk-from_err _ _ failed;
      numbers = IfOk-from_err _ _ failed;
      left_out = IfOk-from_err _ _ failed;
      lines = IfOk-from_err _ _ failed;
    }
