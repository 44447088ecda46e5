use Rattle.std.proofs.Common.{rules, ap, subst, ◌<◌, ◌∙◌, map}
use Rattle.std.proofs.lemmas.Result.{err_from_is_err_and}
use Rattle.std.specs.Int.NonZero.{non_zero_u16_get}
use Rattle.adya_values.specs.Mirror.Events.{entry_of, final_of}
use Rattle.adya_values.specs.Meaning.Serial.{visible_pairs}
use Rattle.ssi_snapshot.specs.Clauses.Listings.{up_to}
use Rattle.ssi_snapshot.specs.Meaning.Reached.{reached}
use Rattle.ssi_store.specs.Meaning.Courses.{ScanFirst}
use Rattle.adya_keys.proofs.KeyOrder.{key_le-from_not}
use Rattle.ssi_store.proofs.LimitedScans.{first_idle, first_range, first_long, first_memory, first_is}
use Rattle.ssi_store.proofs.engine.Engine.scan_first.Goals as goal

pub returns-in_err-open : goal.returns-in_err-open
returns-in_err-open g c = record {
  stands = λ course st.
      let p = err_from_is_err_and c.from_residual.result c.from_residual.ensures.1 in
      rw (p.1, p.2, c.in_err-open.ensures.idle.0) (first_idle st c.args.session c.args.low c.args.high (non_zero_u16_get c.args.limit)
      (subst (λ x. 0 < x) c.get-n.ensures.value c.get-n.ensures.nonzero) c.in_err-open.ensures.idle.1);
}

pub scan_first-requires-clause-range : goal.scan_first-requires-clause-range
scan_first-requires-clause-range g c = key_le-from_not c.args.low c.args.high (Prim.search rules)

pub returns : goal.returns
returns g c = record {
  stands = λ course st.
      let n = non_zero_u16_get c.args.limit in
      let same = c.get-n.ensures.value in
      c.show.ensures.stands course (ScanFirst c.args.session c.args.low c.args.high n) st
      (first_is st c.args.session c.args.low c.args.high n (subst (λ x. 0 < x) same c.get-n.ensures.nonzero) c.in_ok-open.open.now
      (c.in_ok-open.ensures.open) (Prim.search rules) c.in_ok-may_go_on.ensures.short c.laws_below.ensures c.txn-txn.result c.reached-last.result
      (map entry_of c.in_ok-entries.entries.items) (map final_of c.in_ok-rows.rows.items) c.txn-txn.ensures
      (c.in_ok-entries.ensures.0, c.in_ok-entries.ensures.1, c.in_ok-entries.ensures.2 ∙ ap (λ x. up_to x c.in_ok-entries.ensures.0) same)
      (c.in_ok-rows.ensures ∙ ap (λ ws. visible_pairs (map entry_of ws)) c.as_slice.ensures.value)
      (c.reached-last.ensures ∙ ap (λ rs. reached c.args.high c.get-n.result (map final_of rs)) c.as_slice-2.ensures.value
      ∙ ap (λ x. reached c.args.high x (map final_of c.in_ok-rows.rows.items)) same));
}

pub returns-then-lt : goal.returns-then-lt
returns-then-lt g c = record {
  stands = λ course st.
      first_range st c.args.session c.args.low c.args.high (non_zero_u16_get c.args.limit)
      (subst (λ x. 0 < x) c.get-n.ensures.value c.get-n.ensures.nonzero) c.in_ok-open.open.now (c.in_ok-open.ensures.open)
      (Prim.search rules);
}

pub returns-in_err-may_go_on : goal.returns-in_err-may_go_on
returns-in_err-may_go_on g c = record {
  stands = λ course st.
      let p = err_from_is_err_and c.from_residual-in_err-may_go_on.result c.from_residual-in_err-may_go_on.ensures.1 in
      rw (p.1, p.2, c.in_err-may_go_on.ensures.long.0) (first_long st c.args.session c.args.low c.args.high (non_zero_u16_get c.args.limit)
      (subst (λ x. 0 < x) c.get-n.ensures.value c.get-n.ensures.nonzero) c.in_ok-open.open.now (c.in_ok-open.ensures.open)
      (Prim.search rules) c.in_err-may_go_on.ensures.long.1);
}

pub returns-in_err-entries : goal.returns-in_err-entries
returns-in_err-entries g c = record {
  stands = λ course st.
      let p = err_from_is_err_and c.from_residual-in_err-entries.result c.from_residual-in_err-entries.ensures.1 in
      rw (p.1, p.2) (first_memory st c.args.session c.args.low c.args.high (non_zero_u16_get c.args.limit)
      (subst (λ x. 0 < x) c.get-n.ensures.value c.get-n.ensures.nonzero) c.in_ok-open.open.now (c.in_ok-open.ensures.open)
      (Prim.search rules) c.in_ok-may_go_on.ensures.short);
}

pub returns-in_err-rows : goal.returns-in_err-rows
returns-in_err-rows g c = record {
  stands = λ course st.
      let p = err_from_is_err_and c.from_residual-in_err-rows.result c.from_residual-in_err-rows.ensures.1 in
      rw (p.1, p.2) (first_memory st c.args.session c.args.low c.args.high (non_zero_u16_get c.args.limit)
      (subst (λ x. 0 < x) c.get-n.ensures.value c.get-n.ensures.nonzero) c.in_ok-open.open.now (c.in_ok-open.ensures.open)
      (Prim.search rules) c.in_ok-may_go_on.ensures.short);
}
