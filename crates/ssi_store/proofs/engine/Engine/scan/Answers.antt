use Rattle.std.proofs.Common.{rules, ap, ◌∙◌, map}
use Rattle.std.proofs.lemmas.Result.{err_from_is_err_and}
use Rattle.adya_values.specs.Mirror.Events.{entry_of, final_of}
use Rattle.adya_values.specs.Meaning.Serial.{visible_pairs}
use Rattle.ssi_store.specs.Meaning.Courses.{Scan}
use Rattle.adya_keys.proofs.KeyOrder.{key_le-from_not}
use Rattle.ssi_store.proofs.Scans.{scan_idle, scan_range, scan_long, scan_memory, scan_is}
use Rattle.ssi_store.proofs.engine.Engine.scan.Goals as goal

pub scan-requires : goal.scan-requires
scan-requires g c = key_le-from_not c.args.low c.args.high (Prim.search rules)

pub returns-in_err-open : goal.returns-in_err-open
returns-in_err-open g c = record {
  stands = λ course st.
      let p = err_from_is_err_and c.from_residual.result c.from_residual.ensures.1 in
      rw (p.1, p.2, c.in_err-open.ensures.idle.0) (scan_idle st c.args.session c.args.low c.args.high c.in_err-open.ensures.idle.1);
}

pub returns : goal.returns
returns g c = record {
  stands = λ course st.
      c.show.ensures.stands course (Scan c.args.session c.args.low c.args.high) st
      (scan_is st c.args.session c.args.low c.args.high c.in_ok-open.open.now (c.in_ok-open.ensures.open) (Prim.search rules)
      c.in_ok-may_go_on.ensures.short c.laws_below.ensures c.txn-txn.result (map entry_of c.in_ok-entries.entries.items)
      (map final_of c.in_ok-rows.rows.items) c.txn-txn.ensures c.in_ok-entries.ensures
      (c.in_ok-rows.ensures ∙ ap (λ ws. visible_pairs (map entry_of ws)) c.as_slice.ensures.value));
}

pub returns-then-lt : goal.returns-then-lt
returns-then-lt g c = record {
  stands = λ course st.
      scan_range st c.args.session c.args.low c.args.high c.in_ok-open.open.now (c.in_ok-open.ensures.open)
      (Prim.search rules);
}

pub returns-in_err-may_go_on : goal.returns-in_err-may_go_on
returns-in_err-may_go_on g c = record {
  stands = λ course st.
      let p = err_from_is_err_and c.from_residual-in_err-may_go_on.result c.from_residual-in_err-may_go_on.ensures.1 in
      rw (p.1, p.2, c.in_err-may_go_on.ensures.long.0) (scan_long st c.args.session c.args.low c.args.high c.in_ok-open.open.now (c.in_ok-open.ensures.open)
      (Prim.search rules) c.in_err-may_go_on.ensures.long.1);
}

pub returns-in_err-entries : goal.returns-in_err-entries
returns-in_err-entries g c = record {
  stands = λ course st.
      let p = err_from_is_err_and c.from_residual-in_err-entries.result c.from_residual-in_err-entries.ensures.1 in
      rw (p.1, p.2) (scan_memory st c.args.session c.args.low c.args.high c.in_ok-open.open.now (c.in_ok-open.ensures.open)
      (Prim.search rules) c.in_ok-may_go_on.ensures.short);
}

pub returns-in_err-rows : goal.returns-in_err-rows
returns-in_err-rows g c = record {
  stands = λ course st.
      let p = err_from_is_err_and c.from_residual-in_err-rows.result c.from_residual-in_err-rows.ensures.1 in
      rw (p.1, p.2) (scan_memory st c.args.session c.args.low c.args.high c.in_ok-open.open.now (c.in_ok-open.ensures.open)
      (Prim.search rules) c.in_ok-may_go_on.ensures.short);
}
