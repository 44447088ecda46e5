use Rattle.std.proofs.Common.{rules, arith, ap, refl, subst, sym, length, true, ◌≡◌, ◌+◌, ◌<◌, ◌∙◌, cond, Some}
use Rattle.std.proofs.lemmas.Result.{err_from_is_err_and}
use Rattle.adya_keys.specs.Meaning.Keys.{key_eq}
use Rattle.ssi_store.specs.Machinery.Opens.{open_at}
use Rattle.ssi_store.proofs.RisingOpens.{below_same, below_next, below_begun}
use Rattle.ssi_store.proofs.Begins.{begin_busy, begin_memory, begun}
use Rattle.ssi_store.proofs.engine.Engine.begin.Goals as goal

pub returns-in_err-on_begin : goal.returns-in_err-on_begin
returns-in_err-on_begin g c = record {
  stands = λ course st.
      let p = err_from_is_err_and c.from_residual-in_err-on_begin.result c.from_residual-in_err-on_begin.ensures.1 in
      rw (p.1, p.2) (begin_memory st c.args.session (Prim.search rules) (let l = c.in-Ok.ensures.limits.0 refl in omega (arith, l)) _ _ _ _ _
      c.in-Ok.txn c.in-Ok.ensures.same c.reserve.ensures.entries c.open.ensures.recorded c.room.ensures.opened
      c.open.ensures.started (λ calls old may. c.in_err-on_begin.ensures.refused calls old may));
}

pub returns : goal.returns
returns g c = record {
  stands = λ course st.
      begun st c.args.session (Prim.search rules) (let l = c.in-Ok.ensures.limits.0 refl in omega (arith, l)) _ _ _ _ _
      c.new-2.result c.in-Ok.txn c.in-Ok.ensures.same
      (λ q. c.add.ensures.added q
      ∙ ap (λ es. cond (key_eq c.args.session q) (Some c.new-2.result) (open_at q es)) c.reserve.ensures.entries)
      (λ es told. c.begin-2.ensures.recorded es (c.open.ensures.recorded es told)) (Prim.search rules)
      (λ ts told. c.begin-2.ensures.started ts (c.open.ensures.started ts told)) c.in_ok-on_begin.ensures.begun c.new-2.ensures.txn
      c.new-2.ensures.snapshot c.new-2.ensures.count c.new-2.ensures.written;
}

pub begin-requires-clause-above : goal.begin-requires-clause-above
begin-requires-clause-above g c =
    below_next c.args.self.now.next c.in-Ok.txn _ _ c.args.self.now.early c.in-Ok.ensures.same c.room.ensures.opened

pub invariant_of-self-2-clause-early : goal.invariant_of-self-2-clause-early
invariant_of-self-2-clause-early g c =
    below_begun c.args.self.now.next c.in-Ok.txn c.args.self.now.commits _ _ _ c.args.self.now.early c.in-Ok.ensures.same
    c.room.ensures.opened c.begin.ensures.opened

pub invariant_of-self-2-clause-places : goal.invariant_of-self-2-clause-places
invariant_of-self-2-clause-places g c =
    c.begin-2.ensures.places _ (g.met.P.Past.fewer _ _ _ (let l = c.add.ensures.len in omega (arith, l))
    (c.in_ok-open.ensures.place _
    (subst (λ es. g.P.Past.has_places c.args.self.now.past (length es) ≡ true) (sym c.reserve.ensures.entries) c.args.self.now.places)))

pub returns-then-contains_key : goal.returns-then-contains_key
returns-then-contains_key g c = record { stands = λ course st. begin_busy st c.args.session (Prim.search rules) }

pub returns-in_err-reserve : goal.returns-in_err-reserve
returns-in_err-reserve g c = record {
  stands = λ course st.
      let p = err_from_is_err_and c.from_residual.result c.from_residual.ensures.1 in
      rw (p.1, p.2) (begin_memory st c.args.session (Prim.search rules) (let l = c.in-Ok.ensures.limits.0 refl in omega (arith, l)) _ _ _ _ _
      c.in-Ok.txn c.in-Ok.ensures.same c.reserve.ensures.entries (λ es told. told) refl (λ ts told. told)
      (λ calls old may. old));
}

pub returns-in_err-room : goal.returns-in_err-room
returns-in_err-room g c = record {
  stands = λ course st.
      let p = err_from_is_err_and c.from_residual-in_err-room.result c.from_residual-in_err-room.ensures.1 in
      rw (p.1, p.2) (begin_memory st c.args.session (Prim.search rules) (let l = c.in-Ok.ensures.limits.0 refl in omega (arith, l)) _ _ _ _ _
      c.in-Ok.txn c.in-Ok.ensures.same c.reserve.ensures.entries (λ es told. told) c.room.ensures.opened (λ ts told. told)
      (λ calls old may. old));
}

pub returns-in_err-open : goal.returns-in_err-open
returns-in_err-open g c = record {
  stands = λ course st.
      let p = err_from_is_err_and c.from_residual-in_err-open.result c.from_residual-in_err-open.ensures.1 in
      rw (p.1, p.2) (begin_memory st c.args.session (Prim.search rules) (let l = c.in-Ok.ensures.limits.0 refl in omega (arith, l)) _ _ _ _ _
      c.in-Ok.txn c.in-Ok.ensures.same c.reserve.ensures.entries c.open.ensures.recorded c.room.ensures.opened c.open.ensures.started
      (λ calls old may. old));
}

pub invariant_of-self-2-clause-above : goal.invariant_of-self-2-clause-above
invariant_of-self-2-clause-above g c = c.args.self.now.above

pub invariant_of-self-in-Break-branch-2 : goal.invariant_of-self-in-Break-branch-2
invariant_of-self-in-Break-branch-2 g c = record {
  room = subst (λ es. c.args.self.now.commits + length es < c.args.self.now.next) (sym c.reserve.ensures.entries) c.args.self.now.room;
  few = c.args.self.now.few;
  above = c.args.self.now.above;
  early = below_same c.args.self.now.next _ _ c.args.self.now.early c.room.ensures.opened;
  places = subst (λ es. g.P.Past.has_places c.args.self.now.past (length es) ≡ true) (sym c.reserve.ensures.entries) c.args.self.now.places;
}

pub invariant_of-self-in-Break-branch-3 : goal.invariant_of-self-in-Break-branch-3
invariant_of-self-in-Break-branch-3 g c = record {
  room = subst (λ es. c.args.self.now.commits + length es < c.args.self.now.next) (sym c.reserve.ensures.entries) c.args.self.now.room;
  few = c.args.self.now.few;
  above = c.args.self.now.above;
  early = below_same c.args.self.now.next _ _ c.args.self.now.early c.room.ensures.opened;
  places = c.open.ensures.places _ (subst (λ es. g.P.Past.has_places c.args.self.now.past (length es) ≡ true) (sym c.reserve.ensures.entries) c.args.self.now.places);
}

pub invariant_of-self-in-Break-branch-4 : goal.invariant_of-self-in-Break-branch-4
invariant_of-self-in-Break-branch-4 g c = record {
  room = subst (λ es. c.args.self.now.commits + length es < c.args.self.now.next) (sym c.reserve.ensures.entries) c.args.self.now.room;
  few = c.args.self.now.few;
  above = c.args.self.now.above;
  early = below_same c.args.self.now.next _ _ c.args.self.now.early c.room.ensures.opened;
  places = c.open.ensures.places _ (subst (λ es. g.P.Past.has_places c.args.self.now.past (length es) ≡ true) (sym c.reserve.ensures.entries) c.args.self.now.places);
}
