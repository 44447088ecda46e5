use Rattle.std.proofs.Common.{rules, sym, ◌∙◌, ap, subst, if◌then◌else◌, ◌&&◌, Some}
use Rattle.adya_keys.specs.Meaning.Keys.{key_eq}
use Rattle.adya_values.specs.Mirror.Events.{entry_of}
use Rattle.std.specs.BTreeMap.{is_at}
use Rattle.std.specs.Ordering.{nat_cmp}
use Rattle.std.specs.Cmp.Lexicographic.{slice_cmp}
use Rattle.ssi_recorder.specs.Machinery.Lines.{put_at, AreLines}
use Rattle.ssi_recorder.proofs.Puts.{put_step, here_some, here_none, is_line, lines-set, lines-insert}
use Rattle.ssi_recorder.proofs.installs.put.Goals as goal

pub returns-in-Some-clause-put : goal.returns-in-Some-clause-put
returns-in-Some-clause-put c = λ q r.
    put_step c.args.lines.now.entries _ c.args.entry.now.version.key q c.args.place r c.args.entry.now c.insert.new.self
    (here_some c.args.lines.now.entries c.args.entry.now.version.key c.args.place r c.args.entry.now c.in-Some.line.now c.insert.new.self (sym c.in-Some.ensures.value) (c.in_ok-insert.ensures.updates.0 r))
    (((c.get_mut.follows.holds c.insert.new.self).3 (Prim.search rules)).0 q)

pub returns-in-Some-clause-lines : goal.returns-in-Some-clause-lines
returns-in-Some-clause-lines c = λ all.
    subst AreLines (sym (c.get_mut.follows.holds c.insert.new.self).0)
    (lines-set (is_at (slice_cmp nat_cmp c.args.entry.now.version.key)) c.args.lines.now.entries c.insert.new.self all
    (is_line c.insert.new.self c.in-Some.line.now.entries c.args.place c.args.entry.now c.in_ok-insert.ensures.entries c.in_ok-insert.ensures.ordered))

pub returns-clause-put : goal.returns-clause-put
returns-clause-put c = λ q r.
    put_step c.get_mut.follows.lender-at-none.entries c.insert-3.new.self.entries c.args.entry.now.version.key q c.args.place r c.args.entry.now c.insert-2.new.self
    (here_none c.get_mut.follows.lender-at-none.entries c.args.entry.now.version.key c.args.place r c.args.entry.now c.new-line.result c.insert-2.new.self (Prim.search rules) c.new-line.ensures.empty (c.in_ok-insert-2.ensures.updates.0 r))
    (c.in_ok-insert-3.ensures.updates.0 q)
    ∙ ap (λ m. if key_eq c.args.entry.now.version.key q && is_at (nat_cmp c.args.place) r then Some (entry_of c.args.entry.now) else put_at q r m.entries) c.get_mut.follows.holds-at-none

pub returns-clause-lines : goal.returns-clause-lines
returns-clause-lines c = λ all.
    subst AreLines (sym c.in_ok-insert-3.ensures.entries)
    (lines-insert c.args.entry.now.version.key c.get_mut.follows.lender-at-none.entries c.insert-2.new.self (subst (λ m. AreLines m.entries) (sym c.get_mut.follows.holds-at-none) all)
    (is_line c.insert-2.new.self c.new-line.result.entries c.args.place c.args.entry.now c.in_ok-insert-2.ensures.entries c.in_ok-insert-2.ensures.ordered))
