use Rattle.std.proofs.Common.{ap, sym, subst, ◌∙◌, take, slice_get, option_map, if◌then◌else◌, ◌&&◌, Some}
use Rattle.adya_values.specs.Mirror.Events.{entry_of, events_of, view_of}
use Rattle.adya_keys.specs.Meaning.Keys.{key_eq}
use Rattle.std.specs.BTreeMap.{is_at}
use Rattle.std.specs.Ordering.{nat_cmp}
use Rattle.ssi_recorder.specs.Machinery.Lines.{put_at, write_by, AreLines}
use Rattle.lemmas.proofs.Steps.{turn_at}
use Rattle.ssi_recorder.proofs.Placed.{write-none, write-other, write-put}
use Rattle.ssi_recorder.proofs.installs.lines.Goals as goal
use Rattle.ssi_recorder.proofs.installs.lines.Goals.{in-Some-written+in-Some-get_index_of+in_ok-put, in-Some-written+in_default-get_index_of, in_default-written}

pub events-preserved : goal.events-preserved
events-preserved c =
    let all = events_of c.args.events.now in
    let before = take c.events.i all in
    let e = view_of c.in-Some.event in
    let found = sym c.get.ensures ∙ ap (option_map view_of) c.in-Some.is in
    let more = (turn_at all c.events.i e found).front in
    elim c.match-written.branch [
      | in-Some-written+in-Some-get_index_of+in_ok-put w ↦ record {
        lines = λ q r. ap (λ m. put_at q r m.entries) w.lines-is ∙ w.in_ok-put.ensures.put q r
            ∙ ap (λ o. if key_eq w.in-Some-written.entry.version.key q && is_at (nat_cmp w.in-Some-get_index_of.place) r then Some (entry_of w.in-Some-written.entry) else o) (c.events.invariant.lines q r)
            ∙ write-put c.args.committed.now.keys w.in-Some-get_index_of.place r q before e (entry_of w.in-Some-written.entry) w.in-Some-written.ensures (sym w.in-Some-get_index_of.ensures.index) c.len-unique.ensures.unique
            ∙ ap (write_by (slice_get c.args.committed.now.keys r) q) (sym more);
        good = subst (λ m. AreLines m.entries) (sym w.lines-is) (w.in_ok-put.ensures.lines c.events.invariant.good);
      }
      | in-Some-written+in_default-get_index_of w ↦ record {
        lines = λ q r. ap (λ m. put_at q r m.entries) w.lines-is ∙ c.events.invariant.lines q r
            ∙ write-other c.args.committed.now.keys r q before e (entry_of w.in-Some-written.entry) w.in-Some-written.ensures (sym w.in_default-get_index_of.ensures.found)
            ∙ ap (write_by (slice_get c.args.committed.now.keys r) q) (sym more);
        good = subst (λ m. AreLines m.entries) (sym w.lines-is) c.events.invariant.good;
      }
      | in_default-written w ↦ record {
        lines = λ q r. ap (λ m. put_at q r m.entries) w.lines-is ∙ c.events.invariant.lines q r
            ∙ write-none (slice_get c.args.committed.now.keys r) q before e w.in_default-written.ensures ∙ ap (write_by (slice_get c.args.committed.now.keys r) q) (sym more);
        good = subst (λ m. AreLines m.entries) (sym w.lines-is) c.events.invariant.good;
      }
    ]
