use Rattle.std.proofs.Common.{◌≡◌, ◌+◌, vec_len}
use Rattle.std.specs.Prelude.{sum_by}
use Rattle.edn.specs.Computing.Building.{leave_tags}
use Rattle.edn.specs.Computing.Stacks.{under}
use Rattle.edn.specs.Machinery.Frames.{count_in, to_leave}
use Rattle.edn.proofs.builder.Builder.leave_tags.Given as goal

abbrev pub invariant-loop-self : goal.invariant-loop-self
invariant-loop-self l = record {
  under : leave_tags (under l.self) ≡ leave_tags (under l.initial.self);
  forms : l.self.forms ≡ l.initial.self.forms;
  counted : count_in l.self.inner + sum_by count_in l.self.outer.items ≡ count_in l.initial.self.inner + sum_by count_in l.initial.self.outer.items;
}

abbrev pub decreases-loop-self : goal.decreases-loop-self
decreases-loop-self l = vec_len l.self.outer + to_leave l.self.inner
