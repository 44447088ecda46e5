use Rattle.std.proofs.Common.{rules, arith, ◌∙◌}
use Rattle.ssi_versions.specs.Machinery.Keyed.{HasRoomAt}
use Rattle.ssi_versions.proofs.Lists.{within_more}
use Rattle.ssi_versions.proofs.keyed.make_room_for.Goals as goal

pub writes-preserved : goal.writes-preserved
writes-preserved c = record {
  same = λ q. c.in_ok-make_room.ensures.same q ∙ c.writes.invariant.same q;
  room = within_more (λ w. HasRoomAt c.writes.chains.entries w.0.key) (λ w. HasRoomAt c.make_room.new.chains.entries w.0.key) c.args.writes.now c.writes.write-index c.write-item.result
      (omega arith) (Prim.search rules) (λ w h. c.in_ok-make_room.ensures.keeps w.0.key h) c.writes.invariant.room c.in_ok-make_room.ensures.room;
  versions = c.in_ok-make_room.ensures.versions ∙ c.writes.invariant.versions;
  owned = c.in_ok-make_room.ensures.owned ∙ c.writes.invariant.owned;
  filled = c.in_ok-make_room.ensures.filled ∙ c.writes.invariant.filled;
}

pub returns-clause-room : goal.returns-clause-room
returns-clause-room c = λ k d h. c.writes.invariant.room k d (omega arith) (omega arith)
