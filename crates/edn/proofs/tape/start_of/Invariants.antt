use Rattle.std.proofs.Common.{◌≡◌, ◌-◌, reverse, true}
use Rattle.edn.specs.Machinery.Tapes.{is_sound, skip}
use Rattle.edn.proofs.tape.start_of.Given as goal

abbrev pub invariant-loop : goal.invariant-loop
invariant-loop l = record {
  skipped : skip (reverse l.nodes) l.count ≡ skip (reverse l.rest) (l.count - l.counter);
  sound : is_sound (reverse l.rest) ≡ true;
}
