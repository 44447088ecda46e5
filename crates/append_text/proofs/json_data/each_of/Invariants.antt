use Rattle.std.proofs.Common.{◌≡◌, map, take}
use Rattle.append_text.proofs.json_data.each_of.Given as goal

abbrev pub invariant-loop-value : goal.invariant-loop-value
invariant-loop-value l = map (λ r. r.now) l.each.items ≡ take l.value-index l.values
