use Rattle.std.proofs.Common.{◌∙◌, ap, take}
use Rattle.std.proofs.lemmas.List.{take-take}
use Rattle.edn.proofs.short.filled.Goals as goal

pub returns-then-text-ge-ROOM : goal.returns-then-text-ge-ROOM
returns-then-text-ge-ROOM c = λ n short within. ap (take n) c.copy_from_slice.ensures.after ∙ take-take n 16 c.args.text.now short
