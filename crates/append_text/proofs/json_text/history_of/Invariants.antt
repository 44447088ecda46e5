use Rattle.std.proofs.Common.{take}
use Rattle.append_text.specs.declared.text_form.TextForm.TheVariants.{Json}
use Rattle.append_text.specs.Machinery.Collectors.{HasCollected}
use Rattle.append_text.proofs.JsonReadings.{forms_in}
use Rattle.append_text.proofs.json_text.history_of.Given as goal

abbrev pub invariant-loop-place : goal.invariant-loop-place
invariant-loop-place l = HasCollected Json (forms_in (take l.place l.values)) l.collector
