use Rattle.std.proofs.Common.{List, ◌++◌, map, take}
use Rattle.edn.specs.Meaning.Forms.{Form}
use Rattle.edn.specs.Meaning.Views.{form_of}
use Rattle.append_text.specs.declared.text_form.TextForm.TheVariants.{Edn}
use Rattle.append_text.specs.Machinery.Collectors.{HasCollected}
use Rattle.append_text.proofs.edn_text.take_listed.Given as goal

abbrev pub invariant-loop-place : goal.invariant-loop-place
invariant-loop-place l = (fs : List Form) → HasCollected Edn fs l.initial.collector
    → HasCollected Edn (fs ++ map form_of (take l.place l.forms)) l.collector
