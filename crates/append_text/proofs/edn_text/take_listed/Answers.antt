use Rattle.std.proofs.Common.{◌++◌, arith, map, sym, subst, take}
use Rattle.std.proofs.lemmas.List.{append-nil}
use Rattle.edn.specs.Meaning.Views.{form_of}
use Rattle.append_text.specs.declared.text_form.TextForm.TheVariants.{Edn}
use Rattle.append_text.specs.Machinery.Collectors.{HasCollected}
use Rattle.append_text.specs.Machinery.EdnFaults.{IsRefusedListed}
use Rattle.append_text.proofs.TextFaults.{element_refused}
use Rattle.append_text.proofs.edn_text.take_listed.Goals as goal

pub loop-place-init : goal.loop-place-init
loop-place-init c = λ fs has. subst (λ gs. HasCollected Edn gs c.args.collector.now) (sym (append-nil fs)) has

pub returns-in-Err-clause-refused : goal.returns-in-Err-clause-refused
returns-in-Err-clause-refused c = λ fs has.
    let xs = c.args.forms.now in
    let k = c.loop-place.place in
    subst (IsRefusedListed fs (map form_of xs)) (sym c.at.ensures)
    (element_refused form_of xs k c.index-forms-place.result (omega arith) c.index-forms-place.is fs c.in-Err.refusal
    (c.in-Err.ensures.refused (fs ++ map form_of (take k xs)) (c.loop-place.invariant fs has)))
