use Rattle.std.proofs.Common.{◌≡◌, ◌⊎◌, ℕ, List, [], Option, Some, Vec, Global, refl, sym, ◌∙◌, ap, inl, inr}
use Rattle.ssi_line.specs.declared.end.End.TheVariants.{Eof, Stop}
use Rattle.headline.proofs.Runs.{gets_yes}
use Rattle.headline.proofs.certified_run.Goals as goal

abbrev bytes_in : Vec ℕ Global → Option (List ℕ)
bytes_in v = Some v.items

pub returns : goal.returns
returns c =
    let run = c.in-Ok.ensures.run in
    let how : (run.0.end ≡ Eof) ⊎ (run.0.end ≡ Stop) = elim (c.is_fine-fine.ensures c.if-not-fine.false) [
      | inl e ↦ inl (sym run.2.0 ∙ e)
      | inr e ↦ inr (sym run.2.0 ∙ e)
    ] in
    let reads : Some c.new-reader.result.device.now ≡ Some c.args.input.now = rw c.new-reader.ensures.device refl in
    let replies : c.new-replies.result.device.items ≡ [] = rw c.new-replies.ensures.device c.new.ensures.items in
    let history : c.new-history.result.device.items ≡ [] = rw c.new-history.ensures.device c.new-2.ensures.items in
    let certificate : c.new-certificate.result.device.items ≡ [] = rw c.new-certificate.ensures.device c.new-3.ensures.items in
    let replies' : c.run_script-run.new.output.device.items ≡ c.into_inner.result.items = rw c.into_inner.ensures refl in
    let history' : c.run_script-run.new.history.device.items ≡ c.into_inner-2.result.items = rw c.into_inner-2.ensures refl in
    let certificate' : c.run_script-run.new.certificate.device.items ≡ c.into_inner-3.result.items = rw c.into_inner-3.ensures refl in
    gets_yes bytes_in bytes_in bytes_in (Some c.new-reader.result.device.now) (Some c.run_script-run.new.input.device.now)
    c.new-replies.result c.run_script-run.new.output c.new-history.result c.run_script-run.new.history
    c.new-certificate.result c.run_script-run.new.certificate
    c.accepted_texts_get_yes.ensures c.args.input.now c.into_inner.result.items c.into_inner-2.result.items c.into_inner-3.result.items
    run.0 how run.2.1 reads
    (ap Some replies) (ap Some replies') (ap Some history) (ap Some history') (ap Some certificate) (ap Some certificate')
