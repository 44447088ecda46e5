use Rattle.std.proofs.Common.{◌≡◌, ◌∙◌, ◌++◌, ◌∷◌, [], ap}
use Rattle.std.specs.List.{zip}
use Rattle.std.proofs.lemmas.Result.{on_ok_weaker}
use Rattle.adya_keys.specs.Machinery.Parts.{parts_of}
use Rattle.adya_keys.proofs.PackedLines.{zip-append}
use Rattle.adya_keys.proofs.lines.Lines.push.Goals as goal

pub returns-clause-ok : goal.returns-clause-ok
returns-clause-ok g c =
    let old = c.args.self.now in
    let ks = parts_of old.keys in
    let key = c.args.key in
    let ys = c.args.items.now in
    let keys : parts_of c.push.new.self ≡ ks ++ key ∷ [] = c.in_ok-push.ensures.ok ∙ ap (λ k. ks ++ k ∷ []) c.bytes.ensures.same in
    on_ok_weaker c.push-2.result (λ more. ap (λ js. zip js (parts_of c.push-2.new.self)) keys ∙
    (ap (zip (ks ++ key ∷ [])) (more ∙ ap (λ xs. xs ++ ys ∷ []) c.reserve.ensures.same) ∙ zip-append ks (parts_of old.items) key ys old.paired)) c.push-2.ensures.ok
