use Rattle.std.proofs.Common.{◌∙◌, reverse, refl, ap, arith}
use Rattle.edn.specs.Machinery.Tapes.{skip}
use Rattle.edn.proofs.Tapes.{kept_forms, kept_sound}
use Rattle.edn.proofs.tape.Tape.drop_last.Goals as goal

pub invariant_of-self : goal.invariant_of-self
invariant_of-self c =
    let nodes = c.args.self.now.nodes.items in
    let left = c.before-left.result.now in
    record {
      sound = kept_sound nodes left c.truncate.new.self.items
          (c.before-left.ensures.before ∙ ap (λ xs. skip (reverse xs) 1) c.deref.ensures.value) c.truncate.ensures.items c.args.self.now.sound;
      flat = refl;
      few = omega arith;
    }

pub returns : goal.returns
returns c =
    let nodes = c.args.self.now.nodes.items in
    let left = c.before-left.result.now in
    kept_forms nodes left c.truncate.new.self.items
    (c.before-left.ensures.before ∙ ap (λ xs. skip (reverse xs) 1) c.deref.ensures.value) c.truncate.ensures.items
