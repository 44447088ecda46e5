use Rattle.std.proofs.Common.{◌≡◌, ◌≤◌, ◌∷◌, ◌∙◌, ◌⊎◌, reverse, sym, subst, OnOk, IfErr}
use Rattle.edn.specs.declared.read_fault.Problem.TheVariants.{Depth}
use Rattle.edn.specs.declared.read_fault.Refusal.TheVariants.{Memory, Problem}
use Rattle.edn.specs.Machinery.TapeForms.{tape_forms}
use Rattle.edn.proofs.Rows.{length_frames}
use Rattle.edn.proofs.builder.Builder.begin_within.Goals as goal

pub returns-clause-shallow : goal.returns-clause-shallow
returns-clause-shallow c =
    let b = c.args.self.now in
    let os = b.inner ∷ reverse b.outer.items in
    subst (λ n. OnOk c.begin.result (n ≤ 64))
    (length_frames os (tape_forms c.push.new.self) ∙ sym (length_frames os (tape_forms b.forms))) c.begin.ensures.shallow

pub returns-clause-refused : goal.returns-clause-refused
returns-clause-refused c =
    let b = c.args.self.now in
    let os = b.inner ∷ reverse b.outer.items in
    subst (λ n. IfErr c.begin.result (λ e. (e ≡ Memory) ⊎ ((e ≡ Problem Depth) × (65 ≤ n))))
    (length_frames os (tape_forms c.push.new.self) ∙ sym (length_frames os (tape_forms b.forms))) c.begin.ensures.refused
