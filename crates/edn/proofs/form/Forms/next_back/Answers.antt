use Rattle.std.proofs.Common.{◌≡◌, ◌∙◌, ◌≤◌, suc, ◌-◌, ◌++◌, [], ◌∷◌, length, reverse, take, drop, List, sym, ap, arith}
use Rattle.edn.specs.Meaning.Forms.{Form}
use Rattle.edn.specs.Meaning.Tapes.{first_of, forms_back, forms_in}
use Rattle.edn.specs.Meaning.Views.{forms_of}
use Rattle.edn.proofs.Tapes.{back_one, forms_skip, length_dropped}
use Rattle.edn.proofs.form.Forms.next_back.Goals as goal

pub of-requires-clause-within : goal.of-requires-clause-within
of-requires-clause-within c =
    let fs = forms_in c.args.self.now.nodes.now in
    let within = c.args.self.now.within in
    let left : forms_in c.before-2.result.now ≡ drop 1 fs = ap forms_back c.before-2.ensures.before ∙ forms_skip (reverse c.args.self.now.nodes.now) 1 in
    let many : length (forms_in c.before-2.result.now) ≡ length fs - 1 = ap (λ (xs : List Form). length xs) left ∙ length_dropped fs in
    omega (arith, within, many)

pub returns-clause-some : goal.returns-clause-some
returns-clause-some c =
    let fs = forms_in c.args.self.now.nodes.now in
    let within = c.args.self.now.within in
    let some = c.if-self-eq0.false in
    let left : forms_in c.before-2.result.now ≡ drop 1 fs = ap forms_back c.before-2.ensures.before ∙ forms_skip (reverse c.args.self.now.nodes.now) 1 in
    let one : c.args.self.now.left ≡ suc (c.args.self.now.left - 1) = omega (arith, some) in
    let there : 1 ≤ length fs = omega (arith, within, some) in
    ap (λ k. reverse (take k fs)) one
    ∙ back_one fs (c.args.self.now.left - 1) there
    ∙ ap (λ xs. reverse (take (c.args.self.now.left - 1) xs) ++ first_of fs ∷ []) (sym left)
    ∙ ap (λ xs. xs ++ first_of fs ∷ []) (sym c.of.ensures.forms)
    ∙ ap (λ f. forms_of c.of.result ++ f ∷ []) (sym c.at_end-form.ensures)
