use Rattle.std.proofs.Common.{List, ℕ, sym, subst}
use Rattle.std.specs.Prelude.{IfNone}
use Rattle.edn.specs.Meaning.Views.{form_of}
use Rattle.append_text.specs.Machinery.EdnMaps.{IsNoWord, key_of}
use Rattle.append_text.proofs.EdnKeys.{none_then, other_word}
use Rattle.append_text.proofs.edn_data.word_of.Goals as goal

pub returns-in-Within-clause-none : goal.returns-in-Within-clause-none
returns-in-Within-clause-none c =
    subst (λ k. IfNone c.after_blank.result ((namespace : List ℕ) → IsNoWord (key_of k namespace (form_of c.args.key)))) (sym c.in-Within.is)
    (none_then c.after_blank.result
    (λ other namespace. other_word namespace c.in_ok-name.name.now (form_of c.args.key) (sym c.in_ok-name.ensures) other)
    c.after_blank.ensures.none)
