use Rattle.std.proofs.Common.{◌≡◌, refl, sym, ap, ◌∙◌}
use Rattle.std.specs.Prelude.{◌||◌}
use Rattle.edn.specs.Meaning.Names.{are_keyword_names, is_keyword, is_keyword_at}
use Rattle.edn.proofs.Fronts.{behind, whole, none}
use Rattle.edn.proofs.names.is_keyword.Goals.{After-split_at}
use Rattle.edn.proofs.names.is_keyword.Goals as goal

parts : (c : After-split_at) → is_keyword_at c.split_at.result.0.now c.split_at.result.1.now ≡ is_keyword c.args.text.now
parts c = rw (c.split_at.ensures.front, c.split_at.ensures.back, c.before_slash.ensures.value) refl

pub returns-in-empty : goal.returns-in-empty
returns-in-empty c =
    c.is_keyword_name.ensures ∙ ap (is_keyword_at c.split_at.result.0.now) (none _ c.in-empty.len_below)
    ∙ parts (goal.at.returns-in-empty c).After-split_at

pub returns-then-are_empty : goal.returns-then-are_empty
returns-then-are_empty c =
    let prefix = c.split_at.result.0.now in
    let rest = c.split_at.result.1.now in
    c.if-are_empty.true
    ∙ ap (λ v. v || are_keyword_names prefix (behind rest)) (sym c.if-are_empty.true ∙ c.are_empty.ensures)
    ∙ ap (is_keyword_at prefix) (whole _ rest c.in-len1-up.len_at_least refl) ∙ parts (goal.at.returns-then-are_empty c).After-split_at

pub returns-else-are_empty : goal.returns-else-are_empty
returns-else-are_empty c =
    let prefix = c.split_at.result.0.now in
    let rest = c.split_at.result.1.now in
    c.are_keyword_names.ensures
    ∙ ap (λ v. v || are_keyword_names prefix (behind rest)) (sym c.if-are_empty.false ∙ c.are_empty.ensures)
    ∙ ap (is_keyword_at prefix) (whole _ rest c.in-len1-up.len_at_least refl) ∙ parts (goal.at.returns-else-are_empty c).After-split_at
