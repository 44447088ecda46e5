use Rattle.std.proofs.Common.{◌≡◌, ◌∙◌, ℕ, List, ◌++◌, length, drop, map, ap, sym, subst}
use Rattle.std.proofs.lemmas.Bool.Decides.{Decides-eqb}
use Rattle.std.proofs.lemmas.Slice.Eq.{starts_is}
use Rattle.adya_values.specs.Mirror.Events.{final_of}
use Rattle.adya_text.specs.Meaning.Texts.{with_ends}
use Rattle.ssi_loads.specs.Meaning.Loads.{first_lines}
use Rattle.ssi_loads.proofs.following.is_followed.Goals as goal

pub returns-clause-followed : goal.returns-clause-followed
returns-clause-followed g c = λ new.
    let r = c.in_default.ensures.replayed new in
    let next_text = c.args.next_text.now in
    let lines =
    c.deref-2.ensures.value ∙ c.in_ok-lines.ensures.text
    ∙ ap (λ rows. with_ends (first_lines c.args.next (map final_of rows))) c.deref.ensures.value
    ∙ ap (λ rows. with_ends (first_lines c.args.next rows)) (c.in_ok-rows.ensures r.course r.at) in
    let starts = starts_is Decides-eqb next_text c.deref-2.result.now c.starts_with.result c.starts_with.ensures.value in (
      r,
      λ on. (
        drop (length c.deref-2.result.now) next_text,
        subst (λ (front : List ℕ). next_text ≡ front ++ drop (length c.deref-2.result.now) next_text) lines (starts.0 on),
      ),
      λ off rest e. cc (off, starts.1 rest (e ∙ ap (λ (front : List ℕ). front ++ rest) (sym lines))),
    )
