use Rattle.std.proofs.Common.{length, option_map, sym, ◌∙◌, ap, map, ltb-false, ◌≡◌, true}
use Rattle.std.proofs.lemmas.List.Sums.{AllPass-from_list_all}
use Rattle.std.proofs.lemmas.List.{drop_all}
use Rattle.std.proofs.lemmas.Bool.{ltb-true, and_parts}
use Rattle.adya_terms.specs.Clauses.Checked.{history_in}
use Rattle.adya_dsg.specs.Machinery.Choices.{key_at}
use Rattle.adya_dsg.specs.Machinery.VersionOrders.{ordered_entry, ordered_history, ordered_events}
use Rattle.adya_values.specs.Meaning.Events.{listed}
use Rattle.adya_values.specs.Mirror.Numbers.{has_seen}
use Rattle.adya_dsg.proofs.Lines.{line_once, lines_rise}
use Rattle.adya_dsg.proofs.Listed.{listed_here, unlisted}
use Rattle.adya_dsg.proofs.selection.listed.Goals as goal

pub returns-in_err-line_of : goal.returns-in_err-line_of
returns-in_err-line_of c =
    let g = c.args.versions.now in
    ap (option_map (ordered_entry g)) c.from_residual-in_err-line_of.ensures ∙
    unlisted (ordered_entry g) c.args.seen.now c.args.at c.in_ok-seen.seen.now
    (ltb-true c.args.at (length c.args.seen.now) (sym c.in_ok-seen.ensures.lookup.0)) c.in_ok-seen.ensures.lookup.1
    (key_at (ordered_history g) c.args.line) c.requires.rise c.requires.reached
    (λ same. c.in_err-line_of.ensures.none c.args.line c.requires.within (sym same))

pub returns-then-branch-line : goal.returns-then-branch-line
returns-then-branch-line c =
    let g = c.args.versions.now in
    let at = key_at (ordered_history g) in
    listed_here (ordered_entry g) c.args.seen.now c.args.at c.in_ok-seen.seen.now
    (ltb-true c.args.at (length c.args.seen.now) (sym c.in_ok-seen.ensures.lookup.0)) c.in_ok-seen.ensures.lookup.1
    (at c.args.line) (sym c.in_ok-line_of.ensures.found ∙ ap at c.if-branch-line.true)

pub returns : goal.returns
returns c =
    let g = c.args.versions.now in
    unlisted (ordered_entry g) c.args.seen.now c.args.at c.in_ok-seen.seen.now
    (ltb-true c.args.at (length c.args.seen.now) (sym c.in_ok-seen.ensures.lookup.0)) c.in_ok-seen.ensures.lookup.1
    (key_at (ordered_history g) c.args.line) c.requires.rise c.requires.reached
    (λ same. c.if-branch-line.false
    (line_once (ordered_history g).orders (lines_rise (history_in g.checked.now)) c.in_ok-line_of.field-0 c.args.line
    c.in_ok-line_of.ensures.within c.requires.within (c.in_ok-line_of.ensures.found ∙ same)))

pub returns-in_err-seen : goal.returns-in_err-seen
returns-in_err-seen c =
    let g = c.args.versions.now in
    let seen = c.args.seen.now in
    let w = ordered_entry g in
    let past = ltb-false c.args.at (length seen) (sym c.in_err-seen.ensures.lookup.0) in
    ap (option_map w) c.from_residual.ensures ∙
    sym (ap (λ ss. listed (key_at (ordered_history g) c.args.line) (map w ss)) (drop_all c.args.at seen past))

pub line_of-requires : goal.line_of-requires
line_of-requires c =
    let seen = c.args.seen.now in
    let s = c.in_ok-seen.seen.now in
    let test = has_seen (ordered_events c.args.versions.now) in
    let there = ltb-true c.args.at (length seen) (sym c.in_ok-seen.ensures.lookup.0) in
    let is : test s ≡ true = ap test c.in_ok-seen.ensures.lookup.1 ∙ AllPass-from_list_all test seen c.requires.there c.args.at _ there in
    ltb-true s.key _ (and_parts _ _ is).0
