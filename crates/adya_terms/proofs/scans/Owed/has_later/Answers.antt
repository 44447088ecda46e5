use Rattle.std.proofs.Common.{◌≡◌, ℕ, Bool, List, Some, false, ◌&&◌, ◌∙◌, sym, ap, subst, option_map}
use Rattle.std.specs.List.{list_all}
use Rattle.std.specs.BTreeMap.{get}
use Rattle.std.specs.Ordering.{nat_cmp}
use Rattle.std.proofs.lemmas.Bool.{both_ways}
use Rattle.adya_values.specs.Mirror.Events.{events_of}
use Rattle.adya_terms.specs.Machinery.Scans.{listed}
use Rattle.adya_values.specs.Computing.Faults.{none_or_lists_only}
use Rattle.adya_terms.specs.Machinery.Tables.{written_at}
use Rattle.adya_terms.specs.Machinery.Owed.{AreShown}
use Rattle.adya_terms.proofs.Selected.{range_shows, runs_forward}
use Rattle.adya_terms.proofs.scans.Owed.has_later.Goals as goal

pub range-at-items-requires : goal.range-at-items-requires
range-at-items-requires c =
    rw c.new.ensures.start (rw c.new.ensures.end (runs_forward c.args.self.now.scan.now.low c.args.self.now.scan.now.high c.requires))

pub returns-then-not-has_write-clause-missed : goal.returns-then-not-has_write-clause-missed
returns-then-not-has_write-clause-missed c shown =
    let o = c.args.self.now in
    let scan = o.scan.now in
    let es = listed scan in
    let all = events_of scan.events.now in
    let items = c.range-at-items.result in
    let test : List ℕ × ℕ → Bool = λ e. none_or_lists_only es (written_at all (Some e.1)) in
    let there : get nat_cmp o.writes.now.later o.txn ≡ Some c.in-Some.later.now =
    sym c.later.ensures ∙ ap (option_map (λ m. m.now)) c.in-Some.is in
    let range = range_shows c.in-Some.later.now scan.low scan.high items c.new.result.start c.new.result.end c.new.ensures.start c.new.ensures.end
    (c.range-at-items.ensures.between c.new.ensures.exhausted) c.range-at-items.ensures.ordered (c.range-at-items.ensures.in_range c.new.ensures.exhausted).0 es all in
    let same : list_all test items ≡ list_all test c.into_iter-at-iterator.result = ap (list_all test) (sym c.into_iter-at-iterator.ensures.into_iter_gives) in
    let fails : list_all test c.loop-at.at-iterator ≡ false =
    ap (list_all test) c.in-Some-2.ensures.steps ∙ ap (λ b. b && list_all test c.next.new.self) (sym c.has_write.ensures ∙ c.if-not-has_write.true) in
    both_ways _ (same ∙ c.loop-at.invariant ∙ fails) (range.1 (subst (λ m. AreShown m scan.low scan.high es all) there shown))

pub returns-clause-shown : goal.returns-clause-shown
returns-clause-shown c =
    let o = c.args.self.now in
    let scan = o.scan.now in
    let es = listed scan in
    let all = events_of scan.events.now in
    let items = c.range-at-items.result in
    let test : List ℕ × ℕ → Bool = λ e. none_or_lists_only es (written_at all (Some e.1)) in
    let there : get nat_cmp o.writes.now.later o.txn ≡ Some c.in-Some.later.now =
    sym c.later.ensures ∙ ap (option_map (λ m. m.now)) c.in-Some.is in
    let range = range_shows c.in-Some.later.now scan.low scan.high items c.new.result.start c.new.result.end c.new.ensures.start c.new.ensures.end
    (c.range-at-items.ensures.between c.new.ensures.exhausted) c.range-at-items.ensures.ordered (c.range-at-items.ensures.in_range c.new.ensures.exhausted).0 es all in
    let same : list_all test items ≡ list_all test c.into_iter-at-iterator.result = ap (list_all test) (sym c.into_iter-at-iterator.ensures.into_iter_gives) in
    subst (λ m. AreShown m scan.low scan.high es all) (sym there)
    (range.0 (same ∙ c.loop-at.invariant ∙ ap (list_all test) c.in-None.ensures.steps.0))
