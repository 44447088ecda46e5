use Rattle.std.proofs.Common.{◌≡◌, ◌∙◌, refl, sym, ap, not, true, false, subst, Some, None, [], Bool, List, map, filter, drop, ℕ, option_map, slice_get}
use Rattle.std.specs.List.{filter_map, list_all, list_any}
use Rattle.std.proofs.lemmas.List.{drop_all}
use Rattle.adya_values.specs.declared.events.Events.{Events}
use Rattle.adya_values.specs.declared.seen.Seen.{Seen}
use Rattle.adya_values.specs.Meaning.Histories.{Entry, Event}
use Rattle.adya_values.specs.Mirror.Numbers.{has_seen, keys_of, seen_entry, seen_in, version_in}
use Rattle.adya_values.specs.Mirror.Events.{events_of}
use Rattle.adya_terms.specs.declared.event_index.EventIndex.{EventIndex}
use Rattle.adya_values.specs.Meaning.Events.{is_committed, observed, txn_of, written}
use Rattle.adya_values.specs.Computing.Faults.{entry_eq, was_written}
use Rattle.adya_terms.specs.Machinery.EventIndex.{events_in, indexed, unfinished_in}
use Rattle.adya_terms.specs.Machinery.Checks.{IsFirst, refused}
use Rattle.adya_terms.specs.Machinery.Reads.{is_good}
use Rattle.adya_terms.proofs.Found.{found_is}
use Rattle.adya_terms.proofs.SameTests.{passes_at}
use Rattle.adya_terms.proofs.Refused.{committed_refused, none_refused, kept_here, kept_later}
use Rattle.adya_terms.proofs.Sights.{all_seen}
use Rattle.adya_terms.proofs.reads.first_bad.Goals as goal
use Rattle.lemmas.proofs.Members.{Contains-slice_get}
use Rattle.lemmas.proofs.Steps.{turn_below}
use Rattle.lemmas.proofs.Tests.{all_pass}

-- the event is of the transaction
of_txn : (x : EventIndex) (es : Events) → es ≡ events_in x → (at t : ℕ) → option_map txn_of (slice_get (events_of es) at) ≡ Some t
    → (e : Event) → slice_get (indexed x) at ≡ Some e → txn_of e ≡ t
of_txn x es same at t is e found = found_is txn_of _ e t (subst (λ y. option_map txn_of (slice_get (events_of y) at) ≡ Some t) same is) found

-- and sees these
sees : (x : EventIndex) (es : Events) → es ≡ events_in x → (at : ℕ) (ss items : List Seen) → option_map observed (slice_get (events_of es) at) ≡ Some (map (seen_entry es) ss)
    → items ≡ ss → (e : Event) → slice_get (indexed x) at ≡ Some e → observed e ≡ map (seen_entry (events_in x)) items
sees x es same at ss items is of e found =
    found_is observed _ e _ (subst (λ y. option_map observed (slice_get (events_of y) at) ≡ Some (map (seen_entry y) ss)) same is) found ∙ ap (map (seen_entry (events_in x))) (sym of)

pub returns-then-not-has_committed : goal.returns-then-not-has_committed
returns-then-not-has_committed c e found =
    let x = c.args.index.now in
    let all = indexed x in
    let of = of_txn x c.events-events.result.now c.events-events.ensures c.args.at c.txn_at-txn.result c.txn_at-txn.ensures e found in
    none_refused (is_good c.args.kind all (unfinished_in x)) all e (ap (is_committed all) of ∙ (sym c.has_committed.ensures ∙ c.if-not-has_committed.true))

pub loop-seen-init : goal.loop-seen-init
loop-seen-init c e of = refl

pub allows-requires : goal.allows-requires
allows-requires c =
    let x = c.args.index.now in
    let es = events_in x in
    let all = indexed x in
    let same = c.events-events.ensures in
    let items = c.seen-seen-items.result.now in
    let o = c.seen-item.result in
    let i = c.loop-seen.seen-index in
    let t = turn_below all c.args.at c.requires.within in
    let shown = sees x c.events-events.result.now same c.args.at (seen_in c.observed-observed.result) items c.observed-observed.ensures.entries c.seen-seen-items.ensures t.0 t.1.found in
    let was : was_written all t.0 ≡ true = all_pass (was_written all) all t.0 c.requires.written (Contains-slice_get all c.args.at t.0 t.1.found) in
    let there : list_all (has_seen es) items ≡ true =
    subst (λ xs. list_all (has_seen es) xs ≡ true) (sym c.seen-seen-items.ensures)
    (subst (λ y. list_all (has_seen y) (seen_in c.observed-observed.result) ≡ true) same c.observed-observed.ensures.there) in
    let p : Entry → Bool = λ y. list_any (entry_eq y) (filter_map written all) in
    record {
      there = passes_at (has_seen es) items there i o c.loop-seen-test.true c.seen-item.is;
      written = passes_at (λ s. p (seen_entry es s)) items (sym (all_seen p es t.0 items items shown refl) ∙ was) i o c.loop-seen-test.true c.seen-item.is;
    }

pub loop-seen-preserved : goal.loop-seen-preserved
loop-seen-preserved c e of =
    let x = c.args.index.now in
    let entry = seen_entry (events_in x) in
    let o = c.seen-item.result in
    let test : Entry → Bool = λ y. not (is_good c.args.kind (indexed x) (unfinished_in x) e y) in
    let miss : test (entry o) ≡ false = ap not (sym (c.allows.ensures e of) ∙ c.if-not-allows.false) in
    c.loop-seen.invariant e of ∙
    kept_later test entry c.seen-seen-items.result.now c.loop-seen.seen-index o c.loop-seen-test.true c.seen-item.is miss

pub returns-then-not-allows : goal.returns-then-not-allows
returns-then-not-allows c e found =
    let x = c.args.index.now in
    let all = indexed x in
    let entry = seen_entry (events_in x) in
    let same = c.events-events.ensures in
    let items = c.seen-seen-items.result.now in
    let o = c.seen-item.result in
    let good = is_good c.args.kind all (unfinished_in x) in
    let test : Entry → Bool = λ y. not (good e y) in
    let of = of_txn x c.events-events.result.now same c.args.at c.txn_at-txn.result c.txn_at-txn.ensures e found in
    let hit : test (entry o) ≡ true = ap not (sym (c.allows.ensures e of) ∙ c.if-not-allows.true) in
    let committed : is_committed all (txn_of e) ≡ true = ap (is_committed all) of ∙ (sym c.has_committed.ensures ∙ c.if-not-has_committed.false) in
    let shown = sees x c.events-events.result.now same c.args.at (seen_in c.observed-observed.result) items c.observed-observed.ensures.entries c.seen-seen-items.ensures e found in
    let version : c.version-then-not-allows.result ≡ (entry o).version =
    c.version-then-not-allows.ensures ∙ (ap (λ v. version_in (keys_of c.events-events.result.now) v) c.version.ensures ∙ ap (λ y. (seen_entry y o).version) same) in
    subst (λ v. IsFirst (refused good all e) (Some v)) (sym version)
    (committed_refused good all e (Some (entry o).version) committed
    (subst (λ xs. IsFirst xs (Some (entry o).version)) (sym (c.loop-seen.invariant e of) ∙ ap (filter test) (sym shown))
    (kept_here test entry items c.loop-seen.seen-index o c.loop-seen-test.true c.seen-item.is hit)))

pub returns : goal.returns
returns c e found =
    let x = c.args.index.now in
    let all = indexed x in
    let entry = seen_entry (events_in x) in
    let same = c.events-events.ensures in
    let items = c.seen-seen-items.result.now in
    let good = is_good c.args.kind all (unfinished_in x) in
    let test : Entry → Bool = λ y. not (good e y) in
    let of = of_txn x c.events-events.result.now same c.args.at c.txn_at-txn.result c.txn_at-txn.ensures e found in
    let committed : is_committed all (txn_of e) ≡ true = ap (is_committed all) of ∙ (sym c.has_committed.ensures ∙ c.if-not-has_committed.false) in
    let shown = sees x c.events-events.result.now same c.args.at (seen_in c.observed-observed.result) items c.observed-observed.ensures.entries c.seen-seen-items.ensures e found in
    let none : filter test (map entry (drop c.loop-seen.seen-index items)) ≡ [] =
    ap (λ xs. filter test (map entry xs)) (drop_all c.loop-seen.seen-index items c.loop-seen-test.false) in
    committed_refused good all e None committed (ap (filter test) shown ∙ (c.loop-seen.invariant e of ∙ none))
