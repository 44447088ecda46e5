use Rattle.std.proofs.Common.{◌≡◌, ◌+◌, ◌<◌, ◌++◌, ℕ, suc, List, Vec, Global, filter, length, drop, get_or, Option, Some, None, is_some, option_map, slice_get, sym, ◌∙◌, ap, falls, refl, append-nil}
use Rattle.std.proofs.lemmas.List.{drop_all}
use Rattle.std.proofs.lemmas.Result.{IfOk-from_err}
use Rattle.std.specs.Prelude.{option_and_then}
use Rattle.std.proofs.lemmas.Option.{none-some, same_Some, get_or_from_slice_get, slice_get-get_or}
use Rattle.adya_values.specs.Meaning.Histories.{Event, History, Order}
use Rattle.adya_values.specs.Meaning.Events.{last_write, shown}
use Rattle.adya_values.specs.Meaning.Selections.{changes_matches}
use Rattle.adya_values.specs.Computing.EdgeList.{numbers}
use Rattle.adya_terms.specs.Clauses.Checked.{checked_history, installed_at}
use Rattle.adya_terms.specs.Mirror.LineNumbers.{key_of}
use Rattle.adya_dsg.specs.Machinery.Choices.{key_at}
use Rattle.adya_dsg.proofs.ChangedPlaces.{visible_next, change_noted, change_passed}
use Rattle.adya_dsg.proofs.changes.push_changed.Goals as goal
use Rattle.adya_dsg.proofs.changes.push_changed.Goals.{then-now-was+in_ok-push, else-now-was}

-- what the writer at the place of this line installed is its last write of the line's key
installed_in : (es : List Event) (place : ℕ) (o : Option Order) (ws : List ℕ) (t : ℕ) → option_map (λ (x : Order). x.writers) o ≡ Some ws
    → slice_get ws place ≡ Some t
    → option_and_then (λ (x : Order). option_and_then (λ u. last_write u x.key es) (slice_get x.writers place)) o ≡ last_write t (key_of o) es
installed_in es place None ws t of found = absurd (none-some ws of)
installed_in es place (Some o) ws t of found =
    ap (option_and_then (λ u. last_write u o.key es))
    (ap (λ xs. slice_get xs place) (same_Some o.writers ws of) ∙ found)

installed_here : (h : History) (line place : ℕ) (ws : List ℕ) (t : ℕ)
    → option_map (λ (x : Order). x.writers) (slice_get h.orders line) ≡ Some ws → slice_get ws place ≡ Some t
    → installed_at h line place ≡ last_write t (key_at h line) h.events
installed_here h line place ws t of found = installed_in h.events place (slice_get h.orders line) ws t of found

pub loop-i-preserved : goal.loop-i-preserved
loop-i-preserved c =
    let h = checked_history c.args.checked.now in
    let k = key_at h c.args.line in
    let ws = c.args.txns.now in
    let i = c.loop-i.i in
    let x = get_or ws i 0 in
    let now = c.shows-now.result in
    let l : i < length ws = c.loop-i-test.true in
    let found : slice_get ws i ≡ Some x = slice_get-get_or ws i 0 l in
    let e : x ≡ get_or ws i x = sym (get_or_from_slice_get ws i x x found) in
    let sees : now ≡ is_some (shown (last_write x k h.events)) =
    c.shows-now.ensures ∙ ap (λ w. is_some (shown w)) (installed_here h c.args.line i ws x c.requires.here found) in
    let next = visible_next h k ws (sym c.requires.writers) i x l e c.loop-i.was now c.loop-i.invariant.before sees in
    let rest = filter (changes_matches h k) (numbers (suc (i + 1)) (length (drop (i + 1) ws))) in
    elim c.if-now-was.branch [
      | then-now-was+in_ok-push w ↦ record {
        before = next;
        all =
            ap (λ (v : Vec ℕ Global). v.items ++ rest) w.places-is ∙
            (ap (λ (zs : List ℕ). zs ++ rest) w.in_ok-push.ensures.items ∙
            change_noted h k ws (sym c.requires.writers) i x l e c.loop-i.was now c.loop-i.invariant.before sees
            c.loop-i.places.items _ w.if-now-was.true c.loop-i.invariant.all);
      }
      | else-now-was w ↦ record {
        before = next;
        all =
            ap (λ (v : Vec ℕ Global). v.items ++ rest) w.places-is ∙
            change_passed h k ws (sym c.requires.writers) i x l e c.loop-i.was now c.loop-i.invariant.before sees
            c.loop-i.places.items _ w.if-now-was.false c.loop-i.invariant.all;
      }
    ]

pub loop-i-init : goal.loop-i-init
loop-i-init c =
    let h = checked_history c.args.checked.now in
    let test = changes_matches h (key_at h c.args.line) in record {
      before = refl;
      all = ap (λ ws. c.args.places.now.items ++ filter test (numbers 1 (length ws))) c.requires.writers;
    }

pub shows-now-requires : goal.shows-now-requires
shows-now-requires c = tt

pub returns-in_err-push : goal.returns-in_err-push
returns-in_err-push c = IfOk-from_err c.from_residual.result _ c.from_residual.ensures.0

pub loop-i-smaller : goal.loop-i-smaller
loop-i-smaller c = falls _ _ c.loop-i-test.true

pub returns : goal.returns
returns c =
    let h = checked_history c.args.checked.now in
    let test = changes_matches h (key_at h c.args.line) in
    let now = c.loop-i.places.items in
    let i = c.loop-i.i in
    sym (append-nil now) ∙
    (ap (λ (ws : List ℕ). now ++ filter test (numbers (suc i) (length ws))) (sym (drop_all i c.args.txns.now c.loop-i-test.false)) ∙
    c.loop-i.invariant.all)
