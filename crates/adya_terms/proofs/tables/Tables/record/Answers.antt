use Rattle.std.proofs.Common.{◌≡◌, ◌∙◌, ◌++◌, [], ◌∷◌, ℕ, Bor, List, Some, true, false, cond, option_and_then, option_map, sym, ap, subst, Result, Ok, Err, IfOk}
use Rattle.std.specs.Prelude.{slice_get, ◌||◌}
use Rattle.txn_table.specs.Mirror.{value_for}
use Rattle.std.proofs.Math.Bool.{or-false}
use Rattle.std.proofs.lemmas.Bool.{eqb-true}
use Rattle.std.specs.declared.alloc.AllocError.{AllocError}
use Rattle.adya_values.specs.declared.events.Events.{Events}
use Rattle.adya_values.specs.declared.event.Version.{Version}
use Rattle.adya_values.specs.Meaning.Histories.{Entry, Event}
use Rattle.adya_values.specs.Meaning.Events.{aborts, commit_of, written}
use Rattle.adya_values.specs.Mirror.Events.{events_of}
use Rattle.adya_values.specs.Mirror.Numbers.{version_in}
use Rattle.adya_values.specs.Computing.Faults.{is_next}
use Rattle.adya_terms.specs.declared.tables.Tables.{Tables}
use Rattle.adya_terms.specs.Machinery.OwnWrites.{place_of}
use Rattle.adya_terms.specs.Machinery.Tables.{own, own_eq, with_replaced, written_at, written_by, Own}
use Rattle.adya_terms.specs.Machinery.Telling.{keys_in, replaced_in, told, Means}
use Rattle.adya_terms.proofs.Found.{found_is}
use Rattle.adya_terms.proofs.Records.{commits_none, means_after, no_write, write_of, writes_abort_none, writes_commit_none}
use Rattle.adya_terms.proofs.Tells.{tell_quiet, tell_write}
use Rattle.adya_terms.proofs.tables.Tables.record.Goals as goal

-- the version is written at the place
abbrev IsPut : Tables → Tables → ℕ → Version → Type 0
IsPut old new at r = (q : Own) → place_of new.writes q ≡ cond (own_eq (own r.txn r.key) q) (Some at) (place_of old.writes q)

-- and replaced the one before it
abbrev IsReplaced : Tables → Tables → Version → Type 0
IsReplaced old new s =
    let p = place_of old.writes (own s.txn s.key) in
    (r : Version) → replaced_in new r ≡ with_replaced (written_at (told old) p) p (replaced_in old) r

pub returns-in-Some-clause-means : goal.returns-in-Some-clause-means
returns-in-Some-clause-means c = by_result c.put.result c.put.ensures.last c.put.ensures.replaced c.put.ensures.ended
  where
    v : Version
    v = version_in (keys_in c.args.self.now) c.in-Some.new

    by_result : (r : Result (Unit {0}) AllocError) → IfOk r (λ u. IsPut c.args.self.now c.put.new.self c.args.at v) → IfOk r (λ u. IsReplaced c.args.self.now c.put.new.self v) → IfOk r (λ u. c.put.new.self.ended ≡ c.args.self.now.ended)
        → IfOk r (λ u. (before : List Event) (e : Event) → Means c.args.self.now before → slice_get (told c.args.self.now) c.args.at ≡ Some e
        → is_next before (written e) ≡ true → Means c.put.new.self (before ++ e ∷ []))
    by_result (Err _) put replaced ended = tt
    by_result (Ok _) put replaced ended = λ before e m found next.
        let t = c.args.self.now in
        let w = write_of (written e) v (c.in-Some.ensures.version ∙ ap (λ o. option_map (λ (x : Entry). x.version) (written_by o)) found) in
        means_after t c.put.new.self ended (ap (λ (x : Bor Events). events_of x.now) c.put.ensures.events) (before ++ e ∷ [])
        (tell_write _ _ (place_of t.writes) (replaced_in t) (told t) before m c.args.at e w.0
        (record { found = found; wrote = w.1; commits_none = writes_commit_none e w.0 w.1; aborts_none = writes_abort_none e w.0 w.1 })
        (eqb-true _ _ (ap (is_next before) (sym w.1) ∙ next)) (place_of c.put.new.self.writes) (replaced_in c.put.new.self)
        (subst (IsPut t c.put.new.self c.args.at) (sym w.2) put) (subst (IsReplaced t c.put.new.self) (sym w.2) replaced))

pub returns-clause-means : goal.returns-clause-means
returns-clause-means c before e m found next =
    let quiet = no_write (written e) (c.in_default.ensures.version ∙ ap (λ o. option_map (λ (x : Entry). x.version) (written_by o)) found) in
    let commit = sym (ap (option_and_then commit_of) found) ∙ c.in_default-commit_at.ensures in
    tell_quiet _ _ _ _ _ before m e quiet _ _
    (λ t. sym (ap (λ b. (value_for c.args.self.now.ended t).committed || b) (commits_none e commit t) ∙ or-false _))
    (λ t. sym (ap (λ b. (value_for c.args.self.now.ended t).aborted || b) (found_is (aborts t) _ e false (c.in_default-abort_at.ensures t) found) ∙ or-false _))
