use Rattle.std.proofs.Common.{◌≡◌, ◌∙◌, List, [], ◌∷◌, ℕ, true, Option, Result, Ok, Err, IfOk, IsOk, MatchOption, ap, arith, length, refl, sym, subst}
use Rattle.std.specs.Result.{result_ok}
use Rattle.std.proofs.lemmas.Bool.{and_from, eqb-true, false≢true}
use Rattle.adya_values.specs.declared.edition.Edition.{Edition}
use Rattle.adya_values.specs.declared.edition.Edition.TheVariants.{One, Two}
use Rattle.adya_values.specs.declared.events.Events.{Events}
use Rattle.adya_values.specs.declared.orders.Orders.{Orders}
use Rattle.adya_values.specs.declared.finals.Finals.{Finals}
use Rattle.adya_values.specs.declared.history.History.{History as HistoryValue}
use Rattle.adya_values.specs.declared.history.BadShape.{BadShape}
use Rattle.adya_values.specs.Computing.Shapes.{fits_edition, is_shape, numbers_rise}
use Rattle.adya_values.specs.Mirror.Events.{events_of}
use Rattle.adya_values.specs.Mirror.Histories.{history_of}
use Rattle.adya_values.specs.Mirror.Lines.{finals_of, orders_of}
use Rattle.adya_text.proofs.history_draft.of_edition.Goals as goal

none_unfinished : (us : List ℕ) → fits_edition One us ≡ true → us ≡ []
none_unfinished [] fits = refl
none_unfinished (u ∷ us) fits = absurd (omega (arith, eqb-true (length (u ∷ us)) 0 fits))

-- the history has these lists, or no history has them
of_lists : (e : Edition) (es : Events) (us : List ℕ) (os : Orders) (fs : Finals) (r : Result HistoryValue BadShape) (o : Option HistoryValue)
    → o ≡ result_ok r → (is_shape (orders_of os) (finals_of fs) ≡ true → IsOk r)
    → IfOk r (λ h. (h.edition ≡ e) × (h.unfinished.items ≡ us) × (h.events ≡ es) × (h.orders ≡ os) × (h.finals ≡ fs))
    → MatchOption o (is_shape (orders_of os) (finals_of fs) ≡ true → ⊥)
    (λ h. history_of h ≡ record { edition = e; events = events_of es; unfinished = us; orders = orders_of os; finals = finals_of fs })
of_lists e es us os fs (Ok h) o is succeeds (edition, unfinished, events, orders, finals) =
    let lists : history_of h ≡ record { edition = e; events = events_of es; unfinished = us; orders = orders_of os; finals = finals_of fs } = cc in
    subst (λ p. MatchOption p (is_shape (orders_of os) (finals_of fs) ≡ true → ⊥)
    (λ k. history_of k ≡ record { edition = e; events = events_of es; unfinished = us; orders = orders_of os; finals = finals_of fs })) (sym is) lists
of_lists e es us os fs (Err b) o is succeeds lists =
    subst (λ p. MatchOption p (is_shape (orders_of os) (finals_of fs) ≡ true → ⊥)
    (λ k. history_of k ≡ record { edition = e; events = events_of es; unfinished = us; orders = orders_of os; finals = finals_of fs })) (sym is) (λ shape. false≢true (succeeds shape))

both_ok : {T E : Type 0} (P Q : T → Type 0) (R : T → Type 0) (r : Result T E) → ((x : T) → P x → Q x → R x) → IfOk r P → IfOk r Q → IfOk r R
both_ok P Q R (Ok x) both p q = both x p q
both_ok P Q R (Err e) both p q = tt

pub returns-in-One-clause-of_lists : goal.returns-in-One-clause-of_lists
returns-in-One-clause-of_lists c fits =
    let es = c.args.events in
    let us = c.args.unfinished.items in
    let os = c.args.orders in
    let fs = c.args.finals in
    let none : us ≡ [] = none_unfinished us (subst (λ e. fits_edition e us ≡ true) c.in-One.is fits) in
    of_lists c.args.edition es us os fs c.new.result c.ok.result c.ok.ensures.value c.new.ensures.limits.1
    (both_ok (λ h. (h.edition ≡ One) × (h.unfinished.items ≡ [])) (λ h. (h.events ≡ es) × (h.orders ≡ os) × (h.finals ≡ fs))
    (λ h. (h.edition ≡ c.args.edition) × (h.unfinished.items ≡ us) × (h.events ≡ es) × (h.orders ≡ os) × (h.finals ≡ fs)) c.new.result
    (λ h p q. let (events, orders, finals) = q in (p.0 ∙ sym c.in-One.is, p.1 ∙ sym none, events, orders, finals)) c.new.ensures.edition c.new.ensures.same)

pub returns-in-Two-clause-of_lists : goal.returns-in-Two-clause-of_lists
returns-in-Two-clause-of_lists c fits =
    let es = c.args.events in
    let us = c.args.unfinished.items in
    let os = c.args.orders in
    let fs = c.args.finals in
    let rise : numbers_rise us ≡ true = subst (λ e. fits_edition e us ≡ true) c.in-Two.is fits in
    of_lists c.args.edition es us os fs c.new_two.result c.ok-in-Two.result c.ok-in-Two.ensures.value
    (λ shape. c.new_two.ensures.limits.1 (and_from (numbers_rise us) (is_shape (orders_of os) (finals_of fs)) rise shape))
    (both_ok (λ h. h.edition ≡ Two) (λ h. (h.events ≡ es) × (h.unfinished ≡ c.args.unfinished) × (h.orders ≡ os) × (h.finals ≡ fs))
    (λ h. (h.edition ≡ c.args.edition) × (h.unfinished.items ≡ us) × (h.events ≡ es) × (h.orders ≡ os) × (h.finals ≡ fs)) c.new_two.result
    (λ h p q. let (events, unfinished, orders, finals) = q in (p ∙ sym c.in-Two.is, ap (λ v. v.items) unfinished, events, orders, finals)) c.new_two.ensures.edition c.new_two.ensures.same)
