-- What a draft of a history tells of the lines so far.
use Rattle.std.proofs.Common.{◌≡◌, ◌==◌, ℕ, suc, ◌+◌, ◌<◌, true, List, [], ◌∷◌, length, Option, Some, None, Ok, refl, sym, ap, subst, ◌∙◌, arith}
use Rattle.std.specs.Prelude.{not, MatchOption}
use Rattle.std.specs.List.{AllByRecursion, list_all}
use Rattle.std.specs.Cmp.Derive.{both_true}
use Rattle.std.proofs.lemmas.Bool.Decides.{nat_tests}
use Rattle.std.proofs.lemmas.List.{length-append}
use Rattle.adya_values.specs.Computing.Shapes.{is_shape}
use Rattle.adya_values.specs.Mirror.Events.{events_of}
use Rattle.adya_values.specs.Mirror.Histories.{history_of}
use Rattle.adya_values.specs.Mirror.Lines.{finals_of, orders_of}
use Rattle.adya_values.specs.Meaning.Histories.{Event, Order, History}
use Rattle.adya_values.specs.declared.edition.Edition.TheVariants.{One, Two}
use Rattle.adya_values.specs.declared.history.History.{History as HistoryValue}
use Rattle.adya_line.specs.Meaning.Limits.{IsOrder}
use Rattle.adya_line.specs.Clauses.HistoryLines.{Line, HeadLine, EventLine, UnfinishedLine, OrderLine, FinalLine, TailLine, IsLine, line_text}
use Rattle.adya_text.specs.Meaning.Texts.{IsHistory, history_lines, with_ends}
use Rattle.adya_text.specs.Clauses.Grammars.{AreHistoryLines}
use Rattle.adya_text.specs.Clauses.Reading.{ReadsHistory}
use Rattle.adya_text.specs.Computing.Runs.{IsAllowed, IsRefused}
use Rattle.adya_text.specs.Computing.HistoryRuns.{allows, stage_after, with_line, history_machine}
use Rattle.adya_text.specs.Machinery.HistoryDrafts.{HasLines, Takes, held, line_after, longest_line, next_line}
use Rattle.adya_text.specs.Machinery.LongLines.{IsLonger}
use Rattle.adya_text.specs.declared.history_draft.Stage.{Stage}
use Rattle.adya_text.specs.declared.history_draft.Stage.TheVariants.{Head, Done}
use Rattle.adya_text.specs.declared.history_draft.HistoryDraft.{HistoryDraft}
use Rattle.adya_text.proofs.Machines.{run_counts}

-- a line that may come in the stage is not longer than the most
pub within : (s : Stage) (x : Line) → IsLine x → allows s x ≡ true → IsLonger (longest_line s) (line_text x) → ⊥
within Head (HeadLine One) good may longer = absurd (omega (arith, longer))
within Head (HeadLine Two) good may longer = absurd (omega (arith, longer))
within Head x good may longer = absurd cc
within Done x good may longer = absurd cc
within s x good may longer = longer

-- a line that may come is the head, the tail, or holds one value
line_counts : (s : Stage) (h : History) (x : Line) → allows s x ≡ true
    → next_line (stage_after s x) (with_line h x) ≡ suc (next_line s h)
line_counts Head h (HeadLine e) may = omega arith
line_counts Head h x may = absurd cc
line_counts Done h x may = absurd cc
line_counts s h (HeadLine e) may = absurd cc
line_counts s h (EventLine v) may = grind (arith, length-append {A = Event})
line_counts s h (UnfinishedLine t) may = omega (arith, length-append h.unfinished (t ∷ []))
line_counts s h (OrderLine o) may = omega (arith, length-append h.orders (o ∷ []))
line_counts s h (FinalLine f) may = omega (arith, length-append h.finals (f ∷ []))
line_counts s h TailLine may = omega arith

pub next_is : (d : HistoryDraft) (past : List (List ℕ)) → HasLines d past
    → line_after d.stage + (length (events_of d.events) + (length d.unfinished.items
    + (length (orders_of d.orders) + length (finals_of d.finals)))) ≡ suc (length past)
next_is d past run = omega (arith, run_counts history_machine next_line line_counts d.stage (held d) past run)

-- ---- a line that was no event

module _ (old mid : HistoryDraft) (stage : mid.stage ≡ old.stage) (same : held mid ≡ held old) where
  pub still_has : (past : List (List ℕ)) → HasLines old past → HasLines mid past
  still_has past run = rw (stage, same) run

  pub still_allowed : (line : List ℕ) (x : Line) → IsAllowed history_machine mid.stage line x → IsAllowed history_machine old.stage line x
  still_allowed line x allowed = subst (λ s. IsAllowed history_machine s line x) stage allowed

  pub still_refused : (line : List ℕ) → IsRefused history_machine mid.stage line → IsRefused history_machine old.stage line
  still_refused line refused = subst (λ s. IsRefused history_machine s line) stage refused

  pub still_takes : (new : HistoryDraft) (x : Line) → Takes mid new x → Takes old new x
  still_takes new x takes = record {
    stage = takes.stage ∙ ap (λ s. stage_after s x) stage;
    holds = takes.holds ∙ ap (λ h. with_line h x) same;
  }

-- ---- the value

some_writers : (os : List Order) → AllByRecursion IsOrder os → list_all (λ o. not (length o.writers == 0)) os ≡ true
some_writers [] goods = refl
some_writers (o ∷ os) goods = both_true (some o goods.0.some) (some_writers os goods.1)
  where
    some : (o : Order) → 0 < length o.writers → not (length o.writers == 0) ≡ true
    some o more = grind (arith, nat_tests)

shape : (h : History) → IsHistory h → is_shape h.orders h.finals ≡ true
shape h is = both_true (both_true (some_writers h.orders is.orders) is.orders_rise) is.finals_rise

pub value_reads : (d : HistoryDraft) (past : List (List ℕ)) (value : Option HistoryValue) → IsHistory (held d)
    → past ≡ history_lines (held d)
    → MatchOption value (is_shape (held d).orders (held d).finals ≡ true → ⊥) (λ v. history_of v ≡ held d)
    → MatchOption value (AreHistoryLines past → ⊥) (λ v. ReadsHistory (with_ends past) (Ok v))
value_reads d past None is whole none = absurd (none (shape (held d) is))
value_reads d past (Some v) is whole same =
    (subst IsHistory (sym same) is, ap with_ends (whole ∙ ap history_lines (sym same)))
