-- What was written and not replaced is the last write of its key by its transaction.
use Rattle.std.proofs.Common.{◌≡◌, ◌≢◌, ℕ, suc, Bool, true, false, not, ◌||◌, List, [], ◌∷◌, ◌++◌, Option, Some, None, is_some, refl, sym, ◌∙◌, ap, subst, arith}
use Rattle.std.specs.List.{filter_map, list_all, list_any}
use Rattle.std.proofs.Math.Bool.{or-false}
use Rattle.std.proofs.lemmas.Bool.{and_from, or_left, false_from_ne_true}
use Rattle.std.proofs.lemmas.List.{append_assoc}
use Rattle.std.proofs.lemmas.List.Elements.{filter_map-append}
use Rattle.std.proofs.lemmas.List.Folds.{list_any-append}
use Rattle.adya_values.specs.declared.event.Version.{Version}
use Rattle.adya_terms.specs.Machinery.Tables.{Own}
use Rattle.adya_values.specs.Meaning.Histories.{Entry, Event}
use Rattle.adya_values.specs.Meaning.Events.{written, observed, last_write}
use Rattle.adya_values.specs.Computing.Faults.{entry_eq, is_entry, was_written, faults_at, event_faults}
use Rattle.adya_terms.specs.Machinery.Tables.{own, written_at, is_there, number_of, Tell}
use Rattle.adya_values.proofs.Entries.{entry_eq-same, entry_eq-turned}
use Rattle.adya_values.proofs.Faults.{passes_all}
use Rattle.lemmas.proofs.Lists.{nil_left, nil_right}
use Rattle.lemmas.proofs.Tests.{all_pass, list_all_when}

pub there_is : (o : Entry) (q : Option Entry) → is_entry q o ≡ is_there o q
there_is o None = refl
there_is o (Some w) = entry_eq-turned w o

other_number : (o : Entry) (q : Option Entry) → number_of q ≢ o.version.m → is_entry q o ≡ false
other_number o None apart = refl
other_number o (Some w) apart = false_from_ne_true _ (λ hit. apart (ap (λ (x : Entry). x.version.m) (entry_eq-same w o hit)))

pub last_unless_replaced : (c a : ℕ → Bool) (l : Own → Option ℕ) (v : Version → Option ℕ) (all before : List Event)
    → Tell c a l v all before → (o : Entry) → list_any (entry_eq o) (filter_map written before) ≡ true
    → (p : Option ℕ) → v o.version ≡ p → not (is_some p) ≡ is_entry (last_write o.version.txn o.version.key before) o
last_unless_replaced c a l v all before m o was None at =
    let r = o.version in
    let last = is_there o (written_at all (l (own r.txn r.key))) in
    let there : last ≡ true =
    sym (or-false last) ∙ (ap (λ q. last || is_there o (written_at all q)) (sym at) ∙ (m.written_is o ∙ was)) in
    sym (there_is o _ ∙ (ap (is_there o) (sym (m.last_is r.txn r.key)) ∙ there))
last_unless_replaced c a l v all before m o was (Some n) at =
    let r = o.version in
    let later = m.later r (ap is_some at) in
    let number = m.number_is r.txn r.key in
    sym (other_number o (last_write r.txn r.key before) (λ same. omega (arith, same, later, number)))

-- what was written before was written in the whole
still_written : (before es : List Event) (e : Event) → was_written before e ≡ true → was_written (before ++ es) e ≡ true
still_written before es e was =
    list_all_when (λ o. list_any (entry_eq o) (filter_map written (before ++ es))) (observed e)
    (λ o c.
    ap (list_any (entry_eq o)) (filter_map-append written before es) ∙
    (list_any-append (entry_eq o) (filter_map written before) (filter_map written es) ∙
    or_left _ _ (all_pass (λ x. list_any (entry_eq x) (filter_map written before)) (observed e) o was c)))

-- where no event is at fault, all that is read was written
pub all_were_written : (before : List Event) (line : ℕ) (es : List Event) → event_faults before line es ≡ []
    → list_all (was_written (before ++ es)) es ≡ true
all_were_written before line [] none = refl
all_were_written before line (e ∷ es) none =
    let now = faults_at before line e in
    let later = event_faults (before ++ e ∷ []) (suc line) es in
    let here = passes_all before line e (nil_left now later none) in
    let rest = all_were_written (before ++ e ∷ []) (suc line) es (nil_right now later none) in
    and_from _ _ (still_written before (e ∷ es) e here.was)
    (subst (λ all. list_all (was_written all) es ≡ true) (append_assoc before (e ∷ []) es) rest)
