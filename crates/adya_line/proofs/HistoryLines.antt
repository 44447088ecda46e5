-- Each line of a history has a text of its own, without a line feed.
use Rattle.std.proofs.Common.{◌≡◌, ℕ, List, Option, Some, None, if◌then◌else◌, refl, sym, ap, ◌∙◌}
use Rattle.std.specs.Str.{bytes_eq}
use Rattle.std.proofs.lemmas.Option.{none-some}
use Rattle.adya_values.specs.declared.edition.Edition.TheVariants.{One, Two}
use Rattle.adya_keys.specs.Meaning.Keys.{IsTxn}
use Rattle.adya_values.specs.Meaning.Histories.{Event, Order, FinalPair}
use Rattle.adya_line.specs.Meaning.Spelling.{history_head, second_head, tail, unfinished_text, order_text, final_text}
use Rattle.adya_line.specs.Meaning.Limits.{IsOrder, IsFinal}
use Rattle.adya_line.specs.Computing.Reading.{after, none_or, key_between, txn_at, txn_at_line, event_at, unfinished_at, order_at, final_at}
use Rattle.adya_line.specs.Laws.{IsOneText, HasPlainTexts}
use Rattle.adya_line.specs.Clauses.HistoryLines.{Line, HeadLine, EventLine, UnfinishedLine, OrderLine, FinalLine, TailLine, IsLine, line_text, IsNoLine, IsOnlyLineOf}
use Rattle.adya_line.proofs.Events.{event_again, unfinished_again}
use Rattle.adya_line.proofs.Orders.{order_again}
use Rattle.adya_line.proofs.Finals.{final_again}
use Rattle.adya_line.proofs.LineReaders.{one, events_read, unfinished_read, orders_read, finals_read}
use Rattle.adya_line.proofs.PlainTexts.{events_plain, unfinished_plain, orders_plain, finals_plain, history_head_plain, second_head_plain, tail_plain}

-- ---- kinds apart

unfinished_no_event : (t : ℕ) → IsTxn t → event_at (unfinished_text t) ≡ None
unfolding event_at
unfinished_no_event t is = refl

order_no_event : (o : Order) → IsOrder o → event_at (order_text o) ≡ None
unfolding event_at order_text
order_no_event o is = refl

order_no_unfinished : (o : Order) → IsOrder o → unfinished_at (order_text o) ≡ None
unfolding unfinished_at after order_text
order_no_unfinished o is = refl

final_no_event : (f : FinalPair) → IsFinal f → event_at (final_text f) ≡ None
unfolding event_at final_text
final_no_event f is = refl

final_no_unfinished : (f : FinalPair) → IsFinal f → unfinished_at (final_text f) ≡ None
unfolding unfinished_at after final_text
final_no_unfinished f is = refl

final_no_order : (f : FinalPair) → IsFinal f → order_at (final_text f) ≡ None
unfolding order_at key_between after final_text
final_no_order f is = refl

-- ---- all kinds in one

-- what a reader of one kind reads, else what the others do
abbrev pub kind_or : {X L : Type 0} → (X → L) → Option X → Option L → Option L
kind_or kind read others = none_or read others (λ x. Some (kind x))

pub of_kind : {X L : Type 0} (kind : X → L) (read : Option X) (others : Option L) (x : X) → read ≡ Some x
    → kind_or kind read others ≡ Some (kind x)
of_kind kind read others x is = ap (λ o. kind_or kind o others) is

pub of_others : {X L : Type 0} (kind : X → L) (read : Option X) (others : Option L) → read ≡ None
    → kind_or kind read others ≡ others
of_others kind read others is = ap (λ o. kind_or kind o others) is

abbrev fixed_at : List ℕ → Option Line
fixed_at text =
    if bytes_eq text history_head then Some (HeadLine One)
    else (if bytes_eq text second_head then Some (HeadLine Two)
    else (if bytes_eq text tail then Some TailLine
    else None))

abbrev line_at : List ℕ → Option Line
line_at text =
    kind_or EventLine (event_at text) (kind_or UnfinishedLine (unfinished_at text)
    (kind_or OrderLine (order_at text) (kind_or FinalLine (final_at text) (fixed_at text))))

line_again : (x : Line) → IsLine x → line_at (line_text x) ≡ Some x
unfolding event_at unfinished_at order_at final_at key_between after txn_at_line txn_at
line_again (HeadLine One) is = refl
line_again (HeadLine Two) is = refl
line_again (EventLine e) is = of_kind EventLine _ _ e (event_again e is)
line_again (UnfinishedLine t) is =
    of_others EventLine _ _ (unfinished_no_event t is) ∙ of_kind UnfinishedLine _ _ t (unfinished_again t is)
line_again (OrderLine o) is =
    of_others EventLine _ _ (order_no_event o is) ∙ of_others UnfinishedLine _ _ (order_no_unfinished o is)
    ∙ of_kind OrderLine _ _ o (order_again o is)
line_again (FinalLine f) is =
    of_others EventLine _ _ (final_no_event f is) ∙ of_others UnfinishedLine _ _ (final_no_unfinished f is)
    ∙ of_others OrderLine _ _ (final_no_order f is) ∙ of_kind FinalLine _ _ f (final_again f is)
line_again TailLine is = refl

pub one_history_line : IsOneText IsLine line_text
one_history_line = one line_at IsLine line_text line_again

pub history_lines_plain : HasPlainTexts IsLine line_text
history_lines_plain (HeadLine One) is = history_head_plain
history_lines_plain (HeadLine Two) is = second_head_plain
history_lines_plain (EventLine e) is = events_plain e is
history_lines_plain (UnfinishedLine t) is = unfinished_plain t is
history_lines_plain (OrderLine o) is = orders_plain o is
history_lines_plain (FinalLine f) is = finals_plain f is
history_lines_plain TailLine is = tail_plain

-- ---- what is read of a text

pub only_line : (x : Line) (text : List ℕ) → IsLine x → text ≡ line_text x → IsOnlyLineOf x text
only_line x text good same = record {
  line = record { good = good; same = same };
  only = λ y is. one_history_line y x is.good good (sym is.same ∙ same);
}

pub event_line : (text : List ℕ) (e : Event) → event_at text ≡ Some e → IsOnlyLineOf (EventLine e) text
event_line text e read = let h = (events_read text e).0 read in only_line (EventLine e) text h.0 h.1

pub unfinished_line : (text : List ℕ) (t : ℕ) → unfinished_at text ≡ Some t → IsOnlyLineOf (UnfinishedLine t) text
unfinished_line text t read = let h = (unfinished_read text t).0 read in only_line (UnfinishedLine t) text h.0 h.1

pub order_line : (text : List ℕ) (o : Order) → order_at text ≡ Some o → IsOnlyLineOf (OrderLine o) text
order_line text o read = let h = (orders_read text o).0 read in only_line (OrderLine o) text h.0 h.1

pub final_line : (text : List ℕ) (f : FinalPair) → final_at text ≡ Some f → IsOnlyLineOf (FinalLine f) text
final_line text f read = let h = (finals_read text f).0 read in only_line (FinalLine f) text h.0 h.1

pub no_line : (text : List ℕ) → event_at text ≡ None → unfinished_at text ≡ None → order_at text ≡ None
    → final_at text ≡ None → (text ≡ history_head → ⊥) → (text ≡ second_head → ⊥) → (text ≡ tail → ⊥) → IsNoLine text
no_line text event txn order final head second end (HeadLine One) is = head is.same
no_line text event txn order final head second end (HeadLine Two) is = second is.same
no_line text event txn order final head second end (EventLine e) is =
    none-some e (sym event ∙ (events_read text e).1 (is.good, is.same))
no_line text event txn order final head second end (UnfinishedLine t) is =
    none-some t (sym txn ∙ (unfinished_read text t).1 (is.good, is.same))
no_line text event txn order final head second end (OrderLine o) is =
    none-some o (sym order ∙ (orders_read text o).1 (is.good, is.same))
no_line text event txn order final head second end (FinalLine f) is =
    none-some f (sym final ∙ (finals_read text f).1 (is.good, is.same))
no_line text event txn order final head second end TailLine is = end is.same
