-- Each reader of a kind of line reads the texts of what is within its limits, and no others.
use Rattle.std.proofs.Common.{◌≡◌, ℕ, List, Option, Some, sym, ap, ◌∙◌}
use Rattle.std.proofs.lemmas.Option.{same_Some}
use Rattle.adya_keys.specs.Meaning.Keys.{IsTxn}
use Rattle.adya_line.specs.Meaning.Spelling.{event_text, unfinished_text, order_text, final_text, txn_text}
use Rattle.adya_line.specs.Meaning.Limits.{IsEvent, IsOrder, IsFinal}
use Rattle.adya_line.specs.Computing.Reading.{event_at, unfinished_at, order_at, final_at, txn_at_line}
use Rattle.adya_line.specs.Laws.{IsReaderOf, IsOneText}
use Rattle.adya_line.proofs.LineParts.{Only, line_takes, line_again}
use Rattle.adya_line.proofs.Events.{event_takes, event_again, unfinished_takes, unfinished_again}
use Rattle.adya_line.proofs.Orders.{order_takes, order_again}
use Rattle.adya_line.proofs.Finals.{final_takes, final_again}

reader : {X : Type 0} (read : List ℕ → Option X) (Is : X → Type 0) (text : X → List ℕ)
    → ((line : List ℕ) → Only (read line) (λ x. (line ≡ text x) × Is x)) →
    ((x : X) → Is x → read (text x) ≡ Some x) → IsReaderOf read Is text
reader read Is text takes again line x =
    (λ e. let h = (takes line).holds in let g = rw e at h in (g.1, g.0), λ p. ap read p.1 ∙ again x p.0)

pub one : {X : Type 0} (read : List ℕ → Option X) (Is : X → Type 0) (text : X → List ℕ)
    → ((x : X) → Is x → read (text x) ≡ Some x) → IsOneText Is text
one read Is text again x y is_x is_y same = same_Some x y (sym (again x is_x) ∙ ap read same ∙ again y is_y)

pub events_read : IsReaderOf event_at IsEvent event_text
events_read = reader event_at IsEvent event_text event_takes event_again

pub unfinished_read : IsReaderOf unfinished_at IsTxn unfinished_text
unfinished_read = reader unfinished_at IsTxn unfinished_text unfinished_takes unfinished_again

pub orders_read : IsReaderOf order_at IsOrder order_text
orders_read = reader order_at IsOrder order_text order_takes order_again

pub finals_read : IsReaderOf final_at IsFinal final_text
finals_read = reader final_at IsFinal final_text final_takes final_again

pub txns_read : IsReaderOf txn_at_line IsTxn txn_text
txns_read = reader txn_at_line IsTxn txn_text line_takes line_again

pub one_event : IsOneText IsEvent event_text
one_event = one event_at IsEvent event_text event_again

pub one_unfinished : IsOneText IsTxn unfinished_text
one_unfinished = one unfinished_at IsTxn unfinished_text unfinished_again

pub one_order : IsOneText IsOrder order_text
one_order = one order_at IsOrder order_text order_again

pub one_final : IsOneText IsFinal final_text
one_final = one final_at IsFinal final_text final_again

pub one_txn : IsOneText IsTxn txn_text
one_txn = one txn_at_line IsTxn txn_text line_again
