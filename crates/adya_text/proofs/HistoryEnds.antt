-- A history text has the line `end`.
use Rattle.std.proofs.Common.{◌≢◌, ℕ, List, [], ◌∷◌, ◌++◌, All, map, Result, Ok, Err, refl, sym, subst, ◌∙◌, append-nil}
use Rattle.std.specs.Prelude.{IsErr}
use Rattle.std.proofs.lemmas.List.Elements.{All-nil, All-head, All-tail}
use Rattle.adya_values.specs.Meaning.Histories.{History}
use Rattle.adya_values.specs.Mirror.Histories.{history_of}
use Rattle.adya_values.specs.declared.history.History.{History as HistoryValue}
use Rattle.adya_line.specs.Laws.{IsOneText, HasPlainTexts}
use Rattle.adya_line.specs.Meaning.Lines.{IsPlain}
use Rattle.adya_line.specs.Meaning.Spelling.{tail, head_text, event_text, unfinished_text, order_text, final_text}
use Rattle.adya_line.specs.Clauses.HistoryLines as H
use Rattle.adya_text.specs.Laws.{HasNoEnd}
use Rattle.adya_text.specs.Meaning.Texts.{history_lines, history_text, with_ends}
use Rattle.adya_text.specs.Clauses.Reading.{ReadsHistory}
use Rattle.adya_text.specs.declared.read_fault.ReadFault.{ReadFault}
use Rattle.adya_text.proofs.LineLists.{one_cut}
use Rattle.adya_text.proofs.TextLaws.{lines_plain}
use Rattle.adya_text.proofs.HistoryTexts as HT

all_after : {X : Type 0} (P : X → Type 0) (xs ys : List X) → All P (xs ++ ys) → All P ys
all_after P [] ys all = all
all_after P (x ∷ xs) ys all = all_after P xs ys (All-tail P x (xs ++ ys) all)

has_end : (h : History) → HasNoEnd (history_lines h) → ⊥
has_end h none =
    let finals = map final_text h.finals ++ tail ∷ [] in
    let orders = map order_text h.orders ++ finals in
    let unfinished = map unfinished_text h.unfinished ++ orders in
    let other : List ℕ → Type 0 = λ l. l ≢ tail in
    let events = All-tail other (head_text h.edition) (map event_text h.events ++ unfinished) none in
    let last = all_after other (map final_text h.finals) (tail ∷ []) (all_after other (map order_text h.orders) finals
    (all_after other (map unfinished_text h.unfinished) orders (all_after other (map event_text h.events) unfinished events))) in
    All-head other tail [] last refl

-- so what has no such line is the text of no history
pub no_history : IsOneText H.IsLine H.line_text → HasPlainTexts H.IsLine H.line_text → (past : List (List ℕ)) (line : List ℕ)
    (result : Result HistoryValue ReadFault) → All IsPlain past → IsPlain line → HasNoEnd past
    → ReadsHistory (with_ends past ++ line) result → IsErr result
no_history tell plain past line (Ok v) before last none reads =
    let h = history_of v in
    let lines = (one_cut past (history_lines h) line [] before (lines_plain HT.is_machine tell plain h reads.0) last
    (All-nil (λ b. b ≢ 10)) (reads.1 ∙ sym (append-nil (history_text h)))).0 in
    absurd (has_end h (subst HasNoEnd lines none))
no_history tell plain past line (Err e) before last none reads = refl
