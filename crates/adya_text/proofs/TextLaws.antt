-- Different values have different texts, and no text begins another.
use Rattle.std.proofs.Common.{◌≢◌, ◌≡◌, ℕ, ◌<◌, ◌⊎◌, inl, inr, List, [], ◌∷◌, ◌++◌, All, map, Result, Ok, Err, refl, sym, ap, subst, ◌∙◌, append-nil, arith}
use Rattle.std.specs.Prelude.{MatchResult, IsErrOf}
use Rattle.std.specs.List.{AllByRecursion}
use Rattle.std.proofs.lemmas.List.Elements.{All-nil, All-cons}
use Rattle.adya_values.specs.Meaning.Histories.{History}
use Rattle.adya_values.specs.Mirror.Histories.{history_of}
use Rattle.adya_values.specs.declared.history.History.{History as HistoryValue}
use Rattle.adya_values.specs.declared.serial.Serial.{Serial}
use Rattle.adya_line.specs.Laws.{IsOneText, HasPlainTexts}
use Rattle.adya_line.specs.Meaning.Lines.{IsPlain}
use Rattle.adya_line.specs.Clauses.HistoryLines as H
use Rattle.adya_line.specs.Clauses.SerialLines as S
use Rattle.adya_text.specs.Meaning.Texts.{IsHistory, IsSerial, history_lines, serial_lines, history_text, serial_text, with_ends}
use Rattle.adya_text.specs.Clauses.Grammars.{AreHistoryLines, AreSerialLines}
use Rattle.adya_text.specs.Clauses.Faults.{IsFaultLine, IsFirstFaulty}
use Rattle.adya_text.specs.Clauses.Reading.{ReadsHistory, ReadsSerial}
use Rattle.adya_text.specs.Computing.Runs.{Machine}
use Rattle.adya_text.specs.declared.read_fault.ReadFault.{ReadFault}
use Rattle.adya_text.specs.declared.read_fault.ReadFault.TheVariants.{Syntax, Device, Memory}
use Rattle.adya_text.specs.declared.read_fault.Text.TheVariants as Of
use Rattle.adya_text.proofs.Runs.{refused, one_end}
use Rattle.adya_text.proofs.LineLists.{one_cut, first_lines}
use Rattle.adya_text.proofs.Machines.{AreLines, IsMachineOf}
use Rattle.adya_text.proofs.HistoryTexts as HT
use Rattle.adya_text.proofs.SerialTexts as ST

plain_lines : {L : Type 0} (text : L → List ℕ) (good : L → Type 0) → HasPlainTexts good text
    → (xs : List L) → AllByRecursion good xs → All IsPlain (map text xs)
plain_lines text good plain [] goods = λ k d below. absurd (omega arith)
plain_lines text good plain (x ∷ xs) goods =
    All-cons IsPlain (text x) (map text xs) (plain x goods.0) (plain_lines text good plain xs goods.1)

module _ {S H L : Type 0} {m : Machine S H L} {Is : H → Type 0} {lines_of : H → List (List ℕ)}
    (of : IsMachineOf m Is lines_of) (tell : IsOneText m.good m.text) (plain : HasPlainTexts m.good m.text)
  where
    pub lines_plain : (h : H) → Is h → All IsPlain (lines_of h)
    lines_plain h is =
        let run = of.run_of h is in
        subst (All IsPlain) (sym run.same) (plain_lines m.text m.good plain run.items run.goods)

    pub one_value : (g h : H) → Is g → Is h → with_ends (lines_of g) ≡ with_ends (lines_of h) → g ≡ h
    one_value g h is_g is_h same =
        let none = All-nil (λ b. b ≢ 10) in
        let lines = one_cut (lines_of g) (lines_of h) [] [] (lines_plain g is_g) (lines_plain h is_h) none none
        (ap (λ (l : List ℕ). l ++ []) same) in
        (one_end m tell m.done m.done g h (lines_of g) (of.run_of g is_g) (rw lines.0 (of.run_of h is_h))).1

    no_more : (g h : H) → Is g → Is h → (zs : List (List ℕ)) → lines_of h ≡ lines_of g ++ zs → zs ≡ []
    no_more g h is_g is_h [] e = refl
    no_more g h is_g is_h (l ∷ zs) e =
        absurd (refused m tell m.done m.done g h (lines_of g) l zs (of.run_of g is_g) (rw (← e) (of.run_of h is_h))
        (λ x is. of.stays x))

    -- no text begins another
    pub no_longer : (g h : H) → Is g → Is h → (more : List ℕ) → with_ends (lines_of h) ≡ with_ends (lines_of g) ++ more
        → more ≡ []
    no_longer g h is_g is_h more e =
        let (zs, lines, rest) = first_lines (lines_of g) (lines_of h) more (lines_plain g is_g) (lines_plain h is_h) e in
        rest ∙ ap with_ends (no_more g h is_g is_h zs lines)

    -- a text of the grammar has no fault
    pub no_fault : (lines : List (List ℕ)) (k : ℕ) → AreLines Is lines_of lines
        → IsFaultLine (AreLines Is lines_of) (with_ends lines) k → ⊥
    no_fault lines k (h, is, same) fault =
        let each = subst (All IsPlain) (sym same) (lines_plain h is) in
        let cut = one_cut fault.lines lines fault.rest [] fault.cut.plain each fault.cut.plain_rest
        (All-nil (λ b. b ≢ 10)) (sym fault.cut.whole ∙ sym (append-nil (with_ends lines))) in
        fault.outside (subst (AreLines Is lines_of) (sym cut.0) (h, is, same)) cut.1

-- ---- what was read of the text of a value

pub only_history : IsOneText H.IsLine H.line_text → HasPlainTexts H.IsLine H.line_text → (text : List ℕ)
    (result : Result HistoryValue ReadFault) → ReadsHistory text result → (h : History) → IsHistory h
    → text ≡ history_text h → MatchResult result (λ v. history_of v ≡ h) (λ e. (e ≡ Device) ⊎ (e ≡ Memory))
only_history tell plain text (Ok v) reads h is same =
    one_value HT.is_machine tell plain (history_of v) h reads.0 is (sym reads.1 ∙ same)
only_history tell plain text (Err (Syntax Of.History k)) reads h is same =
    absurd (no_fault HT.is_machine tell plain (history_lines h) k (h, is, refl)
    (subst (λ t. IsFaultLine AreHistoryLines t k) same reads))
only_history tell plain text (Err (Syntax Of.Serial k)) reads h is same = absurd reads
only_history tell plain text (Err Device) reads h is same = inl refl
only_history tell plain text (Err Memory) reads h is same = inr refl

pub only_serial : IsOneText S.IsLine S.line_text → HasPlainTexts S.IsLine S.line_text → (text : List ℕ)
    (result : Result Serial ReadFault) → ReadsSerial text result → (ts : List ℕ) → IsSerial ts
    → text ≡ serial_text ts → MatchResult result (λ v. v.txns.items ≡ ts) (λ e. (e ≡ Device) ⊎ (e ≡ Memory))
only_serial tell plain text (Ok v) reads ts is same =
    one_value ST.is_machine tell plain v.txns.items ts reads.0 is (sym reads.1 ∙ same)
only_serial tell plain text (Err (Syntax Of.Serial k)) reads ts is same =
    absurd (no_fault ST.is_machine tell plain (serial_lines ts) k (ts, is, refl)
    (subst (λ t. IsFaultLine AreSerialLines t k) same reads))
only_serial tell plain text (Err (Syntax Of.History k)) reads ts is same = absurd reads
only_serial tell plain text (Err Device) reads ts is same = inl refl
only_serial tell plain text (Err Memory) reads ts is same = inr refl

-- bytes have no device that could fail
pub but_device : {T : Type 0} (P : T → Type 0) (result : Result T ReadFault) → (IsErrOf result Device → ⊥)
    → MatchResult result P (λ e. (e ≡ Device) ⊎ (e ≡ Memory)) → MatchResult result P (λ e. e ≡ Memory)
but_device P (Ok v) works is = is
but_device P (Err (Syntax text k)) works (inl device) = cc
but_device P (Err (Syntax text k)) works (inr memory) = cc
but_device P (Err Device) works is = absurd (works refl)
but_device P (Err Memory) works is = refl

-- ---- one fault line

not_before : (grammar : List (List ℕ) → Type 0) (lines : List (List ℕ)) (j k : ℕ) → IsFirstFaulty grammar lines j
    → IsFirstFaulty grammar lines k → j < k → ⊥
not_before grammar lines j k first second below = second.first j first.counted below first.faulty

one_first : (grammar : List (List ℕ) → Type 0) (lines : List (List ℕ)) (j k : ℕ) → IsFirstFaulty grammar lines j
    → IsFirstFaulty grammar lines k → j ≡ k
one_first grammar lines j k first second =
    let below : j < k → ⊥ = not_before grammar lines j k first second in
    let above : k < j → ⊥ = not_before grammar lines k j second first in
    omega (arith, below, above)

pub one_fault : (grammar : List (List ℕ) → Type 0) (text : List ℕ) (j k : ℕ) → IsFaultLine grammar text j
    → IsFaultLine grammar text k → j ≡ k
one_fault grammar text j k first second =
    let cut = one_cut first.lines second.lines first.rest second.rest first.cut.plain second.cut.plain
    first.cut.plain_rest second.cut.plain_rest (sym first.cut.whole ∙ second.cut.whole) in
    one_first grammar second.lines j k (subst (λ (ls : List (List ℕ)). IsFirstFaulty grammar ls j) cut.0 first.first)
    second.first
