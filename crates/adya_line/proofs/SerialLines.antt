-- Each line of a certificate has a text of its own, without a line feed.
use Rattle.std.proofs.Common.{◌≡◌, ℕ, List, Option, Some, None, if◌then◌else◌, refl, sym, ◌∙◌}
use Rattle.std.specs.Str.{bytes_eq}
use Rattle.std.proofs.lemmas.Option.{none-some}
use Rattle.adya_line.specs.Meaning.Spelling.{serial_head, tail}
use Rattle.adya_line.specs.Computing.Reading.{txn_at, txn_at_line}
use Rattle.adya_line.specs.Laws.{IsOneText, HasPlainTexts}
use Rattle.adya_line.specs.Clauses.SerialLines.{Line, HeadLine, TxnLine, TailLine, IsLine, line_text, IsNoLine, IsOnlyLineOf}
use Rattle.adya_line.proofs.LineParts as parts
use Rattle.adya_line.proofs.LineReaders.{one, txns_read}
use Rattle.adya_line.proofs.HistoryLines.{kind_or, of_kind}
use Rattle.adya_line.proofs.PlainTexts.{txns_plain, serial_head_plain, tail_plain}

abbrev fixed_at : List ℕ → Option Line
fixed_at text =
    if bytes_eq text serial_head then Some HeadLine else (if bytes_eq text tail then Some TailLine else None)

abbrev line_at : List ℕ → Option Line
line_at text = kind_or TxnLine (txn_at_line text) (fixed_at text)

line_again : (x : Line) → IsLine x → line_at (line_text x) ≡ Some x
unfolding txn_at_line txn_at
line_again HeadLine is = refl
line_again (TxnLine t) is = of_kind TxnLine _ _ t (parts.line_again t is)
line_again TailLine is = refl

pub one_serial_line : IsOneText IsLine line_text
one_serial_line = one line_at IsLine line_text line_again

pub serial_lines_plain : HasPlainTexts IsLine line_text
serial_lines_plain HeadLine is = serial_head_plain
serial_lines_plain (TxnLine t) is = txns_plain t is
serial_lines_plain TailLine is = tail_plain

-- ---- what is read of a text

pub only_line : (x : Line) (text : List ℕ) → IsLine x → text ≡ line_text x → IsOnlyLineOf x text
only_line x text good same = record {
  line = record { good = good; same = same };
  only = λ y is. one_serial_line y x is.good good (sym is.same ∙ same);
}

pub txn_line : (text : List ℕ) (t : ℕ) → txn_at_line text ≡ Some t → IsOnlyLineOf (TxnLine t) text
txn_line text t read = let h = (txns_read text t).0 read in only_line (TxnLine t) text h.0 h.1

pub no_line : (text : List ℕ) → txn_at_line text ≡ None → (text ≡ serial_head → ⊥) → (text ≡ tail → ⊥) → IsNoLine text
no_line text txn head end HeadLine is = head is.same
no_line text txn head end (TxnLine t) is = none-some t (sym txn ∙ (txns_read text t).1 (is.good, is.same))
no_line text txn head end TailLine is = end is.same
