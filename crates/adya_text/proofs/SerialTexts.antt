-- The lines of a certificate are those of a run from the head to the tail, and no others are.
use Rattle.std.proofs.Common.{◌≡◌, ℕ, List, [], ◌∷◌, ◌++◌, map, refl, sym, ap, ◌∙◌}
use Rattle.std.specs.List.{AllByRecursion}
use Rattle.adya_keys.specs.Meaning.Keys.{IsTxn}
use Rattle.adya_line.specs.Meaning.Spelling.{serial_head, tail, txn_text}
use Rattle.adya_text.specs.Meaning.Texts.{IsSerial, serial_lines}
use Rattle.adya_text.specs.Clauses.Grammars.{AreSerialLines}
use Rattle.adya_text.specs.Computing.Runs.{IsRun, end_of, HasRun}
use Rattle.adya_line.specs.Clauses.SerialLines.{Line, HeadLine, TxnLine, TailLine, IsLine, line_text}
use Rattle.adya_text.specs.Computing.SerialRuns.{serial_machine, with_line}
use Rattle.adya_text.specs.declared.serial_draft.Stage.{Stage}
use Rattle.adya_text.specs.declared.serial_draft.Stage.TheVariants.{Head, Txns, Done}
use Rattle.adya_text.proofs.Runs.{all_append, all_map, map_texts, front_ends, all_put}
use Rattle.adya_text.proofs.Machines.{GoesOn, IsMachineOf}

-- ---- from a certificate to its run

abbrev Run : Stage → List Line → Type 0
Run s xs = IsRun serial_machine s xs

abbrev end : Stage → List Line → Stage
end s xs = end_of serial_machine.after s xs

abbrev txn_items : List ℕ → List Line
txn_items ts = map TxnLine ts ++ TailLine ∷ []

abbrev items_of : List ℕ → List Line
items_of ts = HeadLine ∷ txn_items ts

items_texts : (ts : List ℕ) → map line_text (items_of ts) ≡ serial_lines ts
items_texts ts = ap (λ (r : List (List ℕ)). serial_head ∷ r)
    (map_texts line_text TxnLine txn_text (λ _. refl) ts _ (tail ∷ []) refl)

txns_run : (ts : List ℕ) → Run Txns (txn_items ts)
txns_run [] = (refl, tt)
txns_run (t ∷ ts) = (refl, txns_run ts)

items_goods : (ts : List ℕ) → IsSerial ts → AllByRecursion IsLine (items_of ts)
items_goods ts is = (
  tt,
  all_append IsLine (map TxnLine ts) (TailLine ∷ [])
      (all_map IsLine IsTxn TxnLine (λ t good. good) ts is) (tt, tt),
)

run_of : (ts : List ℕ) → IsSerial ts → HasRun serial_machine Done ts (serial_lines ts)
run_of ts is = record {
  items = items_of ts;
  goods = items_goods ts is;
  runs = (refl, txns_run ts);
  ends = front_ends serial_machine.after Done (TailLine ∷ []) (λ _. refl) (map TxnLine ts) Txns;
  holds = all_put with_line TxnLine (λ ts. ts) (λ _ _. refl) [] ts (TailLine ∷ []);
  same = sym (items_texts ts);
}

-- ---- from a run to its certificate

record TxnPart (xs : List Line) : Type 0 where
  txns : List ℕ
  is : IsSerial txns
  whole : xs ≡ txn_items txns

txn_part : (xs : List Line) → AllByRecursion IsLine xs → Run Txns xs → end Txns xs ≡ Done → TxnPart xs
txn_part (TailLine ∷ []) goods runs ends = record { txns = []; is = tt; whole = refl }
txn_part (TailLine ∷ x ∷ xs) goods runs ends = let never = runs.1.0 in absurd cc
txn_part (TxnLine t ∷ xs) goods runs ends =
    let p = txn_part xs goods.1 runs.1 ends in
    record { txns = t ∷ p.txns; is = (goods.0, p.is); whole = ap (λ (r : List Line). TxnLine t ∷ r) p.whole }
txn_part xs goods runs ends = absurd cc

are_lines : (ts : List ℕ) (lines : List (List ℕ)) → HasRun serial_machine Done ts lines → AreSerialLines lines
are_lines ts lines run = by_items run.items run.goods run.runs run.ends run.same
  where
    by_items : (xs : List Line) → AllByRecursion IsLine xs → Run Head xs → end Head xs ≡ Done
        → lines ≡ map line_text xs → AreSerialLines lines
    by_items (HeadLine ∷ xs) goods runs ends same =
        let p = txn_part xs goods.1 runs.1 ends in
        (p.txns, p.is, same ∙ ap (λ (r : List Line). map line_text (HeadLine ∷ r)) p.whole ∙ items_texts p.txns)
    by_items xs goods runs ends same = absurd cc

-- ---- the machine

-- the tail may come after the head
goes_on : (s : Stage) → GoesOn serial_machine s
goes_on Head = record { more = HeadLine ∷ TailLine ∷ []; goods = (tt, (tt, tt)); runs = (refl, (refl, tt)); ends = refl }
goes_on Txns = record { more = TailLine ∷ []; goods = (tt, tt); runs = (refl, tt); ends = refl }
goes_on Done = record { more = []; goods = tt; runs = tt; ends = refl }

pub is_machine : IsMachineOf serial_machine IsSerial serial_lines
is_machine = record { run_of = run_of; are_lines = are_lines; goes_on = goes_on; stays = λ x ok. cc }
