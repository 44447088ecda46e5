-- The three promises that all others are there for.
--
-- Read the definitions that they are made of in this order; each module begins with a line that says what it is about.
--
-- What a yes says of a history:
--   adya_keys, specs/Meaning: Keys
--   adya_values, specs/Meaning: Histories (versions, events, histories), Events (who wrote and committed), Orders (version
--     orders), Selections (what a read or a scan saw of a key), Edges (the direct serialization graph), Phenomena (G1 and
--     G2), Serial (the serial run, and agreement with it)
--   adya_values, specs/Computing: Shapes (orders and finals are sorted by key)
--   adya_line, specs/Meaning: Limits, Spelling (the line of each event, order and final value)
--   adya_text, specs/Meaning: Texts (the text of a history and of a certificate)
--   adya_audit, specs/Meaning: Verdicts, Serializable
-- Which verdict two texts get is adya_audit, specs/Clauses/TextVerdicts.
--
-- What the store replies, and what its history records:
--   adya_line, specs/Meaning: Lines
--   adya_values, specs/Meaning: KeySets
--   ssi_store, specs/Meaning: Courses (commands and answers), Acts, Sessions
--   ssi_versions, specs/Meaning: Changes (what each commit installs, and collections)
--   ssi_snapshot, specs/Meaning: Reached (how far a limited scan has looked)
--   ssi_store, specs/Meaning: Seeing (snapshots), Tracked (what the tracker of conflicts is told)
--   ssi_conflict, specs/Meaning: Calls (concurrent transactions), Kept
--   ssi_conflict, specs/Computing: Steps (pairs and pivots)
--   ssi_store, specs/Meaning: Replies (what is answered)
--   ssi_recorder, specs/Meaning: Recorded (the history of a list of events)
--   ssi_store, specs/Meaning: Recording (the history of a course), Faces (what a history shows of the answers)
--   ssi_line, specs/Meaning: Spelling, Replies, Steps (lines, what is made of them, and what ends a run)
--
-- What a text in EDN or JSON says, or what is wrong with it, and what `lists` answers:
--   edn, specs/Meaning: Bytes, Characters, Numbers, Names, Strings, Words, Openings, Tokens (which bytes are which token), Lexing,
--     Forms, Keys, Grammar, Texts (which forms a text has), Nesting, Lines, Readers (which tokens come next), Blame (what is
--     wrong with a text that has none)
--   append_values, specs/Meaning: Histories (transactions of appends and reads), Reads, Runs (when an order explains a history),
--     Reasons
--   append_text, specs/Meaning: Notations (EDN or JSON), Data, Names, Operations (which operation a form is), Steps, Pairing
--     (which transactions they are), Numbers, Texts (the history that a text in EDN says, or what is wrong with it), Json (the
--     form that a value stands for), Lines, JsonTexts (the same of a text in JSON)
--   append_check, specs/Meaning: Verdicts
--   lists_verdicts, specs/Meaning: Status (answers and their words)
--   lists_cli, specs/Meaning: Answers (what an answer says, and the text of an order)
use Rattle.std.specs.Prelude.{◌≡◌, ◌⊎◌, ◌≤◌, ℕ, false, List, ◌++◌, All, codes, length}
use Rattle.std.specs.List.{list_any}
use Rattle.adya_keys.specs.Meaning.Keys.{Bytes}
use Rattle.adya_values.specs.Meaning.Histories.{History}
use Rattle.adya_line.specs.Meaning.Lines.{IsPlain}
use Rattle.adya_text.specs.Meaning.Texts.{history_text, with_ends}
use Rattle.adya_audit.specs.Meaning.Verdicts.{Yes}
use Rattle.adya_audit.specs.Clauses.TextVerdicts.{IsVerdictOn}
use Rattle.adya_audit.specs.Meaning.Serializable.{AreSerializable}
use Rattle.ssi_store.specs.Meaning.Courses.{New}
use Rattle.ssi_store.specs.Meaning.Faces.{Records}
use Rattle.append_values.specs.Meaning.Runs.{Explains}
use Rattle.append_values.specs.Meaning.Reasons.{HasNoOrder}
use Rattle.append_text.specs.declared.history.History.{History as ListHistory}
use Rattle.append_text.specs.declared.text_form.TextForm.{TextForm}
use Rattle.append_text.specs.declared.read_fault.ReadFault.TheVariants.{Text as TextFault}
use Rattle.append_text.specs.Meaning.JsonTexts.{IsFaultIn, IsHistoryIn}
use Rattle.lists_verdicts.specs.Meaning.Status.{tells}
use Rattle.lists_cli.specs.Meaning.Answers.{history_in, order_text, HasRepeat}
use Rattle.headline.specs.declared.lists.ListFault.{ListFault}
use Rattle.headline.specs.declared.lists.ListFault.TheVariants as fault
use Rattle.ssi_line.specs.Meaning.Steps.{Step, Stopped, AreSteps, AllMayFollow, AllGoOn, course_after, steps_text, EndsWith}

-- Whenever the verdict on a history text and a certificate text is yes, the history shows neither G1 nor G2, and its
-- committed transactions, run one at a time in the certificate's order, give every recorded read, every scan and the
-- final contents.
abbrev pub YesMeansSerializable : Type 0
YesMeansSerializable = (history certificate : Bytes) → IsVerdictOn history certificate Yes
    → AreSerializable history certificate

-- Whatever command lines a new store is given: each of them made a step, up to one that ended the run or to the end of the
-- input, and the replies are the texts of these steps; the history text records them, and the verdict on it and the
-- certificate text is that yes.
pub record GetsYes (input replies history certificate : Bytes) : Type 0 where
  pub lines : List Bytes
  pub steps : List Step
  -- the bytes after the last of these lines
  pub rest : Bytes
  pub input_is : input ≡ with_ends lines ++ rest
  -- there is no line feed in a line
  pub plain : All IsPlain lines
  pub made : AreSteps lines steps
  pub follow : AllMayFollow (New 1) steps
  -- no line is left and none was `stop`, or the last one was `stop`, and none before it
  pub ended : (AllGoOn steps × IsPlain rest) ⊎ EndsWith steps Stopped
  pub replies_are : replies ≡ steps_text steps
  pub recorded : History
  pub records : Records recorded (course_after (New 1) steps)
  pub history_is : history ≡ history_text recorded
  pub yes : IsVerdictOn history certificate Yes

abbrev pub Begins : Bytes → Bytes → Type 0
Begins front text = (rest : Bytes) × (text ≡ front ++ rest)

-- this is the text of an order that explains the history
abbrev pub IsOrderOf : ListHistory → Bytes → Type 0
IsOrderOf h order = (places : List ℕ) × Explains places (history_in h) × (order ≡ order_text h.labels.items places)

-- Whatever text in EDN or JSON `lists` is given and answers: it is one of these operations, and if the answer begins with
-- `serializable`, the order that is written explains the history that they are; if it begins with `not serializable`, no
-- order does; if with `nothing to check`, no committed transaction has a step; and if with `appended twice`, an element is
-- appended twice to a list. It begins with one of the four.
pub record IsListAnswer (n : TextForm) (text answer order : Bytes) : Type 0 where
  pub history : ListHistory
  pub says : IsHistoryIn n text history
  pub yes : Begins (codes "serializable") answer → IsOrderOf history order
  pub no : Begins (codes "not serializable") answer → HasNoOrder (history_in history)
  pub nothing : Begins (codes "nothing to check") answer → list_any tells history.transactions.items ≡ false
  pub repeated : Begins (codes "appended twice") answer → HasRepeat (history_in history)
  pub one : (Begins (codes "serializable") answer ⊎ Begins (codes "not serializable") answer)
      ⊎ (Begins (codes "nothing to check") answer ⊎ Begins (codes "appended twice") answer)

-- Whatever text gets no answer: what is blamed on it is there. It is the text of no history, and this is wrong there, or it is
-- that of a history of 2,147,483,648 transactions or more. Otherwise memory ran out.
abbrev pub IsListFault : TextForm → Bytes → ListFault → Type 0
IsListFault n text (fault.Text place problem) = IsFaultIn n text (TextFault place problem)
IsListFault n text fault.Many = (h : ListHistory) × IsHistoryIn n text h × (2147483648 ≤ length h.transactions.items)
IsListFault n text fault.Memory = Unit {0}
