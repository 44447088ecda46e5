-- The one line of each answer.
use Rattle.std.specs.Prelude.{◌++◌, codes, decimal, flat_map, length}
use Rattle.adya_keys.specs.Meaning.Keys.{Bytes}
use Rattle.adya_values.specs.Meaning.Histories.{FinalPair}
use Rattle.ssi_store.specs.Meaning.Courses.{Refusal, Busy, Idle, Range, Long, Spent, Memory, Answer, Begun, Value, Absent, Done, Rows, Committed, Aborted, Conflict, Unsafe, Kept, Counts, Refused}

-- a space and K,V
abbrev pub row_text : FinalPair → Bytes
row_text f = codes " " ++ f.key ++ codes "," ++ f.value

abbrev pub refusal_text : Refusal → Bytes
refusal_text Busy = codes "! 1 busy"
refusal_text Idle = codes "! 2 idle"
refusal_text Range = codes "! 3 range"
refusal_text Long = codes "! 4 long"
refusal_text Spent = codes "! 5 spent"
refusal_text Memory = codes "! 6 memory"

abbrev pub answer_text : Answer → Bytes
answer_text (Begun t) = codes "begun " ++ decimal t
answer_text (Value v) = codes "value " ++ v
answer_text Absent = codes "absent"
answer_text Done = codes "done"
answer_text (Rows rows) = codes "rows " ++ decimal (length rows) ++ flat_map row_text rows
answer_text Committed = codes "committed"
answer_text Aborted = codes "aborted"
answer_text (Conflict k t) = codes "conflict " ++ k ++ codes " " ++ decimal t
answer_text (Unsafe t) = codes "unsafe " ++ decimal t
answer_text (Kept n) = codes "kept " ++ decimal n
answer_text (Counts open_txns kept versions keys) =
    codes "stat open " ++ decimal open_txns ++ codes " kept " ++ decimal kept ++
    codes " versions " ++ decimal versions ++ codes " keys " ++ decimal keys
answer_text (Refused r) = refusal_text r

abbrev pub answer_line : Answer → Bytes
answer_line answer = answer_text answer ++ codes "\n"
