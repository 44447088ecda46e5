-- A text as it is written, part after part.
use Rattle.std.specs.Prelude.{ℕ, List, [], ◌∷◌, ◌++◌, flat_map}
use Rattle.adya_values.specs.Meaning.Histories.{History}
use Rattle.adya_line.specs.Meaning.Spelling.{head_text, serial_head, tail}
use Rattle.adya_line.specs.Meaning.Spelling.{event_text, unfinished_text, order_text, final_text, txn_text}

-- the line with its line feed
abbrev pub ended : List ℕ → List ℕ
ended line = line ++ 10 ∷ []

-- the lines of some values, each with its line feed
abbrev pub lines_of : {X : Type 0} → (X → List ℕ) → List X → List ℕ
lines_of text xs = flat_map (λ x. ended (text x)) xs

unfoldable pub history_parts : History → List ℕ
history_parts h =
    ended (head_text h.edition) ++ lines_of event_text h.events ++ lines_of unfinished_text h.unfinished ++
    lines_of order_text h.orders ++ lines_of final_text h.finals ++ ended tail

unfoldable pub serial_parts : List ℕ → List ℕ
serial_parts ts = ended serial_head ++ lines_of txn_text ts ++ ended tail
