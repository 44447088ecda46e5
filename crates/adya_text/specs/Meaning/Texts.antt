-- The texts of histories and of certificates.
use Rattle.std.specs.Prelude.{◌≡◌, true, List, [], ◌∷◌, ◌++◌, map}
use Rattle.std.specs.List.{AllByRecursion}
use Rattle.adya_keys.specs.Meaning.Keys.{Bytes, IsTxn, keys_rise}
use Rattle.adya_values.specs.Computing.Shapes.{fits_edition}
use Rattle.adya_values.specs.Meaning.Histories.{Txns, History}
use Rattle.adya_line.specs.Meaning.Spelling.{head_text, serial_head, tail, event_text, unfinished_text, order_text, final_text, txn_text}
use Rattle.adya_line.specs.Meaning.Limits.{IsEvent, IsOrder, IsFinal}

-- a history that has a text
pub record IsHistory (h : History) : Type 0 where
  pub edition : fits_edition h.edition h.unfinished ≡ true
  pub unfinished : AllByRecursion IsTxn h.unfinished
  pub events : AllByRecursion IsEvent h.events
  pub orders : AllByRecursion IsOrder h.orders
  pub orders_rise : keys_rise (map (λ o. o.key) h.orders) ≡ true
  pub finals : AllByRecursion IsFinal h.finals
  pub finals_rise : keys_rise (map (λ f. f.key) h.finals) ≡ true

abbrev pub IsSerial : Txns → Type 0
IsSerial ts = AllByRecursion IsTxn ts

abbrev pub history_lines : History → List Bytes
history_lines h = head_text h.edition ∷ (map event_text h.events ++ (map unfinished_text h.unfinished
    ++ (map order_text h.orders ++ (map final_text h.finals ++ tail ∷ []))))

abbrev pub serial_lines : Txns → List Bytes
serial_lines ts = serial_head ∷ (map txn_text ts ++ tail ∷ [])

-- each line with a line feed
abbrev pub with_ends : List Bytes → Bytes
with_ends [] = []
with_ends (l ∷ ls) = l ++ (10 ∷ with_ends ls)

abbrev pub history_text : History → Bytes
history_text h = with_ends (history_lines h)

abbrev pub serial_text : Txns → Bytes
serial_text ts = with_ends (serial_lines ts)
