-- What the table of appenders says of the transactions that it was made of.
use Rattle.std.specs.Prelude.{◌≡◌, ◌+◌, ◌<◌, ◌==◌, ℕ, Bool, ◌&&◌, List, Option, Some, None, Contains, take, flat_map, count_by}
use Rattle.append_values.specs.Meaning.Histories.{Operation, Transaction, effects_of, History}
use Rattle.append_values.specs.Meaning.Reads.{appended, own, AppendersDiffer, AppendsOnce}
use Rattle.append_check.specs.declared.item.Item.{Item}
use Rattle.append_check.specs.declared.appenders.Made.{Made}
use Rattle.append_check.specs.declared.appenders.Made.TheVariants.{Table, Twice}

abbrev pub item : ℕ → ℕ → Item
item k x = record { key = k; element = x }

abbrev pub item_eq : Item → Item → Bool
item_eq a b = (a.key == b.key) && (a.element == b.element)

-- how often it is there
abbrev pub times : Option ℕ → ℕ
times None = 0
times (Some t) = 1

-- how often these steps append the element to the list of the key
abbrev pub count_in : ℕ → ℕ → List Operation → ℕ
count_in k x os = count_by (λ y. y == x) (appended k os)

-- what all of these transactions append to the list of the key
abbrev pub all_appended : ℕ → History → List ℕ
all_appended k h = flat_map (λ (t : Transaction). appended k (effects_of t)) h

-- the function has each element that the first transactions append once, and the transaction that appends it
pub record Tells (table : Item → Option ℕ) (h : History) (n : ℕ) : Type 0 where
  pub counted : (k x : ℕ) → count_by (λ y. y == x) (all_appended k (take n h)) ≡ times (table (item k x))
  pub has : (k x t : ℕ) → t < n → Contains (own h k t) x → table (item k x) ≡ Some t

-- the function has what another one has, and what the steps of this transaction append
pub record Adds (old new : Item → Option ℕ) (place : ℕ) (os : List Operation) : Type 0 where
  pub counted : (k x : ℕ) → times (new (item k x)) ≡ times (old (item k x)) + count_in k x os
  pub kept : (k x t : ℕ) → old (item k x) ≡ Some t → new (item k x) ≡ Some t
  pub put : (k x : ℕ) → Contains (appended k os) x → new (item k x) ≡ Some place

-- no element is appended twice to one list, if there is a table; else this one is
abbrev pub IsMade : History → Made → Type 0
IsMade h (Table t) = AppendersDiffer h × AppendsOnce h
IsMade h (Twice i) = 1 < count_by (λ y. y == i.element) (all_appended i.key h)

-- the function has what the steps append, or they append this element and it was there before, or twice
abbrev pub IsAdded : (old new : Item → Option ℕ) → ℕ → List Operation → Option Item → Type 0
IsAdded old new place os None = Adds old new place os
IsAdded old new place os (Some i) = 1 < times (old (item i.key i.element)) + count_in i.key i.element os
