-- The lines of a history are those of a run from the head to the tail, and no others are.
use Rattle.std.proofs.Common.{◌≡◌, ℕ, suc, length, nat_lt, true, List, [], ◌∷◌, ◌++◌, map, refl, sym, ap, ◌∙◌}
use Rattle.std.specs.List.{AllByRecursion}
use Rattle.std.proofs.lemmas.Bool.{eqb-true, and_parts, and_from}
use Rattle.adya_keys.specs.Meaning.Keys.{keys_rise, key_lt, IsTxn}
use Rattle.adya_values.specs.Computing.Shapes.{numbers_rise, fits_edition}
use Rattle.adya_values.specs.declared.edition.Edition.{Edition}
use Rattle.adya_values.specs.declared.edition.Edition.TheVariants.{One, Two}
use Rattle.adya_values.specs.Meaning.Histories.{Event, Order, FinalPair, History}
use Rattle.adya_line.specs.Meaning.Spelling.{head_text, tail, event_text, unfinished_text, order_text, final_text}
use Rattle.adya_line.specs.Meaning.Limits.{IsEvent, IsOrder, IsFinal}
use Rattle.adya_text.specs.Meaning.Texts.{IsHistory, history_lines}
use Rattle.adya_text.specs.Clauses.Grammars.{AreHistoryLines}
use Rattle.adya_text.specs.Computing.Runs.{IsRun, end_of, HasRun}
use Rattle.adya_line.specs.Clauses.HistoryLines.{Line, HeadLine, EventLine, UnfinishedLine, OrderLine, FinalLine, TailLine, IsLine, line_text}
use Rattle.adya_text.specs.Computing.HistoryRuns.{allows, history_machine, stage_after, with_line}
use Rattle.adya_text.specs.declared.history_draft.Stage.{Stage}
use Rattle.adya_text.specs.declared.history_draft.Stage.TheVariants.{Head, Events, Unfinished, Orders, Finals, Done}
use Rattle.adya_text.proofs.Runs.{all_append, all_map, map_texts, front_ends, all_put}
use Rattle.adya_text.proofs.Machines.{GoesOn, IsMachineOf}

abbrev Run : Stage → List Line → Type 0
Run s xs = IsRun history_machine s xs

abbrev end : Stage → List Line → Stage
end s xs = end_of stage_after s xs

-- ---- from a history to its run

abbrev final_items : List FinalPair → List Line
final_items fs = map FinalLine fs ++ TailLine ∷ []

abbrev order_items : List Order → List FinalPair → List Line
order_items os fs = map OrderLine os ++ final_items fs

abbrev unfinished_items : List ℕ → List Order → List FinalPair → List Line
unfinished_items ts os fs = map UnfinishedLine ts ++ order_items os fs

abbrev event_items : List Event → List ℕ → List Order → List FinalPair → List Line
event_items es ts os fs = map EventLine es ++ unfinished_items ts os fs

abbrev items_of : History → List Line
items_of h = HeadLine h.edition ∷ event_items h.events h.unfinished h.orders h.finals

items_texts : (h : History) → map line_text (items_of h) ≡ history_lines h
items_texts h =
    ap (λ (r : List (List ℕ)). head_text h.edition ∷ r)
    (map_texts line_text EventLine event_text (λ _. refl) h.events _ _
    (map_texts line_text UnfinishedLine unfinished_text (λ _. refl) h.unfinished _ _
    (map_texts line_text OrderLine order_text (λ _. refl) h.orders _ _
    (map_texts line_text FinalLine final_text (λ _. refl) h.finals _ (tail ∷ []) refl))))

-- what the lines of a history hold is the history
items_held : (h : History) → end_of with_line history_machine.nothing (items_of h) ≡ h
items_held h =
    all_put with_line EventLine
    (λ es. record { edition = h.edition; events = es; unfinished = []; orders = []; finals = [] })
    (λ _ _. refl) [] h.events (unfinished_items h.unfinished h.orders h.finals)
    ∙ all_put with_line UnfinishedLine
    (λ ts. record { edition = h.edition; events = h.events; unfinished = ts; orders = []; finals = [] })
    (λ _ _. refl) [] h.unfinished (order_items h.orders h.finals)
    ∙ all_put with_line OrderLine
    (λ os. record { edition = h.edition; events = h.events; unfinished = h.unfinished; orders = os; finals = [] })
    (λ _ _. refl) [] h.orders (final_items h.finals)
    ∙ all_put with_line FinalLine (λ fs. record h { finals = fs }) (λ _ _. refl) [] h.finals (TailLine ∷ [])

finals_run : (last : List ℕ) (fs : List FinalPair) → keys_rise (last ∷ map (λ f. f.key) fs) ≡ true
    → Run (Finals last) (final_items fs)
finals_run last [] rise = (refl, tt)
finals_run last (f ∷ fs) rise =
    let parts = and_parts (key_lt last f.key) (keys_rise (map (λ f. f.key) (f ∷ fs))) rise in
    (parts.0, finals_run f.key fs parts.1)

finals_after : (s : Stage) (fs : List FinalPair) → allows s TailLine ≡ true
    → ((f : FinalPair) → allows s (FinalLine f) ≡ true) → keys_rise (map (λ f. f.key) fs) ≡ true → Run s (final_items fs)
finals_after s [] tail final rise = (tail, tt)
finals_after s (f ∷ fs) tail final rise = (final f, finals_run f.key fs rise)

orders_run : (last : List ℕ) (os : List Order) (fs : List FinalPair)
    → keys_rise (last ∷ map (λ o. o.key) os) ≡ true → keys_rise (map (λ f. f.key) fs) ≡ true
    → Run (Orders last) (order_items os fs)
orders_run last [] fs rise finals = finals_after (Orders last) fs refl (λ _. refl) finals
orders_run last (o ∷ os) fs rise finals =
    let parts = and_parts (key_lt last o.key) (keys_rise (map (λ o. o.key) (o ∷ os))) rise in
    (parts.0, orders_run o.key os fs parts.1 finals)

orders_after : (s : Stage) (os : List Order) (fs : List FinalPair) → allows s TailLine ≡ true
    → ((f : FinalPair) → allows s (FinalLine f) ≡ true) → ((o : Order) → allows s (OrderLine o) ≡ true)
    → keys_rise (map (λ o. o.key) os) ≡ true → keys_rise (map (λ f. f.key) fs) ≡ true → Run s (order_items os fs)
orders_after s [] fs tail final order rise finals = finals_after s fs tail final finals
orders_after s (o ∷ os) fs tail final order rise finals = (order o, orders_run o.key os fs rise finals)

unfinished_run : (last : ℕ) (ts : List ℕ) (os : List Order) (fs : List FinalPair) → numbers_rise (last ∷ ts) ≡ true
    → keys_rise (map (λ o. o.key) os) ≡ true → keys_rise (map (λ f. f.key) fs) ≡ true
    → Run (Unfinished last) (unfinished_items ts os fs)
unfinished_run last [] os fs rise orders finals = orders_after (Unfinished last) os fs refl (λ _. refl) (λ _. refl) orders finals
unfinished_run last (t ∷ ts) os fs rise orders finals =
    let parts = and_parts (nat_lt last t) (numbers_rise (t ∷ ts)) rise in
    (parts.0, unfinished_run t ts os fs parts.1 orders finals)

unfinished_after_event : (e : Edition) (ts : List ℕ) (os : List Order) (fs : List FinalPair)
    → fits_edition e ts ≡ true → keys_rise (map (λ o. o.key) os) ≡ true → keys_rise (map (λ f. f.key) fs) ≡ true
    → Run (Events e) (unfinished_items ts os fs)
unfinished_after_event e [] os fs fits orders finals = orders_after (Events e) os fs refl (λ _. refl) (λ _. refl) orders finals
unfinished_after_event One (t ∷ ts) os fs fits orders finals =
    let none : suc (length ts) ≡ 0 = eqb-true (suc (length ts)) 0 fits in absurd cc
unfinished_after_event Two (t ∷ ts) os fs fits orders finals = (refl, unfinished_run t ts os fs fits orders finals)

events_run : (e : Edition) (es : List Event) (ts : List ℕ) (os : List Order) (fs : List FinalPair)
    → fits_edition e ts ≡ true → keys_rise (map (λ o. o.key) os) ≡ true → keys_rise (map (λ f. f.key) fs) ≡ true
    → Run (Events e) (event_items es ts os fs)
events_run e [] ts os fs fits orders finals = unfinished_after_event e ts os fs fits orders finals
events_run e (v ∷ es) ts os fs fits orders finals = (refl, events_run e es ts os fs fits orders finals)

items_end : (h : History) → end Head (items_of h) ≡ Done
items_end h = front_ends stage_after Done _
    (front_ends stage_after Done _
    (front_ends stage_after Done _
    (front_ends stage_after Done (TailLine ∷ []) (λ _. refl) (map FinalLine h.finals))
    (map OrderLine h.orders)) (map UnfinishedLine h.unfinished)) (map EventLine h.events) (Events h.edition)

items_goods : (h : History) → IsHistory h → AllByRecursion IsLine (items_of h)
items_goods h is = (
  tt,
  all_append IsLine (map EventLine h.events) (unfinished_items h.unfinished h.orders h.finals)
      (all_map IsLine IsEvent EventLine (λ e good. good) h.events is.events)
      (all_append IsLine (map UnfinishedLine h.unfinished) (order_items h.orders h.finals)
      (all_map IsLine IsTxn UnfinishedLine (λ t good. good) h.unfinished is.unfinished)
      (all_append IsLine (map OrderLine h.orders) (final_items h.finals)
      (all_map IsLine IsOrder OrderLine (λ o good. good) h.orders is.orders)
      (all_append IsLine (map FinalLine h.finals) (TailLine ∷ [])
      (all_map IsLine IsFinal FinalLine (λ f good. good) h.finals is.finals) (tt, tt)))),
)

run_of : (h : History) → IsHistory h → HasRun history_machine Done h (history_lines h)
run_of h is = record {
  items = items_of h;
  goods = items_goods h is;
  runs =
      (refl, events_run h.edition h.events h.unfinished h.orders h.finals is.edition is.orders_rise is.finals_rise);
  ends = items_end h;
  holds = items_held h;
  same = sym (items_texts h);
}

-- ---- from a run to its history

record FinalPart (front : List (List ℕ)) (xs : List Line) : Type 0 where
  finals : List FinalPair
  goods : AllByRecursion IsFinal finals
  rise : keys_rise (front ++ map (λ f. f.key) finals) ≡ true
  whole : xs ≡ final_items finals

final_part : (last : List ℕ) (xs : List Line) → AllByRecursion IsLine xs → Run (Finals last) xs
    → end (Finals last) xs ≡ Done → FinalPart (last ∷ []) xs
final_part last (TailLine ∷ []) goods runs ends = record { finals = []; goods = tt; rise = refl; whole = refl }
final_part last (TailLine ∷ x ∷ xs) goods runs ends = let never = runs.1.0 in absurd cc
final_part last (FinalLine f ∷ xs) goods runs ends =
    let part = final_part f.key xs goods.1 runs.1 ends in
    record {
      finals = f ∷ part.finals;
      goods = (goods.0, part.goods);
      rise = and_from (key_lt last f.key) (keys_rise (f.key ∷ map (λ f. f.key) part.finals)) runs.0 part.rise;
      whole = ap (λ (r : List Line). FinalLine f ∷ r) part.whole;
    }
final_part last xs goods runs ends = absurd cc

record OrderPart (front : List (List ℕ)) (xs : List Line) : Type 0 where
  orders : List Order
  finals : List FinalPair
  goods : AllByRecursion IsOrder orders
  final_goods : AllByRecursion IsFinal finals
  rise : keys_rise (front ++ map (λ o. o.key) orders) ≡ true
  finals_rise : keys_rise (map (λ f. f.key) finals) ≡ true
  whole : xs ≡ order_items orders finals

-- the finals after a stage in which any may come
finals_first : (front : List (List ℕ)) → keys_rise (front ++ []) ≡ true → (f : FinalPair) (xs : List Line) → IsFinal f
    → FinalPart (f.key ∷ []) xs → OrderPart front (FinalLine f ∷ xs)
finals_first front alone f xs is part = record {
  orders = [];
  finals = f ∷ part.finals;
  goods = tt;
  final_goods = (is, part.goods);
  rise = alone;
  finals_rise = part.rise;
  whole = ap (λ (r : List Line). FinalLine f ∷ r) part.whole;
}

tail_only : (front : List (List ℕ)) → keys_rise (front ++ []) ≡ true → OrderPart front (TailLine ∷ [])
tail_only front alone =
    record { orders = []; finals = []; goods = tt; final_goods = tt; rise = alone; finals_rise = refl; whole = refl }

order_part : (last : List ℕ) (xs : List Line) → AllByRecursion IsLine xs → Run (Orders last) xs
    → end (Orders last) xs ≡ Done → OrderPart (last ∷ []) xs
order_part last (FinalLine f ∷ xs) goods runs ends =
    finals_first (last ∷ []) refl f xs goods.0 (final_part f.key xs goods.1 runs.1 ends)
order_part last (TailLine ∷ []) goods runs ends = tail_only (last ∷ []) refl
order_part last (TailLine ∷ x ∷ xs) goods runs ends = let never = runs.1.0 in absurd cc
order_part last (OrderLine o ∷ xs) goods runs ends =
    let part = order_part o.key xs goods.1 runs.1 ends in
    record {
      orders = o ∷ part.orders;
      finals = part.finals;
      goods = (goods.0, part.goods);
      final_goods = part.final_goods;
      rise = and_from (key_lt last o.key) (keys_rise (o.key ∷ map (λ o. o.key) part.orders)) runs.0 part.rise;
      finals_rise = part.finals_rise;
      whole = ap (λ (r : List Line). OrderLine o ∷ r) part.whole;
    }
order_part last xs goods runs ends = absurd cc

-- the orders after a stage in which any may come
order_first : (o : Order) (xs : List Line) → IsOrder o → OrderPart (o.key ∷ []) xs → OrderPart [] (OrderLine o ∷ xs)
order_first o xs is p = record {
  orders = o ∷ p.orders;
  finals = p.finals;
  goods = (is, p.goods);
  final_goods = p.final_goods;
  rise = p.rise;
  finals_rise = p.finals_rise;
  whole = ap (λ (r : List Line). OrderLine o ∷ r) p.whole;
}

record UnfinishedPart (front : List ℕ) (xs : List Line) : Type 0 where
  unfinished : List ℕ
  goods : AllByRecursion IsTxn unfinished
  rise : numbers_rise (front ++ unfinished) ≡ true
  rest : List Line
  part : OrderPart [] rest
  whole : xs ≡ map UnfinishedLine unfinished ++ rest

order_next : (last : ℕ) (xs : List Line) → OrderPart [] xs → UnfinishedPart (last ∷ []) xs
order_next last xs part = record { unfinished = []; goods = tt; rise = refl; rest = xs; part = part; whole = refl }

unfinished_part : (last : ℕ) (xs : List Line) → AllByRecursion IsLine xs → Run (Unfinished last) xs
    → end (Unfinished last) xs ≡ Done → UnfinishedPart (last ∷ []) xs
unfinished_part last (OrderLine o ∷ xs) goods runs ends =
    order_next last _ (order_first o xs goods.0 (order_part o.key xs goods.1 runs.1 ends))
unfinished_part last (FinalLine f ∷ xs) goods runs ends =
    order_next last _ (finals_first [] refl f xs goods.0 (final_part f.key xs goods.1 runs.1 ends))
unfinished_part last (TailLine ∷ []) goods runs ends = order_next last _ (tail_only [] refl)
unfinished_part last (TailLine ∷ x ∷ xs) goods runs ends = let never = runs.1.0 in absurd cc
unfinished_part last (UnfinishedLine t ∷ xs) goods runs ends =
    let p = unfinished_part t xs goods.1 runs.1 ends in
    record {
      unfinished = t ∷ p.unfinished;
      goods = (goods.0, p.goods);
      rise = and_from (nat_lt last t) (numbers_rise (t ∷ p.unfinished)) runs.0 p.rise;
      rest = p.rest;
      part = p.part;
      whole = ap (λ (r : List Line). UnfinishedLine t ∷ r) p.whole;
    }
unfinished_part last xs goods runs ends = absurd cc

record EventPart (e : Edition) (xs : List Line) : Type 0 where
  events : List Event
  unfinished : List ℕ
  goods : AllByRecursion IsEvent events
  unfinished_goods : AllByRecursion IsTxn unfinished
  fits : fits_edition e unfinished ≡ true
  rest : List Line
  part : OrderPart [] rest
  whole : xs ≡ map EventLine events ++ (map UnfinishedLine unfinished ++ rest)

none_fit : (e : Edition) → fits_edition e [] ≡ true
none_fit One = refl
none_fit Two = refl

order_only : (e : Edition) (xs : List Line) → OrderPart [] xs → EventPart e xs
order_only e xs part = record {
  events = [];
  unfinished = [];
  goods = tt;
  unfinished_goods = tt;
  fits = none_fit e;
  rest = xs;
  part = part;
  whole = refl;
}

unfinished_first : (t : ℕ) (xs : List Line) → IsTxn t → UnfinishedPart (t ∷ []) xs
    → EventPart Two (UnfinishedLine t ∷ xs)
unfinished_first t xs is p = record {
  events = [];
  unfinished = t ∷ p.unfinished;
  goods = tt;
  unfinished_goods = (is, p.goods);
  fits = p.rise;
  rest = p.rest;
  part = p.part;
  whole = ap (λ (r : List Line). UnfinishedLine t ∷ r) p.whole;
}

event_part : (e : Edition) (xs : List Line) → AllByRecursion IsLine xs → Run (Events e) xs
    → end (Events e) xs ≡ Done → EventPart e xs
event_part One (UnfinishedLine t ∷ xs) goods runs ends = let never = runs.0 in absurd cc
event_part Two (UnfinishedLine t ∷ xs) goods runs ends =
    unfinished_first t xs goods.0 (unfinished_part t xs goods.1 runs.1 ends)
event_part e (FinalLine f ∷ xs) goods runs ends =
    order_only e _ (finals_first [] refl f xs goods.0 (final_part f.key xs goods.1 runs.1 ends))
event_part e (TailLine ∷ []) goods runs ends = order_only e _ (tail_only [] refl)
event_part e (TailLine ∷ x ∷ xs) goods runs ends = let never = runs.1.0 in absurd cc
event_part e (OrderLine o ∷ xs) goods runs ends =
    order_only e _ (order_first o xs goods.0 (order_part o.key xs goods.1 runs.1 ends))
event_part e (EventLine v ∷ xs) goods runs ends =
    let p = event_part e xs goods.1 runs.1 ends in
    record {
      events = v ∷ p.events;
      unfinished = p.unfinished;
      goods = (goods.0, p.goods);
      unfinished_goods = p.unfinished_goods;
      fits = p.fits;
      rest = p.rest;
      part = p.part;
      whole = ap (λ (r : List Line). EventLine v ∷ r) p.whole;
    }
event_part e xs goods runs ends = absurd cc

-- the history that a run holds
record Holds (xs : List Line) : Type 0 where
  history : History
  is : IsHistory history
  whole : xs ≡ items_of history

history_in : (e : Edition) (xs : List Line) → EventPart e xs → Holds (HeadLine e ∷ xs)
history_in e xs p =
    let h : History = record {
      edition = e;
      events = p.events;
      unfinished = p.unfinished;
      orders = p.part.orders;
      finals = p.part.finals;
    } in
    record {
      history = h;
      is = record {
        edition = p.fits;
        unfinished = p.unfinished_goods;
        events = p.goods;
        orders = p.part.goods;
        orders_rise = p.part.rise;
        finals = p.part.final_goods;
        finals_rise = p.part.finals_rise;
      };
      whole = ap (λ (r : List Line). HeadLine e ∷ r)
          (p.whole
          ∙ ap (λ (r : List Line). map EventLine p.events ++ (map UnfinishedLine p.unfinished ++ r)) p.part.whole);
    }

held_by : (xs : List Line) → AllByRecursion IsLine xs → Run Head xs → end Head xs ≡ Done → Holds xs
held_by (HeadLine e ∷ xs) goods runs ends = history_in e xs (event_part e xs goods.1 runs.1 ends)
held_by xs goods runs ends = absurd cc

are_lines : (h : History) (lines : List (List ℕ)) → HasRun history_machine Done h lines → AreHistoryLines lines
are_lines h lines run =
    let held = held_by run.items run.goods run.runs run.ends in
    (held.history, held.is, run.same ∙ ap (map line_text) held.whole ∙ items_texts held.history)

-- ---- the machine

-- the tail may come after the head
goes_on : (s : Stage) → GoesOn history_machine s
goes_on Head =
    record { more = HeadLine One ∷ TailLine ∷ []; goods = (tt, (tt, tt)); runs = (refl, (refl, tt)); ends = refl }
goes_on Done = record { more = []; goods = tt; runs = tt; ends = refl }
goes_on s = record { more = TailLine ∷ []; goods = (tt, tt); runs = (refl, tt); ends = refl }

pub is_machine : IsMachineOf history_machine IsHistory history_lines
is_machine = record { run_of = run_of; are_lines = are_lines; goes_on = goes_on; stays = λ x ok. cc }
