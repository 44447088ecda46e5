-- What is read of a text in JSON.
use Rattle.std.proofs.Common.{◌≡◌, ◌≢◌, ◌⊎◌, ◌==◌, ℕ, Bool, true, false, ◌+◌, ◌-◌, ◌^◌, ◌<◌, min, List, [], ◌∷◌, ◌++◌, length, take, drop, get_or, map, Option, Some, None, refl, sym, ap, subst, ◌∙◌, inl, inr, append_assoc, Result, Ok, Err}
use Rattle.std.specs.Prelude.{IfErr, IfOk, IsUtf8}
use Rattle.std.specs.Bool.{MatchBool}
use Rattle.std.proofs.lemmas.List.{append-nil, nil_from_length}
use Rattle.std.proofs.lemmas.Bool.{eqb-true}
use Rattle.edn.specs.Meaning.Forms.{Form}
use Rattle.serde_json.specs.Data.{Data}
use Rattle.serde_json.specs.Read.{read}
use Rattle.serde_json.specs.View.{items_view, view}
use Rattle.serde_json.specs.declared.value.Value.{Value}
use Rattle.append_text.specs.declared.collector.Collector.{Collector}
use Rattle.append_text.specs.declared.history.History.{History}
use Rattle.append_text.specs.declared.read_fault.Place.TheVariants.{Line, Element}
use Rattle.append_text.specs.declared.read_fault.Problem.TheVariants as problem
use Rattle.append_text.specs.declared.read_fault.ReadFault.{ReadFault}
use Rattle.append_text.specs.declared.read_fault.ReadFault.TheVariants.{Text, Device, Memory}
use Rattle.append_text.specs.declared.read_fault.Refusal.{Refusal}
use Rattle.append_text.specs.declared.read_fault.Refusal.TheVariants as refusal
use Rattle.append_text.specs.declared.text_form.TextForm.{TextForm}
use Rattle.append_text.specs.declared.text_form.TextForm.TheVariants.{Edn, Json}
use Rattle.append_text.specs.Meaning.Json.{form_of}
use Rattle.append_text.specs.Meaning.JsonTexts.{elements_in, IsFaultIn, AreLines, IsValue, IsJson, IsJsonFaultOf, IsJsonHistoryOf, IsLine, IsNoJson, IsWrongInValue, IsWrongInLines, is_value, blank, no_lines, one_more}
use Rattle.append_text.specs.Meaning.Lines.{lines}
use Rattle.append_text.specs.Meaning.Notations.{after_blanks}
use Rattle.append_text.specs.Meaning.Texts.{IsFaultOf, AreAllowed, IsHistory, counted}
use Rattle.append_text.specs.Machinery.BufferTexts.{TakesLine}
use Rattle.append_text.specs.Machinery.Collectors.{HasCollected, IsRefusedAfter}
use Rattle.append_text.specs.Machinery.EdnFaults.{fault_at}
use Rattle.append_text.specs.Machinery.JsonReading.{AreRefusedLines, IsRefusedValue, IsRefusedElement, IsRefusedLine, SaysNothing}
use Rattle.append_text.proofs.Collecting.{counted_more, counted_push, counted_zero}
use Rattle.append_text.proofs.Elements.{place_there, split_there}
use Rattle.append_text.proofs.JsonForms.{listed_items}

-- ---- texts of one value

apart : {X : Type 0} (o : Option X) (x : X) → o ≡ None → o ≡ Some x → ⊥
apart o x none some = cc

same_some : {X : Type 0} (o : Option X) (x y : X) → o ≡ Some x → o ≡ Some y → x ≡ y
same_some o x y one other = cc

pub none_json : (text : List ℕ) → (IsUtf8 text → read text ≡ None) → IsNoJson text
none_json text none d (utf8, is) = apart (read text) d (none utf8) is

-- a value with elements
pub value_text : (text : List ℕ) (d : Data) (vs : List Value) → IsUtf8 text → read text ≡ Some d → Some (items_view vs) ≡ elements_in d
    → IsValue text (map (λ v. form_of (view v)) vs)
value_text text d vs utf8 is elements = (d, items_view vs, (utf8, is), sym elements, sym (listed_items vs))

pub other_text : (text : List ℕ) (d : Data) → read text ≡ Some d → elements_in d ≡ None → (fs : List Form) → IsValue text fs → ⊥
other_text text d is none fs (e, ds, (utf8, also), has, are) =
    apart (elements_in d) ds none (ap elements_in (same_some (read text) d e is also) ∙ has)

pub no_value : (text : List ℕ) → IsNoJson text → (fs : List Form) → IsValue text fs → ⊥
no_value text none fs (d, ds, is, has, are) = none d is

-- ---- faults

pub nothing_value : (text : List ℕ) (e : ReadFault) → SaysNothing e → IsRefusedValue text e
nothing_value text (Text place p) says = absurd says
nothing_value text Device says = tt
nothing_value text Memory says = tt

pub nothing_lines : (text : List ℕ) (e : ReadFault) → SaysNothing e → AreRefusedLines text e
nothing_lines text (Text place p) says = absurd says
nothing_lines text Device says = tt
nothing_lines text Memory says = tt

-- a text that is none of JSON, or memory ran out
abbrev pub IsFaultOn : ℕ → Type 0 → ReadFault → Type 0
IsFaultOn line IsMemory e = (IsMemory × (e ≡ Memory)) ⊎ (¬ IsMemory × (e ≡ Text (Line line) problem.Json))

pub no_json_value : (text : List ℕ) (IsMemory : Type 0) (line : ℕ) (e : ReadFault) → IsFaultOn line IsMemory e
    → (¬ IsMemory → IsUtf8 text → read text ≡ None) → IsRefusedValue text e
no_json_value text IsMemory line e (inl (memory, is)) none = subst (IsRefusedValue text) (sym is) tt
no_json_value text IsMemory line e (inr (other, is)) none =
    subst (IsRefusedValue text) (sym is) (refl, no_value text (none_json text (none other)))

-- the fault of an element is that of the array
pub element_fault : (text : List ℕ) (fs : List Form) (e : ReadFault) → IsValue text fs → IsRefusedElement fs e → IsRefusedValue text e
element_fault text fs (Text (Line n) p) is wrong = absurd wrong
element_fault text fs (Text (Element k) p) is wrong = (fs, is, wrong)
element_fault text fs Device is wrong = absurd wrong
element_fault text fs Memory is wrong = tt

-- ---- elements

abbrev pub forms_in : List Value → List Form
forms_in vs = map (λ v. form_of (view v)) vs

pub refused_element : (vs : List Value) (k : ℕ) (v : Value) (r : Refusal) → k < length vs → v ≡ get_or vs k v
    → IsRefusedAfter Json (forms_in (take k vs)) (form_of (view v)) r → IsRefusedElement (forms_in vs) (fault_at (Element k) r)
refused_element vs k v (refusal.Problem p) within is wrong = record {
  before = forms_in (take k vs);
  form = form_of (view v);
  after = forms_in (drop (k + 1) vs);
  split = split_there (λ w. form_of (view w)) vs k v within is;
  place_is = place_there (λ w. form_of (view w)) vs k v within is;
  wrong = wrong;
}
refused_element vs k v refusal.Memory within is wrong = tt

-- ---- a line

pub blank_line : (line rest : List ℕ) → rest ≡ after_blanks line → (length rest == 0) ≡ true → IsLine line []
blank_line line rest is empty = blank (sym is ∙ nil_from_length rest (eqb-true (length rest) 0 empty))

not_blank : (line rest : List ℕ) → rest ≡ after_blanks line → (length rest == 0) ≡ false → after_blanks line ≢ []
not_blank line rest is some none = let e : rest ≡ [] = is ∙ none in let t : (length rest == 0) ≡ true = ap (λ r. length r == 0) e in cc

pub no_json_line : (number : ℕ) (fs : List Form) (line rest : List ℕ) (IsMemory : Type 0) (e : ReadFault) → AreAllowed Json fs
    → rest ≡ after_blanks line → (length rest == 0) ≡ false → IsFaultOn number IsMemory e
    → (¬ IsMemory → IsUtf8 line → read line ≡ None) → IsRefusedLine number fs line e
no_json_line number fs line rest IsMemory e are begun some (inl (memory, is)) none = subst (IsRefusedLine number fs line) (sym is) tt
no_json_line number fs line rest IsMemory e are begun some (inr (other, is)) none =
    subst (IsRefusedLine number fs line) (sym is)
    (refl, inl (refl, are, not_blank line rest begun some, none_json line (none other)))

pub refused_line : (number : ℕ) (fs : List Form) (line : List ℕ) (d : Data) (r : Refusal) → IsJson line d
    → IsRefusedAfter Json fs (form_of d) r → IsRefusedLine number fs line (fault_at (Line number) r)
refused_line number fs line d (refusal.Problem p) is wrong = (refl, inr (d, is, wrong))
refused_line number fs line d refusal.Memory is wrong = tt

-- ---- lines

-- these lines of the text were read, and what they say was collected
pub record HaveRead (text rest : List ℕ) (number : ℕ) (c : Collector) : Type 0 where
  pub done : List (List ℕ)
  pub split : lines text ≡ done ++ lines rest
  pub number_is : number ≡ counted (length done)
  pub forms : List Form
  pub say : AreLines done forms
  pub collected : HasCollected Json forms c

module _ (text rest more line : List ℕ) (number later : ℕ) (old : Collector) (have : HaveRead text rest number old)
    (takes : TakesLine true rest line more) (counts : later ≡ min (number + 1) (2 ^ 64 - 1)) where
  pub read_line : (new : Collector) → ((fs : List Form) → HasCollected Json fs old
      → (gs : List Form) × IsLine line gs × HasCollected Json (fs ++ gs) new) → HaveRead text more later new
  read_line new took =
      let (gs, is, collected) = took have.forms have.collected in
      record {
        done = have.done ++ line ∷ [];
        split = have.split ∙ ap (λ ls. have.done ++ ls) takes ∙ sym (append_assoc have.done (line ∷ []) (lines more));
        number_is = counts ∙ ap (λ n. min (n + 1) (2 ^ 64 - 1)) have.number_is ∙ counted_push have.done line;
        forms = have.forms ++ gs;
        say = one_more have.say is;
        collected = collected;
      }

  pub wrong_line : (e : ReadFault) → ((fs : List Form) → HasCollected Json fs old → IsRefusedLine later fs line e) → AreRefusedLines text e
  wrong_line e refused = by e (refused have.forms have.collected)
    where
      by : (e : ReadFault) → IsRefusedLine later have.forms line e → AreRefusedLines text e
      by (Text (Line n) p) (here, wrong) = record {
        before = have.done;
        line = line;
        after = lines more;
        split = have.split ∙ ap (λ ls. have.done ++ ls) takes;
        number_is = here ∙ counts ∙ ap (λ n. min (n + 1) (2 ^ 64 - 1)) have.number_is ∙ counted_more (length have.done);
        forms = have.forms;
        say = have.say;
        wrong = wrong;
      }
      by (Text (Element k) p) wrong = absurd wrong
      by Device wrong = tt
      by Memory wrong = tt

pub all_lines : (text rest line more : List ℕ) (number : ℕ) (c : Collector) (have : HaveRead text rest number c)
    → TakesLine false rest line more → AreLines (lines text) have.forms
all_lines text rest line more number c have none =
    subst (λ ls. AreLines ls have.forms) (sym (have.split ∙ ap (λ ls. have.done ++ ls) none ∙ append-nil have.done)) have.say

pub read_none : (text : List ℕ) (c : Collector) → HasCollected Json [] c → HaveRead text text 0 c
read_none text c collected =
    record { done = []; split = refl; number_is = counted_zero; forms = []; say = no_lines; collected = collected }

-- ---- either

match_true : (b : Bool) (P Q : Type 0) → b ≡ true → P → MatchBool b P Q
match_true true P Q is p = p
match_true false P Q is p = absurd cc

match_false : (b : Bool) (P Q : Type 0) → b ≡ false → Q → MatchBool b P Q
match_false true P Q is q = absurd cc
match_false false P Q is q = q

module _ (text : List ℕ) where
  pub value_history : (r : Result History ReadFault) → is_value text ≡ true
      → IfOk r (λ h. (fs : List Form) × IsValue text fs × IsHistory Json fs h) → IfOk r (IsJsonHistoryOf text)
  value_history (Ok h) is (fs, are, history) =
      (fs, match_true (is_value text) (IsValue text fs) (AreLines (lines text) fs) is are, history)
  value_history (Err e) is history = tt

  pub value_fault : (r : Result History ReadFault) → is_value text ≡ true → IfErr r (IsRefusedValue text) → IfErr r (IsJsonFaultOf text)
  value_fault (Ok h) is wrong = tt
  value_fault (Err (Text place p)) is wrong =
      match_true (is_value text) (IsWrongInValue text place p) (IsWrongInLines text place p) is wrong
  value_fault (Err Device) is wrong = tt
  value_fault (Err Memory) is wrong = tt

  pub lines_history : (r : Result History ReadFault) → is_value text ≡ false
      → IfOk r (λ h. (fs : List Form) × AreLines (lines text) fs × IsHistory Json fs h) → IfOk r (IsJsonHistoryOf text)
  lines_history (Ok h) is (fs, say, history) =
      (fs, match_false (is_value text) (IsValue text fs) (AreLines (lines text) fs) is say, history)
  lines_history (Err e) is history = tt

  pub lines_fault : (r : Result History ReadFault) → is_value text ≡ false → IfErr r (AreRefusedLines text) → IfErr r (IsJsonFaultOf text)
  lines_fault (Ok h) is wrong = tt
  lines_fault (Err (Text place p)) is wrong =
      match_false (is_value text) (IsWrongInValue text place p) (IsWrongInLines text place p) is wrong
  lines_fault (Err Device) is wrong = tt
  lines_fault (Err Memory) is wrong = tt

  -- the history of the elements is that of the array
  pub elements_history : (r : Result History ReadFault) (fs : List Form) → IsValue text fs → IfOk r (IsHistory Json fs)
      → IfOk r (λ h. (gs : List Form) × IsValue text gs × IsHistory Json gs h)
  elements_history (Ok h) fs is history = (fs, is, history)
  elements_history (Err e) fs is history = tt

  pub elements_fault : (r : Result History ReadFault) (fs : List Form) → IsValue text fs → IfErr r (IsRefusedElement fs)
      → IfErr r (IsRefusedValue text)
  elements_fault (Ok h) fs is wrong = tt
  elements_fault (Err e) fs is wrong = element_fault text fs e is wrong

pub device_in : (n : TextForm) (text : List ℕ) (e : ReadFault) → e ≡ Device → IsFaultIn n text e
device_in Edn text e is = subst (IsFaultOf text) (sym is) tt
device_in Json text e is = subst (IsJsonFaultOf text) (sym is) tt
