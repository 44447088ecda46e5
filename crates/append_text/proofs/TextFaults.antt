-- The faults of texts in EDN.
use Rattle.std.proofs.Common.{◌≡◌, ◌⊎◌, Bool, true, ℕ, ◌+◌, ◌<◌, List, [], ◌∷◌, ◌++◌, length, take, drop, get_or, map, Option, Some, refl, sym, ap, subst, ◌∙◌, inl, inr}
use Rattle.std.specs.Prelude.{flat_map}
use Rattle.std.proofs.lemmas.Option.{same_Some}
use Rattle.edn.specs.declared.read_fault.ReadFault.{ReadFault as EdnFault}
use Rattle.edn.specs.declared.read_fault.ReadFault.TheVariants as edn
use Rattle.edn.specs.declared.reader.Reader.{Reader}
use Rattle.edn.specs.declared.reader.Stage.{Stage}
use Rattle.edn.specs.declared.reader.Stage.TheVariants.{Failed}
use Rattle.edn.specs.Meaning.Blame.{IsFaultOf as IsEdnFaultOf}
use Rattle.edn.specs.Meaning.Forms.{Form, list, forms_of}
use Rattle.edn.specs.Meaning.Readers.{line_read}
use Rattle.edn.specs.Meaning.Texts.{AreSoFar, HasFailed, HasNotFailed, HasRead, at_start, outside, inside}
use Rattle.edn.specs.Meaning.Tokens.{Token}
use Rattle.append_text.specs.declared.read_fault.Place.TheVariants.{Line, Element}
use Rattle.append_text.specs.declared.read_fault.ReadFault.{ReadFault}
use Rattle.append_text.specs.declared.read_fault.ReadFault.TheVariants.{Text, Device, Memory}
use Rattle.append_text.specs.declared.read_fault.Refusal.{Refusal}
use Rattle.append_text.specs.declared.read_fault.Refusal.TheVariants as refusal
use Rattle.append_text.specs.declared.text_form.TextForm.TheVariants.{Edn}
use Rattle.append_text.specs.Meaning.Data.{parts}
use Rattle.append_text.specs.Meaning.Texts.{EndsOn, IsFaultOf}
use Rattle.append_text.specs.Machinery.Collectors.{IsRefusedAfter}
use Rattle.append_text.specs.Machinery.EdnFaults.{IsRefusedForm, IsRefusedListed, IsWrongElement, fault_at, of_edn}
use Rattle.append_text.proofs.Elements.{place_there, split_there}

pub edn_fault : (text : List ℕ) (e : EdnFault) → IsEdnFaultOf text e → IsFaultOf text (of_edn e)
edn_fault text (edn.Syntax line p) is = inl (p, refl, is)
edn_fault text edn.Device is = tt
edn_fault text edn.Memory is = tt

pub ends_on : (text : List ℕ) (fs : List Form) (r : Reader) (left : Option (List ℕ)) → HasRead text fs r left
    → EndsOn text fs (line_read r)
ends_on text fs r left h =
    let (ts, rest, lexes, forms, goes_on) = h.so_far in
    let (front, other, split, same, line) = h.line in
    record {
      stage = r.stage;
      tokens = ts;
      front = front;
      rest = rest;
      split = split ∙ ap (λ o. front ++ o) (same_Some other rest (sym same ∙ goes_on));
      lexes = lexes;
      forms = forms;
      line_is = line;
    }

-- a form that is refused after these is a fault of the text
pub form_fault : (text : List ℕ) (fs : List Form) (f : Form) (line : ℕ) (e : ReadFault) → EndsOn text (fs ++ f ∷ []) line
    → IsRefusedForm (flat_map parts fs) f line e → IsFaultOf text e
form_fault text fs f line (Text (Line end) p) ends (same, one, wrong) = inr (record {
  before = fs;
  form = f;
  ends = subst (EndsOn text (fs ++ f ∷ [])) (sym same) ends;
  one = one;
  wrong = wrong;
})
form_fault text fs f line (Text (Element k) p) ends (elements, is, there) = record {
  before = fs;
  front = there.front;
  form = there.form;
  back = there.back;
  line = line;
  ends = subst (λ g. EndsOn text (fs ++ g ∷ []) line) (is ∙ ap (λ gs. list (forms_of gs)) there.split) ends;
  place_is = there.place_is;
  wrong = there.wrong;
}
form_fault text fs f line Device ends refused = absurd refused
form_fault text fs f line Memory ends refused = tt

pub one_refused : (fs : List Form) (f : Form) (line : ℕ) (e : Refusal) → parts f ≡ f ∷ [] → IsRefusedAfter Edn fs f e
    → IsRefusedForm fs f line (fault_at (Line line) e)
one_refused fs f line (refusal.Problem p) one wrong = (refl, one, wrong)
one_refused fs f line refusal.Memory one wrong = tt

pub listed_refused : (fs listed elements : List Form) (f : Form) (line : ℕ) (e : ReadFault) → f ≡ list (forms_of listed) → elements ≡ listed
    → IsRefusedListed fs elements e → IsRefusedForm fs f line e
listed_refused fs listed elements f line (Text (Line end) p) is same refused = absurd refused
listed_refused fs listed elements f line (Text (Element k) p) is same refused =
    (listed, is, subst (λ gs. IsWrongElement fs gs k p) same refused)
listed_refused fs listed elements f line Device is same refused = absurd refused
listed_refused fs listed elements f line Memory is same refused = tt

module _ {X : Type 0} (form : X → Form) (xs : List X) (k : ℕ) (x : X) (within : k < length xs) (is : x ≡ get_or xs k x) where
  pub element_refused : (fs : List Form) (e : Refusal) → IsRefusedAfter Edn (fs ++ map form (take k xs)) (form x) e
      → IsRefusedListed fs (map form xs) (fault_at (Element k) e)
  element_refused fs (refusal.Problem p) wrong = record {
    front = map form (take k xs);
    form = form x;
    back = map form (drop (k + 1) xs);
    split = split_there form xs k x within is;
    place_is = place_there form xs k x within is;
    wrong = wrong;
  }
  element_refused fs refusal.Memory wrong = tt

goes_on : {stage : Stage} {ts : List Token} {fs : List Form} (e : EdnFault) → AreSoFar stage ts fs → stage ≡ Failed e → ⊥
goes_on e at_start is = cc
goes_on e (outside other forms) is = cc
goes_on e (inside forms) is = cc

-- a reader that has read nothing of its text so far has not failed
pub begun_unfailed : (front : List ℕ) (r : Reader) → ((text : List ℕ) → HasRead (front ++ text) [] r (Some text)) → HasNotFailed r
begun_unfailed front r begins e failed = let (ts, rest, lexes, forms, same) = (begins []).so_far in goes_on e forms failed

-- the source has, if the device is blamed and the reader hadn't failed
pub device_blamed : (failed : Bool) (r : Reader) (e : EdnFault) → (e ≡ edn.Device → HasFailed r e ⊎ (failed ≡ true)) → (HasFailed r e → ⊥)
    → of_edn e ≡ Device → failed ≡ true
device_blamed failed r (edn.Syntax line p) said not is = absurd cc
device_blamed failed r edn.Device said not is = elim (said refl) [ inl f ↦ absurd (not f) | inr e ↦ e ]
device_blamed failed r edn.Memory said not is = absurd cc

-- no device is blamed for a form
pub not_device : (fs : List Form) (f : Form) (line : ℕ) (e : ReadFault) → IsRefusedForm fs f line e → e ≡ Device → ⊥
not_device fs f line (Text (Line end) p) refused is = cc
not_device fs f line (Text (Element k) p) refused is = cc
not_device fs f line Device refused is = refused
not_device fs f line Memory refused is = cc
