-- What a collector holds of the forms that it took.
use Rattle.std.specs.Prelude.{◌≡◌, List, length}
use Rattle.edn.specs.Meaning.Forms.{Form}
use Rattle.append_text.specs.declared.collector.Collector.{Collector}
use Rattle.append_text.specs.declared.read_fault.Refusal.{Refusal}
use Rattle.append_text.specs.declared.read_fault.Refusal.TheVariants as refusal
use Rattle.append_text.specs.declared.text_form.TextForm.{TextForm}
use Rattle.append_text.specs.Meaning.Pairing.{Op}
use Rattle.append_text.specs.Meaning.Texts.{AreNumbered, ArePassed, IsWrongAfter, counted}
use Rattle.append_text.specs.Machinery.Pairings.{HasTaken}

-- the collector took these forms
pub record HasCollected (n : TextForm) (fs : List Form) (c : Collector) : Type 0 where
  pub ops : List Op
  pub passed : List Form
  pub numbered : AreNumbered n c.names.kept.keys fs passed ops
  pub paired : HasTaken c.pairing ops
  pub taken : c.taken ≡ counted (length fs)
  pub passed_over : ArePassed n passed c.passed_over

-- the form is refused after these
abbrev pub IsRefusedAfter : TextForm → List Form → Form → Refusal → Type 0
IsRefusedAfter n fs f (refusal.Problem p) = IsWrongAfter n fs f p
IsRefusedAfter n fs f refusal.Memory = Unit {0}
