-- What a run over command lines in memory leaves gets a yes.
use Rattle.std.proofs.Common.{◌≡◌, ◌⊎◌, ℕ, List, [], ◌++◌, append_assoc, Option, Some, None, sym, ◌∙◌, ap, subst, inl, inr}
use Rattle.std.proofs.lemmas.List.{append-nil}
use Rattle.std.specs.Io.KnownBytes.{Appends, Consumes, IsAtEnd}
use Rattle.devices.specs.declared.watched.Watched.{Watched}
use Rattle.devices.specs.Clauses.Writing.{Grew}
use Rattle.adya_line.specs.Meaning.Lines.{IsPlain}
use Rattle.adya_text.specs.Meaning.Texts.{history_text, serial_text, with_ends}
use Rattle.adya_audit.specs.Meaning.Verdicts.{Yes}
use Rattle.adya_audit.specs.Clauses.TextVerdicts.{IsVerdictOn}
use Rattle.adya_audit.specs.Laws.Texts.{AcceptedTextsGetYes}
use Rattle.ssi_line.specs.Meaning.Steps.{Step, Stopped, steps_text, AllGoOn, EndsWith}
use Rattle.ssi_line.specs.Clauses.Ends.{EndsAs}
use Rattle.ssi_line.specs.declared.end.End.{End}
use Rattle.ssi_line.specs.declared.end.End.TheVariants.{Eof, Stop}
use Rattle.ssi_cli.specs.Clauses.Scripts.{Ran, Certified, course_of}
use Rattle.headline.specs.Headline.{GetsYes}

-- a device that held nothing holds what was written to it
pub written : {D : Type 0} (contents : D → Option (List ℕ)) (old new : Watched D) (text bytes : List ℕ) → contents old.device ≡ Some []
    → contents new.device ≡ Some bytes → Grew contents old new text → bytes ≡ text
written contents old new text bytes blank held grew =
    subst (λ o. Appends (Some []) o text) held (subst (λ o. Appends o (contents new.device) text) blank grew.appends)

-- the bytes of an input whose front was taken
record Split (input front : List ℕ) (left : Option (List ℕ)) : Type 0 where
  rest : List ℕ
  is : input ≡ front ++ rest
  at_end : IsAtEnd left → rest ≡ []

split : (input front : List ℕ) (left : Option (List ℕ)) → Consumes (Some input) left front → Split input front left
split input front None consumed = absurd consumed
split input front (Some rest) consumed = record { rest = rest; is = consumed; at_end = λ e. e }

-- what a run that no fault ended says of the rest of its input and of what it wrote
record Ended {D : Type 0} (contents : D → Option (List ℕ)) (steps : List Step) (after : List ℕ) (left : Option (List ℕ)) (old new : Watched D) : Type 0 where
  text : Grew contents old new (steps_text steps)
  how : ((AllGoOn steps × IsPlain after) × IsAtEnd left) ⊎ EndsWith steps Stopped

ended : {D : Type 0} (contents : D → Option (List ℕ)) (steps : List Step) (after : List ℕ) (left : Option (List ℕ)) (old new : Watched D)
    (end : End) → (end ≡ Eof) ⊎ (end ≡ Stop) → EndsAs end contents steps after left old new → Ended contents steps after left old new
ended contents steps after left old new end (inl e) ends =
    let as_eof : EndsAs Eof contents steps after left old new = subst (λ x. EndsAs x contents steps after left old new) e ends in
    record { text = as_eof.0.written; how = inl ((as_eof.0.go_on, as_eof.0.unfinished), as_eof.1) }
ended contents steps after left old new end (inr e) ends =
    let as_stop : EndsAs Stop contents steps after left old new = subst (λ x. EndsAs x contents steps after left old new) e ends in
    record { text = as_stop.1; how = inr as_stop.0 }

module _ {D H C : Type 0} (contents : D → Option (List ℕ)) (in_history : H → Option (List ℕ)) (in_certificate : C → Option (List ℕ))
    (known left : Option (List ℕ)) (old new : Watched D) (old_history new_history : Watched H)
    (old_certificate new_certificate : Watched C) where
  pub gets_yes : AcceptedTextsGetYes → (input replies history certificate : List ℕ) → (ran : Ran contents known left old new)
      → (ran.end ≡ Eof) ⊎ (ran.end ≡ Stop)
      → Certified (course_of ran) in_history old_history new_history in_certificate old_certificate new_certificate
      → known ≡ Some input → contents old.device ≡ Some [] → contents new.device ≡ Some replies
      → in_history old_history.device ≡ Some [] → in_history new_history.device ≡ Some history
      → in_certificate old_certificate.device ≡ Some [] → in_certificate new_certificate.device ≡ Some certificate
      → GetsYes input replies history certificate
  gets_yes law input replies history certificate ran how run reads blank given blank_h given_h blank_c given_c =
      let front = with_ends ran.lines ++ ran.after in
      let parts = split input front left (subst (λ o. Consumes o left front) reads ran.took.consumed) in
      let end = ended contents ran.steps ran.after left old new ran.end how ran.ends in
      let history_is : history ≡ history_text run.history =
      written in_history old_history new_history (history_text run.history) history blank_h given_h run.history_written in
      let certificate_is : certificate ≡ serial_text run.certificate =
      written in_certificate old_certificate new_certificate (serial_text run.certificate) certificate blank_c given_c run.certificate_written in
      let yes_is : IsVerdictOn (history_text run.history) (serial_text run.certificate) Yes =
      law (history_text run.history) (serial_text run.certificate) run.texts in
      record {
        lines = ran.lines;
        steps = ran.steps;
        rest = ran.after ++ parts.rest;
        input_is = parts.is ∙ append_assoc (with_ends ran.lines) ran.after parts.rest;
        plain = ran.took.plain;
        made = ran.took.made;
        follow = ran.follow;
        ended = elim end.how [
          | inl open' ↦
              let rest_is = ap (λ ys. ran.after ++ ys) (parts.at_end open'.1) ∙ append-nil ran.after in
              inl (open'.0.0, subst IsPlain (sym rest_is) open'.0.1)
          | inr stopped ↦ inr stopped
        ];
        replies_are = written contents old new (steps_text ran.steps) replies blank given end.text;
        recorded = run.history;
        records = run.records;
        history_is = history_is;
        yes =
            subst (λ h. IsVerdictOn h certificate Yes) (sym history_is)
            (subst (λ s. IsVerdictOn (history_text run.history) s Yes) (sym certificate_is) yes_is);
      }
