use Rattle.adya_audit.proofs.laws.accepted_is_serializable.Goals as goal

pub returns : goal.returns
returns c = λ h ts shape a.
    record {
      no_g1 = (c.accepted_has_no_phenomenon.ensures h ts a).0;
      no_g2 = (c.accepted_has_no_phenomenon.ensures h ts a).1;
      agrees = c.accepted_agrees.ensures h ts shape a;
    }
