use Rattle.std.proofs.lemmas.Bool.{and_parts}
use Rattle.adya_rules.proofs.WellFormed.{well_formed_when_unbroken, unbroken_when_well_formed}
use Rattle.adya_rules.proofs.first_faults.well_formed_iff_unbroken.Goals as goal

pub returns : goal.returns
returns c h shape =
    let both = and_parts _ _ shape in
    (well_formed_when_unbroken h, λ w. unbroken_when_well_formed h w (and_parts _ _ both.0).1 both.1)
