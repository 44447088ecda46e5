use Rattle.std.proofs.Common.{ap, sym, ◌∙◌}
use Rattle.adya_values.specs.Mirror.Events.{content_of}
use Rattle.adya_values.specs.Meaning.Events.{shown, visible}
use Rattle.adya_values.specs.Meaning.Serial.{visible_pair_of}
use Rattle.ssi_recorder.proofs.Ranks.{last_value}
use Rattle.ssi_recorder.proofs.installs.final_pair.Goals as goal

pub returns-in-Live : goal.returns-in-Live
returns-in-Live c =
    sym (ap (λ o. visible_pair_of c.args.key (shown o)) (last_value c.args.line.now.entries _ c.in_ok-last.ensures.last) ∙ ap (λ x. visible_pair_of c.args.key (visible (content_of x))) c.in-Live.is)

pub returns-in-Dead : goal.returns-in-Dead
returns-in-Dead c =
    sym (ap (λ o. visible_pair_of c.args.key (shown o)) (last_value c.args.line.now.entries _ c.in_ok-last.ensures.last) ∙ ap (λ x. visible_pair_of c.args.key (visible (content_of x))) c.in-Dead.is)
