use Rattle.std.proofs.Common.{[], ◌∙◌}
use Rattle.append_text.specs.Meaning.Texts.{no_forms, no_operations}
use Rattle.append_text.proofs.Collecting.{counted_zero}
use Rattle.append_text.proofs.collector.Collector.new.Goals as goal

pub returns : goal.returns
returns c = λ notation. record {
  ops = [];
  passed = [];
  numbered = record { said = []; operations = no_forms; numbered = tt; in_order = no_operations };
  paired = c.new-2.ensures;
  taken = counted_zero;
  passed_over = record {
    other_function = c.new-3.ensures.function ∙ counted_zero;
    other_process = c.new-3.ensures.process ∙ counted_zero;
  };
}
