use Rattle.std.proofs.Common.{[]}
use Rattle.std.proofs.lemmas.List.Elements.{recursion_from_All, All-from_recursion}
use Rattle.ssi_durable.specs.Meaning.Lines.{whole_lines, torn}
use Rattle.ssi_durable.proofs.WholeLines.{falls, all_plain, from_all_plain, lines_are}
use Rattle.ssi_durable.proofs.laws.texts_fall_into_lines.Goals as goal

pub returns : goal.returns
returns c = record {
  parts = λ text. (falls [] text tt).parts;
  whole = λ text. all_plain (whole_lines text) (falls [] text tt).lines;
  unfinished = λ text. All-from_recursion _ (torn text) (falls [] text tt).rest;
  only = λ lines rest plain none. lines_are lines rest (from_all_plain lines plain) (recursion_from_All _ rest none);
}
