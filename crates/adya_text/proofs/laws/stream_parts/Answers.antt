use Rattle.adya_text.proofs.StreamParts.{cut_after_end, part_of_all}
use Rattle.adya_text.proofs.laws.stream_parts.Goals as goal

pub returns-clause-cut : goal.returns-clause-cut
returns-clause-cut c = cut_after_end

pub returns-clause-whole : goal.returns-clause-whole
returns-clause-whole c = part_of_all
