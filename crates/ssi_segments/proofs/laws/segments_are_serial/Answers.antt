use Rattle.ssi_segments.proofs.Chains.{are_serial}
use Rattle.ssi_segments.proofs.laws.segments_are_serial.Goals as goal

pub returns : goal.returns
returns c = are_serial c.accepted_agrees.ensures c.commits_are_listed.ensures c.dumped_are_covered.ensures.commit_order
    c.finished_are_covered.ensures.commit_order c.finals_are_contents.ensures
