use Rattle.ssi_data.proofs.LastSegment.{greatest}
use Rattle.ssi_data.proofs.segment.last_of.Goals as goal

pub returns-in-Some : goal.returns-in-Some
returns-in-Some g c =
    greatest c.args.numbers.now c.in-Some.number.now c.args.folder.now.directory.calls.events c.in-Some.ensures.member
    c.in-Some.ensures.greatest
