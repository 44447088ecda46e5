use Rattle.std.proofs.Common.{◌∙◌}
use Rattle.ssi_loads.proofs.Texts.{grown, header_written}
use Rattle.ssi_loads.proofs.writing.put_header.Goals as goal

pub returns : goal.returns
returns c =
    grown c.extend_from_slice-3.result c.extend_from_slice-2.new.self.items c.extend_from_slice-3.new.self.items _ _
    c.extend_from_slice-3.ensures.items
    (header_written c.args.number c.args.text.now.items c.extend_from_slice.new.self.items
    c.extend_from_slice-2.new.self.items c.as_bytes.result.now c.in_ok-extend_from_slice.ensures.items
    c.in_ok-extend_from_slice-2.ensures.items (c.as_bytes.ensures.value ∙ c.format.ensures.text))
