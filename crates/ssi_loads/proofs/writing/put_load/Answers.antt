use Rattle.ssi_loads.proofs.Texts.{grown, load_written}
use Rattle.ssi_loads.proofs.writing.put_load.Goals as goal

pub returns-clause-grown : goal.returns-clause-grown
returns-clause-grown c =
    grown c.extend_from_slice-2.result c.put_rows.new.text.items c.extend_from_slice-2.new.self.items _ _
    c.extend_from_slice-2.ensures.items
    (load_written c.args.text.now.items c.extend_from_slice.new.self.items c.put_rows.new.text.items c.args.rows.now
    c.in_ok-extend_from_slice.ensures.items c.in_ok-put_rows.ensures.grown)
