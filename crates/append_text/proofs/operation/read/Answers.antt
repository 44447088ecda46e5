use Rattle.append_text.proofs.Readings.{read_read}
use Rattle.append_text.proofs.operation.read.Goals as goal

pub returns : goal.returns
returns g c = read_read c.args.names.now.kept.keys c.number.new.names.kept.keys c.elements.new.names.kept.keys
    (g.D.Data.form c.args.key) (g.D.Data.form c.args.value) c.in_ok-key.key c.in_ok-elements.elements c.in_ok-key.ensures
    c.in_ok-elements.ensures
