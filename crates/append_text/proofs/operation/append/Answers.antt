use Rattle.append_text.proofs.Readings.{read_append}
use Rattle.append_text.proofs.operation.append.Goals as goal

pub returns : goal.returns
returns g c = read_append c.args.names.now.kept.keys c.number.new.names.kept.keys c.number-2.new.names.kept.keys
    (g.D.Data.form c.args.key) (g.D.Data.form c.args.value) c.in_ok-key.key c.in_ok-element.element c.in_ok-key.ensures
    c.in_ok-element.ensures
