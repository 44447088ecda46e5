use Rattle.std.proofs.Common.{sym, ◌∙◌}
use Rattle.std.specs.HashMap.{get}
use Rattle.append_check.specs.Machinery.Appending.{item_eq}
use Rattle.append_check.proofs.Appending.{again, adds_one}
use Rattle.append_check.proofs.appenders.Appenders.add_step.Goals as goal

pub returns-in-Some : goal.returns-in-Some
returns-in-Some c =
    rw c.in-Append.is
    (again (get item_eq c.args.self.now.by_item) c.in-Append.key c.in-Append.element c.in-Some.field-0
    (sym c.in_ok-before.ensures.old ∙ c.in-Some.is))

pub returns-in-None : goal.returns-in-None
returns-in-None c =
    rw c.in-Append.is
    (adds_one (get item_eq c.args.self.now.by_item) (get item_eq c.insert.new.self) c.in-Append.key c.in-Append.element c.args.place
    c.in_ok-before.ensures.updates.0 (sym c.in_ok-before.ensures.old ∙ c.in-None.is))
