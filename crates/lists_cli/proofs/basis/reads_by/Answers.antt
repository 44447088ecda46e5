use Rattle.std.proofs.Common.{◌≡◌, false, sym, ◌∙◌}
use Rattle.append_values.specs.declared.transaction.Outcome.TheVariants.{Committed}
use Rattle.lists_cli.specs.Meaning.Rests.{is_same}
use Rattle.lists_cli.proofs.Counted.{counted_zero}
use Rattle.lists_cli.proofs.basis.reads_by.Goals as goal

pub returns : goal.returns
returns c =
    let other : is_same Committed c.args.transaction.now.outcome ≡ false = sym c.is_same.ensures ∙ c.if-is_same.false in
    rw other counted_zero
