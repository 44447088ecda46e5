use Rattle.std.proofs.Common.{◌≡◌, ◌<◌, ℕ, false, arith}
use Rattle.edn.specs.Meaning.Bytes.{is_space}
use Rattle.edn.proofs.gap.after_one.Goals as goal

no_space : (b : ℕ) → 44 < b → is_space b ≡ false
unfolding is_space
no_space b h = grind arith

pub returns-then-first-gt44-clause-value : goal.returns-then-first-gt44-clause-value
returns-then-first-gt44-clause-value c = rw (no_space c.args.first c.if-first-gt44.true) c.after_semicolon.ensures.value
