use Rattle.std.proofs.Common.{◌≡◌, ◌≤◌, []}
use Rattle.std.specs.Io.KnownBytes.{Consumes, prepend_known}
use Rattle.edn.specs.declared.token.Beyond.TheVariants.{Unread}
use Rattle.edn.specs.Machinery.Inputs.{work_left}
use Rattle.edn.proofs.input.Input.fill.Given as goal

abbrev pub invariant-loop-self : goal.invariant-loop-self
invariant-loop-self g l =
    (work_left (g.S.Source.left l.source) l.self.pending ≤ work_left (g.S.Source.left l.initial.source) l.initial.self.pending)
    × (g.S.Source.left l.source ≤ g.S.Source.left l.initial.source)
    × (l.self.beyond ≡ Unread)
    × (g.S.Source.is_failed l.source ≡ g.S.Source.is_failed l.initial.source)
    × (l.self.line ≡ l.initial.self.line)
    × Consumes (prepend_known l.initial.self.pending (g.S.Read.remaining l.initial.source))
    (prepend_known l.self.pending (g.S.Read.remaining l.source)) []

abbrev pub decreases-loop-self : goal.decreases-loop-self
decreases-loop-self g l = g.S.Source.left l.source
