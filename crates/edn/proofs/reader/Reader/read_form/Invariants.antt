-- The tokens so far have led to what is open, and the text goes on behind them.
use Rattle.std.proofs.Common.{◌≡◌, ◌≤◌, List, ℕ}
use Rattle.edn.specs.Meaning.Tokens.{Token}
use Rattle.edn.specs.Meaning.Reading.{IsLinked, ReadsTokens}
use Rattle.edn.specs.Meaning.Lines.{IsAt}
use Rattle.edn.specs.Meaning.Readers.{IsReady, left_to_do, line_read, text_left}
use Rattle.edn.specs.Meaning.Texts.{HasEnded}
use Rattle.edn.specs.Computing.Stacks.{stack_of}
use Rattle.edn.proofs.Depths.{StaysShallow}
use Rattle.edn.proofs.FormsRead.{Leads}
use Rattle.edn.proofs.NoForms.{Goes}
use Rattle.edn.proofs.Unfailed.{IsUnfailed}
use Rattle.edn.proofs.reader.Reader.read_form.Given as goal

abbrev pub invariant-token : goal.invariant-token
invariant-token g l =
    (left_to_do (g.S.Source.left l.source) l.self ≤ left_to_do (g.S.Source.left l.initial.source) l.initial.self)
    × (IsReady l.initial.self (g.S.Read.remaining l.initial.source)
    → IsLinked l.self.input.beyond (g.S.Read.remaining l.source)
    × ((ts : List Token) × ReadsTokens (text_left l.initial.self (g.S.Read.remaining l.initial.source))
    (text_left l.self (g.S.Read.remaining l.source)) ts
    × Leads l.initial.self.stage l.self.stage ts (stack_of l.self.builder)
    × Goes l.initial.self.stage l.self.stage (text_left l.initial.self (g.S.Read.remaining l.initial.source)) ts
    (stack_of l.self.builder)
    × StaysShallow l.initial.self.stage ts (stack_of l.self.builder)))
    × IsUnfailed l.self.stage
    × (g.S.Source.is_failed l.source ≡ g.S.Source.is_failed l.initial.source)
    × (HasEnded l.initial.self → HasEnded l.self × (l.source ≡ l.initial.source))
    × ((text : List ℕ) → IsAt text (text_left l.initial.self (g.S.Read.remaining l.initial.source)) (line_read l.initial.self)
    → IsAt text (text_left l.self (g.S.Read.remaining l.source)) (line_read l.self))

abbrev pub decreases-token : goal.decreases-token
decreases-token g l = left_to_do (g.S.Source.left l.source) l.self
