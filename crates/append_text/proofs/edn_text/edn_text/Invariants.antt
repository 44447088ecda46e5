-- The forms so far were collected, and read of the text; and the reader goes on.
use Rattle.std.proofs.Common.{List, ℕ, []}
use Rattle.std.specs.Prelude.{flat_map}
use Rattle.edn.specs.Meaning.Forms.{Form}
use Rattle.edn.specs.Meaning.Readers.{left_to_do}
use Rattle.edn.specs.Meaning.Texts.{HasNotFailed, HasRead}
use Rattle.append_text.specs.declared.text_form.TextForm.TheVariants.{Edn}
use Rattle.append_text.specs.Meaning.Data.{parts}
use Rattle.append_text.specs.Machinery.Collectors.{HasCollected}
use Rattle.append_text.proofs.edn_text.edn_text.Given as goal

abbrev pub invariant-loop-reader : goal.invariant-loop-reader
invariant-loop-reader g l =
    ((fs : List Form) × HasCollected Edn (flat_map parts fs) l.collector
    × ((text : List ℕ) → HasRead text [] l.fn.begun (g.S.Read.remaining l.initial.source)
    → HasRead text fs l.reader (g.S.Read.remaining l.source)))
    × (HasNotFailed l.fn.begun → HasNotFailed l.reader)

abbrev pub decreases-loop-reader : goal.decreases-loop-reader
decreases-loop-reader g l = left_to_do (g.S.Source.left l.source) l.reader
