-- A reader that hasn't failed.
use Rattle.std.proofs.Common.{◌≡◌, inl, inr, List, Option, refl, subst}
use Rattle.edn.specs.declared.read_fault.Problem.TheVariants.{AfterVector}
use Rattle.edn.specs.declared.read_fault.ReadFault.{ReadFault}
use Rattle.edn.specs.declared.read_fault.ReadFault.TheVariants.{Device}
use Rattle.edn.specs.declared.reader.Stage.{Stage}
use Rattle.edn.specs.declared.reader.Stage.TheVariants.{Start, Forms, Elements, Closed, Failed}
use Rattle.edn.specs.Meaning.Forms.{Form}
use Rattle.edn.specs.Meaning.Tokens.{Token}
use Rattle.edn.specs.Computing.Building.{Frame}
use Rattle.edn.specs.Computing.Stages.{Refused, Says, Stops, Takes}

abbrev pub IsUnfailed : Stage → Type 0
IsUnfailed stage = (fault : ReadFault) → stage ≡ Failed fault → ⊥

pub takes_unfailed : (stage later : Stage) (t : Token) (old new : List Frame) (o : Option Form) → Takes stage t later old new o
    → IsUnfailed later
takes_unfailed Start later t old new o (inl (_, to, _, _)) fault e = cc
takes_unfailed Start later t old new o (inr (_, to, _)) fault e = cc
takes_unfailed Forms later t old new o (to, _) fault e = cc
takes_unfailed Elements later t old new o (inl (to, _, _, _, _)) fault e = cc
takes_unfailed Elements later t old new o (inr (to, _)) fault e = cc
takes_unfailed Closed later t old new o takes fault e = takes
takes_unfailed (Failed before) later t old new o takes fault e = takes

-- a token isn't refused for the device's sake
pub no_device : (stage : Stage) (t : Token) (stack : List Frame) (fault : ReadFault) → IsUnfailed stage → Stops stage t stack fault
    → fault ≡ Device → ⊥
no_device Start t stack fault unfailed (_, refused) e = subst (Refused stack t) e refused
no_device Forms t stack fault unfailed refused e = subst (Refused stack t) e refused
no_device Elements t stack fault unfailed (_, refused) e = subst (Refused stack t) e refused
no_device Closed t stack fault unfailed stops e = subst (Says AfterVector) e stops
no_device (Failed before) t stack fault unfailed stops e = unfailed before refl
