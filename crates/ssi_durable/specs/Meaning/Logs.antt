-- Which lines a server logs, on which of them its replies rest, and to which course they lead.
use Rattle.std.specs.Prelude.{◌≡◌, Bool, true, false, List, [], ◌∷◌, ◌++◌, if◌then◌else◌}
use Rattle.adya_keys.specs.Meaning.Keys.{Bytes}
use Rattle.ssi_store.specs.Meaning.Courses.{Course}
use Rattle.ssi_line.specs.Meaning.Steps.{Step, MayFollow}
use Rattle.ssi_line.specs.Clauses.Counting.{counts}
use Rattle.ssi_hub.specs.Clauses.Calls.{Call, Ran, Wrote}
use Rattle.ssi_durable.specs.Meaning.Replays.{Leads}

-- of lines that made these steps, those that count
abbrev pub counted : List Bytes → List Step → List Bytes
counted [] steps = []
counted (line ∷ lines) [] = []
counted (line ∷ lines) (s ∷ steps) = if counts s then line ∷ counted lines steps else counted lines steps

-- the lines that count of all connections, in the order in which they were carried out
abbrev pub logged : List Call → List Bytes
logged [] = []
logged (Ran t lines steps ∷ calls) = logged calls ++ counted lines steps
logged (_ ∷ calls) = logged calls

-- the calls up to the last one that wrote something to a connection
abbrev pub told : List Call → List Call
told [] = []
told (Wrote t [] ∷ calls) = told calls
told (Wrote t (b ∷ bytes) ∷ calls) = calls
told (_ ∷ calls) = told calls

-- the lines that count on which what was written so far may rest
abbrev pub released : List Call → List Bytes
released calls = logged (told calls)

-- a line that counts leads to the next course, and another to the same
abbrev pub LeadsIfCounted : Bool → Course → Bytes → Course → Type 0
LeadsIfCounted true course line next = Leads course line next
LeadsIfCounted false course line next = next ≡ course

-- after the course the line may make this step, and leads to the next course
pub record IsLogged (course : Course) (line : Bytes) (step : Step) (next : Course) : Type 0 where
  pub follows : MayFollow course step
  pub leads : LeadsIfCounted (counts step) course line next

-- so do lines and their steps, one after the other
abbrev pub AllLead : Course → List Bytes → List Step → Course → Type 0
AllLead course [] [] end = end ≡ course
AllLead course (line ∷ lines) (s ∷ steps) end = (next : Course) × IsLogged course line s next × AllLead next lines steps end
AllLead course _ _ end = ⊥

-- and those of the calls, which have led to this course
abbrev pub HaveLed : Course → List Call → Course → Type 0
HaveLed start [] end = end ≡ start
HaveLed start (Ran t lines steps ∷ calls) end = (mid : Course) × HaveLed start calls mid × AllLead mid lines steps end
HaveLed start (_ ∷ calls) end = HaveLed start calls end
