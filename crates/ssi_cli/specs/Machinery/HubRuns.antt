-- What calls of a hub leave.
use Rattle.std.specs.Prelude.{true, ◌≡◌, List, ◌++◌}
use Rattle.ssi_store.specs.Meaning.Courses.{Course}
use Rattle.ssi_line.specs.Meaning.Steps.{Step}
use Rattle.ssi_line.specs.Clauses.Ends.{WentOn}
use Rattle.ssi_hub.specs.declared.hub.Hub.{Hub}
use Rattle.ssi_hub.specs.Clauses.Calls.{Call, all_steps}
use Rattle.ssi_hub.specs.Mirror.{is_stopped, Stands}

-- no line was carried out: whatever calls the hub stood for, it stands for calls with the same steps
pub record WasCalled (old new : Hub) : Type 0 where
  pub stopped : is_stopped new ≡ is_stopped old
  pub stands : (calls : List Call) → Stands true old calls
      → (later : List Call) × Stands true new later × (all_steps later ≡ all_steps calls)

-- lines were carried out, and the store went through their steps
abbrev pub HasRun : {T : Type 0} → (T → Course → Type 0) → Hub → T → Hub → T → Type 0
HasRun is_at old store new after =
    (calls : List Call) → Stands true old calls
    → (later : List Call) × (steps : List Step) × Stands true new later × (all_steps later ≡ all_steps calls ++ steps)
    × WentOn is_at store steps after
