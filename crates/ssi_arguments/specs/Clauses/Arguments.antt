-- What the arguments ask for.
use Rattle.std.specs.Prelude.{ℕ, ◌==◌, ◌&&◌, Bool, true, not, List, [], ◌∷◌, ◌++◌, Option, Some, None, option_map, codes}
use Rattle.clap.specs.Words.{IsAmong, Kinds, kind_of}
use Rattle.ssi_arguments.specs.declared.arguments.NoTask.{NoTask}
use Rattle.ssi_arguments.specs.declared.arguments.NoTask.TheVariants as no_task
use Rattle.ssi_arguments.specs.declared.arguments.Manner.{Manner}
use Rattle.ssi_arguments.specs.declared.arguments.Manner.TheVariants.{InTurn, AtOnce, Aborting}
use Rattle.ssi_arguments.specs.declared.arguments.LeftOpen.{LeftOpen}
use Rattle.ssi_arguments.specs.declared.arguments.LeftOpen.TheVariants.{Keep, Abort}
use Rattle.ssi_arguments.specs.declared.arguments.Replies.{Replies}
use Rattle.ssi_arguments.specs.declared.arguments.Replies.TheVariants.{Synced, Early}
use Rattle.ssi_arguments.specs.declared.storage.Storage.{Storage}
use Rattle.ssi_arguments.specs.declared.storage.Storage.TheVariants.{Files, Folder}
use Rattle.ssi_arguments.specs.declared.arguments.Task.{Task}
use Rattle.ssi_arguments.specs.declared.arguments.Task.TheVariants as task

-- to audit the two texts on standard input, to audit a history and a certificate, to order a history, to carry out the
-- commands on standard input, or to carry out those of a socket's connections, in some manner on a new store or all at once
-- on the store in a folder, with each reply or only `committed` waiting for the disk, with segments of some length and sessions
-- that are idle for some time, or to certify the segments in a folder; a script and a new store write a history and a certificate
pub data Request : Type 0 where
  pipe : Request
  audit : List ℕ → List ℕ → Request
  order : List ℕ → Request
  script : (history certificate : List ℕ) → Request
  serve : Manner → (socket history certificate : List ℕ) → Request
  keep : LeftOpen → Replies → (segment idle : Option (List ℕ)) → (socket folder : List ℕ) → Request
  seal : (folder : List ℕ) → Request

abbrev pub request_of : Task → Request
request_of task.Pipe = pipe
request_of (task.Audit history certificate) = audit history.now certificate.now
request_of (task.Order history) = order history.now
request_of (task.Script history certificate) = script history.now certificate.now
request_of (task.Serve socket history certificate manner) = serve manner socket.now history.now certificate.now
request_of (task.Keep socket folder left_open replies segment idle) =
    keep left_open replies (option_map (λ text. text.now) segment) (option_map (λ text. text.now) idle) socket.now folder.now
request_of (task.Seal folder) = seal folder.now

-- where what it asks for keeps what it does
abbrev pub storage_for : Request → Storage
storage_for (keep left_open replies segment idle socket folder) = Folder
storage_for _ = Files

-- the options that ask for this
abbrev pub options_of : Manner → List (List ℕ)
options_of InTurn = []
options_of AtOnce = codes "--concurrent" ∷ []
options_of Aborting = codes "--concurrent" ∷ codes "--abort-on-close" ∷ []

-- the option that asks for segments of this length, if one is given
abbrev pub segment_option : Option (List ℕ) → List (List ℕ)
segment_option None = []
segment_option (Some length) = codes "--segment" ∷ length ∷ []

-- the option that asks for sessions to be idle for no longer than these seconds, if one is given
abbrev pub idle_option : Option (List ℕ) → List (List ℕ)
idle_option None = []
idle_option (Some seconds) = codes "--idle" ∷ seconds ∷ []

-- the option that asks for this at the end of a connection
abbrev pub left_open_option : LeftOpen → List (List ℕ)
left_open_option Keep = []
left_open_option Abort = codes "--abort-on-close" ∷ []

-- the option that asks for replies like these
abbrev pub replies_option : Replies → List (List ℕ)
replies_option Synced = []
replies_option Early = codes "--early" ∷ []

-- the options that ask for this folder, for these segments, for this time, for this at the end of a connection, and for replies
-- like these
abbrev pub folder_options_of : LeftOpen → Replies → (segment idle : Option (List ℕ)) → List ℕ → List (List ℕ)
folder_options_of left_open replies segment idle folder =
    codes "--data" ∷ folder ∷ segment_option segment ++ idle_option idle ++ left_open_option left_open ++ replies_option replies

-- the arguments that ask for this, after the program's name
abbrev pub arguments_of : Request → List (List ℕ)
arguments_of pipe = []
arguments_of (audit history certificate) = codes "audit" ∷ history ∷ certificate ∷ []
arguments_of (order history) = codes "order" ∷ history ∷ []
arguments_of (script history certificate) = codes "script" ∷ history ∷ certificate ∷ []
arguments_of (serve manner socket history certificate) =
    codes "serve" ∷ options_of manner ++ socket ∷ history ∷ certificate ∷ []
arguments_of (keep left_open replies segment idle socket folder) =
    codes "serve" ∷ folder_options_of left_open replies segment idle folder ++ socket ∷ []
arguments_of (seal folder) = codes "seal" ∷ folder ∷ []

-- the text among them, if there is one
abbrev pub given : Option (List ℕ) → List (List ℕ)
given None = []
given (Some text) = text ∷ []

-- the paths among them, the length of segments, and the time that sessions may be idle
abbrev pub paths_of : Request → List (List ℕ)
paths_of pipe = []
paths_of (audit history certificate) = history ∷ certificate ∷ []
paths_of (order history) = history ∷ []
paths_of (script history certificate) = history ∷ certificate ∷ []
paths_of (serve manner socket history certificate) = socket ∷ history ∷ certificate ∷ []
paths_of (keep left_open replies segment idle socket folder) = folder ∷ given segment ++ given idle ++ socket ∷ []
paths_of (seal folder) = folder ∷ []

-- the argument doesn't begin with a hyphen (45)
abbrev pub is_plain : List ℕ → Bool
is_plain [] = true
is_plain (b ∷ bs) = not (b == 45)

abbrev pub are_plain : List (List ℕ) → Bool
are_plain [] = true
are_plain (argument ∷ arguments) = is_plain argument && are_plain arguments

-- the parser's text is of one of these kinds, or memory ran out
abbrev pub IsRefusal : Kinds → NoTask → Type 0
IsRefusal kinds (no_task.Text text) = IsAmong (kind_of text) kinds
IsRefusal kinds no_task.NotUtf8 = ⊥
IsRefusal kinds no_task.Memory = Unit {0}
