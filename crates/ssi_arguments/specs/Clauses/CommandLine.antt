-- The command line as the parser knows it.
use Rattle.std.specs.Prelude.{Bool, true, false, List, Option, Some, None, codes, drop, unwrap_or, if◌then◌else◌}
use Rattle.std.specs.Str.{bytes_eq}
use Rattle.clap.specs.Words.{App, Row, Rule, Text, first_of, new_app, new_rule, with_rule, with_subcommand}
use Rattle.clap.specs.declared.builder.action.ArgAction.TheVariants.{SetTrue}
use Rattle.ssi_arguments.specs.declared.arguments.Manner.{Manner}
use Rattle.ssi_arguments.specs.declared.arguments.Manner.TheVariants.{InTurn, AtOnce, Aborting}
use Rattle.ssi_arguments.specs.declared.arguments.LeftOpen.{LeftOpen}
use Rattle.ssi_arguments.specs.declared.arguments.LeftOpen.TheVariants.{Keep, Abort}
use Rattle.ssi_arguments.specs.declared.arguments.Replies.{Replies}
use Rattle.ssi_arguments.specs.declared.arguments.Replies.TheVariants.{Synced, Early}
use Rattle.ssi_arguments.specs.declared.storage.Storage.{Storage}
use Rattle.ssi_arguments.specs.declared.storage.Storage.TheVariants.{Files, Folder}
use Rattle.ssi_arguments.specs.Clauses.Storage.{storage_in}
use Rattle.ssi_arguments.specs.Clauses.Arguments.{Request, pipe, audit, order, script, serve, keep, seal}

-- a path that must be there
abbrev pub file_rule : Text → Rule
file_rule name = record (new_rule name) { required = true }

-- an option of this name after two hyphens
abbrev pub flag_rule : Text → Rule
flag_rule name = record (new_rule name) { long = Some name; action = Some SetTrue }

-- an option of this name after two hyphens, with a value; it must be there, or may be
abbrev pub value_rule : Text → Bool → Rule
value_rule name is_required = record (new_rule name) { long = Some name; value_names = 1; required = is_required }

-- the option `--version`
abbrev pub with_version : App → App
with_version app = record app { top = record app.top { has_version = true } }

-- a history and a certificate
abbrev pub with_texts : App → App
with_texts app = with_rule (with_rule app (file_rule (codes "HISTORY"))) (file_rule (codes "CERTIFICATE"))

abbrev pub audit_app : App
audit_app = with_texts (new_app (codes "audit"))

abbrev pub order_app : App
order_app = with_rule (new_app (codes "order")) (file_rule (codes "HISTORY"))

abbrev pub script_app : App
script_app = with_texts (new_app (codes "script"))

abbrev pub seal_app : App
seal_app = with_rule (new_app (codes "seal")) (file_rule (codes "DIR"))

-- `serve` with the files of a history and a certificate
abbrev pub files_app : App
files_app =
    with_rule (with_rule (with_rule (with_texts (with_rule (new_app (codes "serve")) (file_rule (codes "SOCKET"))))
    (flag_rule (codes "concurrent"))) (flag_rule (codes "abort-on-close"))) (value_rule (codes "data") false)

-- `serve` with a folder
abbrev pub folder_app : App
folder_app =
    with_rule (with_rule (with_rule (with_rule (with_rule (with_rule (new_app (codes "serve")) (file_rule (codes "SOCKET")))
    (flag_rule (codes "abort-on-close"))) (flag_rule (codes "early"))) (value_rule (codes "segment") false))
    (value_rule (codes "idle") false)) (value_rule (codes "data") true)

abbrev pub serve_app : Storage → App
serve_app Files = files_app
serve_app Folder = folder_app

-- no paths of its own, a version, and five commands
abbrev pub ssi_app : Storage → App
ssi_app storage =
    with_subcommand (with_subcommand (with_subcommand (with_subcommand (with_subcommand (with_version (new_app (codes "ssi")))
    audit_app.top) order_app.top) script_app.top) (serve_app storage).top) seal_app.top

-- the command line for these arguments, the first of which is the program's name
abbrev pub app_for : List Text → App
app_for given = ssi_app (storage_in (drop 1 given))

-- the path of this name in the matches of a command
abbrev pub path_in : List Row → Text → Text
path_in rows name = unwrap_or (first_of name rows) (codes "")

-- the option of this name is among them
abbrev pub is_given : List Row → Text → Bool
is_given rows option = bytes_eq (path_in rows option) (codes "true")

-- what the options among them ask for
abbrev pub manner_in : List Row → Manner
manner_in rows =
    if is_given rows (codes "abort-on-close") then Aborting
    else if is_given rows (codes "concurrent") then AtOnce
    else InTurn

-- what they ask for at the end of a connection
abbrev pub left_open_in : List Row → LeftOpen
left_open_in rows = if is_given rows (codes "abort-on-close") then Abort else Keep

-- what replies they ask for
abbrev pub replies_in : List Row → Replies
replies_in rows = if is_given rows (codes "early") then Early else Synced

-- the request of `serve`, in the form that keeps what it does there
abbrev pub request_served : Storage → List Row → Request
request_served Files rows =
    serve (manner_in rows) (path_in rows (codes "SOCKET")) (path_in rows (codes "HISTORY")) (path_in rows (codes "CERTIFICATE"))
request_served Folder rows =
    keep (left_open_in rows) (replies_in rows) (first_of (codes "segment") rows) (first_of (codes "idle") rows)
    (path_in rows (codes "SOCKET")) (path_in rows (codes "data"))

-- the request of a command of this name with these matches
abbrev pub request_named : Storage → Text → List Row → Request
request_named storage name rows =
    if bytes_eq name (codes "audit") then audit (path_in rows (codes "HISTORY")) (path_in rows (codes "CERTIFICATE"))
    else if bytes_eq name (codes "order") then order (path_in rows (codes "HISTORY"))
    else if bytes_eq name (codes "script") then script (path_in rows (codes "HISTORY")) (path_in rows (codes "CERTIFICATE"))
    else if bytes_eq name (codes "seal") then seal (path_in rows (codes "DIR"))
    else request_served storage rows

-- the request in the name and the matches of the command that was met
abbrev pub request_in : Storage → Option (Text × List Row) → Request
request_in storage None = pipe
request_in storage (Some (name, rows)) = request_named storage name rows
