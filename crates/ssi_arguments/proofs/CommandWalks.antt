-- The command line as the parser builds it, with each form of `serve`, and how a walk over the arguments stops at a command's name.
use Rattle.std.proofs.Common.{◌≡◌, ◌∙◌, ◌++◌, List, [], ◌∷◌, refl, sym, ap, codes, append_assoc, append-nil}
use Rattle.std.proofs.Common.{slice_index_or}
use Rattle.std.specs.Prelude.{Some}
use Rattle.std.specs.List.{fold}
use Rattle.clap.specs.Walk.{Names, Rule, Text, Walk, nothing_held, walk, walked}
use Rattle.clap.specs.Simple.{App, Shape, built, names_of}
use Rattle.clap.proofs.OnLiterals.{clap_on_literals}
use Rattle.ssi_arguments.specs.Clauses.CommandLine.{ssi_app}
use Rattle.ssi_arguments.specs.declared.storage.Storage.TheVariants.{Files, Folder}
use Rattle.ssi_arguments.proofs.PlainArguments.{at}

abbrev pub parser : App
parser = built (ssi_app Files)

abbrev pub folder_parser : App
folder_parser = built (ssi_app Folder)

abbrev pub names : Names
names = names_of parser

abbrev pub audits : Shape
audits = slice_index_or parser.subs 0 parser.top

abbrev pub orders : Shape
orders = slice_index_or parser.subs 1 parser.top

abbrev pub scripts : Shape
scripts = slice_index_or parser.subs 2 parser.top

abbrev pub serves : Shape
serves = slice_index_or parser.subs 3 parser.top

abbrev pub seals : Shape
seals = slice_index_or parser.subs 4 parser.top

abbrev pub keeps : Shape
keeps = slice_index_or folder_parser.subs 3 folder_parser.top

-- a command of this name with a history and a certificate, as `audit` and `script` are
abbrev pub pairs : Text → Shape
pairs name = record audits { name = name }

abbrev pub top_walk : List Text → Walk
top_walk arguments = walk parser.top.rules names nothing_held arguments

-- after the name of a command all arguments belong to it
stays : (rules : List Rule) (ns : Names) (w : Walk) (name : Text) (before more : List Text)
    → w.stopped ≡ Some (name, before) → (fold (walked rules ns) w more).stopped ≡ Some (name, before ++ more)
unfolding walked
stays rules ns w name before [] e = e ∙ ap (λ ws. Some (name, ws)) (sym (append-nil before))
stays rules ns w name before (argument ∷ more) e =
    stays rules ns (walked rules ns w argument) name (before ++ argument ∷ []) more (rw e refl)
    ∙ ap (λ ws. Some (name, ws)) (append_assoc before (argument ∷ []) more)

abbrev first_argument : Text → Walk
first_argument argument = walked parser.top.rules names (at nothing_held 1) argument

pub stops_at_audit : (arguments : List Text) → (top_walk (codes "audit" ∷ arguments)).stopped ≡ Some (codes "audit", arguments)
unfolding clap_on_literals
stops_at_audit arguments = stays parser.top.rules names (first_argument (codes "audit")) (codes "audit") [] arguments refl

pub stops_at_order : (arguments : List Text) → (top_walk (codes "order" ∷ arguments)).stopped ≡ Some (codes "order", arguments)
unfolding clap_on_literals
stops_at_order arguments = stays parser.top.rules names (first_argument (codes "order")) (codes "order") [] arguments refl

pub stops_at_script : (arguments : List Text)
    → (top_walk (codes "script" ∷ arguments)).stopped ≡ Some (codes "script", arguments)
unfolding clap_on_literals
stops_at_script arguments = stays parser.top.rules names (first_argument (codes "script")) (codes "script") [] arguments refl

pub stops_at_serve : (arguments : List Text) → (top_walk (codes "serve" ∷ arguments)).stopped ≡ Some (codes "serve", arguments)
unfolding clap_on_literals
stops_at_serve arguments = stays parser.top.rules names (first_argument (codes "serve")) (codes "serve") [] arguments refl

pub stops_at_seal : (arguments : List Text) → (top_walk (codes "seal" ∷ arguments)).stopped ≡ Some (codes "seal", arguments)
unfolding clap_on_literals
stops_at_seal arguments = stays parser.top.rules names (first_argument (codes "seal")) (codes "seal") [] arguments refl
