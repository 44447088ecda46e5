-- That the parser accepts the arguments of each request, and finds the request in them, by the command line for them.
use Rattle.std.proofs.Common.{◌≡◌, ◌∙◌, ◌&&◌, true, List, refl, sym, ap, ap₂, drop, subst}
use Rattle.clap.specs.Walk.{Text, nothing_held}
use Rattle.clap.specs.Simple.{entered, is_simple, subcommand_of}
use Rattle.clap.specs.Takes.{built_takes, takes}
use Rattle.clap.proofs.OnLiterals.{clap_on_literals}
use Rattle.ssi_arguments.specs.Clauses.Arguments.{Request, pipe, audit, order, script, serve, keep, seal, are_plain, arguments_of, paths_of, storage_for}
use Rattle.ssi_arguments.specs.Clauses.CommandLine.{app_for, request_in, ssi_app}
use Rattle.ssi_arguments.specs.Clauses.Storage.{storage_in}
use Rattle.ssi_arguments.specs.declared.arguments.Manner.TheVariants.{InTurn, AtOnce, Aborting}
use Rattle.ssi_arguments.specs.declared.storage.Storage.{Storage}
use Rattle.ssi_arguments.specs.declared.storage.Storage.TheVariants.{Files, Folder}
use Rattle.ssi_arguments.proofs.CommandWalks.{folder_parser, parser, top_walk}
use Rattle.ssi_arguments.proofs.FolderWalks.{found_folder, taken_folder}
use Rattle.ssi_arguments.proofs.StorageLemmas.{storage_in-arguments}
use Rattle.ssi_arguments.proofs.TakesRequests.{found, taken}

pub simple : (storage : Storage) → is_simple (ssi_app storage) ≡ true
unfolding clap_on_literals
simple Files = refl
simple Folder = refl

-- the command line with this form of `serve` takes the arguments, and the request is found in them
abbrev Takes : Storage → List Text → Request → Type 0
Takes storage arguments r = (takes (ssi_app storage) arguments ≡ true) × (request_in storage (subcommand_of (ssi_app storage) arguments) ≡ r)

takes_with : (storage : Storage) (arguments : List Text) (r : Request) → storage_for r ≡ storage → are_plain (paths_of r) ≡ true
    → drop 1 arguments ≡ arguments_of r → Takes storage arguments r
takes_with Files arguments r k p e = (
  ap₂ (λ a b. a && b) (simple Files) (ap (built_takes parser nothing_held) e ∙ taken r k p),
  ap (λ ws. request_in Files (entered parser (top_walk ws).stopped)) e ∙ found r k p,
)
takes_with Folder arguments (keep l r g i s f) k p e = (
  ap₂ (λ a b. a && b) (simple Folder) (ap (built_takes folder_parser nothing_held) e ∙ taken_folder l r g i s f p),
  ap (λ ws. request_in Folder (entered folder_parser (top_walk ws).stopped)) e ∙ found_folder l r g i s f p,
)
takes_with Folder arguments pipe k p e = absurd (cc k)
takes_with Folder arguments (audit h c) k p e = absurd (cc k)
takes_with Folder arguments (order h) k p e = absurd (cc k)
takes_with Folder arguments (script h c) k p e = absurd (cc k)
takes_with Folder arguments (serve m s h c) k p e = absurd (cc k)
takes_with Folder arguments (seal f) k p e = absurd (cc k)

-- the arguments of a request are taken, and the request is found in them
pub takes_request : (arguments : List Text) (r : Request) → are_plain (paths_of r) ≡ true → drop 1 arguments ≡ arguments_of r
    → (takes (app_for arguments) arguments ≡ true) × (request_in (storage_in (drop 1 arguments)) (subcommand_of (app_for arguments) arguments) ≡ r)
takes_request arguments r p e =
    subst (λ storage. Takes storage arguments r) (sym (ap storage_in e ∙ storage_in-arguments r p))
    (takes_with (storage_for r) arguments r refl p e)

-- if all its arguments are plain, its paths are
pub plain_paths : (r : Request) → are_plain (arguments_of r) ≡ true → are_plain (paths_of r) ≡ true
plain_paths pipe p = p
plain_paths (audit h c) p = p
plain_paths (order h) p = p
plain_paths (script h c) p = p
plain_paths (serve InTurn s h c) p = p
plain_paths (serve AtOnce s h c) p = absurd (cc p)
plain_paths (serve Aborting s h c) p = absurd (cc p)
plain_paths (keep l r g i s f) p = absurd (cc p)
plain_paths (seal f) p = p
