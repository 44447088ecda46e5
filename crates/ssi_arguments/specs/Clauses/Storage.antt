-- Where `serve` keeps what it does, by its arguments.
use Rattle.std.specs.Prelude.{ℕ, ◌==◌, ◌&&◌, ◌||◌, Bool, false, not, List, [], ◌∷◌, codes, if◌then◌else◌}
use Rattle.std.specs.List.{before_first}
use Rattle.std.specs.Str.{bytes_eq}
use Rattle.ssi_arguments.specs.declared.storage.Storage.{Storage}
use Rattle.ssi_arguments.specs.declared.storage.Storage.TheVariants.{Files, Folder}

-- the argument is this option, alone or with `=` (61) and a value
abbrev pub is_option : List ℕ → List ℕ → Bool
is_option option argument = bytes_eq (before_first (λ b. b == 61) argument) option

-- the option is among the arguments; after `--` there are no options
abbrev pub has_option : List ℕ → List (List ℕ) → Bool
has_option option [] = false
has_option option (argument ∷ arguments) =
    not (bytes_eq argument (codes "--")) && (is_option option argument || has_option option arguments)

-- by the arguments after the program's name: a folder if they are those of `serve`, with the option `--data`
abbrev pub storage_in : List (List ℕ) → Storage
storage_in [] = Files
storage_in (command ∷ arguments) =
    if bytes_eq command (codes "serve") && has_option (codes "--data") arguments then Folder else Files
