-- What the parser refuses beside a folder, and that a store is kept in a folder only if the option asks for it.
use Rattle.std.proofs.Common.{◌≡◌, ◌∙◌, ℕ, ◌==◌, Bool, true, false, List, [], ◌∷◌, ◌++◌, refl, sym, ap, arith, codes, cond, drop, slice_index_or}
use Rattle.std.specs.Prelude.{◌&&◌, Option, Some, None, if◌then◌else◌, is_some}
use Rattle.std.specs.Option.{option_map_or}
use Rattle.std.specs.Str.{bytes_eq}
use Rattle.std.proofs.lemmas.Bool.{and_parts}
use Rattle.std.proofs.lemmas.Slice.Eq.{bytes_eq-Decides}
use Rattle.clap.specs.Walk.{Row, Rule, Text, arg_by_index, arg_by_long, finished, idle, nothing_held, stop_after, walked}
use Rattle.clap.specs.Simple.{App, built, entered, help_rule, names_of, subcommand_of}
use Rattle.clap.specs.Faults.{built_fault, check_fault, entered_fault, fault_of, turn_fault, walk_fault}
use Rattle.clap.proofs.OnLiterals.{clap_on_literals}
use Rattle.ssi_arguments.specs.Clauses.Arguments.{Request, are_plain, is_plain, folder_options_of, given, idle_option, left_open_option, replies_option, segment_option, storage_for}
use Rattle.ssi_arguments.specs.Clauses.CommandLine.{app_for, request_in, ssi_app}
use Rattle.ssi_arguments.specs.Clauses.Storage.{has_option, storage_in}
use Rattle.ssi_arguments.specs.declared.arguments.LeftOpen.{LeftOpen}
use Rattle.ssi_arguments.specs.declared.arguments.LeftOpen.TheVariants.{Keep, Abort}
use Rattle.ssi_arguments.specs.declared.arguments.Replies.{Replies}
use Rattle.ssi_arguments.specs.declared.arguments.Replies.TheVariants.{Synced, Early}
use Rattle.ssi_arguments.specs.declared.storage.Storage.{Storage}
use Rattle.ssi_arguments.specs.declared.storage.Storage.TheVariants.{Files, Folder}
use Rattle.ssi_arguments.proofs.CommandWalks.{folder_parser, keeps, names, stops_at_serve, top_walk}
use Rattle.ssi_arguments.proofs.FolderWalks.{aborts, awaits_folder, awaits_length, awaits_seconds, data_held, folder_held, goes_early, idle_held, kept_held, left_held, options_apart, plain_length, plain_parts, segment_held, takes_folder, takes_length, takes_seconds, timed_held, waiting_for, walks_on}
use Rattle.ssi_arguments.proofs.NoOtherRequests.{after_below, after_walk, fault_at, first_turn, leaf_fault, no_check}
use Rattle.ssi_arguments.proofs.PlainArguments.{at, turn_fault-plain}
use Rattle.ssi_arguments.proofs.TakesRequests.{one_path, walk_one}
use Rattle.ssi_arguments.proofs.UnknownOptions.{unknown_option}

-- ---- a store is kept in a folder exactly if the option asks for it

files_keep_none : (a o s l : Bool) (x y z w v : Request) → storage_for x ≡ Files → storage_for y ≡ Files → storage_for z ≡ Files
    → storage_for w ≡ Files → storage_for v ≡ Files
    → storage_for (if a then x else if o then y else if s then z else if l then w else v) ≡ Files
files_keep_none true o s l x y z w v ex ey ez ew ev = ex
files_keep_none false true s l x y z w v ex ey ez ew ev = ey
files_keep_none false false true l x y z w v ex ey ez ew ev = ez
files_keep_none false false false true x y z w v ex ey ez ew ev = ew
files_keep_none false false false false x y z w v ex ey ez ew ev = ev

request_in-files : (met : Option (Text × List Row)) → storage_for (request_in Files met) ≡ Files
request_in-files None = refl
request_in-files (Some (name, rows)) =
    files_keep_none (bytes_eq name (codes "audit")) (bytes_eq name (codes "order")) (bytes_eq name (codes "script"))
    (bytes_eq name (codes "seal")) _ _ _ _ _ refl refl refl refl refl

abbrev met : App → List Text → Option (Text × List Row)
met app arguments = entered app (stop_after app.top.rules (names_of app) arguments)

abbrev kept_as : Storage → List Text → Storage
kept_as storage arguments = storage_for (request_in storage (met (built (ssi_app storage)) arguments))

-- the storage of `command` with these arguments, by both tests of it
abbrev storage_by : Bool → Bool → Storage
storage_by serves has_data = if serves && has_data then Folder else Files

kept_by : (serves has_data : Bool) (command : Text) (arguments : List Text) → bytes_eq command (codes "serve") ≡ serves
    → kept_as (storage_by serves has_data) (command ∷ arguments) ≡ storage_by serves has_data
kept_by false has_data command arguments e =
    request_in-files (met (built (ssi_app Files)) (command ∷ arguments))
kept_by true false command arguments e =
    request_in-files (met (built (ssi_app Files)) (command ∷ arguments))
kept_by true true command arguments e =
    let named = (bytes_eq-Decides command (codes "serve")).0 e in
    ap (λ name. kept_as Folder (name ∷ arguments)) named
    ∙ ap (λ stop. storage_for (request_in Folder (entered folder_parser stop))) (stops_at_serve arguments)

keeps_so : (arguments : List Text) → kept_as (storage_in arguments) arguments ≡ storage_in arguments
keeps_so [] = refl
keeps_so (command ∷ arguments) =
    kept_by (bytes_eq command (codes "serve")) (has_option (codes "--data") arguments) command arguments refl

pub keeps_by_option : (arguments : List Text)
    → storage_for (request_in (storage_in (drop 1 arguments)) (subcommand_of (app_for arguments) arguments)) ≡ storage_in (drop 1 arguments)
keeps_by_option arguments = keeps_so (drop 1 arguments)

-- ---- no other path beside the folder and the socket

-- the options have no fault, so what follows them has none
after_data_fault : (f : Text) (arguments : List Text) → is_plain f ≡ true
    → walk_fault keeps [] (at nothing_held 1) (codes "--data" ∷ f ∷ arguments) ≡ []
    → walk_fault keeps [] (at (data_held (f ∷ [])) 1) arguments ≡ []
after_data_fault f arguments p e =
    let t₁ = first_turn keeps [] (at nothing_held 1) (codes "--data") (f ∷ arguments) e in
    let t₂ = first_turn keeps [] (waiting_for (codes "data") (data_held [])) f arguments
    (sym (ap (λ w. walk_fault keeps [] w (f ∷ arguments)) awaits_folder) ∙ t₁.1) in
    sym (ap (λ w. walk_fault keeps [] w arguments) (takes_folder f p)) ∙ t₂.1

after_segment_fault : (f n : Text) (arguments : List Text) → is_plain n ≡ true
    → walk_fault keeps [] (at (data_held (f ∷ [])) 1) (codes "--segment" ∷ n ∷ arguments) ≡ []
    → walk_fault keeps [] (at (segment_held f (n ∷ [])) 1) arguments ≡ []
after_segment_fault f n arguments q e =
    let t₁ = first_turn keeps [] (at (data_held (f ∷ [])) 1) (codes "--segment") (n ∷ arguments) e in
    let t₂ = first_turn keeps [] (waiting_for (codes "segment") (segment_held f [])) n arguments
    (sym (ap (λ w. walk_fault keeps [] w (n ∷ arguments)) (awaits_length f)) ∙ t₁.1) in
    sym (ap (λ w. walk_fault keeps [] w arguments) (takes_length f n q)) ∙ t₂.1

after_kept_fault : (g : Option Text) (f : Text) (arguments : List Text) → is_plain f ≡ true → are_plain (given g) ≡ true
    → walk_fault keeps [] (at nothing_held 1) (codes "--data" ∷ f ∷ segment_option g ++ arguments) ≡ []
    → walk_fault keeps [] (at (kept_held g f) 1) arguments ≡ []
after_kept_fault None f arguments p q e = after_data_fault f arguments p e
after_kept_fault (Some n) f arguments p q e =
    after_segment_fault f n arguments (plain_length n q) (after_data_fault f (codes "--segment" ∷ n ∷ arguments) p e)

after_timed_fault : (g i : Option Text) (f : Text) (arguments : List Text) → are_plain (given i) ≡ true
    → walk_fault keeps [] (at (kept_held g f) 1) (idle_option i ++ arguments) ≡ []
    → walk_fault keeps [] (at (timed_held g i f) 1) arguments ≡ []
after_timed_fault g None f arguments q e = e
after_timed_fault g (Some n) f arguments q e =
    let h = kept_held g f in
    let t₁ = first_turn keeps [] (at h 1) (codes "--idle") (n ∷ arguments) e in
    let t₂ = first_turn keeps [] (waiting_for (codes "idle") (idle_held h [])) n arguments
    (sym (ap (λ w. walk_fault keeps [] w (n ∷ arguments)) (awaits_seconds g f)) ∙ t₁.1) in
    sym (ap (λ w. walk_fault keeps [] w arguments) (takes_seconds h n (plain_length n q))) ∙ t₂.1

after_left_fault : (l : LeftOpen) (g i : Option Text) (f : Text) (arguments : List Text)
    → walk_fault keeps [] (at (timed_held g i f) 1) (left_open_option l ++ arguments) ≡ []
    → walk_fault keeps [] (at (left_held l g i f) 1) arguments ≡ []
after_left_fault Keep g i f arguments e = e
after_left_fault Abort g i f arguments e =
    let h = timed_held g i f in
    let t = first_turn keeps [] (at h 1) (codes "--abort-on-close") arguments e in
    sym (ap (λ w. walk_fault keeps [] w arguments) (aborts h)) ∙ t.1

after_replies_fault : (l : LeftOpen) (r : Replies) (g i : Option Text) (f : Text) (arguments : List Text)
    → walk_fault keeps [] (at (left_held l g i f) 1) (replies_option r ++ arguments) ≡ []
    → walk_fault keeps [] (at (folder_held l r g i f) 1) arguments ≡ []
after_replies_fault l Synced g i f arguments e = e
after_replies_fault l Early g i f arguments e =
    let h = left_held l g i f in
    let t = first_turn keeps [] (at h 1) (codes "--early") arguments e in
    sym (ap (λ w. walk_fault keeps [] w arguments) (goes_early h)) ∙ t.1

after_options_fault : (l : LeftOpen) (r : Replies) (g i : Option Text) (f : Text) (arguments : List Text) → is_plain f ≡ true
    → are_plain (given g) ≡ true → are_plain (given i) ≡ true
    → walk_fault keeps [] (at nothing_held 1) (folder_options_of l r g i f ++ arguments) ≡ []
    → walk_fault keeps [] (at (folder_held l r g i f) 1) arguments ≡ []
after_options_fault l r g i f arguments p q t e =
    let rest = replies_option r ++ arguments in
    let apart = sym (ap (walk_fault keeps [] (at nothing_held 1)) (options_apart l r g i f arguments)) ∙ e in
    after_replies_fault l r g i f arguments (after_left_fault l g i f rest
    (after_timed_fault g i f (left_open_option l ++ rest) t
    (after_kept_fault g f (idle_option i ++ (left_open_option l ++ rest)) p q apart)))

no_socket_fault : (l : LeftOpen) (r : Replies) (g i : Option Text) (f : Text)
    → check_fault keeps (finished keeps.rules (folder_held l r g i f)) false ≡ [] → ⊥
unfolding clap_on_literals
no_socket_fault l r g i f e = grind arith

module _ (l : LeftOpen) (r : Replies) (g i : Option Text) (f : Text) (p : is_plain f ≡ true) (o : are_plain (given g) ≡ true)
    (t : are_plain (given i) ≡ true) where
  keep_alone : leaf_fault keeps (folder_options_of l r g i f ++ []) ≡ [] → ⊥
  keep_alone e =
      let missing = ap (λ w. check_fault keeps (finished keeps.rules w.held) false) (walks_on l r g i f [] p o t) in
      no_socket_fault l r g i f (sym missing ∙ no_check keeps [] (folder_options_of l r g i f ++ []) false [] e)

  keep_more : (s argument : Text) (arguments : List Text) → is_plain s ≡ true → is_plain argument ≡ true
      → leaf_fault keeps (folder_options_of l r g i f ++ s ∷ argument ∷ arguments) ≡ [] → ⊥
  keep_more s argument arguments q v e =
      let b = folder_held l r g i f in
      let rest = after_options_fault l r g i f (s ∷ argument ∷ arguments) p o t
      (after_walk keeps [] (folder_options_of l r g i f ++ s ∷ argument ∷ arguments) false [] e).0 in
      let t₁ = first_turn keeps [] (at b 1) s (argument ∷ arguments) rest in
      let t₂ = first_turn keeps [] (walked keeps.rules [] (at b 1) s) argument arguments t₁.1 in
      let stray : turn_fault keeps [] (one_path b keeps s) argument ≡ [] =
      sym (ap (λ w. turn_fault keeps [] w argument) (walk_one b keeps s q)) ∙ t₂.0 in
      let none = sym (turn_fault-plain [] (one_path b keeps s).held 2 keeps argument v refl) ∙ stray in
      absurd (cc none)

  one_socket : (others : List Text) → are_plain others ≡ true → leaf_fault keeps (folder_options_of l r g i f ++ others) ≡ []
      → (s : Text) × (others ≡ s ∷ [])
  one_socket [] q e = absurd (keep_alone e)
  one_socket (s ∷ []) q e = (s, refl)
  one_socket (s ∷ argument ∷ arguments) q e =
      let p₂ = and_parts (is_plain s) (are_plain (argument ∷ arguments)) q in
      let p₃ = and_parts (is_plain argument) (are_plain arguments) p₂.1 in
      absurd (keep_more s argument arguments p₂.0 p₃.0 e)

-- the fault of `serve` with a folder, in that of the whole
leaf_fault-none : (arguments : List Text) → built_fault folder_parser nothing_held (codes "serve" ∷ arguments) ≡ [] → leaf_fault keeps arguments ≡ []
leaf_fault-none arguments e =
    let stop = (top_walk (codes "serve" ∷ arguments)).stopped in
    sym (ap (entered_fault folder_parser) (stops_at_serve arguments))
    ∙ (after_below folder_parser.top names (codes "serve" ∷ arguments) (is_some (entered folder_parser stop)) (entered_fault folder_parser stop) e).0

storage_in-options : (l : LeftOpen) (r : Replies) (g i : Option Text) (f : Text) (others : List Text)
    → storage_in (codes "serve" ∷ folder_options_of l r g i f ++ others) ≡ Folder
storage_in-options l r g i f others = refl

-- after the options of a folder a single plain argument is accepted
pub asks_to_keep : (arguments : List Text) (l : LeftOpen) (r : Replies) (g i : Option Text) (f : Text) (others : List Text)
    → are_plain (f ∷ given g ++ given i ++ others) ≡ true → drop 1 arguments ≡ codes "serve" ∷ folder_options_of l r g i f ++ others
    → fault_of (app_for arguments) arguments ≡ [] → (s : Text) × (others ≡ s ∷ [])
asks_to_keep arguments l r g i f others p e none =
    let plain = plain_parts f g i others p in
    let whole : fault_at (codes "serve" ∷ folder_options_of l r g i f ++ others) ≡ [] = sym (ap fault_at e) ∙ none in
    let folder : built_fault folder_parser nothing_held (codes "serve" ∷ folder_options_of l r g i f ++ others) ≡ [] =
    sym (ap (λ storage. built_fault (built (ssi_app storage)) nothing_held (codes "serve" ∷ folder_options_of l r g i f ++ others))
    (storage_in-options l r g i f others)) ∙ whole in
    one_socket l r g i f plain.0 plain.1 plain.2 others plain.3 (leaf_fault-none (folder_options_of l r g i f ++ others) folder)

-- ---- no `--concurrent` beside the folder

no_concurrent : arg_by_long keeps.rules (codes "concurrent") ≡ None
unfolding clap_on_literals
no_concurrent = refl

one_or_none : (b : Bool) (a : Rule) → a.trailing_var_arg ≡ false
    → option_map_or (λ r. r.trailing_var_arg) (cond b (Some a) None) false ≡ false
one_or_none true a e = e
one_or_none false a e = refl

none_trailing : (i : ℕ) → option_map_or (λ r. r.trailing_var_arg) (arg_by_index keeps.rules i) false ≡ false
none_trailing i = one_or_none (1 == i) (slice_index_or keeps.rules 0 help_rule) refl

by_serve : (serves has_data : Bool) → storage_by serves has_data ≡ Folder → serves ≡ true
by_serve true has_data e = refl
by_serve false has_data e = absurd (cc e)

-- the arguments of a store that is kept in a folder are those of `serve`
serves : (arguments : List Text) → storage_in arguments ≡ Folder → (rest : List Text) × (arguments ≡ codes "serve" ∷ rest)
serves [] e = absurd (cc e)
serves (command ∷ rest) e =
    let named = by_serve (bytes_eq command (codes "serve")) (has_option (codes "--data") rest) e in
    (rest, ap (λ name. name ∷ rest) ((bytes_eq-Decides command (codes "serve")).0 named))

-- beside a folder the option `--concurrent` is a fault
pub keeps_at_once : (arguments : List Text) → fault_of (app_for arguments) arguments ≡ [] → storage_in (drop 1 arguments) ≡ Folder
    → has_option (codes "--concurrent") (drop 1 arguments) ≡ true → ⊥
keeps_at_once arguments none folder has =
    let command = serves (drop 1 arguments) folder in
    let fault : built_fault folder_parser nothing_held (drop 1 arguments) ≡ [] =
    sym (ap (λ storage. built_fault (built (ssi_app storage)) nothing_held (drop 1 arguments)) folder) ∙ none in
    let leaf = leaf_fault-none command.0 (sym (ap (built_fault folder_parser nothing_held) command.1) ∙ fault) in
    unknown_option keeps 99 (codes "oncurrent") no_concurrent none_trailing command.0 nothing_held idle 1
    (sym (ap (has_option (codes "--concurrent")) command.1) ∙ has) (after_walk keeps [] command.0 false [] leaf).0
