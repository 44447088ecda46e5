-- That the parser accepts the arguments of each request that keeps nothing in a folder, and finds the request in them.
use Rattle.std.proofs.Common.{◌≡◌, ◌∙◌, ◌&&◌, Bool, true, false, List, [], ◌∷◌, ◌++◌, refl, ap, ap₂, codes}
use Rattle.std.specs.Prelude.{Some}
use Rattle.std.specs.List.{fold, list_all}
use Rattle.std.proofs.lemmas.Bool.{and_parts}
use Rattle.clap.specs.Walk.{Held, Text, Walk, value, arg_by_index, finished, nothing_held, to_positional, walk, walked}
use Rattle.clap.specs.Simple.{Shape, entered}
use Rattle.clap.specs.Takes.{built_takes, default_passes, is_valid, level_passes, settle_passes, step_passes, turn_passes, walk_passes}
use Rattle.clap.proofs.OnLiterals.{clap_on_literals}
use Rattle.ssi_arguments.specs.Clauses.Arguments.{Request, pipe, audit, order, script, serve, keep, seal, are_plain, is_plain, arguments_of, options_of, paths_of, storage_for}
use Rattle.ssi_arguments.specs.declared.arguments.Manner.{Manner}
use Rattle.ssi_arguments.specs.declared.arguments.Manner.TheVariants.{InTurn, AtOnce, Aborting}
use Rattle.ssi_arguments.specs.declared.storage.Storage.TheVariants.{Files}
use Rattle.ssi_arguments.specs.Clauses.CommandLine.{request_in}
use Rattle.ssi_arguments.proofs.CommandWalks.{audits, names, orders, pairs, parser, scripts, seals, serves, top_walk}
use Rattle.ssi_arguments.proofs.CommandWalks.{stops_at_audit, stops_at_order, stops_at_script, stops_at_seal, stops_at_serve}
use Rattle.ssi_arguments.proofs.PlainArguments.{at, turn_passes-plain, walked-plain}

-- ---- up to the name of the command

abbrev top_passes : List Text → Bool
top_passes arguments = level_passes parser.top names nothing_held arguments true

takes_none : built_takes parser nothing_held [] ≡ true
unfolding clap_on_literals
takes_none = refl

passes_to_audit : (h c : Text) → top_passes (arguments_of (audit h c)) ≡ true
unfolding clap_on_literals
passes_to_audit h c = refl

passes_to_order : (h : Text) → top_passes (arguments_of (order h)) ≡ true
unfolding clap_on_literals
passes_to_order h = refl

passes_to_seal : (f : Text) → top_passes (arguments_of (seal f)) ≡ true
unfolding clap_on_literals
passes_to_seal f = refl

passes_to_script : (h c : Text) → top_passes (arguments_of (script h c)) ≡ true
unfolding clap_on_literals
passes_to_script h c = refl

passes_to_serve : (m : Manner) (s h c : Text) → top_passes (arguments_of (serve m s h c)) ≡ true
unfolding clap_on_literals
passes_to_serve InTurn s h c = refl
passes_to_serve AtOnce s h c = refl
passes_to_serve Aborting s h c = refl

-- ---- the paths

-- the walks over them, after options that left this
module _ (b : Held) where
  abbrev pub one_path : Shape → Text → Walk
  one_path s h = to_positional s.rules (arg_by_index s.rules 1) h (at b 1) b

  abbrev pub two_paths : Shape → Text → Text → Walk
  two_paths s h c = to_positional s.rules (arg_by_index s.rules 2) c (one_path s h) (one_path s h).held

  abbrev pub three_paths : Text → Text → Text → Walk
  three_paths s h c =
      to_positional serves.rules (arg_by_index serves.rules 3) c (two_paths serves s h) (two_paths serves s h).held

  pub walk_one : (s : Shape) (h : Text) → is_plain h ≡ true → walked s.rules [] (at b 1) h ≡ one_path s h
  walk_one s h p = walked-plain [] b 1 s.rules h p refl

  module _ (name h c : Text) (p : is_plain h ≡ true) (q : is_plain c ≡ true) where
    pub walk_two : walked (pairs name).rules [] (walked (pairs name).rules [] (at b 1) h) c ≡ two_paths (pairs name) h c
    walk_two = ap (λ w. walked (pairs name).rules [] w c) (walk_one (pairs name) h p)
        ∙ walked-plain [] (one_path (pairs name) h).held 2 (pairs name).rules c q refl

    passes_first : step_passes (pairs name) 1 b value ≡ true → turn_passes (pairs name) [] (at b 1) h ≡ true
    passes_first step = turn_passes-plain [] b 1 (pairs name) h p refl ∙ step

    passes_second : step_passes (pairs name) 2 (one_path (pairs name) h).held value ≡ true
        → turn_passes (pairs name) [] (walked (pairs name).rules [] (at b 1) h) c ≡ true
    passes_second step = ap (λ w. turn_passes (pairs name) [] w c) (walk_one (pairs name) h p)
        ∙ turn_passes-plain [] (one_path (pairs name) h).held 2 (pairs name) c q refl ∙ step

  pub walk_front : (s h : Text) → is_plain s ≡ true → is_plain h ≡ true
      → walked serves.rules [] (walked serves.rules [] (at b 1) s) h ≡ two_paths serves s h
  walk_front s h p q = ap (λ w. walked serves.rules [] w h) (walk_one serves s p)
      ∙ walked-plain [] (one_path serves s).held 2 serves.rules h q refl

  module _ (s h c : Text) (p : is_plain s ≡ true) (q : is_plain h ≡ true) (r : is_plain c ≡ true) where
    pub walk_three : walked serves.rules [] (walked serves.rules [] (walked serves.rules [] (at b 1) s) h) c ≡ three_paths s h c
    walk_three = ap (λ w. walked serves.rules [] w c) (walk_front s h p q)
        ∙ walked-plain [] (two_paths serves s h).held 3 serves.rules c r refl

    serve_first : step_passes serves 1 b value ≡ true → turn_passes serves [] (at b 1) s ≡ true
    serve_first step = turn_passes-plain [] b 1 serves s p refl ∙ step

    serve_second : step_passes serves 2 (one_path serves s).held value ≡ true
        → turn_passes serves [] (walked serves.rules [] (at b 1) s) h ≡ true
    serve_second step = ap (λ w. turn_passes serves [] w h) (walk_one serves s p)
        ∙ turn_passes-plain [] (one_path serves s).held 2 serves h q refl ∙ step

    serve_third : step_passes serves 3 (two_paths serves s h).held value ≡ true
        → turn_passes serves [] (walked serves.rules [] (walked serves.rules [] (at b 1) s) h) c ≡ true
    serve_third step = ap (λ w. turn_passes serves [] w c) (walk_front s h p q)
        ∙ turn_passes-plain [] (two_paths serves s h).held 3 serves c r refl ∙ step

-- what is checked after the walk
abbrev pub ends_well : Shape → Walk → Bool
ends_well s w = settle_passes s.rules s.args_override_self w.held
    && (list_all default_passes s.rules && is_valid s (finished s.rules w.held) false)

passes_order : (h : Text) → is_plain h ≡ true → level_passes orders [] nothing_held (h ∷ []) false ≡ true
unfolding walk_passes
passes_order h p = ap₂ (λ a b. (a && true) && b)
    (turn_passes-plain [] nothing_held 1 orders h p refl)
    (ap (ends_well orders) (walk_one nothing_held orders h p))

passes_seal : (f : Text) → is_plain f ≡ true → level_passes seals [] nothing_held (f ∷ []) false ≡ true
unfolding walk_passes
passes_seal f p = ap₂ (λ a b. (a && true) && b)
    (turn_passes-plain [] nothing_held 1 seals f p refl)
    (ap (ends_well seals) (walk_one nothing_held seals f p))

passes_pair : (name h c : Text) → is_plain h ≡ true → is_plain c ≡ true
    → level_passes (pairs name) [] nothing_held (h ∷ c ∷ []) false ≡ true
unfolding walk_passes
passes_pair name h c p q = ap₂ (λ a b. a && b)
    (ap₂ (λ a b. a && (b && true)) (passes_first nothing_held name h c p q refl) (passes_second nothing_held name h c p q refl))
    (ap (ends_well (pairs name)) (walk_two nothing_held name h c p q))

-- ---- the options before the paths of `serve`

-- what they leave
abbrev flagged : Manner → Held
flagged m = (fold (walked serves.rules []) (at nothing_held 1) (options_of m)).held

after_options : (m : Manner) → fold (walked serves.rules []) (at nothing_held 1) (options_of m) ≡ at (flagged m) 1
unfolding clap_on_literals
after_options InTurn = refl
after_options AtOnce = refl
after_options Aborting = refl

walks_on : (m : Manner) (arguments : List Text) → walk serves.rules [] nothing_held (options_of m ++ arguments)
    ≡ fold (walked serves.rules []) (at (flagged m) 1) arguments
walks_on InTurn arguments = refl
walks_on AtOnce arguments = ap (λ w. fold (walked serves.rules []) w arguments) (after_options AtOnce)
walks_on Aborting arguments = ap (λ w. fold (walked serves.rules []) w arguments) (after_options Aborting)

passes_concurrent : turn_passes serves [] (at nothing_held 1) (codes "--concurrent") ≡ true
unfolding clap_on_literals
passes_concurrent = refl

passes_abort_on_close : turn_passes serves [] (walked serves.rules [] (at nothing_held 1) (codes "--concurrent"))
    (codes "--abort-on-close") ≡ true
unfolding clap_on_literals
passes_abort_on_close = refl

pass_on : (m : Manner) (arguments : List Text) → walk_passes serves [] (at (flagged m) 1) arguments ≡ true
    → walk_passes serves [] (at nothing_held 1) (options_of m ++ arguments) ≡ true
unfolding walk_passes
pass_on InTurn arguments e = e
pass_on AtOnce arguments e = ap₂ (λ a b. a && b) passes_concurrent
    (ap (λ w. walk_passes serves [] w arguments) (after_options AtOnce) ∙ e)
pass_on Aborting arguments e = ap₂ (λ a b. a && b) passes_concurrent
    (ap₂ (λ a b. a && b) passes_abort_on_close
    (ap (λ w. walk_passes serves [] w arguments) (after_options Aborting) ∙ e))

passes_one : (m : Manner) → step_passes serves 1 (flagged m) value ≡ true
unfolding clap_on_literals
passes_one InTurn = refl
passes_one AtOnce = refl
passes_one Aborting = refl

passes_two : (m : Manner) (s : Text) → step_passes serves 2 (one_path (flagged m) serves s).held value ≡ true
unfolding clap_on_literals
passes_two InTurn s = refl
passes_two AtOnce s = refl
passes_two Aborting s = refl

passes_three : (m : Manner) (s h : Text) → step_passes serves 3 (two_paths (flagged m) serves s h).held value ≡ true
unfolding clap_on_literals
passes_three InTurn s h = refl
passes_three AtOnce s h = refl
passes_three Aborting s h = refl

serve_ends_well : (m : Manner) (s h c : Text) → ends_well serves (three_paths (flagged m) s h c) ≡ true
unfolding clap_on_literals
serve_ends_well InTurn s h c = refl
serve_ends_well AtOnce s h c = refl
serve_ends_well Aborting s h c = refl

found_serve : (m : Manner) (s h c : Text)
    → request_in Files (Some (codes "serve", finished serves.rules (three_paths (flagged m) s h c).held)) ≡ serve m s h c
unfolding clap_on_literals
found_serve InTurn s h c = refl
found_serve AtOnce s h c = refl
found_serve Aborting s h c = refl

module _ (m : Manner) (s h c : Text) (p : is_plain s ≡ true) (q : is_plain h ≡ true) (r : is_plain c ≡ true) where
  walk_serve : walk serves.rules [] nothing_held (options_of m ++ s ∷ h ∷ c ∷ []) ≡ three_paths (flagged m) s h c
  walk_serve = walks_on m (s ∷ h ∷ c ∷ []) ∙ walk_three (flagged m) s h c p q r

  paths_pass : walk_passes serves [] (at (flagged m) 1) (s ∷ h ∷ c ∷ []) ≡ true
  unfolding walk_passes
  paths_pass = ap₂ (λ a b. a && b) (serve_first (flagged m) s h c p q r (passes_one m))
      (ap₂ (λ a b. a && (b && true)) (serve_second (flagged m) s h c p q r (passes_two m s))
      (serve_third (flagged m) s h c p q r (passes_three m s h)))

  passes_serve : level_passes serves [] nothing_held (options_of m ++ s ∷ h ∷ c ∷ []) false ≡ true
  passes_serve = ap₂ (λ a b. a && b) (pass_on m (s ∷ h ∷ c ∷ []) paths_pass)
      (ap (ends_well serves) walk_serve ∙ serve_ends_well m s h c)

passes_audit : (h c : Text) → is_plain h ≡ true → is_plain c ≡ true
    → level_passes audits [] nothing_held (h ∷ c ∷ []) false ≡ true
passes_audit h c p q = passes_pair (codes "audit") h c p q

passes_script : (h c : Text) → is_plain h ≡ true → is_plain c ≡ true
    → level_passes scripts [] nothing_held (h ∷ c ∷ []) false ≡ true
passes_script h c p q = passes_pair (codes "script") h c p q

-- ---- the whole

-- a single path, two and three of them
pub path_plain : (h : Text) → are_plain (h ∷ []) ≡ true → is_plain h ≡ true
path_plain h p = (and_parts (is_plain h) true p).0

pub paths_plain : (h c : Text) → are_plain (h ∷ c ∷ []) ≡ true → (is_plain h ≡ true) × (is_plain c ≡ true)
paths_plain h c p = let parts = and_parts (is_plain h) (is_plain c && true) p in (parts.0, path_plain c parts.1)

pub all_plain : (s h c : Text) → are_plain (s ∷ h ∷ c ∷ []) ≡ true
    → (is_plain s ≡ true) × (is_plain h ≡ true) × (is_plain c ≡ true)
all_plain s h c p =
    let parts = and_parts (is_plain s) (are_plain (h ∷ c ∷ [])) p in
    let rest = paths_plain h c parts.1 in (parts.0, rest.0, rest.1)

pub taken : (r : Request) → storage_for r ≡ Files → are_plain (paths_of r) ≡ true
    → built_takes parser nothing_held (arguments_of r) ≡ true
taken pipe k p = takes_none
taken (audit h c) k p =
    let plain = paths_plain h c p in
    rw (stops_at_audit (h ∷ c ∷ []), passes_audit h c plain.0 plain.1, passes_to_audit h c) refl
taken (order h) k p = rw (stops_at_order (h ∷ []), passes_order h (path_plain h p), passes_to_order h) refl
taken (script h c) k p =
    let plain = paths_plain h c p in
    rw (stops_at_script (h ∷ c ∷ []), passes_script h c plain.0 plain.1, passes_to_script h c) refl
taken (serve m s h c) k p =
    let plain = all_plain s h c p in
    rw (stops_at_serve (options_of m ++ s ∷ h ∷ c ∷ []), passes_serve m s h c plain.0 plain.1 plain.2, passes_to_serve m s h c) refl
taken (keep l r g i s f) k p = absurd (cc k)
taken (seal f) k p = rw (stops_at_seal (f ∷ []), passes_seal f (path_plain f p), passes_to_seal f) refl

pub found : (r : Request) → storage_for r ≡ Files → are_plain (paths_of r) ≡ true
    → request_in Files (entered parser (top_walk (arguments_of r)).stopped) ≡ r
found pipe k p = refl
found (audit h c) k p =
    let plain = paths_plain h c p in
    ap (λ stop. request_in Files (entered parser stop)) (stops_at_audit (h ∷ c ∷ []))
    ∙ ap (λ w. request_in Files (Some (codes "audit", finished audits.rules w.held)))
    (walk_two nothing_held (codes "audit") h c plain.0 plain.1)
found (order h) k p =
    ap (λ stop. request_in Files (entered parser stop)) (stops_at_order (h ∷ []))
    ∙ ap (λ w. request_in Files (Some (codes "order", finished orders.rules w.held))) (walk_one nothing_held orders h (path_plain h p))
found (script h c) k p =
    let plain = paths_plain h c p in
    ap (λ stop. request_in Files (entered parser stop)) (stops_at_script (h ∷ c ∷ []))
    ∙ ap (λ w. request_in Files (Some (codes "script", finished scripts.rules w.held)))
    (walk_two nothing_held (codes "script") h c plain.0 plain.1)
found (serve m s h c) k p =
    let plain = all_plain s h c p in
    ap (λ stop. request_in Files (entered parser stop)) (stops_at_serve (options_of m ++ s ∷ h ∷ c ∷ []))
    ∙ ap (λ w. request_in Files (Some (codes "serve", finished serves.rules w.held)))
    (walk_serve m s h c plain.0 plain.1 plain.2)
    ∙ found_serve m s h c
found (keep l r g i s f) k p = absurd (cc k)
found (seal f) k p =
    ap (λ stop. request_in Files (entered parser stop)) (stops_at_seal (f ∷ []))
    ∙ ap (λ w. request_in Files (Some (codes "seal", finished seals.rules w.held))) (walk_one nothing_held seals f (path_plain f p))
