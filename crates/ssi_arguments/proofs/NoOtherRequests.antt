-- That the parser accepts only the arguments of requests, if none of them begins with a hyphen.
use Rattle.std.proofs.Common.{◌≡◌, ◌∙◌, Bool, true, false, List, [], ◌∷◌, refl, sym, ap, codes, drop, subst}
use Rattle.std.specs.Prelude.{None, is_some}
use Rattle.std.specs.Str.{bytes_eq}
use Rattle.std.proofs.lemmas.Bool.{and_parts}
use Rattle.std.proofs.lemmas.Slice.Eq.{bytes_eq-Decides}
use Rattle.clap.specs.Walk.{Held, Names, Text, Walk, finished, idle, nothing_held, settled, subcommand_met, walk, walked}
use Rattle.clap.specs.Simple.{Shape, built, entered}
use Rattle.clap.specs.Kinds.{Kinds, or_else}
use Rattle.clap.specs.Faults.{built_fault, check_fault, defaults_fault, entered_fault, fault_of, is_simple_and_free, level_fault, settle_fault, turn_fault, walk_fault}
use Rattle.clap.specs.declared.error.kind.ErrorKind.TheVariants.{DisplayHelp, DisplayVersion}
use Rattle.clap.proofs.OnLiterals.{clap_on_literals}
use Rattle.ssi_arguments.specs.Clauses.Arguments.{Request, pipe, audit, order, script, serve, seal, are_plain, is_plain, arguments_of}
use Rattle.ssi_arguments.specs.declared.arguments.Manner.TheVariants.{InTurn}
use Rattle.ssi_arguments.specs.declared.storage.Storage.{Storage}
use Rattle.ssi_arguments.specs.declared.storage.Storage.TheVariants.{Files, Folder}
use Rattle.ssi_arguments.specs.Clauses.CommandLine.{app_for, ssi_app}
use Rattle.ssi_arguments.specs.Clauses.Storage.{storage_in}
use Rattle.ssi_arguments.proofs.CommandWalks.{names, orders, pairs, parser, seals, serves, top_walk, stops_at_audit, stops_at_order, stops_at_script, stops_at_seal, stops_at_serve}
use Rattle.ssi_arguments.proofs.PlainArguments.{at, turn_fault-plain}
use Rattle.ssi_arguments.proofs.StorageLemmas.{storage_in-plain}
use Rattle.ssi_arguments.proofs.TakesRequests.{one_path, two_paths, three_paths, path_plain, paths_plain, walk_one, walk_two, walk_front, walk_three}

-- ---- no fault of the whole is none of its parts

no_fault : (a b : Kinds) → or_else a b ≡ [] → (a ≡ []) × (b ≡ [])
no_fault [] b e = (refl, e)
no_fault (k ∷ ks) b e = absurd (cc e)

module _ (s : Shape) (ns : Names) (arguments : List Text) where
  abbrev end : Held
  end = (walk s.rules ns nothing_held arguments).held

  abbrev walks : Kinds
  walks = walk_fault s ns (at nothing_held 1) arguments

  abbrev settles : Kinds
  settles = settle_fault s.rules s.args_override_self end

  abbrev defaults : Kinds
  defaults = defaults_fault (settled s.rules end).rows s.rules

  abbrev checks : Bool → Kinds
  checks has = check_fault s (finished s.rules end) has

  module _ (has : Bool) (below : Kinds) (e : level_fault s ns nothing_held arguments has below ≡ []) where
    pub after_walk : (walks ≡ []) × (or_else below (or_else settles (or_else defaults (checks has))) ≡ [])
    after_walk = no_fault walks (or_else below (or_else settles (or_else defaults (checks has)))) e

    pub after_below : (below ≡ []) × (or_else settles (or_else defaults (checks has)) ≡ [])
    after_below = no_fault below (or_else settles (or_else defaults (checks has))) after_walk.1

    pub no_check : checks has ≡ []
    no_check = (no_fault defaults (checks has) (no_fault settles (or_else defaults (checks has)) after_below.1).1).1

pub first_turn : (s : Shape) (ns : Names) (w : Walk) (argument : Text) (arguments : List Text)
    → walk_fault s ns w (argument ∷ arguments) ≡ []
    → (turn_fault s ns w argument ≡ []) × (walk_fault s ns (walked s.rules ns w argument) arguments ≡ [])
unfolding walk_fault
first_turn s ns w argument arguments e =
    no_fault (turn_fault s ns w argument) (walk_fault s ns (walked s.rules ns w argument) arguments) e

-- ---- the paths

abbrev pub leaf_fault : Shape → List Text → Kinds
leaf_fault s arguments = level_fault s [] nothing_held arguments false []

pair_alone : (name : Text) → leaf_fault (pairs name) [] ≡ [] → ⊥
unfolding clap_on_literals
pair_alone name e = absurd (cc e)

serve_alone : leaf_fault serves [] ≡ [] → ⊥
unfolding clap_on_literals
serve_alone e = absurd (cc e)

order_alone : leaf_fault orders [] ≡ [] → ⊥
unfolding clap_on_literals
order_alone e = absurd (cc e)

seal_alone : leaf_fault seals [] ≡ [] → ⊥
unfolding clap_on_literals
seal_alone e = absurd (cc e)

pair_one : (name h : Text) → is_plain h ≡ true → leaf_fault (pairs name) (h ∷ []) ≡ [] → ⊥
pair_one name h p e =
    let shape = pairs name in
    let missing = ap (λ w. check_fault shape (finished shape.rules w.held) false) (walk_one nothing_held shape h p) in
    let none : check_fault shape (finished shape.rules (one_path nothing_held shape h).held) false ≡ [] =
    sym missing ∙ no_check shape [] (h ∷ []) false [] e in
    absurd (cc none)

serve_one : (s : Text) → is_plain s ≡ true → leaf_fault serves (s ∷ []) ≡ [] → ⊥
serve_one s p e =
    let missing = ap (λ w. check_fault serves (finished serves.rules w.held) false) (walk_one nothing_held serves s p) in
    let none : check_fault serves (finished serves.rules (one_path nothing_held serves s).held) false ≡ [] =
    sym missing ∙ no_check serves [] (s ∷ []) false [] e in
    absurd (cc none)

serve_two : (s h : Text) → is_plain s ≡ true → is_plain h ≡ true → leaf_fault serves (s ∷ h ∷ []) ≡ [] → ⊥
serve_two s h p q e =
    let missing = ap (λ w. check_fault serves (finished serves.rules w.held) false) (walk_front nothing_held s h p q) in
    let none : check_fault serves (finished serves.rules (two_paths nothing_held serves s h).held) false ≡ [] =
    sym missing ∙ no_check serves [] (s ∷ h ∷ []) false [] e in
    absurd (cc none)

-- an argument too many for the subcommand
pair_more : (name h c argument : Text) (arguments : List Text) → are_plain (h ∷ c ∷ argument ∷ arguments) ≡ true
    → leaf_fault (pairs name) (h ∷ c ∷ argument ∷ arguments) ≡ [] → ⊥
pair_more name h c argument arguments p e =
    let shape = pairs name in
    let p₁ = and_parts (is_plain h) (are_plain (c ∷ argument ∷ arguments)) p in
    let p₂ = and_parts (is_plain c) (are_plain (argument ∷ arguments)) p₁.1 in
    let p₃ = and_parts (is_plain argument) (are_plain arguments) p₂.1 in
    let t₁ = first_turn shape [] (at nothing_held 1) h (c ∷ argument ∷ arguments)
    (after_walk shape [] (h ∷ c ∷ argument ∷ arguments) false [] e).0 in
    let t₂ = first_turn shape [] (walked shape.rules [] (at nothing_held 1) h) c (argument ∷ arguments) t₁.1 in
    let w₂ = walked shape.rules [] (walked shape.rules [] (at nothing_held 1) h) c in
    let t₃ = first_turn shape [] w₂ argument arguments t₂.1 in
    let stray : turn_fault shape [] (two_paths nothing_held shape h c) argument ≡ [] =
    sym (ap (λ w. turn_fault shape [] w argument) (walk_two nothing_held name h c p₁.0 p₂.0)) ∙ t₃.0 in
    let none = sym (turn_fault-plain [] (two_paths nothing_held shape h c).held 3 shape argument p₃.0 refl) ∙ stray in
    absurd (cc none)

serve_more : (s h c argument : Text) (arguments : List Text) → are_plain (s ∷ h ∷ c ∷ argument ∷ arguments) ≡ true
    → leaf_fault serves (s ∷ h ∷ c ∷ argument ∷ arguments) ≡ [] → ⊥
serve_more s h c argument arguments p e =
    let p₁ = and_parts (is_plain s) (are_plain (h ∷ c ∷ argument ∷ arguments)) p in
    let p₂ = and_parts (is_plain h) (are_plain (c ∷ argument ∷ arguments)) p₁.1 in
    let p₃ = and_parts (is_plain c) (are_plain (argument ∷ arguments)) p₂.1 in
    let p₄ = and_parts (is_plain argument) (are_plain arguments) p₃.1 in
    let w₁ = walked serves.rules [] (at nothing_held 1) s in
    let w₂ = walked serves.rules [] w₁ h in
    let w₃ = walked serves.rules [] w₂ c in
    let t₁ = first_turn serves [] (at nothing_held 1) s (h ∷ c ∷ argument ∷ arguments)
    (after_walk serves [] (s ∷ h ∷ c ∷ argument ∷ arguments) false [] e).0 in
    let t₂ = first_turn serves [] w₁ h (c ∷ argument ∷ arguments) t₁.1 in
    let t₃ = first_turn serves [] w₂ c (argument ∷ arguments) t₂.1 in
    let t₄ = first_turn serves [] w₃ argument arguments t₃.1 in
    let stray : turn_fault serves [] (three_paths nothing_held s h c) argument ≡ [] =
    sym (ap (λ w. turn_fault serves [] w argument) (walk_three nothing_held s h c p₁.0 p₂.0 p₃.0)) ∙ t₄.0 in
    let none = sym (turn_fault-plain [] (three_paths nothing_held s h c).held 4 serves argument p₄.0 refl) ∙ stray in
    absurd (cc none)

order_more : (h argument : Text) (arguments : List Text) → are_plain (h ∷ argument ∷ arguments) ≡ true
    → leaf_fault orders (h ∷ argument ∷ arguments) ≡ [] → ⊥
order_more h argument arguments p e =
    let p₁ = and_parts (is_plain h) (are_plain (argument ∷ arguments)) p in
    let p₂ = and_parts (is_plain argument) (are_plain arguments) p₁.1 in
    let t₁ = first_turn orders [] (at nothing_held 1) h (argument ∷ arguments)
    (after_walk orders [] (h ∷ argument ∷ arguments) false [] e).0 in
    let t₂ = first_turn orders [] (walked orders.rules [] (at nothing_held 1) h) argument arguments t₁.1 in
    let stray : turn_fault orders [] (one_path nothing_held orders h) argument ≡ [] =
    sym (ap (λ w. turn_fault orders [] w argument) (walk_one nothing_held orders h p₁.0)) ∙ t₂.0 in
    let none = sym (turn_fault-plain [] (one_path nothing_held orders h).held 2 orders argument p₂.0 refl) ∙ stray in
    absurd (cc none)

seal_more : (f argument : Text) (arguments : List Text) → are_plain (f ∷ argument ∷ arguments) ≡ true
    → leaf_fault seals (f ∷ argument ∷ arguments) ≡ [] → ⊥
seal_more f argument arguments p e =
    let p₁ = and_parts (is_plain f) (are_plain (argument ∷ arguments)) p in
    let p₂ = and_parts (is_plain argument) (are_plain arguments) p₁.1 in
    let t₁ = first_turn seals [] (at nothing_held 1) f (argument ∷ arguments)
    (after_walk seals [] (f ∷ argument ∷ arguments) false [] e).0 in
    let t₂ = first_turn seals [] (walked seals.rules [] (at nothing_held 1) f) argument arguments t₁.1 in
    let stray : turn_fault seals [] (one_path nothing_held seals f) argument ≡ [] =
    sym (ap (λ w. turn_fault seals [] w argument) (walk_one nothing_held seals f p₁.0)) ∙ t₂.0 in
    let none = sym (turn_fault-plain [] (one_path nothing_held seals f).held 2 seals argument p₂.0 refl) ∙ stray in
    absurd (cc none)

-- ---- the name of the subcommand

abbrev whole_fault : List Text → Kinds
whole_fault arguments = built_fault parser nothing_held arguments

top_turn : (argument : Text) (arguments : List Text) → whole_fault (argument ∷ arguments) ≡ []
    → turn_fault parser.top names (at nothing_held 1) argument ≡ []
top_turn argument arguments e =
    let stop = (top_walk (argument ∷ arguments)).stopped in
    (first_turn parser.top names (at nothing_held 1) argument arguments
    (after_walk parser.top names (argument ∷ arguments) (is_some (entered parser stop)) (entered_fault parser stop) e).0).0

leaf_of : (argument : Text) (arguments : List Text) → whole_fault (argument ∷ arguments) ≡ []
    → entered_fault parser (top_walk (argument ∷ arguments)).stopped ≡ []
leaf_of argument arguments e =
    let stop = (top_walk (argument ∷ arguments)).stopped in
    (after_below parser.top names (argument ∷ arguments) (is_some (entered parser stop)) (entered_fault parser stop) e).0

help_faults : (arguments : List Text) → whole_fault (codes "help" ∷ arguments) ≡ [] → ⊥
help_faults arguments e = absurd (cc (top_turn (codes "help") arguments e))

other_faults : (argument : Text) (arguments : List Text) → is_plain argument ≡ true → subcommand_met names idle argument ≡ None
    → whole_fault (argument ∷ arguments) ≡ [] → ⊥
other_faults argument arguments p m e =
    let none = sym (turn_fault-plain names nothing_held 1 parser.top argument p m) ∙ top_turn argument arguments e in
    absurd (cc none)

-- ---- the whole

-- the arguments are those of a request
abbrev pub Ask : List Text → Type 0
Ask arguments = (r : Request) × (arguments ≡ arguments_of r)

-- two paths after a name, if these are the arguments of some request
asks_pair : (name : Text) → ((h c : Text) → Ask (name ∷ h ∷ c ∷ [])) → (arguments : List Text) → are_plain arguments ≡ true
    → leaf_fault (pairs name) arguments ≡ [] → Ask (name ∷ arguments)
asks_pair name ask [] p e = absurd (pair_alone name e)
asks_pair name ask (h ∷ []) p e = absurd (pair_one name h (path_plain h p) e)
asks_pair name ask (h ∷ c ∷ []) p e = ask h c
asks_pair name ask (h ∷ c ∷ argument ∷ arguments) p e = absurd (pair_more name h c argument arguments p e)

asks_serve : (arguments : List Text) → are_plain arguments ≡ true → leaf_fault serves arguments ≡ [] → Ask (codes "serve" ∷ arguments)
asks_serve [] p e = absurd (serve_alone e)
asks_serve (s ∷ []) p e = absurd (serve_one s (path_plain s p) e)
asks_serve (s ∷ h ∷ []) p e = let plain = paths_plain s h p in absurd (serve_two s h plain.0 plain.1 e)
asks_serve (s ∷ h ∷ c ∷ []) p e = (serve InTurn s h c, refl)
asks_serve (s ∷ h ∷ c ∷ argument ∷ arguments) p e = absurd (serve_more s h c argument arguments p e)

asks_order : (arguments : List Text) → are_plain arguments ≡ true → leaf_fault orders arguments ≡ [] → Ask (codes "order" ∷ arguments)
asks_order [] p e = absurd (order_alone e)
asks_order (h ∷ []) p e = (order h, refl)
asks_order (h ∷ argument ∷ arguments) p e = absurd (order_more h argument arguments p e)

asks_seal : (arguments : List Text) → are_plain arguments ≡ true → leaf_fault seals arguments ≡ [] → Ask (codes "seal" ∷ arguments)
asks_seal [] p e = absurd (seal_alone e)
asks_seal (f ∷ []) p e = (seal f, refl)
asks_seal (f ∷ argument ∷ arguments) p e = absurd (seal_more f argument arguments p e)

audit_words : (arguments : List Text) → are_plain arguments ≡ true → whole_fault (codes "audit" ∷ arguments) ≡ []
    → Ask (codes "audit" ∷ arguments)
audit_words arguments p e = asks_pair (codes "audit") (λ h c. (audit h c, refl)) arguments p
    (sym (ap (entered_fault parser) (stops_at_audit arguments)) ∙ leaf_of (codes "audit") arguments e)

order_words : (arguments : List Text) → are_plain arguments ≡ true → whole_fault (codes "order" ∷ arguments) ≡ []
    → Ask (codes "order" ∷ arguments)
order_words arguments p e = asks_order arguments p
    (sym (ap (entered_fault parser) (stops_at_order arguments)) ∙ leaf_of (codes "order") arguments e)

script_words : (arguments : List Text) → are_plain arguments ≡ true → whole_fault (codes "script" ∷ arguments) ≡ []
    → Ask (codes "script" ∷ arguments)
script_words arguments p e = asks_pair (codes "script") (λ h c. (script h c, refl)) arguments p
    (sym (ap (entered_fault parser) (stops_at_script arguments)) ∙ leaf_of (codes "script") arguments e)

serve_words : (arguments : List Text) → are_plain arguments ≡ true → whole_fault (codes "serve" ∷ arguments) ≡ []
    → Ask (codes "serve" ∷ arguments)
serve_words arguments p e = asks_serve arguments p
    (sym (ap (entered_fault parser) (stops_at_serve arguments)) ∙ leaf_of (codes "serve") arguments e)

seal_words : (arguments : List Text) → are_plain arguments ≡ true → whole_fault (codes "seal" ∷ arguments) ≡ []
    → Ask (codes "seal" ∷ arguments)
seal_words arguments p e = asks_seal arguments p
    (sym (ap (entered_fault parser) (stops_at_seal arguments)) ∙ leaf_of (codes "seal") arguments e)

module _ (argument : Text) (arguments : List Text) where
  abbrev Reads : Text → Type 0
  Reads name = are_plain (name ∷ arguments) ≡ true → whole_fault (name ∷ arguments) ≡ [] → Ask (name ∷ arguments)

  named : (name : Text) → bytes_eq name argument ≡ true → Reads name → Reads argument
  named name same reads = subst Reads ((bytes_eq-Decides name argument).0 same) reads

  reads : (a o c v l h : Bool) → bytes_eq (codes "audit") argument ≡ a → bytes_eq (codes "order") argument ≡ o
      → bytes_eq (codes "script") argument ≡ c → bytes_eq (codes "serve") argument ≡ v → bytes_eq (codes "seal") argument ≡ l
      → bytes_eq (codes "help") argument ≡ h → Reads argument
  reads true o c v l h ea eo ec ev el eh = named (codes "audit") ea (audit_words arguments)
  reads false true c v l h ea eo ec ev el eh = named (codes "order") eo (order_words arguments)
  reads false false true v l h ea eo ec ev el eh = named (codes "script") ec (script_words arguments)
  reads false false false true l h ea eo ec ev el eh = named (codes "serve") ev (serve_words arguments)
  reads false false false false true h ea eo ec ev el eh = named (codes "seal") el (seal_words arguments)
  reads false false false false false true ea eo ec ev el eh = named (codes "help") eh (λ p e. absurd (help_faults arguments e))
  reads false false false false false false ea eo ec ev el eh = λ p e.
      absurd (other_faults argument arguments (and_parts (is_plain argument) (are_plain arguments) p).0 (rw (ea, eo, ec, ev, el, eh) refl) e)

asks : (arguments : List Text) → are_plain arguments ≡ true → whole_fault arguments ≡ [] → Ask arguments
asks [] p e = (pipe, refl)
asks (argument ∷ arguments) p e = reads argument arguments _ _ _ _ _ _ refl refl refl refl refl refl p e

pub simple_and_free : (storage : Storage) → is_simple_and_free (ssi_app storage) ≡ true
unfolding clap_on_literals
simple_and_free Files = refl
simple_and_free Folder = refl

-- the fault at these arguments, which the program's name isn't among
abbrev pub fault_at : List Text → Kinds
fault_at arguments = built_fault (built (ssi_app (storage_in arguments))) nothing_held arguments

-- arguments at which the parser has no fault are those of a request
pub asks_request : (arguments : List Text) → are_plain (drop 1 arguments) ≡ true → fault_of (app_for arguments) arguments ≡ []
    → Ask (drop 1 arguments)
asks_request arguments p e = asks (drop 1 arguments) p
    (sym (ap (λ storage. built_fault (built (ssi_app storage)) nothing_held (drop 1 arguments)) (storage_in-plain (drop 1 arguments) p)) ∙ e)

help_fault : fault_at (codes "--help" ∷ []) ≡ DisplayHelp ∷ []
unfolding clap_on_literals
help_fault = refl

-- the fault at the option `--help` is help
pub shows_help : (arguments : List Text) → drop 1 arguments ≡ codes "--help" ∷ []
    → fault_of (app_for arguments) arguments ≡ DisplayHelp ∷ []
shows_help arguments e = ap fault_at e ∙ help_fault

version_fault : fault_at (codes "--version" ∷ []) ≡ DisplayVersion ∷ []
unfolding clap_on_literals
version_fault = refl

-- the fault at the option `--version` is the version
pub shows_version : (arguments : List Text) → drop 1 arguments ≡ codes "--version" ∷ []
    → fault_of (app_for arguments) arguments ≡ DisplayVersion ∷ []
shows_version arguments e = ap fault_at e ∙ version_fault
