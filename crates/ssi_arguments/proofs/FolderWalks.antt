-- That the parser accepts the arguments of `serve` with a folder, and finds the request in them.
use Rattle.std.proofs.Common.{◌≡◌, ◌∙◌, ◌==◌, ◌&&◌, true, false, List, [], ◌∷◌, ◌++◌, refl, sym, ap, ap₂, append_assoc, arith, codes}
use Rattle.std.specs.Prelude.{Option, Some, None}
use Rattle.std.specs.List.{fold}
use Rattle.std.proofs.lemmas.Bool.{and_parts, not-true}
use Rattle.clap.specs.Walk.{Held, Text, Walk, value, finished, nothing_held, option, settled, walk, walked}
use Rattle.clap.specs.Simple.{entered}
use Rattle.clap.specs.Takes.{built_takes, level_passes, step_passes, turn_passes, walk_passes}
use Rattle.clap.proofs.OnLiterals.{clap_on_literals}
use Rattle.ssi_arguments.specs.Clauses.Arguments.{keep, are_plain, is_plain, arguments_of, folder_options_of, given, idle_option, left_open_option, paths_of, replies_option, segment_option}
use Rattle.ssi_arguments.specs.Clauses.CommandLine.{request_in}
use Rattle.ssi_arguments.specs.declared.arguments.LeftOpen.{LeftOpen}
use Rattle.ssi_arguments.specs.declared.arguments.LeftOpen.TheVariants.{Keep, Abort}
use Rattle.ssi_arguments.specs.declared.arguments.Replies.{Replies}
use Rattle.ssi_arguments.specs.declared.arguments.Replies.TheVariants.{Synced, Early}
use Rattle.ssi_arguments.specs.declared.storage.Storage.TheVariants.{Folder}
use Rattle.ssi_arguments.proofs.CommandWalks.{folder_parser, keeps, names, stops_at_serve, top_walk}
use Rattle.ssi_arguments.proofs.PlainArguments.{at, turn_passes-plain}
use Rattle.ssi_arguments.proofs.TakesRequests.{ends_well, one_path, walk_one}

-- ---- the options

-- the walk after an option of this name, with what is held
abbrev pub waiting_for : Text → Held → Walk
waiting_for name held = record {
  held = held;
  waiting = option name;
  position = 1;
  is_trailing = false;
  stopped = None;
}

-- what is held from the option `--data` on
abbrev pub data_held : List Text → Held
data_held values = record { rows = []; pending = Some (codes "data", values); skip = 0 }

-- what is held from the option `--segment` on
abbrev pub segment_held : Text → List Text → Held
segment_held f values = record (settled keeps.rules (data_held (f ∷ []))) { pending = Some (codes "segment", values) }

pub awaits_folder : walked keeps.rules [] (at nothing_held 1) (codes "--data") ≡ waiting_for (codes "data") (data_held [])
unfolding clap_on_literals
awaits_folder = refl

pub takes_folder : (f : Text) → is_plain f ≡ true
    → walked keeps.rules [] (waiting_for (codes "data") (data_held [])) f ≡ at (data_held (f ∷ [])) 1
unfolding walked
takes_folder [] p = refl
takes_folder (b ∷ bs) p = let e = not-true (b == 45) p in rw (e, e) refl

pub awaits_length : (f : Text) → walked keeps.rules [] (at (data_held (f ∷ [])) 1) (codes "--segment")
    ≡ waiting_for (codes "segment") (segment_held f [])
unfolding clap_on_literals
awaits_length f = refl

pub takes_length : (f n : Text) → is_plain n ≡ true
    → walked keeps.rules [] (waiting_for (codes "segment") (segment_held f [])) n ≡ at (segment_held f (n ∷ [])) 1
unfolding walked
takes_length f [] p = refl
takes_length f (b ∷ bs) p = let e = not-true (b == 45) p in rw (e, e) refl

-- what these two options leave
abbrev pub kept_held : Option Text → Text → Held
kept_held None f = data_held (f ∷ [])
kept_held (Some n) f = segment_held f (n ∷ [])

-- what is held from the option `--idle` on, after this
abbrev pub idle_held : Held → List Text → Held
idle_held h values = record (settled keeps.rules h) { pending = Some (codes "idle", values) }

pub awaits_seconds : (g : Option Text) (f : Text) → walked keeps.rules [] (at (kept_held g f) 1) (codes "--idle")
    ≡ waiting_for (codes "idle") (idle_held (kept_held g f) [])
unfolding clap_on_literals
awaits_seconds None f = refl
awaits_seconds (Some n) f = refl

pub takes_seconds : (h : Held) (n : Text) → is_plain n ≡ true
    → walked keeps.rules [] (waiting_for (codes "idle") (idle_held h [])) n ≡ at (idle_held h (n ∷ [])) 1
unfolding walked
takes_seconds h [] p = refl
takes_seconds h (b ∷ bs) p = let e = not-true (b == 45) p in rw (e, e) refl

-- what these three options leave
abbrev pub timed_held : (g i : Option Text) → Text → Held
timed_held g None f = kept_held g f
timed_held g (Some n) f = idle_held (kept_held g f) (n ∷ [])

-- what is held after an option without a value
abbrev pub flagged : Held → Text → Held
flagged h name = (walked keeps.rules [] (at h 1) name).held

-- what the options up to `--abort-on-close` leave
abbrev pub left_held : LeftOpen → (g i : Option Text) → Text → Held
left_held Keep g i f = timed_held g i f
left_held Abort g i f = flagged (timed_held g i f) (codes "--abort-on-close")

pub aborts : (h : Held) → walked keeps.rules [] (at h 1) (codes "--abort-on-close") ≡ at (flagged h (codes "--abort-on-close")) 1
unfolding clap_on_literals
aborts h = refl

-- what the options leave
abbrev pub folder_held : LeftOpen → Replies → (g i : Option Text) → Text → Held
folder_held l Synced g i f = left_held l g i f
folder_held l Early g i f = flagged (left_held l g i f) (codes "--early")

pub goes_early : (h : Held) → walked keeps.rules [] (at h 1) (codes "--early") ≡ at (flagged h (codes "--early")) 1
unfolding clap_on_literals
goes_early h = refl

-- plain arguments, apart
plain_given : (g : Option Text) (others : List Text) → are_plain (given g ++ others) ≡ true
    → (are_plain (given g) ≡ true) × (are_plain others ≡ true)
plain_given None others p = (refl, p)
plain_given (Some n) others p =
    let a = and_parts (is_plain n) (are_plain others) p in (ap (λ x. x && true) a.0, a.1)

pub plain_parts : (f : Text) (g i : Option Text) (others : List Text) → are_plain (f ∷ given g ++ given i ++ others) ≡ true
    → (is_plain f ≡ true) × (are_plain (given g) ≡ true) × (are_plain (given i) ≡ true) × (are_plain others ≡ true)
plain_parts f g i others p =
    let a = and_parts (is_plain f) (are_plain (given g ++ given i ++ others)) p in
    let b = plain_given g (given i ++ others) (sym (ap are_plain (append_assoc (given g) (given i) others)) ∙ a.1) in
    let c = plain_given i others b.1 in
    (a.0, b.0, c.0, c.1)

-- the options, apart
pub options_apart : (l : LeftOpen) (r : Replies) (g i : Option Text) (f : Text) (arguments : List Text)
    → folder_options_of l r g i f ++ arguments
    ≡ codes "--data" ∷ f ∷ segment_option g ++ (idle_option i ++ (left_open_option l ++ (replies_option r ++ arguments)))
options_apart l r g i f arguments =
    let rest = replies_option r ++ arguments in
    ap (λ ws. codes "--data" ∷ f ∷ ws)
    (append_assoc (segment_option g ++ idle_option i ++ left_open_option l) (replies_option r) arguments
    ∙ append_assoc (segment_option g ++ idle_option i) (left_open_option l) rest
    ∙ append_assoc (segment_option g) (idle_option i) (left_open_option l ++ rest))

pub plain_length : (n : Text) → are_plain (given (Some n)) ≡ true → is_plain n ≡ true
plain_length n q = (and_parts (is_plain n) true q).0

after_data : (f : Text) → is_plain f ≡ true
    → walked keeps.rules [] (walked keeps.rules [] (at nothing_held 1) (codes "--data")) f ≡ at (data_held (f ∷ [])) 1
after_data f p = ap (λ w. walked keeps.rules [] w f) awaits_folder ∙ takes_folder f p

after_segment : (f n : Text) → is_plain n ≡ true
    → walked keeps.rules [] (walked keeps.rules [] (at (data_held (f ∷ [])) 1) (codes "--segment")) n ≡ at (segment_held f (n ∷ [])) 1
after_segment f n q = ap (λ w. walked keeps.rules [] w n) (awaits_length f) ∙ takes_length f n q

after_idle : (g : Option Text) (f n : Text) → is_plain n ≡ true
    → walked keeps.rules [] (walked keeps.rules [] (at (kept_held g f) 1) (codes "--idle")) n ≡ at (idle_held (kept_held g f) (n ∷ [])) 1
after_idle g f n q = ap (λ w. walked keeps.rules [] w n) (awaits_seconds g f) ∙ takes_seconds (kept_held g f) n q

kept_walks_on : (g : Option Text) (f : Text) (arguments : List Text) → is_plain f ≡ true → are_plain (given g) ≡ true
    → walk keeps.rules [] nothing_held (codes "--data" ∷ f ∷ segment_option g ++ arguments)
    ≡ fold (walked keeps.rules []) (at (kept_held g f) 1) arguments
kept_walks_on None f arguments p q = ap (λ w. fold (walked keeps.rules []) w arguments) (after_data f p)
kept_walks_on (Some n) f arguments p q =
    ap (λ w. fold (walked keeps.rules []) w (codes "--segment" ∷ n ∷ arguments)) (after_data f p)
    ∙ ap (λ w. fold (walked keeps.rules []) w arguments) (after_segment f n (plain_length n q))

timed_walks_on : (g i : Option Text) (f : Text) (arguments : List Text) → are_plain (given i) ≡ true
    → fold (walked keeps.rules []) (at (kept_held g f) 1) (idle_option i ++ arguments)
    ≡ fold (walked keeps.rules []) (at (timed_held g i f) 1) arguments
timed_walks_on g None f arguments q = refl
timed_walks_on g (Some n) f arguments q =
    ap (λ w. fold (walked keeps.rules []) w arguments) (after_idle g f n (plain_length n q))

left_walks_on : (l : LeftOpen) (g i : Option Text) (f : Text) (arguments : List Text)
    → fold (walked keeps.rules []) (at (timed_held g i f) 1) (left_open_option l ++ arguments)
    ≡ fold (walked keeps.rules []) (at (left_held l g i f) 1) arguments
left_walks_on Keep g i f arguments = refl
left_walks_on Abort g i f arguments = ap (λ w. fold (walked keeps.rules []) w arguments) (aborts (timed_held g i f))

replies_walk_on : (l : LeftOpen) (r : Replies) (g i : Option Text) (f : Text) (arguments : List Text)
    → fold (walked keeps.rules []) (at (left_held l g i f) 1) (replies_option r ++ arguments)
    ≡ fold (walked keeps.rules []) (at (folder_held l r g i f) 1) arguments
replies_walk_on l Synced g i f arguments = refl
replies_walk_on l Early g i f arguments = ap (λ w. fold (walked keeps.rules []) w arguments) (goes_early (left_held l g i f))

pub walks_on : (l : LeftOpen) (r : Replies) (g i : Option Text) (f : Text) (arguments : List Text) → is_plain f ≡ true
    → are_plain (given g) ≡ true → are_plain (given i) ≡ true
    → walk keeps.rules [] nothing_held (folder_options_of l r g i f ++ arguments)
    ≡ fold (walked keeps.rules []) (at (folder_held l r g i f) 1) arguments
walks_on l r g i f arguments p q t =
    let rest = replies_option r ++ arguments in
    ap (walk keeps.rules [] nothing_held) (options_apart l r g i f arguments)
    ∙ kept_walks_on g f (idle_option i ++ (left_open_option l ++ rest)) p q
    ∙ timed_walks_on g i f (left_open_option l ++ rest) t ∙ left_walks_on l g i f rest ∙ replies_walk_on l r g i f arguments

passes_data : turn_passes keeps [] (at nothing_held 1) (codes "--data") ≡ true
unfolding clap_on_literals
passes_data = refl

passes_folder : (f : Text) → is_plain f ≡ true → turn_passes keeps [] (waiting_for (codes "data") (data_held [])) f ≡ true
passes_folder [] p = refl
passes_folder (b ∷ bs) p = let e = not-true (b == 45) p in rw (e, e) refl

passes_segment : (f : Text) → turn_passes keeps [] (at (data_held (f ∷ [])) 1) (codes "--segment") ≡ true
unfolding clap_on_literals
passes_segment f = refl

passes_length : (f n : Text) → is_plain n ≡ true → turn_passes keeps [] (waiting_for (codes "segment") (segment_held f [])) n ≡ true
passes_length f [] p = refl
passes_length f (b ∷ bs) p = let e = not-true (b == 45) p in rw (e, e) refl

passes_idle : (g : Option Text) (f : Text) → turn_passes keeps [] (at (kept_held g f) 1) (codes "--idle") ≡ true
unfolding clap_on_literals
passes_idle None f = refl
passes_idle (Some n) f = refl

passes_seconds : (h : Held) (n : Text) → is_plain n ≡ true → turn_passes keeps [] (waiting_for (codes "idle") (idle_held h [])) n ≡ true
passes_seconds h [] p = refl
passes_seconds h (b ∷ bs) p = let e = not-true (b == 45) p in rw (e, e) refl

passes_abort : (g i : Option Text) (f : Text) → turn_passes keeps [] (at (timed_held g i f) 1) (codes "--abort-on-close") ≡ true
unfolding clap_on_literals
passes_abort g i f = grind arith

passes_early : (l : LeftOpen) (g i : Option Text) (f : Text)
    → turn_passes keeps [] (at (left_held l g i f) 1) (codes "--early") ≡ true
unfolding clap_on_literals
passes_early l g i f = grind arith

-- an option whose value is the next argument
pass_two : (w₁ w₂ w₃ : Walk) (name text : Text) (arguments : List Text) → turn_passes keeps [] w₁ name ≡ true
    → walked keeps.rules [] w₁ name ≡ w₂ → turn_passes keeps [] w₂ text ≡ true → walked keeps.rules [] w₂ text ≡ w₃
    → walk_passes keeps [] w₃ arguments ≡ true → walk_passes keeps [] w₁ (name ∷ text ∷ arguments) ≡ true
unfolding walk_passes
pass_two w₁ w₂ w₃ name text arguments t₁ e₁ t₂ e₂ rest = ap₂ (λ a b. a && b) t₁
    (ap (λ w. walk_passes keeps [] w (text ∷ arguments)) e₁
    ∙ ap₂ (λ a b. a && b) t₂ (ap (λ w. walk_passes keeps [] w arguments) e₂ ∙ rest))

pass_one : (w₁ w₂ : Walk) (name : Text) (arguments : List Text) → turn_passes keeps [] w₁ name ≡ true
    → walked keeps.rules [] w₁ name ≡ w₂ → walk_passes keeps [] w₂ arguments ≡ true → walk_passes keeps [] w₁ (name ∷ arguments) ≡ true
unfolding walk_passes
pass_one w₁ w₂ name arguments t₁ e₁ rest = ap₂ (λ a b. a && b) t₁ (ap (λ w. walk_passes keeps [] w arguments) e₁ ∙ rest)

pass_on_data : (f : Text) (arguments : List Text) → is_plain f ≡ true → walk_passes keeps [] (at (data_held (f ∷ [])) 1) arguments ≡ true
    → walk_passes keeps [] (at nothing_held 1) (codes "--data" ∷ f ∷ arguments) ≡ true
pass_on_data f arguments p e =
    pass_two (at nothing_held 1) (waiting_for (codes "data") (data_held [])) (at (data_held (f ∷ [])) 1) (codes "--data") f arguments
    passes_data awaits_folder (passes_folder f p) (takes_folder f p) e

pass_kept : (g : Option Text) (f : Text) (arguments : List Text) → is_plain f ≡ true → are_plain (given g) ≡ true
    → walk_passes keeps [] (at (kept_held g f) 1) arguments ≡ true
    → walk_passes keeps [] (at nothing_held 1) (codes "--data" ∷ f ∷ segment_option g ++ arguments) ≡ true
pass_kept None f arguments p q e = pass_on_data f arguments p e
pass_kept (Some n) f arguments p q e =
    let m = plain_length n q in
    pass_on_data f (codes "--segment" ∷ n ∷ arguments) p
    (pass_two (at (data_held (f ∷ [])) 1) (waiting_for (codes "segment") (segment_held f [])) (at (segment_held f (n ∷ [])) 1)
    (codes "--segment") n arguments (passes_segment f) (awaits_length f) (passes_length f n m) (takes_length f n m) e)

pass_timed : (g i : Option Text) (f : Text) (arguments : List Text) → are_plain (given i) ≡ true
    → walk_passes keeps [] (at (timed_held g i f) 1) arguments ≡ true
    → walk_passes keeps [] (at (kept_held g f) 1) (idle_option i ++ arguments) ≡ true
pass_timed g None f arguments q e = e
pass_timed g (Some n) f arguments q e =
    let h = kept_held g f in
    let m = plain_length n q in
    pass_two (at h 1) (waiting_for (codes "idle") (idle_held h [])) (at (idle_held h (n ∷ [])) 1) (codes "--idle") n arguments
    (passes_idle g f) (awaits_seconds g f) (passes_seconds h n m) (takes_seconds h n m) e

pass_left : (l : LeftOpen) (g i : Option Text) (f : Text) (arguments : List Text)
    → walk_passes keeps [] (at (left_held l g i f) 1) arguments ≡ true
    → walk_passes keeps [] (at (timed_held g i f) 1) (left_open_option l ++ arguments) ≡ true
pass_left Keep g i f arguments e = e
pass_left Abort g i f arguments e =
    let h = timed_held g i f in
    pass_one (at h 1) (at (left_held Abort g i f) 1) (codes "--abort-on-close") arguments (passes_abort g i f) (aborts h) e

pass_replies : (l : LeftOpen) (r : Replies) (g i : Option Text) (f : Text) (arguments : List Text)
    → walk_passes keeps [] (at (folder_held l r g i f) 1) arguments ≡ true
    → walk_passes keeps [] (at (left_held l g i f) 1) (replies_option r ++ arguments) ≡ true
pass_replies l Synced g i f arguments e = e
pass_replies l Early g i f arguments e =
    let h = left_held l g i f in
    pass_one (at h 1) (at (folder_held l Early g i f) 1) (codes "--early") arguments (passes_early l g i f) (goes_early h) e

pass_on : (l : LeftOpen) (r : Replies) (g i : Option Text) (f : Text) (arguments : List Text) → is_plain f ≡ true
    → are_plain (given g) ≡ true → are_plain (given i) ≡ true → walk_passes keeps [] (at (folder_held l r g i f) 1) arguments ≡ true
    → walk_passes keeps [] (at nothing_held 1) (folder_options_of l r g i f ++ arguments) ≡ true
pass_on l r g i f arguments p q t e =
    let rest = replies_option r ++ arguments in
    ap (walk_passes keeps [] (at nothing_held 1)) (options_apart l r g i f arguments)
    ∙ pass_kept g f (idle_option i ++ (left_open_option l ++ rest)) p q
    (pass_timed g i f (left_open_option l ++ rest) t (pass_left l g i f rest (pass_replies l r g i f arguments e)))

-- ---- the socket

passes_one : (l : LeftOpen) (r : Replies) (g i : Option Text) (f : Text) → step_passes keeps 1 (folder_held l r g i f) value ≡ true
unfolding clap_on_literals
passes_one l r g i f = grind arith

keep_ends_well : (l : LeftOpen) (r : Replies) (g i : Option Text) (s f : Text)
    → ends_well keeps (one_path (folder_held l r g i f) keeps s) ≡ true
unfolding clap_on_literals
keep_ends_well l r g i s f = grind arith

found_keep : (l : LeftOpen) (r : Replies) (g i : Option Text) (s f : Text)
    → request_in Folder (Some (codes "serve", finished keeps.rules (one_path (folder_held l r g i f) keeps s).held)) ≡ keep l r g i s f
unfolding clap_on_literals
found_keep l r g i s f = grind arith

passes_to_keep : (l : LeftOpen) (r : Replies) (g i : Option Text) (s f : Text)
    → level_passes folder_parser.top names nothing_held (arguments_of (keep l r g i s f)) true ≡ true
unfolding clap_on_literals
passes_to_keep l r g i s f = grind arith

module _ (l : LeftOpen) (r : Replies) (g i : Option Text) (s f : Text) (p : is_plain f ≡ true) (o : are_plain (given g) ≡ true)
    (t : are_plain (given i) ≡ true) (q : is_plain s ≡ true) where
  walk_keep : walk keeps.rules [] nothing_held (folder_options_of l r g i f ++ s ∷ []) ≡ one_path (folder_held l r g i f) keeps s
  walk_keep = walks_on l r g i f (s ∷ []) p o t ∙ walk_one (folder_held l r g i f) keeps s q

  socket_passes : walk_passes keeps [] (at (folder_held l r g i f) 1) (s ∷ []) ≡ true
  unfolding walk_passes
  socket_passes = ap (λ a. a && true) (turn_passes-plain [] (folder_held l r g i f) 1 keeps s q refl ∙ passes_one l r g i f)

  passes_keep : level_passes keeps [] nothing_held (folder_options_of l r g i f ++ s ∷ []) false ≡ true
  passes_keep =
      ap₂ (λ a b. a && b) (pass_on l r g i f (s ∷ []) p o t socket_passes) (ap (ends_well keeps) walk_keep ∙ keep_ends_well l r g i s f)

pub taken_folder : (l : LeftOpen) (r : Replies) (g i : Option Text) (s f : Text) → are_plain (paths_of (keep l r g i s f)) ≡ true
    → built_takes folder_parser nothing_held (arguments_of (keep l r g i s f)) ≡ true
taken_folder l r g i s f p =
    let plain = plain_parts f g i (s ∷ []) p in
    let q = (and_parts (is_plain s) true plain.3).0 in
    let stops = stops_at_serve (folder_options_of l r g i f ++ s ∷ []) in
    rw (stops, passes_keep l r g i s f plain.0 plain.1 plain.2 q, passes_to_keep l r g i s f) refl

pub found_folder : (l : LeftOpen) (r : Replies) (g i : Option Text) (s f : Text) → are_plain (paths_of (keep l r g i s f)) ≡ true
    → request_in Folder (entered folder_parser (top_walk (arguments_of (keep l r g i s f))).stopped) ≡ keep l r g i s f
found_folder l r g i s f p =
    let plain = plain_parts f g i (s ∷ []) p in
    let q = (and_parts (is_plain s) true plain.3).0 in
    ap (λ stop. request_in Folder (entered folder_parser stop)) (stops_at_serve (folder_options_of l r g i f ++ s ∷ []))
    ∙ ap (λ w. request_in Folder (Some (codes "serve", finished keeps.rules w.held)))
    (walk_keep l r g i s f plain.0 plain.1 plain.2 q)
    ∙ found_keep l r g i s f
