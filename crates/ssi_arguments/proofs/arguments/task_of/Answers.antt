use Rattle.std.proofs.Common.{◌∷◌, ◌≡◌, ◌≢◌, ◌⊎◌, ◌∙◌, ap, sym, subst, refl, inl, inr, true, map, string_bytes, ℕ, List, ◌++◌, codes, drop, Result, Ok, Err, MatchResult}
use Rattle.std.specs.Prelude.{IfErr, IsErrAnd}
use Rattle.clap.specs.Words.{HasKind, Kinds, fault_of, is_simple, is_simple_and_free, app_of, kind_of, subcommand_of, subcommand_rows_of, takes}
use Rattle.clap.specs.declared.builder.command.Command.{Command}
use Rattle.clap.specs.declared.error.Error.{Error}
use Rattle.clap.specs.declared.error.kind.ErrorKind.{ErrorKind}
use Rattle.clap.specs.declared.error.kind.ErrorKind.TheVariants.{OutOfMemory}
use Rattle.ssi_arguments.specs.declared.arguments.NoTask.{NoTask}
use Rattle.ssi_arguments.specs.declared.arguments.NoTask.TheVariants.{Text, Memory}
use Rattle.ssi_arguments.specs.Clauses.CommandLine.{app_for, request_in, ssi_app}
use Rattle.ssi_arguments.specs.Clauses.Storage.{storage_in}
use Rattle.ssi_arguments.specs.declared.storage.Storage.{Storage}
use Rattle.ssi_arguments.specs.Clauses.Arguments.{IsRefusal, arguments_of, are_plain, folder_options_of, given, keep, storage_for}
use Rattle.ssi_arguments.proofs.NoOtherFolders.{asks_to_keep, keeps_at_once, keeps_by_option}
use Rattle.ssi_arguments.proofs.NoOtherRequests.{asks_request, shows_help, shows_version, simple_and_free}
use Rattle.ssi_arguments.proofs.Requests.{simple, takes_request, plain_paths}
use Rattle.ssi_arguments.proofs.arguments.task_of.Goals as goal

told : {X E : Type 0} (r : Result X E) (A B : Type 0) (P : X → Type 0) (Q R : E → Type 0) → A
    → IsErrAnd r (λ e. (A → Q e) × (B → R e)) → MatchResult r P Q
told (Ok x) A B P Q R a h = absurd h
told (Err e) A B P Q R a h = h.0 a

is_memory : (k : ErrorKind) → (k ≡ OutOfMemory) ⊎ (k ≢ OutOfMemory)
is_memory OutOfMemory = inl refl
is_memory _ = inr (λ e. cc e)

refused : {X : Type 0} (kinds : Kinds) (error : Error) (r : Result X NoTask) → HasKind kinds error
    → IsErrAnd r (λ none. (kind_of error ≡ OutOfMemory → none ≡ Memory) × (kind_of error ≢ OutOfMemory → none ≡ Text error))
    → IfErr r (IsRefusal kinds)
refused kinds error (Ok x) has h = absurd h
refused kinds error (Err none) (inl memory) h = subst (IsRefusal kinds) (sym (h.0 memory)) tt
refused kinds error (Err none) (inr among) h = elim (is_memory (kind_of error)) [
  | inl memory ↦ subst (IsRefusal kinds) (sym (h.0 memory)) tt
  | inr other ↦ subst (IsRefusal kinds) (sym (h.1 other)) among
]

-- the command line for the arguments, as it was made
module _ (arguments : List (List ℕ)) (storage : Storage) (command : Command) (is : storage ≡ storage_in (drop 1 arguments))
    (app : app_of command ≡ ssi_app storage) where
  made : app_of command ≡ app_for arguments
  made = app ∙ ap ssi_app is

  made_simple : is_simple (app_of command) ≡ true
  made_simple = ap is_simple app ∙ simple storage

  made_free : is_simple_and_free (app_of command) ≡ true
  made_free = ap is_simple_and_free app ∙ simple_and_free storage

pub returns-in_err-matches-clause-asked : goal.returns-in_err-matches-clause-asked
returns-in_err-matches-clause-asked c = λ r p e.
    let arguments = map string_bytes c.args.arguments.now in
    let app = made arguments _ _ c.storage_of-storage.ensures c.in_ok-command.ensures in
    let taken = ap (λ a. takes a arguments) app ∙ (takes_request arguments r p e).0 in
    told _ _ _ _ _ _ (c.in_err-matches.ensures.passes taken) c.from_residual-in_err-matches.ensures.1

pub returns-in_err-matches-clause-refusal : goal.returns-in_err-matches-clause-refusal
returns-in_err-matches-clause-refusal c =
    let arguments = map string_bytes c.args.arguments.now in
    let is = c.storage_of-storage.ensures in
    let has = c.in_err-matches.ensures.kinds (made_free arguments _ _ is c.in_ok-command.ensures) in
    refused _ c.in_err-matches.field-0.0 _
    (subst (λ a. HasKind (fault_of a arguments) c.in_err-matches.field-0.0) (made arguments _ _ is c.in_ok-command.ensures) has)
    c.from_residual-in_err-matches.ensures.1

pub returns-clause-task : goal.returns-clause-task
returns-clause-task c =
    let arguments = map string_bytes c.args.arguments.now in
    let is = c.storage_of-storage.ensures in
    let app = made arguments _ _ is c.in_ok-command.ensures in
    let same = (c.in_ok-matches.ensures.matches (made_simple arguments _ _ is c.in_ok-command.ensures)).1 in (
      sym (ap (λ a. fault_of a arguments) app) ∙ c.in_ok-matches.ensures.kinds (made_free arguments _ _ is c.in_ok-command.ensures),
      c.task_in.ensures ∙ ap (λ storage. request_in storage (subcommand_rows_of c.in_ok-matches.matches)) is
          ∙ ap (request_in (storage_in (drop 1 arguments))) (same ∙ ap (λ a. subcommand_of a arguments) app),
    )

pub returns-clause-asked : goal.returns-clause-asked
returns-clause-asked c = λ r p e.
    (returns-clause-task c).1 ∙ (takes_request (map string_bytes c.args.arguments.now) r p e).1

shown : {X : Type 0} (kinds asked : Kinds) (error : Error) (r : Result X NoTask) → kinds ≡ asked → IfErr r (IsRefusal kinds)
    → IsErrAnd r (λ none. (kind_of error ≡ OutOfMemory → none ≡ Memory) × (kind_of error ≢ OutOfMemory → none ≡ Text error))
    → IsErrAnd r (IsRefusal asked)
shown kinds asked error (Ok x) same is h = absurd h
shown kinds asked error (Err none) same is h = subst (λ ks. IsRefusal ks none) same is

pub returns-in_err-matches-clause-help : goal.returns-in_err-matches-clause-help
returns-in_err-matches-clause-help c = λ e.
    shown _ _ c.in_err-matches.field-0.0 _ (shows_help (map string_bytes c.args.arguments.now) e)
    (returns-in_err-matches-clause-refusal c) c.from_residual-in_err-matches.ensures.1

pub returns-clause-help : goal.returns-clause-help
returns-clause-help c = λ e.
    let arguments = map string_bytes c.args.arguments.now in
    absurd (cc (sym (shows_help arguments e) ∙ (returns-clause-task c).0))

pub returns-in_err-matches-clause-version : goal.returns-in_err-matches-clause-version
returns-in_err-matches-clause-version c = λ e.
    shown _ _ c.in_err-matches.field-0.0 _ (shows_version (map string_bytes c.args.arguments.now) e)
    (returns-in_err-matches-clause-refusal c) c.from_residual-in_err-matches.ensures.1

pub returns-clause-version : goal.returns-clause-version
returns-clause-version c = λ e.
    let arguments = map string_bytes c.args.arguments.now in
    absurd (cc (sym (shows_version arguments e) ∙ (returns-clause-task c).0))

pub returns-clause-no_other : goal.returns-clause-no_other
returns-clause-no_other c = λ p.
    let asked = asks_request (map string_bytes c.args.arguments.now) p (returns-clause-task c).0 in
    let plain = plain_paths asked.0 (subst (λ ws. are_plain ws ≡ true) asked.1 p) in
    asked.1 ∙ ap arguments_of (sym (returns-clause-asked c asked.0 plain asked.1))

pub returns-clause-kept : goal.returns-clause-kept
returns-clause-kept c =
    ap storage_for (returns-clause-task c).1 ∙ keeps_by_option (map string_bytes c.args.arguments.now)

pub returns-clause-kept_alone : goal.returns-clause-kept_alone
returns-clause-kept_alone c = λ l r g i f others p e.
    let arguments = map string_bytes c.args.arguments.now in
    let socket = asks_to_keep arguments l r g i f others p e (returns-clause-task c).0 in
    let one : arguments_of (keep l r g i socket.0 f) ≡ drop 1 arguments =
    sym (e ∙ ap (λ ws. codes "serve" ∷ folder_options_of l r g i f ++ ws) socket.1) in
    let plain = subst (λ ws. are_plain (f ∷ given g ++ given i ++ ws) ≡ true) socket.1 p in
    sym one ∙ ap arguments_of (sym (returns-clause-asked c (keep l r g i socket.0 f) plain (sym one)))

pub returns-clause-kept_at_once : goal.returns-clause-kept_at_once
returns-clause-kept_at_once c = λ folder has.
    absurd (keeps_at_once (map string_bytes c.args.arguments.now) (returns-clause-task c).0 folder has)
