use Rattle.std.proofs.Common.{◌≡◌, ◌∙◌, ℕ, List, Option, Some, None, option_map, Bor, refl, ap, codes}
use Rattle.std.specs.Prelude.{unwrap_or}
use Rattle.clap.specs.Words.{found_of}
use Rattle.clap.proofs.WalkLemmas.{first_value-rows}
use Rattle.ssi_arguments.proofs.arguments.path.Goals as goal

unwrap_or-map : {X Y : Type 0} (f : X → Y) (o : Option X) (x : X) → f (unwrap_or o x) ≡ unwrap_or (option_map f o) (f x)
unwrap_or-map f None x = refl
unwrap_or-map f (Some y) x = refl

pub returns : goal.returns
returns c =
    ap (λ text. text.now) c.unwrap_or.ensures ∙ unwrap_or-map (λ (text : Bor (List ℕ)). text.now) c.get_str.result _
    ∙ ap (λ o. unwrap_or o (codes "")) (c.get_str.ensures ∙ first_value-rows (found_of c.args.given.now) c.args.name.now)
