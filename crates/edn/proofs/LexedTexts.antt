-- A text has the tokens that were read of it one by one.
use Rattle.std.proofs.Common.{◌≡◌, ℕ, List, [], ◌∷◌, ◌++◌, subst, sym}
use Rattle.edn.specs.Meaning.Tokens.{Token}
use Rattle.edn.specs.Meaning.Lexing.{IsGap, Begins, Lexes, no_tokens, next}

pub lexes_more : {text mid : List ℕ} {ts : List Token} → Lexes text ts mid → (gap front rest : List ℕ) (t : Token)
    → mid ≡ gap ++ front → IsGap gap → Begins t front rest → Lexes text (ts ++ t ∷ []) rest
lexes_more {text} no_tokens gap front rest t e g h =
    subst (λ x. Lexes x (t ∷ []) rest) (sym e) (next gap front g h no_tokens)
lexes_more (next gap1 text1 g1 h1 l) gap front rest t e g h = next gap1 text1 g1 h1 (lexes_more l gap front rest t e g h)
