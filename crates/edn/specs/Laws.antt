-- What holds of texts and forms.
use Rattle.std.specs.Prelude.{◌≡◌, ℕ, List, ◌∷◌, ◌++◌, Ok}
use Rattle.edn.specs.declared.token.Beyond.TheVariants.{Nothing}
use Rattle.edn.specs.Meaning.Forms.{Form}
use Rattle.edn.specs.Meaning.Tokens.{Token}
use Rattle.edn.specs.Meaning.Grammar.{IsItem}
use Rattle.edn.specs.Meaning.Lexing.{Begins, Lexes}
use Rattle.edn.specs.Computing.Tokens.{token, token_at}
use Rattle.edn.specs.Computing.Building.{Frame, put, run, resume}

-- two forms with which a text begins are one
abbrev pub OneForm : Type 0
OneForm =
    (text rest end : List ℕ) (ts us : List Token) (f g : Form) → Lexes text ts rest → Lexes text us end
    → IsItem ts f → IsItem us g → f ≡ g

-- a token with which a whole text begins is read from it
abbrev pub TokensAreRead : Type 0
TokensAreRead = (t : Token) (text rest : List ℕ) → Begins t text rest → token_at Nothing text ≡ token t rest

-- whatever is open, the tokens of a form do what the form does, and the tokens behind them go on from there
abbrev pub FormsAreMade : Type 0
FormsAreMade =
    (ts us : List Token) (f : Form) (frame : Frame) (outer : List Frame) → IsItem ts f
    → run (frame ∷ outer) (ts ++ us) ≡ resume (Ok (put (frame ∷ outer) f)) us
