-- How deep forms are nested.
use Rattle.std.specs.Prelude.{◌≡◌, ℕ, suc, ◌<◌, ◌≤◌, List, [], ◌∷◌, ◌++◌, length}
use Rattle.edn.specs.Meaning.Forms.{Form}
use Rattle.edn.specs.Meaning.Grammar.{AreItems}
use Rattle.edn.specs.Meaning.Tokens.{Token, closes, discard, tag, meta, leaf}

-- it opens a collection, or stands before a form as its tag, with its metadata or to discard it
abbrev pub IsOpening : Token → Type 0
IsOpening (closes b) = ⊥
IsOpening (leaf f) = ⊥
IsOpening _ = Unit {0}

-- it stands before a form
abbrev pub IsBefore : Token → Type 0
IsBefore tag = Unit {0}
IsBefore meta = Unit {0}
IsBefore discard = Unit {0}
IsBefore _ = ⊥

-- it is still open after these forms: the form of a tag or `#_` is to come, or that of `^`, perhaps after its metadata
abbrev pub IsOpenAfter : Token → List Form → Type 0
IsOpenAfter tag fs = fs ≡ []
IsOpenAfter discard fs = fs ≡ []
IsOpenAfter meta fs = length fs ≤ 1
IsOpenAfter _ fs = Unit {0}

-- after these tokens so much is open, one within the other: collections without their closing brackets, tags, `^` and `#_`
-- without their forms; whole forms may stand in between
pub data Nests : ℕ → List Token → Type 0 where
  none_open : {ts : List Token} → AreItems ts [] → Nests 0 ts
  one_open : {n : ℕ} {ts us : List Token} {fs : List Form} (t : Token) → Nests n ts → IsOpening t
      → IsOpenAfter t fs → AreItems us fs
      → Nests (suc n) (ts ++ t ∷ us)

-- more than 64 are open
abbrev pub AreTooDeep : List Token → Type 0
AreTooDeep ts = (n : ℕ) × Nests n ts × (64 < n)
