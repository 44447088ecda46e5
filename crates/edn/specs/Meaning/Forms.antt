-- Forms as plain values. A list of forms is a type of its own, as a form is made of them.
use Rattle.std.specs.Prelude.{ℕ, ℤ, Bool, List, [], ◌∷◌}
use Rattle.edn.specs.declared.atom.Atom.{Atom}
use Rattle.edn.specs.declared.atom.Atom.TheVariants as Of
use Rattle.edn.specs.Meaning.Shorts.{short_text}

mutual
  pub data Form : Type 0 where
    nil : Form
    boolean : Bool → Form
    integer : ℤ → Form
    number : List ℕ → Form
    string : List ℕ → Form
    character : List ℕ → Form
    keyword : List ℕ → Form
    symbol : List ℕ → Form
    list : Forms → Form
    vector : Forms → Form
    set : Forms → Form
    entries : Pairs → Form

  pub data Forms : Type 0 where
    no_forms : Forms
    form : Form → Forms → Forms

  pub data Pairs : Type 0 where
    no_pairs : Pairs
    pair : Form → Form → Pairs → Pairs

abbrev pub forms_of : List Form → Forms
forms_of [] = no_forms
forms_of (f ∷ fs) = form f (forms_of fs)

abbrev pub pairs_of : List (Form × Form) → Pairs
pairs_of [] = no_pairs
pairs_of (p ∷ ps) = pair p.0 p.1 (pairs_of ps)

-- a form that is no collection
abbrev pub atom_of : Atom → Form
atom_of Of.Nil = nil
atom_of (Of.Boolean b) = boolean b
atom_of (Of.Integer z) = integer z
atom_of (Of.Number v) = number v.items
atom_of (Of.String v) = string v.items
atom_of (Of.Character v) = character v.items
atom_of (Of.Keyword v) = keyword v.items
atom_of (Of.ShortKeyword s) = keyword (short_text s)
atom_of (Of.Symbol v) = symbol v.items
