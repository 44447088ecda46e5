-- Forms as lists of nodes, in which each collection stands behind its forms.
use Rattle.std.specs.Prelude.{List, [], ◌∷◌, Some, take, drop, reverse}
use Rattle.edn.specs.declared.tape.Node.{Node}
use Rattle.edn.specs.declared.tape.Node.TheVariants.{Atom, End}
use Rattle.edn.specs.declared.tape.Row.{Row}
use Rattle.edn.specs.declared.tape.Row.TheVariants as Of
use Rattle.edn.specs.Meaning.Forms.{Form, nil, list, vector, set, entries, forms_of, pairs_of, atom_of}
use Rattle.edn.specs.Meaning.Keys.{entries_in, name_in}

-- the keys with their values; a last key without a value is left out
abbrev pub paired : List Form → List (Form × Form)
paired [] = []
paired (k ∷ []) = []
paired (k ∷ v ∷ fs) = (k, v) ∷ paired fs

-- the entries of a map of which the namespace, and then the keys and values are written; the namespace is a symbol
abbrev pub paired_within : List Form → List (Form × Form)
paired_within [] = []
paired_within (namespace ∷ fs) = entries_in (Some (name_in namespace)) (paired fs)

-- the collection that has these forms
abbrev pub collection : Row → List Form → Form
collection Of.List fs = list (forms_of fs)
collection Of.Vector fs = vector (forms_of fs)
collection Of.Set fs = set (forms_of fs)
collection Of.Map fs = entries (pairs_of (paired fs))
collection Of.NamespacedMap fs = entries (pairs_of (paired_within fs))

-- the forms, the newest first, after one more node
abbrev pub with_node : Node → List Form → List Form
with_node (Atom a) fs = atom_of a ∷ fs
with_node (End row n start) fs = collection row (reverse (take n fs)) ∷ drop n fs

-- the forms of nodes, both the newest first
abbrev pub forms_back : List Node → List Form
forms_back [] = []
forms_back (x ∷ xs) = with_node x (forms_back xs)

-- the forms of nodes, the newest first
abbrev pub forms_in : List Node → List Form
forms_in nodes = forms_back (reverse nodes)

abbrev pub first_of : List Form → Form
first_of [] = nil
first_of (f ∷ fs) = f
