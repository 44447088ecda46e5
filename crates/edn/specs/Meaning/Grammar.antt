-- The forms that tokens make.
use Rattle.std.specs.Prelude.{List, [], ◌∷◌, ◌++◌}
use Rattle.edn.specs.declared.token.Closing.TheVariants as closing
use Rattle.edn.specs.Meaning.Forms.{Form, list, vector, set, entries, forms_of, pairs_of}
use Rattle.edn.specs.Meaning.Keys.{entries_in}
use Rattle.edn.specs.Meaning.Names.{Namespace}
use Rattle.edn.specs.Meaning.Openings as opening
use Rattle.edn.specs.Meaning.Tokens.{Token, opens, closes, discard, tag, meta, leaf}

mutual
  -- a form: one token, or those of a collection between its brackets; a tag may stand before it, `^` with its metadata, which
  -- is a form too, and `#_` with a form
  pub data IsItem : List Token → Form → Type 0 where
    a_leaf : {f : Form} → IsItem (leaf f ∷ []) f
    a_tagged : {ts : List Token} {f : Form} → IsItem ts f → IsItem (tag ∷ ts) f
    a_described : {ds ts : List Token} {g f : Form} → IsItem ds g → IsItem ts f → IsItem (meta ∷ ds ++ ts) f
    a_later : {ds ts : List Token} {g f : Form} → IsItem ds g → IsItem ts f → IsItem (discard ∷ ds ++ ts) f
    a_list : {ts : List Token} {fs : List Form} → AreItems ts fs
        → IsItem (opens opening.List ∷ ts ++ closes closing.Round ∷ []) (list (forms_of fs))
    a_vector : {ts : List Token} {fs : List Form} → AreItems ts fs
        → IsItem (opens opening.Vector ∷ ts ++ closes closing.Square ∷ []) (vector (forms_of fs))
    a_set : {ts : List Token} {fs : List Form} → AreItems ts fs
        → IsItem (opens opening.Set ∷ ts ++ closes closing.Curly ∷ []) (set (forms_of fs))
    a_map : {ts : List Token} {ps : List (Form × Form)} {namespace : Namespace} → ArePairs ts ps
        → IsItem (opens (opening.Map namespace) ∷ ts ++ closes closing.Curly ∷ []) (entries (pairs_of (entries_in namespace ps)))

  -- forms one after another; `#_` with a form may stand anywhere
  pub data AreItems : List Token → List Form → Type 0 where
    no_items : AreItems [] []
    no_item : {ds ts : List Token} {g : Form} {fs : List Form} → IsItem ds g → AreItems ts fs
        → AreItems (discard ∷ ds ++ ts) fs
    an_item : {us ts : List Token} {f : Form} {fs : List Form} → IsItem us f → AreItems ts fs
        → AreItems (us ++ ts) (f ∷ fs)

  -- keys and values in turn
  pub data ArePairs : List Token → List (Form × Form) → Type 0 where
    no_pairs : ArePairs [] []
    no_pair : {ds ts : List Token} {g : Form} {ps : List (Form × Form)} → IsItem ds g → ArePairs ts ps
        → ArePairs (discard ∷ ds ++ ts) ps
    a_pair : {us vs ts : List Token} {k v : Form} {ps : List (Form × Form)} → IsItem us k → IsItem vs v
        → ArePairs ts ps → ArePairs (us ++ vs ++ ts) ((k, v) ∷ ps)
