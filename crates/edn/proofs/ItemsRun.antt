-- The tokens of a form make that form, wherever they stand.
use Rattle.std.proofs.Common.{◌≡◌, List, [], ◌∷◌, ◌++◌, Some, None, Ok, refl, sym, ap, ◌∙◌, append_assoc, append-nil}
use Rattle.edn.specs.declared.token.Closing.TheVariants as closing
use Rattle.edn.specs.Meaning.Forms.{Form}
use Rattle.edn.specs.Meaning.Tokens.{Token, closes}
use Rattle.edn.specs.Meaning.Grammar.{IsItem, a_leaf, a_tagged, a_described, a_later, a_list, a_vector, a_set, a_map}
use Rattle.edn.specs.Meaning.Names.{Namespace}
use Rattle.edn.specs.Meaning.Grammar.{AreItems, no_items, no_item, an_item, ArePairs, no_pairs, no_pair, a_pair}
use Rattle.edn.specs.Computing.Building.{Frame, in_list, in_vector, in_set, in_map, tagged, describing, discarding, put, step, run, resume}

-- a collection that takes forms one by one
abbrev Takes : (List Form → Frame) → Type 0
Takes c = (gs : List Form) (f : Form) (outer : List Frame) → put (c gs ∷ outer) f ≡ (c (gs ++ f ∷ []) ∷ outer, None)

pub takes_list : Takes in_list
unfolding put
takes_list gs f outer = refl

pub takes_vector : Takes in_vector
unfolding put
takes_vector gs f outer = refl

pub takes_set : Takes in_set
unfolding put
takes_set gs f outer = refl

closed_at : (stack : List Frame) (xs ys us : List Token) → run stack ((xs ++ ys) ++ us) ≡ run stack (xs ++ (ys ++ us))
closed_at stack xs ys us = ap (run stack) (append_assoc xs ys us)

mutual
  unfolding step put

  pub item_runs : {ts : List Token} {f : Form} → IsItem ts f → (frame : Frame) (outer : List Frame) (us : List Token)
      → run (frame ∷ outer) (ts ++ us) ≡ resume (Ok (put (frame ∷ outer) f)) us
  item_runs a_leaf frame outer us = refl
  item_runs (a_tagged r) frame outer us =
      item_runs r tagged (frame ∷ outer) us
  item_runs (a_described {ds = ds} {ts = ts} d r) frame outer us =
      closed_at _ ds ts us ∙ item_runs d describing (frame ∷ outer) (ts ++ us) ∙ item_runs r tagged (frame ∷ outer) us
  item_runs (a_later {ds = ds} {ts = ts} d r) frame outer us =
      closed_at _ ds ts us ∙ item_runs d discarding (frame ∷ outer) (ts ++ us) ∙ item_runs r frame outer us
  item_runs (a_list {ts = ts} r) frame outer us =
      closed_at _ ts (closes closing.Round ∷ []) us
      ∙ items_run in_list takes_list r [] (frame ∷ outer) (closes closing.Round ∷ us)
  item_runs (a_vector {ts = ts} r) frame outer us =
      closed_at _ ts (closes closing.Square ∷ []) us
      ∙ items_run in_vector takes_vector r [] (frame ∷ outer) (closes closing.Square ∷ us)
  item_runs (a_set {ts = ts} r) frame outer us =
      closed_at _ ts (closes closing.Curly ∷ []) us
      ∙ items_run in_set takes_set r [] (frame ∷ outer) (closes closing.Curly ∷ us)
  item_runs (a_map {ts = ts} {namespace = namespace} r) frame outer us =
      closed_at _ ts (closes closing.Curly ∷ []) us
      ∙ pairs_run r namespace [] (frame ∷ outer) (closes closing.Curly ∷ us)

  pub items_run : (c : List Form → Frame) → Takes c → {ts : List Token} {fs : List Form} → AreItems ts fs
      → (gs : List Form) (outer : List Frame) (us : List Token)
      → run (c gs ∷ outer) (ts ++ us) ≡ run (c (gs ++ fs) ∷ outer) us
  items_run c takes no_items gs outer us = ap (λ hs. run (c hs ∷ outer) us) (sym (append-nil gs))
  items_run c takes (no_item {ds = ds} {ts = ts} d r) gs outer us =
      closed_at _ ds ts us ∙ item_runs d discarding (c gs ∷ outer) (ts ++ us) ∙ items_run c takes r gs outer us
  items_run c takes (an_item {us = vs} {ts = ts} {f = f} {fs = fs} q r) gs outer us =
      closed_at _ vs ts us
      ∙ item_runs q (c gs) outer (ts ++ us)
      ∙ ap (λ s. resume (Ok s) (ts ++ us)) (takes gs f outer)
      ∙ items_run c takes r (gs ++ f ∷ []) outer us
      ∙ ap (λ hs. run (c hs ∷ outer) us) (append_assoc gs (f ∷ []) fs)

  pairs_run : {ts : List Token} {ps : List (Form × Form)} → ArePairs ts ps
      → (namespace : Namespace) (qs : List (Form × Form)) (outer : List Frame) (us : List Token)
      → run (in_map namespace qs None ∷ outer) (ts ++ us) ≡ run (in_map namespace (qs ++ ps) None ∷ outer) us
  pairs_run no_pairs namespace qs outer us = ap (λ rs. run (in_map namespace rs None ∷ outer) us) (sym (append-nil qs))
  pairs_run (no_pair {ds = ds} {ts = ts} d r) namespace qs outer us =
      closed_at _ ds ts us ∙ item_runs d discarding (in_map namespace qs None ∷ outer) (ts ++ us)
      ∙ pairs_run r namespace qs outer us
  pairs_run (a_pair {us = vs} {vs = ws} {ts = ts} {k = k} {v = v} {ps = ps} q1 q2 r) namespace qs outer us =
      ap (run (in_map namespace qs None ∷ outer)) (append_assoc (vs ++ ws) ts us ∙ append_assoc vs ws (ts ++ us))
      ∙ item_runs q1 (in_map namespace qs None) outer (ws ++ (ts ++ us))
      ∙ item_runs q2 (in_map namespace qs (Some k)) outer (ts ++ us)
      ∙ pairs_run r namespace (qs ++ (k, v) ∷ []) outer us
      ∙ ap (λ rs. run (in_map namespace rs None ∷ outer) us) (append_assoc qs ((k, v) ∷ []) ps)
