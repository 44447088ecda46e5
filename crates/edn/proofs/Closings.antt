-- Whatever is open, more tokens can close it: a text that was read so far may go on as one of EDN.
use Rattle.std.proofs.Common.{◌≡◌, ◌⊎◌, inl, inr, List, [], ◌∷◌, ◌++◌, Some, None, sym, ap, ◌∙◌, subst, append_assoc, append-nil}
use Rattle.edn.specs.declared.reader.Stage.{Stage}
use Rattle.edn.specs.declared.reader.Stage.TheVariants.{Start, Forms, Elements, Closed, Failed}
use Rattle.edn.specs.Meaning.Openings as opening
use Rattle.edn.specs.declared.token.Closing.TheVariants as closing
use Rattle.edn.specs.Meaning.Blame.{MayGoOn}
use Rattle.edn.specs.Meaning.Forms.{Form, nil}
use Rattle.edn.specs.Meaning.Grammar.{IsItem, a_leaf, a_described, a_list, a_vector, a_set, a_map, AreItems, ArePairs}
use Rattle.edn.specs.Meaning.Texts.{AreAll, all_forms, one_vector, AreSoFar, at_start, outside, inside}
use Rattle.edn.specs.Meaning.Tokens.{Token, opens, closes, discard, meta, leaf}
use Rattle.edn.specs.Computing.Building.{Frame, top, tagged, describing, discarding, in_list, in_vector, in_set, in_map, is_top}
use Rattle.edn.proofs.FormsRead.{IsBehind, BeginsOther, Leads}
use Rattle.edn.proofs.Held.{Holds, before_item, discard_in, items_append, last_pair, later_item, more_after, no_forms_in, one_discarded, one_item, pairs_append}
use Rattle.edn.proofs.TextOver.{last_tokens}
use Rattle.edn.proofs.TextsRead.{all_forms_read, forms_items, square_is}

-- tokens with more of them behind
moved : (ts us ds vs ws : List Token) (t : Token) → ts ≡ us ++ t ∷ ds → us ++ t ∷ ((ds ++ vs) ++ ws) ≡ ts ++ (vs ++ ws)
moved ts us ds vs ws t e = ap (λ xs. us ++ t ∷ xs) (append_assoc ds vs ws) ∙ sym (more_after ts us ds t e (vs ++ ws))

moved_closed : (ts us ds vs ws : List Token) (t c : Token) → ts ≡ us ++ t ∷ ds
    → us ++ t ∷ (((ds ++ vs) ++ c ∷ []) ++ ws) ≡ ts ++ (vs ++ c ∷ ws)
moved_closed ts us ds vs ws t c e =
    ap (λ xs. us ++ t ∷ xs) (append_assoc (ds ++ vs) (c ∷ []) ws) ∙ moved ts us ds vs (c ∷ ws) t e

moved_before : (ts us xs ds vs ws : List Token) → ts ≡ us ++ (xs ++ ds)
    → us ++ ((xs ++ (ds ++ vs)) ++ ws) ≡ ts ++ (vs ++ ws)
moved_before ts us xs ds vs ws e =
    ap (λ ys. us ++ (ys ++ ws)) (sym (append_assoc xs ds vs)) ∙ ap (λ ys. us ++ ys) (append_assoc (xs ++ ds) vs ws)
    ∙ sym (append_assoc us (xs ++ ds) (vs ++ ws)) ∙ ap (λ ys. ys ++ (vs ++ ws)) (sym e)

-- behind one more form
close_up : (stack : List Frame) (ts vs : List Token) (f : Form) → Holds stack ts → IsItem vs f
    → (us : List Token) × (gs : List Form) × AreItems (ts ++ (vs ++ us)) gs
close_up [] ts vs f h q = absurd h
close_up (top ∷ outer) ts vs f (none, d) q =
    ([], f ∷ [], subst (λ xs. AreItems (ts ++ xs) (f ∷ [])) (sym (append-nil vs)) (items_append (no_forms_in d) (one_item q)))
close_up (tagged ∷ outer) ts vs f (us, xs, ds, h, b, d, e) q =
    let (ws, gs, items) = close_up outer us (xs ++ (ds ++ vs)) f h (before_item b (later_item d q)) in
    (ws, gs, subst (λ ys. AreItems ys gs) (moved_before ts us xs ds vs ws e) items)
close_up (describing ∷ outer) ts vs f (us, ds, h, d, e) q =
    let (ws, gs, items) = close_up outer us (meta ∷ (ds ++ vs) ++ leaf nil ∷ []) nil h (a_described (later_item d q) a_leaf) in
    (leaf nil ∷ ws, gs, subst (λ xs. AreItems xs gs) (moved_closed ts us ds vs ws meta (leaf nil) e) items)
close_up (discarding ∷ outer) ts vs f (us, ds, h, d, e) q =
    let more = discard ∷ (ds ++ vs) in
    let (ws, gs, items) =
    close_up outer (us ++ more) (leaf nil ∷ []) nil (discard_in outer us more h (one_discarded (later_item d q))) a_leaf in (
      leaf nil ∷ ws,
      gs,
      subst (λ xs. AreItems xs gs) (append_assoc us more (leaf nil ∷ ws) ∙ moved ts us ds vs (leaf nil ∷ ws) discard e) items,
    )
close_up (in_list fs ∷ outer) ts vs f (us, ds, h, r, e) q =
    let (ws, gs, items) = close_up outer us (opens opening.List ∷ (ds ++ vs) ++ closes closing.Round ∷ []) _ h (a_list (items_append r (one_item q))) in
    (closes closing.Round ∷ ws, gs, subst (λ xs. AreItems xs gs) (moved_closed ts us ds vs ws (opens opening.List) (closes closing.Round) e) items)
close_up (in_vector fs ∷ outer) ts vs f (us, ds, h, r, e) q =
    let (ws, gs, items) = close_up outer us (opens opening.Vector ∷ (ds ++ vs) ++ closes closing.Square ∷ []) _ h (a_vector (items_append r (one_item q))) in
    (closes closing.Square ∷ ws, gs, subst (λ xs. AreItems xs gs) (moved_closed ts us ds vs ws (opens opening.Vector) (closes closing.Square) e) items)
close_up (in_set fs ∷ outer) ts vs f (us, ds, h, r, e) q =
    let (ws, gs, items) = close_up outer us (opens opening.Set ∷ (ds ++ vs) ++ closes closing.Curly ∷ []) _ h (a_set (items_append r (one_item q))) in
    (closes closing.Curly ∷ ws, gs, subst (λ xs. AreItems xs gs) (moved_closed ts us ds vs ws (opens opening.Set) (closes closing.Curly) e) items)
close_up (in_map namespace ps None ∷ outer) ts vs f (us, ds, h, r, e) q =
    let both = vs ++ leaf nil ∷ [] in
    let (ws, gs, items) = close_up outer us (opens (opening.Map namespace) ∷ (ds ++ both) ++ closes closing.Curly ∷ []) _ h (a_map (pairs_append r (last_pair q a_leaf))) in (
      leaf nil ∷ closes closing.Curly ∷ ws,
      gs,
      subst (λ xs. AreItems xs gs)
          (moved_closed ts us ds both ws (opens (opening.Map namespace)) (closes closing.Curly) e
          ∙ ap (λ xs. ts ++ xs) (append_assoc vs (leaf nil ∷ []) (closes closing.Curly ∷ ws))) items,
    )
close_up (in_map namespace ps (Some k) ∷ outer) ts vs f (us, xs, ks, ds, h, r, a, d, e) q =
    let all = xs ++ (ks ++ ds) in
    let pairs =
    subst (λ ys. ArePairs ys (ps ++ (k, f) ∷ [])) (ap (λ ys. xs ++ ys) (sym (append_assoc ks ds vs)) ∙ sym (append_assoc xs (ks ++ ds) vs))
    (pairs_append r (last_pair a (later_item d q))) in
    let (ws, gs, items) = close_up outer us (opens (opening.Map namespace) ∷ (all ++ vs) ++ closes closing.Curly ∷ []) _ h (a_map pairs) in
    (closes closing.Curly ∷ ws, gs, subst (λ ys. AreItems ys gs) (moved_closed ts us all vs ws (opens (opening.Map namespace)) (closes closing.Curly) e) items)

closing_tokens : (stack : List Frame) (ts : List Token) → Holds stack ts → (us : List Token) × (gs : List Form) × AreItems (ts ++ us) gs
closing_tokens stack ts h = let (us, gs, items) = close_up stack ts (leaf nil ∷ []) nil h a_leaf in (leaf nil ∷ us, gs, items)

-- ---- the text

outside_on : {first : Stage} {ts0 : List Token} {fs : List Form} → AreSoFar first ts0 fs → (ts us : List Token) (gs : List Form)
    → ((first ≡ Start) × BeginsOther ts) ⊎ (first ≡ Forms) → AreItems (ts ++ us) gs → AreAll ((ts0 ++ ts) ++ us) (fs ++ gs)
outside_on at_start [] us gs (inl (_, other)) items = absurd other
outside_on at_start (t ∷ ts) us gs (inl (_, other)) items = all_forms other items
outside_on at_start ts us gs (inr e) items = absurd (cc)
outside_on {fs = fs} (outside {t = t} {ts = ts0} other r) ts us gs from items =
    subst (λ xs. AreAll (t ∷ xs) (fs ++ gs)) (sym (append_assoc ts0 ts us)) (all_forms other (items_append (forms_items r) items))
outside_on (inside r) ts us gs (inl (e, _)) items = absurd (cc)
outside_on (inside r) ts us gs (inr e) items = absurd (cc)

inside_on : {first : Stage} {ts0 : List Token} {fs : List Form} → AreSoFar first ts0 fs → (ts us ws : List Token) (gs : List Form)
    → (first ≡ Start) ⊎ (first ≡ Elements) → IsBehind first ts us → AreItems (us ++ ws) gs
    → AreAll ((ts0 ++ ts) ++ (ws ++ closes closing.Square ∷ [])) (fs ++ gs)
inside_on at_start ts us ws gs from (t, square, e) items =
    let end = closes closing.Square ∷ [] in
    subst (λ xs. AreAll xs gs)
    (ap (λ xs. opens opening.Vector ∷ xs) (append_assoc us ws end) ∙ ap (λ x. x ∷ (us ++ (ws ++ end))) (sym (square_is t square))
    ∙ ap (λ xs. xs ++ (ws ++ end)) (sym e)) (one_vector items)
inside_on (outside other r) ts us ws gs (inl e) behind items = absurd (cc)
inside_on (outside other r) ts us ws gs (inr e) behind items = absurd (cc)
inside_on {fs = fs} (inside {ts = ts0} r) ts us ws gs from behind items =
    let end = closes closing.Square ∷ [] in
    subst (λ xs. AreAll (opens opening.Vector ∷ xs) (fs ++ gs))
    (ap (λ xs. xs ++ end) (sym (append_assoc ts0 us ws)) ∙ append_assoc (ts0 ++ us) ws end
    ∙ ap (λ xs. (ts0 ++ xs) ++ (ws ++ end)) (sym behind)) (one_vector (items_append (forms_items r) items))

over_on : (first stage : Stage) (ts0 ts : List Token) (fs : List Form) (stack : List Frame) → AreSoFar first ts0 fs
    → Leads first stage ts stack → stack ≡ top ∷ [] → (stage ≡ Elements → ⊥) → MayGoOn (ts0 ++ ts)
over_on first stage ts0 ts fs stack so leads idle other = (
  [],
  fs,
  subst (λ xs. AreAll xs fs) (sym (append-nil (ts0 ++ ts))) (all_forms_read so ts (last_tokens first stage ts stack leads (ap is_top idle) other)),
)

pub may_go_on : (first stage : Stage) (ts0 ts : List Token) (fs : List Form) (stack : List Frame) → AreSoFar first ts0 fs
    → Leads first stage ts stack → MayGoOn (ts0 ++ ts)
may_go_on first Start ts0 ts fs stack so leads = over_on first Start ts0 ts fs stack so leads leads.2 (λ e. cc)
may_go_on first Forms ts0 ts fs stack so (from, h) =
    let (us, gs, items) = closing_tokens stack ts h in (us, fs ++ gs, outside_on so ts us gs from items)
may_go_on first Elements ts0 ts fs stack so (from, (us, behind, h)) =
    let (ws, gs, items) = closing_tokens stack us h in
    (ws ++ closes closing.Square ∷ [], fs ++ gs, inside_on so ts us ws gs from behind items)
may_go_on first Closed ts0 ts fs stack so leads = over_on first Closed ts0 ts fs stack so leads leads.0 (λ e. cc)
may_go_on first (Failed fault) ts0 ts fs stack so leads = over_on first (Failed fault) ts0 ts fs stack so leads leads.1 (λ e. cc)
