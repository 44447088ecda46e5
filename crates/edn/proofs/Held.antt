-- What the stack holds is what the tokens so far have made.
use Rattle.std.proofs.Common.{◌≡◌, List, [], ◌∷◌, ◌++◌, Some, None, Result, Ok, Err, refl, sym, ap, ◌∙◌, subst, append_assoc, append-nil}
use Rattle.edn.specs.Meaning.Openings as opening
use Rattle.edn.specs.declared.token.Closing.{Closing}
use Rattle.edn.specs.declared.token.Closing.TheVariants as closing
use Rattle.edn.specs.declared.read_fault.Problem.{Problem}
use Rattle.edn.specs.Meaning.Forms.{Form}
use Rattle.edn.specs.Meaning.Tokens.{Token, opens, closes, discard, tag, meta, leaf}
use Rattle.edn.specs.Meaning.Grammar.{IsItem, a_leaf, a_tagged, a_described, a_later, a_list, a_vector, a_set, a_map}
use Rattle.edn.specs.Meaning.Grammar.{AreItems, no_items, no_item, an_item, ArePairs, no_pairs, no_pair, a_pair}
use Rattle.edn.specs.Computing.Building.{Frame, top, tagged, describing, in_list, in_vector, in_set, in_map, discarding}
use Rattle.edn.specs.Computing.Building.{Step, or_top, put, close, step}

-- forms that are discarded
pub data AreDiscarded : List Token → Type 0 where
  none_more : AreDiscarded []
  one_more : {ds ts : List Token} {g : Form} → IsItem ds g → AreDiscarded ts → AreDiscarded (discard ∷ ds ++ ts)

-- what stands before a form: a tag, or `^` with its metadata
pub data AreBefore : List Token → Type 0 where
  by_tag : AreBefore (tag ∷ [])
  by_meta : {ds : List Token} {g : Form} → IsItem ds g → AreBefore (meta ∷ ds)

abbrev pub Holds : List Frame → List Token → Type 0
Holds [] ts = ⊥
Holds (top ∷ outer) ts = (outer ≡ []) × AreDiscarded ts
Holds (tagged ∷ outer) ts =
    (us xs vs : List Token) × Holds outer us × AreBefore xs × AreDiscarded vs × (ts ≡ us ++ (xs ++ vs))
Holds (describing ∷ outer) ts = (us vs : List Token) × Holds outer us × AreDiscarded vs × (ts ≡ us ++ meta ∷ vs)
Holds (discarding ∷ outer) ts = (us vs : List Token) × Holds outer us × AreDiscarded vs × (ts ≡ us ++ discard ∷ vs)
Holds (in_list fs ∷ outer) ts = (us vs : List Token) × Holds outer us × AreItems vs fs × (ts ≡ us ++ opens opening.List ∷ vs)
Holds (in_vector fs ∷ outer) ts = (us vs : List Token) × Holds outer us × AreItems vs fs × (ts ≡ us ++ opens opening.Vector ∷ vs)
Holds (in_set fs ∷ outer) ts = (us vs : List Token) × Holds outer us × AreItems vs fs × (ts ≡ us ++ opens opening.Set ∷ vs)
Holds (in_map namespace ps None ∷ outer) ts = (us vs : List Token) × Holds outer us × ArePairs vs ps × (ts ≡ us ++ opens (opening.Map namespace) ∷ vs)
Holds (in_map namespace ps (Some k) ∷ outer) ts =
    (us vs ws ds : List Token) × Holds outer us × ArePairs vs ps × IsItem ws k × AreDiscarded ds
    × (ts ≡ us ++ opens (opening.Map namespace) ∷ (vs ++ (ws ++ ds)))

-- ---- one after another

pub items_append : {ts us : List Token} {fs gs : List Form} → AreItems ts fs → AreItems us gs
    → AreItems (ts ++ us) (fs ++ gs)
items_append no_items r = r
items_append {us = us} {gs = gs} (no_item {ds = ds} {ts = ts} {fs = fs} d q) r =
    subst (λ xs. AreItems (discard ∷ xs) (fs ++ gs)) (sym (append_assoc ds ts us)) (no_item d (items_append q r))
items_append {us = us} {gs = gs} (an_item {us = vs} {ts = ts} {f = f} {fs = fs} q p) r =
    subst (λ xs. AreItems xs (f ∷ fs ++ gs)) (sym (append_assoc vs ts us)) (an_item q (items_append p r))

pub pairs_append : {ts us : List Token} {ps qs : List (Form × Form)} → ArePairs ts ps → ArePairs us qs
    → ArePairs (ts ++ us) (ps ++ qs)
pairs_append no_pairs r = r
pairs_append {us = us} {qs = qs} (no_pair {ds = ds} {ts = ts} {ps = ps} d q) r =
    subst (λ xs. ArePairs (discard ∷ xs) (ps ++ qs)) (sym (append_assoc ds ts us)) (no_pair d (pairs_append q r))
pairs_append {us = us} {qs = qs} (a_pair {us = vs} {vs = ws} {ts = ts} {k = k} {v = v} {ps = ps} a b p) r =
    subst (λ xs. ArePairs xs ((k, v) ∷ ps ++ qs)) (sym (append_assoc (vs ++ ws) ts us)) (a_pair a b (pairs_append p r))

pub discarded_append : {xs ys : List Token} → AreDiscarded xs → AreDiscarded ys → AreDiscarded (xs ++ ys)
discarded_append none_more r = r
discarded_append {ys = bs} (one_more {ds = ds} {ts = ts} d q) r =
    subst (λ xs. AreDiscarded (discard ∷ xs)) (sym (append_assoc ds ts bs)) (one_more d (discarded_append q r))

pub no_forms_in : {ds : List Token} → AreDiscarded ds → AreItems ds []
no_forms_in none_more = no_items
no_forms_in (one_more d r) = no_item d (no_forms_in r)

no_pairs_in : {ds : List Token} → AreDiscarded ds → ArePairs ds []
no_pairs_in none_more = no_pairs
no_pairs_in (one_more d r) = no_pair d (no_pairs_in r)

pub one_item : {ts : List Token} {f : Form} → IsItem ts f → AreItems ts (f ∷ [])
one_item {ts} {f} q = subst (λ xs. AreItems xs (f ∷ [])) (append-nil ts) (an_item q no_items)

pub later_item : {ds ts : List Token} {f : Form} → AreDiscarded ds → IsItem ts f → IsItem (ds ++ ts) f
later_item none_more q = q
later_item {ts = ts} {f = f} (one_more {ds = xs} {ts = ys} d r) q =
    subst (λ xs. IsItem (discard ∷ xs) f) (sym (append_assoc xs ys ts)) (a_later d (later_item r q))

pub one_discarded : {ts : List Token} {g : Form} → IsItem ts g → AreDiscarded (discard ∷ ts)
one_discarded {ts} q = subst (λ xs. AreDiscarded (discard ∷ xs)) (append-nil ts) (one_more q none_more)

items_discard : {vs ds : List Token} {fs : List Form} → AreItems vs fs → AreDiscarded ds → AreItems (vs ++ ds) fs
items_discard {vs} {ds} {fs} r d = subst (AreItems (vs ++ ds)) (append-nil fs) (items_append r (no_forms_in d))

pairs_discard : {vs ds : List Token} {ps : List (Form × Form)} → ArePairs vs ps → AreDiscarded ds
    → ArePairs (vs ++ ds) ps
pairs_discard {vs} {ds} {ps} r d = subst (ArePairs (vs ++ ds)) (append-nil ps) (pairs_append r (no_pairs_in d))

-- ---- what follows an opening token

pub more_after : (ts us vs : List Token) (t : Token) → ts ≡ us ++ t ∷ vs → (ds : List Token)
    → ts ++ ds ≡ us ++ t ∷ (vs ++ ds)
more_after ts us vs t e ds = ap (λ xs. xs ++ ds) e ∙ append_assoc us (t ∷ vs) ds

pub more_before : (ts us xs vs : List Token) → ts ≡ us ++ (xs ++ vs) → (ds : List Token) → ts ++ ds ≡ us ++ (xs ++ (vs ++ ds))
more_before ts us xs vs e ds =
    ap (λ ys. ys ++ ds) e ∙ append_assoc us (xs ++ vs) ds ∙ ap (λ ys. us ++ ys) (append_assoc xs vs ds)

pub before_item : {xs ts : List Token} {f : Form} → AreBefore xs → IsItem ts f → IsItem (xs ++ ts) f
before_item by_tag q = a_tagged q
before_item (by_meta d) q = a_described d q

more_after_key : (ts us vs ws xs : List Token) (t : Token) → ts ≡ us ++ t ∷ (vs ++ (ws ++ xs)) → (ds : List Token)
    → ts ++ ds ≡ us ++ t ∷ (vs ++ (ws ++ (xs ++ ds)))
more_after_key ts us vs ws xs t e ds =
    more_after ts us (vs ++ (ws ++ xs)) t e ds
    ∙ ap (λ ys. us ++ t ∷ ys) (append_assoc vs (ws ++ xs) ds ∙ ap (λ ys. vs ++ ys) (append_assoc ws xs ds))

pub discard_in : (stack : List Frame) (ts ds : List Token) → Holds stack ts → AreDiscarded ds → Holds stack (ts ++ ds)
discard_in [] ts ds h d = h
discard_in (top ∷ outer) ts ds h d = (h.0, discarded_append h.1 d)
discard_in (tagged ∷ outer) ts ds (us, xs, vs, h, b, r, e) d =
    (us, xs, vs ++ ds, h, b, discarded_append r d, more_before ts us xs vs e ds)
discard_in (describing ∷ outer) ts ds (us, vs, h, r, e) d = (us, vs ++ ds, h, discarded_append r d, more_after ts us vs meta e ds)
discard_in (discarding ∷ outer) ts ds (us, vs, h, r, e) d = (us, vs ++ ds, h, discarded_append r d, more_after ts us vs discard e ds)
discard_in (in_list fs ∷ outer) ts ds (us, vs, h, r, e) d = (us, vs ++ ds, h, items_discard r d, more_after ts us vs (opens opening.List) e ds)
discard_in (in_vector fs ∷ outer) ts ds (us, vs, h, r, e) d = (us, vs ++ ds, h, items_discard r d, more_after ts us vs (opens opening.Vector) e ds)
discard_in (in_set fs ∷ outer) ts ds (us, vs, h, r, e) d = (us, vs ++ ds, h, items_discard r d, more_after ts us vs (opens opening.Set) e ds)
discard_in (in_map namespace ps None ∷ outer) ts ds (us, vs, h, r, e) d =
    (us, vs ++ ds, h, pairs_discard r d, more_after ts us vs (opens (opening.Map namespace)) e ds)
discard_in (in_map namespace ps (Some k) ∷ outer) ts ds (us, vs, ws, xs, h, r, q, x, e) d =
    (us, vs, ws, xs ++ ds, h, r, q, discarded_append x d, more_after_key ts us vs ws xs (opens (opening.Map namespace)) e ds)

-- ---- a form, and a token

-- what a step leads to after these tokens: a stack that holds them, or the form that they are
abbrev pub Outcome : Step → List Token → Type 0
Outcome (stack, None) ts = Holds stack ts
Outcome (stack, Some f) ts = IsItem ts f × (stack ≡ top ∷ [])

or_top_holds : (outer : List Frame) (ts : List Token) → Holds outer ts → Holds (or_top outer) ts
or_top_holds [] ts h = absurd h
or_top_holds (f ∷ fs) ts h = h

pub last_pair : {ws vs : List Token} {k v : Form} → IsItem ws k → IsItem vs v → ArePairs (ws ++ vs) ((k, v) ∷ [])
last_pair {ws} {vs} {k} {v} a b = subst (λ xs. ArePairs xs ((k, v) ∷ [])) (append-nil (ws ++ vs)) (a_pair a b no_pairs)

pub put_holds : (stack : List Frame) (ts vs : List Token) (f : Form) → Holds stack ts → IsItem vs f
    → Outcome (put stack f) (ts ++ vs)
unfolding put
put_holds [] ts vs f h q = absurd h
put_holds (top ∷ outer) ts vs f h q = (later_item h.1 q, ap (λ o. top ∷ o) h.0)
put_holds (tagged ∷ outer) ts vs f (us, xs, ds, h, b, d, e) q =
    subst (Outcome (put outer f)) (sym (more_before ts us xs ds e vs))
    (put_holds outer us (xs ++ (ds ++ vs)) f h (before_item b (later_item d q)))
put_holds (describing ∷ outer) ts vs f (us, ds, h, d, e) q = (
  us,
  meta ∷ (ds ++ vs),
  [],
  h,
  by_meta (later_item d q),
  none_more,
  more_after ts us ds meta e vs ∙ ap (λ xs. us ++ meta ∷ xs) (sym (append-nil (ds ++ vs))),
)
put_holds (discarding ∷ outer) ts vs f (us, ds, h, d, e) q =
    subst (Holds (or_top outer)) (sym (more_after ts us ds discard e vs))
    (or_top_holds outer _ (discard_in outer us _ h (one_discarded (later_item d q))))
put_holds (in_list fs ∷ outer) ts vs f (us, ws, h, r, e) q =
    (us, ws ++ vs, h, items_append r (one_item q), more_after ts us ws (opens opening.List) e vs)
put_holds (in_vector fs ∷ outer) ts vs f (us, ws, h, r, e) q =
    (us, ws ++ vs, h, items_append r (one_item q), more_after ts us ws (opens opening.Vector) e vs)
put_holds (in_set fs ∷ outer) ts vs f (us, ws, h, r, e) q =
    (us, ws ++ vs, h, items_append r (one_item q), more_after ts us ws (opens opening.Set) e vs)
put_holds (in_map namespace ps None ∷ outer) ts vs f (us, ws, h, r, e) q = (
  us,
  ws,
  vs,
  [],
  h,
  r,
  q,
  none_more,
  more_after ts us ws (opens (opening.Map namespace)) e vs
      ∙ ap (λ xs. us ++ opens (opening.Map namespace) ∷ (ws ++ xs)) (sym (append-nil vs)),
)
put_holds (in_map namespace ps (Some k) ∷ outer) ts vs f (us, xs, ws, ds, h, r, a, d, e) q = (
  us,
  xs ++ (ws ++ (ds ++ vs)),
  h,
  pairs_append r (last_pair a (later_item d q)),
  more_after_key ts us xs ws ds (opens (opening.Map namespace)) e vs,
)

abbrev pub StepHolds : Result Step Problem → List Token → Type 0
StepHolds (Ok o) ts = Outcome o ts
StepHolds (Err p) ts = Unit {0}

closed_holds : (outer : List Frame) (ts us vs : List Token) (t c : Token) (f : Form)
    → Holds outer us → IsItem (t ∷ vs ++ c ∷ []) f → ts ≡ us ++ t ∷ vs → Outcome (put (or_top outer) f) (ts ++ c ∷ [])
closed_holds outer ts us vs t c f h q e =
    subst (Outcome (put (or_top outer) f)) (sym (more_after ts us vs t e (c ∷ [])))
    (put_holds (or_top outer) us _ f (or_top_holds outer us h) q)

close_holds : (stack : List Frame) (b : Closing) (ts : List Token) → Holds stack ts
    → StepHolds (close stack b) (ts ++ closes b ∷ [])
close_holds [] b ts h = tt
close_holds (top ∷ outer) b ts h = tt
close_holds (tagged ∷ outer) b ts h = tt
close_holds (describing ∷ outer) b ts h = tt
close_holds (discarding ∷ outer) b ts h = tt
close_holds (in_list fs ∷ outer) closing.Round ts (us, vs, h, r, e) =
    closed_holds outer ts us vs _ _ _ h (a_list r) e
close_holds (in_list fs ∷ outer) closing.Square ts h = tt
close_holds (in_list fs ∷ outer) closing.Curly ts h = tt
close_holds (in_vector fs ∷ outer) closing.Round ts h = tt
close_holds (in_vector fs ∷ outer) closing.Square ts (us, vs, h, r, e) =
    closed_holds outer ts us vs _ _ _ h (a_vector r) e
close_holds (in_vector fs ∷ outer) closing.Curly ts h = tt
close_holds (in_set fs ∷ outer) closing.Round ts h = tt
close_holds (in_set fs ∷ outer) closing.Square ts h = tt
close_holds (in_set fs ∷ outer) closing.Curly ts (us, vs, h, r, e) =
    closed_holds outer ts us vs _ _ _ h (a_set r) e
close_holds (in_map namespace ps k ∷ outer) closing.Round ts h = tt
close_holds (in_map namespace ps k ∷ outer) closing.Square ts h = tt
close_holds (in_map namespace ps None ∷ outer) closing.Curly ts (us, vs, h, r, e) =
    closed_holds outer ts us vs _ _ _ h (a_map r) e
close_holds (in_map namespace ps (Some k) ∷ outer) closing.Curly ts h = tt

pub step_holds : (stack : List Frame) (t : Token) (ts : List Token) → Holds stack ts
    → StepHolds (step stack t) (ts ++ t ∷ [])
unfolding step
step_holds stack (opens opening.List) ts h = (ts, [], h, no_items, refl)
step_holds stack (opens opening.Vector) ts h = (ts, [], h, no_items, refl)
step_holds stack (opens opening.Set) ts h = (ts, [], h, no_items, refl)
step_holds stack (opens (opening.Map namespace)) ts h = (ts, [], h, no_pairs, refl)
step_holds stack (closes b) ts h = close_holds stack b ts h
step_holds stack discard ts h = (ts, [], h, none_more, refl)
step_holds stack tag ts h = (ts, tag ∷ [], [], h, by_tag, none_more, refl)
step_holds stack meta ts h = (ts, [], h, none_more, refl)
step_holds stack (leaf f) ts h = put_holds stack ts (leaf f ∷ []) f h a_leaf
