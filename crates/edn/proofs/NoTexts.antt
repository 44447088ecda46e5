-- A text that is refused where a reader has come is none of EDN.
use Rattle.std.proofs.Common.{◌≡◌, ◌⊎◌, inl, inr, ℕ, Bool, true, false, List, [], ◌∷◌, ◌++◌, Option, None, Some, Ok, refl, sym, ap, ◌∙◌, subst, append_assoc, append-nil}
use Rattle.edn.specs.declared.reader.Reader.{Reader}
use Rattle.edn.specs.declared.reader.Stage.{Stage}
use Rattle.edn.specs.declared.reader.Stage.TheVariants.{Start, Forms, Elements}
use Rattle.edn.specs.declared.read_fault.Problem.TheVariants.{Unopened}
use Rattle.edn.specs.Meaning.Openings as opening
use Rattle.edn.specs.declared.token.Closing.TheVariants.{Square}
use Rattle.edn.specs.Meaning.Forms.{Form}
use Rattle.edn.specs.Meaning.Grammar.{IsItem, a_later, AreItems, no_items, no_item, an_item}
use Rattle.edn.specs.Meaning.Lexing.{IsBlank, Lexes, no_tokens, next}
use Rattle.edn.specs.Meaning.Readers.{AreFirst, AreLast, AreLastBehind, EndsHere, HasNoForm, IsFormAt, text_left}
use Rattle.edn.specs.Meaning.Texts.{AreAll, nothing, all_forms, one_vector, AreForms, no_forms, one_more, AreSoFar, at_start, outside, inside, HasRead, IsNoText}
use Rattle.edn.specs.Meaning.Tokens.{Token, opens, closes, discard, is_square}
use Rattle.edn.specs.Computing.Building.{top, in_list, put, step, run, resume}
use Rattle.edn.proofs.Held.{AreDiscarded, none_more, one_more as one_more_discarded, no_forms_in}
use Rattle.edn.proofs.ItemsRun.{item_runs, items_run, takes_list}
use Rattle.edn.proofs.NoForms.{no_stack}
use Rattle.edn.proofs.NotOver.{discards_end, not_both, whole_tokens}
use Rattle.edn.proofs.OneReading.{alone, made}
use Rattle.edn.proofs.TextsRead.{forms_items}

-- ---- the first of the forms

-- the tokens are discarded, or begin with those of the first form
FirstOf : List Token → List Form → Type 0
FirstOf ts fs =
    (AreDiscarded ts × (fs ≡ []))
    ⊎ ((us vs : List Token) × (f : Form) × (gs : List Form) × IsItem us f × (ts ≡ us ++ vs) × AreItems vs gs × (fs ≡ f ∷ gs))

later_first : {ds : List Token} {g : Form} (ts : List Token) (fs : List Form) → IsItem ds g → FirstOf ts fs → FirstOf (discard ∷ ds ++ ts) fs
unfolding FirstOf
later_first ts fs d (inl (r, e)) = inl (one_more_discarded d r, e)
later_first {ds = ds} ts fs d (inr (us, vs, f, gs, q, e, r, is)) =
    inr (discard ∷ ds ++ us, vs, f, gs, a_later d q, ap (λ xs. discard ∷ xs) (ap (λ xs. ds ++ xs) e ∙ sym (append_assoc ds us vs)), r, is)

first_of_items : {ts : List Token} {fs : List Form} → AreItems ts fs → FirstOf ts fs
unfolding FirstOf
first_of_items no_items = inl (none_more, refl)
first_of_items (no_item {ts = ts} {fs = fs} d r) = later_first ts fs d (first_of_items r)
first_of_items (an_item {us = us} {ts = ts} {f = f} {fs = fs} q r) = inr (us, ts, f, fs, q, refl, r, refl)

-- of two ways to part a list, one goes on as the other does
pub parted : (us vs ws xs : List Token) → us ++ vs ≡ ws ++ xs
    → ((ks : List Token) × (ws ≡ us ++ ks) × (vs ≡ ks ++ xs)) ⊎ ((ks : List Token) × (us ≡ ws ++ ks) × (xs ≡ ks ++ vs))
parted [] vs ws xs e = inl (ws, refl, e)
parted (u ∷ us) vs [] xs e = inr (u ∷ us, refl, sym e)
parted (u ∷ us) vs (w ∷ ws) xs e =
    let same : u ≡ w = cc in
    elim (parted us vs ws xs (let rest : us ++ vs ≡ ws ++ xs = cc in rest)) [
      | inl (ks, is, more) ↦ inl (ks, ap (λ ys. w ∷ ys) is ∙ ap (λ x. x ∷ (us ++ ks)) (sym same), more)
      | inr (ks, is, more) ↦ inr (ks, ap (λ ys. u ∷ ys) is ∙ ap (λ x. x ∷ (ws ++ ks)) same, more)
    ]

-- the tokens of a form don't go on to another form
one_form_only : (f g : Form) (ks : List Token) → resume (Ok (top ∷ [], Some f)) ks ≡ Ok (top ∷ [], Some g) → (ks ≡ []) × (f ≡ g)
one_form_only f g [] e = (refl, alone f g [] e)
one_form_only f g (k ∷ ks) e = absurd (cc)

item_alone : (us ks : List Token) (f g : Form) → IsItem us f → IsItem (us ++ ks) g → (ks ≡ []) × (f ≡ g)
unfolding put
item_alone us ks f g q p = one_form_only f g ks (sym (item_runs q top [] ks) ∙ made p)

-- tokens that begin with those of a form make that form first
after_item : (us vs : List Token) (f : Form) (fs : List Form) → IsItem us f → AreItems (us ++ vs) fs
    → (gs : List Form) × (fs ≡ f ∷ gs) × AreItems vs gs
unfolding put FirstOf
after_item us vs f fs q items =
    elim (first_of_items items) [
      | inl (d, _) ↦ absurd (no_stack f vs (top ∷ []) (sym (item_runs q top [] vs) ∙ discards_end (no_forms_in d)))
      | inr (ws, xs, g, gs, p, e, r, is) ↦ elim (parted us vs ws xs e) [
        | inl (ks, more, rest) ↦
            let (none, same) = item_alone us ks f g q (subst (λ ys. IsItem ys g) more p) in
            (gs, is ∙ ap (λ h. h ∷ gs) (sym same), subst (λ ys. AreItems ys gs) (sym (rest ∙ ap (λ ys. ys ++ xs) none)) r)
        | inr (ks, more, rest) ↦
            let (none, same) = item_alone ws ks g f p (subst (λ ys. IsItem ys f) more q) in
            (gs, is ∙ ap (λ h. h ∷ gs) same, subst (λ ys. AreItems ys gs) (rest ∙ ap (λ ys. ys ++ vs) none) r)
      ]
    ]

-- and those that begin with forms make these first
after_forms : {ts : List Token} {fs : List Form} → AreForms ts fs → (vs : List Token) (gs : List Form) → AreItems (ts ++ vs) gs
    → (hs : List Form) × (gs ≡ fs ++ hs) × AreItems vs hs
after_forms no_forms vs gs items = (gs, refl, items)
after_forms (one_more {ts = ts} {us = us} {fs = fs} {f = f} r q) vs gs items =
    let (hs, e, more) = after_forms r (us ++ vs) gs (subst (λ xs. AreItems xs gs) (append_assoc ts us vs) items) in
    let (ks, is, last) = after_item us vs f hs q more in
    (ks, e ∙ ap (λ xs. fs ++ xs) is ∙ sym (append_assoc fs (f ∷ []) ks), last)

-- ---- no bracket is left over

pub unopened : (ts us : List Token) (fs gs : List Form) → AreItems ts fs → AreItems (ts ++ closes Square ∷ us) gs → ⊥
unfolding step
unopened ts us fs gs r q =
    not_both (run (in_list [] ∷ top ∷ []) (ts ++ closes Square ∷ us)) Unopened (in_list gs ∷ top ∷ [], None)
    (items_run in_list takes_list r [] (top ∷ []) (closes Square ∷ us))
    (ap (run (in_list [] ∷ top ∷ [])) (sym (append-nil (ts ++ closes Square ∷ us)))
    ∙ items_run in_list takes_list q [] (top ∷ []) [])

-- ---- what is left of a whole text

lexes_part : {text end : List ℕ} (us vs : List Token) → Lexes text (us ++ vs) end → (mid : List ℕ) × Lexes text us mid
lexes_part {text} [] vs l = (text, no_tokens)
lexes_part (u ∷ us) vs (next gap front g b l) = let (mid, m) = lexes_part us vs l in (mid, next gap front g b m)

-- the tokens that are left have a form first, or are the last ones
unfoldable pub GoesOn : Stage → List Token → Type 0
GoesOn stage vs = AreLast stage vs ⊎ ((us ws : List Token) × (f : Form) × (vs ≡ us ++ ws) × IsFormAt stage us f)

first_on : (b : Bool) (t : Token) (us : List Token) (f : Form) → is_square t ≡ b → AreFirst b t us (λ xs. IsItem xs f)
    → IsFormAt Start (t ∷ us) f
first_on b t us f is h = subst (λ x. AreFirst x t us (λ xs. IsItem xs f)) (sym is) h

some_item : (us : List Token) (f : Form) → IsItem us f → us ≡ [] → ⊥
unfolding put
some_item us f q none =
    no_stack f [] (top ∷ []) (sym (made q) ∙ ap (run (top ∷ [])) none)

start_items : (t : Token) (ts : List Token) (fs : List Form) → is_square t ≡ false → AreItems (t ∷ ts) fs → GoesOn Start (t ∷ ts)
unfolding FirstOf GoesOn
start_items t ts fs other items =
    elim (first_of_items items) [
      | inl (d, _) ↦ inl (subst (λ b. AreLastBehind b t ts) (sym other) (no_forms_in d))
      | inr ([], vs, f, gs, q, e, r, is) ↦ absurd (some_item [] f q refl)
      | inr (u ∷ us, vs, f, gs, q, e, r, is) ↦
          let same : t ≡ u = cc in
          inr (u ∷ us, vs, f, e, first_on false u us f (subst (λ x. is_square x ≡ false) same other) q)
    ]

start_vector : (ts : List Token) (fs : List Form) → AreItems ts fs → GoesOn Start (opens opening.Vector ∷ ts ++ closes Square ∷ [])
unfolding FirstOf GoesOn
start_vector ts fs items =
    elim (first_of_items items) [
      | inl (d, _) ↦ inl (ts, no_forms_in d, refl)
      | inr (us, vs, f, gs, q, e, r, is) ↦
          inr (
            opens opening.Vector ∷ us,
            vs ++ closes Square ∷ [],
            f,
            ap (λ xs. opens opening.Vector ∷ xs) (ap (λ xs. xs ++ closes Square ∷ []) e ∙ append_assoc us vs (closes Square ∷ [])),
            q,
          )
    ]

start_on : {vs : List Token} {fs : List Form} → AreAll vs fs → GoesOn Start vs
unfolding GoesOn
start_on nothing = inl tt
start_on (all_forms {t = t} {ts = ts} {fs = fs} other items) = start_items t ts fs other items
start_on (one_vector {ts = ts} {fs = fs} items) = start_vector ts fs items

forms_on : (vs : List Token) (fs : List Form) → AreItems vs fs → GoesOn Forms vs
unfolding FirstOf GoesOn
forms_on vs fs items =
    elim (first_of_items items) [
      | inl (d, _) ↦ inl (no_forms_in d)
      | inr (us, ws, f, gs, q, e, r, is) ↦ inr (us, ws, f, e, q)
    ]

elements_on : (vs : List Token) (fs : List Form) → AreItems vs fs → GoesOn Elements (vs ++ closes Square ∷ [])
unfolding FirstOf GoesOn
elements_on vs fs items =
    elim (first_of_items items) [
      | inl (d, _) ↦ inl (vs, no_forms_in d, refl)
      | inr (us, ws, f, gs, q, e, r, is) ↦
          inr (us, ws ++ closes Square ∷ [], f, ap (λ xs. xs ++ closes Square ∷ []) e ∙ append_assoc us ws (closes Square ∷ []), q)
    ]

outside_all : (t : Token) (ts : List Token) (gs : List Form) → is_square t ≡ false → AreAll (t ∷ ts) gs → AreItems (t ∷ ts) gs
outside_all t ts gs other (all_forms is items) = items
outside_all t ts gs other (one_vector items) = absurd (let no : true ≡ false = other in cc)

pub inside_all : (ts : List Token) (gs : List Form) → AreAll (opens opening.Vector ∷ ts) gs
    → (us : List Token) × AreItems us gs × (ts ≡ us ++ closes Square ∷ [])
inside_all ts gs (all_forms is items) = absurd (let no : true ≡ false = is in cc)
inside_all ts gs (one_vector {ts = us} items) = (us, items, refl)

elements_left : (ts vs us : List Token) (fs gs : List Form) → AreForms ts fs → AreItems us gs → ts ++ vs ≡ us ++ closes Square ∷ []
    → GoesOn Elements vs
elements_left ts vs us fs gs r items e =
    elim (parted ts vs us (closes Square ∷ []) e) [
      | inl (ks, more, rest) ↦
          let (hs, _, left) = after_forms r ks gs (subst (λ xs. AreItems xs gs) more items) in
          subst (GoesOn Elements) (sym rest) (elements_on ks hs left)
      | inr ([], more, rest) ↦
          subst (GoesOn Elements) rest (elements_on [] [] no_items)
      | inr (k ∷ ks, more, rest) ↦
          let square : k ≡ closes Square = cc in
          absurd (unopened us ks gs fs items
          (subst (λ xs. AreItems xs fs) (more ∙ ap (λ x. us ++ x ∷ ks) square) (forms_items r)))
    ]

pub left_on : {stage : Stage} {ts : List Token} {fs : List Form} → AreSoFar stage ts fs → (vs : List Token) (gs : List Form)
    → AreAll (ts ++ vs) gs → GoesOn stage vs
left_on at_start vs gs all = start_on all
left_on (outside {t = t} {ts = ts} other r) vs gs all =
    let (hs, _, left) = after_forms r vs gs (outside_all t (ts ++ vs) gs other all) in forms_on vs hs left
left_on (inside {ts = ts} {fs = fs} r) vs gs all =
    let (us, items, e) = inside_all (ts ++ vs) gs all in elements_left ts vs us fs gs r items e

refused_on : (stage : Stage) (text rest : List ℕ) (vs : List Token) → GoesOn stage vs → Lexes text vs rest → IsBlank rest
    → HasNoForm stage (Some text) → (EndsHere stage (Some text) → ⊥) → ⊥
unfolding GoesOn
refused_on stage text rest vs (inl last) l blank none over = over (vs, rest, l, last, blank)
refused_on stage text rest vs (inr (us, ws, f, e, item)) l blank none over =
    let (mid, m) = lexes_part us ws (subst (λ xs. Lexes text xs rest) e l) in none f (us, mid, m, item)

pub no_text : (text : List ℕ) (fs : List Form) (r : Reader) (left : Option (List ℕ)) → HasRead text fs r left
    → HasNoForm r.stage (text_left r left) → (EndsHere r.stage (text_left r left) → ⊥) → IsNoText text
no_text text fs r left h none over = λ gs is.
    let (ts, mid, l, so, now) = h.so_far in
    let (us, rest, m, all, blank) = is in
    let (vs, e, n) = whole_tokens l m blank in
    refused_on r.stage mid rest vs (left_on so vs gs (subst (λ xs. AreAll xs gs) e all)) n blank
    (subst (HasNoForm r.stage) now none) (subst (λ x. EndsHere r.stage x → ⊥) now over)
