-- The forms that were read one by one are those of the whole text.
use Rattle.std.proofs.Common.{◌≡◌, ℕ, Bool, true, false, List, [], ◌∷◌, ◌++◌, Option, Some, refl, sym, ap, ◌∙◌, subst, append_assoc, append-nil}
use Rattle.edn.specs.declared.reader.Reader.{Reader}
use Rattle.edn.specs.declared.reader.Stage.{Stage}
use Rattle.edn.specs.declared.reader.Stage.TheVariants.{Start, Elements}
use Rattle.edn.specs.declared.token.Beyond.TheVariants.{Unread}
use Rattle.edn.specs.Meaning.Openings as opening
use Rattle.edn.specs.declared.token.Closing.TheVariants.{Square}
use Rattle.edn.specs.Meaning.Forms.{Form}
use Rattle.edn.specs.Meaning.Grammar.{IsItem, AreItems, no_items}
use Rattle.edn.specs.Meaning.Lexing.{Lexes, no_tokens, next}
use Rattle.edn.specs.Meaning.Lines.{IsAt, line_after}
use Rattle.edn.specs.Meaning.Readers.{AreFirst, AreLast, AreLastBehind, IsFormAt, IsOver, IsReady, ReadsForm, begun, line_read, stage_after, text_left}
use Rattle.edn.specs.Meaning.Texts.{AreAll, nothing, all_forms, one_vector, AreForms, no_forms, one_more, AreSoFar, at_start, outside, inside, HasRead, IsText}
use Rattle.edn.specs.Meaning.Tokens.{Token, opens, closes, discard, tag, meta, leaf, is_square}
use Rattle.edn.specs.Meaning.Reading.{IsLinked}
use Rattle.edn.specs.Computing.Building.{top}
use Rattle.edn.specs.Computing.Stacks.{stack_of}
use Rattle.edn.proofs.Held.{items_append, one_item}

-- ---- tokens

pub lexes_append : {text mid end : List ℕ} {ts us : List Token} → Lexes text ts mid → Lexes mid us end
    → Lexes text (ts ++ us) end
lexes_append no_tokens m = m
lexes_append (next gap text g b l) m = next gap text g b (lexes_append l m)

pub square_is : (t : Token) → is_square t ≡ true → t ≡ opens opening.Vector
square_is (opens opening.Vector) e = refl
square_is (opens opening.List) e = absurd (let no : false ≡ true = e in cc)
square_is (opens opening.Set) e = absurd (let no : false ≡ true = e in cc)
square_is (opens (opening.Map namespace)) e = absurd (let no : false ≡ true = e in cc)
square_is (closes b) e = absurd (let no : false ≡ true = e in cc)
square_is discard e = absurd (let no : false ≡ true = e in cc)
square_is tag e = absurd (let no : false ≡ true = e in cc)
square_is meta e = absurd (let no : false ≡ true = e in cc)
square_is (leaf f) e = absurd (let no : false ≡ true = e in cc)

-- ---- one form more

first_form : (b : Bool) (t : Token) (ts : List Token) (f : Form) → is_square t ≡ b → AreFirst b t ts (λ us. IsItem us f)
    → AreSoFar (begun b) (t ∷ ts) (f ∷ [])
first_form true t ts f is item =
    subst (λ s. AreSoFar Elements (s ∷ ts) (f ∷ [])) (sym (square_is t is)) (inside (one_more no_forms item))
first_form false t ts f is item = outside is (one_more no_forms item)

so_far_more : {stage : Stage} {ts : List Token} {fs : List Form} → AreSoFar stage ts fs → (us : List Token) (f : Form)
    → IsFormAt stage us f → AreSoFar (stage_after stage us) (ts ++ us) (fs ++ f ∷ [])
so_far_more at_start [] f item = absurd item
so_far_more at_start (t ∷ us) f item = first_form (is_square t) t us f refl item
so_far_more (outside other r) us f item = outside other (one_more r item)
so_far_more (inside r) us f item = inside (one_more r item)

pub reads_on : (text : List ℕ) (fs : List Form) (old new : Reader) (left more : Option (List ℕ)) (f : Form)
    → HasRead text fs old left → ReadsForm old.stage new.stage (text_left old left) (text_left new more) f → IsReady new more
    → IsAt text (text_left new more) (line_read new) → HasRead text (fs ++ f ∷ []) new more
reads_on text fs old new left more f h reads ready line =
    let (ts, mid, l, so, is) = h.so_far in
    let (us, rest, m, item, to, now) = subst (λ x. ReadsForm old.stage new.stage x (text_left new more) f) is reads in
    record {
      ready = ready;
      so_far = (
        ts ++ us,
        rest,
        lexes_append l m,
        subst (λ s. AreSoFar s (ts ++ us) (fs ++ f ∷ [])) (sym to) (so_far_more so us f item),
        now,
      );
      line = line;
    }

-- ---- no form more

pub forms_items : {ts : List Token} {fs : List Form} → AreForms ts fs → AreItems ts fs
forms_items no_forms = no_items
forms_items (one_more r item) = items_append (forms_items r) (one_item item)

pub last_items : {ts us : List Token} {fs : List Form} → AreForms ts fs → AreItems us [] → AreItems (ts ++ us) fs
last_items {ts} {us} {fs} r q = subst (AreItems (ts ++ us)) (append-nil fs) (items_append (forms_items r) q)

nothing_more : (b : Bool) (t : Token) (us : List Token) → is_square t ≡ b → AreLastBehind b t us → AreAll (t ∷ us) []
nothing_more true t us is (ds, items, e) =
    subst (λ s. AreAll (s ∷ us) []) (sym (square_is t is))
    (subst (λ xs. AreAll (opens opening.Vector ∷ xs) []) (sym e) (one_vector items))
nothing_more false t us is items = all_forms is items

pub all_forms_read : {stage : Stage} {ts : List Token} {fs : List Form} → AreSoFar stage ts fs → (us : List Token) → AreLast stage us
    → AreAll (ts ++ us) fs
all_forms_read at_start [] last = nothing
all_forms_read at_start (t ∷ us) last = nothing_more (is_square t) t us refl last
all_forms_read (outside other r) us last = all_forms other (last_items r last)
all_forms_read {fs = fs} (inside {ts = ts} r) us (ds, items, e) =
    subst (λ xs. AreAll (opens opening.Vector ∷ xs) fs) (append_assoc ts ds (closes Square ∷ []) ∙ ap (λ xs. ts ++ xs) (sym e))
    (one_vector (last_items r items))

pub all_read : (text : List ℕ) (fs : List Form) (r : Reader) (left : Option (List ℕ)) → HasRead text fs r left
    → IsOver r.stage (text_left r left) → IsText text fs
all_read text fs r left h over =
    let (ts, mid, l, so, is) = h.so_far in
    let (us, rest, m, last, blank) = subst (IsOver r.stage) is over in
    (ts ++ us, rest, lexes_append l m, all_forms_read so us last, blank)

-- ---- a reader that begins

first_line : line_after [] ≡ 1
unfolding line_after
first_line = refl

pub begins : (text front : List ℕ) (r : Reader) → r.input.beyond ≡ Unread → r.input.pending ≡ front
    → r.input.line ≡ 1 → r.stage ≡ Start → stack_of r.builder ≡ top ∷ [] → HasRead (front ++ text) [] r (Some text)
begins text front r unread pending first start idle = record {
  ready = record { linked = subst (λ b. IsLinked b (Some text)) (sym unread) tt; idle = idle };
  so_far = (
    [],
    front ++ text,
    no_tokens,
    subst (λ s. AreSoFar s [] []) (sym start) at_start,
    ap (λ p. Some (p ++ text)) pending,
  );
  line = ([], front ++ text, refl, ap (λ p. Some (p ++ text)) pending, first ∙ sym first_line);
}
