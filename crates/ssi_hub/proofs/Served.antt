-- What the calls say of a connection after one more call.
use Rattle.std.proofs.Common.{◌≡◌, ℕ, ◌<◌, ◌≤◌, List, [], ◌∷◌, ◌++◌, Bool, true, false}
use Rattle.std.proofs.Common.{refl, sym, ap, ◌∙◌, append_assoc, arith}
use Rattle.std.specs.Prelude.{◌==◌, All}
use Rattle.std.specs.List.{AllByRecursion}
use Rattle.std.proofs.lemmas.Bool.{ne_eqb, eq-eqb}
use Rattle.std.proofs.lemmas.List.Elements.{All-nil, All-append}
use Rattle.adya_line.specs.Meaning.Lines.{IsPlain}
use Rattle.adya_text.specs.Meaning.Texts.{with_ends}
use Rattle.ssi_line.specs.Meaning.Steps.{Step, AreStepsOf, steps_text}
use Rattle.ssi_hub.specs.Clauses.Calls.{Call, Opened, Received, Ran, Wrote, Closed, token_of, is_open, lines_of, steps_of, written_to}
use Rattle.ssi_hub.specs.Clauses.Serving.{IsServed}
use Rattle.ssi_line.proofs.StepLists.{ends_append, text_append, steps_append}

-- ---- a call of another connection

pub served_other : (keeps : Bool) (t : ℕ) (c : Call) (calls : List Call) (left unsent : List ℕ) → (token_of c == t) ≡ false
    → IsServed keeps t calls left unsent → IsServed keeps t (c ∷ calls) left unsent
served_other keeps t (Opened u) calls left unsent apart s =
    record { plain = s.plain; cut = s.cut; made = s.made; replies = s.replies }
served_other keeps t (Received u bytes) calls left unsent apart s =
    record { plain = s.plain; cut = rw apart s.cut; made = s.made; replies = s.replies }
served_other keeps t (Ran u lines steps) calls left unsent apart s =
    record { plain = rw apart s.plain; cut = rw apart s.cut; made = rw apart s.made; replies = rw apart s.replies }
served_other keeps t (Wrote u bytes) calls left unsent apart s =
    record { plain = s.plain; cut = s.cut; made = s.made; replies = rw apart s.replies }
served_other keeps t (Closed u) calls left unsent apart s =
    record { plain = s.plain; cut = s.cut; made = s.made; replies = s.replies }

pub open_other : (t : ℕ) (c : Call) (calls : List Call) → (token_of c == t) ≡ false
    → is_open t (c ∷ calls) ≡ is_open t calls
open_other t (Opened u) calls apart = rw apart refl
open_other t (Received u bytes) calls apart = refl
open_other t (Ran u lines steps) calls apart = refl
open_other t (Wrote u bytes) calls apart = refl
open_other t (Closed u) calls apart = rw apart refl

-- ---- a token that wasn't given yet

pub served_none : (keeps : Bool) (t : ℕ) → IsServed keeps t [] [] []
served_none keeps t = record { plain = All-nil IsPlain; cut = refl; made = tt; replies = refl }

not_yet : (next t u : ℕ) → u < next → next ≤ t → (u == t) ≡ false
not_yet next t u below above = ne_eqb u t (λ same. absurd (omega (arith, below, above, same)))

pub fresh_served : (keeps : Bool) (next t : ℕ) (calls : List Call) → AllByRecursion (λ c. token_of c < next) calls → next ≤ t
    → IsServed keeps t calls [] []
fresh_served keeps next t [] given above = served_none keeps t
fresh_served keeps next t (c ∷ calls) given above =
    served_other keeps t c calls [] [] (not_yet next t (token_of c) given.0 above) (fresh_served keeps next t calls given.1 above)

pub fresh_closed : (next t : ℕ) (calls : List Call) → AllByRecursion (λ c. token_of c < next) calls → next ≤ t
    → is_open t calls ≡ false
fresh_closed next t [] given above = refl
fresh_closed next t (c ∷ calls) given above =
    open_other t c calls (not_yet next t (token_of c) given.0 above) ∙ fresh_closed next t calls given.1 above

-- ---- a call of the connection itself

own : (t : ℕ) → (t == t) ≡ true
own t = eq-eqb t t refl

pub served_received : (keeps : Bool) (t : ℕ) (bytes : List ℕ) (calls : List Call) (left unsent : List ℕ)
    → IsServed keeps t calls left unsent → IsServed keeps t (Received t bytes ∷ calls) (left ++ bytes) unsent
served_received keeps t bytes calls left unsent s = record {
  plain = s.plain;
  cut = rw (own t) (ap (λ (l : List ℕ). l ++ bytes) s.cut ∙ append_assoc (with_ends (lines_of t calls)) left bytes);
  made = s.made;
  replies = s.replies;
}

pub served_ran : (keeps : Bool) (t : ℕ) (lines : List (List ℕ)) (steps : List Step) (calls : List Call) (left unsent after : List ℕ)
    → All IsPlain lines → left ≡ with_ends lines ++ after → AreStepsOf keeps lines steps → IsServed keeps t calls left unsent
    → IsServed keeps t (Ran t lines steps ∷ calls) after (unsent ++ steps_text steps)
served_ran keeps t lines steps calls left unsent after plain cut made s = record {
  plain = rw (own t) (All-append IsPlain (lines_of t calls) lines s.plain plain);
  cut =
      rw (own t)
      (s.cut ∙ ap (λ (l : List ℕ). with_ends (lines_of t calls) ++ l) cut
      ∙ sym (append_assoc (with_ends (lines_of t calls)) (with_ends lines) after)
      ∙ ap (λ (l : List ℕ). l ++ after) (sym (ends_append (lines_of t calls) lines)));
  made = rw (own t) (steps_append keeps (lines_of t calls) lines (steps_of t calls) steps s.made made);
  replies =
      rw (own t)
      (text_append (steps_of t calls) steps ∙ ap (λ (l : List ℕ). l ++ steps_text steps) s.replies
      ∙ append_assoc (written_to t calls) unsent (steps_text steps));
}

pub served_wrote : (keeps : Bool) (t : ℕ) (bytes : List ℕ) (calls : List Call) (left unsent after : List ℕ) → unsent ≡ bytes ++ after
    → IsServed keeps t calls left unsent → IsServed keeps t (Wrote t bytes ∷ calls) left after
served_wrote keeps t bytes calls left unsent after cut s = record {
  plain = s.plain;
  cut = s.cut;
  made = s.made;
  replies =
      rw (own t)
      (s.replies ∙ ap (λ (l : List ℕ). written_to t calls ++ l) cut ∙ sym (append_assoc (written_to t calls) bytes after));
}

pub served_opened : (keeps : Bool) (t u : ℕ) (calls : List Call) (left unsent : List ℕ) → IsServed keeps t calls left unsent
    → IsServed keeps t (Opened u ∷ calls) left unsent
served_opened keeps t u calls left unsent s =
    record { plain = s.plain; cut = s.cut; made = s.made; replies = s.replies }

pub served_closed : (keeps : Bool) (t u : ℕ) (calls : List Call) (left unsent : List ℕ) → IsServed keeps t calls left unsent
    → IsServed keeps t (Closed u ∷ calls) left unsent
served_closed keeps t u calls left unsent s =
    record { plain = s.plain; cut = s.cut; made = s.made; replies = s.replies }
