-- Faults of texts that begin with given lines, or are cut into them.
use Rattle.std.proofs.Common.{◌≡◌, ◌≢◌, ◌==◌, ℕ, suc, ◌≤◌, Bool, true, false, List, [], ◌∷◌, ◌++◌, All, length, refl, sym, ap, ◌∙◌, arith, append_assoc}
use Rattle.std.proofs.lemmas.Bool.{eqb-true}
use Rattle.std.proofs.lemmas.List.{length-append}
use Rattle.std.proofs.lemmas.List.Elements.{All-nil, All-cons, All-append, All-push}
use Rattle.adya_text.specs.Meaning.Texts.{with_ends}
use Rattle.adya_line.specs.Meaning.Lines.{IsPlain}
use Rattle.adya_text.specs.Clauses.Faults.{IsCut, HasFront, Begins, IsFirstFaulty, IsFaultLine}
use Rattle.adya_text.specs.Machinery.LineReaders.{Shows, complete, stopped, long}
use Rattle.adya_text.specs.Machinery.LongLines.{HasStart, StartsNoLine}
use Rattle.adya_text.proofs.LineLists.{ends_append}
use Rattle.adya_text.proofs.FaultLines.{Grammar, front_begins, whole_begins, fault_at, fault_stays, fault_stops, fault_missing}

-- the complete lines of a text, and its rest
record Cut (text : List ℕ) : Type 0 where
  lines : List (List ℕ)
  rest : List ℕ
  cut : IsCut text lines rest

-- a byte more in front, which is no line feed
with_byte : (b : ℕ) (text : List ℕ) → b ≢ 10 → (lines : List (List ℕ)) (rest : List ℕ) → IsCut text lines rest
    → Cut (b ∷ text)
with_byte b text other [] rest c = record {
  lines = [];
  rest = b ∷ rest;
  cut = record {
    plain = c.plain;
    plain_rest = All-cons (λ x. x ≢ 10) b rest other c.plain_rest;
    whole = ap (λ (l : List ℕ). b ∷ l) c.whole;
  };
}
with_byte b text other (l ∷ ls) rest c = record {
  lines = (b ∷ l) ∷ ls;
  rest = rest;
  cut = record {
    plain = All-cons IsPlain (b ∷ l) ls (All-cons (λ x. x ≢ 10) b l other (c.plain 0 l (omega arith)))
        (λ k d below. c.plain (suc k) d (omega arith));
    plain_rest = c.plain_rest;
    whole = ap (λ (l : List ℕ). b ∷ l) c.whole;
  };
}

with_feed : (b : ℕ) (text : List ℕ) → b ≡ 10 → Cut text → Cut (b ∷ text)
with_feed b text is c = record {
  lines = [] ∷ c.lines;
  rest = c.rest;
  cut = record {
    plain = All-cons IsPlain [] c.lines (All-nil (λ x. x ≢ 10)) c.cut.plain;
    plain_rest = c.cut.plain_rest;
    whole = cc (is, c.cut.whole);
  };
}

cut_of : (text : List ℕ) → Cut text
cut_of [] = record {
  lines = [];
  rest = [];
  cut = record { plain = All-nil IsPlain; plain_rest = All-nil (λ x. x ≢ 10); whole = refl };
}
cut_of (b ∷ text) = by_byte (b == 10) refl (cut_of text)
  where
    by_byte : (t : Bool) → (b == 10) ≡ t → Cut text → Cut (b ∷ text)
    by_byte true is c = with_feed b text (eqb-true b 10 is) c
    by_byte false is c = with_byte b text (λ same. let feed : (b == 10) ≡ true = ap (λ x. x == 10) same in absurd cc)
        c.lines c.rest c.cut

-- the front's lines are the first of the text's
pub front_cut : (text : List ℕ) (past : List (List ℕ)) (rest : List ℕ) (lines : List (List ℕ)) (back : List ℕ)
    → All IsPlain past → text ≡ with_ends past ++ rest → IsCut rest lines back → IsCut text (past ++ lines) back
front_cut text past rest lines back plain whole c = record {
  plain = All-append IsPlain past lines plain c.plain;
  plain_rest = c.plain_rest;
  whole = whole ∙ ap (λ (l : List ℕ). with_ends past ++ l) c.whole
      ∙ sym (append_assoc (with_ends past) (with_ends lines) back)
      ∙ ap (λ (l : List ℕ). l ++ back) (sym (ends_append past lines));
}

-- a fault in the front is that of the text
front_fault : (grammar : Grammar) (text : List ℕ) (past : List (List ℕ)) (k : ℕ) → k ≤ length past
    → IsFirstFaulty grammar past k → HasFront text past → IsFaultLine grammar text k
front_fault grammar text past k within fault front =
    let back = cut_of front.rest in
    record {
      lines = past ++ back.lines;
      rest = back.rest;
      cut = front_cut text past front.rest back.lines back.rest front.plain front.whole back.cut;
      outside = λ are none. fault_stops grammar past k within fault
          (front_begins grammar past back.lines (whole_begins grammar (past ++ back.lines) are));
      first = fault_stays grammar past back.lines k within fault;
    }

-- ---- the fault of a text that is cut into its lines

-- the lines begin a text and are none, or more follows them
fault_after : (grammar : Grammar) (text : List ℕ) (past : List (List ℕ)) (rest : List ℕ) → Begins grammar past
    → (grammar past → rest ≡ [] → ⊥) → IsCut text past rest → IsFaultLine grammar text (suc (length past))
fault_after grammar text past rest begins outside cut = record {
  lines = past;
  rest = rest;
  cut = cut;
  outside = outside;
  first = fault_missing grammar past begins;
}

-- ---- the fault of a text with the start of a line that cannot come there

front_of : (text : List ℕ) (past : List (List ℕ)) (bytes : List ℕ) → HasStart text past bytes → HasFront text past
front_of text past bytes start = record { plain = start.plain; rest = bytes ++ start.rest; whole = start.whole }

empty_front : (bytes rest : List ℕ) → bytes ++ rest ≡ [] → bytes ≡ []
empty_front [] rest e = refl
empty_front (b ∷ bytes) rest e = absurd cc

-- bytes in front of lines are the start of the first line
longer_line : (bytes l : List ℕ) (ls : List (List ℕ)) (rest : List ℕ)
    → bytes ++ (with_ends (l ∷ ls) ++ rest) ≡ with_ends ((bytes ++ l) ∷ []) ++ (with_ends ls ++ rest)
longer_line bytes l ls rest =
    ap (λ (r : List ℕ). bytes ++ r) (append_assoc l (10 ∷ with_ends ls) rest)
    ∙ sym (append_assoc bytes l (10 ∷ (with_ends ls ++ rest)))
    ∙ sym (append_assoc (bytes ++ l) (10 ∷ []) (with_ends ls ++ rest))

-- the line, if it ends, begins no text with those before it, and else it is missing
fault_at_start : (grammar : Grammar) (text : List ℕ) (past : List (List ℕ)) (bytes : List ℕ) → Begins grammar past
    → StartsNoLine grammar past bytes → HasStart text past bytes → IsFaultLine grammar text (suc (length past))
fault_at_start grammar text past bytes begins none start =
    let c = cut_of start.rest in by_lines c.lines c.rest c.cut
  where
    by_lines : (lines : List (List ℕ)) (rest : List ℕ) → IsCut start.rest lines rest
        → IsFaultLine grammar text (suc (length past))
    by_lines [] rest cut =
        fault_after grammar text past (bytes ++ rest) begins (λ are empty. none.some (empty_front bytes rest empty))
        (record {
          plain = start.plain;
          plain_rest = All-append (λ x. x ≢ 10) bytes rest start.plain_bytes cut.plain_rest;
          whole = start.whole ∙ ap (λ (r : List ℕ). with_ends past ++ (bytes ++ r)) cut.whole;
        })
    by_lines (l ∷ ls) rest cut =
        let line = bytes ++ l in
        front_fault grammar text (past ++ line ∷ []) (suc (length past)) (omega (arith, length-append past (line ∷ [])))
        (fault_at grammar past line begins (none.stops l))
        (record {
          plain = All-push IsPlain past line start.plain
              (All-append (λ x. x ≢ 10) bytes l start.plain_bytes (cut.plain 0 l (omega arith)));
          rest = with_ends ls ++ rest;
          whole = start.whole ∙ ap (λ (r : List ℕ). with_ends past ++ (bytes ++ r)) cut.whole
              ∙ ap (λ (r : List ℕ). with_ends past ++ r) (longer_line bytes l ls rest)
              ∙ sym (append_assoc (with_ends past) (with_ends (line ∷ [])) (with_ends ls ++ rest))
              ∙ ap (λ (r : List ℕ). r ++ (with_ends ls ++ rest)) (sym (ends_append past (line ∷ [])));
        })

-- ---- the fault of a text of which lines show what it is

pub fault_shown : (grammar : Grammar) (text : List ℕ) (past : List (List ℕ)) (rest : List ℕ) (k : ℕ) → k ≤ length past
    → IsFirstFaulty grammar past k → Shows grammar text past rest → IsFaultLine grammar text k
fault_shown grammar text past rest k within fault (complete cut) =
    front_fault grammar text past k within fault (record { plain = cut.plain; rest = rest; whole = cut.whole })
fault_shown grammar text past rest k within fault (stopped stops front) = front_fault grammar text past k within fault front
fault_shown grammar text past rest k within fault (long starts start) =
    front_fault grammar text past k within fault (front_of text past rest start)

pub missing_shown : (grammar : Grammar) (text : List ℕ) (past : List (List ℕ)) (rest : List ℕ) → Begins grammar past
    → (grammar past → rest ≡ [] → ⊥) → Shows grammar text past rest → IsFaultLine grammar text (suc (length past))
missing_shown grammar text past rest begins outside (complete cut) = fault_after grammar text past rest begins outside cut
missing_shown grammar text past rest begins outside (stopped stops front) = absurd (stops begins)
missing_shown grammar text past rest begins outside (long starts start) =
    fault_at_start grammar text past rest begins starts start
