-- Lines that were read of known bytes.
use Rattle.std.proofs.Common.{◌≡◌, ◌≢◌, ℕ, List, [], ◌∷◌, ◌++◌, Bool, true, false, All, Option, None, Some, IfSome, Result}
use Rattle.std.proofs.Common.{Ok, Err, ◌≤◌, length, refl, sym, ap, subst, ◌∙◌, append_assoc, append-nil, arith}
use Rattle.std.specs.Prelude.{OnOk, IsErr}
use Rattle.std.proofs.lemmas.List.Elements.{All-append, All-push}
use Rattle.std.specs.Io.KnownBytes.{Consumes, IsAtEnd, prepend_known}
use Rattle.std.proofs.KnownBytes.{Consumes-nil, Consumes-trans, prepend_known-nil}
use Rattle.adya_text.specs.Meaning.Texts.{with_ends}
use Rattle.adya_line.specs.Meaning.Lines.{IsPlain}
use Rattle.adya_text.specs.Clauses.Faults.{IsCut, HasFront}
use Rattle.adya_text.specs.Clauses.Reading.{HasReadLines}
use Rattle.devices.specs.Clauses.Lines.{line_end}
use Rattle.adya_text.specs.Machinery.LongLines.{EndsLine, HasStart}
use Rattle.adya_text.proofs.LineLists.{ends_append}

-- the known bytes began with these lines, and these are left
pub record WereRead (old : Option (List ℕ)) (lines : List (List ℕ)) (new : Option (List ℕ)) : Type 0 where
  pub plain : All IsPlain lines
  pub consumed : Consumes old new (with_ends lines)

pub none_read : {a : Option (List ℕ)} → WereRead a [] a
none_read {a = a} = record { plain = λ k d below. absurd (omega arith); consumed = Consumes-nil a }

-- one line more
pub line_read : {a b : Option (List ℕ)} (c : Option (List ℕ)) {lines : List (List ℕ)} (line : List ℕ) {ended : Bool}
    → WereRead a lines b → ended ≡ true → IsPlain line → Consumes b c (line ++ line_end ended)
    → WereRead a (lines ++ line ∷ []) c
line_read {a = a} {b = b} c {lines = lines} line before is plain now =
    let whole : Consumes b c (line ++ 10 ∷ []) = subst (λ e. Consumes b c (line ++ line_end e)) is now in
    record {
      plain = All-push IsPlain lines line before.plain plain;
      consumed = subst (Consumes a c) (sym (ends_append lines (line ∷ [])))
          (Consumes-trans a b c (with_ends lines) (line ++ 10 ∷ []) before.consumed whole);
    }

-- the rest of a line was passed over
pub line_passed : {a b : Option (List ℕ)} (c d : Option (List ℕ)) {lines : List (List ℕ)} (line : List ℕ) {ended : Bool}
    → WereRead a lines b → ended ≡ false → IsPlain line → Consumes b c (line ++ line_end ended) → (ends : EndsLine c d)
    → WereRead a (lines ++ (line ++ ends.rest) ∷ []) d
line_passed {b = b} c d line before is plain now ends =
    let start : Consumes b c (line ++ []) = subst (λ e. Consumes b c (line ++ line_end e)) is now in
    let regrouped : (line ++ []) ++ (ends.rest ++ 10 ∷ []) ≡ (line ++ ends.rest) ++ 10 ∷ [] =
    ap (λ (l : List ℕ). l ++ (ends.rest ++ 10 ∷ [])) (append-nil line) ∙ sym (append_assoc line ends.rest (10 ∷ [])) in
    line_read d (line ++ ends.rest) {ended = true} before refl (All-append (λ x. x ≢ 10) line ends.rest plain ends.plain)
    (subst (Consumes b d) regrouped (Consumes-trans b c d (line ++ []) (ends.rest ++ 10 ∷ []) start ends.consumed))

-- what was taken out of the buffer, and what is left in it, was consumed
all_consumed : (old buffer : List ℕ) (a b : Option (List ℕ)) (bytes : List ℕ) → old ≡ []
    → Consumes (prepend_known old a) (prepend_known buffer b) bytes → Consumes a b (bytes ++ buffer)
all_consumed old buffer None b bytes none eaten = tt
all_consumed old buffer (Some x) None bytes none eaten = absurd eaten
all_consumed old buffer (Some x) (Some y) bytes none eaten =
    ap (λ (l : List ℕ). l ++ x) (sym none) ∙ eaten ∙ sym (append_assoc bytes buffer y)

pub lines_read : (old buffer : List ℕ) (a b : Option (List ℕ)) (lines : List (List ℕ)) (k : ℕ) → old ≡ []
    → WereRead (prepend_known old a) lines (prepend_known buffer b) → k ≤ length lines → HasReadLines k a b
lines_read old buffer a b lines k none read within = record {
  bytes = with_ends lines ++ buffer;
  lines = lines;
  consumed = all_consumed old buffer a b (with_ends lines) none read.consumed;
  front = record { plain = read.plain; rest = buffer; whole = refl };
  within = within;
}

-- all the bytes are the lines and then what is left
pub rest_unread : {a b : Option (List ℕ)} {lines : List (List ℕ)} (P : List ℕ → Type 0) → WereRead a lines b
    → ((rest : List ℕ) → b ≡ Some rest → P (with_ends lines ++ rest)) → IfSome a P
rest_unread {a = None} P read all = tt
rest_unread {a = Some text} {b = None} P read all = absurd read.consumed
rest_unread {a = Some text} {b = Some rest} P read all = subst P (sym read.consumed) (all rest refl)

pub prefix_read : {a b : Option (List ℕ)} {lines : List (List ℕ)} (P : List ℕ → Type 0) → WereRead a lines b
    → ((text : List ℕ) → HasFront text lines → P text) → IfSome a P
prefix_read {lines = lines} P read all = rest_unread P read
    (λ rest left. all (with_ends lines ++ rest) (record { plain = read.plain; rest = rest; whole = refl }))

ended : (buffer : List ℕ) (a : Option (List ℕ)) (front rest : List ℕ)
    → Consumes (Some rest) (prepend_known buffer a) front → buffer ≡ [] → IsAtEnd a
    → (prepend_known buffer a ≡ Some []) × (rest ≡ front)
ended buffer None front rest eaten none end = absurd eaten
ended buffer (Some more) front rest eaten none end =
    let nothing : buffer ++ more ≡ [] = ap (λ (l : List ℕ). l ++ more) none ∙ end in
    (ap (λ (l : List ℕ). Some l) nothing, eaten ∙ ap (λ (l : List ℕ). front ++ l) nothing ∙ append-nil front)

-- after the lines there is what has no line feed, and nothing more
pub all_read : {a b : Option (List ℕ)} {lines : List (List ℕ)} (buffer : List ℕ) (c : Option (List ℕ)) (line : List ℕ)
    {ended : Bool} (P : List ℕ → Type 0) → WereRead a lines b → ended ≡ false → IsPlain line
    → Consumes b (prepend_known buffer c) (line ++ line_end ended) → (buffer ≡ []) × IsAtEnd c
    → ((text : List ℕ) → IsCut text lines line → prepend_known buffer c ≡ Some [] → P text) → IfSome a P
all_read {b = b} {lines = lines} buffer c line P read is plain eaten end all =
    rest_unread P read (λ rest left.
    let last : Consumes (Some rest) (prepend_known buffer c) (line ++ []) =
    subst (λ o. Consumes o (prepend_known buffer c) (line ++ [])) left
    (subst (λ e. Consumes b (prepend_known buffer c) (line ++ line_end e)) is eaten) in
    let whole = ended buffer c (line ++ []) rest last end.0 end.1 in
    all (with_ends lines ++ rest) (record {
      plain = read.plain;
      plain_rest = plain;
      whole = ap (λ (l : List ℕ). with_ends lines ++ l) (whole.1 ∙ append-nil line);
    }) whole.0)

begun : (c : Option (List ℕ)) (line rest : List ℕ) → Consumes (Some rest) c (line ++ [])
    → (more : List ℕ) × (rest ≡ line ++ more)
begun None line rest eaten = absurd eaten
begun (Some more) line rest eaten = (more, eaten ∙ ap (λ (l : List ℕ). l ++ more) (append-nil line))

-- after the lines there is what has no line feed so far
pub start_read : {a b : Option (List ℕ)} {lines : List (List ℕ)} (c : Option (List ℕ)) (line : List ℕ) {ended : Bool}
    (P : List ℕ → Type 0) → WereRead a lines b → ended ≡ false → IsPlain line
    → Consumes b c (line ++ line_end ended) → ((text : List ℕ) → HasStart text lines line → P text) → IfSome a P
start_read {b = b} {lines = lines} c line P read is plain eaten all =
    rest_unread P read (λ rest left.
    let last : Consumes (Some rest) c (line ++ []) = subst (λ o. Consumes o c (line ++ [])) left
    (subst (λ e. Consumes b c (line ++ line_end e)) is eaten) in
    let (more, whole) = begun c line rest last in
    all (with_ends lines ++ rest) (record {
      plain = read.plain;
      plain_bytes = plain;
      rest = more;
      whole = ap (λ (l : List ℕ). with_ends lines ++ l) whole;
    }))

-- what holds of all the known bytes
pub of_known : (buffer : List ℕ) (a : Option (List ℕ)) (text : List ℕ) (P : List ℕ → Type 0) → buffer ≡ []
    → a ≡ Some text → IfSome (prepend_known buffer a) P → P text
of_known buffer a text P none known all =
    let same : prepend_known buffer a ≡ Some text = ap (λ l. prepend_known l a) none ∙ prepend_known-nil a ∙ known in
    subst (λ o. IfSome o P) same all

pub of_all : (buffer : List ℕ) (a : Option (List ℕ)) (P : List ℕ → Type 0) → buffer ≡ [] → IfSome (prepend_known buffer a) P → IfSome a P
of_all buffer a P none all = subst (λ o. IfSome o P) (ap (λ l. prepend_known l a) none ∙ prepend_known-nil a) all

pub on_ok : {T E : Type 0} {P : Type 0} (result : Result T E) → P → OnOk result P
on_ok (Ok x) p = p
on_ok (Err e) p = tt

pub on_err : {T E : Type 0} (P : Type 0) (result : Result T E) → IsErr result → OnOk result P
on_err P (Ok x) failed = absurd cc
on_err P (Err e) failed = tt
