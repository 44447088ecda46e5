-- The texts of the lines, as they are written part by part.
use Rattle.std.proofs.Common.{◌≡◌, ℕ, ◌+◌, ◌<◌, List, [], ◌∷◌, ◌++◌, get_or, length, map, min, take, Result, Ok, Err, OnOk, refl, sym, ◌∙◌, ap, subst, arith}
use Rattle.std.specs.Prelude.{codes, decimal, flat_map, if◌then◌else◌, is_ok}
use Rattle.std.specs.List.{AllByRecursion}
use Rattle.std.proofs.lemmas.List.{append-nil, append_assoc, length-append, length-map, map-append, take_more}
use Rattle.adya_keys.specs.Meaning.Keys.{Bytes}
use Rattle.adya_values.specs.declared.order.FinalPair.{FinalPair as FinalValue}
use Rattle.adya_values.specs.Mirror.Events.{final_of}
use Rattle.adya_line.specs.Meaning.Limits.{IsFinal}
use Rattle.adya_text.specs.Meaning.Texts.{with_ends}
use Rattle.adya_text.proofs.LineLists.{ends_append}
use Rattle.ssi_durable.specs.Meaning.Lines.{header}
use Rattle.ssi_loads.specs.Meaning.Loads.{put_line, load_of, load_lines, loaded_line, first_lines}
use Rattle.ssi_loads.proofs.Groups.{one_group}

abbrev pub rows_text : List FinalValue → Bytes
rows_text rows = with_ends (map put_line (map final_of rows))

-- one row more
pub row_more : (old : Bytes) (rows : List FinalValue) (i : ℕ) (row : FinalValue) → i < length rows → row ≡ get_or rows i row
    → (old ++ rows_text (take i rows)) ++ with_ends (put_line (final_of row) ∷ []) ≡ old ++ rows_text (take (i + 1) rows)
row_more old rows i row l is =
    let line = put_line (final_of row) in
    append_assoc old (rows_text (take i rows)) (with_ends (line ∷ []))
    ∙ ap (λ t. old ++ t) (sym (ends_append (map put_line (map final_of (take i rows))) (line ∷ []))
    ∙ ap with_ends (sym (map-append put_line (map final_of (take i rows)) (final_of row ∷ []))
    ∙ ap (map put_line) (sym (map-append final_of (take i rows) (row ∷ [])) ∙ ap (map final_of) (sym (whole i l is)))))
  where
    whole : (i : ℕ) → i < length rows → row ≡ get_or rows i row → take (i + 1) rows ≡ take i rows ++ (row ∷ [])
    whole i l is = take_more rows i row l ∙ ap (λ r. take i rows ++ (r ∷ [])) (sym is)

pub header_written : (n : ℕ) (old one two digits : Bytes) → one ≡ old ++ codes "# ssi log 1 segment " → two ≡ one ++ digits
    → digits ≡ decimal n → two ++ (10 ∷ []) ≡ old ++ with_ends (header n ∷ [])
header_written n old one two digits p q r =
    let front = codes "# ssi log 1 segment " in
    ap (λ t. t ++ (10 ∷ [])) (q ∙ ap (λ t. t ++ digits) p ∙ ap (λ d. (old ++ front) ++ d) r)
    ∙ append_assoc (old ++ front) (decimal n) (10 ∷ []) ∙ append_assoc old front (decimal n ++ (10 ∷ []))

pub load_written : (old one two : Bytes) (rows : List FinalValue) → one ≡ old ++ codes "begin load\n" → two ≡ one ++ rows_text rows
    → two ++ codes "commit load\n" ≡ old ++ with_ends (load_of (map final_of rows))
load_written old one two rows p q =
    let begin = codes "begin load\n" in
    let commit = codes "commit load\n" in
    ap (λ t. t ++ commit) (q ∙ ap (λ t. t ++ rows_text rows) p)
    ∙ append_assoc (old ++ begin) (rows_text rows) commit ∙ append_assoc old begin (rows_text rows ++ commit)
    ∙ ap (λ t. old ++ (begin ++ t)) (sym (ends_append (map put_line (map final_of rows)) (codes "commit load" ∷ [])))

-- the lines that load these rows
abbrev pub load_text : List FinalValue → Bytes
load_text rows = with_ends (load_lines (map final_of rows))

-- the load of the first rows, as many as fit, and then those of the rest
pub load_first : (all group rest : List FinalValue) → all ≡ group ++ rest → length group ≡ min 65535 (length all) → 0 < length all
    → load_text all ≡ with_ends (load_of (map final_of group)) ++ load_text rest
load_first all group rest e l some =
    let n = length-append group rest in
    let whole = ap length e in
    let same_group = length-map group final_of in
    let same_rest = length-map rest final_of in
    ap load_text e
    ∙ ap (λ rows. with_ends (load_lines rows)) (map-append final_of group rest)
    ∙ ap (λ gs. with_ends (flat_map load_of gs)) (one_group (map final_of group) (map final_of rest)
    (omega (arith, n, whole, l, same_group, same_rest)) (omega (arith, n, whole, l, some, same_group)))
    ∙ ends_append (load_of (map final_of group)) (load_lines (map final_of rest))

pub nothing_left : (rest : List FinalValue) → length rest ≡ 0 → load_text rest ≡ []
nothing_left [] e = refl
nothing_left (row ∷ rest) e = absurd (omega (arith, e))

-- one group more is written
pub group_written : (old new whole : Bytes) (all group rest : List FinalValue) → old ++ load_text all ≡ whole
    → new ≡ old ++ with_ends (load_of (map final_of group)) → all ≡ group ++ rest → length group ≡ min 65535 (length all)
    → 0 < length all → new ++ load_text rest ≡ whole
group_written old new whole all group rest so_far now e l some =
    let part = with_ends (load_of (map final_of group)) in
    ap (λ t. t ++ load_text rest) now ∙ append_assoc old part (load_text rest)
    ∙ ap (λ t. old ++ t) (sym (load_first all group rest e l some)) ∙ so_far

-- and all of them are
pub all_written : (n : ℕ) (text : Bytes) (rows rest : List FinalValue) → text ++ load_text rest ≡ with_ends (header n ∷ []) ++ load_text rows
    → length rest ≡ 0 → text ++ codes "# loaded\n" ≡ with_ends (first_lines n (map final_of rows))
all_written n text rows rest so_far none =
    let last = codes "# loaded\n" in
    let first = with_ends (header n ∷ []) in
    let is : text ≡ first ++ load_text rows =
    sym (append-nil text) ∙ ap (λ t. text ++ t) (sym (nothing_left rest none)) ∙ so_far in
    ap (λ t. t ++ last) is ∙ append_assoc first (load_text rows) last
    ∙ ap (λ t. first ++ t) (sym (ends_append (load_lines (map final_of rows)) (loaded_line ∷ [])))
    ∙ sym (ends_append (header n ∷ []) (load_lines (map final_of rows) ++ (loaded_line ∷ [])))

-- the header is written
pub started : (n : ℕ) (text old : Bytes) (rows rest : List FinalValue) → text ≡ old ++ with_ends (header n ∷ []) → old ≡ []
    → rest ≡ rows → text ++ load_text rest ≡ with_ends (header n ∷ []) ++ load_text rows
started n text old rows rest now none same =
    ap (λ t. t ++ load_text rest) (now ∙ ap (λ t. t ++ with_ends (header n ∷ [])) none)
    ∙ ap (λ l. with_ends (header n ∷ []) ++ load_text l) same

-- what the last growth of a text leaves, if it wasn't refused
pub grown : {E : Type 0} (result : Result (Unit {0}) E) (old new more whole : Bytes)
    → new ≡ (if is_ok result then old ++ more else old) → old ++ more ≡ whole → OnOk result (new ≡ whole)
grown (Ok u) old new more whole e f = e ∙ f
grown (Err x) old new more whole e f = tt

-- ---- rows within their limits

abbrev pub AreWithin : List FinalValue → Type 0
AreWithin rows = AllByRecursion IsFinal (map final_of rows)

pub all_within : (a b : List FinalValue) → AreWithin a → AreWithin b → AreWithin (a ++ b)
all_within [] b p q = q
all_within (x ∷ a) b p q = (p.0, all_within a b p.1 q)

pub one_within : (rows : List FinalValue) (i : ℕ) (row : FinalValue) → i < length rows → row ≡ get_or rows i row
    → AreWithin (take i rows) → IsFinal (final_of row) → AreWithin (take (i + 1) rows)
one_within rows i row l is before here =
    subst AreWithin (sym (take_more rows i row l ∙ ap (λ r. take i rows ++ (r ∷ [])) (sym is)))
    (all_within (take i rows) (row ∷ []) before (here, tt))

-- those of a group are, and if those that are left are, then all are
pub more_within : (all group rest whole : List FinalValue) → (AreWithin all → AreWithin whole) → all ≡ group ++ rest
    → AreWithin group → AreWithin rest → AreWithin whole
more_within all group rest whole known e here later = known (subst AreWithin (sym e) (all_within group rest here later))

pub none_within : (rest : List FinalValue) → length rest ≡ 0 → AreWithin rest
none_within [] e = tt
none_within (row ∷ rest) e = absurd (omega (arith, e))
