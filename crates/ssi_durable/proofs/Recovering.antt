-- What a recovery leaves of a text.
use Rattle.std.proofs.Common.{◌≡◌, ℕ, ◌+◌, ◌-◌, ◌≤◌, Bool, true, false, cond, Option, Some, None, List, [], ◌∷◌, ◌++◌, length, take, refl, sym, ◌∙◌, ap, subst, arith, length-append}
use Rattle.std.proofs.lemmas.List.{append_assoc, take_at}
use Rattle.std.proofs.lemmas.List.Elements.{recursion_from_All, All-from_recursion}
use Rattle.std.specs.List.{AllByRecursion}
use Rattle.std.specs.Prelude.{All, ◌≢◌, unwrap_or}
use Rattle.adya_keys.specs.Meaning.Keys.{Bytes}
use Rattle.adya_text.specs.Meaning.Texts.{with_ends}
use Rattle.sqlite_disk.specs.Disk.{Only}
use Rattle.ssi_log.specs.Meaning.Crashes.{Finds, Keeps}
use Rattle.ssi_log.specs.Meaning.Texts.{HasNoZero, text_of}
use Rattle.ssi_durable.specs.Meaning.Lines.{ends_loads, loads_after, loads_len, whole_lines, torn}
use Rattle.ssi_durable.specs.Machinery.Noting.{loaded_with}
use Rattle.ssi_durable.specs.Clauses.Recovery.{KeepsLines}
use Rattle.ssi_durable.proofs.WholeLines.{ArePlain, lines_first, lines_next, lines_none, lines_are, ends_append, plain_append, falls}
use Rattle.ssi_durable.proofs.Fronts.{kept_lines}

-- these lines of the text are done, and this is left
pub record IsDone (text : Bytes) (done : List Bytes) (rest : Bytes) : Type 0 where
  pub parts : text ≡ with_ends done ++ rest
  pub plain : ArePlain done

pub none_done : (text : Bytes) → IsDone text [] text
none_done text = record { parts = refl; plain = tt }

-- of what is left the first line is done, too
pub one_done : (text : Bytes) (done : List Bytes) (rest line after : Bytes) → IsDone text done rest → All (λ b. b ≢ 10) line
    → rest ≡ line ++ (10 ∷ after) → IsDone text (done ++ (line ∷ [])) after
one_done text done rest line after is plain first = record {
  parts = is.parts ∙ ap (λ (l : Bytes). with_ends done ++ l) first
      ∙ sym (ap (λ (l : Bytes). l ++ after) (ends_append done (line ∷ [])) ∙ append_assoc (with_ends done) (line ++ (10 ∷ [])) after
      ∙ ap (λ (l : Bytes). with_ends done ++ l) (append_assoc line (10 ∷ []) after));
  plain = plain_append done (line ∷ []) is.plain (recursion_from_All _ line plain, tt);
}

-- the line that comes next
pub next_of : (text : Bytes) (done : List Bytes) (rest line after : Bytes) → IsDone text done rest → All (λ b. b ≢ 10) line
    → rest ≡ line ++ (10 ∷ after) → whole_lines text ≡ done ++ (line ∷ whole_lines after)
next_of text done rest line after is plain first =
    ap whole_lines is.parts ∙ lines_first done rest is.plain
    ∙ ap (λ (ls : List Bytes). done ++ ls) (lines_next rest line after plain first)

-- no whole line is left
pub all_done : (text : Bytes) (done : List Bytes) (rest : Bytes) → IsDone text done rest → All (λ b. b ≢ 10) rest → whole_lines text ≡ done
all_done text done rest is none =
    ap whole_lines is.parts ∙ lines_are done rest is.plain (recursion_from_All _ rest none)

pub done_len : (text : Bytes) (done : List Bytes) (rest : Bytes) → IsDone text done rest → length text - length rest ≡ length (with_ends done)
done_len text done rest is = omega (arith, ap length is.parts, length-append (with_ends done) rest)

-- ---- the loads

-- what is known of the loads once these lines of the text are done
abbrev pub IsFound : (text : Bytes) (done : List Bytes) (rest : Bytes) → Option ℕ → Type 0
IsFound text done rest None = loads_len (whole_lines text) ≡ loads_after (length (with_ends done)) (whole_lines rest)
IsFound text done rest (Some n) = n ≡ loads_len (whole_lines text)

-- the same, with one line more
pub found_next : (text : Bytes) (done : List Bytes) (rest line after : Bytes) → IsDone text done rest → All (λ b. b ≢ 10) line
    → rest ≡ line ++ (10 ∷ after) → (found : Option ℕ) → IsFound text done rest found → (len : ℕ)
    → len ≡ length text - length after → IsFound text (done ++ (line ∷ [])) after (loaded_with found line len)
found_next text done rest line after is plain first (Some n) was len same = was
found_next text done rest line after is plain first None was len same = by_test (ends_loads line) refl
  where
    now : List Bytes
    now = done ++ (line ∷ [])

    before : ℕ
    before = length (with_ends done)

    left : loads_len (whole_lines text) ≡ loads_after before (line ∷ whole_lines after)
    left = was ∙ ap (loads_after before) (lines_next rest line after plain first)

    longer : length (with_ends now) ≡ before + (length line + 1)
    longer =
        ap length (ends_append done (line ∷ [])) ∙ length-append (with_ends done) (line ++ (10 ∷ []))
        ∙ ap (λ (m : ℕ). before + m) (length-append line (10 ∷ []))

    by_test : (b : Bool) → ends_loads line ≡ b → IsFound text now after (cond (ends_loads line) (Some len) None)
    by_test true e =
        subst (λ b. IsFound text now after (cond b (Some len) None)) (sym e)
        (same ∙ done_len text now after (one_done text done rest line after is plain first) ∙ longer
        ∙ sym (left ∙ ap (λ b. cond b (before + (length line + 1)) (loads_after (before + (length line + 1)) (whole_lines after))) e))
    by_test false e =
        subst (λ b. IsFound text now after (cond b (Some len) None)) (sym e)
        (left ∙ ap (λ b. cond b (before + (length line + 1)) (loads_after (before + (length line + 1)) (whole_lines after))) e
        ∙ ap (λ n. loads_after n (whole_lines after)) (sym longer))

-- no whole line is left
pub found_all : (text : Bytes) (done : List Bytes) (rest : Bytes) → All (λ b. b ≢ 10) rest → (found : Option ℕ)
    → IsFound text done rest found → unwrap_or found 0 ≡ loads_len (whole_lines text)
found_all text done rest none None was =
    sym (was ∙ ap (loads_after (length (with_ends done))) (lines_none rest none))
found_all text done rest none (Some n) was = was

-- ---- a text and its whole lines

pub parts_of : (text : Bytes) → text ≡ with_ends (whole_lines text) ++ torn text
parts_of text = (falls [] text tt).parts

pub take_whole : (text : Bytes) (n : ℕ) → n ≡ length (with_ends (whole_lines text)) → take n text ≡ with_ends (whole_lines text)
take_whole text n is =
    ap (λ (l : Bytes). take n l) (parts_of text) ∙ take_at (with_ends (whole_lines text)) (torn text) n (sym is)

pub torn_len : (text : Bytes) (n : ℕ) → n ≡ length (with_ends (whole_lines text)) → length text - n ≡ length (torn text)
torn_len text n is = omega (arith, ap length (parts_of text), length-append (with_ends (whole_lines text)) (torn text))

pub whole_fits : (text : Bytes) (n : ℕ) → n ≡ length (with_ends (whole_lines text)) → n ≤ length text
whole_fits text n is = omega (arith, ap length (parts_of text), length-append (with_ends (whole_lines text)) (torn text))

-- a file that is left with a front of the text that has all whole lines
pub keeps_whole : (may_leave : List ℕ → Type 0) (text : Bytes)
    → Keeps may_leave (with_ends (whole_lines text) ++ torn text) (length (with_ends (whole_lines text))) → KeepsLines may_leave text
keeps_whole may_leave text keeps = λ file left.
    kept_lines (whole_lines text) (torn text) (text_of file) (falls [] text tt).lines (falls [] text tt).rest (keeps file left)

-- a log that was resumed with the whole lines of its text
pub resumed_keeps : (seen : List ℕ) (before after : List ℕ → Type 0) (text items front : Bytes) → text ≡ items
    → front ≡ with_ends (whole_lines items) → Finds seen before items
    → ((rest : Bytes) → Finds seen before (front ++ rest) → Keeps after (front ++ rest) (length front)) → KeepsLines after text
resumed_keeps seen before after text items front is whole found resumed =
    let parts : front ++ torn items ≡ items = ap (λ (l : Bytes). l ++ torn items) whole ∙ sym (parts_of items) in
    let keeps : Keeps after (front ++ torn items) (length front) = resumed (torn items) (subst (Finds seen before) (sym parts) found) in
    subst (KeepsLines after) (sym is) (keeps_whole after items
    (subst (λ (l : Bytes). Keeps after (l ++ torn items) (length l)) whole keeps))

-- a file that wasn't touched
pub untouched_keeps : (seen : List ℕ) (before after : List ℕ → Type 0) → Only seen before
    → ((file : List ℕ) → after file → before file) → KeepsLines after (text_of seen)
untouched_keeps seen before after only fewer = λ file left. ap (λ (f : List ℕ). whole_lines (text_of f)) (only file (fewer file left))

none_first : (a b : List ℕ) → AllByRecursion (λ x. x ≢ 0) (a ++ b) → AllByRecursion (λ x. x ≢ 0) a
none_first [] b none = tt
none_first (x ∷ a) b none = (none.0, none_first a b none.1)

-- a text without zeros has whole lines without them
pub whole_none : (text front : Bytes) → front ≡ with_ends (whole_lines text) → HasNoZero text → HasNoZero front
whole_none text front is none =
    let parts : front ++ torn text ≡ text = ap (λ (l : Bytes). l ++ torn text) is ∙ sym (parts_of text) in
    All-from_recursion _ front (none_first front (torn text) (recursion_from_All _ (front ++ torn text) (subst HasNoZero (sym parts) none)))
