-- What is read is the line's event, and each event is read from its line.
use Rattle.std.proofs.Common.{◌≡◌, ℕ, true, eqb, List, [], ◌∷◌, ◌++◌, length, Option, Some, None, refl, sym, ap, ◌∙◌}
use Rattle.std.proofs.Common.{append_assoc}
use Rattle.std.specs.Prelude.{decimal, IfSome, MatchOption, codes}
use Rattle.std.proofs.lemmas.Bool.{eqb-true, eq-eqb, and_parts}
use Rattle.std.proofs.lemmas.Option.{none-some, same_Some}
use Rattle.adya_values.specs.declared.event.Version.{Version}
use Rattle.adya_values.specs.Meaning.Histories.{Event, Write, Delete, Read, Scan, Commit, Abort}
use Rattle.adya_keys.specs.Meaning.Keys.{is_value, is_value_byte, IsTxn}
use Rattle.adya_line.specs.Meaning.Spelling.{version_text, event_text, unfinished_text}
use Rattle.adya_line.specs.Meaning.Limits.{IsVersion, IsEvent}
use Rattle.adya_line.specs.Computing.Reading.{Gives, ◌>>=◌, after, txn_at_line, write_at, delete_at, read_at, event_at}
use Rattle.adya_line.specs.Computing.Reading.{unfinished_at}
use Rattle.adya_line.specs.Mirror.{view}
use Rattle.adya_line.specs.declared.event_ref.EventRef.{EventRef}
use Rattle.adya_line.proofs.LineParts.{Only, found, then, weaken, if_then, by_byte, nothing, ended}
use Rattle.adya_line.proofs.LineParts.{after_takes, text_takes, text_again, txn_takes, txn_again, line_takes, line_again}
use Rattle.adya_line.proofs.LineParts.{version_then, version_then-is, version_takes, version_again}
use Rattle.adya_line.proofs.Scans.{scan_is, scan_takes, scan_again}

-- ---- the texts, nested to the right

parts_then : ℕ → Version → List ℕ → List ℕ
parts_then txn version value = decimal txn ++ (40 ∷ version_then version (44 ∷ (value ++ (41 ∷ []))))

nest : (a b c : List ℕ) → a ++ codes "(" ++ b ++ codes "," ++ c ++ codes ")" ≡ a ++
    (40 ∷ (b ++ (44 ∷ (c ++ (41 ∷ [])))))
nest a b c = simp append_assoc

parts_is : (txn : ℕ) (version : Version) (value : List ℕ)
    → decimal txn ++ codes "(" ++ version_text version ++ codes "," ++ value ++ codes ")" ≡ parts_then txn version value
unfolding parts_then
parts_is txn version value =
    nest (decimal txn) (version_text version) value ∙ ap (λ (t : List ℕ). decimal txn ++ (40 ∷ t))
    (version_then-is version (44 ∷ (value ++ (41 ∷ []))))

write_is : (version : Version) (value : List ℕ)
    → event_text (Write version.txn version.key version.m value) ≡ 119 ∷ parts_then version.txn version value
unfolding event_text
write_is version value = ap (λ (t : List ℕ). 119 ∷ t) (parts_is version.txn version value)

read_is : (txn : ℕ) (version : Version) (value : List ℕ)
    → event_text (Read txn version value) ≡ 114 ∷ parts_then txn version value
unfolding event_text
read_is txn version value = ap (λ (t : List ℕ). 114 ∷ t) (parts_is txn version value)

delete_then : Version → List ℕ
delete_then version = decimal version.txn ++ (40 ∷ version_then version (41 ∷ []))

nest_delete : (a b : List ℕ) → codes "d" ++ a ++ codes "(" ++ b ++ codes ")" ≡ 100 ∷ (a ++ (40 ∷ (b ++ (41 ∷ []))))
nest_delete a b = simp append_assoc

delete_is : (version : Version) → event_text (Delete version.txn version.key version.m) ≡ 100 ∷ delete_then version
unfolding event_text delete_then
delete_is version =
    nest_delete (decimal version.txn) (version_text version) ∙
    ap (λ (t : List ℕ). 100 ∷ (decimal version.txn ++ (40 ∷ t)))
    (version_then-is version (41 ∷ []))

-- ---- what is read is spelled so

abbrev pub Spells : List ℕ → Event → Type 0
Spells line e = (line ≡ event_text e) × IsEvent e

write_takes : (bytes : List ℕ) → Only (write_at bytes) (Spells (119 ∷ bytes))
unfolding write_at parts_then
write_takes bytes =
    then (txn_takes bytes) (λ (txn : ℕ × List ℕ) t.
    then (after_takes 40 txn.1) (λ (inner : List ℕ) o.
    then (version_takes inner) (λ (version : Version × List ℕ) v.
    then (after_takes 44 version.1) (λ (comma : List ℕ) c.
    then (text_takes 64 is_value_byte comma) (λ (value : List ℕ × List ℕ) l.
    then (after_takes 41 value.1) (λ (end : List ℕ) n.
    if_then _ _ (λ e.
    let both = and_parts (eqb version.0.txn txn.0) (eqb (length end) 0) e in
    let same : txn.0 ≡ version.0.txn = sym (eqb-true version.0.txn txn.0 both.0) in
    let whole : 119 ∷ bytes ≡ 119 ∷ parts_then version.0.txn version.0 value.0 =
    rw (t.0, same, o, v.0, c, l.0, n, ended end both.1) refl in
    rw same (whole ∙ sym (write_is version.0 value.0), (v.1, l.1)))))))))

delete_takes : (bytes : List ℕ) → Only (delete_at bytes) (Spells (100 ∷ bytes))
unfolding delete_at delete_then
delete_takes bytes =
    then (txn_takes bytes) (λ (txn : ℕ × List ℕ) t.
    then (after_takes 40 txn.1) (λ (inner : List ℕ) o.
    then (version_takes inner) (λ (version : Version × List ℕ) v.
    then (after_takes 41 version.1) (λ (end : List ℕ) n.
    if_then _ _ (λ e.
    let both = and_parts (eqb version.0.txn txn.0) (eqb (length end) 0) e in
    let same : txn.0 ≡ version.0.txn = sym (eqb-true version.0.txn txn.0 both.0) in
    let whole : 100 ∷ bytes ≡ 100 ∷ delete_then version.0 = rw (t.0, same, o, v.0, n, ended end both.1) refl in
    rw same (whole ∙ sym (delete_is version.0), v.1))))))

read_takes : (bytes : List ℕ) → Only (read_at bytes) (Spells (114 ∷ bytes))
unfolding read_at parts_then
read_takes bytes =
    then (txn_takes bytes) (λ (txn : ℕ × List ℕ) t.
    then (after_takes 40 txn.1) (λ (inner : List ℕ) o.
    then (version_takes inner) (λ (version : Version × List ℕ) v.
    then (after_takes 44 version.1) (λ (comma : List ℕ) c.
    then (text_takes 64 is_value_byte comma) (λ (value : List ℕ × List ℕ) l.
    then (after_takes 41 value.1) (λ (end : List ℕ) n.
    if_then _ _ (λ e.
    let whole : 114 ∷ bytes ≡ 114 ∷ parts_then txn.0 version.0 value.0 =
    rw (t.0, o, v.0, c, l.0, n, ended end e) refl in
    (whole ∙ sym (read_is txn.0 version.0 value.0), (t.1, v.1, l.1)))))))))

commit_takes : (bytes : List ℕ) → Only (txn_at_line bytes >>= λ txn. Some (Commit txn)) (Spells (99 ∷ bytes))
unfolding event_text
commit_takes bytes = then (line_takes bytes) (λ (t : ℕ) h. found (Commit t) (ap (λ (x : List ℕ). 99 ∷ x) h.0, h.1))

abort_takes : (bytes : List ℕ) → Only (txn_at_line bytes >>= λ txn. Some (Abort txn)) (Spells (97 ∷ bytes))
unfolding event_text
abort_takes bytes = then (line_takes bytes) (λ (t : ℕ) h. found (Abort t) (ap (λ (x : List ℕ). 97 ∷ x) h.0, h.1))

pub event_takes : (line : List ℕ) → Only (event_at line) (Spells line)
unfolding event_at
event_takes [] = nothing
event_takes (b ∷ bytes) =
    by_byte b 119 (λ e. rw e (write_takes bytes)) (by_byte b 100 (λ e. rw e (delete_takes bytes))
    (by_byte b 114 (λ e. rw e (read_takes bytes)) (by_byte b 115 (λ e. rw e (scan_takes bytes))
    (by_byte b 99 (λ e. rw e (commit_takes bytes)) (by_byte b 97 (λ e. rw e (abort_takes bytes)) nothing)))))

-- ---- each event is read from its text

write_again : (version : Version) (value : List ℕ) → IsVersion version → is_value value ≡ true
    → write_at (parts_then version.txn version value) ≡ Some (Write version.txn version.key version.m value)
unfolding write_at after parts_then is_value_byte
write_again version value is good =
    rw (
      txn_again version.txn (40 ∷ version_then version (44 ∷ (value ++ (41 ∷ [])))) is.txn refl,
      version_again version (44 ∷ (value ++ (41 ∷ []))) is refl,
      text_again 64 is_value_byte value (41 ∷ []) good refl,
      eq-eqb version.txn version.txn refl,
    ) refl

delete_again : (version : Version) → IsVersion version
    → delete_at (delete_then version) ≡ Some (Delete version.txn version.key version.m)
unfolding delete_at after delete_then
delete_again version is =
    rw (
      txn_again version.txn (40 ∷ version_then version (41 ∷ [])) is.txn refl,
      version_again version (41 ∷ []) is refl,
      eq-eqb version.txn version.txn refl,
    ) refl

read_again : (txn : ℕ) (version : Version) (value : List ℕ) → IsTxn txn → IsVersion version → is_value value ≡ true
    → read_at (parts_then txn version value) ≡ Some (Read txn version value)
unfolding read_at after parts_then is_value_byte
read_again txn version value one is good =
    rw (
      txn_again txn (40 ∷ version_then version (44 ∷ (value ++ (41 ∷ [])))) one refl,
      version_again version (44 ∷ (value ++ (41 ∷ []))) is refl,
      text_again 64 is_value_byte value (41 ∷ []) good refl,
    ) refl

pub event_again : (e : Event) → IsEvent e → event_at (event_text e) ≡ Some e
unfolding event_at event_text
event_again (Write txn key m value) is =
    let version : Version = record { key = key; txn = txn; m = m } in
    ap event_at (write_is version value) ∙ write_again version value is.0 is.1
event_again (Delete txn key m) is =
    let version : Version = record { key = key; txn = txn; m = m } in
    ap event_at (delete_is version) ∙ delete_again version is
event_again (Read txn version value) is = ap event_at (read_is txn version value)
    ∙ read_again txn version value is.0 is.1 is.2
event_again (Scan txn low high entries) is = ap event_at (scan_is txn low high entries)
    ∙ scan_again txn low high entries is.0 is.1 is.2 is.3
event_again (Commit txn) is = rw (line_again txn is) refl
event_again (Abort txn) is = rw (line_again txn is) refl

-- ---- unfinished transactions

pub unfinished_takes : (line : List ℕ) → Only (unfinished_at line) (λ t. (line ≡ unfinished_text t) × IsTxn t)
unfolding unfinished_at
unfinished_takes line =
    then (after_takes 117 line) (λ (rest : List ℕ) u.
    weaken (line_takes rest) (λ (t : ℕ) h. (u ∙ ap (λ (x : List ℕ). 117 ∷ x) h.0, h.1)))

pub unfinished_again : (t : ℕ) → IsTxn t → unfinished_at (unfinished_text t) ≡ Some t
unfolding unfinished_at after
unfinished_again t is = line_again t is

-- ---- what the reader's answer says

pub answers_found : (line : List ℕ) (result : Option EventRef) → Gives view result (event_at line)
    → IfSome result (λ e. Spells line (view e))
answers_found line (Some r) gives = let t = (event_takes line).holds in rw gives at t
answers_found line None gives = tt

pub answers_only : (line : List ℕ) (result : Option EventRef) → Gives view result (event_at line) → (e : Event)
    → IsEvent e → line ≡ event_text e → MatchOption result ⊥ (λ r. view r ≡ e)
answers_only line (Some r) gives e is text = same_Some (view r) e (sym gives ∙ ap event_at text ∙ event_again e is)
answers_only line None gives e is text = none-some e (sym gives ∙ ap event_at text ∙ event_again e is)
