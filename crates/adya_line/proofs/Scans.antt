-- What is read is the line's scan, and each scan is read from its line.
use Rattle.std.proofs.Common.{◌≡◌, ℕ, zero, suc, ◌<◌, ◌≤◌, false, true, get_or, List, [], ◌∷◌, ◌++◌, length, Option}
use Rattle.std.proofs.Common.{Some, None, refl, sym, ap, ◌∙◌, append_assoc, arith, inl, inr}
use Rattle.std.specs.Prelude.{decimal, codes, ◌&&◌}
use Rattle.std.specs.List.{flat_map, list_all, AllByRecursion}
use Rattle.std.proofs.lemmas.Bool.{both_ways, and_parts}
use Rattle.std.proofs.lemmas.Bool.Decides.{eqb_tells}
use Rattle.std.proofs.lemmas.List.Concat.{flat_map-cons}
use Rattle.std.proofs.lemmas.List.{length-append}
use Rattle.adya_values.specs.declared.event.Version.{Version}
use Rattle.adya_keys.specs.Meaning.Keys.{is_key, is_value, is_key_byte, is_value_byte, IsTxn}
use Rattle.adya_values.specs.Meaning.Histories.{Content, Live, Dead, Entry, Scan}
use Rattle.adya_line.specs.Meaning.Spelling.{version_text, content_text, entry_text, event_text}
use Rattle.adya_line.specs.Meaning.Limits.{IsContent, IsEntry, IsEvent}
use Rattle.adya_line.specs.Computing.Reading.{◌>>=◌, after, none_or, content_at, entry_at, entry_before, entries_at, entries_of}
use Rattle.adya_line.specs.Computing.Reading.{after_entries, whole, scan_at}
use Rattle.adya_line.proofs.LineParts.{Only, found, then, if_then, if_after, ended, after_takes, text_takes}
use Rattle.adya_line.proofs.LineParts.{text_again, txn_takes, txn_again, version_then, version_then-is, version_takes}
use Rattle.adya_line.proofs.LineParts.{version_again}

-- ---- the texts, nested to the right

abbrev content_then : Content → List ℕ → List ℕ
content_then (Live value) rest = value ++ rest
content_then Dead rest = 33 ∷ rest

abbrev pub entry_then : Entry → List ℕ → List ℕ
entry_then e rest = 59 ∷ version_then e.version (44 ∷ content_then e.content rest)

abbrev pub entries_then : List Entry → List ℕ → List ℕ
entries_then [] rest = rest
entries_then (e ∷ es) rest = entry_then e (entries_then es rest)

content_then-is : (c : Content) (rest : List ℕ) → content_text c ++ rest ≡ content_then c rest
content_then-is (Live value) rest = refl
content_then-is Dead rest = refl

nest_entry : (a b rest : List ℕ) → (codes ";" ++ a ++ codes "," ++ b) ++ rest ≡ 59 ∷ (a ++ (44 ∷ (b ++ rest)))
nest_entry a b rest = simp append_assoc

entry_then-is : (e : Entry) (rest : List ℕ) → entry_text e ++ rest ≡ entry_then e rest
entry_then-is e rest =
    nest_entry (version_text e.version) (content_text e.content) rest ∙
    ap (λ (x : List ℕ). 59 ∷ (version_text e.version ++ (44 ∷ x))) (content_then-is e.content rest) ∙
    ap (λ (x : List ℕ). 59 ∷ x) (version_then-is e.version (44 ∷ content_then e.content rest))

entries_then-is : (es : List Entry) (rest : List ℕ) → flat_map entry_text es ++ rest ≡ entries_then es rest
entries_then-is [] rest = refl
entries_then-is (e ∷ es) rest =
    ap (λ (x : List ℕ). x ++ rest) (flat_map-cons entry_text e es) ∙
    (append_assoc (entry_text e) (flat_map entry_text es) rest ∙
    (ap (λ (x : List ℕ). entry_text e ++ x) (entries_then-is es rest) ∙
    entry_then-is e (entries_then es rest)))

abbrev pub scan_then : ℕ → List ℕ → List ℕ → List Entry → List ℕ
scan_then txn low high es = decimal txn ++ (40 ∷ (low ++ (44 ∷ (high ++ entries_then es (41 ∷ [])))))

nest_scan : (t a b c : List ℕ)
    → codes "s" ++ t ++ codes "(" ++ a ++ codes "," ++ b ++ c ++ codes ")" ≡ 115 ∷
    (t ++ (40 ∷ (a ++ (44 ∷ (b ++ (c ++ (41 ∷ [])))))))
nest_scan t a b c = simp append_assoc

pub scan_is : (txn : ℕ) (low high : List ℕ) (es : List Entry)
    → event_text (Scan txn low high es) ≡ 115 ∷ scan_then txn low high es
unfolding event_text
scan_is txn low high es =
    nest_scan (decimal txn) low high (flat_map entry_text es) ∙
    ap (λ (x : List ℕ). 115 ∷ (decimal txn ++ (40 ∷ (low ++ (44 ∷ (high ++ x)))))) (entries_then-is es (41 ∷ []))

-- ---- what is read is spelled so

content_takes : (bytes : List ℕ) → Only (content_at bytes) (λ x. (bytes ≡ content_then x.0 x.1) × IsContent x.0)
unfolding content_at
content_takes bytes =
    if_after 33 bytes
    (then (text_takes 64 is_value_byte bytes) (λ (value : List ℕ × List ℕ) v. found (Live value.0, value.1) (v.0, v.1)))
    (λ rest d. found (Dead, rest) (d, tt))

pub entry_takes : (bytes : List ℕ) → Only (entry_at bytes) (λ x. (bytes ≡ entry_then x.0 x.1) × IsEntry x.0)
unfolding entry_at
entry_takes bytes =
    then (after_takes 59 bytes) (λ (mark : List ℕ) m.
    then (version_takes mark) (λ (version : Version × List ℕ) v.
    then (after_takes 44 version.1) (λ (comma : List ℕ) c.
    then (content_takes comma) (λ (content : Content × List ℕ) n.
    found (record { version = version.0; content = content.0 }, content.1)
    (rw (m, v.0, c, n.0) refl, record { version = v.1; content = n.1 })))))

abbrev AreEntries : List Entry → Type 0
AreEntries es = AllByRecursion IsEntry es

abbrev Spelled : List ℕ → List Entry × List ℕ → Type 0
Spelled bytes x = (bytes ≡ entries_then x.0 x.1) × AreEntries x.0

one_takes : (bytes : List ℕ) (n : ℕ) (o : Option (Entry × List ℕ))
    → Only o (λ x. (bytes ≡ entry_then x.0 x.1) × IsEntry x.0)
    → ((rest : List ℕ) → Spelled rest (entries_at n rest))
    → Spelled bytes (none_or o ([], bytes) (λ e. entry_before e.0 (entries_at n e.1)))
one_takes bytes n None is more = (refl, tt)
one_takes bytes n (Some e) is more =
    (is.holds.0 ∙ ap (λ (x : List ℕ). entry_then e.0 x) (more e.1).0, (is.holds.1, (more e.1).1))

entries_takes : (n : ℕ) (bytes : List ℕ) → Spelled bytes (entries_at n bytes)
unfolding entries_at
entries_takes zero bytes = (refl, tt)
entries_takes (suc n) bytes = one_takes bytes n (entry_at bytes) (entry_takes bytes) (λ rest. entries_takes n rest)

pub scan_takes : (bytes : List ℕ) → Only (scan_at bytes) (λ e. (115 ∷ bytes ≡ event_text e) × IsEvent e)
unfolding scan_at
scan_takes bytes =
    then (txn_takes bytes) (λ (txn : ℕ × List ℕ) t.
    then (after_takes 40 txn.1) (λ (inner : List ℕ) o.
    then (text_takes 32 is_key_byte inner) (λ (low : List ℕ × List ℕ) l.
    then (after_takes 44 low.1) (λ (comma : List ℕ) c.
    then (text_takes 32 is_key_byte comma) (λ (high : List ℕ × List ℕ) h.
    then (after_takes 41 (after_entries high.1)) (λ (end : List ℕ) n.
    if_then _ _ (λ e.
    let es = entries_takes (length high.1) high.1 in
    let list : high.1 ≡ entries_then (entries_of high.1) (41 ∷ []) = es.0 ∙ ap (entries_then (entries_of high.1))
    (n ∙ ap (λ (x : List ℕ). 41 ∷ x) (ended end e)) in
    let text : bytes ≡ scan_then txn.0 low.0 high.0 (entries_of high.1) =
    t.0 ∙ ap (λ (x : List ℕ). decimal txn.0 ++ x) (o ∙ ap (λ (x : List ℕ). 40 ∷ x)
    (l.0 ∙ ap (λ (x : List ℕ). low.0 ++ x)
    (c ∙ ap (λ (x : List ℕ). 44 ∷ x) (h.0 ∙ ap (λ (x : List ℕ). high.0 ++ x) list)))) in
    let whole = ap (λ (x : List ℕ). 115 ∷ x) text ∙ sym (scan_is txn.0 low.0 high.0 (entries_of high.1)) in
    (whole, (t.1, l.1, h.1, es.1)))))))))

-- ---- an entry is not empty

longer : (a b : List ℕ) → length b ≤ length (a ++ b)
longer a b = omega (arith, length-append a b)

length-version_then : (v : Version) (rest : List ℕ) → length rest < length (version_then v rest)
length-version_then v rest =
    let b = longer (decimal v.m) rest in
    let c = longer (decimal v.txn) (58 ∷ (decimal v.m ++ rest)) in
    let d = longer v.key (46 ∷ (decimal v.txn ++ (58 ∷ (decimal v.m ++ rest)))) in
    omega arith

length-content_then : (c : Content) (rest : List ℕ) → length rest ≤ length (content_then c rest)
length-content_then (Live value) rest = longer value rest
length-content_then Dead rest = omega arith

length-entry_then : (e : Entry) (rest : List ℕ) → length rest < length (entry_then e rest)
length-entry_then e rest =
    let a = length-content_then e.content rest in
    let b = length-version_then e.version (44 ∷ content_then e.content rest) in
    omega arith

pub entry_shorter : (bytes rest : List ℕ) (e : Entry) → entry_at bytes ≡ Some (e, rest) → length rest < length bytes
entry_shorter bytes rest e is =
    let h = (entry_takes bytes).holds in
    let g = rw is at h in
    rw g.0 (length-entry_then e rest)

-- ---- one entry after another

stops_at : (n : ℕ) (bytes : List ℕ) → entry_at bytes ≡ None → entries_at n bytes ≡ ([], bytes)
unfolding entries_at
stops_at zero bytes is = refl
stops_at (suc n) bytes is = rw is refl

goes_on_at : (n : ℕ) (bytes rest : List ℕ) (e : Entry) → entry_at bytes ≡ Some (e, rest)
    → entries_at (suc n) bytes ≡ entry_before e (entries_at n rest)
unfolding entries_at
goes_on_at n bytes rest e is = rw is refl

-- however many more may come
enough_at : (n m : ℕ) (bytes : List ℕ) (o : Option (Entry × List ℕ)) → entry_at bytes ≡ o → length bytes ≤ n
    → length bytes ≤ m → entries_at n bytes ≡ entries_at m bytes
enough_at n m bytes None is low high = stops_at n bytes is ∙ sym (stops_at m bytes is)
enough_at zero m bytes (Some e) is low high = absurd (omega (arith, entry_shorter bytes e.1 e.0 is))
enough_at (suc n) zero bytes (Some e) is low high = absurd (omega (arith, entry_shorter bytes e.1 e.0 is))
enough_at (suc n) (suc m) bytes (Some e) is low high =
    let less = entry_shorter bytes e.1 e.0 is in
    goes_on_at n bytes e.1 e.0 is ∙ (ap (entry_before e.0)
    (enough_at n m e.1 (entry_at e.1) refl (omega (arith, less)) (omega (arith, less))) ∙
    sym (goes_on_at m bytes e.1 e.0 is))

one_more_at : (n : ℕ) (bytes rest : List ℕ) (e : Entry) → entry_at bytes ≡ Some (e, rest) → length bytes ≤ n
    → entries_at n bytes ≡ entry_before e (entries_at (length rest) rest)
one_more_at zero bytes rest e is enough = absurd (omega (arith, entry_shorter bytes rest e is))
one_more_at (suc n) bytes rest e is enough =
    goes_on_at n bytes rest e is ∙ ap (entry_before e)
    (enough_at n (length rest) rest (entry_at rest) refl (omega (arith, entry_shorter bytes rest e is)) (omega arith))

-- if no entry stands there
pub none_more : (bytes : List ℕ) → entry_at bytes ≡ None → (entries_of bytes ≡ []) × (after_entries bytes ≡ bytes)
none_more bytes is = let e = stops_at (length bytes) bytes is in (ap (λ x. x.0) e, ap (λ x. x.1) e)

-- if one stands there
pub one_more : (bytes rest : List ℕ) (e : Entry) → entry_at bytes ≡ Some (e, rest)
    → (entries_of bytes ≡ e ∷ entries_of rest) × (after_entries bytes ≡ after_entries rest)
one_more bytes rest e is =
    let o = one_more_at (length bytes) bytes rest e is (omega arith) in (ap (λ x. x.0) o, ap (λ x. x.1) o)

-- ---- each scan is read from its text

-- no value begins with the mark of a dead version
value_head : (value rest : List ℕ) → is_value value ≡ true → after 33 (value ++ rest) ≡ None
unfolding after is_value_byte
value_head [] rest good = absurd cc
value_head (c ∷ cs) rest good =
    elim (eqb_tells c 33) [
      | inl p ↦
          let bytes = and_parts _ (is_value_byte c && list_all is_value_byte cs) good in
          let head = and_parts (is_value_byte c) (list_all is_value_byte cs) bytes.1 in
          absurd (both_ways (is_value_byte c) (rw p.1 refl) head.0)
      | inr p ↦ rw p.0 refl
    ]

content_again : (c : Content) (rest : List ℕ) → IsContent c → is_value_byte (get_or rest 0 0) ≡ false
    → content_at (content_then c rest) ≡ Some (c, rest)
unfolding content_at after
content_again (Live value) rest is stop =
    rw (value_head value rest is, text_again 64 is_value_byte value rest is stop) refl
content_again Dead rest is stop = refl

entry_again : (e : Entry) (rest : List ℕ) → IsEntry e → is_value_byte (get_or rest 0 0) ≡ false
    → entry_at (entry_then e rest) ≡ Some (e, rest)
unfolding entry_at after
entry_again e rest is stop =
    let version = version_again e.version (44 ∷ content_then e.content rest) is.version refl in
    rw (version, content_again e.content rest is.content stop) refl

no_value : (es : List Entry) (rest : List ℕ) → is_value_byte (get_or rest 0 0) ≡ false
    → is_value_byte (get_or (entries_then es rest) 0 0) ≡ false
unfolding is_value_byte
no_value [] rest stop = stop
no_value (e ∷ es) rest stop = refl

entries_again : (es : List Entry) (n : ℕ) (rest : List ℕ) → AreEntries es → entry_at rest ≡ None
    → is_value_byte (get_or rest 0 0) ≡ false → length (entries_then es rest) ≤ n
    → entries_at n (entries_then es rest) ≡ (es, rest)
entries_again [] n rest is none stop enough = stops_at n rest none
entries_again (e ∷ es) zero rest is none stop enough = absurd (omega arith)
entries_again (e ∷ es) (suc n) rest is none stop enough =
    let more = entries_then es rest in
    let one = entry_again e more is.0 (no_value es rest stop) in
    goes_on_at n (entry_then e more) more e one ∙
    ap (entry_before e) (entries_again es n rest is.1 none stop (omega (arith, length-entry_then e more)))

no_key : (es : List Entry) → is_key_byte (get_or (entries_then es (41 ∷ [])) 0 0) ≡ false
unfolding is_key_byte
no_key [] = refl
no_key (e ∷ es) = refl

no_entry : entry_at (41 ∷ []) ≡ None
unfolding entry_at after
no_entry = refl

no_value_byte : is_value_byte 41 ≡ false
unfolding is_value_byte
no_value_byte = refl

closes : (txn : ℕ) (low high : List ℕ) (es : List Entry) (rest : List ℕ) → entries_at (length rest) rest ≡ (es, 41 ∷ [])
    → (after 41 (after_entries rest) >>= λ end. whole (Scan txn low high (entries_of rest)) end)
    ≡ Some (Scan txn low high es)
unfolding after
closes txn low high es rest is =
    ap (λ (x : List Entry × List ℕ). after 41 x.1 >>= λ end. whole (Scan txn low high x.0) end) is

pub scan_again : (txn : ℕ) (low high : List ℕ) (es : List Entry) → IsTxn txn → is_key low ≡ true
    → is_key high ≡ true → AreEntries es → scan_at (scan_then txn low high es) ≡ Some (Scan txn low high es)
unfolding scan_at after is_key_byte
scan_again txn low high es one is_low is_high are =
    let listed = entries_then es (41 ∷ []) in
    let all = entries_again es (length listed) (41 ∷ []) are no_entry no_value_byte (omega arith) in
    rw (
      txn_again txn (40 ∷ (low ++ (44 ∷ (high ++ entries_then es (41 ∷ []))))) one refl,
      text_again 32 is_key_byte low (44 ∷ (high ++ entries_then es (41 ∷ []))) is_low refl,
      text_again 32 is_key_byte high (entries_then es (41 ∷ [])) is_high (no_key es),
    ) (closes txn low high es listed all)
