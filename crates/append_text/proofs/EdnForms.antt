-- What the forms of EDN say of operations.
use Rattle.std.proofs.Common.{◌≡◌, ℕ, ◌+◌, ◌-◌, ◌<◌, ◌%◌, true, false, nat_eq, List, [], ◌∷◌, ◌++◌, length, drop, map, reverse, Option, Some, None, refl, sym, ap, subst, ◌∙◌, append_assoc, add-one, length-append, arith, Err}
use Rattle.std.specs.Prelude.{ℤ, codes, slice_set, IfSome}
use Rattle.std.specs.List.{AllZip}
use Rattle.std.specs.Option.{ok_or}
use Rattle.std.specs.Cmp.Lexicographic.{pointwise, same_text}
use Rattle.std.proofs.lemmas.List.{map-append, drop-set, length-set, reverse-append}
use Rattle.edn.specs.Meaning.Forms.{Form, Pairs, integer, list, vector, entries, pair, forms_of as plain, pairs_of}
use Rattle.edn.specs.Meaning.Keys.{name_in}
use Rattle.edn.specs.Meaning.Tapes.{paired, paired_within}
use Rattle.append_text.specs.declared.edn_data.Keys.{Keys}
use Rattle.append_text.specs.declared.edn_data.Keys.TheVariants.{Written, Within}
use Rattle.append_text.specs.Machinery.EdnMaps.{IsNoWord, entries_of, extra, key_of}
use Rattle.append_text.specs.declared.data.Fields.{Fields}
use Rattle.append_text.specs.declared.name.Kept.{Kept}
use Rattle.append_text.specs.declared.read_fault.Problem.TheVariants as problem
use Rattle.append_text.specs.declared.text_form.TextForm.{TextForm}
use Rattle.append_text.specs.declared.text_form.TextForm.TheVariants.{Edn}
use Rattle.append_text.specs.Meaning.Data.{word, elements, entries_in, listed, parts}
use Rattle.append_text.specs.Meaning.Names.{integer as integer_name}
use Rattle.append_text.specs.Meaning.Numbers.{IsNumber}
use Rattle.append_text.specs.Meaning.Operations.{and_then, each, name, names, step, step_in}
use Rattle.append_text.specs.Machinery.Readings.{AreFields, HasFields, Says}
use Rattle.append_text.proofs.Readings.{each_ok}

-- ---- one form

listed_forms : (fs : List Form) → listed (plain fs) ≡ fs
listed_forms [] = refl
listed_forms (f ∷ fs) = ap (λ r. f ∷ r) (listed_forms fs)

pub vector_elements : (f : Form) (fs : List Form) → f ≡ vector (plain fs) → Some fs ≡ elements f
vector_elements f fs is = sym (ap elements is ∙ ap (λ r. Some r) (listed_forms fs))

pub list_elements : (f : Form) (fs : List Form) → f ≡ list (plain fs) → Some fs ≡ elements f
list_elements f fs is = sym (ap elements is ∙ ap (λ r. Some r) (listed_forms fs))

pub listed_parts : (f : Form) (fs xs : List Form) → f ≡ list (plain fs) → xs ≡ fs → parts f ≡ xs
listed_parts f fs xs is same = ap parts is ∙ listed_forms fs ∙ sym same

pub number_of : (o : Option ℕ) (y z : ℤ) (f : Form) → f ≡ integer z → y ≡ z
    → IfSome o (λ n. (kept : List Kept) → IsNumber kept (integer_name y) n)
    → IfSome o (λ n. (kept : List Kept) → Says (name f) (λ a. IsNumber kept a n))
number_of None y z f is same numbers = tt
number_of (Some n) y z f is same numbers = λ kept. (integer_name y, ap name (is ∙ ap integer (sym same)), numbers kept)

pub no_step : (n : TextForm) (f : Form) → elements f ≡ None → step n f ≡ Err problem.Step
no_step n f none = ap (λ o. and_then (step_in n) (ok_or o problem.Step)) none

other_count : (n : TextForm) (fs : List Form) → ((f key value : Form) → fs ≡ f ∷ key ∷ value ∷ [] → ⊥)
    → step_in n fs ≡ Err problem.Step
other_count n [] other = refl
other_count n (a ∷ []) other = refl
other_count n (a ∷ b ∷ []) other = refl
other_count n (a ∷ b ∷ c ∷ []) other = absurd (other a b c refl)
other_count n (a ∷ b ∷ c ∷ d ∷ fs) other = refl

pub other_step : (n : TextForm) (f : Form) (fs : List Form) → elements f ≡ Some fs
    → ((f key value : Form) → fs ≡ f ∷ key ∷ value ∷ [] → ⊥) → step n f ≡ Err problem.Step
other_step n f fs are other = ap (λ o. and_then (step_in n) (ok_or o problem.Step)) are ∙ other_count n fs other

pub vector_names : (f : Form) (fs : List Form) → f ≡ vector (plain fs) → names f ≡ each name fs
vector_names f fs is = ap names is ∙ ap (each name) (listed_forms fs)

-- ---- fields

module _ {D : Type 0} (form : D → Form) (x : Fields D) (ps : Pairs) (h : HasFields Edn form x ps) (key : Form) (v : D) where
  pub skips : IsNoWord key → HasFields Edn form x (pair key (form v) ps)
  skips none = record {
    kind = rw (none (codes "type") refl) h.kind;
    f = rw (none (codes "f") refl) h.f;
    value = rw (none (codes "value") refl) h.value;
    process = rw (none (codes "process") refl) h.process;
    index = rw (none (codes "index") refl) h.index;
  }

  module _ (bytes : List ℕ) (is : word Edn key ≡ Some bytes) where
    pub sets_kind : true ≡ pointwise nat_eq bytes (codes "type") → HasFields Edn form (record x { kind = Some v }) (pair key (form v) ps)
    sets_kind same =
        let w : word Edn key ≡ Some (codes "type") = is ∙ ap (λ b. Some b) (same_text bytes (codes "type") same) in
        record { kind = rw w refl; f = rw w h.f; value = rw w h.value; process = rw w h.process; index = rw w h.index }

    pub sets_f : true ≡ pointwise nat_eq bytes (codes "f") → HasFields Edn form (record x { f = Some v }) (pair key (form v) ps)
    sets_f same =
        let w : word Edn key ≡ Some (codes "f") = is ∙ ap (λ b. Some b) (same_text bytes (codes "f") same) in
        record { kind = rw w h.kind; f = rw w refl; value = rw w h.value; process = rw w h.process; index = rw w h.index }

    pub sets_value : true ≡ pointwise nat_eq bytes (codes "value") → HasFields Edn form (record x { value = Some v }) (pair key (form v) ps)
    sets_value same =
        let w : word Edn key ≡ Some (codes "value") = is ∙ ap (λ b. Some b) (same_text bytes (codes "value") same) in
        record { kind = rw w h.kind; f = rw w h.f; value = rw w refl; process = rw w h.process; index = rw w h.index }

    pub sets_process : true ≡ pointwise nat_eq bytes (codes "process") → HasFields Edn form (record x { process = Some v }) (pair key (form v) ps)
    sets_process same =
        let w : word Edn key ≡ Some (codes "process") = is ∙ ap (λ b. Some b) (same_text bytes (codes "process") same) in
        record { kind = rw w h.kind; f = rw w h.f; value = rw w h.value; process = rw w refl; index = rw w h.index }

    pub sets_index : true ≡ pointwise nat_eq bytes (codes "index") → HasFields Edn form (record x { index = Some v }) (pair key (form v) ps)
    sets_index same =
        let w : word Edn key ≡ Some (codes "index") = is ∙ ap (λ b. Some b) (same_text bytes (codes "index") same) in
        record { kind = rw w h.kind; f = rw w h.f; value = rw w h.value; process = rw w h.process; index = rw w refl }

    pub sets_none : pointwise nat_eq bytes (codes "type") ≡ false → pointwise nat_eq bytes (codes "f") ≡ false
        → pointwise nat_eq bytes (codes "value") ≡ false → pointwise nat_eq bytes (codes "process") ≡ false
        → pointwise nat_eq bytes (codes "index") ≡ false → HasFields Edn form x (pair key (form v) ps)
    sets_none a b c d e = record {
      kind = rw (is, a) h.kind;
      f = rw (is, b) h.f;
      value = rw (is, c) h.value;
      process = rw (is, d) h.process;
      index = rw (is, e) h.index;
    }

pub map_fields : {D : Type 0} (n : TextForm) (form : D → Form) (x : Fields D) (f : Form) (ps : Pairs)
    → f ≡ entries ps → HasFields n form x ps → AreFields n form x f
map_fields n form x f ps is has = (ps, ap entries_in is, has)

-- ---- loops from the last form back

two_back : (fs older mid newer : List Form) (key value : Form) (done : List Form) → fs ≡ older ++ done → older ≡ mid ++ value ∷ []
    → mid ≡ newer ++ key ∷ [] → fs ≡ newer ++ key ∷ value ∷ done
two_back fs older mid newer key value done are last before =
    are ∙ ap (λ r. r ++ done) (last ∙ ap (λ r. r ++ value ∷ []) before)
    ∙ append_assoc (newer ++ key ∷ []) (value ∷ []) done ∙ append_assoc newer (key ∷ []) (value ∷ done)

pub one_back : (fs older newer : List Form) (f : Form) (done : List Form) → fs ≡ older ++ done → older ≡ newer ++ f ∷ []
    → fs ≡ newer ++ f ∷ done
one_back fs older newer f done are last = are ∙ ap (λ r. r ++ done) last ∙ append_assoc newer (f ∷ []) done

pub shorter : {X : Type 0} (older newer : List X) (x : X) → older ≡ newer ++ x ∷ [] → length newer < length older
shorter older newer x last =
    let e = ap length last ∙ length-append newer (x ∷ []) in omega (arith, e)

-- the entries of a map with this namespace
abbrev keyed : Keys → List ℕ → List (Form × Form) → List (Form × Form)
keyed keys namespace ps = map (λ p. (key_of keys namespace p.0, p.1)) ps

written_same : (namespace : List ℕ) (ps : List (Form × Form)) → keyed Written namespace ps ≡ ps
written_same namespace [] = refl
written_same namespace (p ∷ ps) = ap (λ r. p ∷ r) (written_same namespace ps)

-- the entries so far, from the last one back, whatever the namespace is
pub record HasFieldsBack {D : Type 0} (keys : Keys) (n : TextForm) (form : D → Form) (fs left : List Form) (x : Fields D) : Type 0 where
  pub done : List Form
  pub are : fs ≡ left ++ done
  pub even : length done % 2 ≡ 0
  pub has : (namespace : List ℕ) → HasFields n form x (pairs_of (keyed keys namespace (paired done)))

module _ {D : Type 0} (n : TextForm) (form : D → Form) (fs : List Form) where
  first_so : (keys : Keys) (x : Fields D) (first : Form) (done : List Form) → length done % 2 ≡ 0
      → ((namespace : List ℕ) → HasFields n form x (pairs_of (keyed keys namespace (paired done)))) → fs ≡ first ∷ done
      → length fs % 2 ≡ extra keys → HasFields n form x (pairs_of (entries_of keys fs))
  first_so Written x first done even has one parity =
      let many : length fs ≡ length done + 1 = ap length one ∙ sym (add-one (length done)) in
      absurd (omega (arith, even, parity, many))
  first_so Within x first done even has one parity =
      subst (λ r. HasFields n form x (pairs_of (paired_within r))) (sym one) (has (name_in first))

  pub fields_back : (keys : Keys) (older mid newer : List Form) (x y : Fields D) (key value : Form)
      → HasFieldsBack keys n form fs older x → older ≡ mid ++ value ∷ [] → mid ≡ newer ++ key ∷ []
      → ((namespace : List ℕ) (ps : Pairs) → HasFields n form x ps → HasFields n form y (pair (key_of keys namespace key) value ps))
      → HasFieldsBack keys n form fs newer y
  fields_back keys older mid newer x y key value back last before sets = record {
    done = key ∷ value ∷ back.done;
    are = two_back fs older mid newer key value back.done back.are last before;
    even = let e = back.even in omega (arith, e);
    has = λ namespace. sets namespace (pairs_of (keyed keys namespace (paired back.done))) (back.has namespace);
  }

  -- no form is left
  pub fields_all : (keys : Keys) (left : List Form) (x : Fields D) → HasFieldsBack keys n form fs left x
      → length fs % 2 ≡ extra keys → left ≡ [] → HasFields n form x (pairs_of (entries_of keys fs))
  fields_all Written left x back even none =
      subst (λ r. HasFields n form x (pairs_of r)) (written_same [] (paired back.done)
      ∙ ap paired (sym (back.are ∙ ap (λ r. r ++ back.done) none))) (back.has [])
  fields_all Within left x back odd none =
      let many : length fs ≡ length back.done = ap length (back.are ∙ ap (λ r. r ++ back.done) none) in
      let e = back.even in absurd (omega (arith, e, odd, many))

  -- one form is left, which is the namespace
  pub fields_first : (keys : Keys) (older mid : List Form) (x : Fields D) (first : Form) → HasFieldsBack keys n form fs older x
      → length fs % 2 ≡ extra keys → older ≡ mid ++ first ∷ [] → mid ≡ [] → HasFields n form x (pairs_of (entries_of keys fs))
  fields_first keys older mid x first back parity last none =
      let one : fs ≡ first ∷ back.done = back.are ∙ ap (λ r. r ++ back.done) (last ∙ ap (λ r. r ++ first ∷ []) none) in
      first_so keys x first back.done back.even back.has one parity

pub map-reverse : {X Y : Type 0} (f : X → Y) (xs : List X) → map f (reverse xs) ≡ reverse (map f xs)
map-reverse f [] = refl
map-reverse f (x ∷ xs) = ap (map f) (reverse-append (x ∷ []) xs) ∙ map-append f (reverse xs) (x ∷ [])
    ∙ ap (λ r. r ++ f x ∷ []) (map-reverse f xs) ∙ sym (reverse-append (f x ∷ []) (map f xs))

-- elements from the last one back
module _ {D : Type 0} (form : D → Form) where
  pub elements_back : (fs older newer : List Form) (ds : List D) (d : D) → fs ≡ older ++ reverse (map form ds)
      → older ≡ newer ++ form d ∷ [] → fs ≡ newer ++ reverse (map form (ds ++ d ∷ []))
  elements_back fs older newer ds d are last =
      one_back fs older newer (form d) (reverse (map form ds)) are last
      ∙ ap (λ r. newer ++ r) (sym (ap reverse (map-append form ds (d ∷ [])) ∙ reverse-append (map form ds) (form d ∷ [])))

-- numbers from the last one back
pub record HasNumbersBack (fs left : List Form) (place : ℕ) (numbers : List ℕ) : Type 0 where
  pub done : List Form
  pub are : fs ≡ left ++ done
  pub at : place ≡ length left
  pub many : length numbers ≡ length fs
  pub said : (kept : List Kept) → Says (each name done) (λ ns. AllZip (IsNumber kept) ns (drop place numbers))

pub numbers_back : (fs older newer : List Form) (place : ℕ) (numbers : List ℕ) (f : Form) (number : ℕ)
    → HasNumbersBack fs older place numbers → older ≡ newer ++ f ∷ []
    → ((kept : List Kept) → Says (name f) (λ a. IsNumber kept a number))
    → HasNumbersBack fs newer (place - 1) (slice_set numbers (place - 1) number)
numbers_back fs older newer place numbers f number back last known =
    let were : length older ≡ length newer + 1 = ap length last ∙ length-append newer (f ∷ []) in
    let a = back.at in
    let m = back.many in
    let all : length fs ≡ length older + length back.done = ap length back.are ∙ length-append older back.done in
    let within : place - 1 < length numbers = omega (arith, a, m, were, all) in
    let next : place - 1 + 1 ≡ place = omega (arith, a, were) in
    record {
      done = f ∷ back.done;
      are = one_back fs older newer f back.done back.are last;
      at = omega (arith, a, were);
      many = length-set numbers (place - 1) number ∙ m;
      said = λ kept.
          let (one, is, numbered) = known kept in
          let (others, are, rest) = back.said kept in (
            one ∷ others,
            each_ok name f back.done one others is are,
            subst (λ r. AllZip (IsNumber kept) (one ∷ others) r) (sym (drop-set numbers (place - 1) number within
                ∙ ap (λ k. number ∷ drop k numbers) next)) (numbered, rest),
          );
    }

pub numbers_all : (fs left : List Form) (place : ℕ) (numbers : List ℕ) → HasNumbersBack fs left place numbers → left ≡ []
    → (kept : List Kept) → Says (each name fs) (λ ns. AllZip (IsNumber kept) ns numbers)
numbers_all fs left place numbers back none kept =
    let here : place ≡ 0 = back.at ∙ ap length none in
    let (names, are, numbered) = back.said kept in (
      names,
      ap (each name) (back.are ∙ ap (λ r. r ++ back.done) none) ∙ are,
      subst (λ k. AllZip (IsNumber kept) names (drop k numbers)) here numbered,
    )
