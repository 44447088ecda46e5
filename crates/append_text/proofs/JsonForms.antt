-- What the values of JSON say of operations.
use Rattle.std.proofs.Common.{◌≡◌, ◌≢◌, ℕ, Bool, Bor, true, false, nat_eq, List, [], ◌∷◌, length, map, Option, Some, None, option_map, refl, sym, ap, ◌∙◌, Err}
use Rattle.std.specs.Prelude.{ℤ, is_some, IfSome, IfNone, if◌then◌else◌}
use Rattle.std.specs.Option.{option_and_then, option_or}
use Rattle.std.specs.Ordering.{nat_cmp, match_ordering, is_eq}
use Rattle.std.specs.declared.cmp.Ordering.{Ordering}
use Rattle.std.specs.declared.cmp.Ordering.TheVariants.{Less, Equal, Greater}
use Rattle.std.specs.Cmp.Lexicographic.{pointwise, slice_cmp, texts_ties}
use Rattle.std.proofs.lemmas.Cmp.{nat_list_eq_equiv}
use Rattle.std.proofs.lemmas.List.{length-map}
use Rattle.edn.specs.Meaning.Forms.{Form, Pairs, integer}
use Rattle.serde_json.specs.Data.{Data, Members, null, boolean, number, string, array, object, no_members, member}
use Rattle.serde_json.specs.Find.{as_array, as_i64, as_number, as_object, as_str, get, get_member}
use Rattle.serde_json.specs.View.{items_view, view}
use Rattle.serde_json.specs.declared.value.Value.{Value}
use Rattle.append_text.specs.declared.read_fault.Problem.TheVariants as problem
use Rattle.append_text.specs.declared.text_form.TextForm.TheVariants.{Json}
use Rattle.append_text.specs.Meaning.Data.{at_key, elements, entries_in, field, listed, name_in}
use Rattle.append_text.specs.Meaning.Names.{integer as named_integer}
use Rattle.append_text.specs.declared.data.Step.{Step as Triple}
use Rattle.append_text.specs.Meaning.Operations.{step}
use Rattle.append_text.specs.Machinery.Readings.{IsTriple}
use Rattle.append_text.proofs.EdnForms.{other_step}
use Rattle.append_text.specs.Meaning.Json.{form_of, form_of_integer, forms_of, pairs_of}

pub integer_form : (d : Data) (z : ℤ) → option_and_then as_i64 (as_number d) ≡ Some z → form_of d ≡ integer z
integer_form null z is = absurd cc
integer_form (boolean b) z is = absurd cc
integer_form (number n) z is = ap form_of_integer is
integer_form (string bytes) z is = absurd cc
integer_form (array ds) z is = absurd cc
integer_form (object ms) z is = absurd cc

pub listed_items : (vs : List Value) → listed (forms_of (items_view vs)) ≡ map (λ v. form_of (view v)) vs
listed_items [] = refl
listed_items (v ∷ vs) = ap (λ r. form_of (view v) ∷ r) (listed_items vs)

-- the elements of an array
pub array_elements : (d : Data) (vs : List Value) → Some (items_view vs) ≡ as_array d → elements (form_of d) ≡ Some (map (λ v. form_of (view v)) vs)
array_elements null vs is = absurd cc
array_elements (boolean b) vs is = absurd cc
array_elements (number n) vs is = absurd cc
array_elements (string bytes) vs is = absurd cc
array_elements (array ds) vs is = let e : items_view vs ≡ ds = cc in ap (λ r. Some (listed (forms_of r))) (sym e) ∙ ap (λ r. Some r) (listed_items vs)
array_elements (object ms) vs is = absurd cc

pub no_elements : (d : Data) → as_array d ≡ None → elements (form_of d) ≡ None
no_elements null none = refl
no_elements (boolean b) none = refl
no_elements (number n) none = by (as_i64 n)
  where
    by : (o : Option ℤ) → elements (form_of_integer o) ≡ None
    by None = refl
    by (Some z) = refl
no_elements (string bytes) none = refl
no_elements (array ds) none = absurd cc
no_elements (object ms) none = refl

pub array_values : (d : Data) (vs : List Value) (rs : List (Bor Value)) → Some (items_view vs) ≡ as_array d → map (λ r. r.now) rs ≡ vs
    → Some (map (λ v. form_of (view v.now)) rs) ≡ elements (form_of d)
array_values d vs rs is are = ap (λ r. Some r) (each rs ∙ ap (map (λ v. form_of (view v))) are) ∙ sym (array_elements d vs is)
  where
    each : (rs : List (Bor Value)) → map (λ v. form_of (view v.now)) rs ≡ map (λ v. form_of (view v)) (map (λ r. r.now) rs)
    each [] = refl
    each (r ∷ rs) = ap (λ o. form_of (view r.now) ∷ o) (each rs)

abbrev form_at : Bor Value → Form
form_at v = form_of (view v.now)

pub three_values : (o : Option (Triple (Bor Value))) (d : Data) (vs : List Value) → Some (items_view vs) ≡ as_array d
    → IfSome o (λ s. vs ≡ s.f.now ∷ s.key.now ∷ s.value.now ∷ []) → IfSome o (λ s. IsTriple form_at s (form_of d))
three_values None d vs is three = tt
three_values (Some s) d vs is three = array_elements d vs is ∙ ap (λ r. Some (map (λ v. form_of (view v)) r)) three

pub other_values : (o : Option (Triple (Bor Value))) (d : Data) (vs : List Value) → Some (items_view vs) ≡ as_array d
    → IfNone o (length vs ≢ 3) → IfNone o (step Json (form_of d) ≡ Err problem.Step)
other_values None d vs is other = other_step Json (form_of d) (map (λ v. form_of (view v)) vs) (array_elements d vs is)
    (λ f key value three. other (sym (length-map vs (λ v. form_of (view v))) ∙ ap length three))
other_values (Some s) d vs is other = tt

-- ---- fields

same_key : {A : Type 0} (o : Ordering) (b : Bool) (found other : A) → b ≡ is_eq o → match_ordering o other found other ≡ (if b then found else other)
same_key Less b found other is = rw is refl
same_key Equal b found other is = rw is refl
same_key Greater b found other is = rw is refl

pub member_field : (k : List ℕ) (ms : Members) → option_map form_of (get_member k ms) ≡ at_key Json k (pairs_of ms)
member_field k no_members = refl
member_field k (member l e ms) =
    ap (option_map form_of) (same_key (slice_cmp nat_cmp k l) (pointwise nat_eq l k) (Some e) (get_member k ms)
    ((nat_list_eq_equiv).symm l k ∙ texts_ties k l)) ∙ by (pointwise nat_eq l k) (member_field k ms)
  where
    by : (b : Bool) → option_map form_of (get_member k ms) ≡ at_key Json k (pairs_of ms)
        → option_map form_of (if b then Some e else get_member k ms) ≡ (if b then Some (form_of e) else at_key Json k (pairs_of ms))
    by true rest = refl
    by false rest = rest

-- the fields of an object
pub object_fields : (d : Data) → is_some (as_object d) ≡ true → (ps : Pairs) × (entries_in (form_of d) ≡ Some ps)
    × ((k : List ℕ) → option_map form_of (get k d) ≡ at_key Json k ps)
object_fields null some = absurd cc
object_fields (boolean b) some = absurd cc
object_fields (number n) some = absurd cc
object_fields (string bytes) some = absurd cc
object_fields (array ds) some = absurd cc
object_fields (object ms) some = (pairs_of ms, refl, λ k. member_field k ms)

pub no_object : (d : Data) → is_some (as_object d) ≡ false → entries_in (form_of d) ≡ None
no_object null none = refl
no_object (boolean b) none = refl
no_object (number n) none = by (as_i64 n)
  where
    by : (o : Option ℤ) → entries_in (form_of_integer o) ≡ None
    by None = refl
    by (Some z) = refl
no_object (string bytes) none = refl
no_object (array ds) none = refl
no_object (object ms) none = absurd cc

either_form : (o other : Option Data) → option_map form_of (option_or o other) ≡ option_or (option_map form_of o) (option_map form_of other)
either_form None other = refl
either_form (Some d) other = refl

pub got_field : (o : Option (Bor Value)) (k : List ℕ) (d : Data) (ps : Pairs)
    → option_map (λ v. view v.now) o ≡ option_or (get k d) (get (58 ∷ k) d)
    → ((k : List ℕ) → option_map form_of (get k d) ≡ at_key Json k ps) → option_map (λ v. form_of (view v.now)) o ≡ field Json k ps
got_field o k d ps got fields = each o ∙ ap (option_map form_of) got ∙ either_form (get k d) (get (58 ∷ k) d)
    ∙ ap (λ f. option_or f (option_map form_of (get (58 ∷ k) d))) (fields k)
    ∙ ap (λ f. option_or (at_key Json k ps) f) (fields (58 ∷ k))
  where
    each : (o : Option (Bor Value)) → option_map (λ v. form_of (view v.now)) o ≡ option_map form_of (option_map (λ v. view v.now) o)
    each None = refl
    each (Some v) = refl

-- ---- names

pub integer_name : (d : Data) (o : Option ℤ) → as_str d ≡ None → o ≡ option_and_then as_i64 (as_number d)
    → option_map (λ z. named_integer z) o ≡ name_in (form_of d)
integer_name null o none is = ap (option_map (λ z. named_integer z)) is
integer_name (boolean b) o none is = ap (option_map (λ z. named_integer z)) is
integer_name (number n) o none is = ap (option_map (λ z. named_integer z)) is ∙ by (as_i64 n)
  where
    by : (o : Option ℤ) → option_map (λ z. named_integer z) o ≡ name_in (form_of_integer o)
    by None = refl
    by (Some z) = refl
integer_name (string bytes) o none is = absurd cc
integer_name (array ds) o none is = ap (option_map (λ z. named_integer z)) is
integer_name (object ms) o none is = ap (option_map (λ z. named_integer z)) is
