-- What is read of forms one after another.
use Rattle.std.proofs.Common.{◌≡◌, ℕ, ℤ, ◌+◌, ◌<◌, List, [], ◌∷◌, ◌++◌, map, take, drop, length, get_or, Option, Some, option_map, refl, sym, ap, ◌∙◌, add-one, drop-cons, Result, Ok, Err}
use Rattle.std.specs.Prelude.{codes}
use Rattle.std.specs.Global.{Vec}
use Rattle.std.specs.List.{AllZip}
use Rattle.std.specs.Option.{ok_or}
use Rattle.std.proofs.lemmas.List.{map-append, take_more, take-append-drop}
use Rattle.append_values.specs.declared.transaction.Operation.{Operation as OperationValue}
use Rattle.append_values.specs.declared.transaction.Operation.TheVariants as In
use Rattle.append_values.specs.Meaning.Histories.{Operation, Append, Read, LostRead, operation_of}
use Rattle.edn.specs.Meaning.Forms.{Form, Pairs}
use Rattle.append_text.specs.declared.name.Kept.{Kept}
use Rattle.append_text.specs.declared.read_fault.Problem.{Problem}
use Rattle.append_text.specs.declared.read_fault.Refusal.{Refusal}
use Rattle.append_text.specs.declared.read_fault.Refusal.TheVariants as refusal
use Rattle.append_text.specs.declared.data.Fields.{Fields}
use Rattle.append_text.specs.declared.operation.Kind.{Kind}
use Rattle.append_text.specs.declared.operation.Op.{Op as OpValue}
use Rattle.append_text.specs.declared.read_fault.Problem.TheVariants as problem
use Rattle.append_text.specs.declared.text_form.TextForm.{TextForm}
use Rattle.append_text.specs.Meaning.Data.{field}
use Rattle.append_text.specs.Meaning.Numbers.{IsNumber, IsStep, Keeps}
use Rattle.append_text.specs.Meaning.Operations.{Said, Step, append, read, and_then, each, name, names, append_of, read_of, steps, kind_in, process_in, index_in, of_process, said}
use Rattle.append_text.specs.Machinery.Readings.{AreFields, AreNumbers, AreSteps, IsOpIfAny, IsRefusal, IsRead, IsStepValue}

pub zip_push : {X V : Type 0} (R : X → V → Type 0) (xs : List X) (vs : List V) (x : X) (v : V) → AllZip R xs vs → R x v
    → AllZip R (xs ++ x ∷ []) (vs ++ v ∷ [])
zip_push R [] [] x v all one = (one, tt)
zip_push R [] (w ∷ vs) x v all one = absurd all
zip_push R (y ∷ xs) [] x v all one = absurd all
zip_push R (y ∷ xs) (w ∷ vs) x v all one = (all.0, zip_push R xs vs x v all.1 one)

pub zip_weaker : {X V : Type 0} (R S : X → V → Type 0) → ((x : X) (v : V) → R x v → S x v) → (xs : List X) (vs : List V)
    → AllZip R xs vs → AllZip S xs vs
zip_weaker R S weaker [] [] all = tt
zip_weaker R S weaker [] (w ∷ vs) all = absurd all
zip_weaker R S weaker (y ∷ xs) [] all = absurd all
zip_weaker R S weaker (y ∷ xs) (w ∷ vs) all = (weaker y w all.0, zip_weaker R S weaker xs vs all.1)

pub zip_map : {X V W : Type 0} (R : X → W → Type 0) (f : V → W) (xs : List X) (vs : List V)
    → AllZip (λ x v. R x (f v)) xs vs → AllZip R xs (map f vs)
zip_map R f [] [] all = tt
zip_map R f [] (w ∷ vs) all = absurd all
zip_map R f (y ∷ xs) [] all = absurd all
zip_map R f (y ∷ xs) (w ∷ vs) all = (all.0, zip_map R f xs vs all.1)

-- ---- problems

pub same_problem : {X Y : Type 0} (e : Refusal) (r : Result X Problem) (s : Result Y Problem)
    → ((p : Problem) → r ≡ Err p → s ≡ Err p) → IsRefusal e r → IsRefusal e s
same_problem (refusal.Problem p) r s same is = same p is
same_problem refusal.Memory r s same is = tt

-- a problem of what comes first
pub first_refused : {X Y : Type 0} (f : X → Result Y Problem) (e : Refusal) (r : Result X Problem) → IsRefusal e r
    → IsRefusal e (and_then f r)
first_refused f e r = same_problem e r (and_then f r) (λ p is. ap (and_then f) is)

-- a problem of what comes then
pub then_refused : {X Y : Type 0} (f : X → Result Y Problem) (e : Refusal) (r : Result X Problem) (x : X) → r ≡ Ok x
    → IsRefusal e (f x) → IsRefusal e (and_then f r)
then_refused f e r x is = same_problem e (f x) (and_then f r) (λ p problem. ap (and_then f) is ∙ problem)

-- ---- lists

no_problem : {T : Type 0} (p : Problem) (x : T) → Err p ≡ Ok x → ⊥
no_problem p x same = cc

abbrev ok : {T : Type 0} → T → Result T Problem
ok x = Ok x

same_ok : {T : Type 0} (x y : T) → ok x ≡ ok y → x ≡ y
same_ok x y same = cc

-- what `each` says of a longer list
pub each_ok : {T X : Type 0} (f : T → Result X Problem) (t : T) (ts : List T) (x : X) (xs : List X) → f t ≡ Ok x → each f ts ≡ Ok xs
    → each f (t ∷ ts) ≡ Ok (x ∷ xs)
each_ok f t ts x xs one all = ap (and_then (λ y. and_then (λ ys. Ok (y ∷ ys)) (each f ts))) one ∙ ap (and_then (λ ys. Ok (x ∷ ys))) all

-- of a list whose parts are read, the first and the others are
record Parts {T X : Type 0} (f : T → Result X Problem) (t : T) (ts : List T) (xs : List X) : Type 0 where
  first : X
  others : List X
  one : f t ≡ Ok first
  all : each f ts ≡ Ok others
  are : first ∷ others ≡ xs

parts : {T X : Type 0} (f : T → Result X Problem) (t : T) (ts : List T) (xs : List X) → each f (t ∷ ts) ≡ Ok xs → Parts f t ts xs
parts {T} {X} f t ts xs both = by (f t) refl (each f ts) refl
  where
    by : (r : Result X Problem) → f t ≡ r → (q : Result (List X) Problem) → each f ts ≡ q → Parts f t ts xs
    by (Err p) first q rest =
        absurd (no_problem p xs (sym (ap (and_then (λ y. and_then (λ ys. Ok (y ∷ ys)) (each f ts))) first) ∙ both))
    by (Ok y) first (Err p) rest = absurd (no_problem p xs (sym (ap (and_then (λ z. and_then (λ ys. Ok (z ∷ ys)) (each f ts))) first
        ∙ ap (and_then (λ ys. Ok (y ∷ ys))) rest) ∙ both))
    by (Ok y) first (Ok ys) rest = record {
      first = y;
      others = ys;
      one = first;
      all = rest;
      are = same_ok (y ∷ ys) xs (sym (each_ok f t ts y ys first rest) ∙ both);
    }

module _ {T X : Type 0} (f : T → Result X Problem) where
  each_push : (ts : List T) (t : T) (xs : List X) (x : X) → each f ts ≡ Ok xs → f t ≡ Ok x → each f (ts ++ t ∷ []) ≡ Ok (xs ++ x ∷ [])
  each_push [] t xs x all one = each_ok f t [] x [] one refl ∙ ap (λ ys. Ok (ys ++ x ∷ [])) (same_ok [] xs all)
  each_push (s ∷ ts) t xs x all one =
      let p = parts f s ts xs all in
      each_ok f s (ts ++ t ∷ []) p.first (p.others ++ x ∷ []) p.one (each_push ts t p.others x p.all one)
      ∙ ap (λ ys. Ok (ys ++ x ∷ [])) p.are

  -- the first problem is that of the whole list
  each_refused : (ts more : List T) (t : T) (xs : List X) (p : Problem) → each f ts ≡ Ok xs → f t ≡ Err p
      → each f (ts ++ t ∷ more) ≡ Err p
  each_refused [] more t xs p all one = ap (and_then (λ y. and_then (λ ys. Ok (y ∷ ys)) (each f more))) one
  each_refused (s ∷ ts) more t xs p all one =
      let q = parts f s ts xs all in
      ap (and_then (λ y. and_then (λ ys. Ok (y ∷ ys)) (each f (ts ++ t ∷ more)))) q.one
      ∙ ap (and_then (λ ys. Ok (q.first ∷ ys))) (each_refused ts more t q.others p q.all one)

-- ---- loops

split_at : {D : Type 0} (ds : List D) (i : ℕ) (d : D) → i < length ds → d ≡ get_or ds i d → ds ≡ take i ds ++ d ∷ drop (i + 1) ds
split_at ds i d within is =
    sym (take-append-drop i ds) ∙ ap (λ r. take i ds ++ r) (drop-cons ds i d within ∙ ap (λ r. get_or ds i d ∷ drop r ds) (sym (add-one i))
    ∙ ap (λ x. x ∷ drop (i + 1) ds) (sym is))

module _ {D T X V : Type 0} (form : D → T) (f : T → Result X Problem) (R : List Kept → X → V → Type 0) where
  -- one more was read
  pub read_more : (keeps : (old new : List Kept) → Keeps old new → (x : X) (v : V) → R old x v → R new x v)
      → (k l m : List Kept) (ds : List D) (i : ℕ) (d : D) (vs : List V) (v : V) → i < length ds → d ≡ get_or ds i d
      → IsRead k l (each f (map form (take i ds))) (λ kept. AllZip (R kept)) vs → IsRead l m (f (form d)) R v
      → IsRead k m (each f (map form (take (i + 1) ds))) (λ kept. AllZip (R kept)) (vs ++ v ∷ [])
  read_more keeps k l m ds i d vs v within is ((xs, all, were), older) ((x, one, reads), newer) =
      let longer : map form (take (i + 1) ds) ≡ map form (take i ds) ++ form d ∷ [] =
      ap (map form) (take_more ds i d within ∙ ap (λ y. take i ds ++ y ∷ []) (sym is)) ∙ map-append form (take i ds) (d ∷ []) in (
        (
          xs ++ x ∷ [],
          ap (each f) longer ∙ each_push f (map form (take i ds)) (form d) xs x all one,
          zip_push (R m) xs vs x v (zip_weaker (R l) (R m) (keeps l m newer) xs vs were) reads,
        ),
        λ name n known. newer name n (older name n known),
      )

  -- one can't be read
  pub read_refused : (k l : List Kept) (ds : List D) (i : ℕ) (d : D) (vs : List V) (e : Refusal) → i < length ds → d ≡ get_or ds i d
      → IsRead k l (each f (map form (take i ds))) (λ kept. AllZip (R kept)) vs → IsRefusal e (f (form d))
      → IsRefusal e (each f (map form ds))
  read_refused k l ds i d vs e within is ((xs, all, were), older) refused =
      let split : map form ds ≡ map form (take i ds) ++ form d ∷ map form (drop (i + 1) ds) =
      ap (map form) (split_at ds i d within is) ∙ map-append form (take i ds) (d ∷ drop (i + 1) ds) in
      same_problem e (f (form d)) (each f (map form ds)) (λ p problem. ap (each f) split
      ∙ each_refused f (map form (take i ds)) (map form (drop (i + 1) ds)) (form d) xs p all problem) refused

-- ---- numbers stay

pub step_keeps : (k l : List Kept) → Keeps k l → (s : Step) (o : Operation) → IsStep k s o → IsStep l s o
step_keeps k l keeps (append a b) (Append x y) is = (keeps a x is.0, keeps b y is.1)
step_keeps k l keeps (append a b) (Read x ys) is = absurd is
step_keeps k l keeps (append a b) (LostRead x) is = absurd is
step_keeps k l keeps (read a bs) (Append x y) is = absurd is
step_keeps k l keeps (read a bs) (Read x ys) is = (keeps a x is.0, zip_weaker (IsNumber k) (IsNumber l) keeps bs ys is.1)
step_keeps k l keeps (read a bs) (LostRead x) is = absurd is

pub value_keeps : (k l : List Kept) → Keeps k l → (s : Step) (o : OperationValue) → IsStepValue k s o → IsStepValue l s o
value_keeps k l keeps s o is = step_keeps k l keeps s (operation_of o) is

-- ---- steps and operations

pub read_append : (k l m : List Kept) (key value : Form) (x y : ℕ) → IsRead k l (name key) IsNumber x
    → IsRead l m (name value) IsNumber y → IsRead k m (append_of key value) IsStepValue (In.Append x y)
read_append k l m key value x y ((a, is_a, number_a), older) ((b, is_b, number_b), newer) = (
  (
    append a b,
    ap (and_then (λ n. and_then (λ e. Ok (append n e)) (name value))) is_a ∙ ap (and_then (λ e. Ok (append a e))) is_b,
    (newer a x number_a, number_b),
  ),
  λ n i known. newer n i (older n i known),
)

pub read_read : (k l m : List Kept) (key value : Form) (x : ℕ) (ys : Vec ℕ) → IsRead k l (name key) IsNumber x
    → IsRead l m (names value) AreNumbers ys → IsRead k m (read_of key value) IsStepValue (In.Read x ys)
read_read k l m key value x ys ((a, is_a, number_a), older) ((bs, are, numbers), newer) = (
  (
    read a bs,
    ap (and_then (λ n. and_then (λ es. Ok (read n es)) (names value))) is_a ∙ ap (and_then (λ es. Ok (read a es))) are,
    (newer a x number_a, numbers),
  ),
  λ n i known. newer n i (older n i known),
)

-- of an operation of this kind the steps, and then all
abbrev said_with : TextForm → ℕ → Pairs → ℤ → Kind → List Step → Result (Option Said) Problem
said_with n place ps process k ss = Ok (Some (record {
  kind = k;
  label = record { index = index_in place (field n (codes "index") ps); process = process };
  steps = ss;
}))

abbrev said_by : TextForm → ℕ → Pairs → ℤ → Kind → Result (Option Said) Problem
said_by n place ps process k = and_then (said_with n place ps process k) (steps n k (field n (codes "value") ps))

module _ {D : Type 0} (n : TextForm) (place : ℕ) (form : D → Form) (x : Fields D) (f : Form) where
  pub read_operation : (k l : List Kept) (o : OpValue) (process : ℤ) → AreFields n form x f
      → Some process ≡ process_in n (option_map form x.f) (option_map form x.process)
      → Some o.kind ≡ kind_in n (option_map form x.kind) → o.label.index ≡ index_in place (option_map form x.index)
      → o.label.process ≡ process → IsRead k l (steps n o.kind (option_map form x.value)) AreSteps o.steps
      → IsRead k l (said n place f) IsOpIfAny (Some o)
  read_operation k l o process (ps, is, h) process_is kind_is index_is same ((ss, are, reads), keeps) =
      let index : o.label.index ≡ index_in place (field n (codes "index") ps) = index_is ∙ ap (index_in place) h.index in (
        (
          Some (record { kind = o.kind; label = record { index = index_in place (field n (codes "index") ps); process = process }; steps = ss }),
          ap (λ r. and_then (λ qs. of_process n place qs (process_in n (field n (codes "f") qs) (field n (codes "process") qs))) (ok_or r problem.Map)) is
              ∙ ap (of_process n place ps) (ap (λ r. process_in n r (field n (codes "process") ps)) (sym h.f)
              ∙ ap (process_in n (option_map form x.f)) (sym h.process) ∙ sym process_is)
              ∙ ap (λ r. and_then (said_by n place ps process) (ok_or (kind_in n r) problem.Type)) (sym h.kind)
              ∙ ap (λ r. and_then (said_by n place ps process) (ok_or r problem.Type)) (sym kind_is)
              ∙ ap (λ r. and_then (said_with n place ps process o.kind) (steps n o.kind r)) (sym h.value)
              ∙ ap (and_then (said_with n place ps process o.kind)) are,
          record {
            kind = refl;
            label = λ i. record { index = index i; process = same i };
            steps = zip_map (IsStep l) operation_of ss o.steps.items reads;
          },
        ),
        keeps,
      )
