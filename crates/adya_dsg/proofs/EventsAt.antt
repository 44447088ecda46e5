-- What is told of the event at an index.
use Rattle.std.proofs.Common.{◌≡◌, ℕ, zero, suc, ◌<◌, ◌≤◌, List, [], ◌∷◌, length, get_or, slice_get, Option, Some, None, is_some, option_map, option_and_then, refl, sym, ◌∙◌, ap, arith, Bool, true, ◌||◌, false}
use Rattle.std.proofs.lemmas.Bool.{false≢true}
use Rattle.std.specs.List.{list_any}
use Rattle.std.proofs.lemmas.Option.{none-some, same_Some, slice_get-get_or}
use Rattle.adya_values.specs.declared.event.Version.{Version}
use Rattle.adya_values.specs.Meaning.Events.{observed, txn_of}
use Rattle.adya_values.specs.Meaning.Histories.{Entry, Event, Write, Delete, Read, Scan, Commit, Abort}
use Rattle.adya_keys.specs.Meaning.Keys.{Key}
use Rattle.adya_values.specs.Meaning.Selections.{is_scan}
use Rattle.adya_values.specs.Mirror.Numbers.{bounds}

pub found_at : (es : List Event) (i : ℕ) → i < length es → slice_get es i ≡ Some (get_or es i (Abort 0))
found_at es i l = slice_get-get_or es i (Abort 0) l

pub told : {Y : Type 0} (f : Event → Y) (es : List Event) (i : ℕ) → i < length es → (y : Y)
    → option_map f (slice_get es i) ≡ Some y → y ≡ f (get_or es i (Abort 0))
told f es i l y e =
    same_Some y (f (get_or es i (Abort 0))) (sym e ∙ ap (option_map f) (found_at es i l))

-- past the end there is nothing to tell
pub told_if : {Y : Type 0} (f : Event → Option Y) → f (Abort 0) ≡ None → (es : List Event) (i : ℕ)
    → option_and_then f (slice_get es i) ≡ f (get_or es i (Abort 0))
told_if f none [] i = sym none
told_if f none (e ∷ es) zero = refl
told_if f none (e ∷ es) (suc i) = told_if f none es i

some_mapped : {X Y : Type 0} (f : X → Y) (o : Option X) → is_some o ≡ is_some (option_map f o)
some_mapped f None = refl
some_mapped f (Some x) = refl

scan_has_bounds : (e : Event) → is_some (bounds e) ≡ is_scan e
scan_has_bounds (Write t k m v) = refl
scan_has_bounds (Delete t k m) = refl
scan_has_bounds (Read t r v) = refl
scan_has_bounds (Scan t low high es) = refl
scan_has_bounds (Commit t) = refl
scan_has_bounds (Abort t) = refl

-- bounds are told of scans alone
pub scan_told : {X : Type 0} (f : X → Key × Key) (o : Option X) (e : Event) → option_map f o ≡ bounds e → is_some o ≡ is_scan e
scan_told f o e told = some_mapped f o ∙ (ap is_some told ∙ scan_has_bounds e)

-- an event with bounds is the scan that lists what it sees
pub scan_is : (e : Event) (low high : Key) → bounds e ≡ Some (low, high) → e ≡ Scan (txn_of e) low high (observed e)
scan_is (Write t k m v) low high b = absurd (none-some (low, high) b)
scan_is (Delete t k m) low high b = absurd (none-some (low, high) b)
scan_is (Read t r v) low high b = absurd (none-some (low, high) b)
scan_is (Scan t x y es) low high b =
    ap (λ (p : Key × Key). Scan t p.0 p.1 es) (same_Some (x, y) (low, high) b)
scan_is (Commit t) low high b = absurd (none-some (low, high) b)
scan_is (Abort t) low high b = absurd (none-some (low, high) b)

abbrev first_version : Version → List Entry → Version
first_version r [] = r
first_version r (w ∷ ws) = w.version

-- an event that sees one entry and is no scan reads its version
pub read_is : (e : Event) (w : Entry) → bounds e ≡ None → observed e ≡ w ∷ []
    → (v : List ℕ) × (e ≡ Read (txn_of e) w.version v)
read_is (Write t k m v) w b o = absurd (cc (o))
read_is (Delete t k m) w b o = absurd (cc (o))
read_is (Read t r v) w b o = (v, ap (λ x. Read t x v) (ap (first_version r) o))
read_is (Scan t x y es) w b o = absurd (none-some (x, y) (sym b))
read_is (Commit t) w b o = absurd (cc (o))
read_is (Abort t) w b o = absurd (cc (o))

-- a list of one element
pub alone : {X : Type 0} (xs : List X) (x : X) → 1 ≤ length xs → length xs < 2 → x ≡ get_or xs 0 x → xs ≡ x ∷ []
alone [] x l m e = absurd (omega (arith, l))
alone (y ∷ []) x l m e = ap (λ z. z ∷ []) (sym e)
alone (y ∷ z ∷ xs) x l m e = absurd (omega (arith, m))

or_true : (b : Bool) → (b || true) ≡ true
or_true true = refl
or_true false = refl

-- an event that is a scan
pub any_scan : (es : List Event) (i : ℕ) → is_scan (get_or es i (Abort 0)) ≡ true → list_any is_scan es ≡ true
any_scan [] i e = absurd (false≢true e)
any_scan (x ∷ es) zero e = ap (λ b. b || list_any is_scan es) e
any_scan (x ∷ es) (suc i) e = ap (λ b. is_scan x || b) (any_scan es i e) ∙ or_true (is_scan x)
